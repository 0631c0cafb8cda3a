-- Vectors as functions of the index, finite sums, padding and twists.
use Rattle.std.specs.Prelude.{ℕ, zero, suc, ◌+◌, ◌*◌, ◌/◌, ◌%◌, ◌^◌, cond, List, eqb, ltb, get_or, length}
use Rattle.algebra.specs.Mod.{residue, mul_mod}

-- item i of a vector is `v i`
abbrev pub Vector : Type 0
Vector = ℕ → ℕ

-- the vector of a list: the items of a slice, the challenges or the twists of a run
abbrev pub at : List ℕ → Vector
at xs i = get_or xs i 0

-- the exact sum of the first n items
unfoldable pub sum : ℕ → Vector → ℕ
sum zero v = 0
sum (suc n) v = sum n v + v n

-- the scalar product of the first n items
abbrev pub dot : ℕ → ℕ → Vector → Vector → ℕ
dot p n f g = residue p (sum n (λ i. f i * g i))

-- "items L to N-1 are zero"
abbrev pub padded : ℕ → Vector → Vector
padded items v i = cond (ltb i items) (v i) 0

-- "Bit k of index i is b_k, lowest k = 0"
abbrev pub bit : ℕ → ℕ → ℕ
bit k i = i / 2 ^ k % 2

-- "the product of those v_k with b_k = 1", for k from 0 to n - 1
unfoldable pub weight : ℕ → Vector → ℕ → ℕ → ℕ
weight p v zero i = residue p 1
weight p v (suc n) i = mul_mod p (weight p v n i) (cond (eqb (bit n i) 1) (v n) 1)

-- "Item i of f is first multiplied by" that product (Gemini, Definition 6.1 with a tensor y)
abbrev pub twisted : ℕ → List ℕ → Vector → Vector
twisted p twists f i = mul_mod p (f i) (weight p (at twists) (length twists) i)
