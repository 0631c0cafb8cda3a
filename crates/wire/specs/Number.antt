-- "Files (little-endian)": numbers as bytes, and two's complement.
use Rattle.std.specs.Prelude.{ℕ, zero, suc, ◌+◌, ◌-◌, ◌*◌, ◌/◌, ◌%◌, ◌^◌, List, [], ◌∷◌, cond, length, take, drop, ltb, ℤ, pos, negsuc}

-- the number that bytes are, the lowest first
unfoldable pub num : List ℕ → ℕ
num [] = 0
num (b ∷ bs) = b + 256 * num bs

-- the number in the k bytes from a place on
unfoldable pub num_at : ℕ → List ℕ → ℕ → ℕ
num_at k file at = num (take k (drop at file))

-- the number in four bytes, zero where they are not there
abbrev pub word_at : List ℕ → ℕ → ℕ
word_at file at = cond (ltb (length file) (at + 4)) 0 (num_at 4 file at)

-- the k bytes of a number, the lowest first
unfoldable pub bytes : ℕ → ℕ → List ℕ
bytes zero v = []
bytes (suc k) v = v % 256 ∷ bytes k (v / 256)

-- "two's complement" in k bytes: a number of the upper half is itself less 256 ^ k; negsuc m is -(m + 1)
unfoldable pub signed : ℕ → ℕ → ℤ
signed k v = cond (ltb v (256 ^ k / 2)) (pos v) (negsuc (256 ^ k - 1 - v))

-- and back
unfoldable pub bits : ℕ → ℤ → ℕ
bits k (pos m) = m
bits k (negsuc m) = 256 ^ k - 1 - m
