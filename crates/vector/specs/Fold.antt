-- Folds: document 01, "Vectors and folds" (Gemini, section 5, Figure 3).
use Rattle.std.specs.Prelude.{ℕ, zero, suc, ◌+◌, ◌*◌}
use Rattle.algebra.specs.Mod.{add_mod, mul_mod}
use Rattle.vector.specs.Vector.{Vector}

-- A fold with any way to combine two neighbours; one law then serves f, g and both side by side.
module _ {A : Type 0} (combine : ℕ → A → A → A) where
  abbrev pub fold_once_with : ℕ → (ℕ → A) → (ℕ → A)
  fold_once_with c v i = combine c (v (2 * i)) (v (2 * i + 1))

  -- "fold 0 is the vector; item i of fold j is item 2i of fold j-1 plus c_{j-1} times item 2i+1"
  unfoldable pub fold_with : (ℕ → ℕ) → ℕ → (ℕ → A) → (ℕ → A)
  fold_with c zero v = v
  fold_with c (suc j) v = fold_once_with (c j) (fold_with c j v)

abbrev pub combine : ℕ → ℕ → ℕ → ℕ → ℕ
combine p c even odd = add_mod p even (mul_mod p c odd)

abbrev pub fold : ℕ → (ℕ → ℕ) → ℕ → Vector → Vector
fold p c j v = fold_with (combine p) c j v

-- an item of f beside the item of g of the same number
abbrev pub Pair : Type 0
Pair = ℕ × ℕ

abbrev pub combine_pair : ℕ → ℕ → Pair → Pair → Pair
combine_pair p c even odd = (combine p c even.0 odd.0, combine p c even.1 odd.1)

abbrev pub beside : Vector → Vector → (ℕ → Pair)
beside f g i = (f i, g i)

-- "Fold n is one number, the end value"
abbrev pub end_value : ℕ → (ℕ → ℕ) → ℕ → Vector → ℕ
end_value p c n v = fold p c n v 0
