-- The stacks of a kernel as lists of entries, and what holds of its arrays in a pass.
use Rattle.std.specs.Prelude.{◌≡◌, refl, ℕ, zero, suc, ◌≤◌, ◌<◌, List, [], ◌∷◌, get_or, length}
use Rattle.vector.specs.Fold.{Pair}
use Rattle.vector.specs.Message.{Message}
use Rattle.vector.specs.Stack.{Stack, entries, ones_from}
use Rattle.kernel.specs.declared.Evals.{Evals}
use Rattle.kernel.specs.declared.Kernel.{Kernel}

-- the first entries of an array of levels and one of values: the last of them on top
unfoldable pub stack_view : List ℕ → List ℕ → ℕ → Stack ℕ
stack_view levels values zero = []
stack_view levels values (suc n) = (get_or levels n 0, get_or values n 0) ∷ stack_view levels values n

top_first : stack_view (3 ∷ 1 ∷ 0 ∷ []) (7 ∷ 8 ∷ 0 ∷ []) 2 ≡ (1, 8) ∷ (3, 7) ∷ []
unfolding stack_view
top_first = refl

abbrev pub stack_f : Kernel → Stack ℕ
stack_f k = stack_view k.flevels k.fvalues k.fcount

abbrev pub stack_g : Kernel → Stack ℕ
stack_g k = stack_view k.glevels k.gvalues k.gcount

-- two stacks of the same levels, side by side
unfoldable pub pairs_view : List ℕ → List ℕ → List ℕ → ℕ → Stack Pair
pairs_view levels fvalues gvalues zero = []
pairs_view levels fvalues gvalues (suc n) = (get_or levels n 0, (get_or fvalues n 0, get_or gvalues n 0)) ∷ pairs_view levels fvalues gvalues n

abbrev pub stack_pairs : Kernel → Stack Pair
stack_pairs k = pairs_view k.flevels k.fvalues k.gvalues k.fcount

abbrev pub sums_of : Kernel → Message
sums_of k = record { even = k.even; cross = k.cross; odd = k.odd }

-- The stacks of a pass keep the levels below a height: those up to level i in a pass that folds to it, those below in a change pass.
abbrev pub entries_below : {A : Type 0} → (ℕ → A → A → A) → (ℕ → ℕ) → ℕ → (ℕ → A) → ℕ → ℕ → Stack A
entries_below combine c n v t zero = []
entries_below combine c n v t (suc i) = entries combine c n v t i

-- the places of the ones of t below a height
abbrev pub ones_below : ℕ → ℕ → List ℕ
ones_below t zero = []
ones_below t (suc i) = ones_from t 0 i

-- sixteen places each
pub record Sixteen (e : Evals) : Type 0 where
  pub fpoint : length e.fpoint ≡ 16
  pub fminus : length e.fminus ≡ 16
  pub fsquare : length e.fsquare ≡ 16
  pub gpoint : length e.gpoint ≡ 16
  pub gminus : length e.gminus ≡ 16
  pub gsquare : length e.gsquare ≡ 16

-- the stacks of f and g have the same levels
pub record Paired (k : Kernel) : Type 0 where
  pub counts : k.gcount ≡ k.fcount
  pub room : k.fcount ≤ 16
  pub same : (j : ℕ) → j < k.fcount → get_or k.glevels j 0 ≡ get_or k.flevels j 0
  pub flevels : length k.flevels ≡ 16
  pub fvalues : length k.fvalues ≡ 16
  pub glevels : length k.glevels ≡ 16
  pub gvalues : length k.gvalues ≡ 16
  pub evals : Sixteen k.evals
