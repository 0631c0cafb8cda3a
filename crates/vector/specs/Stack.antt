-- The stack of a small pass, in document 01's words.
use Rattle.std.specs.Prelude.{ℕ, zero, suc, ◌+◌, ◌-◌, ◌/◌, ◌%◌, ◌^◌, cond, List, [], ◌∷◌, eqb}
use Rattle.vector.specs.Rounds.{size}
use Rattle.vector.specs.Vector.{bit}
use Rattle.vector.specs.Fold.{fold_with}

-- "(level, value) entries": the top first
abbrev pub Stack : Type 0 → Type 0
Stack A = List (ℕ × A)

-- "a stream runs from last item to first"
abbrev pub backwards : {A : Type 0} → ℕ → (ℕ → A) → (ℕ → A)
backwards n v t = v (n - 1 - t)

module _ {A : Type 0} (combine : ℕ → A → A → A) (c : ℕ → ℕ) (n : ℕ) (v : ℕ → A) (t : ℕ) where
  -- "for each binary one in t .. at place k .., one level-k entry, which is item N/2^k - q of fold k, q being t/2^k rounded down"
  abbrev pub entry_on : ℕ → Stack A → Stack A
  entry_on k rest = cond (eqb (bit k t) 1) ((k, fold_with combine c k v (size n k - t / 2 ^ k)) ∷ rest) rest

  -- places k to k + m, the lowest on top; t modulo 2^(i+1) has the places 0 to i
  unfoldable pub entries_from : ℕ → ℕ → Stack A
  entries_from k zero = entry_on k []
  entries_from k (suc m) = entry_on k (entries_from (suc k) m)

  -- the stack for a pass that folds to level i, after t items
  abbrev pub entries : ℕ → Stack A
  entries i = entries_from 0 i

-- how many ones are among the lowest w places of t
unfoldable pub ones : ℕ → ℕ → ℕ
ones zero t = 0
ones (suc w) t = t % 2 + ones w (t / 2)

-- the places of the ones of t from place k to k + m, the lowest first
unfoldable pub ones_from : ℕ → ℕ → ℕ → List ℕ
ones_from t k zero = cond (eqb (bit k t) 1) (k ∷ []) []
ones_from t k (suc m) = cond (eqb (bit k t) 1) (k ∷ ones_from t (suc k) m) (ones_from t (suc k) m)

-- the levels of a stack, the top first
unfoldable pub levels : {A : Type 0} → Stack A → List ℕ
levels [] = []
levels (e ∷ rest) = e.0 ∷ levels rest
