-- THE STACK LAW in document 01's words: the stack of a small pass after t items, for a pass that folds to level i, i = n included.
use mathlib.Core.Path.{◌≡◌, refl, ap, ◌∙◌}
use mathlib.Core.List.{[], ◌∷◌}
use Prim.Native.Nat.{ℕ, zero, suc, ◌+◌, ◌-◌, ◌/◌, ◌^◌, ◌<◌, ◌≤◌}
use native.Mathlib.Nat.{div-one, zero-div}
use native.Mathlib.Omega.{arith}
use Rattle.vector.specs.Rounds.{size}
use Rattle.vector.specs.Fold.{fold_with}
use Rattle.vector.specs.Stack.{Stack, backwards, entry_on, entries_from, entries}
use Rattle.vector.proofs.Rounds.{size-all, size-last, size-halves}
use Rattle.vector.proofs.Counts.{completes_zero}
use Rattle.vector.proofs.Machine.{enter, item_before, gathered, enter_step, entry-even}

-- the machine after t items of the stream s, from the empty stack
module _ {A M : Type 0} (combine : ℕ → A → A → A) (arrive : ℕ → A → M → M) (emit : A → A → M → M) (c : ℕ → ℕ) (i : ℕ) (s : ℕ → A) (g : M) where
  unfoldable pub machine : ℕ → Stack A × M
  machine zero = ([], g)
  machine (suc t) = enter combine arrive emit c i 0 (s t) (machine t).0 (machine t).1

module _ {A : Type 0} (combine : ℕ → A → A → A) (c : ℕ → ℕ) (n : ℕ) (v : ℕ → A) where
  -- before the first item
  entries_none : (k m : ℕ) → entries_from combine c n v 0 k m ≡ []
  unfolding entries_from
  entries_none k zero = rw (zero-div (2 ^ k))
  entries_none k (suc m) = rw (zero-div (2 ^ k)) (entries_none (suc k) m)

  pub stream_item : (t : ℕ) → backwards (2 ^ n) v t ≡ item_before combine c n v 0 (t / 2 ^ 0)
  unfolding fold_with
  stream_item t = let e : 2 ^ n - 1 - t ≡ 2 ^ n - suc t = omega arith in rw (div-one t, size-all n, e)

  -- after all N items no entry is left below level n
  full_even : (k : ℕ) → k < n → (rest : Stack A) → entry_on combine c n v (2 ^ n) k rest ≡ rest
  full_even k h rest = entry-even combine c n v (2 ^ n) k (size n (suc k)) rest (size-halves n k h)

  full_empty : (k m : ℕ) → k + m < n → entries_from combine c n v (2 ^ n) k m ≡ []
  unfolding entries_from
  full_empty k zero h = full_even k (omega arith) []
  full_empty k (suc m) h = full_even k (omega arith) _ ∙ full_empty (suc k) m (omega arith)

  pub entries-empty : (i : ℕ) → i < n → entries combine c n v (2 ^ n) i ≡ []
  entries-empty i h = full_empty 0 i (omega arith)

  full_one : (k m : ℕ) → k + m ≡ n → entries_from combine c n v (2 ^ n) k m ≡ (n, fold_with combine c n v 0) ∷ []
  unfolding entries_from
  full_one k zero e = let z : k ≡ n = omega arith in rw (z, size-last n)
  full_one k (suc m) e = full_even k (omega arith) _ ∙ full_one (suc k) m (omega arith)

  -- and at level n exactly one: fold n
  pub entries-end : entries combine c n v (2 ^ n) n ≡ (n, fold_with combine c n v 0) ∷ []
  entries-end = full_one 0 n (omega arith)

  module _ {M : Type 0} (arrive : ℕ → A → M → M) (emit : A → A → M → M) (i : ℕ) where
    -- what t items gather
    unfoldable pub gathered_all : M → ℕ → M
    gathered_all g zero = g
    gathered_all g (suc t) = gathered combine c n v arrive emit i 0 t (gathered_all g t)

    -- one more item of the pass
    pub enter-item : i ≤ n → (t : ℕ) → t < 2 ^ n → (g : M)
        → enter combine arrive emit c i 0 (backwards (2 ^ n) v t) (entries combine c n v t i) g
        ≡ (entries combine c n v (suc t) i, gathered combine c n v arrive emit i 0 t g)
    enter-item hi t ht g =
        rw (stream_item t) (enter_step combine c n v arrive emit i i 0 (omega arith) hi t ht (completes_zero t) g)

    pub stack_law : i ≤ n → (g : M) (t : ℕ) → t ≤ 2 ^ n
        → machine combine arrive emit c i (backwards (2 ^ n) v) g t ≡ (entries combine c n v t i, gathered_all g t)
    unfolding machine gathered_all
    stack_law hi g zero h = rw (entries_none 0 i)
    stack_law hi g (suc t) h = rw (stack_law hi g t (omega arith)) (enter-item hi t (omega arith) (gathered_all g t))

-- Of any stream: its first N items are those of a vector, from the last.
module _ {A M : Type 0} (combine : ℕ → A → A → A) (arrive : ℕ → A → M → M) (emit : A → A → M → M) (c : ℕ → ℕ) where
  machine-same : (i : ℕ) (s s' : ℕ → A) (g : M) (t : ℕ) → ((q : ℕ) → q < t → s q ≡ s' q) → machine combine arrive emit c i s g t ≡ machine combine arrive emit c i s' g t
  unfolding machine
  machine-same i s s' g zero h = refl
  machine-same i s s' g (suc t) h = rw (h t (omega arith), machine-same i s s' g t (λ q l. h q (omega arith)))

  pub stream_law : (n : ℕ) (s : ℕ → A) (i : ℕ) → i ≤ n → (g : M) (t : ℕ) → t ≤ 2 ^ n
      → machine combine arrive emit c i s g t ≡ (entries combine c n (backwards (2 ^ n) s) t i, gathered_all combine c n (backwards (2 ^ n) s) arrive emit i g t)
  stream_law n s i hi g t ht =
      machine-same i s (backwards (2 ^ n) (backwards (2 ^ n) s)) g t (λ q l. let e : q ≡ 2 ^ n - 1 - (2 ^ n - 1 - q) = omega arith in ap s e)
      ∙ stack_law combine c n (backwards (2 ^ n) s) arrive emit i hi g t ht
