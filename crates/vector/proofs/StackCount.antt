-- How many entries a stack has, and at which levels: the binary ones of the count, whatever the values.
use mathlib.Core.Path.{◌≡◌, refl, ap, ◌∙◌}
use mathlib.Core.Bool.{Bool, true, false, cond}
use mathlib.Core.List.{[], ◌∷◌}
use mathlib.Core.Logic.{inl, inr}
use Prim.Native.Nat.{ℕ, zero, suc, ◌+◌, ◌-◌, ◌/◌, ◌%◌, ◌^◌, ◌<◌, ◌≤◌}
use native.Mathlib.Nat.{div-one}
use native.Mathlib.Numerals.{add-one}
use native.Mathlib.Omega.{arith}
use lib.Dec.{eqb}
use lib.ListN.{length}
use lib.Pow.{field, mod-mod-pow}
use Rattle.vector.specs.Rounds.{size}
use Rattle.vector.specs.Vector.{bit}
use Rattle.vector.specs.Fold.{fold_with, combine}
use Rattle.vector.specs.Stack.{Stack, backwards, entry_on, entries_from, entries, ones, ones_from, levels}
use Rattle.vector.proofs.Rounds.{half_count}
use Rattle.vector.proofs.Counts.{Parity, parity}
use Rattle.vector.proofs.StackLaw.{machine, stream_law}
use Rattle.vector.proofs.Machine.{entry-even, entry-odd}

pub ones_at_most : (w t : ℕ) → ones w t ≤ w
unfolding ones
ones_at_most zero t = omega arith
ones_at_most (suc w) t = omega (arith, ones_at_most w (t / 2))

-- as many as t modulo 2^w has
pub ones-modulo : (w t : ℕ) → ones w (t % 2 ^ w) ≡ ones w t
unfolding ones
ones-modulo zero t = refl
ones-modulo (suc w) t =
    let low : t % 2 ^ suc w % 2 ≡ t % 2 = rw (add-one w) at (mod-mod-pow t w 1) in
    let high : t % 2 ^ suc w / 2 ≡ t / 2 % 2 ^ w = rw (add-one w) at (field t w 1) in
    rw (low, high, ones-modulo w (t / 2))

pub ones_below_lem : (w m t : ℕ) → t < 2 ^ w → ones m t ≤ w
unfolding ones
ones_below_lem w zero t h = omega arith
ones_below_lem zero (suc m) t h = omega (arith, ones_below_lem zero m (t / 2) (omega arith))
ones_below_lem (suc w) (suc m) t h = omega (arith, ones_below_lem w m (t / 2) (omega arith))

module _ {A : Type 0} (combine : ℕ → A → A → A) (c : ℕ → ℕ) (n : ℕ) (v : ℕ → A) where
  -- its length is the number of ones
  count-from : (t k m : ℕ) → length (entries_from combine c n v t k m) ≡ ones (suc m) (t / 2 ^ k)
  unfolding entries_from ones
  count-from t k zero = go (parity (t / 2 ^ k))
    where
      go : Parity (t / 2 ^ k) → length (entry_on combine c n v t k []) ≡ t / 2 ^ k % 2 + 0
      go (inl e) = rw (entry-even combine c n v t k e.0 [] e.1) (omega (arith, e.1))
      go (inr e) = rw (entry-odd combine c n v t k e.0 [] e.1) (omega (arith, e.1))
  count-from t k (suc m) = go (rw (← half_count t k) at (count-from t (suc k) m)) (parity (t / 2 ^ k))
    where
      rest : Stack A
      rest = entries_from combine c n v t (suc k) m

      go : length rest ≡ ones (suc m) (t / 2 ^ k / 2) → Parity (t / 2 ^ k) → length (entry_on combine c n v t k rest) ≡ t / 2 ^ k % 2 + ones (suc m) (t / 2 ^ k / 2)
      go r (inl e) = rw (entry-even combine c n v t k e.0 rest e.1) (omega (arith, e.1))
      go r (inr e) = rw (entry-odd combine c n v t k e.0 rest e.1) (omega (arith, e.1))

  pub entries-count : (t i : ℕ) → length (entries combine c n v t i) ≡ ones (suc i) t
  entries-count t i = rw (div-one t) at (count-from t 0 i)

  -- "never over i + 1 entries"
  pub entries-at-most : (t i : ℕ) → length (entries combine c n v t i) ≤ suc i
  entries-at-most t i = rw (entries-count t i) (ones_at_most (suc i) t)

  -- before an item is taken there is room for one more among n + 1
  pub entries-room : (t i : ℕ) → i ≤ n → t < 2 ^ n → length (entries combine c n v t i) ≤ n
  entries-room t i hi ht = rw (entries-count t i) (ones_below_lem n (suc i) t ht)

  -- the levels are the places of the ones, whatever the values
  levels-from : (t k m : ℕ) → levels (entries_from combine c n v t k m) ≡ ones_from t k m
  unfolding entries_from ones_from levels
  levels-from t k zero = by (eqb (bit k t) 1)
    where
      by : (b : Bool) → levels (cond b ((k, fold_with combine c k v (size n k - t / 2 ^ k)) ∷ []) []) ≡ cond b (k ∷ []) []
      by true = refl
      by false = refl
  levels-from t k (suc m) = by (eqb (bit k t) 1) (levels-from t (suc k) m)
    where
      rest : Stack A
      rest = entries_from combine c n v t (suc k) m

      by : (b : Bool) → levels rest ≡ ones_from t (suc k) m
          → levels (cond b ((k, fold_with combine c k v (size n k - t / 2 ^ k)) ∷ rest) rest) ≡ cond b (k ∷ ones_from t (suc k) m) (ones_from t (suc k) m)
      by true e = ap (λ l. k ∷ l) e
      by false e = e

  pub entries-levels : (t i : ℕ) → levels (entries combine c n v t i) ≡ ones_from t 0 i
  entries-levels t i = levels-from t 0 i

-- so of any stream the levels follow from the count alone
pub machine_levels : {A M : Type 0} (combine : ℕ → A → A → A) (arrive : ℕ → A → M → M) (emit : A → A → M → M) (c : ℕ → ℕ) (n : ℕ) (s : ℕ → A) (i : ℕ) → i ≤ n
    → (g : M) (t : ℕ) → t ≤ 2 ^ n → levels (machine combine arrive emit c i s g t).0 ≡ ones_from t 0 i
machine_levels combine arrive emit c n s i hi g t ht =
    ap (λ r. levels r.0) (stream_law combine arrive emit c n s i hi g t ht) ∙ entries-levels combine c n (backwards (2 ^ n) s) t i
