-- Field numbers in a row, as a loop tests them.
use mathlib.Core.Path.{◌≡◌, refl, sym, subst}
use mathlib.Core.Logic.{⊎_elim}
use mathlib.Core.Bool.{Bool, true, false, true≢false, ◌&&◌}
use Prim.Native.Nat.{ℕ, zero, suc, ◌+◌, ◌≤◌, ◌<◌}
use native.Mathlib.Nat.{eq-or-lt_of_le}
use native.Mathlib.Numerals.{add-one}
use native.Mathlib.Omega.{arith}
use lib.Dec.{ltb}
use borrow.Author.Tests.{lt-ltb, le-ltb, ltb-true, ltb-false}
use Rattle.refusal.proofs.Outcome.{both}
use Rattle.wire.specs.Proof.{all_below}

and_false : (a : Bool) → (a && false) ≡ false
and_false true = refl
and_false false = refl

le_pred : (k m : ℕ) → k < suc m → k ≤ m
le_pred k m h = omega arith

module _ (p : ℕ) (numbers : ℕ → ℕ) where
  pub below_none : true ≡ all_below p numbers 0
  unfolding all_below
  below_none = refl

  -- one number more
  pub below_next : (k : ℕ) → true ≡ all_below p numbers k → numbers k < p → true ≡ all_below p numbers (k + 1)
  unfolding all_below
  below_next k h l = rw (add-one k, ← h, lt-ltb _ _ l)

  -- one that is not below fails the whole
  pub below_fails : (m k : ℕ) → k < m → p ≤ numbers k → false ≡ all_below p numbers m
  unfolding all_below
  below_fails zero k h l = absurd (omega arith)
  below_fails (suc m) k h l =
      ⊎_elim
      (λ e. sym (rw (le-ltb (numbers m) p (subst (λ j. p ≤ numbers j) e l)) (and_false (all_below p numbers m))))
      (λ b. rw (← below_fails m k b l))
      (eq-or-lt_of_le (le_pred k m h))

  -- both ways
  pub below_all : (m : ℕ) → all_below p numbers m ≡ true → (k : ℕ) → k < m → numbers k < p
  unfolding all_below
  below_all zero h k l = absurd (omega arith)
  below_all (suc m) h k l =
      let b = both (all_below p numbers m) _ h in
      ⊎_elim
      (λ e. subst (λ j. numbers j < p) (sym e) (ltb-true _ _ b.1))
      (below_all m b.0 k)
      (eq-or-lt_of_le (le_pred k m l))

  pub all_below_lem : (m : ℕ) → ((k : ℕ) → k < m → numbers k < p) → all_below p numbers m ≡ true
  unfolding all_below
  all_below_lem zero h = refl
  all_below_lem (suc m) h = rw (all_below_lem m (λ k l. h k (omega arith)), lt-ltb _ _ (h m (omega arith)))

  pub not_all_below : (m : ℕ) → all_below p numbers m ≡ false → (k : ℕ) × (k < m) × (p ≤ numbers k)
  unfolding all_below
  not_all_below zero h = absurd (true≢false h)
  not_all_below (suc m) h = go (all_below p numbers m) refl (ltb (numbers m) p) refl h (not_all_below m)
    where
      go : (a : Bool) → all_below p numbers m ≡ a → (b : Bool) → ltb (numbers m) p ≡ b → (a && b) ≡ false
          → (all_below p numbers m ≡ false → (k : ℕ) × (k < m) × (p ≤ numbers k)) → (k : ℕ) × (k < suc m) × (p ≤ numbers k)
      go false e b f h before = let x = before e in (x.0, omega (arith, x.1), x.2)
      go true e false f h before = (m, omega arith, ltb-false _ _ f)
      go true e true f h before = absurd (true≢false h)
