-- A test of each number below m, and of the first m places of a slice.
use mathlib.Core.Bool.{Bool, true, false, ◌&&◌, and-false}
use mathlib.Core.List.{List}
use mathlib.Core.Logic.{◌↔◌, ⊎_elim}
use mathlib.Core.Path.{◌≡◌, refl, sym, ap, ap₂, ◌∙◌}
use Prim.Native.Nat.{ℕ, zero, suc, ◌+◌, ◌≤◌, ◌<◌}
use native.Mathlib.Nat.{eq-or-lt_of_le}
use native.Mathlib.Numerals.{add-one}
use native.Mathlib.Omega.{arith}
use borrow.Author.Tests.{ltb-true, ltb-false, lt-ltb}
use lib.Dec.{ltb}
use lib.ListN.{length, get_or-eq_default}
use Rattle.vector.specs.Vector.{at}
use Rattle.vector.specs.Slice.{every, all_reduced, is_nonzero, all_nonzero}

module _ (test : ℕ → Bool) where
  pub every_true : (m : ℕ) → ((k : ℕ) → k < m → test k ≡ true) → every m test ≡ true
  unfolding every
  every_true zero all = refl
  every_true (suc m) all = ap₂ ◌&&◌ (every_true m (λ k h. all k (omega arith))) (all m (omega arith))

  pub every-false : (m k : ℕ) → k < m → test k ≡ false → every m test ≡ false
  unfolding every
  every-false zero k h e = absurd (omega arith)
  every-false (suc m) k h e =
      ⊎_elim
      (λ (same : k ≡ m). ap (λ b. every m test && b) (ap test (sym same) ∙ e) ∙ and-false (every m test))
      (λ (less : k < m). ap (λ b. b && test m) (every-false m k less e))
      (eq-or-lt_of_le (omega arith))

  pub every-none : every 0 test ≡ true
  unfolding every
  every-none = refl

  pub every_more : (m : ℕ) (b : Bool) → b ≡ every m test → (b && test m) ≡ every (m + 1) test
  unfolding every
  every_more m b e = ap (λ x. x && test m) e ∙ ap (λ k. every k test) (sym (add-one m))

either : (b : Bool) (P : Type 0) → (b ≡ true → P) → (b ≡ false → P) → P
either true P f g = f refl
either false P f g = g refl

never : true ≡ false → ⊥
never e = let z : ◌≡◌ {A = ℕ} 0 1 = cc in omega arith

pub every-at : (test : ℕ → Bool) (m : ℕ) → every m test ≡ true → (k : ℕ) → k < m → test k ≡ true
every-at test m e k h =
    either (test k) (test k ≡ true) (λ t. t) (λ f. absurd (never (sym e ∙ every-false test m k h f)))

and_left : (a b : Bool) → (a && b) ≡ true → a ≡ true
and_left true b e = refl
and_left false b e = e

and_right : (a b : Bool) → (a && b) ≡ true → b ≡ true
and_right true b e = e
and_right false b e = absurd (never (sym e))

module _ (p m : ℕ) (xs : List ℕ) where
  -- the places that the slice lacks count as 0
  pub reduced_short : length xs < m → (all_reduced p (length xs) xs && ltb 0 p) ≡ all_reduced p m xs
  reduced_short less =
      either (all_reduced p (length xs) xs) ((all_reduced p (length xs) xs && ltb 0 p) ≡ all_reduced p m xs)
      (λ all.
      ap (λ b. b && ltb 0 p) all
      ∙ either (ltb 0 p) (ltb 0 p ≡ all_reduced p m xs)
      (λ some.
      some
      ∙ sym
      (every_true (λ k. ltb (at xs k) p) m
      (λ k h.
      either (ltb k (length xs)) (ltb (at xs k) p ≡ true) (λ t. every-at (λ k. ltb (at xs k) p) (length xs) all k (ltb-true k (length xs) t))
      (λ f. ap (λ x. ltb x p) (lacks k (ltb-false k (length xs) f)) ∙ some))))
      (λ none. none ∙ sym (every-false (λ k. ltb (at xs k) p) m (length xs) less (ap (λ x. ltb x p) (lacks (length xs) (omega arith)) ∙ none))))
      (λ some-over.
      ap (λ b. b && ltb 0 p) some-over
      ∙ sym (either (all_reduced p m xs) (all_reduced p m xs ≡ false)
      (λ all. absurd (never (sym (every_true (λ k. ltb (at xs k) p) (length xs) (λ k h. every-at (λ k. ltb (at xs k) p) m all k (omega arith))) ∙ some-over)))
      (λ f. f)))
    where
      lacks : (k : ℕ) → length xs ≤ k → at xs k ≡ 0
      lacks k le = get_or-eq_default xs 0 {n = k} le

  pub reduced_all : ((k : ℕ) → k < m → at xs k < p) → true ≡ all_reduced p m xs
  reduced_all below = sym (every_true (λ k. ltb (at xs k) p) m (λ k h. lt-ltb (at xs k) p (below k h)))

  -- the test is the statement
  pub all-reduced_iff : (all_reduced p m xs ≡ true) ↔ ((k : ℕ) → k < m → at xs k < p)
  all-reduced_iff =
      ((λ e k h. ltb-true (at xs k) p (every-at (λ k. ltb (at xs k) p) m e k h)), λ below. sym (reduced_all below))

  pub nonzero_zero : (i : ℕ) → i < m → at xs i ≡ 0 → false ≡ all_nonzero p m xs
  nonzero_zero i less e = sym (every-false (λ k. is_nonzero p (at xs k)) m i less (ap (is_nonzero p) e))

  pub nonzero_short : (i : ℕ) → i < m → length xs ≤ i → false ≡ all_nonzero p m xs
  nonzero_short i less short = nonzero_zero i less (get_or-eq_default xs 0 {n = i} short)

  pub nonzero_all : ((k : ℕ) → k < m → (0 < at xs k) × (at xs k < p)) → true ≡ all_nonzero p m xs
  nonzero_all good =
      sym
      (every_true (λ k. is_nonzero p (at xs k)) m
      (λ k h. ap₂ ◌&&◌ (lt-ltb 0 (at xs k) (good k h).0) (lt-ltb (at xs k) p (good k h).1)))

  -- the test is the statement
  pub all-nonzero_iff : (all_nonzero p m xs ≡ true) ↔ ((k : ℕ) → k < m → (0 < at xs k) × (at xs k < p))
  all-nonzero_iff = (
    (λ e k h.
        let t = every-at (λ k. is_nonzero p (at xs k)) m e k h in
        (ltb-true 0 (at xs k) (and_left (ltb 0 (at xs k)) (ltb (at xs k) p) t), ltb-true (at xs k) p (and_right (ltb 0 (at xs k)) (ltb (at xs k) p) t))),
    λ good. sym (nonzero_all good),
  )
