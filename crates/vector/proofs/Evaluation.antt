-- Horner's rule in a loop from the last item, when the first i of n items are left.
use mathlib.Core.Path.{◌≡◌, sym, ap, ◌∙◌}
use Prim.Native.Nat.{ℕ, suc, ◌-◌, ◌≤◌, ◌<◌}
use native.Mathlib.Omega.{arith}
use Rattle.vector.specs.Vector.{Vector}
use Rattle.vector.specs.Opening.{evaluate}
use Rattle.vector.proofs.Horner.{horner_step, horner, horner-end}

module _ (p x : ℕ) (v : Vector) (n : ℕ) where
  pub all_left : 0 ≡ horner p x v n (n - n)
  unfolding horner
  all_left = let none : n - n ≡ 0 = omega arith in ap (horner p x v n) (sym none)

  pub one_less : (i : ℕ) → 0 < i → i ≤ n → horner_step p x (horner p x v n (n - i)) (v (i - 1)) ≡ horner p x v n (n - (i - 1))
  unfolding horner
  one_less i some within =
      let item : i - 1 ≡ n - suc (n - i) = omega arith in
      let more : suc (n - i) ≡ n - (i - 1) = omega arith in
      ap (λ k. horner_step p x (horner p x v n (n - i)) (v k)) item ∙ ap (horner p x v n) more

  pub none_left : horner p x v n (n - 0) ≡ evaluate p n v x
  none_left = let all : n - 0 ≡ n = omega arith in ap (horner p x v n) all ∙ horner-end p x v n
