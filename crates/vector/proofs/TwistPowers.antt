-- Twists that are the powers v^(2^j): by squaring, and the product over the ones of an index i is v^i.
use mathlib.Core.Bool.{Bool, true, false, cond}
use mathlib.Core.Path.{◌≡◌, refl, sym, ap, ◌∙◌}
use Prim.Native.Nat.{ℕ, zero, suc, ◌+◌, ◌*◌, ◌%◌, ◌^◌, ◌≤◌, ◌<◌, min}
use native.Mathlib.Nat.{mod-eq_of_lt, mod-one, mul-one, one-mul, two-pow-succ, zero-mul}
use native.Mathlib.Numerals.{add-one, one-add}
use native.Mathlib.Omega.{arith}
use borrow.Author.Tests.{eqb-true, eqb-false}
use lib.Dec.{eqb}
use lib.ListN.{replicate}
use lib.Pow.{mod-pow-add}
use Rattle.algebra.specs.Mod.{residue, mul_mod, pow_mod}
use Rattle.algebra.proofs.Congruence.{cong_mul, cong_refl, cong_residue}
use Rattle.algebra.proofs.Laws.{mul_commutes, pow_residue, pow_sum}
use Rattle.vector.specs.Vector.{at, bit, weight}
use Rattle.vector.specs.Twist.{twist_of, twists_of}
use Rattle.vector.proofs.Weights.{weight-challenges}
use Rattle.vector.proofs.Overwrite.{overwrite-written}

module _ (p v : ℕ) where
  pub first-twist : residue p v ≡ twist_of p v 0
  unfolding pow_mod mul_mod
  first-twist = sym ((cong_mul (cong_refl v) (cong_residue 1)).residues ∙ ap (residue p) (mul-one v))

  pub next-twist : (j : ℕ) → mul_mod p (twist_of p v j) (twist_of p v j) ≡ twist_of p v (j + 1)
  next-twist j = sym (pow_sum p v (2 ^ j) (2 ^ j)) ∙ ap (pow_mod p v) (sym (ap (λ k. 2 ^ k) (add-one j) ∙ two-pow-succ j))

  -- one bit of the index
  factor : (b : Bool) (n i : ℕ) → eqb (bit n i) 1 ≡ b
      → mul_mod p (pow_mod p v (i % 2 ^ n)) (cond b (twist_of p v n) 1) ≡ pow_mod p v (i % 2 ^ suc n)
  unfolding mul_mod
  factor true n i e =
      let one : bit n i ≡ 1 = eqb-true (bit n i) 1 e in
      mul_commutes p (pow_mod p v (i % 2 ^ n)) (twist_of p v n)
      ∙ sym (pow_sum p v (2 ^ n) (i % 2 ^ n))
      ∙ ap (pow_mod p v)
      (sym
      (ap (λ k. i % 2 ^ k) (sym (one-add n)) ∙ mod-pow-add i 1 n ∙ ap (λ b. b * 2 ^ n + i % 2 ^ n) one
      ∙ ap (λ t. t + i % 2 ^ n) (one-mul (2 ^ n))))
  factor false n i e =
      let none : bit n i ≡ 0 = omega (arith, eqb-false (bit n i) 1 e) in
      ap (residue p) (mul-one (pow_mod p v (i % 2 ^ n))) ∙ pow_residue p v (i % 2 ^ n)
      ∙ ap (pow_mod p v)
      (sym
      (ap (λ k. i % 2 ^ k) (sym (one-add n)) ∙ mod-pow-add i 1 n ∙ ap (λ b. b * 2 ^ n + i % 2 ^ n) none
      ∙ ap (λ t. t + i % 2 ^ n) (zero-mul (2 ^ n))
      ∙ omega arith))

  weight-power : (n i : ℕ) → weight p (twist_of p v) n i ≡ pow_mod p v (i % 2 ^ n)
  unfolding weight pow_mod
  weight-power zero i = sym (ap (pow_mod p v) (mod-one i))
  weight-power (suc n) i =
      ap (λ w. mul_mod p w (cond (eqb (bit n i) 1) (twist_of p v n) 1)) (weight-power n i) ∙ factor (eqb (bit n i) 1) n i refl

-- the product of the twists over the ones of i is v^i
pub twists_weight : (p v n i : ℕ) → n ≤ 15 → i < 2 ^ n → weight p (at (twists_of p v n)) n i ≡ pow_mod p v i
twists_weight p v n i le less =
    weight-challenges p (twist_of p v) (at (twists_of p v n)) n i
    (λ k h. overwrite-written (twist_of p v) (replicate 15 0) (min n 15) k (omega arith) (omega arith))
    ∙ weight-power p v n i
    ∙ ap (pow_mod p v) (mod-eq_of_lt less)
