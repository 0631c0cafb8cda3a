-- The image of the integers modulo p: a homomorphism of rings, and on small numbers document 01's rule by sign.
use mathlib.Core.Path.{◌≡◌, refl, sym, ap, ◌∙◌}
use mathlib.Core.Bool.{Bool, true, false, cond, true≢false}
use mathlib.Core.List.{[], ◌∷◌}
use Prim.Native.Nat.{ℕ, zero, suc, ◌+◌, ◌-◌, ◌*◌, ◌<◌}
use native.Mathlib.Omega.{arith}
use lib.Dec.{ltb}
use lib.IntN.{ℤ, pos, negsuc, nat_abs, neg_ℤ, sub_ℕ, ◌+ℤ◌, ◌*ℤ◌}
use lib.Signed.{lt_z}
use borrow.Author.Tests.{le-ltb, ltb-true, ltb-false}
use Rattle.algebra.specs.Mod.{base, residue, add_mod, neg_mod, mul_mod}
use Rattle.algebra.proofs.Congruence.{Cong, cong_add, cong_eq, cong_mul, cong_reduced, cong_refl, cong_residue, cong_sym, cong_trans, add_cong, mul_cong, residue-lt, residue-small, residue-twice, residue-zero}
use Rattle.algebra.proofs.Laws.{add_commutes, add_lt, mul_lt}
use Rattle.algebra.proofs.Ring.{var, num, add, mul, neg, solve_cong, solve_from, vars, none, given}
use Rattle.field.specs.Integer.{image, by_sign}

cond_false : (b : Bool) (x y : ℤ) → b ≡ false → cond b x y ≡ y
cond_false true x y h = absurd (true≢false h)
cond_false false x y h = refl

module _ (p : ℕ) where
  pub image-lt : (z : ℤ) → image p z < base p
  unfolding image neg_mod
  image-lt (pos n) = residue-lt p n
  image-lt (negsuc n) = residue-lt p (base p - residue p (suc n))

  pub image-residue : (z : ℤ) → residue p (image p z) ≡ image p z
  image-residue z = residue-small p (image p z) (image-lt z)

  pub image-zero : image p (pos 0) ≡ 0
  unfolding image
  image-zero = residue-zero p

  pub image-pos : (n : ℕ) → Cong p (image p (pos n)) n
  unfolding image
  image-pos n = cong_residue n

  pub image-negsuc : (n : ℕ) → Cong p (image p (negsuc n)) (neg_mod p (suc n))
  unfolding image
  image-negsuc n = cong_refl (neg_mod p (suc n))

  -- by the sign and the absolute value
  pub image-positive : (z : ℤ) → lt_z z (pos 0) ≡ false → image p z ≡ residue p (nat_abs z)
  unfolding image
  image-positive (pos n) h = refl
  image-positive (negsuc n) h = absurd (true≢false h)

  pub image-negative : (z : ℤ) → lt_z z (pos 0) ≡ true → image p z ≡ neg_mod p (residue p (nat_abs z))
  unfolding image neg_mod
  image-negative (pos n) h = let l = ltb-true n 0 h in absurd (omega arith)
  image-negative (negsuc n) h = ap (λ x. residue p (base p - x)) (sym (residue-twice p (suc n)))

  -- the image of a difference of natural numbers
  image-sub : (x y : ℕ) → Cong p (add_mod p (image p (sub_ℕ x y)) y) x
  image-sub x y = by (ltb x y) refl
    where
      by : (b : Bool) → ltb x y ≡ b → Cong p (add_mod p (image p (cond b (negsuc (y - suc x)) (pos (x - y)))) y) x
      by true e =
          let l = ltb-true x y e in
          let same : suc (y - suc x) + x ≡ y = omega arith in
          solve_from p (vars (image p (negsuc (y - suc x)) ∷ suc (y - suc x) ∷ x ∷ y ∷ [])) (add (var 0) (var 3)) (var 2)
          (given (num 1) (var 0) (neg (var 1)) (image-negsuc (y - suc x))
          (given (neg (num 1)) (add (var 1) (var 2)) (var 3) (cong_trans (add_cong (suc (y - suc x)) x) (cong_eq same)) none))
          tt
      by false e =
          let l = ltb-false x y e in
          let same : (x - y) + y ≡ x = omega arith in
          solve_from p (vars (image p (pos (x - y)) ∷ (x - y) ∷ x ∷ y ∷ [])) (add (var 0) (var 3)) (var 2)
          (given (num 1) (var 0) (var 1) (image-pos (x - y))
          (given (num 1) (add (var 1) (var 3)) (var 2) (cong_trans (add_cong (x - y) y) (cong_eq same)) none))
          tt

  -- a sum of numbers of both signs
  image-mixed : (a b : ℕ) → Cong p (image p (sub_ℕ a (suc b))) (add_mod p (image p (pos a)) (image p (negsuc b)))
  image-mixed a b =
      solve_from p (vars (image p (sub_ℕ a (suc b)) ∷ image p (pos a) ∷ image p (negsuc b) ∷ a ∷ suc b ∷ [])) (var 0) (add (var 1) (var 2))
      (given (num 1) (add (var 0) (var 4)) (var 3) (image-sub a (suc b))
      (given (neg (num 1)) (var 1) (var 3) (image-pos a) (given (neg (num 1)) (var 2) (neg (var 4)) (image-negsuc b) none)))
      tt

  add_image : (a b : ℤ) → Cong p (image p (a +ℤ b)) (add_mod p (image p a) (image p b))
  add_image (pos a) (pos b) =
      cong_trans (image-pos (a + b))
      (cong_sym (cong_trans (add_cong (image p (pos a)) (image p (pos b))) (cong_add (image-pos a) (image-pos b))))
  add_image (pos a) (negsuc b) = image-mixed a b
  add_image (negsuc a) (pos b) = cong_trans (image-mixed b a) (cong_eq (add_commutes p (image p (pos b)) (image p (negsuc a))))
  add_image (negsuc a) (negsuc b) =
      let same : suc (suc (a + b)) ≡ suc a + suc b = omega arith in
      solve_from p (vars (image p (negsuc a +ℤ negsuc b) ∷ image p (negsuc a) ∷ image p (negsuc b) ∷ suc a ∷ suc b ∷ suc (suc (a + b)) ∷ []))
      (var 0) (add (var 1) (var 2))
      (given (num 1) (var 0) (neg (var 5)) (image-negsuc (suc (a + b)))
      (given (neg (num 1)) (var 1) (neg (var 3)) (image-negsuc a)
      (given (neg (num 1)) (var 2) (neg (var 4)) (image-negsuc b)
      (given (neg (num 1)) (var 5) (add (var 3) (var 4)) (cong_trans (cong_eq same) (cong_sym (add_cong (suc a) (suc b)))) none))))
      tt

  pub image-add : (a b : ℤ) → image p (a +ℤ b) ≡ add_mod p (image p a) (image p b)
  image-add a b = cong_reduced (image-lt (a +ℤ b)) (add_lt p (image p a) (image p b)) (add_image a b)

  neg_image : (n : ℕ) → Cong p (image p (neg_ℤ (pos n))) (neg_mod p n)
  neg_image zero = cong_trans (image-pos 0) (solve_cong p (vars []) (num 0) (neg (num 0)) tt)
  neg_image (suc n) = image-negsuc n

  mul_image : (a b : ℤ) → Cong p (image p (a *ℤ b)) (mul_mod p (image p a) (image p b))
  mul_image (pos a) (pos b) =
      cong_trans (image-pos (a * b))
      (cong_sym (cong_trans (mul_cong (image p (pos a)) (image p (pos b))) (cong_mul (image-pos a) (image-pos b))))
  mul_image (pos a) (negsuc b) =
      solve_from p (vars (image p (pos a *ℤ negsuc b) ∷ image p (pos a) ∷ image p (negsuc b) ∷ a ∷ suc b ∷ a * suc b ∷ [])) (var 0) (mul (var 1) (var 2))
      (given (num 1) (var 0) (neg (var 5)) (neg_image (a * suc b))
      (given (neg (var 2)) (var 1) (var 3) (image-pos a)
      (given (neg (var 3)) (var 2) (neg (var 4)) (image-negsuc b)
      (given (num 1) (mul (var 3) (var 4)) (var 5) (mul_cong a (suc b)) none))))
      tt
  mul_image (negsuc a) (pos b) =
      solve_from p (vars (image p (negsuc a *ℤ pos b) ∷ image p (negsuc a) ∷ image p (pos b) ∷ suc a ∷ b ∷ suc a * b ∷ [])) (var 0) (mul (var 1) (var 2))
      (given (num 1) (var 0) (neg (var 5)) (neg_image (suc a * b))
      (given (neg (var 2)) (var 1) (neg (var 3)) (image-negsuc a)
      (given (var 3) (var 2) (var 4) (image-pos b)
      (given (num 1) (mul (var 3) (var 4)) (var 5) (mul_cong (suc a) b) none))))
      tt
  mul_image (negsuc a) (negsuc b) =
      solve_from p (vars (image p (negsuc a *ℤ negsuc b) ∷ image p (negsuc a) ∷ image p (negsuc b) ∷ suc a ∷ suc b ∷ suc a * suc b ∷ []))
      (var 0) (mul (var 1) (var 2))
      (given (num 1) (var 0) (var 5) (image-pos (suc a * suc b))
      (given (neg (var 2)) (var 1) (neg (var 3)) (image-negsuc a)
      (given (var 3) (var 2) (neg (var 4)) (image-negsuc b)
      (given (neg (num 1)) (mul (var 3) (var 4)) (var 5) (mul_cong (suc a) (suc b)) none))))
      tt

  pub image-mul : (a b : ℤ) → image p (a *ℤ b) ≡ mul_mod p (image p a) (image p b)
  image-mul a b = cong_reduced (image-lt (a *ℤ b)) (mul_lt p (image p a) (image p b)) (mul_image a b)

  -- reading a total and adding modulo p agree
  pub image-step : (a : ℤ) (w : ℕ) (b : ℤ) → image p (a *ℤ pos w +ℤ b) ≡ add_mod p (mul_mod p (image p a) w) (image p b)
  image-step a w b =
      cong_reduced (image-lt (a *ℤ pos w +ℤ b)) (add_lt p (mul_mod p (image p a) w) (image p b))
      (solve_from p (vars (image p (a *ℤ pos w +ℤ b) ∷ image p (a *ℤ pos w) ∷ image p b ∷ image p a ∷ image p (pos w) ∷ w ∷ []))
      (var 0) (add (mul (var 3) (var 5)) (var 2))
      (given (num 1) (var 0) (add (var 1) (var 2)) (add_image (a *ℤ pos w) b)
      (given (num 1) (var 1) (mul (var 3) (var 4)) (mul_image a (pos w))
      (given (var 3) (var 4) (var 5) (image-pos w) none)))
      tt)

  pub neg_small : (n : ℕ) → suc n < p → neg_mod p (suc n) ≡ p - suc n
  unfolding neg_mod
  neg_small n h =
      let r : residue p (suc n) ≡ suc n = residue-small p (suc n) (omega arith) in
      let b : base p ≡ p = omega arith in
      ap (λ x. residue p (base p - x)) r ∙ ap (λ q. residue p (q - suc n)) b ∙ residue-small p (p - suc n) (omega arith)

  -- "A negative reading r becomes P + r"
  pub image-by_sign : (z : ℤ) → nat_abs z < p → pos (image p z) ≡ by_sign p z
  unfolding image
  image-by_sign (pos n) h = ap pos (residue-small p n (omega arith))
  image-by_sign (negsuc n) h =
      ap pos (neg_small n h) ∙ sym (cond_false (ltb p (suc n)) (negsuc (suc n - suc p)) (pos (p - suc n)) (le-ltb p (suc n) (omega arith)))
