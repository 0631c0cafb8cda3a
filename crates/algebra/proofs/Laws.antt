-- The laws of a commutative ring, for every p. Each unit law says `residue p a`: an argument need not be reduced.
use mathlib.Core.Path.{◌≡◌, sym, ap, ◌∙◌}
use mathlib.Core.List.{[], ◌∷◌}
use Prim.Native.Nat.{ℕ, zero, suc, ◌+◌, ◌*◌, ◌%◌, ◌<◌}
use native.Mathlib.Nat.{suc-add, zero-add, one-mul, zero-mul}
use native.Mathlib.Omega.{arith}
use Rattle.algebra.specs.Mod.{base, residue, add_mod, neg_mod, sub_mod, mul_mod, pow_mod, half_one, half_mod}
use Rattle.algebra.proofs.Congruence.{Cong, cong_add, cong_eq, cong_modulus, cong_mul, cong_refl, cong_residue, cong_trans, add_cong, residue-lt, residue-twice, residue-zero}
use Rattle.algebra.proofs.Ring.{var, num, add, sub, mul, neg, solve, solve_from, vars, none, given}

module _ (p : ℕ) where
  pub add_lt : (a b : ℕ) → add_mod p a b < base p
  unfolding add_mod
  add_lt a b = residue-lt p (a + b)

  pub mul_lt : (a b : ℕ) → mul_mod p a b < base p
  unfolding mul_mod
  mul_lt a b = residue-lt p (a * b)

  pub add_commutes : (a b : ℕ) → add_mod p a b ≡ add_mod p b a
  add_commutes a b = solve p (vars (a ∷ b ∷ [])) (add (var 0) (var 1)) (add (var 1) (var 0)) tt

  pub mul_commutes : (a b : ℕ) → mul_mod p a b ≡ mul_mod p b a
  mul_commutes a b = solve p (vars (a ∷ b ∷ [])) (mul (var 0) (var 1)) (mul (var 1) (var 0)) tt

  pub add_associates : (a b c : ℕ) → add_mod p (add_mod p a b) c ≡ add_mod p a (add_mod p b c)
  add_associates a b c =
      solve p (vars (a ∷ b ∷ c ∷ [])) (add (add (var 0) (var 1)) (var 2)) (add (var 0) (add (var 1) (var 2))) tt

  pub mul_associates : (a b c : ℕ) → mul_mod p (mul_mod p a b) c ≡ mul_mod p a (mul_mod p b c)
  mul_associates a b c =
      solve p (vars (a ∷ b ∷ c ∷ [])) (mul (mul (var 0) (var 1)) (var 2)) (mul (var 0) (mul (var 1) (var 2))) tt

  pub mul_distributes : (a b c : ℕ) → mul_mod p a (add_mod p b c) ≡ add_mod p (mul_mod p a b) (mul_mod p a c)
  mul_distributes a b c =
      solve p (vars (a ∷ b ∷ c ∷ [])) (mul (var 0) (add (var 1) (var 2))) (add (mul (var 0) (var 1)) (mul (var 0) (var 2))) tt

  pub zero-sum : (a : ℕ) → add_mod p 0 a ≡ residue p a
  unfolding add_mod
  zero-sum a = ap (residue p) (zero-add a)

  pub zero-product : (a : ℕ) → mul_mod p 0 a ≡ 0
  unfolding mul_mod
  zero-product a = ap (residue p) (zero-mul a) ∙ residue-zero p

  pub one_product : (a : ℕ) → mul_mod p 1 a ≡ residue p a
  unfolding mul_mod
  one_product a = ap (residue p) (one-mul a)

  -- a factor may be replaced by its residue
  pub mul_residue : (a b : ℕ) → mul_mod p (residue p a) b ≡ mul_mod p a b
  unfolding mul_mod
  mul_residue a b = (cong_mul (cong_residue a) (cong_refl b)).residues

  pub neg_sum : (a : ℕ) → add_mod p (neg_mod p a) a ≡ 0
  neg_sum a = solve p (vars (a ∷ [])) (add (neg (var 0)) (var 0)) (mul (num 0) (num 0)) tt ∙ zero-product 0

  pub sub_is : (a b : ℕ) → sub_mod p a b ≡ add_mod p a (neg_mod p b)
  sub_is a b = solve p (vars (a ∷ b ∷ [])) (sub (var 0) (var 1)) (add (var 0) (neg (var 1))) tt

  pub pow_lt : (a n : ℕ) → pow_mod p a n < base p
  unfolding pow_mod
  pow_lt a zero = residue-lt p 1
  pow_lt a (suc n) = mul_lt a (pow_mod p a n)

  pub pow_residue : (a n : ℕ) → residue p (pow_mod p a n) ≡ pow_mod p a n
  unfolding pow_mod mul_mod
  pow_residue a zero = residue-twice p 1
  pow_residue a (suc n) = residue-twice p (a * pow_mod p a n)

  pub pow_sum : (a m n : ℕ) → pow_mod p a (m + n) ≡ mul_mod p (pow_mod p a m) (pow_mod p a n)
  unfolding pow_mod
  pow_sum a zero n =
      ap (pow_mod p a) (zero-add n) ∙ sym (mul_residue 1 (pow_mod p a n) ∙ one_product (pow_mod p a n) ∙ pow_residue a n)
  pow_sum a (suc m) n =
      ap (pow_mod p a) (suc-add m n) ∙ ap (mul_mod p a) (pow_sum a m n) ∙ sym (mul_associates a (pow_mod p a m) (pow_mod p a n))

-- For an odd p twice (p + 1) / 2 is 1.
pub half_one_lem : (p : ℕ) → p % 2 ≡ 1 → Cong p (half_one p + half_one p) 1
unfolding half_one
half_one_lem p odd =
    cong_trans (cong_eq (omega arith)) (cong_trans (cong_add (cong_modulus p) (cong_refl 1)) (cong_eq (zero-add 1)))

pub half_twice : (p : ℕ) → p % 2 ≡ 1 → (a : ℕ) → Cong p (add_mod p (half_mod p a) (half_mod p a)) a
unfolding half_mod
half_twice p odd a =
    solve_from p (vars (a ∷ half_one p ∷ [])) (add (mul (var 0) (var 1)) (mul (var 0) (var 1))) (var 0)
    (given (var 0) (add (var 1) (var 1)) (num 1) (cong_trans (add_cong (half_one p) (half_one p)) (half_one_lem p odd)) none)
    tt
