-- The machine's arithmetic is the algebra's.
use mathlib.Core.Path.{◌≡◌, ap, ◌∙◌, subst⁻¹}
use Prim.Native.Nat.{ℕ, ◌+◌, ◌-◌, ◌*◌, ◌%◌, ◌^◌, ◌≤◌, ◌<◌}
use native.Mathlib.Nat.{lt_of_le_of_lt, mul-le-mul, mul-le-mul_left, mul-lt-mul_of_pos_right, le_of_lt, mod_self, sub-zero}
use native.Mathlib.Omega.{arith}
use lib.Pow.{pow-add, pow_pos}
use Rattle.algebra.specs.Mod.{base, residue, add_mod, neg_mod, mul_mod}
use Rattle.algebra.proofs.Congruence.{cong_add, cong_refl, cong_residue, cong_sym, residue-lt, residue-small}

-- the product of two k-bit numbers
pub product-below : (k : ℕ) {a b : ℕ} → a < 2 ^ k → b < 2 ^ k → a * b < 2 ^ (k + k)
product-below k {a} {b} ha hb =
    subst⁻¹ (λ (n : ℕ). a * b < n) (pow-add 2 k k)
    (lt_of_le_of_lt (mul-le-mul_left a (le_of_lt hb)) (mul-lt-mul_of_pos_right ha (pow_pos k)))

-- a + b c of 32-bit numbers
pub sum-product-below : {a b c : ℕ} → a < 2 ^ 32 → b < 2 ^ 32 → c < 2 ^ 32 → a + b * c < 2 ^ 64
sum-product-below {a} {b} {c} ha hb hc =
    let hb' : b ≤ 4294967295 = omega arith in
    let hc' : c ≤ 4294967295 = omega arith in
    let m : b * c ≤ 4294967295 * 4294967295 = mul-le-mul hb' hc' in
    omega arith

pub residue-none : (a : ℕ) → residue 0 a ≡ 0
residue-none a = omega (arith, residue-lt 0 a)

base-residue : (p : ℕ) → residue p (base p - 0) ≡ 0
unfolding residue
base-residue p = ap (λ x. x % base p) (sub-zero (base p)) ∙ mod_self (base p)

module _ (p a : ℕ) where
  -- a negated number, by whether its residue is 0
  pub neg_zero : residue p a ≡ 0 → neg_mod p a ≡ 0
  unfolding neg_mod
  neg_zero z = ap (λ r. residue p (base p - r)) z ∙ base-residue p

  pub neg_other : (residue p a ≡ 0 → ⊥) → neg_mod p a ≡ p - residue p a
  unfolding neg_mod
  neg_other n =
      residue-small p (base p - residue p a) (omega (arith, residue-lt p a))
      ∙ (let b : base p ≡ p = omega (arith, residue-lt p a) in ap (λ q. q - residue p a) b)

  pub residue-below : (residue p a ≡ 0 → ⊥) → residue p a < p
  residue-below n = omega (arith, residue-lt p a)

pub add_mul_residue : (p a b c : ℕ) → residue p (a + b * c) ≡ add_mod p a (mul_mod p b c)
unfolding add_mod mul_mod
add_mul_residue p a b c = (cong_add (cong_refl a) (cong_sym (cong_residue (b * c)))).residues
