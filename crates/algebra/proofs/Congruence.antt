-- Congruence modulo p of numbers that need not be reduced, and what the operations are up to it.
use mathlib.Core.Path.{◌≡◌, refl, sym, ap, ap₂, ◌∙◌}
use Prim.Native.Nat.{ℕ, zero, suc, ◌+◌, ◌-◌, ◌*◌, ◌/◌, ◌%◌, ◌<◌}
use native.Mathlib.Nat.{add_assoc, add-mod, add-mod_right, add-mul, add-sub_of_le, div-add-mod, le_of_lt, mod-add-mod, mod-eq_of_lt, mod-lt, mod-mod, mod_self, mul-add-mod_self_left, mul_assoc, mul_comm, zero-mod}
use native.Mathlib.Omega.{arith}
use Rattle.algebra.specs.Mod.{base, residue, add_mod, neg_mod, sub_mod, mul_mod}

pub base-pos : (p : ℕ) → 0 < base p
base-pos p = omega arith

pub base-of : (p : ℕ) → 0 < p → base p ≡ p
base-of p h = omega arith

pub residue-lt : (p a : ℕ) → residue p a < base p
unfolding residue
residue-lt p a = mod-lt a (base-pos p)

pub residue-of : (p : ℕ) → 0 < p → (a : ℕ) → residue p a ≡ a % p
unfolding residue
residue-of p h a = ap (λ q. a % q) (base-of p h)

pub residue-small : (p a : ℕ) → a < base p → residue p a ≡ a
unfolding residue
residue-small p a h = mod-eq_of_lt h

pub residue-twice : (p a : ℕ) → residue p (residue p a) ≡ residue p a
unfolding residue
residue-twice p a = mod-mod a (base p)

pub residue-zero : (p : ℕ) → residue p 0 ≡ 0
unfolding residue
residue-zero p = zero-mod (base p)

-- a record, so that its numbers are inferred
pub record Cong (p a b : ℕ) : Type 0 where
  pub residues : residue p a ≡ residue p b

-- a factor may be replaced by its residue
mod_mul : (q a b : ℕ) → (a % q * b) % q ≡ (a * b) % q
mod_mul q a b =
    sym
    (ap (λ x. (x * b) % q) (sym (div-add-mod a q))
    ∙ ap (λ x. x % q) (add-mul (q * (a / q)) (a % q) b ∙ ap (λ x. x + a % q * b) (mul_assoc q (a / q) b))
    ∙ mul-add-mod_self_left q (a / q * b) (a % q * b))

mul_mod_lem : (q a b : ℕ) → (a * (b % q)) % q ≡ (a * b) % q
mul_mod_lem q a b = ap (λ x. x % q) (mul_comm a (b % q)) ∙ mod_mul q b a ∙ ap (λ x. x % q) (mul_comm b a)

module _ {p : ℕ} where
  pub cong_refl : (a : ℕ) → Cong p a a
  cong_refl a = record { residues = refl }

  pub cong_sym : {a b : ℕ} → Cong p a b → Cong p b a
  cong_sym e = record { residues = sym e.residues }

  pub cong_trans : {a b c : ℕ} → Cong p a b → Cong p b c → Cong p a c
  cong_trans e f = record { residues = e.residues ∙ f.residues }

  pub cong_eq : {a b : ℕ} → a ≡ b → Cong p a b
  cong_eq e = record { residues = ap (residue p) e }

  pub cong_residue : (a : ℕ) → Cong p (residue p a) a
  cong_residue a = record { residues = residue-twice p a }

  pub cong_add : {a b c d : ℕ} → Cong p a b → Cong p c d → Cong p (a + c) (b + d)
  unfolding residue
  cong_add {a} {b} {c} {d} e f =
      let q = base p in
      record { residues = add-mod a c q ∙ ap₂ (λ u v. (u + v) % q) e.residues f.residues ∙ sym (add-mod b d q) }

  pub cong_mul : {a b c d : ℕ} → Cong p a b → Cong p c d → Cong p (a * c) (b * d)
  unfolding residue
  cong_mul {a} {b} {c} {d} e f =
      let q = base p in
      record {
        residues =
            sym (mod_mul q a c) ∙ sym (mul_mod_lem q (a % q) c) ∙ ap₂ (λ u v. (u * v) % q) e.residues f.residues
            ∙ mul_mod_lem q (b % q) d
            ∙ mod_mul q b d;
      }

  -- two reduced numbers that are congruent are equal
  pub cong_reduced : {a b : ℕ} → a < base p → b < base p → Cong p a b → a ≡ b
  cong_reduced {a} {b} ha hb e = sym (residue-small p a ha) ∙ e.residues ∙ residue-small p b hb

  -- the whole modulus less a residue takes the number away
  base-off : (a k : ℕ) → Cong p (a + k + (base p - residue p k)) a
  unfolding residue
  base-off a k =
      let q = base p in
      cong_trans (cong_eq (add_assoc a k (q - k % q)))
      (cong_trans
      (cong_add (cong_refl a) (record { residues = sym (mod-add-mod k q (q - k % q)) ∙ ap (λ x. x % q) (add-sub_of_le (le_of_lt (mod-lt k (base-pos p)))) }))
      (record { residues = add-mod_right a q }))

  pub cong_cancel : {a b : ℕ} (k : ℕ) → Cong p (a + k) (b + k) → Cong p a b
  cong_cancel {a} {b} k e =
      cong_trans (cong_sym (base-off a k)) (cong_trans (cong_add e (cong_refl (base p - residue p k))) (base-off b k))

  pub add_cong : (a b : ℕ) → Cong p (add_mod p a b) (a + b)
  unfolding add_mod
  add_cong a b = cong_residue (a + b)

  pub mul_cong : (a b : ℕ) → Cong p (mul_mod p a b) (a * b)
  unfolding mul_mod
  mul_cong a b = cong_residue (a * b)

  pub neg_cong : (a : ℕ) → Cong p (neg_mod p a + a) 0
  unfolding neg_mod
  neg_cong a =
      cong_trans (cong_add (cong_residue (base p - residue p a)) (cong_refl a))
      (cong_trans (cong_eq (omega arith)) (base-off 0 a))

  pub sub_cong : (a b : ℕ) → Cong p (sub_mod p a b) (a + neg_mod p b)
  unfolding sub_mod neg_mod
  sub_cong a b =
      cong_trans (cong_residue (a + (base p - residue p b)))
      (cong_add (cong_refl a) (cong_sym (cong_residue (base p - residue p b))))

-- the modulus is congruent to 0
pub cong_modulus : (p : ℕ) → Cong p p 0
unfolding residue
cong_modulus zero = cong_refl 0
cong_modulus (suc q) =
    let p = suc q in
    record { residues = ap (λ b. p % b) (base-of p (omega arith)) ∙ mod_self p ∙ sym (zero-mod (base p)) }
