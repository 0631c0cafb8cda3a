-- The weight of an index is that of its upper bits times that of its four lowest.
use mathlib.Core.Path.{◌≡◌, refl, sym, ap, ap₂, ◌∙◌}
use mathlib.Core.Bool.{Bool, true, false, cond}
use mathlib.Core.List.{List}
use Prim.Native.Nat.{ℕ, zero, suc, ◌+◌, ◌-◌, ◌*◌, ◌/◌, ◌%◌, ◌^◌, ◌<◌, ◌≤◌, min}
use native.Mathlib.Omega.{arith}
use borrow.Author.Tests.{ltb-true, ltb-false, eqb-true, eqb-false}
use lib.Dec.{eqb, ltb}
use lib.ListN.{set, replicate, length-replicate}
use lib.Pow.{pow_mono, shr-shr}
use Rattle.algebra.specs.Mod.{residue, mul_mod}
use Rattle.algebra.proofs.Laws.{mul_commutes, mul_associates, one_product, mul_residue}
use Rattle.algebra.proofs.Congruence.{residue-twice}
use Rattle.vector.specs.Vector.{Vector, at, bit, weight}
use Rattle.vector.specs.Twist.{low_weights}
use Rattle.vector.proofs.Counts.{bit-low, bit-modulo}
use Rattle.vector.specs.Slice.{overwrite}
use Rattle.vector.proofs.Overwrite.{overwrite-written, overwrite-next}
use Rattle.vector.proofs.Weights.{weight-zero}

-- the bits of an index, in its two parts
low_bit : (k i : ℕ) → k < 4 → bit k (i % 16) ≡ bit k i
low_bit k i h = bit-modulo 3 k i (omega arith)

low_none : (k i : ℕ) → 4 ≤ k → bit k (i % 16) ≡ 0
low_none k i h =
    let least : 2 ^ 4 ≤ 2 ^ k = pow_mono h in
    let less : i % 16 < 16 = omega arith in
    bit-low k (i % 16) (omega arith)

high_bit : (k i : ℕ) → 4 ≤ k → bit k (i / 16 * 16) ≡ bit k i
high_bit k i h =
    let split : 4 + (k - 4) ≡ k = omega arith in
    let q : i / 16 * 16 / 16 ≡ i / 16 = omega arith in
    ap (λ k. i / 16 * 16 / 2 ^ k % 2) (sym split) ∙ ap (λ x. x % 2) (sym (shr-shr (i / 16 * 16) 4 (k - 4)) ∙ ap (λ x. x / 2 ^ (k - 4)) q ∙ shr-shr i 4 (k - 4))
    ∙ ap (λ k. i / 2 ^ k % 2) split

high_none : (k i : ℕ) → k < 4 → bit k (i / 16 * 16) ≡ 0
high_none zero i h = omega arith
high_none (suc zero) i h = omega arith
high_none (suc (suc zero)) i h = omega arith
high_none (suc (suc (suc zero))) i h = omega arith
high_none (suc (suc (suc (suc k)))) i h = absurd (omega arith)

module _ (p : ℕ) (v : Vector) where
  -- one more place
  abbrev factor : ℕ → ℕ → ℕ
  factor n i = cond (eqb (bit n i) 1) (v n) 1

  exchange : (a b c : ℕ) → mul_mod p (mul_mod p a b) c ≡ mul_mod p (mul_mod p a c) b
  exchange a b c = mul_associates p a b c ∙ ap (mul_mod p a) (mul_commutes p b c) ∙ sym (mul_associates p a c b)

  pub weight-split : (n i : ℕ) → weight p v n i ≡ mul_mod p (weight p v n (i / 16 * 16)) (weight p v n (i % 16))
  unfolding weight
  weight-split zero i = sym (mul_residue p 1 (residue p 1) ∙ one_product p (residue p 1) ∙ residue-twice p 1)
  weight-split (suc n) i = by (ltb n 4) refl (weight-split n i)
    where
      by : (b : Bool) → ltb n 4 ≡ b → weight p v n i ≡ mul_mod p (weight p v n (i / 16 * 16)) (weight p v n (i % 16))
          → weight p v (suc n) i ≡ mul_mod p (weight p v (suc n) (i / 16 * 16)) (weight p v (suc n) (i % 16))
      by true e rest =
          let low : n < 4 = ltb-true n 4 e in
          ap₂ (mul_mod p) rest (ap (λ b. cond (eqb b 1) (v n) 1) (sym (low_bit n i low)))
          ∙ mul_associates p (weight p v n (i / 16 * 16)) (weight p v n (i % 16)) (factor n (i % 16))
          ∙ ap (λ x. mul_mod p x (weight p v (suc n) (i % 16))) (sym (weight-zero p v n (i / 16 * 16) (high_none n i low)))
      by false e rest =
          let high : 4 ≤ n = ltb-false n 4 e in
          ap₂ (mul_mod p) rest (ap (λ b. cond (eqb b 1) (v n) 1) (sym (high_bit n i high)))
          ∙ exchange (weight p v n (i / 16 * 16)) (weight p v n (i % 16)) (factor n (i / 16 * 16))
          ∙ ap (mul_mod p (weight p v (suc n) (i / 16 * 16))) (sym (weight-zero p v n (i % 16) (low_none n i high)))

-- what the table holds
pub low_at : (p : ℕ) (cs : List ℕ) (n i : ℕ) → at (low_weights p cs n) (i % 16) ≡ weight p (at cs) (min n 15) (i % 16)
low_at p cs n i =
    overwrite-written (weight p (at cs) (min n 15)) (replicate 16 0) 16 (i % 16) (omega (arith, length-replicate {A = ℕ} 16 0)) (omega arith)

-- ONE PRODUCT for the weight of an index
pub split_weight_is : (p : ℕ) (cs : List ℕ) (n i : ℕ)
    → mul_mod p (weight p (at cs) (min n 15) (i / 16 * 16)) (at (low_weights p cs n) (i % 16)) ≡ weight p (at cs) (min n 15) i
split_weight_is p cs n i =
    ap (mul_mod p (weight p (at cs) (min n 15) (i / 16 * 16))) (low_at p cs n i) ∙ sym (weight-split p (at cs) (min n 15) i)

-- the product of the upper bits, kept from one index to the next
pub upper_is : (W : ℕ → ℕ) (i before : ℕ) → ((i % 16 ≡ 0 → ⊥) → before ≡ W (i / 16 * 16)) → cond (eqb (i % 16) 0) (W i) before ≡ W (i / 16 * 16)
upper_is W i before same = by (eqb (i % 16) 0) refl
  where
    by : (t : Bool) → eqb (i % 16) 0 ≡ t → cond t (W i) before ≡ W (i / 16 * 16)
    by true e =
        let z : i % 16 ≡ 0 = eqb-true (i % 16) 0 e in
        let q : i ≡ i / 16 * 16 = omega arith in
        ap W q
    by false e = same (eqb-false (i % 16) 0 e)

-- one turn of the loop over consecutive indices
module _ (p : ℕ) (cs : List ℕ) (n first : ℕ) (xs out : List ℕ) (i high high' x : ℕ) where
  abbrev W : ℕ → ℕ
  W = weight p (at cs) (min n 15)

  module _ (kept : ((first + i) % 16 ≡ 0 → ⊥) → high ≡ W ((first + i) / 16 * 16)) (now : high' ≡ cond (eqb ((first + i) % 16) 0) (W (first + i)) high) where
    upper_now : high' ≡ W ((first + i) / 16 * 16)
    upper_now = now ∙ upper_is W (first + i) high kept

    pub weights-kept : ((first + (i + 1)) % 16 ≡ 0 → ⊥) → high' ≡ W ((first + (i + 1)) / 16 * 16)
    weights-kept h =
        let same : (first + i) / 16 * 16 ≡ (first + (i + 1)) / 16 * 16 = by h in
        upper_now ∙ ap W same
      where
        by : ((first + (i + 1)) % 16 ≡ 0 → ⊥) → (first + i) / 16 * 16 ≡ (first + (i + 1)) / 16 * 16
        by h = omega (arith, h)

    pub weights-turn : out ≡ overwrite (λ j. W (first + j)) i xs → x ≡ mul_mod p high' (at (low_weights p cs n) ((first + i) % 16))
        → set out i x ≡ overwrite (λ j. W (first + j)) (i + 1) xs
    weights-turn so val =
        ap₂ (λ ys y. set ys i y) so (val ∙ ap (λ h. mul_mod p h (at (low_weights p cs n) ((first + i) % 16))) upper_now ∙ split_weight_is p cs n (first + i))
        ∙ overwrite-next (λ j. W (first + j)) xs i
