-- The total of a rule check's run is the sum of a_i b_i v^i, and so its claim where no row fails.
use mathlib.Core.Path.{◌≡◌, refl, sym, ap, ◌∙◌, fun_ext}
use mathlib.Core.Bool.{Bool, true, false, cond}
use Prim.Native.Nat.{ℕ, zero, suc, ◌*◌, ◌^◌, ◌≤◌, ◌<◌, min}
use native.Mathlib.Nat.{mul_right_comm, pow-succ', pow-zero}
use native.Mathlib.Omega.{arith}
use lib.Dec.{ltb}
use lib.ListN.{length, replicate}
use lib.Seq.{get_or-take, length-take-le}
use borrow.Author.Tests.{ltb-true, lt-ltb}
use Rattle.algebra.specs.Mod.{residue, mul_mod, pow_mod}
use Rattle.algebra.proofs.Congruence.{Cong, cong_refl, cong_trans, cong_eq, cong_mul, cong_residue, mul_cong}
use Rattle.vector.specs.Vector.{Vector, at, sum, dot, weight, padded, twisted}
use Rattle.vector.specs.Twist.{twist_of, twists_of}
use Rattle.vector.proofs.Sums.{sum-cong}
use Rattle.vector.proofs.Weights.{weight-challenges}
use Rattle.vector.proofs.TwistPowers.{twists_weight}
use Rattle.vector.proofs.EndValues.{twisted-padded}
use Rattle.vector.proofs.Messages.{dot-padded}
use Rattle.vector.proofs.Overwrite.{overwrite-length}
use Rattle.r1cs.specs.Check.{rule_twists, rule_first, rule_total, rule_claim, NoRowFails}

module _ {p : ℕ} where
  pow_cong : (v i : ℕ) → Cong p (pow_mod p v i) (v ^ i)
  unfolding pow_mod
  pow_cong v zero = cong_trans (cong_residue 1) (cong_eq (sym (pow-zero v)))
  pow_cong v (suc i) =
      cong_trans (mul_cong v (pow_mod p v i)) (cong_trans (cong_mul (cong_refl v) (pow_cong v i)) (cong_eq (sym (pow-succ' v i))))

pub padded-same : (items : ℕ) (u w : Vector) → ((i : ℕ) → i < items → u i ≡ w i) → padded items u ≡ padded items w
padded-same items u w e = fun_ext (λ i. by i (ltb i items) refl)
  where
    by : (i : ℕ) (t : Bool) → ltb i items ≡ t → cond t (u i) 0 ≡ cond t (w i) 0
    by i true h = e i (ltb-true i items h)
    by i false h = refl

module _ (p v n : ℕ) (small : n ≤ 15) where
  twists_length : length (rule_twists p v n) ≡ n
  twists_length =
      length-take-le n (twists_of p v n)
      (omega (arith, overwrite-length (twist_of p v) (replicate 15 0) (min n 15)))

  rule-weight : (i : ℕ) → i < 2 ^ n → weight p (at (rule_twists p v n)) (length (rule_twists p v n)) i ≡ pow_mod p v i
  rule-weight i less =
      ap (λ k. weight p (at (rule_twists p v n)) k i) twists_length
      ∙ weight-challenges p (at (twists_of p v n)) (at (rule_twists p v n)) n i (λ k h. get_or-take n (twists_of p v n) k 0 h)
      ∙ twists_weight p v n i small less

  -- item i of the first vector is that of a times v^i
  pub rule-first : (a : Vector) → rule_first p v n a ≡ padded (2 ^ n) (λ i. mul_mod p (a i) (pow_mod p v i))
  rule-first a =
      twisted-padded p (rule_twists p v n) (2 ^ n) a
      ∙ padded-same (2 ^ n) (twisted p (rule_twists p v n) a) (λ i. mul_mod p (a i) (pow_mod p v i))
      (λ i less. ap (mul_mod p (a i)) (rule-weight i less))

  -- which is what a run that `start_rule` started lets enter, with its twists in fifteen places
  pub rule-enters : (a : Vector) (i : ℕ) → i < 2 ^ n → rule_first p v n a i ≡ mul_mod p (a i) (weight p (at (twists_of p v n)) n i)
  rule-enters a i less =
      ap (λ (f : Vector). f i) (rule-first a)
      ∙ ap (λ b. cond b (mul_mod p (a i) (pow_mod p v i)) 0) (lt-ltb i (2 ^ n) less)
      ∙ ap (mul_mod p (a i)) (sym (twists_weight p v n i small less))

  -- THE TOTAL
  pub rule-total : (a b : Vector) → rule_total p v n a b ≡ residue p (sum (2 ^ n) (λ i. a i * b i * v ^ i))
  rule-total a b =
      ap (λ f. dot p (2 ^ n) f (padded (2 ^ n) b)) (rule-first a)
      ∙ dot-padded p (2 ^ n) (2 ^ n) (omega arith) (λ i. mul_mod p (a i) (pow_mod p v i)) b
      ∙ (sum-cong (2 ^ n) (λ i. mul_mod p (a i) (pow_mod p v i) * b i) (λ i. a i * b i * v ^ i)
      (λ i less.
      cong_trans (cong_mul (cong_trans (mul_cong (a i) (pow_mod p v i)) (cong_mul (cong_refl (a i)) (pow_cong v i))) (cong_refl (b i)))
      (cong_eq (mul_right_comm (a i) (v ^ i) (b i))))
      ).residues

  -- "which is the run's total when no row fails"
  pub rule-claim : (a b c : Vector) → NoRowFails p n a b c → rule_total p v n a b ≡ rule_claim p v n c
  unfolding mul_mod
  rule-claim a b c holds =
      rule-total a b
      ∙ (sum-cong (2 ^ n) (λ i. a i * b i * v ^ i) (λ i. c i * v ^ i)
      (λ i less. cong_mul (record { residues = holds i less }) (cong_refl (v ^ i)))
      ).residues
