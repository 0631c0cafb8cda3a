-- The rule check from matrix files to the verdict: document 01, "Rules".
use mathlib.Core.Path.{◌≡◌, sym, ap, ap₂, ◌∙◌}
use mathlib.Core.Bool.{true}
use mathlib.Core.List.{List}
use Prim.Native.Nat.{ℕ, ◌*◌, ◌^◌, ◌≤◌, ◌<◌}
use native.Mathlib.Omega.{arith}
use lib.Dec.{ltb}
use lib.ListN.{length, take}
use lib.Seq.{get_or-take, length-take-le}
use borrow.Author.Tests.{le-leb, ltb-true, lt-ltb}
use Rattle.algebra.specs.Mod.{residue, mul_mod}
use Rattle.algebra.proofs.Congruence.{base-of, residue-lt}
use Rattle.refusal.specs.Limit.{max_rounds}
use Rattle.refusal.specs.Outcome.{Outcome, answered}
use Rattle.refusal.proofs.Outcome.{both}
use Rattle.vector.specs.Vector.{Vector, at, sum}
use Rattle.vector.specs.Slice.{is_nonzero}
use Rattle.vector.proofs.Horner.{evaluate-same}
use Rattle.vector.proofs.Overwrite.{overwrite-length, overwrite-kept, overwrite-written}
use Rattle.verifier.specs.Records.{Replied, yes, no}
use Rattle.verifier.specs.Starts.{start_rule}
use Rattle.verifier.proofs.Answered.{start-rule_says}
use Rattle.r1cs.specs.Product.{matrix_in, product_of, product_call, product_in, product_leaves}
use Rattle.r1cs.specs.Claim.{claim_call}
use Rattle.r1cs.specs.Check.{rule_total, rule_message, rule_claim, NoRowFails, RulesHold, rule_verdict}
use Rattle.r1cs.proofs.Vectors.{RuleVector, of_vector}
use Rattle.r1cs.proofs.ProductSays.{product-answered}
use Rattle.r1cs.proofs.ClaimRows.{claim-answered}
use Rattle.r1cs.proofs.RuleTotals.{rule-total, rule-claim}
use Rattle.r1cs.proofs.RuleVerdicts.{rule-yes, rule-no}

-- what an answered product leaves in its buffer
module _ (p : ℕ) (file z out : List ℕ) (n : ℕ) (answers : product_call p file z out ≡ answered n) where
  room : 2 ^ n ≤ length out
  room = ((product-answered p file z out n).0 answers).buffer

  pub product_at : (i : ℕ) → i < 2 ^ n → at (product_leaves p file z out) i ≡ product_of p n file z i
  unfolding product_in
  product_at i less =
      ap (λ o. at (product_in p file z out o) i) answers ∙ overwrite-written (product_of p n file z) out (2 ^ n) i room less

  pub product-kept : (i : ℕ) → 2 ^ n ≤ i → at (product_leaves p file z out) i ≡ at out i
  unfolding product_in
  product-kept i le = ap (λ o. at (product_in p file z out o) i) answers ∙ overwrite-kept (product_of p n file z) out (2 ^ n) i le

  pub product-length : length (product_leaves p file z out) ≡ length out
  unfolding product_in
  product-length = ap (λ o. length (product_in p file z out o)) answers ∙ overwrite-length (product_of p n file z) out (2 ^ n)

  pub product-rounds : n ≤ 15
  product-rounds =
      let good = ((product-answered p file z out n).0 answers).matrix in
      omega (arith, good.frame.most, good.rounds)

  pub product-reduced : 0 < p → (i : ℕ) → i < 2 ^ n → at (product_leaves p file z out) i < p
  product-reduced positive i less =
      let e = base-of p positive in
      omega (arith, product_at i less, residue-lt p (sum (2 ^ n) (λ j. matrix_in file i j * at z j)))

above_zero : (p v : ℕ) → is_nonzero p v ≡ true → 0 < p
above_zero p v h =
    let point = both (ltb 0 v) (ltb v p) h in
    omega (arith, ltb-true 0 v point.0, ltb-true v p point.1)

claim-of : {x y : ℕ} → ◌≡◌ {A = Outcome ℕ} (answered x) (answered y) → x ≡ y
claim-of e = cc

-- any three matrix files and a vector that `product` answers for with the same n, the buffers holding anything before
module _ (p : ℕ) (file_a file_b file_c z out_a out_b out_c : List ℕ) (n v : ℕ)
    (answers-a : product_call p file_a z out_a ≡ answered n) (answers-b : product_call p file_b z out_b ≡ answered n)
    (answers-c : product_call p file_c z out_c ≡ answered n) where
  abbrev az : Vector
  az = at (product_leaves p file_a z out_a)

  abbrev bz : Vector
  bz = at (product_leaves p file_b z out_b)

  abbrev cz : List ℕ
  cz = take (2 ^ n) (product_leaves p file_c z out_c)

  -- the run's total
  pub check_total : rule_total p v n az bz ≡ residue p (sum (2 ^ n) (λ i. az i * bz i * v ^ i))
  check_total = rule-total p v n (product-rounds p file_a z out_a n answers-a) az bz

  cz-at : (i : ℕ) → i < 2 ^ n → at cz i ≡ product_of p n file_c z i
  cz-at i less = get_or-take (2 ^ n) (product_leaves p file_c z out_c) i 0 less ∙ product_at p file_c z out_c n answers-c i less

  cz-vector : 0 < p → RuleVector p (2 ^ n) cz
  cz-vector positive =
      record {
        long =
            length-take-le (2 ^ n) (product_leaves p file_c z out_c)
            (omega (arith, product-length p file_c z out_c n answers-c, room p file_c z out_c n answers-c));
        reduced =
            λ i less.
            omega
            (arith, get_or-take (2 ^ n) (product_leaves p file_c z out_c) i 0 less, product-reduced p file_c z out_c n answers-c positive i less);
      }

  -- the claim of the first 2^n places is answered
  pub check_claim : is_nonzero p v ≡ true → claim_call p cz n v ≡ answered (rule_claim p v n (product_of p n file_c z))
  check_claim point =
      sym
      (claim-answered p cz n v (le-leb n max_rounds (product-rounds p file_c z out_c n answers-c)) point
      (of_vector p (2 ^ n) cz (cz-vector (above_zero p v point))))
      ∙ ap answered (evaluate-same p (2 ^ n) (at cz) (product_of p n file_c z) v cz-at)

  -- no row of the three matrices fails: the claim is the run's total
  module _ (holds : RulesHold p n file_a file_b file_c z) where
    rows-hold : NoRowFails p n az bz (product_of p n file_c z)
    rows-hold i less =
        ap₂ (mul_mod p) (product_at p file_a z out_a n answers-a i less) (product_at p file_b z out_b n answers-b i less) ∙ holds i less

    pub check_claim_total : is_nonzero p v ≡ true → claim_call p cz n v ≡ answered (rule_total p v n az bz)
    check_claim_total point =
        check_claim point
        ∙ ap answered
        (sym (rule-claim p v n (product-rounds p file_a z out_a n answers-a) az bz (product_of p n file_c z) rows-hold))

  -- a verifier started for the run, the products given to it, the claim in place of the total, and the run's messages
  module _ (cs : List ℕ) (s : Replied) (starts : start_rule p n v cs ≡ answered s) (claim : ℕ) (claims : claim_call p cz n v ≡ answered claim) where
    point : is_nonzero p v ≡ true
    point = (start-rule_says p n v cs starts).1

    a-field : (i : ℕ) → i < 2 ^ n → az i < p
    a-field = product-reduced p file_a z out_a n answers-a (above_zero p v point)

    b-field : (i : ℕ) → i < 2 ^ n → bz i < p
    b-field = product-reduced p file_b z out_b n answers-b (above_zero p v point)

    -- THE RULE CHECK: yes where no row fails
    pub check_accepts : RulesHold p n file_a file_b file_c z
        → rule_verdict p n s.verifier az bz claim (rule_message p v n (at cs) az bz) ≡ answered yes
    check_accepts holds =
        ap (λ x. rule_verdict p n s.verifier az bz x (rule_message p v n (at cs) az bz)) (claim-of (sym claims ∙ check_claim_total holds point))
        ∙ rule-yes p n v cs az bz s starts a-field b-field

    -- and no at 0 where the total is not the claim, so that a row fails
    pub check_rejects : (rule_total p v n az bz ≡ claim → ⊥)
        → rule_verdict p n s.verifier az bz claim (rule_message p v n (at cs) az bz) ≡ answered (no 0)
    check_rejects other =
        let e = base-of p (above_zero p v point) in
        let value = claim-of (sym claims ∙ check_claim point) in
        rule-no p n v cs az bz s starts a-field b-field claim
        (lt-ltb claim p
        (omega (arith, value, residue-lt p (sum (2 ^ n) (λ i. product_of p n file_c z i * v ^ i)))))
        other
