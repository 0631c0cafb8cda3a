-- The verdict of a rule check on any vectors of field numbers: yes where the claim is the run's total, and no at 0 where it is not.
use mathlib.Core.Path.{◌≡◌, sym, ap, ◌∙◌}
use mathlib.Core.Bool.{true}
use mathlib.Core.List.{List}
use Prim.Native.Nat.{ℕ, zero, suc, ◌*◌, ◌^◌, ◌≤◌, ◌<◌}
use native.Mathlib.Omega.{arith}
use lib.Dec.{ltb}
use borrow.Author.Tests.{leb-true, ltb-true, lt-ltb, ne_eqb}
use Rattle.algebra.specs.Mod.{mul_mod}
use Rattle.algebra.proofs.Congruence.{base-of, residue-lt}
use Rattle.refusal.specs.Outcome.{answered}
use Rattle.refusal.proofs.Outcome.{both}
use Rattle.field.specs.Number.{is_reduced}
use Rattle.vector.specs.Vector.{Vector, at, sum, dot}
use Rattle.vector.specs.Fold.{end_value}
use Rattle.vector.specs.Message.{Message}
use Rattle.vector.specs.Message as vector
use Rattle.vector.proofs.Messages.{message-passes, first-claim, last-claim}
use Rattle.verifier.specs.Records.{Replied, yes, no}
use Rattle.verifier.specs.Starts.{start_rule}
use Rattle.verifier.specs.Openings.{first_fault}
use Rattle.verifier.specs.Trips.{claim_at, verdict_of}
use Rattle.verifier.proofs.Answered.{start-rule_says}
use Rattle.verifier.proofs.Runs.{AllReduced, message-reduced}
use Rattle.verifier.proofs.RuleRuns.{rule-verdict}
use Rattle.verifier.proofs.Verdicts.{true_messages}
use Rattle.r1cs.specs.Check.{rule_first, rule_second, rule_total, rule_message, rule_verdict}
use Rattle.r1cs.proofs.RuleTotals.{rule-first}

-- the messages of two vectors under another claim than their scalar product
module _ (p : ℕ) (c : ℕ → ℕ) (f g : Vector) (claim : ℕ) where
  other_claim : (n : ℕ) → (dot p (2 ^ n) f g ≡ claim → ⊥)
      → verdict_of p c n claim (vector.message p n c f g) (mul_mod p (end_value p c n f) (end_value p c n g)) ≡ no 0
  unfolding verdict_of first_fault claim_at
  other_claim zero other =
      let product = mul_mod p (end_value p c 0 f) (end_value p c 0 g) in
      let total : product ≡ dot p (2 ^ 0) f g = sym (last-claim p 0 c f g) ∙ first-claim p 0 c f g in
      rw (ne_eqb claim product (λ e. other (sym (e ∙ total))))
  other_claim (suc n) other =
      let m = vector.message p (suc n) c f g in
      let total : vector.passes p (m 0) ≡ dot p (2 ^ suc n) f g =
      message-passes p (suc n) c f g 0 (omega arith) ∙ first-claim p (suc n) c f g in
      rw (ne_eqb (vector.passes p (m 0)) claim (λ e. other (sym total ∙ e)), lt-ltb 0 (suc n) (omega arith))

module _ (p n v : ℕ) (cs : List ℕ) (a b : Vector) (s : Replied) (starts : start_rule p n v cs ≡ answered s)
    (field-a : (i : ℕ) → i < 2 ^ n → a i < p) (field-b : (i : ℕ) → i < 2 ^ n → b i < p) where
  small : n ≤ 15
  small = leb-true n 15 (start-rule_says p n v cs starts).0

  positive : 0 < p
  positive =
      let point = both (ltb 0 v) (ltb v p) (start-rule_says p n v cs starts).1 in
      omega (arith, ltb-true 0 v point.0, ltb-true v p point.1)

  abbrev f : Vector
  f = rule_first p v n a

  abbrev g : Vector
  g = rule_second n b

  -- any claim, any messages
  pub rule-finds : (claim : ℕ) (m : ℕ → Message) → is_reduced p claim ≡ true → AllReduced p n m
      → rule_verdict p n s.verifier a b claim m
      ≡ answered (verdict_of p (at cs) n claim m (mul_mod p (end_value p (at cs) n f) (end_value p (at cs) n g)))
  rule-finds claim m h reduced =
      let started = start-rule_says p n v cs starts in
      ap (λ (t : Replied). rule_verdict p n t.verifier a b claim m) started.3
      ∙ rule-verdict p n v cs a b small started.2 field-a field-b claim m h reduced
      ∙ ap (λ u. answered (verdict_of p (at cs) n claim m (mul_mod p (end_value p (at cs) n u) (end_value p (at cs) n g))))
      (sym (rule-first p v n small a))

  total-reduced : is_reduced p (rule_total p v n a b) ≡ true
  total-reduced =
      let e = base-of p positive in
      lt-ltb (rule_total p v n a b) p (omega (arith, residue-lt p (sum (2 ^ n) (λ i. f i * g i))))

  -- the run's messages with its total
  pub rule-yes : rule_verdict p n s.verifier a b (rule_total p v n a b) (rule_message p v n (at cs) a b) ≡ answered yes
  rule-yes =
      rule-finds (rule_total p v n a b) (rule_message p v n (at cs) a b) total-reduced (message-reduced p n (at cs) f g positive)
      ∙ ap answered (true_messages p n (at cs) f g)

  -- and with any other claim
  pub rule-no : (claim : ℕ) → is_reduced p claim ≡ true → (rule_total p v n a b ≡ claim → ⊥)
      → rule_verdict p n s.verifier a b claim (rule_message p v n (at cs) a b) ≡ answered (no 0)
  rule-no claim h other =
      rule-finds claim (rule_message p v n (at cs) a b) h (message-reduced p n (at cs) f g positive)
      ∙ ap answered (other_claim p (at cs) f g claim n other)
