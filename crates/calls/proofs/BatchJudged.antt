-- THE CHECK OF A BATCH in any list, both ways: what a verifier finds answers to the sum and to the opening equations by its challenges.
use mathlib.Core.Path.{◌≡◌, refl, sym, ap, subst, ◌∙◌}
use mathlib.Core.Bool.{Bool, true, false, true≢false}
use mathlib.Core.List.{List}
use mathlib.Core.Logic.{inl, inr, ⊎_elim}
use Prim.Native.Nat.{ℕ, zero, suc, ◌+◌, ◌*◌, ◌≤◌, ◌<◌}
use native.Mathlib.Omega.{arith}
use lib.ListN.{length}
use borrow.Author.Tests.{eqb-true, eqb-false}
use Rattle.refusal.specs.Outcome.{Outcome, answered, refused, refused_at}
use Rattle.vector.specs.Vector.{at}
use Rattle.vector.specs.Opening.{opens}
use Rattle.claim.specs.Claim.{sum_holds}
use Rattle.verifier.specs.declared.Verifier.{Verifier}
use Rattle.verifier.specs.Records.{Finding, yes, no}
use Rattle.verifier.specs.Openings.{triple_at, opens_at}
use Rattle.verifier.specs.Batch.{batch_finds}
use Rattle.verifier.proofs.BatchChecks.{BatchSays, batch-says}
use Rattle.item.specs.declared.Start.{Start}
use Rattle.calls.specs.QueryStep.{Shown, Said, replies, finds}
use Rattle.calls.specs.QueryStep as said
use Rattle.calls.specs.Verdict.{SumHolds, EquationHolds, BatchJudged}
use Rattle.calls.proofs.Fits.{lt_or_le}
use Rattle.calls.proofs.QueryStands.{Carries, carried_challenge}

-- which finding is told: 0 for yes, j + 1 for no at j
found_by : Finding → ℕ
found_by yes = 0
found_by (no j) = suc j

said_by : Said → ℕ
said_by (replies r) = 0
said_by (finds d) = found_by d
said_by (said.opens x) = 0

told_by : Outcome Said → ℕ
told_by (answered x) = said_by x
told_by (refused k) = 0
told_by (refused_at k i) = 0

abbrev tells : Finding → Outcome Said
tells d = answered (finds d)

told_same : (d e : Finding) → tells d ≡ tells e → found_by d ≡ found_by e
unfolding told_by said_by
told_same d e h = ap told_by h

module _ (p : ℕ) (s : Start) (cs : List ℕ) (z b : ℕ) (l : Shown) where
  abbrev Sum : Type 0
  Sum = SumHolds p s cs z b l

  abbrev Equation : ℕ → Type 0
  Equation k = EquationHolds p s cs z b l k

  abbrev sum : Bool
  sum = sum_holds p z (at l.values 0) l.logs

  module _ (test : ℕ → Bool) (same : (k : ℕ) → k < s.rounds → test k ≡ opens p (at cs k) b (triple_at l.values (3 * k))) where
    holds : (k : ℕ) → k < s.rounds → test k ≡ true → Equation k
    holds k less e = sym (same k less) ∙ e

    broken : (k : ℕ) → k < s.rounds → test k ≡ false → Equation k → ⊥
    broken k less e h = true≢false (sym h ∙ sym (same k less) ∙ e)

    judged : (d : Finding) → BatchSays sum test s.rounds d → BatchJudged p s cs z b l (tells d)
    unfolding found_by
    judged yes h =
        let so : Sum = eqb-true _ _ h.0 in
        let all : (k : ℕ) → k < s.rounds → Equation k = λ k less. holds k less (h.1 k less) in
        record {
          yes = ((λ e. (so, all)), λ q. refl);
          zero = ((λ e. absurd (let z = told_same yes (no 0) e in omega arith)), λ bad. absurd (bad so));
          no = λ k. ((λ e. absurd (let z = told_same yes (no (suc k)) e in omega arith)), λ q. absurd (q.3 (all k q.1)));
          either = inl refl;
        }
    judged (no zero) h =
        let bad : Sum → ⊥ = eqb-false _ _ h in
        record {
          yes = ((λ e. absurd (let z = told_same (no 0) yes e in omega arith)), λ q. absurd (bad q.0));
          zero = ((λ e. bad), λ q. refl);
          no = λ k. ((λ e. absurd (let z = told_same (no 0) (no (suc k)) e in omega arith)), λ q. absurd (bad q.0));
          either = inr (0, refl);
        }
    judged (no (suc j)) h =
        let so : Sum = eqb-true _ _ h.0 in
        let f = h.1 in
        let here : f.place ≡ j = omega (arith, f.next) in
        let first : (i : ℕ) → i < j → Equation i = λ i less. holds i (omega (arith, f.below)) (f.before i (omega arith)) in
        let fails : Equation j → ⊥ = broken j (omega (arith, f.below)) (subst (λ k. test k ≡ false) here f.fails) in
        let only : (k : ℕ) → ((i : ℕ) → i < k → Equation i) → (Equation k → ⊥) → j ≡ k =
        λ k before bad.
        ⊎_elim (λ (less : j < k). absurd (fails (before j less)))
        (λ (le : k ≤ j). ⊎_elim (λ (less : k < j). absurd (bad (first k less))) (λ (ge : j ≤ k). omega arith) (lt_or_le k j)) (lt_or_le j k) in
        record {
          yes = ((λ e. absurd (let z = told_same (no (suc j)) yes e in omega arith)), λ q. absurd (fails (q.1 j (omega (arith, f.below)))));
          zero = ((λ e. absurd (let z = told_same (no (suc j)) (no 0) e in omega arith)), λ bad. absurd (bad so));
          no = λ k. (
            (λ e.
                let same_place : j ≡ k = let z = told_same (no (suc j)) (no (suc k)) e in omega arith in
                subst (λ i. Sum × (i < s.rounds) × ((m : ℕ) → m < i → Equation m) × (Equation i → ⊥)) same_place (so, omega (arith, f.below), first, fails)),
            λ q. ap (λ i. tells (no (suc i))) (only k q.2 q.3),
          );
          either = inr (suc j, refl);
        }

module _ (p : ℕ) (s : Start) (cs : List ℕ) (few : s.rounds ≤ 15) (listed : length cs ≡ s.rounds) (k : ℕ) (v : Verifier) (c : Carries s cs k v)
    (z b : ℕ) (l : Shown) where
  abbrev test : ℕ → Bool
  test j = opens_at p v b l.values 0 j

  same : (j : ℕ) → j < s.rounds → test j ≡ opens p (at cs j) b (triple_at l.values (3 * j))
  same j less =
      let e : 0 + 3 * j ≡ 3 * j = omega arith in
      ap (λ i. opens p (at v.challenges j) b (triple_at l.values i)) e
      ∙ ap (λ x. opens p x b (triple_at l.values (3 * j))) (carried_challenge c few listed j less)

  pub batch-judged : BatchJudged p s cs z b l (answered (finds (batch_finds p v z b l.values l.logs)))
  batch-judged =
      judged p s cs z b l test same (batch_finds p v z b l.values l.logs)
      (subst (λ n. BatchSays (sum_holds p z (at l.values 0) l.logs) test n (batch_finds p v z b l.values l.logs)) (ap (λ s. s.rounds) c.start)
      (batch-says p v z b l.values l.logs))
