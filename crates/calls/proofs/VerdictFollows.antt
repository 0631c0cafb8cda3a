-- An answered message, verdict or proof file answers to the equations of what was brought, and so does every answered call's verifier.
use mathlib.Core.Path.{◌≡◌, refl, sym, ap, ap₂, subst, ◌∙◌}
use mathlib.Core.Bool.{Bool, true, false, cond, not, ◌&&◌, ◌||◌, true≢false}
use mathlib.Core.List.{List}
use mathlib.Core.Logic.{inl, inr}
use mathlib.Core.Option.{none}
use Prim.Native.Nat.{ℕ, suc, ◌<◌}
use native.Mathlib.Omega.{arith}
use lib.Dec.{eqb, ltb}
use lib.ListN.{length}
use borrow.Author.Tests.{eqb-true, eqb-false, ltb-true}
use Rattle.algebra.specs.Mod.{mul_mod}
use Rattle.refusal.specs.Number as number
use Rattle.refusal.specs.Limit.{max_weight}
use Rattle.refusal.specs.Outcome.{answered}
use Rattle.refusal.proofs.Outcome.{both}
use Rattle.field.specs.Integer.{image}
use Rattle.wire.specs.Proof.{proof_total}
use Rattle.vector.specs.Vector.{at}
use Rattle.vector.specs.Message.{Message, passes, next_claim}
use Rattle.vector.proofs.Overwrite.{fifteen-at}
use Rattle.verifier.specs.declared.Verifier.{Verifier}
use Rattle.verifier.specs.Records.{yes, no}
use Rattle.verifier.specs.WellFormed.{well_formed}
use Rattle.verifier.specs.Claims.{message_of3, passed_with, failed_now, hears, finds}
use Rattle.verifier.specs.Calls.{verdict_turn, verdict}
use Rattle.verifier.specs.ProofFile.{after_file, judges, proof}
use Rattle.verifier.specs.Trips.{claim_at, file_verdict_of}
use Rattle.verifier.proofs.Invariant.{parts_of_lem, closed-taken}
use Rattle.verifier.proofs.Answered.{require-answered}
use Rattle.verifier.proofs.FileVerdicts.{file-verdict-says, file-verdict-same}
use Rattle.verifier.proofs.ProofFiles.{proof-answered, given-again, file-finds}
use Rattle.item.specs.declared.Start.{Start}
use Rattle.calls.specs.declared.query.Query.{Query}
use Rattle.calls.specs.declared.query.Query.TheVariants as query
use Rattle.calls.specs.QueryStep.{Shown, replies}
use Rattle.calls.specs.QueryState.{VerifierState, hearing, goes_on_heard, verifier_table}
use Rattle.calls.specs.Table.{decided}
use Rattle.calls.specs.Starts.{Startable}
use Rattle.calls.specs.Verdict.{Brought, message_brought, file_brought, brought_with, end_f, end_g, claim_in, AllPass, EndsOwn, FailsFirst, MessageJudged, Judges}
use Rattle.calls.proofs.BatchJudged.{batch-judged}
use Rattle.calls.proofs.QueryStands.{Carries, Stands, spoken, message-turn, verdict-turn}
use Rattle.calls.proofs.QueryGuards.{proof-decided}
use Rattle.calls.proofs.QueryTurns.{item-rows, close-rows, claim-rows, file-rows, message-rows, verdict-row}
use Rattle.calls.proofs.QuerySteps.{heard_as, goes_to, says_so, answers}
use Rattle.calls.proofs.QueryKeeps.{stands_after}
use Rattle.calls.proofs.QueryKept.{hears-kept}
use Rattle.calls.proofs.HeardTrip.{Fine}
use Rattle.calls.proofs.VerdictFacts.{Found, judged, answered-passed, answered-no, more-count, newest, more-pass, more-fails, found-file}
use Rattle.calls.proofs.VerdictPhases.{held, Sums, Passing, Phase, unclosed, passing, settled, Bears, few, ends-own, carries, unclosed_of, item-phase, close-phase}

all_three : (x y z : Bool) → x ≡ true → y ≡ false → z ≡ true → (x && (not y && z)) ≡ true
all_three x y z a b c = rw (a, b, c)

module _ (p : ℕ) (s : Start) (cs : List ℕ) (large : max_weight < p) (fits : Startable s) (listed : length cs ≡ s.rounds)
    (b : Brought) (a : VerifierState) (v : Verifier) (h : Bears p s cs b a v) where
  abbrev n : ℕ
  n = s.rounds

  had : Carries s cs (length a.items) v
  had = carries p s cs b a v h

  -- A MESSAGE
  module _ (m : Message) (closed : a.closed ≡ true) (going : a.refuted ≡ false) (next : ltb a.round a.start.rounds ≡ true) where
    abbrev heard : Brought
    heard = message_brought b m

    abbrev count : ℕ
    count = length b.messages

    not_settled : verdict_turn v ≡ true → ⊥
    not_settled t = true≢false (sym (message-turn p a v h.stands ∙ all_three _ _ _ closed going next) ∙ spoken v t)

    passing-of : Passing p s cs b a v
    passing-of = by h.phase
      where
        by : Phase p s cs b a v → Passing p s cs b a v
        by (unclosed c u) = absurd (true≢false (sym closed ∙ c))
        by (passing c r g) = g
        by (settled t f) = absurd (not_settled t)

    round_same : v.round ≡ count
    round_same = (h.stands.going going).1 ∙ passing-of.round

    less : count < n
    less = omega (arith, ltb-true a.round a.start.rounds next, passing-of.round, ap (λ (t : Start). t.rounds) h.start)

    challenge-same : at v.challenges v.round ≡ at cs count
    challenge-same = ap₂ at had.challenges round_same ∙ fifteen-at n cs (few p s cs large fits listed) (omega (arith, listed)) count less

    next-claim : next_claim p m (at v.challenges v.round) ≡ claim_in p s cs heard (length heard.messages)
    unfolding claim_at
    next-claim =
        ap₂ (next_claim p) (sym (newest p s cs b m)) challenge-same ∙ ap (claim_in p s cs heard) (sym (more-count p s cs b m))

    message-phase : (t : Bool) → eqb (passes p m) v.claim ≡ t
        → Stands p (hearing a (replies (heard_as p v m t).reply)) (heard_as p v m t).verifier
        → MessageJudged p s cs heard (answered (replies (heard_as p v m t).reply))
        × Bears p s cs heard (hearing a (replies (heard_as p v m t).reply)) (heard_as p v m t).verifier
    unfolding passed_with failed_now
    message-phase true e stands =
        let g = passing-of in
        let all = more-pass p s cs b m g.all (eqb-true (passes p m) v.claim e ∙ g.claim) in
        let x = g.sums in (
          answered-passed p s cs heard all,
          record {
            stands = stands;
            start = h.start;
            challenges = h.challenges;
            phase =
                passing refl refl
                (record {
                  round = ap suc g.round ∙ sym (more-count p s cs b m);
                  all = all;
                  claim = next-claim;
                  ends = g.ends;
                  sums = record { taken = x.taken; fine = x.fine; fsum = x.fsum; gsum = x.gsum };
                });
          },
        )
    message-phase false e stands =
        let g = passing-of in
        let first : FailsFirst p s cs heard v.round =
        subst (FailsFirst p s cs heard) (sym round_same)
        (more-fails p s cs b m g.all less (λ q. eqb-false (passes p m) v.claim e (q ∙ sym g.claim))) in
        let over = stands.over refl in (
          answered-no p s cs heard v.round first,
          record {
            stands = stands;
            start = h.start;
            challenges = h.challenges;
            phase = settled over.0 (subst (Found p s cs heard) (sym over.1) (inl first));
          },
        )

  -- A VERDICT
  items-all : v.taken ≡ v.start.items → Sums p s cs b v → length b.items ≡ s.items
  items-all e x = sym x.taken ∙ e ∙ ap (λ (t : Start). t.items) had.start

  last_found : Passing p s cs b a v → a.closed ≡ true → a.refuted ≡ false → length b.messages ≡ n → Found p s cs b (finds p v)
  unfolding finds
  last_found g closed going last =
      subst (Found p s cs b)
      (sym
      (ap (λ t. cond t (no v.round) (cond (eqb v.claim (mul_mod p v.fsum v.gsum)) yes (no v.start.rounds))) (h.stands.going going).0))
      (by (eqb v.claim (mul_mod p v.fsum v.gsum)) refl)
    where
      taken : v.taken ≡ v.start.items
      taken = eqb-true v.taken v.start.items (closed-taken v (parts_of_lem v had.formed).turn (h.stands.closed ∙ closed))

      product : mul_mod p v.fsum v.gsum ≡ mul_mod p (end_f p s cs b) (end_g p s cs b)
      product = let ends = ends-own p s cs large fits listed b v g.sums (items-all taken g.sums) in ap₂ (mul_mod p) ends.0 ends.1

      claim : v.claim ≡ claim_in p s cs b n
      claim = g.claim ∙ ap (claim_in p s cs b) last

      all : AllPass p s cs b n
      all = subst (AllPass p s cs b) last g.all

      by : (t : Bool) → eqb v.claim (mul_mod p v.fsum v.gsum) ≡ t → Found p s cs b (cond t yes (no v.start.rounds))
      by true e =
          record {
            count = last;
            all = all;
            product = sym claim ∙ eqb-true v.claim (mul_mod p v.fsum v.gsum) e ∙ product;
            ends = subst (EndsOwn p s cs b) (sym g.ends) tt;
          }
      by false e =
          inr
          (record {
            last = ap (λ (t : Start). t.rounds) had.start;
            count = last;
            all = all;
            fails = λ q x. eqb-false v.claim (mul_mod p v.fsum v.gsum) e (claim ∙ q ∙ sym product);
          })

  verdict-found : (a.closed && (a.refuted || eqb a.round a.start.rounds)) ≡ true → Found p s cs b (finds p v)
  verdict-found row = by h.phase
    where
      parts : (a.closed ≡ true) × ((a.refuted || eqb a.round a.start.rounds) ≡ true)
      parts = both a.closed (a.refuted || eqb a.round a.start.rounds) row

      by : Phase p s cs b a v → Found p s cs b (finds p v)
      by (unclosed c u) = absurd (true≢false (sym parts.0 ∙ c))
      by (passing c r g) =
          last_found g c r
          (sym g.round
          ∙ eqb-true a.round a.start.rounds (ap (λ t. t || eqb a.round a.start.rounds) (sym r) ∙ parts.1)
          ∙ ap (λ (t : Start). t.rounds) h.start)
      by (settled t f) = f

  -- A PROOF FILE
  module _ (l : Shown) (e : verifier_table p a query.Proof l ≡ none) where
    abbrev file : List ℕ
    file = l.file

    abbrev w : Verifier
    w = after_file p v (proof_total file) file

    judges-it : proof p v file ≡ answered (judges p v (proof_total file) file)
    judges-it = proof-decided p a v h.stands l ∙ ap (λ t. decided t (answered (judges p v (proof_total file) file))) e

    file-turn : verdict_turn w ≡ true
    unfolding verdict
    file-turn =
        let again : verdict p w ≡ answered (finds p w) = given-again p v file (proof-answered p v file judges-it) in
        (require-answered (verdict_turn w) number.turn _ (require-answered (well_formed w) number.order _ again).1).0

    file-ends : (v.fsum ≡ end_f p s cs b) × (v.gsum ≡ end_g p s cs b)
    file-ends =
        let rows = file-rows p a l e in
        let x = (unclosed_of p s cs b a v h rows.unclosed).sums in
        ends-own p s cs large fits listed b v x
        (sym x.taken ∙ had.taken ∙ eqb-true (length a.items) a.start.items rows.counted
        ∙ ap (λ (t : Start). t.items) h.start)

    file-verdict : finds p w ≡ file_verdict_of p (at cs) n file (end_f p s cs b) (end_g p s cs b)
    file-verdict =
        let c = had in
        file-finds p v file (proof-answered p v file judges-it)
        ∙ ap₂ (λ xs k. file_verdict_of p (at xs) k file v.fsum v.gsum) c.challenges (ap (λ (t : Start). t.rounds) c.start)
        ∙ file-verdict-same p n (held p s cs) (at cs) (fifteen-at n cs (few p s cs large fits listed) (omega (arith, listed))) file v.fsum v.gsum
        ∙ ap₂ (file_verdict_of p (at cs) n file) file-ends.0 file-ends.1

    file-found : Found p s cs (file_brought p n b file) (finds p w)
    file-found =
        subst (Found p s cs (file_brought p n b file)) (sym file-verdict)
        (found-file p s cs b file (file_verdict_of p (at cs) n file (end_f p s cs b) (end_g p s cs b)) (file-verdict-says p (at cs) file n (end_f p s cs b) (end_g p s cs b)))

  -- AN ANSWERED CALL, and the verifier after it
  bears_with : (c : Query) (l : Shown) → verifier_table p a c l ≡ none
      → Phase p s cs (brought_with p n b c l) (goes_on_heard a c (says_so p v c l)) (goes_to p v c l)
      → Bears p s cs (brought_with p n b c l) (goes_on_heard a c (says_so p v c l)) (goes_to p v c l)
  bears_with c l e phase =
      let kept = hears-kept a c (says_so p v c l) in
      record {
        stands = stands_after p a v h.stands c l e;
        start = kept.0 ∙ h.start;
        challenges = kept.1 ∙ h.challenges;
        phase = phase;
      }

  pub answers-judged : (c : Query) (l : Shown) → verifier_table p a c l ≡ none
      → Judges p s cs (brought_with p n b c l) c l (answers p v c l).told
      × Bears p s cs (brought_with p n b c l) (goes_on_heard a c (says_so p v c l)) (goes_to p v c l)
  unfolding hears
  answers-judged (query.Give x) l e =
      let rows = item-rows p a l x e in (
        refl,
        bears_with (query.Give x) l e
            (item-phase p s cs b a v h x rows.unclosed (subst (λ (t : Start). Fine p t.plain x) h.start rows.fine)),
      )
  answers-judged (query.Close t) l e =
      (refl, bears_with (query.Close t) l e (close-phase p s cs b a v h (image p t) (close-rows p a l t e).unclosed))
  answers-judged (query.CloseClaim c) l e =
      (refl, bears_with (query.CloseClaim c) l e (close-phase p s cs b a v h c (claim-rows p a l c e).unclosed))
  answers-judged (query.Message even cross odd) l e =
      let m = message_of3 even cross odd in
      let rows = message-rows p a l even cross odd e in
      message-phase m rows.0 rows.1 rows.2 (eqb (passes p m) v.claim) refl (stands_after p a v h.stands (query.Message even cross odd) l e)
  answers-judged query.Verdict l e =
      let row = verdict-row p a l e in
      let found = verdict-found row in
      (judged p s cs b (finds p v) found, bears_with query.Verdict l e (settled (verdict-turn p a v h.stands ∙ row) found))
  answers-judged query.Proof l e =
      let found = file-found l e in
      (judged p s cs (file_brought p n b l.file) (finds p (w l e)) found, bears_with query.Proof l e (settled (file-turn l e) found))
  answers-judged (query.CheckOpening x) l e = (tt, h)
  answers-judged (query.CheckBatch m z x) l e =
      (batch-judged p s cs (few p s cs large fits listed) listed (length a.items) v had z x l, h)
