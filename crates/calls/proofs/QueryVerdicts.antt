-- "A verdict reached is given again when asked for again": also after a no of a message and after a proof file, and whatever is asked between.
use mathlib.Core.Path.{◌≡◌, refl, sym, ap, subst, ◌∙◌}
use mathlib.Core.Bool.{Bool, true, false, cond, not, true≢false}
use mathlib.Core.List.{List, [], ◌∷◌}
use Prim.Native.Nat.{ℕ}
use native.Mathlib.Omega.{arith}
use lib.Dec.{eqb, ltb}
use Rattle.refusal.specs.Number as number
use Rattle.refusal.specs.Outcome.{Outcome, answered, refused, refused_at, require}
use Rattle.vector.specs.Message.{Message, passes}
use Rattle.verifier.specs.declared.Verifier.{Verifier}
use Rattle.verifier.specs.Reply.{Reply}
use Rattle.verifier.specs.Reply as reply
use Rattle.verifier.specs.Records.{Replied, leaves, Finding, no}
use Rattle.verifier.specs.WellFormed.{well_formed}
use Rattle.verifier.specs.Claims.{message_of3, failed_now, hears, finds}
use Rattle.verifier.specs.Calls.{pass_open, give, close, close_claim, message_turn, all_reduced3, message, verdict_turn, verdict}
use Rattle.verifier.specs.ProofFile.{Judgement, proof, leaves_judged}
use Rattle.verifier.proofs.Invariant.{both}
use Rattle.verifier.proofs.Kept.{message-kept}
use Rattle.verifier.proofs.Answered.{require-answered, answered_same}
use Rattle.verifier.proofs.Verdicts.{message-refused}
use Rattle.verifier.proofs.FileFacts.{row_open}
use Rattle.verifier.proofs.ProofFiles.{proof-answered, given-again}
use Rattle.calls.specs.declared.query.Query.{Query}
use Rattle.calls.specs.declared.query.Query.TheVariants as query
use Rattle.calls.specs.Step.{is_answered}
use Rattle.calls.specs.QueryStep.{Shown, replies, Spoken, said_as, saying, ask}
use Rattle.calls.specs.QueryStep as said
use Rattle.calls.specs.Lists.{after}
use Rattle.calls.specs.QueryState.{Posed}
use Rattle.calls.proofs.QueryStands.{spoken, verdict-closed}
use Rattle.calls.proofs.QuerySteps.{heard_as}

module _ (p : ℕ) where
  -- the verifier after a list
  abbrev pub after_posed : Verifier → List Posed → Verifier
  after_posed = after (λ v q. (ask p v q.query q.shown).verifier)

  -- where a verdict is reached, no call changes the verifier
  module _ (v : Verifier) (formed : well_formed v ≡ true) (turn : verdict_turn v ≡ true) where
    shut : pass_open v ≡ false
    unfolding pass_open
    shut = ap (λ b. cond (well_formed v) (not b) false) (verdict-closed v turn) ∙ ap (λ b. cond b false false) formed

    refuses : {b : Bool} (k : ℕ) (rest : Outcome Replied) → b ≡ false → (leaves v (require b k rest)).verifier ≡ v
    refuses k rest e = ap (λ b. (leaves v (require b k rest)).verifier) e

    unchanged : (c : Query) (l : Shown) → (ask p v c l).verifier ≡ v
    unfolding ask give close close_claim
    unchanged (query.Give x) l = refuses 10 _ shut
    unchanged (query.Close t) l = refuses 10 _ shut
    unchanged (query.CloseClaim c) l = refuses 10 _ shut
    unchanged (query.Message even cross odd) l =
        ap (λ o. (leaves v o).verifier) (message-refused p v (message_of3 even cross odd) formed (spoken v turn))
    unchanged query.Verdict l = refl
    unchanged query.Proof l = ap (λ o. (leaves_judged v o).0) (sym (row_open p v l.file shut))
    unchanged (query.CheckOpening b) l = refl
    unchanged (query.CheckBatch m z b) l = refl

    after_same : (ms : List Posed) → after_posed v ms ≡ v
    unfolding after
    after_same [] = refl
    after_same (m ∷ ms) = ap (λ w. after_posed w ms) (unchanged m.query m.shown) ∙ after_same ms

  again : (v : Verifier) (f : Finding) → verdict p v ≡ answered f → (ms : List Posed) (l : Shown)
      → ask p (after_posed v ms) query.Verdict l ≡ saying said.finds v (answered f)
  unfolding ask verdict
  again v f e ms l =
      let a = require-answered (well_formed v) number.order _ e in
      let b = require-answered (verdict_turn v) number.turn _ a.1 in
      ap (λ w. ask p w query.Verdict l) (after_same v a.0 b.0 ms) ∙ ap (saying said.finds v) e

  -- A VERDICT IS GIVEN AGAIN
  pub verdict-again : (v : Verifier) (l : Shown) → is_answered (ask p v query.Verdict l).told ≡ true → (ms : List Posed) (m : Shown)
      → ask p (after_posed v ms) query.Verdict m ≡ ask p v query.Verdict l
  unfolding ask
  verdict-again v l h ms m = by (verdict p v) refl h
    where
      by : (o : Outcome Finding) → verdict p v ≡ o → is_answered (said_as said.finds o) ≡ true
          → ask p (after_posed v ms) query.Verdict m ≡ saying said.finds v o
      by (answered f) e h = again v f e ms m
      by (refused k) e h = absurd (true≢false (sym h))
      by (refused_at k i) e h = absurd (true≢false (sym h))

  -- that of a proof file too
  pub file-verdict-again : (v : Verifier) (l : Shown) → is_answered (ask p v query.Proof l).told ≡ true → (ms : List Posed) (m : Shown)
      → ask p (after_posed (ask p v query.Proof l).verifier ms) query.Verdict m ≡ ask p v query.Proof l
  unfolding ask
  file-verdict-again v l h ms m = by (proof p v l.file) refl h
    where
      by : (o : Outcome Judgement) → proof p v l.file ≡ o → is_answered (said_as said.finds (leaves_judged v o).1) ≡ true
          → ask p (after_posed (leaves_judged v o).0 ms) query.Verdict m
          ≡ saying said.finds (leaves_judged v o).0 (leaves_judged v o).1
      by (answered j) e h = again j.verifier j.finding (given-again p v l.file (proof-answered p v l.file e)) ms m
      by (refused k) e h = absurd (true≢false (sym h))
      by (refused_at k i) e h = absurd (true≢false (sym h))

  -- and the no of a message
  failed_verdict : (v : Verifier) → message_turn v ≡ true → well_formed (failed_now v) ≡ true → verdict p (failed_now v) ≡ answered (no v.round)
  unfolding message_turn verdict verdict_turn failed_now finds
  failed_verdict v t formed =
      let c = (both v.closed (cond v.failed false (ltb v.round v.start.rounds)) t).0 in
      rw (formed, c)

  module _ (v : Verifier) (even cross odd : ℕ) (l : Shown) (k : ℕ) where
    abbrev m : Message
    m = message_of3 even cross odd

    heard-no : (b : Bool) → message_turn v ≡ true → well_formed (heard_as p v m b).verifier ≡ true → (heard_as p v m b).reply ≡ reply.no k
        → verdict p (heard_as p v m b).verifier ≡ answered (no k)
    heard-no true t formed e = absurd (let z : ◌≡◌ {A = ℕ} 0 1 = cc in omega arith)
    heard-no false t formed e = let same : v.round ≡ k = cc in failed_verdict v t formed ∙ ap (λ i. answered (no i)) same

    message-no : (o : Outcome Replied) → message p v even cross odd ≡ o → (leaves v o).outcome ≡ answered (reply.no k)
        → verdict p (leaves v o).verifier ≡ answered (no k)
    unfolding message hears
    message-no (answered s) e h =
        let a = require-answered (well_formed v) number.order _ e in
        let b = require-answered (message_turn v) number.turn _ a.1 in
        let c = require-answered (all_reduced3 p even cross odd) number.number _ b.1 in
        let same : hears p v m ≡ s = answered_same c.1 in
        let formed : well_formed s.verifier ≡ true = subst (λ o. well_formed (leaves v o).verifier ≡ true) e (message-kept p v a.0 even cross odd) in
        subst (λ (x : Replied). verdict p x.verifier ≡ answered (no k)) same
        (heard-no (eqb (passes p m) v.claim) b.0
        (subst (λ (x : Replied). well_formed x.verifier ≡ true) (sym same) formed)
        (subst (λ (x : Replied). x.reply ≡ reply.no k) (sym same) (answered_same h)))
    message-no (refused i) e h = absurd (let z : ◌≡◌ {A = ℕ} 0 1 = cc in omega arith)
    message-no (refused_at i j) e h = absurd (let z : ◌≡◌ {A = ℕ} 0 1 = cc in omega arith)

    heard-as : (o : Outcome Reply) → said_as replies o ≡ answered (replies (reply.no k)) → o ≡ answered (reply.no k)
    heard-as (answered x) h = ap (λ y. answered y) (let same : x ≡ reply.no k = cc in same)
    heard-as (refused i) h = absurd (let z : ◌≡◌ {A = ℕ} 0 1 = cc in omega arith)
    heard-as (refused_at i j) h = absurd (let z : ◌≡◌ {A = ℕ} 0 1 = cc in omega arith)

    pub message-no-again : (ask p v (query.Message even cross odd) l).told ≡ answered (replies (reply.no k)) → (ms : List Posed) (n : Shown)
        → (ask p (after_posed (ask p v (query.Message even cross odd) l).verifier ms) query.Verdict n).told ≡ answered (said.finds (no k))
    unfolding ask
    message-no-again h ms n =
        ap (λ (o : Spoken). o.told)
        (again (leaves v (message p v even cross odd)).verifier (no k) (message-no (message p v even cross odd) refl (heard-as (leaves v (message p v even cross odd)).outcome h)) ms n)
