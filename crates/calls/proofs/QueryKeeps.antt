-- What an answered call hands back stands for the state after it.
use mathlib.Core.Path.{◌≡◌, refl, sym, ap, subst, ◌∙◌}
use mathlib.Core.Bool.{Bool, true, false, cond, true≢false}
use mathlib.Core.List.{List}
use mathlib.Core.Option.{none}
use Prim.Native.Nat.{ℕ, zero, suc}
use native.Mathlib.Numerals.{add-one}
use lib.Dec.{eqb}
use lib.ListN.{length}
use borrow.Author.Tests.{eqb-true}
use Rattle.refusal.specs.Number as number
use Rattle.refusal.specs.Outcome.{answered}
use Rattle.algebra.specs.Mod.{mul_mod}
use Rattle.field.specs.Integer.{image}
use Rattle.wire.specs.Proof.{proof_total}
use Rattle.vector.specs.Message.{Message, passes}
use Rattle.verifier.specs.declared.Verifier.{Verifier}
use Rattle.verifier.specs.Records.{Finding, yes, no}
use Rattle.verifier.specs.WellFormed.{well_formed}
use Rattle.verifier.specs.Sums.{one_more}
use Rattle.verifier.specs.Claims.{message_of3, closed_with, passed_with, failed_now, hears, finds}
use Rattle.verifier.specs.Calls.{verdict_turn, verdict}
use Rattle.verifier.specs.ProofFile.{file_message, hears_next, hears_first, ends_agree, compares, after_file, judges, proof}
use Rattle.verifier.proofs.Kept.{give_kept, close-kept, close-claim-kept, message-kept}
use Rattle.verifier.proofs.Answered.{require-answered}
use Rattle.verifier.proofs.ProofFiles.{proof-answered, given-again, proof-kept}
use Rattle.item.specs.declared.Start.{Start}
use Rattle.item.specs.declared.Given.{Given}
use Rattle.calls.specs.declared.query.Query.{Query}
use Rattle.calls.specs.declared.query.Query.TheVariants as query
use Rattle.calls.specs.QueryStep.{Shown, replies, Spoken, ask}
use Rattle.calls.specs.QueryStep as said
use Rattle.calls.specs.QueryState.{VerifierState, takes_item, at_round, hearing, goes_on_heard, verifier_table}
use Rattle.calls.specs.Table.{decided}
use Rattle.calls.proofs.QueryStands.{Carries, Stands, verdict-closed, verdict-turn}
use Rattle.calls.proofs.QueryGuards.{proof-decided}
use Rattle.calls.proofs.QueryTurns.{item-rows, close-rows, claim-rows, message-rows, verdict-row}
use Rattle.calls.proofs.QuerySteps.{heard_as, goes_to, says_so, answers, settled_heard, asks}

-- what no message changes
record Base : Type 0 where
  start : Start
  challenges : List ℕ
  taken : ℕ

abbrev base_of : Verifier → Base
base_of v =
    record { start = v.start; challenges = v.challenges; taken = v.taken }

carries_as : {s : Start} {cs : List ℕ} {k : ℕ} (v w : Verifier) → Carries s cs k v → base_of w ≡ base_of v → well_formed w ≡ true → Carries s cs k w
carries_as v w c e formed =
    record {
      formed = formed;
      start = ap (λ b. b.start) e ∙ c.start;
      challenges = ap (λ b. b.challenges) e ∙ c.challenges;
      taken = ap (λ b. b.taken) e ∙ c.taken;
    }

module _ (p : ℕ) where
  heard-base : (v : Verifier) (m : Message) → base_of (hears p v m).verifier ≡ base_of v
  unfolding hears passed_with failed_now
  heard-base v m = by (eqb (passes p m) v.claim)
    where
      by : (b : Bool) → base_of (heard_as p v m b).verifier ≡ base_of v
      by true = refl
      by false = refl

  next-base : (v : Verifier) (m : Message) → base_of (hears_next p v m) ≡ base_of v
  unfolding hears_next
  next-base v m = by v.failed
    where
      by : (b : Bool) → base_of (cond b v (hears p v m).verifier) ≡ base_of v
      by true = refl
      by false = heard-base v m

  first-base : (v : Verifier) (m : ℕ → Message) (k : ℕ) → base_of (hears_first p v m k) ≡ base_of v
  unfolding hears_first
  first-base v m zero = refl
  first-base v m (suc k) = next-base (hears_first p v m k) (m k) ∙ first-base v m k

  compared_base : (v : Verifier) (file : List ℕ) → base_of (compares v file) ≡ base_of v
  unfolding compares failed_now
  compared_base v file = by (ends_agree v file)
    where
      by : (b : Bool) → base_of (cond b v (failed_now v)) ≡ base_of v
      by true = refl
      by false = refl

  file-base : (v : Verifier) (file : List ℕ) → base_of (after_file p v (proof_total file) file) ≡ base_of v
  unfolding after_file closed_with
  file-base v file =
      compared_base (hears_first p (closed_with v (image p (proof_total file))) (file_message file) v.start.rounds) file
      ∙ first-base (closed_with v (image p (proof_total file))) (file_message file) v.start.rounds

  -- a verdict of yes
  said-yes : (w : Verifier) → verdict_turn w ≡ true → finds p w ≡ yes → (w.failed ≡ false) × (w.round ≡ w.start.rounds)
  unfolding verdict_turn finds
  said-yes w = by w.closed w.failed
    where
      by : (c f : Bool) → cond c (cond f true (eqb w.round w.start.rounds)) false ≡ true
          → cond f (no w.round) (cond (eqb w.claim (mul_mod p w.fsum w.gsum)) yes (no w.start.rounds)) ≡ yes
          → (f ≡ false) × (w.round ≡ w.start.rounds)
      by false f t e = absurd (true≢false (sym t))
      by true true t e = let z : ◌≡◌ {A = Bool} true false = cc in absurd (true≢false z)
      by true false t e = (refl, eqb-true w.round w.start.rounds t)

  -- a verdict reached, by the call for it or with a file
  pub verdict-stands : (a : VerifierState) (w : Verifier) → Carries a.start a.challenges (length a.items) w → verdict_turn w ≡ true
      → Stands p (hearing a (said.finds (finds p w))) w
  verdict-stands a w c t = by (finds p w) refl
    where
      by : (f : Finding) → finds p w ≡ f → Stands p (hearing a (said.finds f)) w
      by yes e =
          let y = said-yes w t e in
          record {
            carries = c;
            closed = verdict-closed w t;
            going = λ r. (y.0, y.1 ∙ ap (λ s. s.rounds) c.start);
            over = λ r. absurd (true≢false (sym r));
          }
      by (no k) e =
          record { carries = c; closed = verdict-closed w t; going = λ r. absurd (true≢false r); over = λ r. (t, e) }

module _ (p : ℕ) (a : VerifierState) (v : Verifier) (s : Stands p a v) where
  formed_asked : (c : Query) (l : Shown) → well_formed (ask p v c l).verifier ≡ true
  unfolding ask
  formed_asked (query.Give x) l = give_kept p v s.carries.formed x
  formed_asked (query.Close t) l = close-kept p v s.carries.formed t
  formed_asked (query.CloseClaim c) l = close-claim-kept p v s.carries.formed c
  formed_asked (query.Message even cross odd) l = message-kept p v s.carries.formed even cross odd
  formed_asked query.Verdict l = s.carries.formed
  formed_asked query.Proof l = proof-kept p v l.file s.carries.formed
  formed_asked (query.CheckOpening b) l = s.carries.formed
  formed_asked (query.CheckBatch m z b) l = s.carries.formed

  formed_answered : (c : Query) (l : Shown) → verifier_table p a c l ≡ none → well_formed (goes_to p v c l) ≡ true
  formed_answered c l e =
      subst (λ (o : Spoken). well_formed o.verifier ≡ true) (asks p a v s c l ∙ ap (λ t. settled_heard v t (answers p v c l)) e)
      (formed_asked c l)

  -- while the pass is open no verdict is reached
  open_going : a.closed ≡ false → a.refuted ≡ true → ⊥
  open_going o r = true≢false (sym (verdict-closed v (s.over r).0) ∙ s.closed ∙ o)

  pub item-stands : (x : Given) (f g : ℕ) → a.closed ≡ false → well_formed (one_more p v f g) ≡ true → Stands p (takes_item a x) (one_more p v f g)
  unfolding one_more
  item-stands x f g o formed =
      let c = s.carries in
      record {
        carries =
            record {
              formed = formed;
              start = c.start;
              challenges = c.challenges;
              taken = add-one v.taken ∙ ap suc c.taken;
            };
        closed = s.closed;
        going = s.going;
        over = λ r. absurd (open_going o r);
      }

  pub close-stands : (claim : ℕ) → a.closed ≡ false → well_formed (closed_with v claim) ≡ true
      → Stands p (at_round a a.round a.refuted) (closed_with v claim)
  unfolding closed_with
  close-stands claim o formed =
      record {
        carries = carries_as v (closed_with v claim) s.carries refl formed;
        closed = refl;
        going = s.going;
        over = λ r. absurd (open_going o r);
      }

  pub message-stands : (m : Message) → a.closed ≡ true → a.refuted ≡ false → well_formed (hears p v m).verifier ≡ true
      → Stands p (hearing a (replies (hears p v m).reply)) (hears p v m).verifier
  unfolding hears passed_with failed_now finds verdict_turn
  message-stands m closed going formed = by (eqb (passes p m) v.claim) formed
    where
      g : (v.failed ≡ false) × (v.round ≡ a.round)
      g = s.going going

      by : (b : Bool) → well_formed (heard_as p v m b).verifier ≡ true
          → Stands p (hearing a (replies (heard_as p v m b).reply)) (heard_as p v m b).verifier
      by true f =
          record {
            carries = carries_as v (passed_with p v m) s.carries refl f;
            closed = s.closed ∙ closed;
            going = λ r. (g.0, add-one v.round ∙ ap suc g.1);
            over = λ r. absurd (true≢false (sym r));
          }
      by false f =
          record {
            carries = carries_as v (failed_now v) s.carries refl f;
            closed = s.closed ∙ closed;
            going = λ r. absurd (true≢false r);
            over = λ r. (ap (λ b. cond b true false) (s.closed ∙ closed), refl);
          }

  -- with a file
  file-stands : (l : Shown) → verifier_table p a query.Proof l ≡ none
      → Stands p (hearing a (says_so p v query.Proof l)) (goes_to p v query.Proof l)
  unfolding verdict
  file-stands l e =
      let w = after_file p v (proof_total l.file) l.file in
      let o : proof p v l.file ≡ answered (judges p v (proof_total l.file) l.file) =
      proof-decided p a v s l ∙ ap (λ t. decided t (answered (judges p v (proof_total l.file) l.file))) e in
      let again : verdict p w ≡ answered (finds p w) = given-again p v l.file (proof-answered p v l.file o) in
      let f = require-answered (well_formed w) number.order _ again in
      let t = require-answered (verdict_turn w) number.turn _ f.1 in
      verdict-stands p a w (carries_as v w s.carries (file-base p v l.file) f.0) t.0

  -- THE STATE AFTER AN ANSWERED CALL
  pub stands_after : (c : Query) (l : Shown) → verifier_table p a c l ≡ none → Stands p (goes_on_heard a c (says_so p v c l)) (goes_to p v c l)
  stands_after (query.Give x) l e = item-stands _ _ _ (item-rows p a l x e).unclosed (formed_answered (query.Give x) l e)
  stands_after (query.Close t) l e = close-stands (image p t) (close-rows p a l t e).unclosed (formed_answered (query.Close t) l e)
  stands_after (query.CloseClaim c) l e = close-stands c (claim-rows p a l c e).unclosed (formed_answered (query.CloseClaim c) l e)
  stands_after (query.Message even cross odd) l e =
      let t = message-rows p a l even cross odd e in
      message-stands (message_of3 even cross odd) t.0 t.1 (formed_answered (query.Message even cross odd) l e)
  stands_after query.Verdict l e = verdict-stands p a v s.carries (verdict-turn p a v s ∙ verdict-row p a l e)
  stands_after query.Proof l e = file-stands l e
  stands_after (query.CheckOpening b) l e = s
  stands_after (query.CheckBatch m z b) l e = s
