-- The call with a proof file, where it is answered: the record and the verdict are those of the same calls given singly, the verdict is
-- given again, and it is that of document 01.
use mathlib.Core.Path.{◌≡◌, refl, sym, ap, subst, ◌∙◌}
use mathlib.Core.Bool.{Bool, true, false, cond, not}
use mathlib.Core.List.{List}
use mathlib.Core.Logic.{◌↔◌}
use Prim.Native.Nat.{ℕ, ◌*◌, ◌+◌, ◌<◌}
use native.Mathlib.Omega.{arith}
use lib.Dec.{eqb, ltb}
use borrow.Author.Tests.{eqb-true, le-leb, lt-ltb}
use Rattle.refusal.specs.Number as number
use Rattle.refusal.specs.Outcome.{Outcome, answered, refused, refused_at}
use Rattle.refusal.proofs.Outcome.{fails}
use Rattle.field.specs.Integer.{image}
use Rattle.field.specs.Total.{in_limits}
use Rattle.vector.specs.Vector.{at}
use Rattle.wire.specs.declared.proof.Head.{Head}
use Rattle.wire.specs.Proof.{proof_total, proof_number, read_proof_of}
use Rattle.wire.proofs.ProofSays.{GoodProof}
use Rattle.wire.proofs.ProofOf.{own-good}
use Rattle.verifier.specs.declared.Verifier.{Verifier}
use Rattle.verifier.specs.Records.{leaves, yes}
use Rattle.verifier.specs.WellFormed.{well_formed}
use Rattle.verifier.specs.Claims.{message_of3, closed_with, closes, failed_now}
use Rattle.verifier.specs.Calls.{pass_open, close, all_reduced3, message, verdict}
use Rattle.verifier.specs.ProofFile.{file_message, ends_agree, compares, after_file, Judgement, judges, read_total, proof, leaves_judged}
use Rattle.verifier.specs.Trips.{after_calls, messages, file_verdict_of}
use Rattle.verifier.proofs.Invariant.{both, not_true, parts_of_lem, open_turn}
use Rattle.verifier.proofs.Kept.{close-kept}
use Rattle.verifier.proofs.Answered.{require-answered, answered_same}
use Rattle.verifier.proofs.Runs.{AllReduced, close-next}
use Rattle.verifier.proofs.Verdicts.{Closed, message-refused, verdict-found}
use Rattle.verifier.proofs.Singly.{Done, singly, heard-going, done-compared, agree_same, compared_finds}
use Rattle.verifier.proofs.FileVerdicts.{EndsAre, FileSays, same_ends, ends_same, file-verdict-says, file-verdict-yes}

-- what an answered call says of the record and of the file
pub record Answered (p : ℕ) (v : Verifier) (file : List ℕ) (j : Judgement) : Type 0 where
  pub open_pass : pass_open v ≡ true
  pub taken : eqb v.taken v.start.items ≡ true
  pub plain : v.start.plain ≡ true
  pub good : GoodProof p file (record { rounds = v.start.rounds; total = proof_total file })
  pub judged : j ≡ judges p v (proof_total file) file

file-answered : (p : ℕ) (v : Verifier) (file : List ℕ) {j : Judgement} (o : Outcome Head) → read_proof_of p v.start.rounds file ≡ o
    → read_total o (λ total. judges p v total file) ≡ answered j
    → GoodProof p file (record { rounds = v.start.rounds; total = proof_total file }) × (j ≡ judges p v (proof_total file) file)
file-answered p v file (answered head) e h =
    let a = own-good p v.start.rounds file head e in
    let g = a.0 in (
      record { frame = g.frame; rounds = g.rounds ∙ a.1; total = refl; limits = g.limits; below = g.below },
      sym (answered_same h) ∙ ap (λ t. judges p v t file) (sym g.total),
    )
file-answered p v file (refused k) e h = absurd (let z : ◌≡◌ {A = ℕ} 0 1 = cc in omega arith)
file-answered p v file (refused_at k i) e h = absurd (let z : ◌≡◌ {A = ℕ} 0 1 = cc in omega arith)

pub proof-answered : (p : ℕ) (v : Verifier) (file : List ℕ) {j : Judgement} → proof p v file ≡ answered j → Answered p v file j
unfolding proof
proof-answered p v file e =
    let a = require-answered (pass_open v) number.order _ e in
    let b = require-answered (eqb v.taken v.start.items) number.items _ a.1 in
    let c = require-answered v.start.plain number.order _ b.1 in
    let d = file-answered p v file (read_proof_of p v.start.rounds file) refl c.1 in
    record { open_pass = a.0; taken = b.0; plain = c.0; good = d.0; judged = d.1 }

module _ (p : ℕ) (v : Verifier) (file : List ℕ) {j : Judgement} (a : Answered p v file j) where
  -- the close with the file's total, and every message of it given singly
  abbrev pub closed_singly : Verifier
  closed_singly = (leaves v (close p v (proof_total file))).verifier

  abbrev pub heard_singly : Verifier
  heard_singly = after_calls (messages p (file_message file)) closed_singly v.start.rounds

  -- 8 and 10 as for any close
  pub close-answered : close p v (proof_total file) ≡ answered (closes v (image p (proof_total file)))
  unfolding in_limits
  close-answered =
      close-next p v (proof_total file) a.open_pass (eqb-true v.taken v.start.items a.taken) a.plain (le-leb _ _ a.good.limits)

  was_formed : well_formed v ≡ true
  unfolding pass_open
  was_formed = (both (well_formed v) (not v.closed) a.open_pass).0

  abbrev closed : Verifier
  closed = closed_with v (image p (proof_total file))

  closed_same : closed_singly ≡ closed
  closed_same = ap (λ o. (leaves v o).verifier) close-answered

  closed-start : Closed closed
  unfolding pass_open closed_with
  closed-start =
      let was_open = not_true v.closed (both (well_formed v) (not v.closed) a.open_pass).1 in
      let o = open_turn v (parts_of_lem v was_formed).turn was_open in
      record {
        formed = sym (ap well_formed closed_same) ∙ close-kept p v was_formed (proof_total file);
        closed = refl;
        going = o.going;
        first = o.first;
      }

  reduced : AllReduced p v.start.rounds (file_message file)
  unfolding all_reduced3
  reduced i h =
      let g = a.good in
      let below : (k : ℕ) → k < 3 * v.start.rounds + 2 → ltb (proof_number file k) p ≡ true =
      λ k l. lt-ltb (proof_number file k) p (g.below k (omega (arith, g.rounds)))
      in
      rw (below (3 * i) (omega arith), below (3 * i + 1) (omega arith), below (3 * i + 2) (omega arith))

  done : Done (after_file p v (proof_total file) file)
  unfolding after_file closed_with
  done = done-compared closed _ (heard-going p closed closed-start file reduced) file

  -- SAME AS SINGLY: the close, each message, and then the end values
  pub as_singly : j.verifier ≡ compares heard_singly file
  unfolding after_file closed_with
  as_singly =
      ap (λ (i : Judgement). i.verifier) a.judged
      ∙ ap (λ w. compares w file)
      (singly p closed closed-start (file_message file) reduced v.start.rounds (omega arith)
      ∙ ap (λ w. after_calls (messages p (file_message file)) w v.start.rounds) (sym closed_same))

  compared_same : {b : Bool} → ends_agree v file ≡ b → j.verifier ≡ cond b heard_singly (failed_now heard_singly)
  unfolding compares closed_with ends_agree
  compared_same e =
      as_singly
      ∙ ap (λ b. cond b heard_singly (failed_now heard_singly))
      (ap (λ w. ends_agree w file)
      (ap (λ w. after_calls (messages p (file_message file)) w v.start.rounds) closed_same
      ∙ sym (singly p closed closed-start (file_message file) reduced v.start.rounds (omega arith)))
      ∙ agree_same p closed closed-start file reduced ∙ e)

  -- GIVEN AGAIN, after a no as well
  pub given-again : verdict p j.verifier ≡ answered j.finding
  given-again =
      ap (λ (i : Judgement). verdict p i.verifier) a.judged
      ∙ verdict-found p (after_file p v (proof_total file) file) done.formed done.turn
      ∙ ap (λ (i : Judgement). answered i.finding) (sym a.judged)

  -- where the end values are the verifier's own, the record and the verdict of the calls given singly; else a no after them
  pub ends-own : EndsAre file v.start.rounds v.fsum v.gsum → (j.verifier ≡ heard_singly) × (verdict p heard_singly ≡ answered j.finding)
  unfolding ends_agree
  ends-own h =
      let e = compared_same (ends_same p (at v.challenges) file v.start.rounds v.fsum v.gsum h) in
      (e, ap (verdict p) (sym e) ∙ given-again)

  pub ends-other : (EndsAre file v.start.rounds v.fsum v.gsum → ⊥) → j.verifier ≡ failed_now heard_singly
  unfolding ends_agree
  ends-other h = compared_same (fails (ends_agree v file) (λ e. h (same_ends p (at v.challenges) file v.start.rounds v.fsum v.gsum e)))

  -- no message is next, and no item, close or file
  pub no_more : (even cross odd : ℕ) → message p j.verifier even cross odd ≡ refused number.turn
  no_more even cross odd =
      ap (λ (i : Judgement). message p i.verifier even cross odd) a.judged
      ∙ message-refused p (after_file p v (proof_total file) file) (message_of3 even cross odd) done.formed done.over

  pub pass-shut : pass_open j.verifier ≡ false
  unfolding pass_open
  pass-shut = ap (λ (i : Judgement). pass_open i.verifier) a.judged ∙ (rw (done.formed, done.closed))

  pub file-formed : well_formed j.verifier ≡ true
  file-formed = ap (λ (i : Judgement). well_formed i.verifier) a.judged ∙ done.formed

  -- DEMAND 2 FOR A PROOF FILE
  pub file-finds : j.finding ≡ file_verdict_of p (at v.challenges) v.start.rounds file v.fsum v.gsum
  unfolding after_file closed_with file_verdict_of ends_agree
  file-finds = ap (λ (i : Judgement). i.finding) a.judged ∙ compared_finds p closed closed-start file reduced

  pub file-says : FileSays p (at v.challenges) file v.start.rounds v.fsum v.gsum j.finding
  file-says = subst (FileSays p (at v.challenges) file v.start.rounds v.fsum v.gsum) (sym file-finds) (file-verdict-says p (at v.challenges) file v.start.rounds v.fsum v.gsum)

  pub file-yes : (j.finding ≡ yes) ↔ FileSays p (at v.challenges) file v.start.rounds v.fsum v.gsum yes
  file-yes =
      let x = file-verdict-yes p (at v.challenges) file v.start.rounds v.fsum v.gsum in
      ((λ e. x.0 (sym file-finds ∙ e)), λ h. file-finds ∙ x.1 h)

pub proof-kept : (p : ℕ) (v : Verifier) (file : List ℕ) → well_formed v ≡ true → well_formed (leaves_judged v (proof p v file)).0 ≡ true
proof-kept p v file formed = by (proof p v file) refl
  where
    by : (o : Outcome Judgement) → proof p v file ≡ o → well_formed (leaves_judged v o).0 ≡ true
    by (answered j) e = file-formed p v file (proof-answered p v file e)
    by (refused k) e = formed
    by (refused_at k i) e = formed
