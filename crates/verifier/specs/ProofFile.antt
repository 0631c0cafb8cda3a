-- The proof file: "a close of the pass (8 and 10 as for any close) [that] brings every message in one call".
use Rattle.std.specs.Prelude.{ℕ, zero, suc, ◌+◌, ◌*◌, Bool, cond, ◌&&◌, List, eqb, ℤ}
use Rattle.refusal.specs.Number as number
use Rattle.refusal.specs.Outcome.{Outcome, answered, refused, refused_at, require}
use Rattle.field.specs.Integer.{image}
use Rattle.vector.specs.Message.{Message}
use Rattle.wire.specs.declared.proof.Head.{Head}
use Rattle.wire.specs.Proof.{proof_number, read_proof_of}
use Rattle.verifier.specs.declared.Verifier.{Verifier}
use Rattle.verifier.specs.declared.Judged.{Judged}
use Rattle.verifier.specs.Records.{Finding, verdict_in}
use Rattle.verifier.specs.Claims.{message_of3, closed_with, failed_now, hears, finds}
use Rattle.verifier.specs.Calls.{pass_open}

-- message i of the file
abbrev pub file_message : List ℕ → ℕ → Message
file_message file i = message_of3 (proof_number file (3 * i)) (proof_number file (3 * i + 1)) (proof_number file (3 * i + 2))

-- one message more; after a no, which closes the run, none is heard
unfoldable pub hears_next : ℕ → Verifier → Message → Verifier
hears_next p v m = cond v.failed v (hears p v m).verifier

-- the first k messages, in order
unfoldable pub hears_first : ℕ → Verifier → (ℕ → Message) → ℕ → Verifier
hears_first p v m zero = v
hears_first p v m (suc k) = hears_next p (hears_first p v m k) (m k)

-- the end values of the file are the verifier's own
unfoldable pub ends_agree : Verifier → List ℕ → Bool
ends_agree v file = eqb (proof_number file (3 * v.start.rounds)) v.fsum && eqb (proof_number file (3 * v.start.rounds + 1)) v.gsum

-- "End values in the proof file must equal its own, else no at n": where every message passed, the round is n
unfoldable pub compares : Verifier → List ℕ → Verifier
compares v file = cond (ends_agree v file) v (failed_now v)

-- the close with the file's total, then every message, then the end values
unfoldable pub after_file : ℕ → Verifier → ℤ → List ℕ → Verifier
after_file p v total file = compares (hears_first p (closed_with v (image p total)) (file_message file) v.start.rounds) file

-- the verifier after the file, and its verdict
pub record Judgement : Type 0 where
  pub verifier : Verifier
  pub finding : Finding

abbrev pub judges : ℕ → Verifier → ℤ → List ℕ → Judgement
judges p v total file = record { verifier = after_file p v total file; finding = finds p (after_file p v total file) }

-- what a file that reads well goes on to, with its total
abbrev pub read_total : Outcome Head → (ℤ → Judgement) → Outcome Judgement
read_total (answered head) rest = answered (rest head.total)
read_total (refused k) rest = refused k
read_total (refused_at k i) rest = refused_at k i

-- the turn (10, 8, 10), then the file: 1, 2, 3 (also for another n than the verifier's), 4, 7, 11
unfoldable pub proof : ℕ → Verifier → List ℕ → Outcome Judgement
proof p v file =
    require (pass_open v) number.order
    (require (eqb v.taken v.start.items) number.items
    (require v.start.plain number.order (read_total (read_proof_of p v.start.rounds file) (λ total. judges p v total file))))

-- the verifier and the verdict that the call hands back
abbrev pub judged_in : Judged → Verifier × Outcome Finding
judged_in r = (r.verifier, verdict_in r.verdict)

-- "state and buffers are unchanged" by a refusal
abbrev pub leaves_judged : Verifier → Outcome Judgement → Verifier × Outcome Finding
leaves_judged v (answered j) = (j.verifier, answered j.finding)
leaves_judged v (refused k) = (v, refused k)
leaves_judged v (refused_at k i) = (v, refused_at k i)
