-- A call of a run as data, with what it is lent, and what it hands back: exactly the definitions that the methods' contracts cite.
use Rattle.std.specs.Prelude.{ℕ, Bool, true, false, List, []}
use Rattle.refusal.specs.Outcome.{Outcome, answered, refused, refused_at}
use Rattle.wire.specs.Proof.{written_in}
use Rattle.prover.specs.declared.Run.{Run}
use Rattle.pass.specs.declared.Pass.{Pass}
use Rattle.prover.specs.Reply.{Reply}
use Rattle.prover.specs.Records.{Out, leaves}
use Rattle.prover.specs.Open.{open_call, open_at_call}
use Rattle.prover.specs.Change.{to_full_call, to_small_call}
use Rattle.prover.specs.Calls.{give_call}
use Rattle.prover.specs.Close.{close_call, leaves_step}
use Rattle.prover.specs.Full.{message_call, ends_call}
use Rattle.prover.specs.Challenge.{challenge_call}
use Rattle.prover.specs.Opening.{opening_call}
use Rattle.prover.specs.Written.{write_call, written_step, run_proof}
use Rattle.calls.specs.declared.Call.{Call}
use Rattle.calls.specs.declared.Call.TheVariants as call

-- the two lent buffers and the lent file; where a call has no use for one it may be empty
pub record Lent : Type 0 where
  pub f : List ℕ
  pub g : List ℕ
  pub file : List ℕ

abbrev pub lending : List ℕ → List ℕ → List ℕ → Lent
lending f g file = record { f = f; g = g; file = file }

-- what a call hands back, and what it leaves in what it was lent
pub record Result : Type 0 where
  pub run : Run
  pub pass : Pass
  pub answer : Outcome Reply
  pub values : List ℕ
  pub lent : Lent

-- of a run's call and of a verifier's
abbrev pub is_answered : {A : Type 0} → Outcome A → Bool
is_answered (answered x) = true
is_answered (refused k) = false
is_answered (refused_at k i) = false

-- a call with no buffers leaves them; one that has them leaves what its definition says
abbrev pub keeping : Lent → Out → Result
keeping l o = record { run = o.run; pass = o.pass; answer = o.answer; values = o.values; lent = l }

abbrev pub leaving : Lent → Out → Result
leaving l o =
    record { run = o.run; pass = o.pass; answer = o.answer; values = o.values; lent = record { f = o.f; g = o.g; file = l.file } }

-- the call that writes the proof leaves the buffers, and the file as written
abbrev pub writing : ℕ → Run → Pass → Lent → Result
writing p r s l =
    keeping (record { f = l.f; g = l.g; file = written_in (write_call p r s l.file) (run_proof r) l.file })
    (written_step r s (write_call p r s l.file))

unfoldable pub step : ℕ → Run → Pass → Call → Lent → Result
step p r s call.OpenPass l = keeping l (leaves r s [] [] (open_call p r s))
step p r s (call.OpenAt b) l = keeping l (leaves r s [] [] (open_at_call p r s b))
step p r s call.ToFull l = leaving l (leaves r s l.f l.g (to_full_call p r s l.f l.g))
step p r s call.ToSmall l = keeping l (leaves r s [] [] (to_small_call p r s))
step p r s (call.Give x) l = leaving l (leaves r s l.f l.g (give_call p r s x l.f l.g))
step p r s call.Close l = keeping l (leaves_step r s (close_call p r s))
step p r s call.Message l = leaving l (leaves r s l.f l.g (message_call p r s l.f l.g))
step p r s (call.Challenge c) l = leaving l (leaves r s l.f l.g (challenge_call p r s c l.f l.g))
step p r s call.Ends l = leaving l (leaves r s l.f l.g (ends_call p r s l.f l.g))
step p r s (call.Opening b) l = leaving l (leaves r s l.f l.g (opening_call p r s b l.f l.g))
step p r s call.WriteProof l = writing p r s l
