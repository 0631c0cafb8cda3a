-- The records that a state and what was answered stand for.
use Prim.Native.Nat.{ℕ, ◌-◌}
use mathlib.Core.Path.{◌≡◌, refl}
use mathlib.Core.List.{List, [], ◌∷◌, ◌++◌}
use mathlib.Core.Option.{Option, none, some}
use lib.IntN.{ℤ, pos}
use lib.ListN.{length, replicate}
use Rattle.refusal.specs.Outcome.{Outcome, answered, refused, refused_at}
use Rattle.prover.specs.declared.Run.{Run}
use Rattle.pass.specs.declared.Pass.{Pass}
use Rattle.prover.specs.Reply.{Reply}
use Rattle.prover.specs.Reply as reply
use Rattle.runs.specs.Passes.{pass_after}
use Rattle.calls.specs.declared.Call.{Call}
use Rattle.calls.specs.State.{State}
use Rattle.calls.specs.Claim.{Running, no_claim, after_call}
use Rattle.calls.specs.Table.{refused_with}

-- what was answered: the running claim, the plain total, the numbers of the messages in order, the end values
pub record Notes : Type 0 where
  pub running : Running
  pub total : ℤ
  pub messages : List ℕ
  pub fend : ℕ
  pub gend : ℕ

abbrev pub no_notes : Notes
no_notes = record { running = no_claim; total = pos 0; messages = []; fend = 0; gend = 0 }

abbrev pub notes : Notes → Reply → Notes
notes past reply.started = past
notes past reply.opened = past
notes past reply.taken = past
notes past (reply.total t) = record { running = past.running; total = t; messages = past.messages; fend = past.fend; gend = past.gend }
notes past (reply.field_total t) = past
notes past (reply.message even cross odd) =
    record { running = past.running; total = past.total; messages = past.messages ++ even ∷ cross ∷ odd ∷ []; fend = past.fend; gend = past.gend }
notes past reply.challenged = past
notes past (reply.ends f g) = record { running = past.running; total = past.total; messages = past.messages; fend = f; gend = g }
notes past reply.opening = past
notes past reply.changed = past
notes past (reply.written size) = past

abbrev pub with_running : Running → Notes → Notes
with_running x past = record { running = x; total = past.total; messages = past.messages; fend = past.fend; gend = past.gend }

abbrev pub noted : ℕ → Call → Notes → Outcome Reply → Notes
noted p c past (answered x) = with_running (after_call p past.running c x) (notes past x)
noted p c past (refused k) = past
noted p c past (refused_at k i) = past

pub refusal_noted : (p : ℕ) (c : Call) (past : Notes) (k : ℕ) (i : Option ℕ) → noted p c past (refused_with k i) ≡ past
refusal_noted p c past k none = refl
refusal_noted p c past k (some i) = refl

-- a list from the first place of an array on, the places past it zero
abbrev pub in_array : ℕ → List ℕ → List ℕ
in_array size xs = xs ++ replicate (size - length xs) 0

abbrev pub run_of : State → Notes → Run
run_of a past =
    record {
      start = a.start;
      mode = a.turn.mode;
      next = a.turn.next;
      round = length a.turn.challenges;
      challenges = in_array 15 a.turn.challenges;
      messages = in_array 45 past.messages;
      total = past.total;
      claim = past.running.claim;
      fend = past.fend;
      gend = past.gend;
    }

-- the pass record is what its items made of it
abbrev pub pass_of : ℕ → State → Notes → Pass
pass_of p a past = pass_after p (run_of a past) a.pass.kind a.pass.point a.pass.items
