-- THE RUNNING CLAIM of a run (document 02, (e)) after any calls, from what they were answered alone: "Every call keeps it true, refused
-- calls and changes of mode included".
use Rattle.std.specs.Prelude.{ℕ, ◌<◌, ◌≡◌, Bool, ◌||◌, List}
use Rattle.refusal.specs.Outcome.{Outcome, answered, refused, refused_at}
use Rattle.field.specs.Integer.{image}
use Rattle.vector.specs.Message.{Message, next_claim}
use Rattle.claim.specs.Claim.{message_of3}
use Rattle.phase.specs.declared.Next.{Next}
use Rattle.phase.specs.declared.Next.TheVariants as next
use Rattle.phase.specs.Cases.{waits}
use Rattle.prover.specs.Reply.{Reply}
use Rattle.prover.specs.Reply as reply
use Rattle.calls.specs.declared.Call.{Call}
use Rattle.calls.specs.declared.Call.TheVariants as call
use Rattle.calls.specs.Lists.{always}
use Rattle.calls.specs.World.{Made, World, came, onward}

-- the claim, and the last message that was given
pub record Running : Type 0 where
  pub claim : ℕ
  pub message : Message

-- "0 before the total"
abbrev pub no_claim : Running
no_claim = record { claim = 0; message = message_of3 0 0 0 }

abbrev pub moved_to : Running → ℕ → Running
moved_to x claim = record { claim = claim; message = x.message }

-- "then the total", as a field number: a negative one is P + T, a twisted run's is one already; a message does not move the claim
abbrev pub after_reply : ℕ → Running → Reply → Running
after_reply p x reply.started = x
after_reply p x reply.opened = x
after_reply p x reply.taken = x
after_reply p x (reply.total t) = moved_to x (image p t)
after_reply p x (reply.field_total t) = moved_to x t
after_reply p x (reply.message even cross odd) = record { claim = x.claim; message = message_of3 even cross odd }
after_reply p x reply.challenged = x
after_reply p x (reply.ends f g) = x
after_reply p x reply.opening = x
after_reply p x reply.changed = x
after_reply p x (reply.written size) = x

-- "then, from each challenge on, the value of the last message at its challenge"
abbrev pub after_call : ℕ → Running → Call → Reply → Running
after_call p x call.OpenPass y = after_reply p x y
after_call p x (call.OpenAt b) y = after_reply p x y
after_call p x call.ToFull y = after_reply p x y
after_call p x call.ToSmall y = after_reply p x y
after_call p x (call.Give i) y = after_reply p x y
after_call p x call.Close y = after_reply p x y
after_call p x call.Message y = after_reply p x y
after_call p x (call.Challenge c) y = moved_to x (next_claim p x.message c)
after_call p x call.Ends y = after_reply p x y
after_call p x (call.Opening b) y = after_reply p x y
after_call p x call.WriteProof y = after_reply p x y

-- a refused call moves nothing
abbrev pub after_outcome : ℕ → Running → Call → Outcome Reply → Running
after_outcome p x c (answered y) = after_call p x c y
after_outcome p x c (refused k) = x
after_outcome p x c (refused_at k i) = x

-- A LIST, with the claim that its answers make
pub record Claiming : Type 0 where
  pub now : World
  pub running : Running

module _ (p : ℕ) where
  abbrev pub claiming_on : Claiming → Made → Claiming
  claiming_on x m =
      record { now = onward p x.now m; running = after_outcome p x.running m.call (came p x.now m).answer }

  -- the record's claim is this one, and "a field number"
  abbrev pub ClaimHolds : Claiming → Type 0
  ClaimHolds x = (x.now.run.claim ≡ x.running.claim) × (x.now.run.claim < p)

  -- before and after each call
  abbrev pub AllClaimed : World → List Made → Type 0
  AllClaimed w = always claiming_on ClaimHolds (record { now = w; running = no_claim })

-- after the total and up to the ends: "before each round, and before the ends", and between a message and its challenge
abbrev pub amid_rounds : Next → Bool
amid_rounds t = waits next.Message t || (waits next.Challenge t || waits next.Ends t)
