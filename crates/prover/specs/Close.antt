-- The close of a pass: in small mode each answer comes with it.
use Rattle.std.specs.Prelude.{ℕ, ◌+◌, ◌*◌, Bool, cond, List, [], eqb, ℤ, get_or, set, Ok}
use Rattle.refusal.specs.Number as number
use Rattle.refusal.specs.Outcome.{Outcome, answered, refused, refused_at, require}
use Rattle.field.specs.Integer.{image}
use Rattle.phase.specs.declared.Mode.{Mode}
use Rattle.phase.specs.declared.Mode.TheVariants.{Full}
use Rattle.phase.specs.declared.Next.{Next}
use Rattle.phase.specs.declared.Next.TheVariants.{Total, Message, Challenge, Ends, Openings}
use Rattle.phase.specs.declared.Kind.{Kind}
use Rattle.phase.specs.declared.Kind.TheVariants.{Shut, Asked, Change}
use Rattle.phase.specs.Order.{round_or_ends}
use Rattle.prover.specs.declared.Run.{Run}
use Rattle.pass.specs.declared.Pass.{Pass}
use Rattle.prover.specs.declared.Reply.TheVariants as answer
use Rattle.prover.specs.Records.{Step, Out, out, answered_step, unchanged}
use Rattle.prover.specs.Calls.{pass_open}
use Rattle.pass.specs.Open.{empty_pass}
use Rattle.pass.specs.Formed.{total_within}
use Rattle.pass.specs.Values.{values_of}

-- the run with another next, messages, total, claim and end values
abbrev pub run_with : Run → Next → List ℕ → ℤ → ℕ → ℕ → ℕ → Run
run_with r next messages total claim f g =
    record {
      start = r.start;
      mode = r.mode;
      next = next;
      round = r.round;
      challenges = r.challenges;
      messages = messages;
      total = total;
      claim = claim;
      fend = f;
      gend = g;
    }

-- the claim is "the total": a negative one is P + T, and a twisted run's is a field number
abbrev pub with_total : ℕ → Run → ℤ → Run
with_total p r total = run_with r (round_or_ends 0 r.start.rounds) r.messages total (image p total) r.fend r.gend

abbrev pub with_field_total : Run → ℕ → Run
with_field_total r total = run_with r (round_or_ends 0 r.start.rounds) r.messages r.total total r.fend r.gend

abbrev pub with_ends : Run → ℕ → ℕ → Run
with_ends r f g = run_with r Openings r.messages r.total r.claim f g

abbrev pub in_mode : Run → Mode → Run
in_mode r mode =
    record {
      start = r.start;
      mode = mode;
      next = r.next;
      round = r.round;
      challenges = r.challenges;
      messages = r.messages;
      total = r.total;
      claim = r.claim;
      fend = r.fend;
      gend = r.gend;
    }

-- the pass record that a close hands back
abbrev pub shut_pass : Pass
shut_pass = empty_pass Shut

-- "A twisted run's total is a field number and has no limit"
abbrev pub total_step : ℕ → Run → Pass → Step
total_step p r s =
    cond r.start.plain (answered_step (with_total p r s.total) shut_pass (answer.Total s.total))
    (answered_step (with_field_total r s.dot) shut_pass (answer.FieldTotal s.dot))

-- the one level-n entry of each stack
abbrev pub ends_step : Run → Pass → Step
ends_step r s =
    let f : ℕ = get_or s.fvalues 0 0 in
    let g : ℕ = get_or s.gvalues 0 0 in
    answered_step (with_ends r f g) shut_pass (answer.Ends f g)

abbrev pub changed_step : Run → Step
changed_step r = answered_step (in_mode r Full) shut_pass answer.Changed

-- 7: a plain total within its limits
abbrev pub total_fits : ℕ → Run → Pass → Bool
total_fits p r s = total_within p r.next r.start.plain s.total

-- the three numbers of message i, from place 3i on
abbrev pub messages_with : List ℕ → ℕ → ℕ → ℕ → ℕ → List ℕ
messages_with messages i even cross odd = set (set (set messages (3 * i) even) (3 * i + 1) cross) (3 * i + 2) odd

abbrev pub with_message : Run → ℕ → ℕ → ℕ → Run
with_message r even cross odd =
    run_with r Challenge (messages_with r.messages r.round even cross odd) r.total r.claim r.fend r.gend

abbrev pub message_step : Run → Pass → Step
message_step r s =
    answered_step (with_message r s.even s.cross s.odd) shut_pass (answer.Message s.even s.cross s.odd)

-- the run stays where it is: "for as many points as wanted"
abbrev pub opening_step : Run → Pass → Step
opening_step r s = record { run = r; pass = shut_pass; answer = Ok answer.Opening; values = values_of s.evals r.start.rounds }

-- what a pass that is whole answers
abbrev pub finished : ℕ → Run → Pass → Next → Outcome Step
finished p r s Total = answered (total_step p r s)
finished p r s Message = answered (message_step r s)
finished p r s Challenge = refused number.order
finished p r s Ends = answered (ends_step r s)
finished p r s Openings = answered (opening_step r s)

abbrev pub closing : ℕ → Run → Pass → Kind → Outcome Step
closing p r s Shut = refused number.order
closing p r s Asked = finished p r s r.next
closing p r s Change = answered (changed_step r)

-- 10 no pass; 8 items wanting; 7, which leaves the pass open
unfoldable pub close_call : ℕ → Run → Pass → Outcome Step
close_call p r s =
    require (pass_open p r s) number.order
    (require (eqb s.taken r.start.items) number.items (require (total_fits p r s) number.total (closing p r s s.kind)))

-- a call with no buffers
abbrev pub leaves_step : Run → Pass → Outcome Step → Out
leaves_step r s (answered o) = out o [] []
leaves_step r s (refused k) = unchanged r s [] [] (refused k)
leaves_step r s (refused_at k i) = unchanged r s [] [] (refused_at k i)
