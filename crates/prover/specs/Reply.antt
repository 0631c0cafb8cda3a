-- What an answered call of a run answers, in document 01's words, and the code's answers in these terms.
use Rattle.std.specs.Prelude.{ℕ, ℤ, Result}
use Rattle.refusal.specs.declared.Refusal.{Refusal}
use Rattle.refusal.specs.Outcome.{Outcome}
use Rattle.refusal.specs.Refusal.{outcome_by}
use Rattle.prover.specs.declared.Reply as code
use Rattle.prover.specs.declared.Reply.TheVariants as answer

pub data Reply : Type 0 where
  -- a start, the opening of a pass, an item
  started : Reply
  opened : Reply
  taken : Reply
  -- "A plain total is a signed whole number"; "A twisted run's total is a field number"
  total : ℤ → Reply
  field_total : ℕ → Reply
  -- "Message i": its three numbers; and its challenge
  message : ℕ → ℕ → ℕ → Reply
  challenged : Reply
  -- "the end value" of f and of g
  ends : ℕ → ℕ → Reply
  -- "Opening at point b": its values stand beside the answer
  opening : Reply
  -- the run is in the other mode
  changed : Reply
  -- the length of the proof file
  written : ℕ → Reply

-- the code's replies in these terms
abbrev pub reply_in : code.Reply → Reply
reply_in answer.Started = started
reply_in answer.Opened = opened
reply_in answer.Taken = taken
reply_in (answer.Total z) = total z
reply_in (answer.FieldTotal x) = field_total x
reply_in (answer.Message even cross odd) = message even cross odd
reply_in answer.Challenged = challenged
reply_in (answer.Ends f g) = ends f g
reply_in answer.Opening = opening
reply_in answer.Changed = changed
reply_in (answer.Written size) = written size

-- "A refusal carries its number and, for 5 and 13 to 15, the index"
abbrev pub answer_in : Result code.Reply Refusal → Outcome Reply
answer_in a = outcome_by reply_in a
