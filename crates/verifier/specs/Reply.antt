-- What an answered call says, in document 01's words, and what each case of the code's reply is of it.
use Rattle.std.specs.Prelude.{ℕ, Result}
use Rattle.refusal.specs.declared.Refusal.{Refusal}
use Rattle.refusal.specs.Refusal.{outcome_by}
use Rattle.refusal.specs.Outcome.{Outcome}
use Rattle.verifier.specs.declared.Reply as code
use Rattle.verifier.specs.declared.Reply.TheVariants as said

pub data Reply : Type 0 where
  -- a start: the pass is "open from its start"
  started : Reply
  -- an item of the pass
  taken : Reply
  -- the close of the pass: "Its claim starts as the total"
  closed : Reply
  -- "A message passes if even + odd = claim"
  passed : Reply
  -- "A no is not a refusal; it closes the run", with its round
  no : ℕ → Reply

abbrev pub reply_in : code.Reply → Reply
reply_in said.Started = started
reply_in said.Taken = taken
reply_in said.Closed = closed
reply_in said.Passed = passed
reply_in (said.No k) = no k

abbrev pub answer_in : Result code.Reply Refusal → Outcome Reply
answer_in answer = outcome_by reply_in answer
