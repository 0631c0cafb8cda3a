-- The records of a run, what a call hands back, and that a refusal changes nothing.
use Rattle.std.specs.Prelude.{ℕ, List, Option, Some, Result, Ok, Err}
use Rattle.refusal.specs.declared.Refusal.{Refusal}
use Rattle.refusal.specs.Outcome.{Outcome, answered, refused, refused_at}
use Rattle.pass.specs.Values.{no_values}
use Rattle.prover.specs.declared.Run.{Run}
use Rattle.pass.specs.declared.Pass.{Pass}
use Rattle.prover.specs.declared.StepOr.{StepOr}
use Rattle.prover.specs.declared.Reply as code
use Rattle.prover.specs.Reply.{Reply, answer_in}

-- what a call hands back: where it is refused, by a row of the table
abbrev pub Step : Type 0
Step = StepOr Refusal

-- what a call hands back, with the two lent buffers as it leaves them
pub record Out : Type 0 where
  pub run : Run
  pub pass : Pass
  pub answer : Outcome Reply
  pub values : List ℕ
  pub f : List ℕ
  pub g : List ℕ

abbrev pub out : Step → List ℕ → List ℕ → Out
out s f g = record { run = s.run; pass = s.pass; answer = answer_in s.answer; values = s.values; f = f; g = g }

-- with no values beside the answer
abbrev pub step_with : {E : Type 0} → Run → Pass → Result code.Reply E → StepOr E
step_with r s a = record { run = r; pass = s; answer = a; values = no_values }

abbrev pub answered_step : Run → Pass → code.Reply → Step
answered_step r s a = step_with r s (Ok a)

abbrev pub refused_step : {E : Type 0} → Run → Pass → E → StepOr E
refused_step r s e = step_with r s (Err e)

-- by a number and the index of what is at fault, as `number_of` and `index_of` tell a row
abbrev pub refused_at_step : Run → Pass → ℕ → ℕ → StepOr (ℕ × Option ℕ)
refused_at_step r s k i = refused_step r s (k, Some i)

-- what a call was given, beside its answer
abbrev pub unchanged : Run → Pass → List ℕ → List ℕ → Outcome Reply → Out
unchanged r s f g a = record { run = r; pass = s; answer = a; values = no_values; f = f; g = g }

-- "state and buffers are unchanged": what each outcome of a call leaves of what it was given
abbrev pub leaves : Run → Pass → List ℕ → List ℕ → Outcome Out → Out
leaves r s f g (answered o) = o
leaves r s f g (refused k) = unchanged r s f g (refused k)
leaves r s f g (refused_at k i) = unchanged r s f g (refused_at k i)
