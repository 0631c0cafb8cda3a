-- "a small run may change to full: one pass writes the current folds .. to the first places of the two buffers"; and the return.
use Rattle.std.specs.Prelude.{ℕ, Bool, List, [], length}
use Rattle.refusal.specs.Number as number
use Rattle.refusal.specs.Outcome.{Outcome, answered, require}
use Rattle.phase.specs.declared.Mode.TheVariants.{Small}
use Rattle.phase.specs.Turn.{change_turn, return_turn}
use Rattle.pass.specs.Open.{change_in}
use Rattle.pass.specs.Lent.{padded_lent}
use Rattle.prover.specs.declared.Run.{Run}
use Rattle.pass.specs.declared.Pass.{Pass}
use Rattle.prover.specs.declared.Reply.TheVariants as answer
use Rattle.prover.specs.Records.{Out, out, answered_step}
use Rattle.prover.specs.Level.{stage_of}
use Rattle.prover.specs.Calls.{both_long}
use Rattle.prover.specs.WellFormed.{well_formed}
use Rattle.prover.specs.Close.{in_mode}

abbrev pub may_change : ℕ → Run → Pass → Bool
may_change p r s = change_turn (well_formed p r s) r.mode r.next r.start.rounds

abbrev pub padded_buffer : Run → List ℕ → List ℕ
padded_buffer r xs = padded_lent (stage_of r) xs

abbrev pub change_pass : Run → Pass
change_pass r = change_in (stage_of r)

abbrev pub changes : Run → List ℕ → List ℕ → Out
changes r f g = out (answered_step r (change_pass r) answer.Opened) (padded_buffer r f) (padded_buffer r g)

unfoldable pub to_full_call : ℕ → Run → Pass → List ℕ → List ℕ → Outcome Out
to_full_call p r s f g =
    require (may_change p r s) number.order (require (both_long r (length f) (length g)) number.buffer (answered (changes r f g)))

abbrev pub may_return : ℕ → Run → Pass → Bool
may_return p r s = return_turn (well_formed p r s) r.mode r.next r.start.rounds

-- document 02, (c): "the run goes on from the same round": nothing moves but the mode
abbrev pub returns : Run → Pass → Out
returns r s = out (answered_step (in_mode r Small) s answer.Changed) [] []

unfoldable pub to_small_call : ℕ → Run → Pass → Outcome Out
to_small_call p r s = require (may_return p r s) number.order (answered (returns r s))
