-- The calls that open a pass of small mode.
use Rattle.std.specs.Prelude.{ℕ, Bool, []}
use Rattle.refusal.specs.Number as number
use Rattle.refusal.specs.Outcome.{Outcome, answered, require}
use Rattle.field.specs.Number.{is_nonzero}
use Rattle.kernel.specs.declared.Kernel.{Kernel}
use Rattle.kernel.specs.declared.Points.{Points}
use Rattle.phase.specs.declared.Kind.TheVariants.{Asked}
use Rattle.phase.specs.Turn.{pass_turn, point_turn}
use Rattle.pass.specs.Open.{no_points, points_of, new_pass, padded_in, open_in}
use Rattle.prover.specs.declared.Run.{Run}
use Rattle.pass.specs.declared.Pass.{Pass}
use Rattle.prover.specs.declared.Reply.TheVariants as answer
use Rattle.prover.specs.Records.{Out, out, answered_step}
use Rattle.prover.specs.Level.{stage_of}
use Rattle.prover.specs.WellFormed.{well_formed}

-- whose turn it is
abbrev pub may_open : ℕ → Run → Pass → Bool
may_open p r s = pass_turn (well_formed p r s) r.mode r.next

abbrev pub may_open_at : ℕ → Run → Pass → Bool
may_open_at p r s = point_turn (well_formed p r s) r.mode r.next r.start.rounds

abbrev pub padded_kernel : Run → Kernel
padded_kernel r = padded_in (stage_of r)

abbrev pub open_kernel : Run → Kernel
open_kernel r = open_in (stage_of r)

abbrev pub opened : Run → Points → Kernel → Out
opened r points k = out (answered_step r (new_pass Asked points k) answer.Opened) [] []

-- "opening a pass anew drops the unfinished one": nothing of the given pass is in the new one
unfoldable pub open_call : ℕ → Run → Pass → Outcome Out
open_call p r s = require (may_open p r s) number.order (answered (opened r no_points (open_kernel r)))

unfoldable pub open_at_call : ℕ → Run → Pass → ℕ → Outcome Out
open_at_call p r s b =
    require (may_open_at p r s) number.order
    (require (is_nonzero p b) number.argument (answered (opened r (points_of p b) (padded_kernel r))))
