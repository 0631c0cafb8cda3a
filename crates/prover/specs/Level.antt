-- The stage of a run, which is all that its pass reads of it, and the fold that a pass or a full-mode call works on.
use Rattle.std.specs.Prelude.{ℕ}
use Rattle.phase.specs.declared.Kind.{Kind}
use Rattle.pass.specs.declared.Stage.{Stage}
use Rattle.pass.specs.Stage.{level_in, size_in, padding_in}
use Rattle.prover.specs.declared.Run.{Run}

abbrev pub stage_of : Run → Stage
stage_of r = record { start = r.start; challenges = r.challenges; round = r.round; next = r.next }

abbrev pub level_of : Run → Kind → ℕ
level_of r k = level_in (stage_of r) k

abbrev pub fold_size : Run → ℕ
fold_size r = size_in (stage_of r)

abbrev pub padding : Run → ℕ
padding r = padding_in (stage_of r)
