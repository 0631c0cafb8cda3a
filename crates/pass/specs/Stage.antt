-- The stage of a run that a pass is for: the fold that it works on, and its padding.
use Rattle.std.specs.Prelude.{ℕ}
use Rattle.phase.specs.declared.Kind.{Kind}
use Rattle.phase.specs.Level.{level_at, fold_at, padding_of}
use Rattle.pass.specs.declared.Stage.{Stage}

abbrev pub level_in : Stage → Kind → ℕ
level_in w k = level_at w.start.rounds w.round w.next k

abbrev pub size_in : Stage → ℕ
size_in w = fold_at w.start.rounds w.round w.next

abbrev pub padding_in : Stage → ℕ
padding_in w = padding_of w.start.items w.start.rounds
