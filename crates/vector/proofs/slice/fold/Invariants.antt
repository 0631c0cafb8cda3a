use mathlib.Core.Path.{◌≡◌}
use Rattle.vector.specs.Vector.{at}
use Rattle.vector.specs.Fold.{combine, fold_once_with}
use Rattle.vector.specs.Slice.{overwrite}
use Rattle.vector.proofs.slice.fold.Given as goal

abbrev pub invariant-loop-i : goal.invariant-loop-i
invariant-loop-i l = l.v ≡ overwrite (fold_once_with (combine l.p) l.c (at l.initial.v)) l.i l.initial.v
