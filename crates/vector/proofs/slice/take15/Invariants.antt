use mathlib.Core.Path.{◌≡◌}
use lib.ListN.{replicate}
use Rattle.vector.specs.Vector.{at}
use Rattle.vector.specs.Slice.{overwrite}
use Rattle.vector.proofs.slice.take15.Given as goal

abbrev pub invariant-loop-i : goal.invariant-loop-i
invariant-loop-i l = l.out ≡ overwrite (at l.v) l.i (replicate 15 0)
