use mathlib.Core.Path.{◌≡◌}
use Prim.Native.Nat.{min}
use lib.ListN.{replicate}
use Rattle.vector.specs.Vector.{at, weight}
use Rattle.vector.specs.Slice.{overwrite}
use Rattle.vector.proofs.weight.low_weights.Given as goal

abbrev pub invariant-loop-i : goal.invariant-loop-i
invariant-loop-i l = l.out ≡ overwrite (weight l.p (at l.cs) (min l.n 15)) l.i (replicate 16 0)
