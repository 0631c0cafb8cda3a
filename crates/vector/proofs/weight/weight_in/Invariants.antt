use mathlib.Core.Path.{◌≡◌}
use Prim.Native.Nat.{◌/◌, ◌^◌}
use Rattle.vector.specs.Vector.{at, weight}
use Rattle.vector.proofs.weight.weight_in.Given as goal

abbrev pub invariant-loop-k : goal.invariant-loop-k
invariant-loop-k l = (l.rest ≡ l.index / 2 ^ l.k) × (l.product ≡ weight l.p (at l.cs) l.k l.index)
