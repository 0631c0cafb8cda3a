use mathlib.Core.Path.{◌≡◌}
use lib.Dec.{ltb}
use Rattle.vector.specs.Vector.{at}
use Rattle.vector.specs.Slice.{every}
use Rattle.vector.proofs.slice.first_reduced.Given as goal

abbrev pub invariant-loop-x : goal.invariant-loop-x
invariant-loop-x l = l.ok ≡ every l.x-index (λ k. ltb (at l.v k) l.p)
