use mathlib.Core.Path.{◌≡◌}
use Rattle.vector.specs.Vector.{at}
use Rattle.vector.specs.Slice.{every, is_nonzero}
use Rattle.vector.proofs.slice.all_nonzero.Given as goal

abbrev pub invariant-loop-x : goal.invariant-loop-x
invariant-loop-x l = l.ok ≡ every l.x-index (λ k. is_nonzero l.p (at l.v k))
