use mathlib.Core.Path.{◌≡◌}
use Prim.Native.Nat.{◌-◌}
use Rattle.vector.specs.Vector.{at}
use Rattle.vector.proofs.Horner.{horner}
use Rattle.vector.proofs.slice.evaluate.Given as goal

abbrev pub invariant-loop-i : goal.invariant-loop-i
invariant-loop-i l = l.value ≡ horner l.p l.x (at l.v) l.n (l.n - l.i)
