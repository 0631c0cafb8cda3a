use Prim.Native.Nat.{◌≤◌}
use mathlib.Core.Path.{◌≡◌}
use Rattle.vector.specs.Vector.{at as item}
use Rattle.kernel.specs.Kernel.{stacks_in, kernel_with, pairs_in, streamed}
use Rattle.kernel.proofs.enter.Given as goal

abbrev pub invariant-loop-i : goal.invariant-loop-i
invariant-loop-i g l = (l.count ≤ 16)
    × (streamed l.p l.challenges l.last l.at (item l.f) (item l.g) l.i (kernel_with (stacks_in l.stacks.flevels l.stacks.fvalues l.stacks.glevels l.stacks.gvalues l.count) l.sums l.evals)
    ≡ streamed l.p l.challenges l.last l.at (item l.f) (item l.g) (pairs_in l.f l.g) l.fn.k)
