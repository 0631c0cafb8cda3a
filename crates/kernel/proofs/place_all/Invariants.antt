use Prim.Native.Nat.{◌≤◌, ◌+◌}
use mathlib.Core.Path.{◌≡◌}
use Rattle.vector.specs.Vector.{at as item}
use Rattle.kernel.specs.Kernel.{stacks_in, sums_in, kernel_with, pairs_in}
use Rattle.kernel.specs.Change.{placed_of, placed_all}
use Rattle.kernel.proofs.place_all.Given as goal

abbrev pub invariant-loop-i : goal.invariant-loop-i
invariant-loop-i l = (l.count ≤ 16) × (l.t + l.i ≡ l.taken + pairs_in l.a l.b) × (l.evals ≡ l.fn.k.evals)
    × (placed_all l.p l.challenges l.last l.size (item l.a) (item l.b) l.i l.t (placed_of (kernel_with (stacks_in l.stacks.flevels l.stacks.fvalues l.stacks.glevels l.stacks.gvalues l.count) (sums_in l.fn.k) l.evals) l.f l.g)
    ≡ placed_all l.p l.challenges l.last l.size (item l.a) (item l.b) (pairs_in l.a l.b) l.taken (placed_of l.fn.k l.initial.f l.initial.g))
