use Prim.Native.Nat.{◌≤◌}
use mathlib.Core.Path.{◌≡◌}
use Rattle.kernel.specs.Kernel.{climb_from, evaluated_from, climber₀}
use Rattle.kernel.proofs.climb.climb.Given as goal

abbrev pub invariant-loop-level : goal.invariant-loop-level
invariant-loop-level g l = (l.count ≤ 16) × (l.level ≤ l.last)
    × (climb_from l.p l.challenges l.last l.k.flevels l.k.fvalues l.k.gvalues l.count (record { count = l.count; level = l.level; f = l.a; g = l.b })
    ≡ climb_from l.p l.challenges l.last l.k.flevels l.k.fvalues l.k.gvalues l.initial.count (climber₀ l.initial.count l.initial.a l.initial.b))
    × (evaluated_from l.p l.challenges l.last l.k.flevels l.k.fvalues l.k.gvalues l.at l.count (record { count = l.count; level = l.level; f = l.a; g = l.b }) l.evals
    ≡ evaluated_from l.p l.challenges l.last l.k.flevels l.k.fvalues l.k.gvalues l.at l.initial.count (climber₀ l.initial.count l.initial.a l.initial.b) l.initial.evals)

abbrev pub decreases-loop-level : goal.decreases-loop-level
decreases-loop-level g l = l.count
