use mathlib.Core.Path.{◌≡◌}
use Prim.Native.Nat.{◌+◌, ◌*◌, ◌/◌, ◌%◌, min}
use Rattle.vector.specs.Vector.{at, weight}
use Rattle.vector.specs.Slice.{overwrite}
use Rattle.vector.proofs.weight.weights.Given as goal

abbrev pub invariant-loop-i : goal.invariant-loop-i
invariant-loop-i l = (l.out ≡ overwrite (λ j. weight l.p (at l.cs) (min l.n 15) (l.first + j)) l.i l.initial.out)
    × (((l.first + l.i) % 16 ≡ 0 → ⊥) → l.high ≡ weight l.p (at l.cs) (min l.n 15) ((l.first + l.i) / 16 * 16))
