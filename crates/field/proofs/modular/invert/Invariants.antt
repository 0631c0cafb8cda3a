use mathlib.Core.Path.{◌≡◌}
use Rattle.algebra.specs.Mod.{mul_mod, inverse_in}
use Rattle.field.proofs.modular.invert.Given as goal

abbrev pub invariant-loop-a : goal.invariant-loop-a
invariant-loop-a l = mul_mod l.p l.t (inverse_in l.a l.p l.a) ≡ mul_mod l.p 1 (inverse_in l.initial.a l.p l.initial.a)

abbrev pub decreases-loop-a : goal.decreases-loop-a
decreases-loop-a l = l.a
