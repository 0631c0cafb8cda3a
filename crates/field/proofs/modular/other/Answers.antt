use Prim.Native.Nat.{◌+◌, ◌*◌, ◌/◌, ◌%◌}
use mathlib.Core.Path.{sym, ◌∙◌}
use native.Mathlib.Nat.{mod-lt}
use native.Mathlib.Omega.{arith}
use Rattle.algebra.proofs.Congruence.{residue-of}
use Rattle.field.proofs.Residues.{by_half}
use Rattle.field.proofs.modular.other.Goals as goal

pub overflow_mul-result : goal.overflow_mul-result
overflow_mul-result c = record { fits = omega (arith, mod-lt (c.args.x / 2) c.requires) }

pub overflow_add-result : goal.overflow_add-result
overflow_add-result c = record { fits = omega (arith, mod-lt (c.args.x / 2) c.requires) }

pub overflow_cast-result : goal.overflow_cast-result
overflow_cast-result c = record { fits = omega (arith, mod-lt (c.args.x / 2 % c.args.p * 2 + c.args.x % 2) c.requires) }

pub returns : goal.returns
returns c = by_half c.args.p c.args.x ∙ sym (residue-of c.args.p c.requires c.args.x)
