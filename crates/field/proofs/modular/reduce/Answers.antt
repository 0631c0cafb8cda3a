use mathlib.Core.Path.{sym, ap, ◌∙◌}
use native.Mathlib.Omega.{arith}
use Rattle.algebra.proofs.Congruence.{residue-of}
use Rattle.algebra.specs.Mod.{residue}
use Rattle.field.proofs.Reduction.{residue-none}
use Rattle.field.proofs.modular.reduce.Goals as goal

pub returns-in-2147483647 : goal.returns-in-2147483647
returns-in-2147483647 c = sym (ap (λ q. residue q c.args.x) c.in-2147483647.is ∙ residue-of 2147483647 (omega arith) c.args.x)

pub returns-in-0 : goal.returns-in-0
returns-in-0 c = sym (ap (λ q. residue q c.args.x) c.in-0.is ∙ residue-none c.args.x)
