use mathlib.Core.Path.{refl}
use Rattle.field.specs.Modulus.{modulus}
use Rattle.field.proofs.modulus.Goals as goal

pub returns : goal.returns
unfolding modulus
returns c = refl
