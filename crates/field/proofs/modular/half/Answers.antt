use Rattle.algebra.specs.Mod.{half_mod, half_one}
use Rattle.field.proofs.modular.half.Goals as goal

pub returns : goal.returns
unfolding half_mod half_one
returns c = c.mul.ensures
