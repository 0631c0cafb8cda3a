use Rattle.algebra.specs.Mod.{add_mod}
use Rattle.field.proofs.modular.add.Goals as goal

pub returns : goal.returns
unfolding add_mod
returns c = c.reduce.ensures
