use Rattle.algebra.specs.Mod.{mul_mod}
use Rattle.field.proofs.Reduction.{product-below}
use borrow.Author.Rules.{rules}
use Rattle.field.proofs.modular.mul.Goals as goal

pub overflow_mul-a : goal.overflow_mul-a
overflow_mul-a c = record { fits = product-below 32 (search rules) (search rules) }

pub returns : goal.returns
unfolding mul_mod
returns c = c.reduce.ensures
