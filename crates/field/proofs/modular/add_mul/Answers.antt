use mathlib.Core.Path.{◌∙◌}
use Rattle.field.proofs.Reduction.{product-below, sum-product-below, add_mul_residue}
use borrow.Author.Rules.{rules}
use Rattle.field.proofs.modular.add_mul.Goals as goal

pub overflow_mul-b : goal.overflow_mul-b
overflow_mul-b c = record { fits = product-below 32 (search rules) (search rules) }

pub overflow_add-a : goal.overflow_add-a
overflow_add-a c = record { fits = sum-product-below (search rules) (search rules) (search rules) }

pub returns : goal.returns
returns c = c.reduce.ensures ∙ add_mul_residue _ _ _ _
