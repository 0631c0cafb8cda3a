use mathlib.Core.Path.{sym, ◌∙◌}
use native.Mathlib.Omega.{arith}
use Rattle.field.specs.Modulus.{modulus}
use Rattle.trip.specs.Input.{number_at}
use Rattle.vector.proofs.Every.{every_true, every-false}
use Rattle.vector.specs.Slice.{is_nonzero}
use Rattle.trip.proofs.input.all_nonzero.Goals as goal

pub returns-then-not-nonzero : goal.returns-then-not-nonzero
returns-then-not-nonzero c =
    sym (every-false (λ k. is_nonzero modulus (number_at c.args.numbers.now k)) c.args.count c.loop-k.k (omega arith) (sym c.nonzero.ensures ∙ c.if-not-nonzero.true))

pub returns : goal.returns
returns c = sym (every_true (λ k. is_nonzero modulus (number_at c.args.numbers.now k)) c.args.count (λ j h. c.loop-k.invariant j (omega arith)))
