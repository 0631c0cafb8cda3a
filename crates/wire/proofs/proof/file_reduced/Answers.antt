use mathlib.Core.Path.{◌≡◌, sym, ap, ◌∙◌}
use native.Mathlib.Omega.{arith}
use borrow.Author.Tests.{ltb-true, ltb-false}
use Rattle.field.specs.Number.{is_reduced}
use Rattle.wire.proofs.Below.{below_none, below_next, below_fails}
use Rattle.wire.proofs.proof.file_reduced.Goals as goal

pub loop-k-init : goal.loop-k-init
loop-k-init c = below_none _ _

pub returns-then-not-reduced : goal.returns-then-not-reduced
returns-then-not-reduced c = below_fails _ _ _ _ c.loop-k-test.true (ltb-false _ _ (sym (c.reduced.ensures ∙ ap (is_reduced c.args.p) c.get32.ensures) ∙ c.if-not-reduced.true))

pub loop-k-preserved : goal.loop-k-preserved
loop-k-preserved c = below_next _ _ _ c.loop-k.invariant (ltb-true _ _ (sym (c.reduced.ensures ∙ ap (is_reduced c.args.p) c.get32.ensures) ∙ c.if-not-reduced.false))

pub returns : goal.returns
returns c =
    let e : c.loop-k.k ≡ c.args.count = omega arith in
    rw (← e) c.loop-k.invariant
