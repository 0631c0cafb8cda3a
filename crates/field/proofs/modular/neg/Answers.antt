use mathlib.Core.Path.{sym, ap, ◌∙◌}
use Prim.Native.Nat.{◌-◌}
use native.Mathlib.Omega.{arith}
use Rattle.field.proofs.Reduction.{neg_zero, neg_other, residue-below}
use Rattle.field.proofs.modular.neg.Goals as goal

pub returns-then-r-eq0 : goal.returns-then-r-eq0
returns-then-r-eq0 c = sym (neg_zero _ _ (sym c.reduce-r.ensures ∙ c.if-r-eq0.true))

pub overflow_sub-result : goal.overflow_sub-result
overflow_sub-result c =
    let b = residue-below c.args.p c.args.a (λ z. c.if-r-eq0.false (c.reduce-r.ensures ∙ z)) in
    omega (arith, c.reduce-r.ensures)

pub returns : goal.returns
returns c =
    ap (λ r. c.args.p - r) c.reduce-r.ensures
    ∙ sym (neg_other _ _ (λ z. c.if-r-eq0.false (c.reduce-r.ensures ∙ z)))
