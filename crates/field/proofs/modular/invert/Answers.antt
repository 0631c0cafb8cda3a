use mathlib.Core.Path.{refl, sym, ap, ◌∙◌}
use Prim.Native.Nat.{◌%◌, ◌<◌, ◌≤◌}
use native.Mathlib.Nat.{le_refl, mod-lt}
use native.Mathlib.Omega.{arith}
use Rattle.algebra.specs.Mod.{residue, mul_mod, inverse_in, inverse_mod}
use Rattle.algebra.proofs.Congruence.{residue-small}
use Rattle.algebra.proofs.Inverse.{inverse_in-small, inverse_lt, inverse_turn}
use Rattle.algebra.proofs.Laws.{one_product}
use Rattle.field.proofs.modular.invert.Goals as goal

pub loop-a-init : goal.loop-a-init
loop-a-init c = refl

pub nonzero_div-p : goal.nonzero_div-p
nonzero_div-p c = omega arith

pub nonzero_rem-a : goal.nonzero_rem-a
nonzero_rem-a c = omega arith

pub loop-a-smaller : goal.loop-a-smaller
loop-a-smaller c = let lo : 0 < c.loop-a.a = omega arith in mod-lt _ lo

pub loop-a-preserved : goal.loop-a-preserved
loop-a-preserved c =
    let l = c.loop-a in
    let p = c.args.p in
    ap (λ t. mul_mod p t (inverse_in (p % l.a) p (p % l.a))) (c.mul-t.ensures ∙ ap (mul_mod p l.t) c.neg.ensures)
    ∙ inverse_turn p l.t l.a (omega arith)
    ∙ l.invariant

pub returns : goal.returns
unfolding inverse_mod
returns c =
    let l = c.loop-a in
    let s = c.args in
    let small : l.a ≤ 1 = omega arith in
    c.mul.ensures
    ∙ ap (mul_mod s.p l.t) (sym (inverse_in-small s.p l.a l.a (le_refl l.a) small))
    ∙ l.invariant
    ∙ one_product s.p _
    ∙ ap (λ r. residue s.p (inverse_in r s.p r)) c.reduce-a.ensures
    ∙ residue-small s.p _ (inverse_lt s.p s.x)
