use mathlib.Core.Path.{ap, ◌∙◌}
use native.Mathlib.Numerals.{add-one}
use Rattle.algebra.specs.Mod.{mul_mod}
use Rattle.vector.specs.Vector.{at}
use Rattle.vector.proofs.Weights.{rest-turn, weight-take, weight-skip}
use Rattle.vector.proofs.weight.weight_in.Goals as goal
use Rattle.vector.proofs.weight.weight_in.Goals.{then-rest-eq1, else-rest-eq1}

pub loop-k-preserved : goal.loop-k-preserved
loop-k-preserved c =
    let l = c.loop-k in
    let s = c.args in
    let cs = at s.cs.now in
    let rest = l.invariant.0 in (
      rw (add-one l.k) (rest-turn s.p cs l.k s.index l.rest rest),
      rw (add-one l.k)
          (elim c.if-rest-eq1.branch [
            | then-rest-eq1 w ↦
                w.product-is ∙ w.mul-product.ensures ∙ ap (λ x. mul_mod s.p x (cs l.k)) l.invariant.1
                ∙ weight-take s.p cs l.k s.index l.rest rest w.if-rest-eq1.true
            | else-rest-eq1 w ↦ w.product-is ∙ l.invariant.1 ∙ weight-skip s.p cs l.k s.index l.rest rest w.if-rest-eq1.false
          ]),
    )
