use mathlib.Core.Path.{refl, ap₂, ◌∙◌}
use lib.ListN.{replicate, set}
use Rattle.algebra.specs.Mod.{mul_mod}
use Rattle.vector.specs.Slice.{overwrite}
use Rattle.vector.specs.Twist.{twist_of}
use Rattle.vector.proofs.Overwrite.{overwrite-next}
use Rattle.vector.proofs.TwistPowers.{first-twist, next-twist}
use Rattle.vector.proofs.weight.powers.Goals as goal

pub loop-j-init : goal.loop-j-init
unfolding overwrite
loop-j-init c =
    let s = c.args in
    (c.reduce-square.ensures ∙ first-twist s.p s.v, refl)

pub loop-j-preserved : goal.loop-j-preserved
loop-j-preserved c =
    let l = c.loop-j in
    let s = c.args in (
      c.mul-square.ensures ∙ ap₂ (mul_mod s.p) l.invariant.0 l.invariant.0 ∙ next-twist s.p s.v l.j,
      ap₂ (λ xs x. set xs l.j x) l.invariant.1 l.invariant.0 ∙ overwrite-next (twist_of s.p s.v) (replicate 15 0) l.j,
    )
