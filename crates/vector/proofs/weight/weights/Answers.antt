use mathlib.Core.Path.{ap, ◌∙◌}
use Prim.Native.Nat.{ℕ, ◌+◌, ◌%◌}
use mathlib.Core.List.{List}
use Rattle.algebra.specs.Mod.{mul_mod}
use Rattle.vector.specs.Vector.{at}
use Rattle.vector.proofs.SplitWeights.{weights-kept, weights-turn}
use Rattle.vector.proofs.weight.weights.Goals as goal

pub loop-i-preserved : goal.loop-i-preserved
loop-i-preserved c =
    let l = c.loop-i in
    let s = c.args in (
      weights-turn s.p s.cs s.n s.first s.out.now l.out l.i l.high c.upper-high.result c.split_weight.result l.invariant.1 c.upper-high.ensures l.invariant.0
          (c.split_weight.ensures ∙ ap (λ (low : List ℕ). mul_mod s.p c.upper-high.result (at low ((s.first + l.i) % 16))) c.low_weights-low.ensures),
      weights-kept s.p s.cs s.n s.first s.out.now l.out l.i l.high c.upper-high.result c.split_weight.result l.invariant.1 c.upper-high.ensures,
    )
