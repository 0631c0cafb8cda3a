use mathlib.Core.Path.{ap, ◌∙◌, ◌≡◌}
use Prim.Native.Nat.{◌-◌}
use native.Mathlib.Omega.{arith}
use borrow.Author.Tests.{le-leb}
use lib.ListN.{length}
use Rattle.vector.specs.Vector.{at}
use Rattle.vector.specs.Slice.{evaluate_slice}
use Rattle.vector.proofs.Horner.{horner_step, horner}
use Rattle.vector.proofs.Evaluation.{none_left, one_less}
use Rattle.vector.proofs.slice.evaluate.Goals as goal

pub loop-i-preserved : goal.loop-i-preserved
loop-i-preserved c =
    let l = c.loop-i in
    let s = c.args in
    let v = at s.v.now in
    c.add_mul-value.ensures ∙ ap (λ y. horner_step s.p s.x y (v (l.i - 1))) l.invariant ∙ one_less s.p s.x v s.n l.i (omega arith) (omega arith)

pub returns : goal.returns
unfolding evaluate_slice
returns c =
    let l = c.loop-i in
    let s = c.args in
    let none : l.i ≡ 0 = omega arith in
    let v = at s.v.now in
    rw (le-leb s.n (length s.v.now) (omega arith))
    (l.invariant ∙ ap (λ i. horner s.p s.x v s.n (s.n - i)) none ∙ none_left s.p s.x v s.n)
