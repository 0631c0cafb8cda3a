use mathlib.Core.Path.{◌≡◌, ◌∙◌}
use Prim.Native.Nat.{◌*◌}
use native.Mathlib.Omega.{arith}
use lib.ListN.{length}
use Rattle.vector.specs.Vector.{at}
use Rattle.vector.specs.Slice.{message_slice}
use Rattle.vector.proofs.Guards.{both-have}
use Rattle.vector.proofs.Accumulate.{sum-none, add_even, add_forth, add_back, add_cross, add_odd}
use Rattle.vector.proofs.slice.message.Goals as goal

pub loop-k-init : goal.loop-k-init
loop-k-init c = (sum-none _ _, sum-none _ _, sum-none _ _, sum-none _ _)

pub loop-k-preserved : goal.loop-k-preserved
loop-k-preserved c =
    let l = c.loop-k in
    let s = c.args in
    let f = at s.f.now in
    let g = at s.g.now in (
      c.add_mul-even.ensures ∙ add_even s.p l.k f g l.even l.invariant.0,
      c.add_mul-cross.ensures ∙ add_forth s.p l.k f g l.cross l.invariant.1,
      c.add_mul-back.ensures ∙ add_back s.p l.k f g l.back l.invariant.2,
      c.add_mul-odd.ensures ∙ add_odd s.p l.k f g l.odd l.invariant.3,
    )

pub returns : goal.returns
unfolding message_slice
returns c =
    let s = c.args in
    let l = c.loop-k in
    let all : s.half ≡ l.k = omega arith in
    let cross = c.add.ensures ∙ add_cross s.p l.k (at s.f.now) (at s.g.now) l.cross l.back l.invariant.1 l.invariant.2 in
    rw (both-have (2 * s.half) (length s.f.now) (length s.g.now) (omega arith) (omega arith), all)
    (cc (l.invariant.0, cross, l.invariant.3))
