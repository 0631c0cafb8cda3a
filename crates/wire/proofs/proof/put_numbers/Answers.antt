use lib.ListN.{length}
use Prim.Native.Nat.{◌<◌}
use Rattle.wire.proofs.Writes.{put_none, put_next}
use lib.Seq.{length-sets}
use mathlib.Core.Path.{◌≡◌, ◌∙◌}
use native.Mathlib.Omega.{arith}
use Rattle.wire.proofs.proof.put_numbers.Goals as goal

pub loop-k-preserved : goal.loop-k-preserved
loop-k-preserved c =
    let s = c.args in
    let k = c.loop-k.k in
    let h : k < length s.values = omega (arith, c.well_formed) in
    c.put32.ensures ∙ rw c.loop-k.invariant (put_next s.file.now s.at s.values k h)
