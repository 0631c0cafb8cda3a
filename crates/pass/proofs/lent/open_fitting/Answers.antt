use Rattle.vector.specs.Vector.{at}
use mathlib.Core.Path.{◌≡◌, sym, ap, ap₂, ◌∙◌}
use Prim.Native.Nat.{◌^◌}
use native.Mathlib.Omega.{arith}
use lib.ListN.{take}
use lib.Seq.{length-take-le}
use Rattle.kernel.specs.Kernel.{pairs_in, streamed}
use Rattle.vector.proofs.Rounds.{size-all}
use Rattle.pass.specs.Values.{values_of}
use Rattle.pass.proofs.Facts.{size_32}
use Rattle.pass.proofs.LentOpening.{stream_values}
use Rattle.pass.proofs.lent.open_fitting.Goals as goal

pub slice_bounds-evaluate_all-end : goal.slice_bounds-evaluate_all-end
slice_bounds-evaluate_all-end c =
    let n = c.args.stage.start.rounds in
    let count : c.size_of-count.result ≡ 2 ^ n = c.size_of-count.ensures ∙ size_32 n 0 c.requires.0 ∙ size-all n in
    sym (length-take-le _ _ (omega arith))

pub slice_bounds-evaluate_all-end-2 : goal.slice_bounds-evaluate_all-end-2
slice_bounds-evaluate_all-end-2 c =
    let n = c.args.stage.start.rounds in
    let count : c.size_of-count.result ≡ 2 ^ n = c.size_of-count.ensures ∙ size_32 n 0 c.requires.0 ∙ size-all n in
    sym (length-take-le _ _ (omega arith))

pub returns : goal.returns
returns c =
    let s = c.args in
    let n = s.stage.start.rounds in
    let count : c.size_of-count.result ≡ 2 ^ n = c.size_of-count.ensures ∙ size_32 n 0 c.requires.0 ∙ size-all n in
    c.values_of.ensures
    ∙ ap (λ k. values_of k.evals n)
    (c.evaluate_all-k.ensures
    ∙ ap (λ m. streamed s.p s.stage.challenges n c.points_of-points.result (at (take m s.f.now)) (at (take m s.g.now)) (pairs_in (take m s.f.now) (take m s.g.now)) c.empty.result) count
    ∙ ap₂ (λ points k. streamed s.p s.stage.challenges n points (at (take (2 ^ n) s.f.now)) (at (take (2 ^ n) s.g.now)) (pairs_in (take (2 ^ n) s.f.now) (take (2 ^ n) s.g.now)) k) c.points_of-points.ensures c.empty.ensures)
    ∙ stream_values s.p n s.b s.stage.challenges s.f.now s.g.now c.requires.0 c.requires.1 c.requires.2
