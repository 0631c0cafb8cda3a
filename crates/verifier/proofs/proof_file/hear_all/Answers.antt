use mathlib.Core.Path.{◌≡◌, ap, ◌∙◌}
use native.Mathlib.Omega.{arith}
use Rattle.verifier.specs.ProofFile.{file_message, hears_first}
use Rattle.verifier.proofs.FileFacts.{heard-first, none_heard, one-heard}
use Rattle.verifier.proofs.proof_file.hear_all.Goals as goal

pub loop-k-init : goal.loop-k-init
loop-k-init c = none_heard c.args.p c.args.v (file_message c.args.file.now)

pub hear_next-heard-requires : goal.hear_next-heard-requires
hear_next-heard-requires c =
    let s = c.args in
    let pre = c.requires in
    let e = c.loop-k.invariant in
    let most = (heard-first s.p s.v (file_message s.file.now) c.loop-k.k).most in
    (omega (arith, ap (λ w. w.round) e), omega arith)

pub loop-k-preserved : goal.loop-k-preserved
loop-k-preserved c =
    let s = c.args in
    one-heard s.p s.v (file_message s.file.now) c.loop-k.k c.loop-k.invariant c.hear_next-heard.ensures

pub returns : goal.returns
returns c =
    let s = c.args in
    let e : c.loop-k.k ≡ s.v.start.rounds = omega arith in
    c.loop-k.invariant ∙ ap (hears_first s.p s.v (file_message s.file.now)) e
