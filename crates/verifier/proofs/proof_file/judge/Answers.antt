use mir.Val.{to_z, of_z}
use mir.Syntax.{w64}
use Rattle.field.specs.Integer.{image}
use mathlib.Core.Path.{◌≡◌, sym, ap, ◌∙◌}
use native.Mathlib.Omega.{arith}
use Rattle.verifier.specs.ProofFile.{file_message}
use Rattle.verifier.proofs.FileFacts.{heard-first, close-keeps, judged}
use Rattle.verifier.specs.Records.{Handed}
use borrow.Author.Rules.{rules}
use Rattle.verifier.proofs.proof_file.judge.Goals as goal

pub hear_all-heard-requires : goal.hear_all-heard-requires
hear_all-heard-requires c =
    let s = c.args in
    let pre = c.requires in
    let k = close-keeps c.args.p s.v s.file.now c.image-claim.result (ap (λ (h : Handed). h.verifier) c.close-closed.ensures) in
    (k.0 ∙ pre.0, omega (arith, k.1), omega (arith, k.1))

pub compare-verifier-requires : goal.compare-verifier-requires
compare-verifier-requires c =
    let s = c.args in
    let pre = c.requires in
    let k = close-keeps c.args.p s.v s.file.now c.image-claim.result (ap (λ (h : Handed). h.verifier) c.close-closed.ensures) in
    let closed = c.close-closed.result.verifier in
    let e = ap (λ w. w.start.rounds) c.hear_all-heard.ensures ∙ (heard-first c.args.p closed (file_message s.file.now) closed.start.rounds).rounds ∙ k.1 in
    (pre.2 ∙ sym e, omega (arith, e))

pub returns : goal.returns
returns c =
    let s = c.args in
    let t : to_z w64 (of_z w64 s.total) ≡ s.total = search rules in
    judged c.args.p s.v s.file.now s.total c.image-claim.result (c.image-claim.ensures ∙ ap (image c.args.p) t) (ap (λ (h : Handed). h.verifier) c.close-closed.ensures) c.hear_all-heard.ensures c.compare-verifier.ensures c.find-verdict.ensures
