use mathlib.Core.Path.{sym, ap, ◌∙◌}
use Rattle.verifier.proofs.FileFacts.{heard-next, not_nothing, message-there, message-read}
use Rattle.verifier.specs.Records.{Handed}
use Rattle.verifier.proofs.proof_file.hear_next.Goals as goal

pub returns-in_default : goal.returns-in_default
returns-in_default c =
    let s = c.args in
    absurd
    (not_nothing
    (sym c.in_default.is ∙ c.proof_message.ensures ∙ message-there s.file.now s.round c.requires.1))

pub returns : goal.returns
returns c =
    let s = c.args in
    let same = message-read s.file.now s.round c.requires.1 (sym c.in-Some.is ∙ c.proof_message.ensures) in
    heard-next s.p s.v c.if-v.false same (ap (λ (h : Handed). h.verifier) c.hear.ensures)
