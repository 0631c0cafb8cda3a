use mathlib.Core.Path.{sym, ◌∙◌}
use Rattle.verifier.specs.Claims.{failed_now}
use Rattle.verifier.proofs.FileFacts.{not_nothing, ends_there, compared}
use Rattle.verifier.proofs.proof_file.compare.Goals as goal

pub returns-in_default : goal.returns-in_default
returns-in_default c =
    absurd
    (not_nothing
    (sym c.in_default.is ∙ c.proof_ends.ensures ∙ ends_there c.args.v c.args.file.now c.requires.0 c.requires.1))

pub returns-then-ends_own : goal.returns-then-ends_own
returns-then-ends_own c =
    let read = sym c.in-Some.is ∙ c.proof_ends.ensures in
    sym (compared c.args.v c.args.file.now c.requires.0 c.requires.1 read (sym c.if-ends_own.true ∙ c.ends_own.ensures))

pub returns-else-ends_own : goal.returns-else-ends_own
unfolding failed_now
returns-else-ends_own c =
    let read = sym c.in-Some.is ∙ c.proof_ends.ensures in
    sym (compared c.args.v c.args.file.now c.requires.0 c.requires.1 read (sym c.if-ends_own.false ∙ c.ends_own.ensures))
