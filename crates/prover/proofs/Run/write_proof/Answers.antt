use borrow.Author.Rules.{rules}
use Rattle.prover.specs.Written.{write_call}
use Rattle.prover.proofs.Run.write_proof.Goals as goal

pub returns : goal.returns
unfolding write_call
returns c = (search rules, search rules)
