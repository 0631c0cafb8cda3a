use Rattle.prover.specs.Full.{message_given}
use Rattle.prover.proofs.full.give_message.Goals as goal

pub returns : goal.returns
unfolding message_given
returns c = rw (c.answer_message.ensures, ← c.message-m.ensures)
