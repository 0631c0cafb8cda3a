use mathlib.Core.Path.{◌≡◌}
use mathlib.Core.Bool.{true}
use borrow.Author.Rules.{rules}
use Rattle.prover.specs.Full.{message_turn}
use Rattle.prover.proofs.FullFacts.{message-round}
use Rattle.prover.proofs.Run.message.Goals as goal

pub give_message-requires : goal.give_message-requires
give_message-requires c =
    let s = c.args in
    let P = c.modulus_of-p.result in
    let turn : message_turn P s.self s.pass ≡ true = search rules in
    (message-round P s.self s.pass turn).few
