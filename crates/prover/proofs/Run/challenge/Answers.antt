use mathlib.Core.Path.{◌≡◌}
use mathlib.Core.Bool.{true}
use borrow.Author.Rules.{rules}
use Rattle.prover.specs.Challenge.{challenge_turn}
use Rattle.prover.proofs.FullFacts.{challenge-round}
use Rattle.prover.proofs.Run.challenge.Goals as goal

pub take-requires : goal.take-requires
take-requires c =
    let s = c.args in
    let P = c.modulus_of-p.result in
    let turn : challenge_turn P s.self s.pass ≡ true = search rules in
    (challenge-round P s.self s.pass turn).few
