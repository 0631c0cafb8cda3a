use mathlib.Core.Path.{◌≡◌}
use mathlib.Core.Bool.{true}
use borrow.Author.Rules.{rules}
use Rattle.refusal.specs.Outcome.{answered}
use Rattle.pass.specs.Lent.{good_in}
use Rattle.prover.specs.Level.{stage_of}
use Rattle.prover.specs.Full.{ends_turn}
use Rattle.prover.proofs.FullFacts.{both-there}
use Rattle.prover.proofs.FullOutcomes.{good-long}
use Rattle.prover.proofs.Run.ends.Goals as goal

pub give_ends-requires : goal.give_ends-requires
give_ends-requires c =
    let s = c.args in
    let P = c.modulus_of-p.result in
    let turn : ends_turn P s.self s.pass ≡ true = search rules in
    let good : good_in P (stage_of s.self) s.f.now s.g.now ≡ answered tt = search rules in
    both-there P s.self s.pass s.f.now s.g.now turn (good-long P s.self s.pass s.f.now s.g.now good)
