use mathlib.Core.Path.{◌≡◌, sym, ap, ◌∙◌}
use mathlib.Core.Bool.{true}
use borrow.Author.Rules.{rules}
use Rattle.refusal.specs.Outcome.{answered}
use Rattle.field.proofs.Checks.{number-nonzero}
use Rattle.pass.specs.Lent.{good_in, opened_lent}
use Rattle.pass.proofs.LentFacts.{opened-so}
use Rattle.prover.specs.Level.{stage_of}
use Rattle.prover.specs.Full.{opening_turn}
use Rattle.prover.specs.Opening.{opening_given, opening_call}
use Rattle.prover.proofs.OpeningLaws.{fold-there}
use Rattle.prover.proofs.FullOutcomes.{good-long}
use Rattle.prover.proofs.Run.opening.Goals as goal

pub returns : goal.returns
unfolding opening_call opening_given
returns c =
    let s = c.args in
    let P = c.modulus_of-p.result in
    let f = s.f.now in
    let g = s.g.now in
    let w = stage_of s.self in
    let turn : opening_turn P s.self s.pass ≡ true = search rules in
    let point = number-nonzero P s.point c.in-Some.b (sym c.nonzero_in.ensures ∙ c.in-Some.is) in
    let whole : good_in P w f g ≡ answered tt = search rules in
    let there = fold-there P s.self s.pass f g turn (good-long P s.self s.pass f g whole) in
    let values =
    c.opening-2.ensures
    ∙ ap (λ w. opened_lent P w c.from.result f g) c.stage_of-stage.ensures
    ∙ ap (λ b. opened_lent P w b f g) (c.from.ensures ∙ point.1)
    ∙ opened-so P w s.point f g there.0 there.1 there.2 in
    search (rules, values)
