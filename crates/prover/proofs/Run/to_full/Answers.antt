use mathlib.Core.Path.{◌≡◌, ap, ◌∙◌}
use mathlib.Core.Bool.{true}
use borrow.Author.Rules.{rules}
use Rattle.pass.specs.Lent.{padded}
use Rattle.pass.proofs.LentFacts.{padded-so}
use Rattle.prover.specs.Level.{stage_of}
use Rattle.prover.specs.Change.{may_change, to_full_call}
use Rattle.prover.proofs.Facts.{formed, holds}
use Rattle.prover.proofs.Run.to_full.Goals as goal

pub returns : goal.returns
unfolding to_full_call
returns c =
    let s = c.args in
    let P = c.modulus_of.result in
    let w = stage_of s.self in
    let turn : may_change P s.self s.pass ≡ true = search rules in
    let h = formed P s.self s.pass (holds _ _ (holds _ _ turn).0).0 in
    let f = c.pad.ensures ∙ ap (λ w. padded w s.f.now) c.stage_of-stage.ensures ∙ padded-so w s.f.now h.few h.round in
    let g = c.pad-2.ensures ∙ ap (λ w. padded w s.g.now) c.stage_of-stage.ensures ∙ padded-so w s.g.now h.few h.round in
    search (rules, f, g)
