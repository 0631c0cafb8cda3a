use mathlib.Core.Path.{sym, ap, ap₂, ◌∙◌}
use native.Mathlib.Omega.{arith}
use borrow.Author.Tests.{ltb-true}
use lib.ListN.{length}
use Rattle.refusal.specs.Refusal.{outcome}
use Rattle.pass.specs.Take.{taken_in}
use Rattle.pass.specs.Checks.{item_checks}
use Rattle.pass.proofs.Facts.{fits-so}
use Rattle.pass.proofs.Taking.{taken-so}
use Rattle.prover.specs.Level.{stage_of}
use Rattle.prover.specs.Take.{takes}
use Rattle.prover.specs.Calls.{give_call}
use borrow.Author.Rules.{rules}
use Rattle.prover.proofs.Facts.{formed, holds}
use Rattle.prover.proofs.Outcomes.{checks-wanted}
use Rattle.prover.proofs.items.give.Goals as goal

pub returns-in-Ok : goal.returns-in-Ok
unfolding takes give_call
returns-in-Ok c =
    let s = c.args in
    let checked = c.item.ensures ∙ ap₂ (λ w b. item_checks s.p w b s.pass.kind s.pass.taken s.given (length s.f.now) (length s.g.now)) c.stage_of-stage.ensures c.well_formed-well.ensures in
    let x = c.in-Ok.x in
    let e = ap outcome (sym c.in-Ok.is) ∙ checked in
    let wants = checks-wanted s.p s.run s.pass s.given s.f.now s.g.now x (sym e) in
    let h = formed s.p s.run s.pass (holds _ _ wants.0).0 in
    let less = ltb-true s.pass.taken s.run.start.items wants.1 in
    let w = stage_of s.run in
    let fits = fits-so w s.pass.taken 1 h.few h.most (omega (arith, less)) in
    let taken = c.take.ensures ∙ ap (λ w. taken_in s.p w s.pass x s.f.now s.g.now) c.stage_of-stage.ensures ∙ taken-so s.p w s.pass x s.f.now s.g.now fits in
    search (rules, taken)
