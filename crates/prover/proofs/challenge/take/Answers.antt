use mathlib.Core.Path.{◌≡◌, sym, ap, ◌∙◌}
use mathlib.Core.List.{List}
use Prim.Native.Nat.{ℕ}
use borrow.Author.Rules.{rules}
use Rattle.refusal.specs.Outcome.{answered}
use Rattle.pass.specs.declared.Stage.{Stage}
use Rattle.pass.specs.Lent.{challenge_in, folded_in}
use Rattle.prover.specs.Level.{stage_of}
use Rattle.prover.proofs.FullOutcomes.{challenge-good}
use Rattle.prover.proofs.challenge.take.Goals as goal

pub returns : goal.returns
returns c =
    let s = c.args in
    let left : Stage → List ℕ → List ℕ = λ w xs. folded_in s.p w s.run.mode s.c s.f.now s.g.now xs in
    let good : challenge_in s.p (stage_of s.run) s.run.mode s.f.now s.g.now ≡ answered tt = search rules in
    let f = c.challenge.ensures.1 ∙ ap (λ w. left w s.f.now) c.stage_of.ensures in
    let g = c.challenge.ensures.2 ∙ ap (λ w. left w s.g.now) c.stage_of.ensures in
    rw (f, g, c.answered.ensures, c.keep_challenge.ensures)
    (sym (challenge-good s.p s.run s.pass s.f.now s.g.now s.c s.run.mode good))
