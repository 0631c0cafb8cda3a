use mathlib.Core.Path.{sym, ap, ◌∙◌}
use native.Mathlib.Omega.{arith}
use Rattle.refusal.specs.Refusal.{outcome}
use Rattle.wire.proofs.ProofSays.{proof-good}
use Rattle.wire.proofs.proof.proof_round.Goals as goal

pub slice_bounds-result-end-then-round-head : goal.slice_bounds-result-end-then-round-head
slice_bounds-result-end-then-round-head c =
    let g = proof-good _ _ _ (sym c.read_proof.ensures ∙ ap outcome c.in-Ok.is) in
    omega (arith, g.frame.size, g.rounds)
