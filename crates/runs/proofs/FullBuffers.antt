-- A CHALLENGE in full mode, buffer by buffer: the first places become the next fold, all others stay.
use mathlib.Core.Path.{◌≡◌}
use mathlib.Core.Bool.{true}
use mathlib.Core.List.{List}
use Prim.Native.Nat.{ℕ, suc, ◌*◌}
use native.Mathlib.Omega.{arith}
use Rattle.vector.specs.Rounds.{size}
use Rattle.vector.specs.Vector.{Vector}
use Rattle.vector.specs.Fold.{fold}
use Rattle.vector.specs.Slice.{fold_slice}
use Rattle.vector.proofs.Overwrite.{fold-length, fold-kept}
use Rattle.vector.proofs.Agreement.{Holds, fold-holds}
use Rattle.prover.specs.declared.Run.{Run}
use Rattle.pass.specs.declared.Pass.{Pass}
use Rattle.prover.specs.Records.{Out}
use Rattle.prover.specs.Challenge.{challenge_turn, challenged_full}
use Rattle.prover.proofs.FullFacts.{challenge-round}
use Rattle.prover.proofs.FullLaws.{Lent, challenge-kept, challenge-lengths}
use Rattle.runs.specs.Buffers.{Unchanged, Written}

-- the fold of a slice in place
fold-written : (p : ℕ) (c : ℕ → ℕ) (i h : ℕ) (xs : List ℕ) (v : Vector) → Holds xs (2 * h) (fold p c i v)
    → Written (fold p c (suc i) v) 0 h xs (fold_slice p (c i) h xs)
fold-written p c i h xs v l =
    record {
      size = fold-length p (c i) h xs;
      wrote = λ j above below. (fold-holds p c i h xs v l).same j below;
      below = λ j less. absurd (omega arith);
      above = fold-kept p (c i) h xs;
    }

module _ (p : ℕ) (r : Run) (s : Pass) (x : ℕ) (fs gs : List ℕ) (turn : challenge_turn p r s ≡ true) where
  -- whatever the buffers hold
  pub challenge-places : (let h : ℕ = size r.start.rounds (suc r.round) in
      let o : Out = challenged_full p r s x fs gs in
      Unchanged 0 h fs o.f × Unchanged 0 h gs o.g)
  challenge-places =
      let same = challenge-lengths p r s x fs gs turn in
      let kept = challenge-kept p r s x fs gs turn in (
        record { size = same.0; below = λ j less. absurd (omega arith); above = λ j past. (kept j past).0 },
        record { size = same.1; below = λ j less. absurd (omega arith); above = λ j past. (kept j past).1 },
      )

  -- where they hold the current fold of f and of g, under the challenges c
  pub challenge-written : (c : ℕ → ℕ) (f g : Vector) → Lent p c f g r fs gs → c r.round ≡ x
      → (let h : ℕ = size r.start.rounds (suc r.round) in
      let o : Out = challenged_full p r s x fs gs in
      Written (fold p c (suc r.round) f) 0 h fs o.f × Written (fold p c (suc r.round) g) 0 h gs o.g)
  unfolding challenged_full
  challenge-written c f g l same =
      let t = challenge-round p r s turn in
      let n : ℕ = r.start.rounds in
      let i : ℕ = r.round in
      let one : Holds fs (2 * size n (suc i)) (fold p c i f) = rw (t.halves, t.level) at l.first in
      let two : Holds gs (2 * size n (suc i)) (fold p c i g) = rw (t.halves, t.level) at l.second in
      rw (← same, t.half)
      (fold-written p c i (size n (suc i)) fs f one, fold-written p c i (size n (suc i)) gs g two)
