-- What a full-mode call and a challenge leave, by what their tests say.
use mathlib.Core.Path.{◌≡◌, refl, sym, ap, ◌∙◌}
use mathlib.Core.Bool.{Bool, true, false}
use mathlib.Core.List.{List}
use Prim.Native.Nat.{ℕ, ◌/◌}
use lib.ListN.{length}
use Rattle.refusal.specs.Number as number
use Rattle.refusal.specs.Outcome.{Outcome, answered, require, and_then}
use Rattle.vector.specs.Slice.{fold_slice}
use Rattle.phase.specs.declared.Mode.{Mode}
use Rattle.phase.specs.declared.Mode.TheVariants.{Small, Full}
use Rattle.pass.specs.Lent.{good_in, where_good, challenge_in, folded_in}
use Rattle.prover.specs.declared.Run.{Run}
use Rattle.pass.specs.declared.Pass.{Pass}
use Rattle.prover.specs.declared.Reply.TheVariants as answer
use Rattle.prover.specs.Records.{Step, Out, out, leaves, answered_step}
use Rattle.prover.specs.Level.{stage_of, fold_size}
use Rattle.prover.specs.Calls.{both_long}
use Rattle.prover.specs.Full.{both_reduced, lent_folds}
use Rattle.prover.specs.Challenge.{kept_challenge, challenged_full, challenged}
use Rattle.prover.proofs.Outcomes.{refused_not}

-- the lent folds, row by row
pub lent-by_rows : (p : ℕ) (r : Run) (f g : List ℕ) (rest : Outcome Out)
    → lent_folds p r f g rest ≡ require (both_long r (length f) (length g)) number.buffer (require (both_reduced p r f g) number.vector rest)
lent-by_rows p r f g rest = by (both_long r (length f) (length g)) (both_reduced p r f g)
  where
    by : (a b : Bool)
        → and_then (require a number.buffer (require b number.vector (answered (tt {0})))) (λ x. rest)
        ≡ require a number.buffer (require b number.vector rest)
    by true true = refl
    by true false = refl
    by false b = refl

module _ (p : ℕ) (r : Run) (s : Pass) (f g : List ℕ) where
  abbrev good : Outcome (Unit {0})
  good = good_in p (stage_of r) f g

  -- good places are there
  pub good-long : good ≡ answered tt → both_long r (length f) (length g) ≡ true
  good-long e = by (both_long r (length f) (length g)) _ e
    where
      by : (a : Bool) (o : Outcome (Unit {0})) → require a number.buffer o ≡ answered tt → a ≡ true
      by true o e = refl
      by false o e = absurd (refused_not e)

  -- the lent folds, then the rest
  module _ (rest : Outcome Out) where
    pub lent-read : good ≡ answered tt → leaves r s f g (lent_folds p r f g rest) ≡ leaves r s f g rest
    lent-read e = ap (λ o. leaves r s f g (and_then o (λ x. rest))) e

  -- a challenge by what it asks of the buffers
  module _ (c : ℕ) where
    abbrev folded : Mode → List ℕ → List ℕ
    folded m xs = folded_in p (stage_of r) m c f g xs

    abbrev kept : Step
    kept = answered_step (kept_challenge p r c) s answer.Challenged

    pub challenge-good : (m : Mode) → challenge_in p (stage_of r) m f g ≡ answered tt
        → leaves r s f g (challenged p r s c f g m) ≡ out kept (folded m f) (folded m g)
    unfolding challenged_full
    challenge-good Small e = refl
    challenge-good Full e =
        lent-read (answered (challenged_full p r s c f g)) e
        ∙ ap (λ o. out kept (where_good o (fold_slice p c (fold_size r / 2) f) f) (where_good o (fold_slice p c (fold_size r / 2) g) g)) (sym e)
