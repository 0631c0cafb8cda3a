-- What a call that opens a pass gives, by what its tests say.
use mathlib.Core.Path.{◌≡◌, ap, ◌∙◌}
use mathlib.Core.Bool.{Bool, true}
use Prim.Native.Nat.{ℕ}
use Rattle.refusal.specs.Number as number
use Rattle.refusal.specs.Outcome.{Outcome, answered, require}
use Rattle.vector.specs.Slice.{is_nonzero}
use Rattle.prover.specs.declared.Run.{Run}
use Rattle.pass.specs.declared.Pass.{Pass}
use Rattle.prover.specs.Records.{Out}
use Rattle.pass.specs.Open.{no_points, points_of}
use Rattle.prover.specs.Open.{may_open, may_open_at, padded_kernel, open_kernel, opened, open_call, open_at_call}

module _ (p : ℕ) (r : Run) (s : Pass) where
  pub open_answered : may_open p r s ≡ true → open_call p r s ≡ answered (opened r no_points (open_kernel r))
  unfolding open_call
  open_answered a = ap (λ t. require t number.order (answered (opened r no_points (open_kernel r)))) a

  module _ (b : ℕ) where
    abbrev point_row : Bool → Outcome Out
    point_row t = require t number.argument (answered (opened r (points_of p b) (padded_kernel r)))

    module _ (a : may_open_at p r s ≡ true) where
      open_at_turn : open_at_call p r s b ≡ point_row (is_nonzero p b)
      unfolding open_at_call
      open_at_turn = ap (λ t. require t number.order (point_row (is_nonzero p b))) a

      pub open_at_answered : is_nonzero p b ≡ true → open_at_call p r s b ≡ answered (opened r (points_of p b) (padded_kernel r))
      open_at_answered e = open_at_turn ∙ ap point_row e
