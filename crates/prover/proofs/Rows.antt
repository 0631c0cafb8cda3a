-- Rows of the calls that docs/changes names: the starts of a plain run and of openings, a return and a close, test by test.
use mathlib.Core.Path.{◌≡◌, ap, ◌∙◌}
use mathlib.Core.Bool.{Bool, true, false}
use mathlib.Core.List.{List, []}
use Prim.Native.Nat.{ℕ}
use lib.Dec.{eqb, ltb}
use Rattle.refusal.specs.Number as number
use Rattle.refusal.specs.declared.Refusal.TheVariants as refusal
use Rattle.refusal.specs.Outcome.{Outcome, answered, refused, require}
use Rattle.vector.specs.Rounds.{rounds_of}
use Rattle.item.specs.Version.{version_fits}
use Rattle.item.specs.Start.{count_fits, list_fits}
use Rattle.pass.specs.declared.Pass.{Pass}
use Rattle.prover.specs.declared.Run.{Run}
use Rattle.prover.specs.Records.{Step, out, leaves, refused_step}
use Rattle.prover.specs.Start.{started, start_plain, start_openings}
use Rattle.prover.specs.Calls.{pass_open}
use Rattle.prover.specs.Change.{may_return, returns, to_small_call}
use Rattle.prover.specs.Close.{total_fits, closing, close_call, leaves_step}
use Rattle.prover.proofs.StartFacts.{opens_run}

module _ (items version : ℕ) where
  pub plain-version : version_fits version ≡ false → start_plain items version ≡ refused number.version
  unfolding start_plain
  plain-version v = rw v

  pub plain-count : version_fits version ≡ true → count_fits items ≡ false → start_plain items version ≡ refused number.count
  unfolding start_plain
  plain-count v a = rw (v, a)

module _ (p items : ℕ) (challenges : List ℕ) where
  pub openings-count : count_fits items ≡ false → start_openings p items challenges ≡ refused number.count
  unfolding start_openings
  openings-count a = rw a

  module _ (a : count_fits items ≡ true) where
    pub openings-none : ltb 0 (rounds_of items) ≡ false → start_openings p items challenges ≡ refused number.order
    unfolding start_openings
    openings-none b = rw (a, b)

    pub openings-argument : ltb 0 (rounds_of items) ≡ true → list_fits p (rounds_of items) challenges ≡ false
        → start_openings p items challenges ≡ refused number.argument
    unfolding start_openings
    openings-argument b e = rw (a, b, e)

    pub openings-answered : ltb 0 (rounds_of items) ≡ true → list_fits p (rounds_of items) challenges ≡ true
        → start_openings p items challenges ≡ answered (started (opens_run p items challenges))
    unfolding start_openings
    openings-answered b e = rw (a, b, e)

module _ (p : ℕ) (r : Run) (s : Pass) where
  pub return_never : may_return p r s ≡ false → leaves r s [] [] (to_small_call p r s) ≡ out (refused_step r s refusal.Order) [] []
  unfolding to_small_call
  return_never a = ap (λ t. leaves r s [] [] (require t number.order (answered (returns r s)))) a

  pub return_made : may_return p r s ≡ true → leaves r s [] [] (to_small_call p r s) ≡ returns r s
  unfolding to_small_call
  return_made a = ap (λ t. leaves r s [] [] (require t number.order (answered (returns r s)))) a

  module _ (a : pass_open p r s ≡ true) (b : eqb s.taken r.start.items ≡ true) where
    abbrev wanted : Bool → Outcome Step
    wanted t = require t number.items (require (total_fits p r s) number.total (closing p r s s.kind))

    pub close-whole : total_fits p r s ≡ true → leaves_step r s (close_call p r s) ≡ leaves_step r s (closing p r s s.kind)
    unfolding close_call
    close-whole c =
        ap (λ t. leaves_step r s (require t number.order (wanted (eqb s.taken r.start.items)))) a
        ∙ ap (λ t. leaves_step r s (wanted t)) b
        ∙ ap (λ t. leaves_step r s (require t number.total (closing p r s s.kind))) c
