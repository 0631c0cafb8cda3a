-- What a start gives, by what its tests say.
use mathlib.Core.Path.{◌≡◌, ap, ◌∙◌}
use mathlib.Core.Bool.{Bool, true}
use mathlib.Core.List.{List}
use Prim.Native.Nat.{ℕ}
use Rattle.refusal.specs.Number as number
use Rattle.refusal.specs.Outcome.{Outcome, answered, require}
use Rattle.field.specs.Number.{is_nonzero}
use Rattle.vector.specs.Rounds.{rounds_of}
use Rattle.item.specs.Version.{version_fits}
use Rattle.item.specs.Start.{count_fits, rounds_fit, list_fits, plain_start, twisted_start, untwisted_start, rule_start}
use Rattle.prover.specs.declared.Run.{Run}
use Rattle.prover.specs.Records.{Out}
use Rattle.prover.specs.Start.{fresh_run, openings_run, started, start_plain, start_twisted, start_rule}

module _ (items version : ℕ) where
  abbrev pub plain_run : Run
  plain_run = fresh_run (plain_start items version)

  pub plain-answered : version_fits version ≡ true → count_fits items ≡ true → start_plain items version ≡ answered (started plain_run)
  unfolding start_plain
  plain-answered v a = rw (v, a)

module _ (p items : ℕ) (twists : List ℕ) where
  abbrev pub twisted_run : Run
  twisted_run = fresh_run (twisted_start items twists)

  abbrev twisted_row : Bool → Outcome Out
  twisted_row t = require t number.argument (answered (started twisted_run))

  module _ (a : count_fits items ≡ true) where
    twisted-counted : start_twisted p items twists ≡ twisted_row (list_fits p (rounds_of items) twists)
    unfolding start_twisted
    twisted-counted = ap (λ t. require t number.count (twisted_row (list_fits p (rounds_of items) twists))) a

    pub twisted-answered : list_fits p (rounds_of items) twists ≡ true → start_twisted p items twists ≡ answered (started twisted_run)
    twisted-answered b = twisted-counted ∙ ap twisted_row b

module _ (p rounds v : ℕ) where
  abbrev pub rule_run : Run
  rule_run = fresh_run (rule_start p rounds v)

  abbrev rule_row : Bool → Outcome Out
  rule_row t = require t number.argument (answered (started rule_run))

  module _ (a : rounds_fit rounds ≡ true) where
    rule-counted : start_rule p rounds v ≡ rule_row (is_nonzero p v)
    unfolding start_rule
    rule-counted = ap (λ t. require t number.count (rule_row (is_nonzero p v))) a

    pub rule-answered : is_nonzero p v ≡ true → start_rule p rounds v ≡ answered (started rule_run)
    rule-answered b = rule-counted ∙ ap rule_row b

module _ (p items : ℕ) (challenges : List ℕ) where
  abbrev pub opens_run : Run
  opens_run = openings_run (untwisted_start items) challenges
