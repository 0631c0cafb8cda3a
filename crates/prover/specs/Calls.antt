-- Each call of a run: its checks in document 01's order (turn, numbers, buffers), then what it does.
use Rattle.std.specs.Prelude.{ℕ, Bool, List, length}
use Rattle.refusal.specs.Outcome.{Outcome, answered, and_then}
use Rattle.item.specs.declared.Given.{Given}
use Rattle.phase.specs.Turn.{item_turn}
use Rattle.pass.specs.Lent.{long_in, places_in}
use Rattle.pass.specs.Checks.{item_checks}
use Rattle.prover.specs.declared.Run.{Run}
use Rattle.pass.specs.declared.Pass.{Pass}
use Rattle.prover.specs.Records.{Out}
use Rattle.prover.specs.Level.{stage_of}
use Rattle.prover.specs.WellFormed.{well_formed}
use Rattle.prover.specs.Take.{takes}

abbrev pub both_long : Run → ℕ → ℕ → Bool
both_long r flen glen = long_in (stage_of r) flen glen

-- a record that a call returned, with a pass open
abbrev pub pass_open : ℕ → Run → Pass → Bool
pass_open p r s = item_turn (well_formed p r s) s.kind

abbrev pub places_there : Run → Pass → ℕ → ℕ → Bool
places_there r s flen glen = places_in (stage_of r) s.kind flen glen

-- an item of either kind of run: its checks (10, 8, its own, 9), then it is taken
unfoldable pub give_call : ℕ → Run → Pass → Given → List ℕ → List ℕ → Outcome Out
give_call p r s given f g =
    and_then (item_checks p (stage_of r) (well_formed p r s) s.kind s.taken given (length f) (length g)) (λ x. answered (takes p r s x f g))
