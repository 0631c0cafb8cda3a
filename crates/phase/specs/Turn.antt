-- Whose turn it is in a run: of records that calls returned (`well`), in the mode, with the next and the kind of pass that a call asks for.
use Rattle.std.specs.Prelude.{ℕ, Bool, false, cond}
use Rattle.phase.specs.declared.Mode.{Mode}
use Rattle.phase.specs.declared.Next.{Next}
use Rattle.phase.specs.declared.Next.TheVariants.{Challenge, Openings}
use Rattle.phase.specs.declared.Kind.{Kind}
use Rattle.phase.specs.Cases.{is_small, is_full, is_open, waits}
use Rattle.phase.specs.Order.{open_next, change_at, openings_at}

-- "In small mode each answer needs a pass": the run is small, and a pass is next
abbrev pub pass_turn : Bool → Mode → Next → Bool
pass_turn well m t = cond (cond well (is_small m) false) (open_next t) false

-- the run is small, the openings are next and there are rounds: "openings .. with n = 0" are refused
abbrev pub point_turn : Bool → Mode → Next → ℕ → Bool
point_turn well m t n = cond (cond well (is_small m) false) (openings_at t n) false

-- "Before any later pass (round, ends, openings) a small run may change to full"
abbrev pub change_turn : Bool → Mode → Next → ℕ → Bool
change_turn well m t n = cond (cond well (is_small m) false) (change_at t n) false

-- document 02, (c): "Full to small .. is answered before any pass"; as the change, not "between a message and its challenge" nor "after the
-- ends, with n = 0"
abbrev pub return_turn : Bool → Mode → Next → ℕ → Bool
return_turn well m t n = cond (cond well (is_full m) false) (change_at t n) false

-- an item or a close: a pass is open
abbrev pub item_turn : Bool → Kind → Bool
item_turn well k = cond well (is_open k) false

-- what is wanted of a full run is next
abbrev pub full_turn : Bool → Mode → Next → Next → Bool
full_turn well m wanted t = cond (cond well (is_full m) false) (waits wanted t) false

abbrev pub opening_turn : Bool → Mode → Next → ℕ → Bool
opening_turn well m t n = cond (cond well (is_full m) false) (openings_at t n) false

abbrev pub challenge_turn : Bool → Next → Bool
challenge_turn well t = cond well (waits Challenge t) false

-- "a proof file written .. for a twisted run", or before the ends were given, is refused
abbrev pub proof_turn : Bool → Bool → Next → Bool
proof_turn well plain t = cond well (cond plain (waits Openings t) false) false
