-- The test for records that no call returns: what safety and the contracts need of a record, in constant time.
use Rattle.std.specs.Prelude.{ℕ, Bool, false, cond, eqb, leb}
use Rattle.vector.specs.Rounds.{rounds_of}
use Rattle.item.specs.Start.{count_fits, version_kept}
use Rattle.verifier.specs.declared.Verifier.{Verifier}

-- closed with every item taken; before that no message, and so no failure
unfoldable pub turn_of : ℕ → ℕ → Bool → ℕ → ℕ → Bool → Bool
turn_of items rounds closed taken round failed =
    cond closed (cond (eqb taken items) (leb round rounds) false) (cond failed false (cond (eqb round 0) (leb taken items) false))

abbrev pub turn_fits : Verifier → Bool
turn_fits v = turn_of v.start.items v.start.rounds v.closed v.taken v.round v.failed

-- a start that a call fixed, and a turn that fits it
unfoldable pub well_formed : Verifier → Bool
well_formed v =
    cond (version_kept v.start.plain v.start.version)
    (cond (count_fits v.start.items) (cond (eqb v.start.rounds (rounds_of v.start.items)) (turn_fits v) false) false)
    false
