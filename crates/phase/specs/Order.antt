-- Document 01, "A run": what is next after an answered call, and what may be open, be opened and change.
use Rattle.std.specs.Prelude.{ℕ, Bool, true, false, cond, eqb, ltb}
use Rattle.phase.specs.declared.Mode.{Mode}
use Rattle.phase.specs.declared.Next.{Next}
use Rattle.phase.specs.declared.Next.TheVariants.{Total, Message, Challenge, Ends, Openings}
use Rattle.phase.specs.declared.Kind.{Kind}
use Rattle.phase.specs.declared.Kind.TheVariants.{Shut, Asked, Change}
use Rattle.phase.specs.Cases.{is_small, waits}

-- after the total, and after a challenge
abbrev pub round_or_ends : ℕ → ℕ → Next
round_or_ends round rounds = cond (ltb round rounds) Message Ends

-- the number of challenges taken fits what is next
abbrev pub round_fits : Next → ℕ → ℕ → Bool
round_fits Total round rounds = eqb round 0
round_fits Message round rounds = ltb round rounds
round_fits Challenge round rounds = ltb round rounds
round_fits Ends round rounds = eqb round rounds
round_fits Openings round rounds = eqb round rounds

-- where a pass may be open, and where a change
abbrev pub pass_next : Next → Bool
pass_next Total = true
pass_next Message = true
pass_next Challenge = false
pass_next Ends = true
pass_next Openings = true

abbrev pub change_next : Next → Bool
change_next Total = false
change_next Message = true
change_next Challenge = false
change_next Ends = true
change_next Openings = true

-- the open pass is the run's next, or its change, and the run is small
abbrev pub kind_fits : Kind → Mode → Next → Bool
kind_fits Shut mode next = true
kind_fits Asked mode next = cond (is_small mode) (pass_next next) false
kind_fits Change mode next = cond (is_small mode) (change_next next) false

-- what open opens a pass for: the openings have a call of their own, with the point
abbrev pub open_next : Next → Bool
open_next Total = true
open_next Message = true
open_next Challenge = false
open_next Ends = true
open_next Openings = false

-- where the mode may change, either way: "Before any later pass (round, ends, openings)"; not between a message and its challenge, and for
-- openings not with n = 0
abbrev pub change_at : Next → ℕ → Bool
change_at Total n = false
change_at Message n = true
change_at Challenge n = false
change_at Ends n = true
change_at Openings n = ltb 0 n

-- "openings .. with n = 0" are refused
abbrev pub openings_at : Next → ℕ → Bool
openings_at next n = cond (waits Openings next) (ltb 0 n) false
