-- Starts at their limits.
use Rattle.std.specs.Prelude.{◌≡◌, refl, Bool, true, false, List, [], ◌∷◌, ℕ, replicate}
use Rattle.refusal.specs.Number as number
use Rattle.refusal.specs.Outcome.{answered, refused}
use Rattle.vector.specs.Rounds.{rounds_of}
use Rattle.vector.specs.Slice.{overwrite, every, fifteen}
use Rattle.algebra.specs.Mod.{residue, mul_mod, pow_mod}
use Rattle.item.specs.declared.Start.{Start}
use Rattle.prover.specs.Start.{fresh_run, openings_run, started, start_plain, start_twisted, start_rule, start_openings}

abbrev start : ℕ → ℕ → Bool → ℕ → List ℕ → Start
start items rounds plain version twists = record { items = items; rounds = rounds; plain = plain; version = version; twists = twists }

no_items : start_plain 0 1 ≡ refused number.count
unfolding start_plain
no_items = refl

-- document 01's trip
three-items : start_plain 3 1 ≡ answered (started (fresh_run (start 3 2 true 1 (replicate 15 0))))
unfolding start_plain rounds_of
three-items = refl

most_items_lem : start_plain 32768 2 ≡ answered (started (fresh_run (start 32768 15 true 2 (replicate 15 0))))
unfolding start_plain rounds_of
most_items_lem = refl

too_many : start_plain 32769 2 ≡ refused number.count
unfolding start_plain
too_many = refl

-- a version that there is not is told before an L that there is not
no_version : start_plain 0 0 ≡ refused number.version
unfolding start_plain
no_version = refl

no_wrapping : start_plain 3 65537 ≡ refused number.version
unfolding start_plain
no_wrapping = refl

-- three items have two rounds
one-twist_more : start_twisted 7 3 (1 ∷ 2 ∷ 3 ∷ []) ≡ refused number.argument
unfolding start_twisted rounds_of
one-twist_more = refl

-- a number modulo 7 is at most 6
twist_seven : start_twisted 7 3 (1 ∷ 7 ∷ []) ≡ refused number.argument
unfolding start_twisted rounds_of every
twist_seven = refl

two_twists : start_twisted 7 3 (5 ∷ 6 ∷ []) ≡ answered (started (fresh_run (start 3 2 false 0 (5 ∷ 6 ∷ 0 ∷ 0 ∷ 0 ∷ 0 ∷ 0 ∷ 0 ∷ 0 ∷ 0 ∷ 0 ∷ 0 ∷ 0 ∷ 0 ∷ 0 ∷ []))))
unfolding start_twisted rounds_of every overwrite fifteen
two_twists = refl

-- 3, its square, and the square of that
rule_twists_lem : start_rule 101 3 3 ≡ answered (started (fresh_run (start 8 3 false 0 (3 ∷ 9 ∷ 81 ∷ 0 ∷ 0 ∷ 0 ∷ 0 ∷ 0 ∷ 0 ∷ 0 ∷ 0 ∷ 0 ∷ 0 ∷ 0 ∷ 0 ∷ []))))
unfolding start_rule overwrite pow_mod mul_mod residue
rule_twists_lem = refl

-- a batch of one item has no openings, whatever the challenges
no_openings : start_openings 7 1 (7 ∷ []) ≡ refused number.order
unfolding start_openings rounds_of
no_openings = refl

batch-challenge : start_openings 7 3 (5 ∷ 7 ∷ []) ≡ refused number.argument
unfolding start_openings rounds_of every
batch-challenge = refl

-- its challenges are known, and its twists are 1
batch-starts : start_openings 7 3 (5 ∷ 6 ∷ []) ≡ answered (started (openings_run (start 3 2 false 0 (replicate 15 1)) (5 ∷ 6 ∷ [])))
unfolding start_openings rounds_of every
batch-starts = refl
