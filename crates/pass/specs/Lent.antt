-- The two lent buffers: the places that a call asks for, those that the padding completes, and an opening of the fold 0 that they hold.
use Rattle.std.specs.Prelude.{ℕ, zero, suc, ◌+◌, ◌-◌, ◌/◌, ◌^◌, Bool, true, false, cond, ◌&&◌, List, leb, length, set}
use Rattle.refusal.specs.Limit.{max_rounds}
use Rattle.refusal.specs.Number as number
use Rattle.refusal.specs.Outcome.{Outcome, answered, refused, refused_at, require}
use Rattle.vector.specs.Vector.{at}
use Rattle.vector.specs.Slice.{all_reduced, fold_slice}
use Rattle.vector.specs.Opening.{opening}
use Rattle.phase.specs.declared.Mode.{Mode}
use Rattle.phase.specs.declared.Kind.{Kind}
use Rattle.phase.specs.declared.Kind.TheVariants.{Change}
use Rattle.phase.specs.Cases.{is_small, is_change}
use Rattle.pass.specs.declared.Stage.{Stage}
use Rattle.pass.specs.Stage.{level_in, size_in, padding_in}
use Rattle.pass.specs.Values.{no_values, in_ninety}

-- 9: both are as long as the current fold
abbrev pub long_in : Stage → ℕ → ℕ → Bool
long_in w flen glen = cond (leb (size_in w) flen) (leb (size_in w) glen) false

-- in a change pass the buffers hold the fold; elsewhere they do not matter
abbrev pub places_in : Stage → Kind → ℕ → ℕ → Bool
places_in w k flen glen = cond (is_change k) (long_in w flen glen) true

-- 16: "in the places a full-mode call reads, a number P or more" is refused
abbrev pub reduced_in : ℕ → Stage → List ℕ → List ℕ → Bool
reduced_in p w f g = cond (all_reduced p (size_in w) f) (all_reduced p (size_in w) g) false

-- "A full-mode call reads as many first places as the current fold is long": they are there (9) and are field numbers (16)
abbrev pub good_in : ℕ → Stage → List ℕ → List ℕ → Outcome (Unit {0})
good_in p w f g = require (long_in w (length f) (length g)) number.buffer (require (reduced_in p w f g) number.vector (answered tt))

-- what good places become, and what they are where they are refused
abbrev pub where_good : Outcome (Unit {0}) → List ℕ → List ℕ → List ℕ
where_good (answered x) ys xs = ys
where_good (refused k) ys xs = xs
where_good (refused_at k i) ys xs = xs

-- what a challenge asks of the buffers: in small mode they are not looked at
abbrev pub challenge_in : ℕ → Stage → Mode → List ℕ → List ℕ → Outcome (Unit {0})
challenge_in p w m f g = cond (is_small m) (answered tt) (good_in p w f g)

-- what it leaves in one of them: "a challenge writes as many as the new fold is long; all other places stay"
abbrev pub folded_in : ℕ → Stage → Mode → ℕ → List ℕ → List ℕ → List ℕ → List ℕ
folded_in p w m c f g xs = cond (is_small m) xs (where_good (good_in p w f g) (fold_slice p c (size_in w / 2) xs) xs)

-- how many places of the fold the padding completes
abbrev pub padded_places : Stage → ℕ
padded_places w = padding_in w / 2 ^ level_in w Change

-- k places from a first one on become zero
unfoldable pub cleared : ℕ → ℕ → List ℕ → List ℕ
cleared from zero xs = xs
cleared from (suc k) xs = set (cleared from k xs) (from + k) 0

-- the last places of the fold, which are zero
abbrev pub padded_lent : Stage → List ℕ → List ℕ
padded_lent w xs = cleared (size_in w - padded_places w) (padded_places w) xs

-- within a run's limits; beyond them nothing is written, and nothing opened
abbrev pub round_in : Stage → Bool
round_in w = leb w.start.rounds max_rounds && leb w.round w.start.rounds

abbrev pub padded : Stage → List ℕ → List ℕ
padded w xs = cond (round_in w) (padded_lent w xs) xs

abbrev pub held_in : Stage → List ℕ → List ℕ → Bool
held_in w f g =
    leb w.start.rounds max_rounds && (leb (2 ^ w.start.rounds) (length f) && leb (2 ^ w.start.rounds) (length g))

-- "the openings are worked from fold 0, which the host lends again"
abbrev pub opened_lent : ℕ → Stage → ℕ → List ℕ → List ℕ → List ℕ
opened_lent p w b f g =
    cond (held_in w f g) (in_ninety w.start.rounds (opening p w.start.rounds (at w.challenges) (at f) (at g) b)) no_values
