-- The items of a pass: the pairs that enter its stacks, the limits of a well-read item, and the trip that any items make.
use Rattle.std.specs.Prelude.{ℕ, ◌-◌, ◌≤◌, List, [], ◌∷◌, ◌++◌, nat_abs, length, replicate}
use Rattle.refusal.specs.Limit.{max_weight, max_fine}
use Rattle.vector.specs.Fold.{Pair}
use Rattle.prover.specs.declared.Run.{Run}
use Rattle.item.specs.declared.Start.{Start}
use Rattle.item.specs.declared.Given.{Given}
use Rattle.item.specs.declared.Given.TheVariants.{Reading, Numbers}
use Rattle.item.specs.Mark.{counts_as}
use Rattle.item.specs.Item.{contributes}
use Rattle.runs.specs.Trip.{Trip, enters_as}

-- "from index L-1 down": the newest item of a pass has the lowest index
unfoldable pub pairs_of : ℕ → Run → List Given → List Pair
pairs_of p r [] = []
pairs_of p r (x ∷ xs) = (enters_as p r.start (r.start.items - 1 - length xs) (contributes p r.start x).f, (contributes p r.start x).g) ∷ pairs_of p r xs

-- a reading of either version, or its mark, "weight (unsigned 16-bit, minutes, 0 to 1,440)"
abbrev pub Within : Start → Given → Type 0
Within s (Reading z w) = (nat_abs (counts_as s.version z) ≤ max_fine) × (w ≤ max_weight)
Within s (Numbers a b) = Unit {0}

unfoldable pub AllWithin : Start → List Given → Type 0
AllWithin s [] = Unit {0}
AllWithin s (x ∷ xs) = Within s x × AllWithin s xs

-- a trip whose last items are these, with zero pairs before them
abbrev pub own_trip : Run → List Given → Trip
own_trip r xs = record { start = r.start; items = replicate (r.start.items - length xs) (Numbers 0 0) ++ xs }
