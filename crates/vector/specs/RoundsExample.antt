-- n of L, by computation.
use Rattle.std.specs.Prelude.{◌≡◌, refl, [], ◌∷◌, map}
use Rattle.vector.specs.Rounds.{rounds_of}

pub rounds_by_formula : map rounds_of (1 ∷ 2 ∷ 3 ∷ 32768 ∷ []) ≡ 0 ∷ 1 ∷ 2 ∷ 15 ∷ []
unfolding rounds_of
rounds_by_formula = refl

-- no L of document 01, and no call asks for their n
pub outside_limits : map rounds_of (0 ∷ 32769 ∷ 4294967295 ∷ []) ≡ 0 ∷ 16 ∷ 32 ∷ []
unfolding rounds_of
outside_limits = refl
