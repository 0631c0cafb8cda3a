-- What a call writes into a lent buffer, where "all other places stay": document 01, "A run".
use Rattle.std.specs.Prelude.{ℕ, ◌<◌, ◌≤◌, ◌≡◌, List, length}
use Rattle.vector.specs.Vector.{Vector, at}

-- the places from one up to another may differ, all others stay
pub record Unchanged (from to : ℕ) (before after : List ℕ) : Type 0 where
  pub size : length after ≡ length before
  pub below : (j : ℕ) → j < from → at after j ≡ at before j
  pub above : (j : ℕ) → to ≤ j → at after j ≡ at before j

-- and they are those items of v
pub record Written (v : Vector) (from to : ℕ) (before after : List ℕ) : Type 0 where
  pub size : length after ≡ length before
  pub wrote : (j : ℕ) → from ≤ j → j < to → at after j ≡ v j
  pub below : (j : ℕ) → j < from → at after j ≡ at before j
  pub above : (j : ℕ) → to ≤ j → at after j ≡ at before j
