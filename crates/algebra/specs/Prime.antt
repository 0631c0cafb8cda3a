-- Prime numbers.
use Rattle.std.specs.Prelude.{◌≡◌, ℕ, ◌%◌, ◌<◌}

pub record Prime (p : ℕ) : Type 0 where
  pub big : 1 < p
  pub only : (d : ℕ) → 1 < d → d < p → p % d ≡ 0 → ⊥
