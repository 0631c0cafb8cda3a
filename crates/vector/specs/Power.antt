-- Sizes of folds as machine numbers of 32 bits.
use Rattle.std.specs.Prelude.{ℕ, cond, ltb}
use Rattle.vector.specs.Rounds.{size}

-- how many items fold j of 2^n items has, none past fold n; 0 where 2^n is no number of 32 bits
unfoldable pub size_in32 : ℕ → ℕ → ℕ
size_in32 n j = cond (ltb n 32) (size n j) 0
