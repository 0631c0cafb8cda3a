-- n of L, and how many items a fold has.
use Rattle.std.specs.Prelude.{ℕ, ◌-◌, ◌/◌, ◌^◌, ◌≤◌, cond, leb}
use Rattle.std.specs.Int.Count.{count_leading_zeros}

-- Document 01: "n is the least number with 2^n >= L"
abbrev pub LeastRounds : ℕ → ℕ → Type 0
LeastRounds items n = (items ≤ 2 ^ n) × ((k : ℕ) → items ≤ 2 ^ k → n ≤ k)

-- n of L by document 02, (f), "its formula from the leading zeros of L - 1, with L = 1 taken on its own": the width less these zeros
unfoldable pub rounds_of : ℕ → ℕ
unfolding count_leading_zeros
rounds_of items = cond (leb items 1) 0 (32 - count_leading_zeros 32 (items - 1))

-- how many items fold j has: N / 2^j, N = 2^n
abbrev pub size : ℕ → ℕ → ℕ
size n j = 2 ^ n / 2 ^ j
