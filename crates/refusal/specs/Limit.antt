-- Document 01: the limits. That of a total is half of P - 1; over any modulus it is `limit` of field.
use Rattle.std.specs.Prelude.{ℕ, List, [], ◌∷◌}

-- "count L, 1 to 32,768"
abbrev pub max_items : ℕ
max_items = 32768

-- "n is the least number with 2^n >= L, 0 to 15"
abbrev pub max_rounds : ℕ
max_rounds = 15

-- "weight (unsigned 16-bit, minutes, 0 to 1,440)"
abbrev pub max_weight : ℕ
max_weight = 1440

-- document 02, (b): "a signed 32-bit reading from -1,000,000 to 1,000,000"
abbrev pub max_fine : ℕ
max_fine = 1000000

-- the largest product of a reading and a weight, of either version: 1,000,000 times 1,440
abbrev pub max_worth : ℕ
max_worth = 1440000000

-- "A plain total is a signed whole number from -1,073,741,823 to 1,073,741,823"
abbrev pub max_total : ℕ
max_total = 1073741823

-- document 02, (a): "up to eight logs"
abbrev pub max_logs : ℕ
max_logs = 8

abbrev pub limits : List ℕ
limits = max_items ∷ max_rounds ∷ max_weight ∷ max_total ∷ max_logs ∷ max_fine ∷ []
