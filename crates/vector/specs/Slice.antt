-- What the functions on slices give. A slice is the list of its places, and `at xs` its vector; each definition says
-- what is given where a slice has fewer places than are asked for.
use Rattle.std.specs.Prelude.{ℕ, zero, suc, ◌*◌, Bool, true, cond, ◌&&◌, List, leb, length, set, replicate}
use Rattle.field.specs.Number.{is_reduced}
pub use Rattle.field.specs.Number.{is_nonzero}
use Rattle.vector.specs.Vector.{Vector, at}
use Rattle.vector.specs.Fold.{combine, fold_once_with}
use Rattle.vector.specs.Message.{Message, message_of}
use Rattle.vector.specs.Opening.{evaluate}
use Rattle.vector.specs.declared.Message.{Message as MessageStruct}

-- the first h places become the first h items of v, all other places stay
unfoldable pub overwrite : Vector → ℕ → List ℕ → List ℕ
overwrite v zero xs = xs
overwrite v (suc h) xs = set (overwrite v h xs) h (v h)

-- the first h places become the fold of the first 2h, all other places stay; nothing is written where 2h places are not there
unfoldable pub fold_slice : ℕ → ℕ → ℕ → List ℕ → List ℕ
fold_slice p c h xs = cond (leb (2 * h) (length xs)) (overwrite (fold_once_with (combine p) c (at xs)) h xs) xs

abbrev pub message_in : MessageStruct → Message
message_in m = record { even = m.even; cross = m.cross; odd = m.odd }

-- both slices have n places
abbrev pub both_have : ℕ → List ℕ → List ℕ → Bool
both_have n fs gs = leb n (length fs) && leb n (length gs)

-- the message of the first 2h places; all zero where a slice is shorter
unfoldable pub message_slice : ℕ → ℕ → List ℕ → List ℕ → Message
message_slice p h fs gs =
    cond (both_have (2 * h) fs gs) (message_of p h (at fs) (at gs)) (record { even = 0; cross = 0; odd = 0 })

-- the first n places as a polynomial at x; zero where the slice is shorter
unfoldable pub evaluate_slice : ℕ → ℕ → List ℕ → ℕ → ℕ
evaluate_slice p n xs x = cond (leb n (length xs)) (evaluate p n (at xs) x) 0

-- a test of each number below m
unfoldable pub every : ℕ → (ℕ → Bool) → Bool
every zero test = true
every (suc m) test = every m test && test m

-- the first m places are below p; a place that the slice lacks counts as 0
abbrev pub all_reduced : ℕ → ℕ → List ℕ → Bool
all_reduced p m xs = every m (λ k. is_reduced p (at xs k))

-- the first m places are from 1 to p - 1; a place that the slice lacks counts as 0
abbrev pub all_nonzero : ℕ → ℕ → List ℕ → Bool
all_nonzero p m xs = every m (λ k. is_nonzero p (at xs k))

-- the first n places in fifteen, the rest zero; all zero where n is above 15 or the slice is shorter
unfoldable pub fifteen : ℕ → List ℕ → List ℕ
fifteen n xs = cond (leb n 15 && leb n (length xs)) (overwrite (at xs) n (replicate 15 0)) (replicate 15 0)
