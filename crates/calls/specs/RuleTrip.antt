-- "The rule check is a twisted run on Az and Bz, L = 2^n, with v_j = v^(2^j)": its trip, of any two vectors.
use Rattle.std.specs.Prelude.{ℕ, zero, suc, ◌^◌, List, [], ◌∷◌}
use Rattle.vector.specs.Vector.{Vector}
use Rattle.item.specs.declared.Given.{Given}
use Rattle.item.specs.declared.Given.TheVariants.{Numbers}
use Rattle.item.specs.Start.{rule_start}
use Rattle.runs.specs.Trip.{Trip}

-- m items, from item i on
unfoldable pub items_from : (ℕ → Given) → ℕ → ℕ → List Given
items_from x i zero = []
items_from x i (suc m) = x i ∷ items_from x (suc i) m

abbrev pub rule_trip : ℕ → ℕ → ℕ → Vector → Vector → Trip
rule_trip p n v a b = record { start = rule_start p n v; items = items_from (λ i. Numbers (a i) (b i)) 0 (2 ^ n) }
