-- The trip of a run and its two vectors: document 01, "Vectors and folds".
use Rattle.std.specs.Prelude.{ℕ, List, [], ◌∷◌, ℤ, pos, ◌+ℤ◌, get_or}
use Rattle.vector.specs.Vector.{Vector, padded}
use Rattle.item.specs.declared.Start.{Start}
use Rattle.item.specs.declared.Given.{Given}
use Rattle.item.specs.declared.Given.TheVariants.{Numbers}
use Rattle.item.specs.Item.{contributes}
pub use Rattle.prover.specs.Take.{enters_as}

-- the L items of a trip, item i at place i
pub record Trip : Type 0 where
  pub start : Start
  pub items : List Given

abbrev pub trip_item : Trip → ℕ → Given
trip_item T i = get_or T.items i (Numbers 0 0)

-- "f is readings, g weights"; "items L to N-1 are zero pairs"
abbrev pub vector_f : ℕ → Trip → Vector
vector_f p T = padded T.start.items (λ i. enters_as p T.start i (contributes p T.start (trip_item T i)).f)

abbrev pub vector_g : ℕ → Trip → Vector
vector_g p T = padded T.start.items (λ i. (contributes p T.start (trip_item T i)).g)

-- readings times minutes: what an item contributes to the total, whatever the modulus
abbrev pub worth : Start → Given → ℤ
worth s x = (contributes 0 s x).worth

unfoldable pub sum_of : Start → List Given → ℤ
sum_of s [] = pos 0
sum_of s (x ∷ xs) = sum_of s xs +ℤ worth s x

-- "readings times minutes" over the whole trip
abbrev pub total_of : Trip → ℤ
total_of T = sum_of T.start T.items
