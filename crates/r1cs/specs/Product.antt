-- A matrix times a vector: document 01, "Rules" (Gemini, Definition 1), the matrix given by its file. p is the modulus.
use Rattle.std.specs.Prelude.{ℕ, ◌^◌, ◌<◌, ◌≤◌, ◌≡◌, Bool, false, cond, ◌&&◌, List, eqb, leb, length}
use Rattle.refusal.specs.Number as number
use Rattle.refusal.specs.Outcome.{Outcome, answered, refused, refused_at, require}
use Rattle.vector.specs.Vector.{Vector, at, sum, dot}
use Rattle.vector.specs.Slice.{overwrite, all_reduced}
use Rattle.wire.specs.declared.matrix.Entry.{Entry}
use Rattle.wire.specs.declared.matrix.Shape.{Shape}
use Rattle.wire.specs.Matrix.{entry, entry_at, matrix_count, read_matrix}

-- the number at row i and column j is `a i j`
abbrev pub Matrix : Type 0
Matrix = ℕ → ℕ → ℕ

-- what an entry adds to the number at row i and column j
unfoldable pub addend : Entry → Matrix
addend e i j = cond (eqb e.row i && eqb e.column j) e.value 0

-- the matrix of the first m entries of a file: "Entries at the same row and column are added"
abbrev pub matrix_of_first : ℕ → List ℕ → Matrix
matrix_of_first m file i j = sum m (λ k. addend (entry file k) i j)

-- the matrix of a file; a place that no entry names is 0
abbrev pub matrix_in : List ℕ → Matrix
matrix_in file = matrix_of_first (matrix_count file) file

-- A z: item i is the sum over the columns j of A_ij z_j
abbrev pub times : ℕ → ℕ → Matrix → Vector → Vector
times p size a z i = dot p size (a i) z

-- the product of the matrix of a file of 2^n rows and a vector
abbrev pub product_of : ℕ → ℕ → List ℕ → List ℕ → Vector
product_of p n file z = times p (2 ^ n) (matrix_in file) (at z)

-- what a pass over the entries relies on: those of a good file, and slices that have their places
pub record Fits (size count : ℕ) (file z out : List ℕ) : Type 0 where
  pub counted : count ≡ matrix_count file
  pub long : entry_at count ≤ length file
  pub rows : (k : ℕ) → k < count → (entry file k).row < size
  pub columns : (k : ℕ) → k < count → (entry file k).column < size
  pub vector : length z ≡ size
  pub buffer : size ≤ length out

-- 16: "rule vector's length not 2^n; in it .. a number P or more"
unfoldable pub rule_vector : ℕ → ℕ → List ℕ → Bool
rule_vector p size xs = cond (eqb (length xs) size) (all_reduced p size xs) false

-- the rows of the table that follow the file's: the vector (16), then the buffer (9)
unfoldable pub after_shape : ℕ → List ℕ → List ℕ → Outcome Shape → Outcome ℕ
after_shape p z out (answered shape) =
    require (rule_vector p (2 ^ shape.rounds) z) number.vector
    (require (leb (2 ^ shape.rounds) (length out)) number.buffer (answered shape.rounds))
after_shape p z out (refused k) = refused k
after_shape p z out (refused_at k i) = refused_at k i

-- the file's rows (1 to 4, 13 to 15), then those; an answered product answers n
abbrev pub product_call : ℕ → List ℕ → List ℕ → List ℕ → Outcome ℕ
product_call p file z out = after_shape p z out (read_matrix p file)

-- the buffer after: A z in its first 2^n places, every other place kept; refused: "state and buffers are unchanged"
unfoldable pub product_in : ℕ → List ℕ → List ℕ → List ℕ → Outcome ℕ → List ℕ
product_in p file z out (answered n) = overwrite (product_of p n file z) (2 ^ n) out
product_in p file z out (refused k) = out
product_in p file z out (refused_at k i) = out

abbrev pub product_leaves : ℕ → List ℕ → List ℕ → List ℕ → List ℕ
product_leaves p file z out = product_in p file z out (product_call p file z out)
