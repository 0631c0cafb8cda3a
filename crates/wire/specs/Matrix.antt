-- The rule matrix (R1CS matrix): document 01, "Files", and the rows 1 to 4 and 13 to 15 of its table. p is the modulus.
use Rattle.std.specs.Prelude.{ℕ, ◌+◌, ◌-◌, ◌*◌, ◌^◌, List, Bool, ◌||◌, ◌&&◌, length, get_or, ltb, leb, eqb, Option}
use Rattle.refusal.specs.Number as number
use Rattle.refusal.specs.Limit.{max_rounds}
use Rattle.refusal.specs.Outcome.{Outcome, answered, require, require_at, require_all}
use Rattle.wire.specs.Number.{num_at}
use Rattle.wire.specs.Found.{found_if}
use Rattle.wire.specs.Header.{require_header}
pub use Rattle.wire.specs.declared.matrix.Shape.{Shape}
pub use Rattle.wire.specs.declared.matrix.Entry.{Entry}

-- "byte 5 n"
abbrev pub matrix_rounds : List ℕ → ℕ
matrix_rounds file = get_or file 5 0

-- "6-7 count M, 0 to 65,535"
abbrev pub matrix_count : List ℕ → ℕ
matrix_count file = num_at 2 file 6

-- "then M entries of eight bytes": where entry k starts; where M entries end, "Length 8 + 8M"
abbrev pub entry_at : ℕ → ℕ
entry_at k = 8 + 8 * k

-- "row (16-bit), column (16-bit), value (32-bit)"
abbrev pub entry : List ℕ → ℕ → Entry
entry file k =
    record { row = num_at 2 file (entry_at k); column = num_at 2 file (entry_at k + 2); value = num_at 4 file (entry_at k + 4) }

-- "Rows do not fall; within a row, columns do not fall": an entry and the next
unfoldable pub in_order : Entry → Entry → Bool
in_order e next = ltb e.row next.row || (eqb e.row next.row && leb e.column next.column)

-- entry k comes after the one before it
abbrev pub sorted_at : List ℕ → ℕ → Bool
sorted_at file k = eqb k 0 || in_order (entry file (k - 1)) (entry file k)

-- 13: "row or column 2^n or more"; 14: "entry out of order"; 15: "value 0, P or more"; each with the index
abbrev pub require_entry : {A : Type 0} → ℕ → List ℕ → ℕ → Outcome A → Outcome A
require_entry p file k rest =
    require_at (ltb (entry file k).row (2 ^ matrix_rounds file) && ltb (entry file k).column (2 ^ matrix_rounds file)) number.place k
    (require_at (sorted_at file k) number.sorted k
    (require_at (ltb 0 (entry file k).value && ltb (entry file k).value p) number.value k rest))

-- 1 and 2: RVM (77 is M), eight bytes; 3: "n above 15"; 4: "length not as computed". A good matrix answers n and M.
unfoldable pub read_matrix : ℕ → List ℕ → Outcome Shape
read_matrix p file =
    require_header 77 8 file
    (require (leb (matrix_rounds file) max_rounds) number.count
    (require (eqb (length file) (entry_at (matrix_count file))) number.size
    (require_all (require_entry p file) 0 (matrix_count file)
    (answered (record { rounds = matrix_rounds file; count = matrix_count file })))))

-- entry k where the file has its bytes; whether the file is a good matrix is for read_matrix to say
unfoldable pub matrix_entry : List ℕ → ℕ → Option Entry
matrix_entry file k = found_if (leb (entry_at (k + 1)) (length file)) (entry file k)
