-- The rows of product_call after the file's, one by one, and what a file that was read says.
use mathlib.Core.Path.{◌≡◌, sym, ap, subst, ◌∙◌}
use mathlib.Core.Bool.{true, false}
use mathlib.Core.List.{List}
use Prim.Native.Nat.{ℕ, ◌^◌, ◌≤◌}
use native.Mathlib.Omega.{arith}
use lib.Dec.{leb}
use lib.ListN.{length}
use Rattle.refusal.specs.Number as number
use Rattle.refusal.specs.Outcome.{answered, refused}
use Rattle.vector.specs.Power.{size_in32}
use Rattle.wire.specs.declared.matrix.Shape.{Shape}
use Rattle.wire.specs.Matrix.{matrix_rounds, read_matrix}
use Rattle.wire.proofs.MatrixSays.{GoodMatrix, MatrixSays, matrix-says}
use Rattle.r1cs.specs.Product.{Fits, rule_vector, after_shape}
use Rattle.verifier.proofs.Branches.{branches}
use Rattle.r1cs.proofs.Vectors.{size-rule}

module _ (p : ℕ) (z out : List ℕ) (shape : Shape) where
  pub row-vector : rule_vector p (2 ^ shape.rounds) z ≡ false → after_shape p z out (answered shape) ≡ refused number.vector
  unfolding after_shape
  row-vector a = rw a

  pub row-buffer : rule_vector p (2 ^ shape.rounds) z ≡ true → leb (2 ^ shape.rounds) (length out) ≡ false
      → after_shape p z out (answered shape) ≡ refused number.buffer
  unfolding after_shape
  row-buffer a b = rw (a, b)

  pub row_done : rule_vector p (2 ^ shape.rounds) z ≡ true → leb (2 ^ shape.rounds) (length out) ≡ true
      → after_shape p z out (answered shape) ≡ answered shape.rounds
  unfolding after_shape
  row_done a b = rw (a, b)

-- what a file that was read says
module _ (p : ℕ) (file : List ℕ) (shape : Shape) (read : read_matrix p file ≡ answered shape) where
  pub good : GoodMatrix p file shape
  good = subst (MatrixSays p file) read (matrix-says p file)

  pub few-rounds : shape.rounds ≤ 15
  few-rounds = omega (arith, good.frame.most, good.rounds)

  pub size-read : size_in32 shape.rounds 0 ≡ 2 ^ shape.rounds
  size-read = size-rule shape.rounds few-rounds

  pub fits-of : (size : ℕ) (z out : List ℕ) → size ≡ 2 ^ shape.rounds → length z ≡ size → size ≤ length out → Fits size shape.count file z out
  fits-of size z out e long room =
      let same : size ≡ 2 ^ matrix_rounds file = e ∙ ap (λ n. 2 ^ n) (sym good.rounds) in
      record {
        counted = sym good.counted;
        long = omega (arith, good.frame.size, good.counted);
        rows = λ k l. omega (arith, (good.entries k (omega (arith, good.counted))).placed.row, same);
        columns = λ k l. omega (arith, (good.entries k (omega (arith, good.counted))).placed.column, same);
        vector = long;
        buffer = room;
      }

-- the size that the code computes, in the form that `grind` finds by what was read
pub size-known : (p : ℕ) (file : List ℕ) (shape : Shape) → read_matrix p file ≡ answered shape
    → (read_matrix p file ≡ answered shape) × (size_in32 shape.rounds 0 ≡ 2 ^ shape.rounds)
size-known p file shape read = (read, size-read p file shape read)

pub ruleset product_rows = (branches, size-known)
