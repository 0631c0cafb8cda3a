-- What product_call answers, in document 01's words and both ways: each outcome holds of exactly the arguments that it is given for.
use mathlib.Core.Path.{◌≡◌, ap, ◌∙◌, subst}
use mathlib.Core.Logic.{◌↔◌}
use mathlib.Core.List.{List}
use Prim.Native.Nat.{ℕ, ◌^◌, ◌≤◌, ◌<◌}
use lib.Dec.{leb}
use lib.ListN.{length}
use borrow.Author.Tests.{le-leb, lt-leb, leb-true, leb-false}
use Rattle.refusal.specs.Number as number
use Rattle.refusal.specs.Outcome.{Outcome, answered, refused, refused_at}
use Rattle.refusal.proofs.Outcome.{failed, fails, require-says}
use Rattle.wire.specs.declared.matrix.Shape.{Shape}
use Rattle.wire.specs.Matrix.{read_matrix}
use Rattle.wire.proofs.MatrixSays.{GoodMatrix, MatrixRefused, Faulty, MatrixSays, matrix-says, matrix-said}
use Rattle.r1cs.specs.Product.{rule_vector, after_shape, product_call}
use Rattle.r1cs.proofs.Vectors.{RuleVector, vector-of, of_vector}
use Rattle.r1cs.proofs.ProductRows.{row-vector, row-buffer, row_done}

-- answered
pub record Multiplies (p : ℕ) (file z out : List ℕ) (n : ℕ) : Type 0 where
  pub count : ℕ
  pub matrix : GoodMatrix p file (record { rounds = n; count = count })
  pub vector : RuleVector p (2 ^ n) z
  pub buffer : 2 ^ n ≤ length out

-- refused without an index: by the file; by the vector, of a good file; by the buffer, with a good vector
pub data ProductRefused (p : ℕ) (file z out : List ℕ) : ℕ → Type 0 where
  by_file_lem : {k : ℕ} → MatrixRefused file k → ProductRefused p file z out k
  by_vector : (shape : Shape) → GoodMatrix p file shape → (RuleVector p (2 ^ shape.rounds) z → ⊥) → ProductRefused p file z out number.vector
  by_buffer : (shape : Shape) → GoodMatrix p file shape → RuleVector p (2 ^ shape.rounds) z → length out < 2 ^ shape.rounds
      → ProductRefused p file z out number.buffer

abbrev pub ProductSays : ℕ → List ℕ → List ℕ → List ℕ → Outcome ℕ → Type 0
ProductSays p file z out (answered n) = Multiplies p file z out n
ProductSays p file z out (refused k) = ProductRefused p file z out k
ProductSays p file z out (refused_at k i) = Faulty p file k i

module _ (p : ℕ) (file z out : List ℕ) where
  after-says : (o : Outcome Shape) → MatrixSays p file o → ProductSays p file z out (after_shape p z out o)
  unfolding after_shape
  after-says (answered shape) good =
      let n = shape.rounds in
      require-says (ProductSays p file z out) (rule_vector p (2 ^ n) z) _ _
      (λ bad. by_vector shape good (λ v. failed bad (of_vector p (2 ^ n) z v)))
      λ fits.
      let v = vector-of p (2 ^ n) z fits in
      require-says (ProductSays p file z out) (leb (2 ^ n) (length out)) _ _
      (λ bad. by_buffer shape good v (leb-false _ _ bad))
      λ room. record { count = shape.count; matrix = good; vector = v; buffer = leb-true _ _ room }
  after-says (refused k) h = by_file_lem h
  after-says (refused_at k i) h = h

  pub product-says : ProductSays p file z out (product_call p file z out)
  product-says = after-says (read_matrix p file) (matrix-says p file)

  -- what follows a file that was read
  past_file : (shape : Shape) → GoodMatrix p file shape → product_call p file z out ≡ after_shape p z out (answered shape)
  past_file shape good = ap (after_shape p z out) (matrix-said p file (answered shape) good)

  -- each outcome, both ways
  pub product-said : (o : Outcome ℕ) → ProductSays p file z out o → product_call p file z out ≡ o
  unfolding after_shape
  product-said (answered n) h =
      let shape : Shape = record { rounds = n; count = h.count } in
      past_file shape h.matrix
      ∙ row_done p z out shape (of_vector p (2 ^ n) z h.vector) (le-leb (2 ^ n) (length out) h.buffer)
  product-said (refused k) (by_file_lem h) = ap (after_shape p z out) (matrix-said p file (refused k) h)
  product-said (refused k) (by_vector shape good bad) =
      let size = 2 ^ shape.rounds in
      past_file shape good ∙ row-vector p z out shape (fails (rule_vector p size z) (λ e. bad (vector-of p size z e)))
  product-said (refused k) (by_buffer shape good v short) =
      let size = 2 ^ shape.rounds in
      past_file shape good ∙ row-buffer p z out shape (of_vector p size z v) (lt-leb size (length out) short)
  product-said (refused_at k i) h = ap (after_shape p z out) (matrix-said p file (refused_at k i) h)

  -- an answered product
  pub product-answered : (n : ℕ) → (product_call p file z out ≡ answered n) ↔ Multiplies p file z out n
  product-answered n = ((λ e. subst (ProductSays p file z out) e product-says), λ h. product-said (answered n) h)
