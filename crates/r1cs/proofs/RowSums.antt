-- The product of a matrix with one entry more: its row has one product more, every other row stays.
use mathlib.Core.Bool.{cond}
use mathlib.Core.List.{List}
use mathlib.Core.Logic.{⊎_elim}
use mathlib.Core.Path.{◌≡◌, refl, sym, ap, ap₂, subst, ◌∙◌}
use Prim.Native.Nat.{ℕ, zero, suc, ◌+◌, ◌*◌, ◌≤◌, ◌<◌}
use native.Mathlib.Nat.{add-mul, add-zero, eq-or-lt_of_le, zero-mul, zero-add}
use native.Mathlib.Numerals.{add-one}
use native.Mathlib.Omega.{arith}
use lib.Dec.{eqb}
use lib.ListN.{length, set}
use borrow.Author.Tests.{eq-eqb, ne_eqb}
use Rattle.algebra.specs.Mod.{residue, add_mod, mul_mod}
use Rattle.algebra.proofs.Congruence.{residue-zero}
use Rattle.vector.specs.Vector.{Vector, at, sum}
use Rattle.vector.specs.Slice.{overwrite}
use Rattle.vector.proofs.Sums.{sum_same, sum-plus, sum-zero, running-product}
use Rattle.vector.proofs.Overwrite.{overwrite-written}
use Rattle.wire.specs.declared.matrix.Entry.{Entry}
use Rattle.wire.specs.Matrix.{entry, matrix_count}
use Rattle.r1cs.specs.Product.{addend, matrix_of_first, matrix_in, times}
use Rattle.r1cs.proofs.Overwritten.{overwrite-same, overwrite-stored, overwrite-again}

module _ (z : Vector) (x : ℕ) where
  abbrev only : ℕ → Vector
  only c j = cond (eqb c j) x 0 * z j

  off_place : (c j : ℕ) → (c ≡ j → ⊥) → only c j ≡ 0
  off_place c j other = rw (ne_eqb c j other) (zero-mul (z j))

  -- a row with one number
  one_place : (size c : ℕ) → c < size → sum size (only c) ≡ x * z c
  unfolding sum
  one_place zero c less = absurd (omega arith)
  one_place (suc size) c less =
      ⊎_elim
      (λ (last : c ≡ size).
      ap₂ ◌+◌ (sum-zero size (only c) (λ j l. off_place c j (λ q. omega arith)))
      (rw (eq-eqb c size last) (ap (λ k. x * z k) (sym last)))
      ∙ zero-add (x * z c))
      (λ (below : c < size).
      ap₂ ◌+◌ (one_place size c below) (off_place c size (λ q. omega arith)) ∙ add-zero (x * z c))
      (eq-or-lt_of_le (omega arith))

module _ (e : Entry) (z : Vector) (size i : ℕ) where
  in_row : e.row ≡ i → e.column < size → sum size (λ j. addend e i j * z j) ≡ e.value * z e.column
  unfolding addend
  in_row same less =
      sum_same size (λ j. addend e i j * z j) (only z e.value e.column) (λ j l. rw (eq-eqb e.row i same))
      ∙ one_place z e.value size e.column less

  other_row : (e.row ≡ i → ⊥) → sum size (λ j. addend e i j * z j) ≡ 0
  unfolding addend
  other_row other = sum-zero size (λ j. addend e i j * z j) (λ j l. rw (ne_eqb e.row i other) (zero-mul (z j)))

module _ (p size : ℕ) (file : List ℕ) (z : Vector) where
  -- the product of the matrix of the first k entries
  abbrev pub first_times : ℕ → Vector
  first_times k = times p size (matrix_of_first k file) z

  abbrev row_sum : ℕ → ℕ → ℕ
  row_sum k i = sum size (λ j. matrix_of_first k file i j * z j)

  pub no-entries : (i : ℕ) → 0 ≡ first_times 0 i
  unfolding sum
  no-entries i =
      sym (ap (residue p) (sum-zero size (λ j. matrix_of_first 0 file i j * z j) (λ j l. zero-mul (z j))) ∙ residue-zero p)

  row_next : (k i : ℕ) → row_sum (suc k) i ≡ row_sum k i + sum size (λ j. addend (entry file k) i j * z j)
  unfolding sum
  row_next k i =
      sum_same size (λ j. matrix_of_first (suc k) file i j * z j)
      (λ j. matrix_of_first k file i j * z j + addend (entry file k) i j * z j)
      (λ j l. add-mul (matrix_of_first k file i j) (addend (entry file k) i j) (z j))
      ∙ sum-plus size (λ j. matrix_of_first k file i j * z j) (λ j. addend (entry file k) i j * z j)

  module _ (k : ℕ) (column : (entry file k).column < size) where
    abbrev e : Entry
    e = entry file k

    row-added : add_mod p (first_times k e.row) (mul_mod p e.value (z e.column)) ≡ first_times (suc k) e.row
    row-added =
        running-product p (row_sum k e.row) e.value (z e.column)
        ∙ ap (residue p)
        (sym (row_next k e.row ∙ ap (λ s. row_sum k e.row + s) (in_row e z size e.row refl column)))

    row_kept : (i : ℕ) → (i ≡ e.row → ⊥) → first_times k i ≡ first_times (suc k) i
    row_kept i other =
        sym
        (ap (residue p)
        (row_next k i ∙ ap (λ s. row_sum k i + s) (other_row e z size i (λ q. other (sym q))) ∙ add-zero (row_sum k i)))

  -- the entry's product stored at its row, as the code does it
  pub entry-added : (k : ℕ) (xs ys : List ℕ) → size ≤ length xs → (entry file k).row < size → (entry file k).column < size
      → ys ≡ overwrite (first_times k) size xs
      → set ys (entry file k).row (add_mod p (at ys (entry file k).row) (mul_mod p (entry file k).value (z (entry file k).column)))
      ≡ overwrite (first_times (k + 1)) size xs
  entry-added k xs ys long row column e =
      let r = (entry file k).row in
      let x = mul_mod p (entry file k).value (z (entry file k).column) in
      ap (λ zs. set zs r (add_mod p (at zs r) x)) e
      ∙ overwrite-stored (first_times k) (first_times (suc k)) size r (add_mod p (at (overwrite (first_times k) size xs) r) x) xs row
      (ap (λ y. add_mod p y x) (overwrite-written (first_times k) xs size r long row) ∙ row-added k column)
      (λ i l other. row_kept k column i other)
      ∙ ap (λ m. overwrite (first_times m) size xs) (sym (add-one k))

  pub entry-step : (k : ℕ) (e : Entry) (xs ys zs : List ℕ) → e ≡ entry file k → size ≤ length xs → e.row < size → e.column < size
      → ys ≡ overwrite (first_times k) size xs → zs ≡ set ys e.row (add_mod p (at ys e.row) (mul_mod p e.value (z e.column)))
      → zs ≡ overwrite (first_times (k + 1)) size xs
  entry-step k e xs ys zs q long row column before after =
      after
      ∙ subst
      (λ (x : Entry).
      x.row < size → x.column < size
      → set ys x.row (add_mod p (at ys x.row) (mul_mod p x.value (z x.column))) ≡ overwrite (first_times (k + 1)) size xs)
      (sym q) (λ r c. entry-added k xs ys long r c before) row column

  -- the whole pass, which starts with zeros in the first places
  pub all-added : (k : ℕ) (xs ys zs : List ℕ) → k ≡ matrix_count file → ys ≡ overwrite (λ i. 0) size xs
      → zs ≡ overwrite (first_times k) size ys → zs ≡ overwrite (times p size (matrix_in file) z) size xs
  all-added k xs ys zs all cleared e =
      e ∙ ap₂ (λ m us. overwrite (first_times m) size us) all cleared ∙ overwrite-again (λ i. 0) (first_times (matrix_count file)) size xs

  pub none_added : (xs ys : List ℕ) → ys ≡ overwrite (λ i. 0) size xs → ys ≡ overwrite (first_times 0) size ys
  none_added xs ys cleared =
      cleared ∙ sym (overwrite-again (λ i. 0) (λ i. 0) size xs) ∙ ap (overwrite (λ i. 0) size) (sym cleared)
      ∙ overwrite-same (λ i. 0) (first_times 0) size ys (λ i l. no-entries i)
