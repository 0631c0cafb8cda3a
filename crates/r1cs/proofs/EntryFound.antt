-- What the accessor answers for an entry that the file has.
use mathlib.Core.List.{List}
use mathlib.Core.Path.{◌≡◌, ap, ◌∙◌}
use Prim.Native.Nat.{ℕ, ◌+◌, ◌≤◌, ◌<◌}
use native.Mathlib.Omega.{arith}
use lib.ListN.{length}
use borrow.Author.Tests.{le-leb}
use Rattle.std.specs.Prelude.{Some, None}
use Rattle.wire.specs.declared.matrix.Entry.{Entry}
use Rattle.wire.specs.Matrix.{entry, entry_at, matrix_entry}

module _ (file : List ℕ) (k : ℕ) (there : entry_at (k + 1) ≤ length file) where
  entry-there : matrix_entry file k ≡ Some (entry file k)
  unfolding matrix_entry
  entry-there = rw (le-leb (entry_at (k + 1)) (length file) there)

  pub entry_read : {e : Entry} → Some e ≡ matrix_entry file k → e ≡ entry file k
  entry_read h = let same = h ∙ entry-there in cc

  pub entry-not_missing : None ≡ matrix_entry file k → ⊥
  entry-not_missing h =
      let z : None ≡ Some (entry file k) = h ∙ entry-there in
      let n : ◌≡◌ {A = ℕ} 0 1 = cc in
      omega arith

-- an entry that is read has the places of the file's
pub row_below : {e f : Entry} {n : ℕ} → e ≡ f → f.row < n → e.row < n
row_below q less = let same = ap (λ (x : Entry). x.row) q in omega arith

pub column_below : {e f : Entry} {n : ℕ} → e ≡ f → f.column < n → e.column < n
column_below q less = let same = ap (λ (x : Entry). x.column) q in omega arith
