-- What read_matrix answers, in document 01's words and both ways: each outcome holds of exactly the files that it is given for.
use Rattle.std.specs.Prelude.{Some}
use mathlib.Core.Path.{◌≡◌, refl, ◌∙◌}
use mathlib.Core.Logic.{◌⊎◌, inl, inr}
use mathlib.Core.Bool.{Bool, true, false, ◌&&◌, ◌||◌}
use mathlib.Core.List.{List}
use Prim.Native.Nat.{ℕ, ◌+◌, ◌-◌, ◌^◌, ◌≤◌, ◌<◌}
use native.Mathlib.Omega.{arith}
use lib.ListN.{length}
use lib.Dec.{leb, ltb, eqb}
use borrow.Author.Tests.{le-leb, lt-leb, leb-true, leb-false, lt-ltb, ltb-true, ltb-false, eq-eqb, ne_eqb, eqb-true, eqb-false}
use Rattle.refusal.specs.Number as number
use Rattle.refusal.specs.Limit.{max_rounds}
use Rattle.refusal.specs.Outcome.{Outcome, answered, refused, refused_at, require_all}
use Rattle.refusal.proofs.Outcome.{both, failed, fails, require-says, require_at-says, all-says, all-passed, all_first}
use Rattle.wire.specs.Header.{marked, version_of}
use Rattle.wire.specs.Matrix.{Entry, Shape, matrix_rounds, matrix_count, entry_at, entry, in_order, sorted_at, require_entry, read_matrix, matrix_entry}
use Rattle.wire.proofs.Marks.{Mark, mark_of, mark_back}

-- a file with the size of its count
pub record MatrixFrame (file : List ℕ) : Type 0 where
  pub mark : Mark 77 8 file
  pub version : version_of file ≡ 1
  pub most : matrix_rounds file ≤ max_rounds
  pub size : length file ≡ entry_at (matrix_count file)

-- "Rows do not fall; within a row, columns do not fall"
pub record NotBefore (e next : Entry) : Type 0 where
  pub rows : e.row ≤ next.row
  pub columns : e.row ≡ next.row → e.column ≤ next.column

-- the three rows of an entry
pub record Placed (file : List ℕ) (k : ℕ) : Type 0 where
  pub row : (entry file k).row < 2 ^ matrix_rounds file
  pub column : (entry file k).column < 2 ^ matrix_rounds file

pub record Sorted (file : List ℕ) (k : ℕ) : Type 0 where
  pub after : 0 < k → NotBefore (entry file (k - 1)) (entry file k)

pub record Valued (p : ℕ) (file : List ℕ) (k : ℕ) : Type 0 where
  pub nonzero : 0 < (entry file k).value
  pub below : (entry file k).value < p

pub record GoodEntry (p : ℕ) (file : List ℕ) (k : ℕ) : Type 0 where
  pub placed : Placed file k
  pub sorted : Sorted file k
  pub valued : Valued p file k

pub record GoodMatrix (p : ℕ) (file : List ℕ) (shape : Shape) : Type 0 where
  pub frame : MatrixFrame file
  pub rounds : matrix_rounds file ≡ shape.rounds
  pub counted : matrix_count file ≡ shape.count
  pub entries : (k : ℕ) → k < matrix_count file → GoodEntry p file k

-- the rows without an index, each after those above it
pub data MatrixRefused (file : List ℕ) : ℕ → Type 0 where
  by_mark : (Mark 77 8 file → ⊥) → MatrixRefused file number.header
  by_version : Mark 77 8 file → (version_of file ≡ 1 → ⊥) → MatrixRefused file number.version
  by_count : Mark 77 8 file → version_of file ≡ 1 → max_rounds < matrix_rounds file → MatrixRefused file number.count
  by_size : Mark 77 8 file → version_of file ≡ 1 → matrix_rounds file ≤ max_rounds
      → (length file ≡ entry_at (matrix_count file) → ⊥) → MatrixRefused file number.size

-- the first row that an entry fails
pub data EntryFault (p : ℕ) (file : List ℕ) (k : ℕ) : ℕ → Type 0 where
  by_place : (Placed file k → ⊥) → EntryFault p file k number.place
  by_order : Placed file k → (Sorted file k → ⊥) → EntryFault p file k number.sorted
  by_value : Placed file k → Sorted file k → (Valued p file k → ⊥) → EntryFault p file k number.value

-- the lowest faulty entry
pub record Faulty (p : ℕ) (file : List ℕ) (n k : ℕ) : Type 0 where
  pub frame : MatrixFrame file
  pub below : k < matrix_count file
  pub fault : EntryFault p file k n
  pub earlier : (j : ℕ) → j < k → GoodEntry p file j

abbrev pub MatrixSays : ℕ → List ℕ → Outcome Shape → Type 0
MatrixSays p file (answered shape) = GoodMatrix p file shape
MatrixSays p file (refused n) = MatrixRefused file n
MatrixSays p file (refused_at n k) = Faulty p file n k

-- the tests of an entry, both ways
abbrev placed? : List ℕ → ℕ → Bool
placed? file k = ltb (entry file k).row (2 ^ matrix_rounds file) && ltb (entry file k).column (2 ^ matrix_rounds file)

abbrev valued? : ℕ → List ℕ → ℕ → Bool
valued? p file k = ltb 0 (entry file k).value && ltb (entry file k).value p

either : (a b c : Bool) → (a || (b && c)) ≡ true → (a ≡ true) ⊎ ((b ≡ true) × (c ≡ true))
either true b c h = inl refl
either false b c h = inr (both b c h)

in_order_lem : (e next : Entry) → in_order e next ≡ true → NotBefore e next
unfolding in_order
in_order_lem e next h = go (either (ltb e.row next.row) (eqb e.row next.row) (leb e.column next.column) h)
  where
    go : (ltb e.row next.row ≡ true) ⊎ ((eqb e.row next.row ≡ true) × (leb e.column next.column ≡ true)) → NotBefore e next
    go (inl l) = let r = ltb-true e.row next.row l in record { rows = omega arith; columns = λ q. absurd (omega arith) }
    go (inr q) = let r = eqb-true e.row next.row q.0 in record { rows = omega arith; columns = λ _. leb-true _ _ q.1 }

order-in : (e next : Entry) → NotBefore e next → in_order e next ≡ true
unfolding in_order
order-in e next o = go (ltb e.row next.row) refl
  where
    go : (b : Bool) → ltb e.row next.row ≡ b → (b || (eqb e.row next.row && leb e.column next.column)) ≡ true
    go true h = refl
    go false h =
        let l = ltb-false e.row next.row h in
        let r = o.rows in
        let q : e.row ≡ next.row = omega arith in
        rw (eq-eqb _ _ q, le-leb _ _ (o.columns q))

sorted_of : (file : List ℕ) (k : ℕ) → sorted_at file k ≡ true → Sorted file k
sorted_of file k h =
    record { after = λ l. in_order_lem (entry file (k - 1)) (entry file k) (rw (ne_eqb k 0 (λ e. omega arith)) at h) }

pos_of : (k : ℕ) → (k ≡ 0 → ⊥) → 0 < k
pos_of k h = omega arith

of_sorted : (file : List ℕ) (k : ℕ) → Sorted file k → sorted_at file k ≡ true
of_sorted file k s = go (eqb k 0) refl
  where
    go : (b : Bool) → eqb k 0 ≡ b → (b || in_order (entry file (k - 1)) (entry file k)) ≡ true
    go true h = refl
    go false h = order-in (entry file (k - 1)) (entry file k) (s.after (pos_of k (eqb-false k 0 h)))

placed_of : (file : List ℕ) (k : ℕ) → placed? file k ≡ true → Placed file k
placed_of file k h =
    let b = both (ltb (entry file k).row (2 ^ matrix_rounds file)) _ h in
    record { row = ltb-true _ _ b.0; column = ltb-true _ _ b.1 }

of_placed : (file : List ℕ) (k : ℕ) → Placed file k → placed? file k ≡ true
of_placed file k s =
    rw (lt-ltb (entry file k).row (2 ^ matrix_rounds file) s.row, lt-ltb (entry file k).column (2 ^ matrix_rounds file) s.column)

valued_of : (p : ℕ) (file : List ℕ) (k : ℕ) → valued? p file k ≡ true → Valued p file k
valued_of p file k h =
    let b = both (ltb 0 (entry file k).value) _ h in
    record { nonzero = ltb-true _ _ b.0; below = ltb-true _ _ b.1 }

of_valued : (p : ℕ) (file : List ℕ) (k : ℕ) → Valued p file k → valued? p file k ≡ true
of_valued p file k s = rw (lt-ltb 0 (entry file k).value s.nonzero, lt-ltb (entry file k).value p s.below)

pub matrix-says : (p : ℕ) (file : List ℕ) → MatrixSays p file (read_matrix p file)
unfolding read_matrix
matrix-says p file =
    require-says (MatrixSays p file) (marked 77 8 file) _ _ (λ bad. by_mark (λ m. failed bad (mark_back _ _ _ m))) λ marks.
    let m = mark_of 77 8 file marks in
    require-says (MatrixSays p file) (eqb (version_of file) 1) _ _ (λ bad. by_version m (eqb-false _ _ bad)) λ versions.
    let v = eqb-true (version_of file) 1 versions in
    require-says (MatrixSays p file) (leb (matrix_rounds file) max_rounds) _ _ (λ bad. by_count m v (leb-false _ _ bad)) λ counts.
    let u = leb-true (matrix_rounds file) max_rounds counts in
    require-says (MatrixSays p file) (eqb (length file) (entry_at (matrix_count file))) _ _ (λ bad. by_size m v u (eqb-false _ _ bad)) λ sizes.
    let frame : MatrixFrame file =
    record { mark = m; version = v; most = u; size = eqb-true (length file) (entry_at (matrix_count file)) sizes }
    in
    all-says (require_entry p file) (MatrixSays p file) (GoodEntry p file) (matrix_count file) _
    (λ k h before later then.
    require_at-says (MatrixSays p file) (placed? file k) _ k _
    (λ bad. record { frame = frame; below = h; fault = by_place (λ s. failed bad (of_placed file k s)); earlier = before })
    λ first.
    let a = placed_of file k first in
    require_at-says (MatrixSays p file) (sorted_at file k) _ k _
    (λ bad. record { frame = frame; below = h; fault = by_order a (λ s. failed bad (of_sorted file k s)); earlier = before })
    λ second.
    let b = sorted_of file k second in
    require_at-says (MatrixSays p file) (valued? p file k) _ k later
    (λ bad. record { frame = frame; below = h; fault = by_value a b (λ s. failed bad (of_valued p file k s)); earlier = before })
    λ third. then (record { placed = a; sorted = b; valued = valued_of p file k third }))
    (λ all. record { frame = frame; rounds = refl; counted = refl; entries = all })

module _ (p : ℕ) (file : List ℕ) where
  entries-reached : MatrixFrame file
      → read_matrix p file
      ≡ require_all (require_entry p file) 0 (matrix_count file) (answered (record { rounds = matrix_rounds file; count = matrix_count file }))
  unfolding read_matrix
  entries-reached f =
      simp
      (mark_back 77 8 file f.mark, eq-eqb (version_of file) 1 f.version, le-leb (matrix_rounds file) max_rounds f.most, eq-eqb (length file) (entry_at (matrix_count file)) f.size)

  passes : (k : ℕ) → GoodEntry p file k → (later : Outcome Shape) → require_entry p file k later ≡ later
  passes k g later = simp (of_placed file k g.placed, of_sorted file k g.sorted, of_valued p file k g.valued)

  stops : (k n : ℕ) → EntryFault p file k n → (later : Outcome Shape) → require_entry p file k later ≡ refused_at n k
  stops k n (by_place bad) later = simp (fails (placed? file k) (λ e. bad (placed_of file k e)))
  stops k n (by_order a bad) later = simp (of_placed file k a, fails (sorted_at file k) (λ e. bad (sorted_of file k e)))
  stops k n (by_value a b bad) later =
      simp (of_placed file k a, of_sorted file k b, fails (valued? p file k) (λ e. bad (valued_of p file k e)))

  pub matrix-said : (o : Outcome Shape) → MatrixSays p file o → read_matrix p file ≡ o
  unfolding read_matrix
  matrix-said (answered shape) g =
      entries-reached g.frame
      ∙ all-passed (require_entry p file) (matrix_count file) 0 _ (λ k a b. passes k (g.entries k (omega arith)))
      ∙ rw (g.rounds, g.counted)
  matrix-said (refused n) (by_mark bad) = simp (fails (marked 77 8 file) (λ e. bad (mark_of 77 8 file e)))
  matrix-said (refused n) (by_version m bad) = simp (mark_back 77 8 file m, ne_eqb (version_of file) 1 bad)
  matrix-said (refused n) (by_count m v bad) =
      simp (mark_back 77 8 file m, eq-eqb (version_of file) 1 v, lt-leb (matrix_rounds file) max_rounds bad)
  matrix-said (refused n) (by_size m v u bad) =
      simp
      (mark_back 77 8 file m, eq-eqb (version_of file) 1 v, le-leb (matrix_rounds file) max_rounds u, ne_eqb (length file) (entry_at (matrix_count file)) bad)
  matrix-said (refused_at n k) h =
      entries-reached h.frame
      ∙ all_first (require_entry p file) (matrix_count file) 0 k _ _ (omega arith) (omega (arith, h.below))
      (λ j a b. passes j (h.earlier j b))
      (stops k n h.fault)

-- a good matrix gives each of its entries
pub entries_found : (p : ℕ) (file : List ℕ) (shape : Shape) → GoodMatrix p file shape → (k : ℕ) → k < shape.count
    → matrix_entry file k ≡ Some (entry file k)
unfolding matrix_entry
entries_found p file shape g k h =
    rw (le-leb (entry_at (k + 1)) (length file) (omega (arith, g.frame.size, g.counted)))
