-- The checks of a block are the block's rows, and what the rows that it passed say: of a run's block and of a verifier's.
use mathlib.Core.Path.{◌≡◌, refl, sym, ap, subst, ◌∙◌}
use mathlib.Core.Logic.{⊎_elim}
use mathlib.Core.Bool.{Bool, true, false, cond, not, ◌&&◌}
use mathlib.Core.Option.{Option, none, some}
use Prim.Native.Nat.{ℕ, zero, suc, ◌+◌, ◌%◌, ◌≤◌, ◌<◌}
use native.Mathlib.Nat.{eq-or-lt_of_le}
use native.Mathlib.Omega.{arith}
use lib.Dec.{eqb, leb, ltb}
use lib.ListN.{length}
use Rattle.refusal.specs.Limit.{max_weight}
use Rattle.refusal.specs.Outcome.{Outcome, answered, require, require_at, require_all}
use Rattle.vector.specs.Vector.{at}
use Rattle.wire.specs.Block.{reading_in, weight_in}
use Rattle.item.specs.declared.Start.{Start}
use Rattle.item.specs.declared.Given.{Given}
use Rattle.item.specs.declared.Given.TheVariants.{Reading, Numbers}
use Rattle.item.specs.Version.{item_size}
use Rattle.item.specs.Mark.{reading_fits}
use Rattle.item.specs.Item.{contributes, parts_of}
use Rattle.block.specs.Block.{Block, count, item_at, is_whole, torn_number}
use Rattle.block.specs.Checks.{first_index, is_of_kind, passing, block_checks}
use Rattle.calls.specs.Table.{Refusal, decided, row, row_at, given_rows}
use Rattle.calls.specs.Blocks.{item_rows, whole_row, block_rows}
use Rattle.calls.proofs.Guards.{same_row}
use Rattle.calls.proofs.Steps.{row-passed}

-- the first of two rows that refuses
abbrev pub before : Option Refusal → Option Refusal → Option Refusal
before none t = t
before (some k) t = some k

pub before-none : (u t : Option Refusal) → before u t ≡ none → (u ≡ none) × (t ≡ none)
before-none none t e = (refl, e)
before-none (some k) t e = absurd (let z : ◌≡◌ {A = ℕ} 0 1 = cc in omega arith)

before-both : (u r t : Option Refusal) → before u (before r t) ≡ before (before u r) t
before-both none r t = refl
before-both (some k) r t = refl

before-row : (ok : Bool) (k : ℕ) (u r t : Option Refusal) → u ≡ before r t → row ok k u ≡ before (row ok k r) t
before-row true k u r t e = e
before-row false k u r t e = refl

-- one item: its check is its rows
module _ (p : ℕ) (s : Start) (i : ℕ) where
  pub given-passing : {A : Type 0} (x : Given) (later : Outcome A) (t : Option Refusal) (o : Outcome A) → later ≡ decided t o
      → passing (parts_of p s i x) later ≡ decided (given_rows p s i x t) o
  unfolding parts_of
  given-passing (Reading r w) later t o e = by s.plain (leb w max_weight) (reading_fits s.version r)
    where
      by : (plain fits ranged : Bool) → passing (require plain 10 (require_at fits 5 i (require_at ranged 18 i (answered (contributes p s (Reading r w)))))) later
          ≡ decided (row plain 10 (row_at fits 5 i (row_at ranged 18 i t))) o
      by false fits ranged = refl
      by true false ranged = refl
      by true true false = refl
      by true true true = e
  given-passing (Numbers x y) later t o e = by (not s.plain) (ltb x p && ltb y p)
    where
      by : (twisted fine : Bool) → passing (require twisted 10 (require fine 16 (answered (contributes p s (Numbers x y))))) later
          ≡ decided (row twisted 10 (row fine 16 t)) o
      by false fine = refl
      by true false = refl
      by true true = e

  pub given-before : (x : Given) (t : Option Refusal) → given_rows p s i x t ≡ before (given_rows p s i x none) t
  given-before (Reading r w) t = by s.plain (leb w max_weight) (reading_fits s.version r)
    where
      by : (plain fits ranged : Bool) → row plain 10 (row_at fits 5 i (row_at ranged 18 i t)) ≡ before (row plain 10 (row_at fits 5 i (row_at ranged 18 i none))) t
      by false fits ranged = refl
      by true false ranged = refl
      by true true false = refl
      by true true true = refl
  given-before (Numbers x y) t = by (not s.plain) (ltb x p && ltb y p)
    where
      by : (twisted fine : Bool) → row twisted 10 (row fine 16 t) ≡ before (row twisted 10 (row fine 16 none)) t
      by false fine = refl
      by true false = refl
      by true true = refl

  pub given-passed : (x : Given) (t : Option Refusal) → given_rows p s i x t ≡ none → (given_rows p s i x none ≡ none) × (t ≡ none)
  given-passed x t e = before-none (given_rows p s i x none) t (sym (given-before x t) ∙ e)

  pub passed-given : (x : Given) (t : Option Refusal) → given_rows p s i x none ≡ none → given_rows p s i x t ≡ t
  passed-given x t e = given-before x t ∙ ap (λ u. before u t) e

-- the items of a block whose first one has an index
module _ (p : ℕ) (s : Start) (first : ℕ) (b : Block) where
  -- item j is one that a single call takes
  abbrev pub Fine : ℕ → Type 0
  Fine j = given_rows p s (first + j) (item_at s.version b j) none ≡ none

  items-checked : {A : Type 0} (t : Option Refusal) (o : Outcome A) (rest : Outcome A) → rest ≡ decided t o → (n i : ℕ)
      → require_all (λ j later. passing (parts_of p s (first + j) (item_at s.version b j)) later) i n rest ≡ decided (item_rows p s first b i n t) o
  unfolding require_all item_rows
  items-checked t o rest e zero i = e
  items-checked t o rest e (suc n) i = given-passing p s (first + i) (item_at s.version b i) _ _ o (items-checked t o rest e n (suc i))

  items-before : (t : Option Refusal) (n i : ℕ) → item_rows p s first b i n t ≡ before (item_rows p s first b i n none) t
  unfolding item_rows
  items-before t zero i = refl
  items-before t (suc n) i =
      let g = given_rows p s (first + i) (item_at s.version b i) none in
      given-before p s (first + i) (item_at s.version b i) _ ∙ ap (before g) (items-before t n (suc i)) ∙ before-both g _ t
      ∙ ap (λ u. before u t) (sym (given-before p s (first + i) (item_at s.version b i) _))

  -- every item of a block that passed its rows is fine
  items-fine : (t : Option Refusal) (n i : ℕ) → item_rows p s first b i n t ≡ none → (j : ℕ) → i ≤ j → j < i + n → Fine j
  unfolding item_rows
  items-fine t zero i e j from below = absurd (omega arith)
  items-fine t (suc n) i e j from below =
      let g = given-passed p s (first + i) (item_at s.version b i) _ e in
      ⊎_elim (λ q. subst Fine q g.0) (λ l. items-fine t n (suc i) g.1 j (omega arith) (omega arith)) (eq-or-lt_of_le from)

  -- and where every item is fine the items pass
  fine-items : (t : Option Refusal) (n i : ℕ) → ((j : ℕ) → i ≤ j → j < i + n → Fine j) → item_rows p s first b i n t ≡ t
  unfolding item_rows
  fine-items t zero i each = refl
  fine-items t (suc n) i each =
      passed-given p s (first + i) (item_at s.version b i) _ (each i (omega arith) (omega arith))
      ∙ fine-items t n (suc i) (λ j from below. each j (omega arith) (omega arith))

  -- an item that is fine is of the run's kind, and so is its block
  pub fine-kind : (j : ℕ) → Fine j → is_of_kind s b ≡ true
  fine-kind j = by b.plain
    where
      by : (plain : Bool)
          → given_rows p s (first + j) (cond plain (Reading (reading_in s.version b.bytes j) (weight_in s.version b.bytes j)) (Numbers (at b.first j) (at b.second j))) none ≡ none
          → cond plain s.plain (not s.plain) ≡ true
      by true e = (row-passed s.plain 10 _ e).0
      by false e = (row-passed (not s.plain) 10 _ e).0

  whole_row_lem : (t : Option Refusal) → whole_row s.version b t ≡ row (is_whole s.version b) (torn_number b) t
  whole_row_lem t = by b.plain (eqb (length b.bytes % item_size s.version) 0) (eqb (length b.first) (length b.second))
    where
      by : (plain whole same : Bool) → cond plain (row whole 4 t) (row same 16 t) ≡ row (cond plain whole same) (cond plain 4 16) t
      by true whole same = refl
      by false whole same = refl

  rows-so : (t : Option Refusal) → block_rows p s first b t ≡ row (is_of_kind s b) 10 (row (is_whole s.version b) (torn_number b) (item_rows p s first b 0 (count s.version b) t))
  rows-so t = ap (row (is_of_kind s b) 10) (whole_row_lem (item_rows p s first b 0 (count s.version b) t))

  -- what follows the rows of a block is asked where they pass
  pub rows_before : (t : Option Refusal) → block_rows p s first b t ≡ before (block_rows p s first b none) t
  rows_before t =
      rows-so t
      ∙ before-row (is_of_kind s b) 10 _ _ t (before-row (is_whole s.version b) (torn_number b) _ _ t (items-before t (count s.version b) 0))
      ∙ ap (λ u. before u t) (sym (rows-so none))

  pub record RowsPassed : Type 0 where
    pub kind : is_of_kind s b ≡ true
    pub whole : is_whole s.version b ≡ true
    pub each : (j : ℕ) → j < count s.version b → Fine j

  pub rows-passed : (t : Option Refusal) → block_rows p s first b t ≡ none → RowsPassed
  rows-passed t e =
      let x = row-passed (is_of_kind s b) 10 _ (sym (rows-so t) ∙ e) in
      let y = row-passed (is_whole s.version b) (torn_number b) _ x.1 in
      record { kind = x.0; whole = y.0; each = λ j below. items-fine t (count s.version b) 0 y.1 j (omega arith) (omega arith) }

  pub passed-rows : (t : Option Refusal) → RowsPassed → block_rows p s first b t ≡ t
  passed-rows t r =
      rows-so t ∙ ap (λ ok. row ok 10 (row (is_whole s.version b) (torn_number b) (item_rows p s first b 0 (count s.version b) t))) r.kind
      ∙ ap (λ ok. row ok (torn_number b) (item_rows p s first b 0 (count s.version b) t)) r.whole
      ∙ fine-items t (count s.version b) 0 (λ j from below. r.each j (omega arith))

-- THE CHECKS OF A BLOCK ARE ITS ROWS
pub checks-rows : (p : ℕ) (s : Start) (taken : ℕ) (down : Bool) (b : Block)
    → block_checks p s taken down b
    ≡ decided (row (leb (taken + count s.version b) s.items) 8 (block_rows p s (first_index down s taken b) b none)) (answered (count s.version b))
unfolding block_checks
checks-rows p s taken down b =
    let first = first_index down s taken b in
    same_row (leb (taken + count s.version b) s.items) 8 _ _ _
    (same_row (is_of_kind s b) 10 _ _ _ (same_row (is_whole s.version b) (torn_number b) _ _ _ (items-checked p s first b none _ _ refl (count s.version b) 0))
    ∙ ap (λ t. decided t (answered (count s.version b))) (sym (rows-so p s first b none)))
