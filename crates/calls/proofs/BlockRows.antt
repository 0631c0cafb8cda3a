-- The checks of a block are its rows, over any records that stand for a state; and what the rows say of its items.
use mathlib.Core.Path.{◌≡◌, refl, sym, ap, ◌∙◌}
use mathlib.Core.Bool.{Bool, true, false, cond, not, ◌&&◌}
use mathlib.Core.Logic.{⊎_elim}
use mathlib.Core.Option.{Option, none}
use Prim.Native.Nat.{ℕ, zero, suc, ◌+◌, ◌-◌, ◌%◌, ◌≤◌, ◌<◌}
use native.Mathlib.Nat.{eq-or-lt_of_le}
use native.Mathlib.Omega.{arith}
use lib.Dec.{eqb, leb, ltb}
use lib.ListN.{length}
use borrow.Author.Tests.{le-leb, leb-true}
use Rattle.refusal.specs.Limit.{max_weight}
use Rattle.refusal.specs.Outcome.{Outcome, answered, require, require_at, require_all, and_then}
use Rattle.item.specs.declared.Start.{Start}
use Rattle.item.specs.declared.Given.{Given}
use Rattle.item.specs.declared.Given.TheVariants.{Reading, Numbers}
use Rattle.item.specs.Version.{item_size}
use Rattle.item.specs.Mark.{reading_fits}
use Rattle.item.specs.Item.{contributes, parts_of}
use Rattle.block.specs.Block.{Block, count, item_at, is_whole, torn_number}
use Rattle.block.specs.Checks.{is_of_kind, passing, block_checks}
use Rattle.phase.specs.declared.Kind.{Kind}
use Rattle.phase.specs.Cases.{is_open}
use Rattle.prover.specs.declared.Run.{Run}
use Rattle.pass.specs.declared.Pass.{Pass}
use Rattle.prover.specs.Records.{Out}
use Rattle.prover.specs.WellFormed.{well_formed}
use Rattle.prover.specs.Calls.{places_there}
use Rattle.prover.proofs.BlockLaws.{items-rows}
use Rattle.prover.specs.Blocks.{takes_all, items_call}
use Rattle.calls.specs.Step.{Lent}
use Rattle.calls.specs.State.{State}
use Rattle.calls.specs.Table.{Refusal, decided, row, row_at, given_rows, place_row}
use Rattle.calls.specs.Blocks.{item_rows, whole_row, block_rows, block_table}
use Rattle.calls.proofs.Records.{Notes, run_of}
use Rattle.calls.proofs.Guards.{like_row, open_test, place-there}
use Rattle.calls.proofs.Steps.{some_none, row-passed}
use Rattle.calls.proofs.LiveTable.{row-free}

-- a check of a block beside a row
block_row : (b : Bool) (k : ℕ) (later : Outcome ℕ) (rest : ℕ → Outcome Out) (t : Option Refusal) (o : Outcome Out) → and_then later rest ≡ decided t o
    → and_then (require b k later) rest ≡ decided (row b k t) o
block_row true k later rest t o e = e
block_row false k later rest t o e = refl

-- no whole items
whole_row_lem : (plain x y : Bool) (t : Option Refusal) → row (cond plain x y) (cond plain 4 16) t ≡ cond plain (row x 4 t) (row y 16 t)
whole_row_lem true x y t = refl
whole_row_lem false x y t = refl

-- what an item's own rows let through
abbrev pub Passes : ℕ → Start → Given → Type 0
Passes p s x = (i : ℕ) (t : Option Refusal) → given_rows p s i x t ≡ t

module _ (p : ℕ) (s : Start) where
  given-row : (x : Given) (i : ℕ) (later : Outcome ℕ) (rest : ℕ → Outcome Out) (t : Option Refusal) (o : Outcome Out) → and_then later rest ≡ decided t o
      → and_then (passing (parts_of p s i x) later) rest ≡ decided (given_rows p s i x t) o
  unfolding parts_of
  given-row (Reading z w) i later rest t o e = by s.plain (leb w max_weight) (reading_fits s.version z)
    where
      by : (plain fits ranged : Bool)
          → and_then (passing (require plain 10 (require_at fits 5 i (require_at ranged 18 i (answered (contributes p s (Reading z w)))))) later) rest
          ≡ decided (row plain 10 (row_at fits 5 i (row_at ranged 18 i t))) o
      by false fits ranged = refl
      by true false ranged = refl
      by true true false = refl
      by true true true = e
  given-row (Numbers x y) i later rest t o e = by (not s.plain) (ltb x p && ltb y p)
    where
      by : (twisted fine : Bool)
          → and_then (passing (require twisted 10 (require fine 16 (answered (contributes p s (Numbers x y))))) later) rest ≡ decided (row twisted 10 (row fine 16 t)) o
      by false fine = refl
      by true false = refl
      by true true = e

  pub given-passes : (x : Given) (i : ℕ) (t : Option Refusal) → given_rows p s i x t ≡ none → Passes p s x × (t ≡ none)
  given-passes (Reading z w) i t = by s.plain (leb w max_weight) (reading_fits s.version z)
    where
      by : (plain fits ranged : Bool) → row plain 10 (row_at fits 5 i (row_at ranged 18 i t)) ≡ none
          → ((i : ℕ) (t : Option Refusal) → row plain 10 (row_at fits 5 i (row_at ranged 18 i t)) ≡ t) × (t ≡ none)
      by false fits ranged e = absurd (some_none e)
      by true false ranged e = absurd (some_none e)
      by true true false e = absurd (some_none e)
      by true true true e = (λ i t. refl, e)
  given-passes (Numbers x y) i t = by (not s.plain) (ltb x p && ltb y p)
    where
      by : (twisted fine : Bool) → row twisted 10 (row fine 16 t) ≡ none → ((i : ℕ) (t : Option Refusal) → row twisted 10 (row fine 16 t) ≡ t) × (t ≡ none)
      by false fine e = absurd (some_none e)
      by true false e = absurd (some_none e)
      by true true e = (λ i t. refl, e)

  module _ (first : ℕ) (b : Block) where
    items-row : (n i : ℕ) (later : Outcome ℕ) (rest : ℕ → Outcome Out) (t : Option Refusal) (o : Outcome Out) → and_then later rest ≡ decided t o
        → and_then (require_all (λ j later. passing (parts_of p s (first + j) (item_at s.version b j)) later) i n later) rest ≡ decided (item_rows p s first b i n t) o
    unfolding require_all item_rows
    items-row zero i later rest t o e = e
    items-row (suc n) i later rest t o e =
        given-row (item_at s.version b i) (first + i) _ rest (item_rows p s first b (suc i) n t) o (items-row n (suc i) later rest t o e)

    -- every item of the rows is let through
    items-pass : (n i : ℕ) (t : Option Refusal) → item_rows p s first b i n t ≡ none → ((j : ℕ) → i ≤ j → j < i + n → Passes p s (item_at s.version b j)) × (t ≡ none)
    unfolding item_rows
    items-pass zero i t e = (λ j l h. absurd (omega arith), e)
    items-pass (suc n) i t e =
        let here = given-passes (item_at s.version b i) (first + i) (item_rows p s first b (suc i) n t) e in
        let there = items-pass n (suc i) t here.1 in
        (λ j l h. ⊎_elim (λ (q : i ≡ j). rw (← q) here.0) (λ (q : i < j). there.0 j q (omega arith)) (eq-or-lt_of_le l), there.1)

    items-free : (n i : ℕ) (t : Option Refusal) → ((j : ℕ) → i ≤ j → j < i + n → Passes p s (item_at s.version b j)) → item_rows p s first b i n t ≡ t
    unfolding item_rows
    items-free zero i t h = refl
    items-free (suc n) i t h =
        h i (omega arith) (omega arith) (first + i) (item_rows p s first b (suc i) n t)
        ∙ items-free n (suc i) t (λ j l m. h j (omega arith) (omega arith))

  -- the checks of a block, where n items were taken
  checks-row : (b : Block) (n : ℕ) (rest : ℕ → Outcome Out) (t : Option Refusal) (o : Outcome Out) → rest (count s.version b) ≡ decided t o
      → and_then (block_checks p s n true b) rest ≡ decided (row (leb (n + count s.version b) s.items) 8 (block_rows p s (s.items - n - count s.version b) b t)) o
  unfolding block_checks
  checks-row b n rest t o e =
      let first : ℕ = s.items - n - count s.version b in
      let rows : Option Refusal = item_rows p s first b 0 (count s.version b) t in
      let own : Outcome ℕ = require_all (λ j later. passing (parts_of p s (first + j) (item_at s.version b j)) later) 0 (count s.version b) (answered (count s.version b)) in
      let torn : and_then (require (is_whole s.version b) (torn_number b) own) rest ≡ decided (whole_row s.version b rows) o =
      block_row (is_whole s.version b) (torn_number b) own rest rows o (items-row first b (count s.version b) 0 (answered (count s.version b)) rest t o e)
      ∙ ap (λ t. decided t o) (whole_row_lem b.plain (eqb (length b.bytes % item_size s.version) 0) (eqb (length b.first) (length b.second)) rows) in
      block_row (leb (n + count s.version b) s.items) 8 (require (is_of_kind s b) 10 (require (is_whole s.version b) (torn_number b) own)) rest (block_rows p s first b t) o
      (block_row (is_of_kind s b) 10 (require (is_whole s.version b) (torn_number b) own) rest (whole_row s.version b rows) o torn)

  -- a block of the run's kind
  of_kind_lem : (b : Block) (v j : ℕ) → Passes p s (item_at v b j) → cond b.plain s.plain (not s.plain) ≡ true
  of_kind_lem b v j = by b.plain
    where
      by : (plain : Bool) → Passes p s (cond plain (item_at v (record { plain = true; bytes = b.bytes; first = b.first; second = b.second }) j) (item_at v (record { plain = false; bytes = b.bytes; first = b.first; second = b.second }) j))
          → cond plain s.plain (not s.plain) ≡ true
      by true h = (row-passed s.plain 10 _ (h 0 none)).0
      by false h = (row-passed (not s.plain) 10 _ (h 0 none)).0

-- m items of a block, read by version v, that a pass of this kind with n items taken lets through
pub record Admits (p : ℕ) (s : Start) (k : Kind) (n v : ℕ) (b : Block) (m : ℕ) : Type 0 where
  pub opened : is_open k ≡ true
  pub wanted : n + m ≤ s.items
  pub each : (j : ℕ) → j < m → Passes p s (item_at v b j)

module _ (p : ℕ) (a : State) (b : Block) (l : Lent) where
  abbrev first : ℕ
  first = a.start.items - length a.pass.items - count a.start.version b

  pub block-admits : block_table p a b l ≡ none → Admits p a.start a.pass.kind (length a.pass.items) a.start.version b (count a.start.version b) × (place_row a l ≡ none)
  unfolding block_table
  block-admits e =
      let q = row-passed (is_open a.pass.kind) 10 _ e in
      let u = row-passed (leb (length a.pass.items + count a.start.version b) a.start.items) 8 _ q.1 in
      let v = row-passed (cond b.plain a.start.plain (not a.start.plain)) 10 _ u.1 in
      let x = row-passed (is_whole a.start.version b) (torn_number b) _ (whole_row_lem b.plain _ _ _ ∙ v.1) in
      let y = items-pass p a.start first b (count a.start.version b) 0 (place_row a l) x.1 in
      (record { opened = q.0; wanted = leb-true _ _ u.0; each = λ j h. y.0 j (omega arith) (omega arith) }, y.1)

  pub block-free : Admits p a.start a.pass.kind (length a.pass.items) a.start.version b (count a.start.version b) → 0 < count a.start.version b → is_whole a.start.version b ≡ true → place_row a l ≡ none → block_table p a b l ≡ none
  unfolding block_table
  block-free h some whole place =
      let rest : item_rows p a.start first b 0 (count a.start.version b) (place_row a l) ≡ none =
      items-free p a.start first b (count a.start.version b) 0 (place_row a l) (λ j _ m. h.each j (omega arith)) ∙ place in
      row-free _ 10 _ h.opened
      (row-free _ 8 _ (le-leb _ _ h.wanted)
      (row-free _ 10 _ (of_kind_lem p a.start b a.start.version 0 (h.each 0 some))
      (sym (whole_row_lem b.plain _ _ _) ∙ row-free (is_whole a.start.version b) (torn_number b) _ whole rest)))

module _ (p : ℕ) (a : State) (past : Notes) (few : a.start.rounds ≤ 15) (s : Pass) (wf : well_formed p (run_of a past) s ≡ true) (kind : s.kind ≡ a.pass.kind)
    (taken : s.taken ≡ length a.pass.items) where
  abbrev R : Run
  R = run_of a past

  -- THE CHECKS OF A BLOCK
  pub block-decided : (b : Block) (l : Lent)
      → items_call p R s b l.f l.g ≡ decided (block_table p a b l) (answered (takes_all p R b (count a.start.version b) s l.f l.g))
  unfolding block_table
  block-decided b l =
      let o : Outcome Out = answered (takes_all p R b (count a.start.version b) s l.f l.g) in
      let rest : ℕ → Outcome Out = λ m. require (places_there R s (length l.f) (length l.g)) 9 (answered (takes_all p R b m s l.f l.g)) in
      items-rows p R s b l.f l.g
      ∙ like_row _ _ 10 _ _ _ (open_test p a past few s wf kind taken)
      (ap (λ n. and_then (block_checks p a.start n true b) rest) taken
      ∙ checks-row p a.start b (length a.pass.items) rest (place_row a l) o (like_row _ _ 9 _ none o (place-there p a past few s wf kind taken l) refl))
