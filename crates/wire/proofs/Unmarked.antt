-- Document 02, (d): a log without the mark is read as before, in either version.
use mathlib.Core.Path.{◌≡◌, refl, ap, ◌∙◌}
use mathlib.Core.Bool.{false, ◌&&◌}
use mathlib.Core.List.{List}
use Prim.Native.Nat.{ℕ, zero, suc, ◌+◌, ◌<◌}
use native.Mathlib.Omega.{arith}
use lib.Dec.{leb, eqb}
use lib.ListN.{length}
use Rattle.refusal.specs.Number as number
use Rattle.refusal.specs.Limit.{max_items}
use Rattle.refusal.specs.Outcome.{Outcome, answered, require, require_at, require_all}
use Rattle.item.specs.Version.{version_fits, in_range}
use Rattle.item.specs.Mark.{is_mark}
use Rattle.item.specs.Item.{is_light}
use Rattle.item.proofs.Marks.{fits-ranged}
use Rattle.wire.specs.Header.{marked, version_of}
use Rattle.wire.specs.Layout.{require_item}
use Rattle.wire.specs.Log.{Head, head_of, log_count, item_start, reading_of, weight_of, read_log_within, read_log}

-- no item of the log is marked
abbrev pub NoMark : List ℕ → Type 0
NoMark file = (i : ℕ) → i < log_count file → is_mark (version_of file) (reading_of file i) ≡ false

-- the reader that knows no mark: 18 for every reading outside its version's range
abbrev pub require_ordinary : {A : Type 0} → List ℕ → ℕ → Outcome A → Outcome A
require_ordinary file i rest =
    require_at (is_light (weight_of file i)) number.weight i (require_at (in_range (version_of file) (reading_of file i)) number.reading i rest)

unfoldable pub read_ordinary : List ℕ → Outcome Head
read_ordinary file =
    require (marked 76 7 file) number.header
    (require (version_fits (version_of file)) number.version
    (require (leb 1 (log_count file) && leb (log_count file) max_items) number.count
    (require (eqb (length file) (item_start file (log_count file))) number.size
    (require_all (require_ordinary file) 0 (log_count file)
    (answered (head_of file))))))

module _ (file : List ℕ) (none : NoMark file) where
  same_item : {A : Type 0} (i : ℕ) → i < log_count file → (later : Outcome A)
      → require_item (version_of file) file 7 i later ≡ require_ordinary file i later
  same_item i h later =
      ap (λ t. require_at (is_light (weight_of file i)) number.weight i (require_at t number.reading i later))
      (fits-ranged (version_of file) (reading_of file i) (none i h))

  same-items : {A : Type 0} (n i : ℕ) → i + n ≡ log_count file → (rest : Outcome A)
      → require_all (require_item (version_of file) file 7) i n rest ≡ require_all (require_ordinary file) i n rest
  unfolding require_all
  same-items zero i e rest = refl
  same-items (suc n) i e rest = same_item i (omega arith) _ ∙ ap (require_ordinary file i) (same-items n (suc i) (omega arith) rest)

  pub unmarked_log : read_log file ≡ read_ordinary file
  unfolding read_log_within read_ordinary
  unmarked_log =
      ap
      (λ its.
      require (marked 76 7 file) number.header
      (require (version_fits (version_of file)) number.version
      (require (leb 1 (log_count file) && leb (log_count file) max_items) number.count
      (require (eqb (length file) (item_start file (log_count file))) number.size its))))
      (same-items (log_count file) 0 (omega arith) (answered (head_of file)))
