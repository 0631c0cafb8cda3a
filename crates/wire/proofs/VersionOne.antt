-- "A version 1 log answers as before": document 01's reader and accessor, and that they answer for every file that is not of version 2.
use Rattle.std.specs.Prelude.{Option}
use mathlib.Core.Path.{◌≡◌, refl, ap, ◌∙◌}
use mathlib.Core.Bool.{Bool, true, false, ◌&&◌, ◌||◌}
use mathlib.Core.List.{List}
use Prim.Native.Nat.{ℕ, zero, suc, ◌+◌, ◌*◌}
use lib.Dec.{leb, eqb}
use lib.ListN.{length}
use borrow.Author.Tests.{eqb-true, ne_eqb}
use Rattle.refusal.specs.Number as number
use Rattle.refusal.specs.Limit.{max_items, max_weight}
use Rattle.refusal.specs.Outcome.{Outcome, answered, require, require_at, require_all, and_then}
use Rattle.field.specs.Total.{Item}
use Rattle.item.specs.Version.{is_fine}
use Rattle.wire.specs.Number.{num_at, signed}
use Rattle.wire.specs.Found.{found_if}
use Rattle.wire.specs.Header.{marked, version_of, require_header}
use Rattle.wire.specs.Layout.{require_item}
use Rattle.wire.specs.Log.{Head, log_count, read_log_within, read_log, log_item}
use Rattle.wire.proofs.Layouts.{two_fits}

-- document 01's log: version 1, "then L items of four bytes", "Length 7 + 4L", and 5 alone
abbrev pub require_item_one : {A : Type 0} → List ℕ → ℕ → Outcome A → Outcome A
require_item_one file i rest = require_at (leb (num_at 2 file (7 + 4 * i + 2)) max_weight) number.weight i rest

unfoldable pub read_log_one : List ℕ → Outcome ℕ
read_log_one file =
    require_header 76 7 file
    (require (leb 1 (log_count file) && leb (log_count file) max_items) number.count
    (require (eqb (length file) (7 + 4 * log_count file)) number.size
    (require_all (require_item_one file) 0 (log_count file)
    (answered (log_count file)))))

abbrev pub log_item_one : List ℕ → ℕ → Option Item
log_item_one file i =
    found_if (leb (7 + 4 * (i + 1)) (length file)) (record { reading = signed 2 (num_at 2 file (7 + 4 * i)); weight = num_at 2 file (7 + 4 * i + 2) })

-- a good log of version 1
abbrev one : ℕ → Outcome Head
one count = answered (record { count = count; version = 1 })

module _ (file : List ℕ) (other : version_of file ≡ 2 → ⊥) where
  old : is_fine (version_of file) ≡ false
  old = ne_eqb (version_of file) 2 other

  same_item : {A : Type 0} (i : ℕ) (later : Outcome A) → require_item (version_of file) file 7 i later ≡ require_item_one file i later
  same_item i later = rw (old, two_fits (version_of file) (num_at 2 file (7 + 4 * i)) old)

  -- the items, and what is answered after them
  same-items : (count n i : ℕ)
      → require_all (require_item (version_of file) file 7) i n (one count) ≡ and_then (require_all (require_item_one file) i n (answered count)) one
  unfolding require_all
  same-items count zero i = refl
  same-items count (suc n) i = same_item i _ ∙ by (leb (num_at 2 file (7 + 4 * i + 2)) max_weight) _ _ (same-items count n (suc i))
    where
      by : (t : Bool) (r : Outcome Head) (s : Outcome ℕ) → r ≡ and_then s one
          → require_at t number.weight i r ≡ and_then (require_at t number.weight i s) one
      by true r s e = e
      by false r s e = refl

  -- the rows before the items
  rows : (m a c d : Bool) (its : Outcome Head) (its_one : Outcome ℕ) → (a ≡ true → its ≡ and_then its_one one)
      → require m number.header (require (a || false) number.version (require c number.count (require d number.size its)))
      ≡ and_then (require m number.header (require a number.version (require c number.count (require d number.size its_one)))) one
  rows true true true true its its_one e = e refl
  rows true true true false its its_one e = refl
  rows true true false d its its_one e = refl
  rows true false c d its its_one e = refl
  rows false a c d its its_one e = refl

  pub version-one : read_log file ≡ and_then (read_log_one file) one
  unfolding read_log_within read_log_one
  version-one =
      rw old
      (rows (marked 76 7 file) (eqb (version_of file) 1) (leb 1 (log_count file) && leb (log_count file) max_items)
      (eqb (length file) (7 + 4 * log_count file)) _ _
      (λ v.
      ap (λ n. require_all (require_item (version_of file) file 7) 0 (log_count file) (answered (record { count = log_count file; version = n })))
      (eqb-true (version_of file) 1 v)
      ∙ same-items (log_count file) (log_count file) 0))

  pub version-one-item : (i : ℕ) → log_item file i ≡ log_item_one file i
  unfolding log_item
  version-one-item i = rw old
