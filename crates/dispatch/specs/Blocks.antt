-- Ops 26, 27, 43 and 44 of the replay tool: the block of items that a record names.
use Rattle.std.specs.Prelude.{ℕ, ◌+◌, Bool, cond, ◌||◌, eqb, leb, length, take, drop}
use Rattle.block.specs.Block.{Block, of_bytes, of_numbers}
use Rattle.records.specs.declared.Record.{Record}
use Rattle.records.specs.declared.lists.Lists.{Lists}
use Rattle.records.specs.declared.slots.Slots.{Slots}
use Rattle.records.specs.Lists.{numbers_in}
use Rattle.records.specs.Slots.{slot_in}

-- 26, 43: "the bytes of slot a .. as a block"
abbrev pub slot_block : Slots → ℕ → Block
slot_block s k = of_bytes (slot_in k s)

-- 27, 44: "the first a numbers of the scratch list, and the next b of it"
abbrev pub parts_block : Lists → ℕ → ℕ → Block
parts_block l a b = of_numbers (take a (numbers_in l)) (take b (drop a (numbers_in l)))

-- "26, 43 | items", and not "27, 44 | field_items"
abbrev pub names_slot : Record → Bool
names_slot r = eqb r.op 26 || eqb r.op 43

-- the block of either
abbrev pub block_named : Lists → Slots → Record → Block
block_named l s r = cond (names_slot r) (slot_block s r.a) (parts_block l r.a r.b)

-- "`tool bad` if a > 7"; "`tool bad` if it has fewer than a + b"
abbrev pub block_fits : Lists → Record → Bool
block_fits l r = cond (names_slot r) (leb r.a 7) (leb (r.a + r.b) (length (numbers_in l)))
