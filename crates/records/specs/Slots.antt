-- Ops 60 and 61 of the replay tool.
use Rattle.std.specs.Prelude.{ℕ, ◌+◌, ◌*◌, cond, List, Result, Ok, Err, eqb, leb, ltb, get_or, replicate, set, take, drop, ⊤}
use Rattle.records.specs.declared.Record.{Record}
use Rattle.records.specs.declared.Fault.{Fault}
use Rattle.records.specs.declared.Fault.TheVariants.{Bad, Full}
use Rattle.records.specs.declared.slots.Slots.{Slots}

-- "256 bytes each"
abbrev pub slot_room : ℕ
slot_room = 256

-- "slots are empty .. at first"
abbrev pub no_slots : Slots
no_slots = record { bytes = replicate (8 * slot_room) 0; sizes = replicate 8 0 }

-- "256 bytes each": how many of them a slot has; none where there is no such slot
abbrev pub size_of : Slots → ℕ → ℕ
size_of s slot = get_or s.sizes slot 0

-- "the bytes of slot a": its first ones, as many as it has
abbrev pub slot_in : ℕ → Slots → List ℕ
slot_in slot s = take (size_of s slot) (drop (slot * slot_room) s.bytes)

-- what the tool keeps, and what it "prints"
abbrev pub Filled : Type 0
Filled = Slots × Result ⊤ Fault

abbrev pub saying : Slots → Result ⊤ Fault → Filled
saying s said = (s, said)

-- 60: "empty slot a"
abbrev pub emptied : Slots → ℕ → Slots
emptied s slot = record { bytes = s.bytes; sizes = set s.sizes slot 0 }

-- 61: "append byte b to slot a"
abbrev pub appended : Slots → ℕ → ℕ → Slots
appended s slot byte =
    record { bytes = set s.bytes (slot * slot_room + size_of s slot) byte; sizes = set s.sizes slot (size_of s slot + 1) }

-- 61: "`tool bad` if .. b > 255, `tool full` at 256"
abbrev pub appends : Slots → ℕ → ℕ → Filled
appends s slot byte =
    cond (leb byte 255) (cond (ltb (size_of s slot) slot_room) (saying (appended s slot byte) (Ok tt)) (saying s (Err Full)))
    (saying s (Err Bad))

-- ops 60 and 61, "`tool bad` if a > 7"; "an unknown op `tool bad`"
abbrev pub fills : Slots → Record → Filled
fills s r =
    cond (leb r.a 7)
    (cond (eqb r.op 60) (saying (emptied s r.a) (Ok tt)) (cond (eqb r.op 61) (appends s r.a r.b) (saying s (Err Bad))))
    (saying s (Err Bad))
