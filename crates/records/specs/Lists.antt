-- Ops 1 to 4 and 41 of the replay tool: the scratch list, how much of the buffers is lent, and a place of a buffer.
use Rattle.std.specs.Prelude.{ℕ, ◌+◌, Bool, cond, ◌&&◌, List, Result, Ok, Err, eqb, leb, ltb, replicate, set, take, ⊤}
use Rattle.records.specs.declared.Record.{Record}
use Rattle.records.specs.declared.Fault.{Fault}
use Rattle.records.specs.declared.Fault.TheVariants.{Bad, Full}
use Rattle.records.specs.declared.lists.Lists.{Lists}

-- "two buffers f and g of 4,096 places"
abbrev pub places : ℕ
places = 4096

-- "a scratch list of up to 128 numbers"
abbrev pub room : ℕ
room = 128

-- "how many first places of each it lends (0 at first)"; the scratch list is empty; "op 41's number is 0 at first"
abbrev pub no_lists : Lists
no_lists = record { flent = 0; glent = 0; scratch = replicate room 0; held = 0; opened = 0 }

-- "a scratch list of up to 128 numbers": the first of its places, as many as it has numbers
abbrev pub numbers_in : Lists → List ℕ
numbers_in l = take l.held l.scratch

-- what the tool keeps, and what it "prints"
abbrev pub Kept : Type 0
Kept = Lists × Result ⊤ Fault

abbrev pub saying : Lists → Result ⊤ Fault → Kept
saying l said = (l, said)

-- 1: "empty the scratch list"
abbrev pub emptied : Lists → Lists
emptied l = record { flent = l.flent; glent = l.glent; scratch = l.scratch; held = 0; opened = l.opened }

-- 2: "push a to the scratch list"
abbrev pub pushed : Lists → ℕ → Lists
pushed l a = record { flent = l.flent; glent = l.glent; scratch = set l.scratch l.held a; held = l.held + 1; opened = l.opened }

-- 2: "nothing; `tool full` at 128"
abbrev pub pushes : Lists → ℕ → Kept
pushes l a = cond (ltb l.held room) (saying (pushed l a) (Ok tt)) (saying l (Err Full))

-- 3: "lend a places of f and b of g from now on"
abbrev pub lent : Lists → ℕ → ℕ → Lists
lent l a b = record { flent = a; glent = b; scratch = l.scratch; held = l.held; opened = l.opened }

-- 3: "nothing; `tool bad` over 4,096"
abbrev pub lends : Lists → ℕ → ℕ → Kept
lends l a b = cond (leb a places && leb b places) (saying (lent l a b) (Ok tt)) (saying l (Err Bad))

-- 41: "how many first numbers of the scratch list are opening values from now on, a": "nothing; `tool bad` over 128"
abbrev pub splits : Lists → ℕ → Kept
splits l a =
    cond (leb a room) (saying (record { flent = l.flent; glent = l.glent; scratch = l.scratch; held = l.held; opened = a }) (Ok tt))
    (saying l (Err Bad))

-- 4: "if a > 1 or b >= 4,096", the place is not there
abbrev pub place_fits : Record → Bool
place_fits r = leb r.a 1 && ltb r.b places

-- 4: "nothing; `tool bad` if a > 1 or b >= 4,096"
abbrev pub place_says : Record → Result ⊤ Fault
place_says r = cond (place_fits r) (Ok tt) (Err Bad)

-- 4: "f (a = 0) or g (a = 1), place b, becomes c"
abbrev pub placed : ℕ → Record → List ℕ → List ℕ
placed buffer r xs = cond (place_fits r) (cond (eqb r.a buffer) (set xs r.b r.c) xs) xs

-- ops 1 to 4, and 41; "an unknown op `tool bad`"
abbrev pub keeps : Lists → Record → Kept
keeps l r =
    cond (eqb r.op 1) (saying (emptied l) (Ok tt))
    (cond (eqb r.op 2) (pushes l r.a)
    (cond (eqb r.op 3) (lends l r.a r.b)
    (cond (eqb r.op 4) (saying l (place_says r)) (cond (eqb r.op 41) (splits l r.a) (saying l (Err Bad))))))

-- "f (a = 0) or g (a = 1)": what buffer 0 or 1 holds after the op; only 4 writes one
abbrev pub buffer_after : ℕ → Record → List ℕ → List ℕ
buffer_after buffer r xs = cond (eqb r.op 4) (placed buffer r xs) xs
