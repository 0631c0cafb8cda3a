-- Each call: its checks in document 01's order (turn, then numbers), then what it does.
use Rattle.std.specs.Prelude.{ℕ, ◌*◌, Bool, true, false, cond, not, ◌&&◌, List, eqb, ltb, ℤ, length}
use Rattle.refusal.specs.Number as number
use Rattle.refusal.specs.Outcome.{Outcome, answered, refused, refused_at, require}
use Rattle.field.specs.Number.{is_reduced, is_nonzero}
use Rattle.field.specs.Integer.{image}
use Rattle.field.specs.Total.{in_limits}
use Rattle.vector.specs.Slice.{all_reduced}
use Rattle.item.specs.declared.Given.{Given}
use Rattle.item.specs.declared.Item.{Item}
use Rattle.item.specs.Start.{logs_fit}
use Rattle.item.specs.Item.{parts_of}
use Rattle.verifier.specs.declared.Verifier.{Verifier}
use Rattle.verifier.specs.Records.{Replied, Finding, OpeningFinding}
use Rattle.verifier.specs.WellFormed.{well_formed}
use Rattle.verifier.specs.Sums.{takes}
use Rattle.verifier.specs.Claims.{message_of3, closes, hears, finds}
use Rattle.verifier.specs.Openings.{opening_finds}
use Rattle.verifier.specs.Batch.{batch_finds}

-- a record that a call returned, with its pass open
unfoldable pub pass_open : Verifier → Bool
pass_open v = cond (well_formed v) (not v.closed) false

-- what an item contributes goes on to, or its refusal
abbrev pub with_parts : Outcome Item → (Item → Replied) → Outcome Replied
with_parts (answered x) rest = answered (rest x)
with_parts (refused k) rest = refused k
with_parts (refused_at k i) rest = refused_at k i

-- an item of either kind: the pass is open (10) and an item is wanted (8); then its own checks, 10, 5 with its index, 16
unfoldable pub give : ℕ → Verifier → Given → Outcome Replied
give p v given =
    require (pass_open v) number.order
    (require (ltb v.taken v.start.items) number.items
    (with_parts (parts_of p v.start v.taken given) (takes p v)))

-- the total is tested against its limits before it is taken modulo p
unfoldable pub close : ℕ → Verifier → ℤ → Outcome Replied
close p v total =
    require (pass_open v) number.order
    (require (eqb v.taken v.start.items) number.items
    (require v.start.plain number.order (require (in_limits p total) number.total (answered (closes v (image p total))))))

unfoldable pub close_claim : ℕ → Verifier → ℕ → Outcome Replied
close_claim p v claim =
    require (pass_open v) number.order
    (require (eqb v.taken v.start.items) number.items
    (require (not v.start.plain) number.order (require (is_reduced p claim) number.number (answered (closes v claim)))))

-- 12 where the message is "before its pass is closed", "after the last or after a no"
unfoldable pub message_turn : Verifier → Bool
message_turn v = cond v.closed (cond v.failed false (ltb v.round v.start.rounds)) false

unfoldable pub all_reduced3 : ℕ → ℕ → ℕ → ℕ → Bool
all_reduced3 p even cross odd = cond (is_reduced p even) (cond (is_reduced p cross) (is_reduced p odd) false) false

unfoldable pub message : ℕ → Verifier → ℕ → ℕ → ℕ → Outcome Replied
message p v even cross odd =
    require (well_formed v) number.order
    (require (message_turn v) number.turn
    (require (all_reduced3 p even cross odd) number.number (answered (hears p v (message_of3 even cross odd)))))

-- 12 where the verdict is asked for "before its pass is closed", or "before the last message without a no"
unfoldable pub verdict_turn : Verifier → Bool
verdict_turn v = cond v.closed (cond v.failed true (eqb v.round v.start.rounds)) false

unfoldable pub verdict : ℕ → Verifier → Outcome Finding
verdict p v = require (well_formed v) number.order (require (verdict_turn v) number.turn (answered (finds p v)))

-- with n = 0 there are no openings
unfoldable pub has_rounds : Verifier → Bool
has_rounds v = cond (well_formed v) (ltb 0 v.start.rounds) false

unfoldable pub check_opening : ℕ → Verifier → ℕ → List ℕ → Outcome OpeningFinding
check_opening p v b values =
    require (has_rounds v) number.order
    (require (is_nonzero p b) number.argument
    (require (eqb (length values) (6 * v.start.rounds)) number.argument
    (require (all_reduced p (length values) values) number.number (answered (opening_finds p v b values)))))

-- document 02, (a): "told how many logs and given one such value for each (else 6)"; the combined vector's values are three for each j
abbrev pub batch_lengths : Verifier → ℕ → List ℕ → List ℕ → Bool
batch_lengths v m values logs = eqb (length values) (3 * v.start.rounds) && eqb (length logs) m

-- 17 for the number of logs, "before 10 for n = 0 and any number handed in"
unfoldable pub check_batch : ℕ → Verifier → ℕ → ℕ → ℕ → List ℕ → List ℕ → Outcome Finding
check_batch p v m z b values logs =
    require (logs_fit m) number.logs
    (require (has_rounds v) number.order
    (require (is_nonzero p z) number.argument
    (require (is_nonzero p b) number.argument
    (require (batch_lengths v m values logs) number.argument
    (require (all_reduced p (length values) values) number.number
    (require (all_reduced p (length logs) logs) number.number (answered (batch_finds p v z b values logs))))))))
