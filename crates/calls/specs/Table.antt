-- Document 01, "Refused, by place", for the calls of a run: over the state and what the call itself is given. No record is read.
use Rattle.std.specs.Prelude.{ℕ, ◌+◌, ◌-◌, ◌/◌, ◌^◌, Bool, cond, not, ◌&&◌, ◌||◌, eqb, leb, ltb, length}
use Rattle.std.proofs.Math.Option.{Option, none, some}
use Rattle.refusal.specs.Limit.{max_weight}
use Rattle.refusal.specs.Outcome.{Outcome, refused, refused_at}
use Rattle.field.specs.Total.{in_limits}
use Rattle.wire.specs.Proof.{proof_size}
use Rattle.vector.specs.Rounds.{size}
use Rattle.vector.specs.Slice.{all_reduced, is_nonzero}
use Rattle.item.specs.Version.{in_range}
use Rattle.item.specs.Mark.{is_mark}
use Rattle.item.specs.declared.Start.{Start}
use Rattle.item.specs.declared.Given.{Given}
use Rattle.item.specs.declared.Given.TheVariants.{Reading, Numbers}
use Rattle.phase.specs.declared.Mode.{Mode}
use Rattle.phase.specs.declared.Next.{Next}
use Rattle.phase.specs.declared.Next.TheVariants as next
use Rattle.phase.specs.Cases.{is_full, is_small, is_open, is_change, waits}
use Rattle.runs.specs.Trip.{sum_of}
use Rattle.calls.specs.declared.Call.{Call}
use Rattle.calls.specs.declared.Call.TheVariants as call
use Rattle.calls.specs.Step.{Lent}
use Rattle.calls.specs.State.{State}

-- "It carries its number and, for 5 and 13 to 15, the index"; so does 18
abbrev pub Refusal : Type 0
Refusal = ℕ × Option ℕ

-- "Within a place the checks run downward": the number where a check fails, else what follows
abbrev pub row : Bool → ℕ → Option Refusal → Option Refusal
row ok k rest = cond ok rest (some (k, none))

abbrev pub row_at : Bool → ℕ → ℕ → Option Refusal → Option Refusal
row_at ok k i rest = cond ok rest (some (k, some i))

-- what such a number makes of an outcome
abbrev pub refused_with : {A : Type 0} → ℕ → Option ℕ → Outcome A
refused_with k none = refused k
refused_with k (some i) = refused_at k i

abbrev pub decided : {A : Type 0} → Option Refusal → Outcome A → Outcome A
decided none o = o
decided (some k) o = refused_with k.0 k.1

-- in small mode, a pass for what is next: openings have a call of their own
abbrev pub pass_waits : Mode → Next → Bool
pass_waits m t = is_small m && (waits next.Total t || (waits next.Message t || waits next.Ends t))

-- "openings .. with n = 0" are refused
abbrev pub openings_next : Next → ℕ → Bool
openings_next t n = waits next.Openings t && ltb 0 n

-- where the mode may change: "Before any later pass (round, ends, openings)"; "a change after the ends, with n = 0" is refused
abbrev pub changes_next : Next → ℕ → Bool
changes_next t n = waits next.Message t || (waits next.Ends t || openings_next t n)

-- "a small run may change to full"; document 02, (c): "Full to small .. is answered before any pass"
abbrev pub change_waits : Mode → Next → ℕ → Bool
change_waits m t n = is_small m && changes_next t n

abbrev pub return_waits : Mode → Next → ℕ → Bool
return_waits m t n = is_full m && changes_next t n

-- before message i and its challenge fold i, before the ends fold n, and after them the last of the three
abbrev pub level_now : ℕ → ℕ → ℕ → Next → ℕ
level_now n i last next.Total = 0
level_now n i last next.Message = i
level_now n i last next.Challenge = i
level_now n i last next.Ends = n
level_now n i last next.Openings = last

-- the current fold, which is fold 0 after the ends
abbrev pub level : State → ℕ
level a = level_now a.start.rounds (length a.turn.challenges) 0 a.turn.next

-- "For round i it folds to level i ..; The passes for ends and openings use i = n"
abbrev pub pass_level : State → ℕ
pass_level a = level_now a.start.rounds (length a.turn.challenges) a.start.rounds a.turn.next

-- how long the current fold is
abbrev pub long : State → ℕ
long a = size a.start.rounds (level a)

-- "Items taken, t in number, are the padding and the items answered since the pass was opened"
abbrev pub taken : State → ℕ
taken a = 2 ^ a.start.rounds - a.start.items + length a.pass.items

-- a change pass has completed the last t/2^i items of fold i after t of them
abbrev pub completed : State → ℕ → ℕ
completed a t = t / 2 ^ level a

-- 9: "shorter than the fold"
abbrev pub both_long : State → Lent → Bool
both_long a l = leb (long a) (length l.f) && leb (long a) (length l.g)

-- 16: "in the places a full-mode call reads, a number P or more", after the buffer's length
abbrev pub read_rows : ℕ → State → Lent → Option Refusal
read_rows p a l = row (both_long a l) 9 (row (all_reduced p (long a) l.f && all_reduced p (long a) l.g) 16 none)

-- an item of the other kind of run is not next; "weight over 1,440", then a reading "outside its version's range", with the index i, the
-- mark "looked for before 18"; a number "P or more"
abbrev pub given_rows : ℕ → Start → ℕ → Given → Option Refusal → Option Refusal
given_rows p s i (Reading r w) rest = row s.plain 10 (row_at (leb w max_weight) 5 i (row_at (is_mark s.version r || in_range s.version r) 18 i rest))
given_rows p s i (Numbers x y) rest = row (not s.plain) 10 (row (ltb x p && ltb y p) 16 rest)

-- only a change pass has the buffers
abbrev pub place_row : State → Lent → Option Refusal
place_row a l = row (not (is_change a.pass.kind) || both_long a l) 9 none

-- 7: "plain total outside its limits", where the pass is the total's
abbrev pub total_fits : ℕ → State → Bool
total_fits p a = not (waits next.Total a.turn.next && a.start.plain) || in_limits p (sum_of a.start a.pass.items)

-- THE TABLE: none where the call is answered
unfoldable pub table : ℕ → State → Call → Lent → Option Refusal
table p a call.OpenPass l = row (pass_waits a.turn.mode a.turn.next) 10 none
table p a (call.OpenAt b) l = row (is_small a.turn.mode && openings_next a.turn.next a.start.rounds) 10 (row (is_nonzero p b) 6 none)
table p a call.ToFull l = row (change_waits a.turn.mode a.turn.next a.start.rounds) 10 (row (both_long a l) 9 none)
table p a call.ToSmall l = row (return_waits a.turn.mode a.turn.next a.start.rounds) 10 none
-- "item or close with no pass open"; "item beyond L"
table p a (call.Give x) l =
    row (is_open a.pass.kind) 10
    (row (ltb (length a.pass.items) a.start.items) 8
    (given_rows p a.start (a.start.items - 1 - length a.pass.items) x (place_row a l)))
table p a call.Close l =
    row (is_open a.pass.kind) 10 (row (eqb (length a.pass.items) a.start.items) 8 (row (total_fits p a) 7 none))
table p a call.Message l = row (is_full a.turn.mode && waits next.Message a.turn.next) 10 (read_rows p a l)
table p a (call.Challenge c) l =
    row (waits next.Challenge a.turn.next) 10 (row (is_nonzero p c) 6 (cond (is_full a.turn.mode) (read_rows p a l) none))
table p a call.Ends l = row (is_full a.turn.mode && waits next.Ends a.turn.next) 10 (read_rows p a l)
table p a (call.Opening b) l =
    row (is_full a.turn.mode && openings_next a.turn.next a.start.rounds) 10 (row (is_nonzero p b) 6 (read_rows p a l))
table p a call.WriteProof l =
    row (a.start.plain && waits next.Openings a.turn.next) 10 (row (leb (proof_size a.start.rounds) (length l.file)) 9 none)
