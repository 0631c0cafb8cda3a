-- Document 01, "Lists of calls": "The mode, the open pass, what is next, the items taken and c_0.. follow from the start and the
-- answered calls alone".
use Rattle.std.specs.Prelude.{ℕ, Bool, cond, List, [], ◌∷◌, ◌++◌, length}
use Rattle.phase.specs.declared.Mode.{Mode}
use Rattle.phase.specs.declared.Mode.TheVariants.{Small, Full}
use Rattle.phase.specs.declared.Next.{Next}
use Rattle.phase.specs.declared.Next.TheVariants as next
use Rattle.phase.specs.declared.Kind.{Kind}
use Rattle.phase.specs.declared.Kind.TheVariants.{Shut, Asked, Change}
use Rattle.phase.specs.Cases.{is_full, is_change}
use Rattle.phase.specs.Order.{round_or_ends}
use Rattle.item.specs.declared.Start.{Start}
use Rattle.item.specs.declared.Given.{Given}
use Rattle.calls.specs.declared.Call.{Call}
use Rattle.calls.specs.declared.Call.TheVariants as call
use Rattle.calls.specs.Step.{Lent, Result, is_answered}

pub record Turn : Type 0 where
  pub mode : Mode
  pub next : Next
  -- c_0.. as they were taken; their number is the round
  pub challenges : List ℕ

-- the open pass, the point of an opening pass, and the items answered since it was opened, the newest first
pub record Taking : Type 0 where
  pub kind : Kind
  pub point : ℕ
  pub items : List Given

-- as the last answered call that had them left them
pub record Buffers : Type 0 where
  pub f : List ℕ
  pub g : List ℕ

pub record State : Type 0 where
  pub start : Start
  pub turn : Turn
  pub pass : Taking
  pub buffers : Buffers

abbrev pub no_pass : Taking
no_pass = record { kind = Shut; point = 0; items = [] }

-- "A fresh run is what an answered start gives: small, no pass open, its buffers holding anything"
abbrev pub fresh : Start → List ℕ → List ℕ → State
fresh s f g =
    record { start = s; turn = record { mode = Small; next = next.Total; challenges = [] }; pass = no_pass; buffers = record { f = f; g = g } }

-- a pass opened anew: "opening a pass anew drops the unfinished one"
abbrev pub in_pass : State → Kind → ℕ → List Given → State
in_pass a k b xs =
    record { start = a.start; turn = a.turn; pass = record { kind = k; point = b; items = xs }; buffers = a.buffers }

-- a turn after which no pass is open
abbrev pub in_turn : State → Mode → Next → List ℕ → State
in_turn a m t cs =
    record { start = a.start; turn = record { mode = m; next = t; challenges = cs }; pass = no_pass; buffers = a.buffers }

abbrev pub goes_to : State → Next → State
goes_to a t = in_turn a a.turn.mode t a.turn.challenges

-- a change of mode leaves what is next and the challenges
abbrev pub in_mode : State → Mode → State
in_mode a m = in_turn a m a.turn.next a.turn.challenges

-- "for i = 0 to n-1 message i and challenge i; then ends"
abbrev pub takes_challenge : State → ℕ → State
takes_challenge a c =
    let cs : List ℕ = a.turn.challenges ++ c ∷ [] in in_turn a a.turn.mode (round_or_ends (length cs) a.start.rounds) cs

-- the answer of a pass was given, or it was a change
abbrev pub closed : State → Next → Kind → State
closed a t Shut = a
closed a next.Total Asked = goes_to a (round_or_ends 0 a.start.rounds)
closed a next.Message Asked = goes_to a next.Challenge
closed a next.Challenge Asked = a
closed a next.Ends Asked = goes_to a next.Openings
closed a next.Openings Asked = goes_to a next.Openings
closed a t Change = in_mode a Full

abbrev pub with_buffers : State → Lent → State
with_buffers a l = record { start = a.start; turn = a.turn; pass = a.pass; buffers = record { f = l.f; g = l.g } }

-- in a change pass an item has the buffers, in full mode a challenge
abbrev pub buffers_in : Bool → State → Lent → State
buffers_in has a l = cond has (with_buffers a l) a

abbrev pub takes_given : State → Given → Lent → State
takes_given a x l = buffers_in (is_change a.pass.kind) (in_pass a a.pass.kind a.pass.point (x ∷ a.pass.items)) l

-- the state after an answered call that left l
abbrev pub goes_on : State → Call → Lent → State
goes_on a call.OpenPass l = in_pass a Asked 0 []
goes_on a (call.OpenAt b) l = in_pass a Asked b []
goes_on a call.ToFull l = with_buffers (in_pass a Change 0 []) l
goes_on a call.ToSmall l = in_mode a Small
goes_on a (call.Give x) l = takes_given a x l
goes_on a call.Close l = closed a a.turn.next a.pass.kind
goes_on a call.Message l = with_buffers (goes_to a next.Challenge) l
goes_on a (call.Challenge c) l = buffers_in (is_full a.turn.mode) (takes_challenge a c) l
goes_on a call.Ends l = with_buffers (goes_to a next.Openings) l
goes_on a (call.Opening b) l = a
goes_on a call.WriteProof l = a

-- a call counts if it was answered
abbrev pub follow : State → Call → Result → State
follow a c o = cond (is_answered o.answer) (goes_on a c o.lent) a
