-- What an answered call answers and leaves, from the trip and the challenges alone, and what document 01 asks of the caller.
use Rattle.std.specs.Prelude.{ℕ, zero, suc, ◌-◌, ◌^◌, ◌<◌, ◌≡◌, Bool, true, cond, not, ◌&&◌, ◌||◌, List, [], ◌∷◌, ◌++◌, ℤ, length}
use Rattle.refusal.specs.Outcome.{Outcome, answered}
use Rattle.wire.specs.Proof.{proof_file, proof_size}
use Rattle.vector.specs.Rounds.{size}
use Rattle.vector.specs.Vector.{Vector, at, dot}
use Rattle.vector.specs.Fold.{fold, end_value}
use Rattle.vector.specs.Message.{Message, message}
use Rattle.vector.specs.Opening.{opening}
use Rattle.phase.specs.declared.Mode.{Mode}
use Rattle.phase.specs.declared.Next.{Next}
use Rattle.phase.specs.declared.Next.TheVariants as next
use Rattle.phase.specs.declared.Kind.{Kind}
use Rattle.phase.specs.declared.Kind.TheVariants.{Shut, Asked, Change}
use Rattle.phase.specs.Cases.{is_change, is_full, waits}
use Rattle.prover.specs.Reply.{Reply}
use Rattle.prover.specs.Reply as reply
use Rattle.pass.specs.Values.{no_values}
use Rattle.pass.specs.Values.{in_ninety}
use Rattle.item.specs.declared.Given.{Given}
use Rattle.runs.specs.Trip.{Trip, trip_item, vector_f, vector_g, total_of}
use Rattle.calls.specs.declared.Call.{Call}
use Rattle.calls.specs.declared.Call.TheVariants as call
use Rattle.calls.specs.Step.{Lent}
use Rattle.calls.specs.State.{State}
use Rattle.calls.specs.Table.{level, long, taken, completed}

-- an answer or a refusal, with the values beside it
pub record Answer : Type 0 where
  pub answer : Outcome Reply
  pub values : List ℕ

abbrev pub says : Reply → Answer
says x = record { answer = answered x; values = no_values }

-- what a call that is answered is asked
pub data Question : Type 0 where
  total : Question
  round_message : ℕ → Question
  ends : Question
  opening_at : ℕ → Question
  proof : Question
  done : Reply → Question

-- in small mode the close of a pass answers what the pass was opened for
abbrev pub close_asks : State → Next → Kind → Question
close_asks a t Shut = done reply.changed
close_asks a next.Total Asked = total
close_asks a next.Message Asked = round_message (length a.turn.challenges)
close_asks a next.Challenge Asked = done reply.changed
close_asks a next.Ends Asked = ends
close_asks a next.Openings Asked = opening_at a.pass.point
close_asks a t Change = done reply.changed

abbrev pub question : State → Call → Question
question a call.OpenPass = done reply.opened
question a (call.OpenAt b) = done reply.opened
question a call.ToFull = done reply.opened
question a call.ToSmall = done reply.changed
question a (call.Give x) = done reply.taken
question a call.Close = close_asks a a.turn.next a.pass.kind
question a call.Message = round_message (length a.turn.challenges)
question a (call.Challenge c) = done reply.challenged
question a call.Ends = ends
question a (call.Opening b) = opening_at b
question a call.WriteProof = proof

-- THE BUFFERS: the places, from the first to below the second, that an answered call writes
abbrev pub nowhere : ℕ × ℕ
nowhere = (0, 0)

abbrev pub item_writes : State → Kind → ℕ × ℕ
item_writes a k = cond (is_change k) (long a - completed a (suc (taken a)), long a - completed a (taken a)) nowhere

abbrev pub challenge_writes : State → Mode → ℕ × ℕ
challenge_writes a m = cond (is_full m) (0, size a.start.rounds (suc (length a.turn.challenges))) nowhere

-- "each place by the call that completes its value (the opening call, for padding)"; "a challenge writes as many as the new fold is long"
abbrev pub writes : State → Call → ℕ × ℕ
writes a call.OpenPass = nowhere
writes a (call.OpenAt b) = nowhere
writes a call.ToFull = (long a - completed a (2 ^ a.start.rounds - a.start.items), long a)
writes a call.ToSmall = nowhere
writes a (call.Give x) = item_writes a a.pass.kind
writes a call.Close = nowhere
writes a call.Message = nowhere
writes a (call.Challenge c) = challenge_writes a a.turn.mode
writes a call.Ends = nowhere
writes a (call.Opening b) = nowhere
writes a call.WriteProof = nowhere

-- the first places, as many as the current fold is long, are as they were left
abbrev pub AsLeft : State → Lent → Type 0
AsLeft a l = (j : ℕ) → j < long a → (at l.f j ≡ at a.buffers.f j) × (at l.g j ≡ at a.buffers.g j)

-- "Up to and with the ends" a change pass gets the buffers as they were left; with `through`, after the ends too
abbrev pub binds_item : Bool → State → Bool
binds_item through a = is_change a.pass.kind && (through || not (waits next.Openings a.turn.next))

-- "message i" of each round so far, in the order of the file, and the proof file, of any two vectors
unfoldable pub messages_of : ℕ → ℕ → Vector → Vector → List ℕ → ℕ → List ℕ
messages_of p n f g cs zero = []
messages_of p n f g cs (suc i) =
    messages_of p n f g cs i ++ (message p n (at cs) f g i).even ∷ (message p n (at cs) f g i).cross ∷ (message p n (at cs) f g i).odd ∷ []

abbrev pub file_of : ℕ → ℕ → ℤ → Vector → Vector → List ℕ → List ℕ
file_of p n t f g cs = proof_file n t (messages_of p n f g cs n ++ end_value p (at cs) n f ∷ end_value p (at cs) n g ∷ [])

module _ (p : ℕ) (T : Trip) where
  abbrev pub f : Vector
  f = vector_f p T

  abbrev pub g : Vector
  g = vector_g p T

  abbrev n : ℕ
  n = T.start.rounds

  -- "Message i, from fold i"
  abbrev pub message_at : List ℕ → ℕ → Message
  message_at cs i = message p n (at cs) f g i

  -- WHAT AN ANSWERED CALL ANSWERS, from the trip and the challenges alone: the same "in either mode"
  abbrev pub meant : List ℕ → Question → Answer
  -- "A twisted run's total is a field number"
  meant cs total = says (cond T.start.plain (reply.total (total_of T)) (reply.field_total (dot p (2 ^ n) f g)))
  meant cs (round_message i) = says (reply.message (message_at cs i).even (message_at cs i).cross (message_at cs i).odd)
  -- "Fold n is one number, the end value"
  meant cs ends = says (reply.ends (end_value p (at cs) n f) (end_value p (at cs) n g))
  meant cs (opening_at b) = record { answer = answered reply.opening; values = in_ninety n (opening p n (at cs) f g b) }
  meant cs proof = says (reply.written (proof_size n))
  meant cs (done a) = says a

  abbrev pub meaning : State → Call → Answer
  meaning a c = meant a.turn.challenges (question a c)

  abbrev pub messages_to : List ℕ → ℕ → List ℕ
  messages_to cs i = messages_of p n f g cs i

  -- the proof file of a whole run
  abbrev pub proof_of_trip : List ℕ → List ℕ
  proof_of_trip cs = file_of p n (total_of T) f g cs

  -- the trip's current fold, of f and of g
  abbrev pub fold_f : State → Vector
  fold_f a = fold p (at a.turn.challenges) (level a) f

  abbrev pub fold_g : State → Vector
  fold_g a = fold p (at a.turn.challenges) (level a) g

  -- WHAT IS ASKED of an answered call
  pub record Kept (through : Bool) (a : State) (c : Call) (l : Lent) : Type 0 where
    -- "the L pairs from index L-1 down"
    pub item : (x : Given) → c ≡ call.Give x → x ≡ trip_item T (T.start.items - 1 - length a.pass.items)
    -- "each answered call lent the two buffers, save the opening of a change, gets them as the last answered call that had them left them"
    pub change : (x : Given) → c ≡ call.Give x → binds_item through a ≡ true → AsLeft a l
    pub message : c ≡ call.Message → AsLeft a l
    pub challenge : (x : ℕ) → c ≡ call.Challenge x → is_full a.turn.mode ≡ true → AsLeft a l
    pub ends : c ≡ call.Ends → AsLeft a l
    -- "an answered full opening is lent fold 0 (twists included)"
    pub opening : (b : ℕ) → c ≡ call.Opening b → (j : ℕ) → j < 2 ^ n → (at l.f j ≡ f j) × (at l.g j ≡ g j)
