-- What a run's list of calls gave, and a verifier's list that brings it: document 01, "Its answered calls bring the trip's items first
-- to last, the run's total, and the run's messages in order or its proof file."
use Rattle.std.specs.Prelude.{ℕ, ◌*◌, ◌^◌, ◌<◌, ◌≡◌, true, List, length, take}
use Rattle.refusal.specs.Outcome.{answered}
use Rattle.wire.specs.Proof.{proof_size}
use Rattle.vector.specs.Vector.{at}
use Rattle.vector.specs.Opening.{evaluate, opening_of, opening}
use Rattle.prover.specs.Reply as reply
use Rattle.verifier.specs.Reply as verifier
use Rattle.verifier.specs.Records.{yes, holds}
use Rattle.runs.specs.Trip.{Trip, trip_item, vector_f, vector_g}
use Rattle.batch.specs.Batch.{log_at, log_value}
use Rattle.calls.specs.declared.query.Query.{Query}
use Rattle.calls.specs.declared.query.Query.TheVariants as query
use Rattle.calls.specs.Lists.{somewhere}
use Rattle.calls.specs.Step.{Result, is_answered}
use Rattle.calls.specs.World.{Made, World, came, onward}
use Rattle.calls.specs.Meaning.{Question, total, round_message, opening_at, proof, question, Answer, says}
use Rattle.calls.specs.QueryStep.{Shown, Said, replies, finds, opens}
use Rattle.calls.specs.QueryState.{VerifierState, Hearing, heard}

abbrev pub reply_of : Result → Answer
reply_of o = record { answer = o.answer; values = o.values }

module _ (p : ℕ) where
  -- an answered call was asked q
  abbrev pub Answered : Question → World → Made → Type 0
  Answered q w m = (is_answered (came p w m).answer ≡ true) × (question w.state m.call ≡ q)

  -- one of the list was, and replied x
  abbrev pub Gave : World → List Made → Question → Answer → Type 0
  Gave w ms q x = somewhere (onward p) (λ w m. Answered q w m × (reply_of (came p w m) ≡ x)) w ms

  -- one wrote a proof, and these are its bytes
  abbrev pub Wrote : World → List Made → List ℕ → Type 0
  Wrote w ms file =
      somewhere (onward p) (λ w m. Answered proof w m × (take (proof_size w.state.start.rounds) (came p w m).lent.file ≡ file)) w ms

  -- A VERIFIER'S CALL beside a run's list
  module _ (T : Trip) (w : World) (ms : List Made) where
    abbrev pub BringsRun : VerifierState → Query → Shown → Type 0
    BringsRun b (query.Give x) l = x ≡ trip_item T (length b.items)
    BringsRun b (query.Close t) l = Gave w ms total (says (reply.total t))
    BringsRun b (query.CloseClaim c) l = Gave w ms total (says (reply.field_total c))
    BringsRun b (query.Message even cross odd) l = Gave w ms (round_message b.round) (says (reply.message even cross odd))
    BringsRun b query.Verdict l = Unit {0}
    BringsRun b query.Proof l = Wrote w ms l.file
    BringsRun b (query.CheckOpening x) l = Unit {0}
    BringsRun b (query.CheckBatch m z x) l = Unit {0}

    -- "every opening check .. is yes if point and values are an opening that the run gave": answered, and yes
    abbrev pub OpeningsChecked : Hearing → Type 0
    OpeningsChecked h =
        (b : ℕ) (values : List ℕ) → Gave w ms (opening_at b) (record { answer = answered reply.opening; values = values }) → (file logs : List ℕ)
        → (heard p h (record { query = query.CheckOpening b; shown = record { file = file; values = take (6 * T.start.rounds) values; logs = logs } })).told
        ≡ answered (opens holds)

    -- document 02, (a): the check of what a batch's run opened, with each of m logs' value at the point, is yes
    abbrev pub BatchChecked : ℕ → ℕ → List (List ℕ) → Hearing → Type 0
    BatchChecked z m logs h =
        (b : ℕ) (values : List ℕ) → Gave w ms (opening_at b) (record { answer = answered reply.opening; values = values }) → (own : List ℕ)
        → length own ≡ m → ((k : ℕ) → k < m → log_value p (log_at logs k) b ≡ answered (at own k)) → (file : List ℕ)
        → (heard p h (record { query = query.CheckBatch m z b; shown = record { file = file; values = take (3 * T.start.rounds) values; logs = own } })).told
        ≡ answered (finds yes)

-- WHAT A VERIFIER THAT AGREES SAYS: an item taken, the pass closed, a message passed; a verdict, a file and an opening: yes
abbrev pub agreed : Query → Said
agreed (query.Give x) = replies verifier.taken
agreed (query.Close z) = replies verifier.closed
agreed (query.CloseClaim c) = replies verifier.closed
agreed (query.Message even cross odd) = replies verifier.passed
agreed query.Verdict = finds yes
agreed query.Proof = finds yes
agreed (query.CheckOpening b) = opens holds
agreed (query.CheckBatch m z b) = finds yes

-- what is checked is an opening of the trip at the point; of a batch, one of f, with log values whose sum is f's value there
abbrev pub OpensTrip : ℕ → Trip → VerifierState → Query → Shown → Type 0
OpensTrip p T b (query.Give x) l = Unit {0}
OpensTrip p T b (query.Close t) l = Unit {0}
OpensTrip p T b (query.CloseClaim c) l = Unit {0}
OpensTrip p T b (query.Message even cross odd) l = Unit {0}
OpensTrip p T b query.Verdict l = Unit {0}
OpensTrip p T b query.Proof l = Unit {0}
OpensTrip p T b (query.CheckOpening x) l = l.values ≡ opening p T.start.rounds (at b.challenges) (vector_f p T) (vector_g p T) x
OpensTrip p T b (query.CheckBatch m z x) l =
    (l.values ≡ opening_of p T.start.rounds (at b.challenges) (vector_f p T) x)
    × (evaluate p (length l.logs) (at l.logs) z ≡ evaluate p (2 ^ T.start.rounds) (vector_f p T) x)
