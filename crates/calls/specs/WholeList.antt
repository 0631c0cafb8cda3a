-- THE VERIFIER'S OWN LIST, WHOLE: its calls first to last, from the trip, the challenges and the points alone.
use Rattle.std.specs.Prelude.{ℕ, zero, suc, ◌^◌, cond, List, [], ◌∷◌, ◌++◌, map, ltb}
use Rattle.vector.specs.Vector.{at, dot}
use Rattle.vector.specs.Message.{Message}
use Rattle.vector.specs.Opening.{opening}
use Rattle.runs.specs.Trip.{Trip, vector_f, vector_g, total_of}
use Rattle.calls.specs.declared.query.Query.{Query}
use Rattle.calls.specs.declared.query.Query.TheVariants as query
use Rattle.calls.specs.Meaning.{message_at, proof_of_trip}
use Rattle.calls.specs.QueryState.{Posed, plainly}
use Rattle.calls.specs.Carried.{items_of}

abbrev pub brings_message : Message → Query
brings_message m = query.Message m.even m.cross m.odd

module _ (p : ℕ) (T : Trip) where
  -- "the run's total"; "A twisted run's total is a field number"
  abbrev pub brings_total : Query
  brings_total =
      cond T.start.plain (query.Close (total_of T)) (query.CloseClaim (dot p (2 ^ T.start.rounds) (vector_f p T) (vector_g p T)))

  module _ (cs : List ℕ) where
    -- "the run's messages in order": so many from message i on
    unfoldable pub messages_from : ℕ → ℕ → List Posed
    messages_from i zero = []
    messages_from i (suc m) = plainly (brings_message (message_at p T cs i)) ∷ messages_from (suc i) m

    -- the opening at a point, with its 6n values
    abbrev pub check_at : ℕ → Posed
    check_at b =
        record {
          query = query.CheckOpening b;
          shown = record { file = []; values = opening p T.start.rounds (at cs) (vector_f p T) (vector_g p T) b; logs = [] };
        }

    module _ (bs : List ℕ) where
      -- one for each point; with n = 0 there are no openings
      abbrev pub all_checks : List Posed
      all_checks = cond (ltb 0 T.start.rounds) (map check_at bs) []

      -- L items, the close, n messages, the verdict, the checks
      abbrev pub whole_by_messages : List Posed
      whole_by_messages =
          items_of T.items ++ (plainly brings_total ∷ messages_from 0 T.start.rounds ++ (plainly query.Verdict ∷ all_checks))

      -- L items, the proof file, the checks
      abbrev pub whole_by_file : List Posed
      whole_by_file = items_of T.items ++ (record { query = query.Proof; shown = record { file = proof_of_trip p T cs; values = []; logs = [] } } ∷ all_checks)
