-- THE VERIFIER'S OWN LIST, made of what a run answered: the host carries it over call by call, or in the run's proof file.
use Rattle.std.specs.Prelude.{ℕ, ◌*◌, cond, List, [], ◌∷◌, ◌++◌, map, take}
use Rattle.refusal.specs.Outcome.{Outcome, answered, refused, refused_at}
use Rattle.item.specs.declared.Given.{Given}
use Rattle.prover.specs.Reply.{Reply}
use Rattle.prover.specs.Reply as reply
use Rattle.runs.specs.Trip.{Trip}
use Rattle.calls.specs.declared.Call.TheVariants as call
use Rattle.calls.specs.declared.query.Query.TheVariants as query
use Rattle.calls.specs.Lists.{collected}
use Rattle.calls.specs.Step.{Lent, is_answered}
use Rattle.calls.specs.World.{Made, World, came, onward}
use Rattle.calls.specs.Meaning.{Question, total, round_message, ends, opening_at, proof, done, question, Answer}
use Rattle.calls.specs.QueryState.{Posed, plainly}
use Rattle.calls.specs.Given.{reply_of}

-- "the trip's items first to last"
abbrev pub items_of : List Given → List Posed
items_of = map (λ x. plainly (query.Give x))

-- "the run's total, and the run's messages in order"; where the run gave its ends, the verdict is asked for
abbrev pub claims : Reply → List Posed
claims reply.started = []
claims reply.opened = []
claims reply.taken = []
claims (reply.total t) = plainly (query.Close t) ∷ []
claims (reply.field_total c) = plainly (query.CloseClaim c) ∷ []
claims (reply.message even cross odd) = plainly (query.Message even cross odd) ∷ []
claims reply.challenged = []
claims (reply.ends f g) = plainly query.Verdict ∷ []
claims reply.opening = []
claims reply.changed = []
claims (reply.written size) = []

abbrev pub claims_in : Outcome Reply → List Posed
claims_in (answered x) = claims x
claims_in (refused k) = []
claims_in (refused_at k i) = []

-- each opening that the run gave is checked, at its point and with its 6n values
abbrev pub checks : ℕ → Question → List ℕ → List Posed
checks n total values = []
checks n (round_message i) values = []
checks n ends values = []
checks n (opening_at b) values = record { query = query.CheckOpening b; shown = record { file = []; values = take (6 * n) values; logs = [] } } ∷ []
checks n proof values = []
checks n (done x) values = []

-- FROM THE ANSWERED CALLS of a run's list, in their order
module _ (p : ℕ) (T : Trip) (w : World) (ms : List Made) where
  abbrev pub carried_over : (Question → Answer → List Posed) → List Posed
  carried_over what =
      collected (onward p) (λ w m. cond (is_answered (came p w m).answer) (what (question w.state m.call) (reply_of (came p w m))) []) w ms

  -- the items, then the total, the messages, the verdict and the checks as the run answered
  abbrev pub by_messages : List Posed
  by_messages = items_of T.items ++ carried_over (λ q x. claims_in x.answer ++ checks T.start.rounds q x.values)

  -- "or its proof file": the items, the file, and the checks
  abbrev pub by_file : List ℕ → List Posed
  by_file file =
      items_of T.items
      ++ record { query = query.Proof; shown = record { file = file; values = []; logs = [] } } ∷ carried_over (λ q x. checks T.start.rounds q x.values)

-- the run's call that writes it
abbrev pub writes_proof : Lent → Made
writes_proof l = record { call = call.WriteProof; lent = l }
