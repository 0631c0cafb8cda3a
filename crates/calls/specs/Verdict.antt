-- The verdict of any list of a verifier's calls, refused ones among them: yes for exactly the messages that meet its equations.
use Rattle.std.specs.Prelude.{ℕ, zero, suc, ◌+◌, ◌*◌, ◌<◌, ◌≡◌, true, cond, List, [], ◌∷◌, ◌++◌, ◌↔◌, ◌⊎◌, length, get_or}
use Rattle.std.proofs.Math.Option.{Option, none, some}
use Rattle.refusal.specs.Outcome.{Outcome, answered}
use Rattle.algebra.specs.Mod.{mul_mod}
use Rattle.field.specs.Integer.{image}
use Rattle.wire.specs.Proof.{proof_total, proof_number}
use Rattle.vector.specs.Vector.{at}
use Rattle.vector.specs.Fold.{end_value}
use Rattle.vector.specs.Message.{Message, passes}
use Rattle.vector.specs.Opening.{evaluate, opens}
use Rattle.verifier.specs.Openings.{triple_at}
use Rattle.verifier.specs.Reply as reply
use Rattle.verifier.specs.Records as finding
use Rattle.verifier.specs.Claims.{message_of3}
use Rattle.verifier.specs.ProofFile.{file_message}
use Rattle.verifier.specs.Trips.{claim_at}
use Rattle.item.specs.declared.Start.{Start}
use Rattle.item.specs.declared.Given.{Given}
use Rattle.runs.specs.Trip.{Trip, vector_f, vector_g}
use Rattle.calls.specs.declared.query.Query.{Query}
use Rattle.calls.specs.declared.query.Query.TheVariants as query
use Rattle.calls.specs.Step.{is_answered}
use Rattle.calls.specs.QueryStep.{Shown, Said, replies, finds}
use Rattle.calls.specs.QueryState.{Posed, Hearing, fresh_hearing, heard, hears_on}

-- WHAT THE ANSWERED CALLS BROUGHT, in order
pub record Brought : Type 0 where
  -- first to last
  pub items : List Given
  -- "Its claim starts as the total"
  pub claim : ℕ
  pub messages : List Message
  -- of a proof file
  pub ends : Option (ℕ × ℕ)

abbrev pub nothing : Brought
nothing = record { items = []; claim = 0; messages = []; ends = none }

abbrev pub item_brought : Brought → Given → Brought
item_brought b x = record { items = b.items ++ x ∷ []; claim = b.claim; messages = b.messages; ends = b.ends }

abbrev pub claim_brought : Brought → ℕ → Brought
claim_brought b claim = record { items = b.items; claim = claim; messages = b.messages; ends = b.ends }

abbrev pub message_brought : Brought → Message → Brought
message_brought b m = record { items = b.items; claim = b.claim; messages = b.messages ++ m ∷ []; ends = b.ends }

-- a proof file "brings every message in one call"
unfoldable pub file_messages : List ℕ → ℕ → List Message
file_messages file zero = []
file_messages file (suc i) = file_messages file i ++ file_message file i ∷ []

abbrev pub file_brought : ℕ → ℕ → Brought → List ℕ → Brought
file_brought p n b file =
    record {
      items = b.items;
      claim = image p (proof_total file);
      messages = file_messages file n;
      ends = some (proof_number file (3 * n), proof_number file (3 * n + 1));
    }

-- with one answered call more, for n rounds
abbrev pub brought_with : ℕ → ℕ → Brought → Query → Shown → Brought
brought_with p n b (query.Give x) l = item_brought b x
brought_with p n b (query.Close t) l = claim_brought b (image p t)
brought_with p n b (query.CloseClaim c) l = claim_brought b c
brought_with p n b (query.Message even cross odd) l = message_brought b (message_of3 even cross odd)
brought_with p n b query.Verdict l = b
brought_with p n b query.Proof l = file_brought p n b l.file
brought_with p n b (query.CheckOpening x) l = b
brought_with p n b (query.CheckBatch m z x) l = b

-- a refused call brings nothing
abbrev pub brought_as : ℕ → ℕ → Brought → Query → Shown → Outcome Said → Brought
brought_as p n b c l t = cond (is_answered t) (brought_with p n b c l) b

-- THE EQUATIONS, for a start and the challenges
module _ (p : ℕ) (s : Start) (cs : List ℕ) (b : Brought) where
  -- the trip of the items brought, and its end values
  abbrev pub trip_of : Trip
  trip_of = record { start = s; items = b.items }

  abbrev pub end_f : ℕ
  end_f = end_value p (at cs) s.rounds (vector_f p trip_of)

  abbrev pub end_g : ℕ
  end_g = end_value p (at cs) s.rounds (vector_g p trip_of)

  abbrev pub brought_message : ℕ → Message
  brought_message i = get_or b.messages i (message_of3 0 0 0)

  -- "the claim becomes even + cross·c + odd·c²": the claim that message i meets, and after the last
  abbrev pub claim_in : ℕ → ℕ
  claim_in i = claim_at p (at cs) b.claim brought_message i

  -- "A message passes if even + odd = claim"
  abbrev pub Passes : ℕ → Type 0
  Passes i = passes p (brought_message i) ≡ claim_in i

  -- the first k pass
  abbrev pub AllPass : ℕ → Type 0
  AllPass k = (i : ℕ) → i < k → Passes i

  -- "End values in the proof file must equal its own"
  abbrev pub EndsOwn : Option (ℕ × ℕ) → Type 0
  EndsOwn none = Unit {0}
  EndsOwn (some e) = (e.0 ≡ end_f) × (e.1 ≡ end_g)

  -- "After n messages the verdict is yes if the claim equals the product of its own end values"
  pub record Meets : Type 0 where
    pub count : length b.messages ≡ s.rounds
    pub all : AllPass s.rounds
    pub product : claim_in s.rounds ≡ mul_mod p end_f end_g
    pub ends : EndsOwn b.ends

  -- "Otherwise no, with the first round that failed"
  pub record FailsFirst (k : ℕ) : Type 0 where
    pub round : k < s.rounds
    pub given : k < length b.messages
    pub before : AllPass k
    pub fails : Passes k → ⊥

  -- "or n"
  pub record FailsLast (k : ℕ) : Type 0 where
    pub last : k ≡ s.rounds
    pub count : length b.messages ≡ s.rounds
    pub all : AllPass s.rounds
    pub fails : claim_in s.rounds ≡ mul_mod p end_f end_g → EndsOwn b.ends → ⊥

  -- A VERDICT, both ways
  pub record VerdictJudged (t : Outcome Said) : Type 0 where
    pub yes : (t ≡ answered (finds finding.yes)) ↔ Meets
    pub no : (k : ℕ) → (t ≡ answered (finds (finding.no k))) ↔ (FailsFirst k ⊎ FailsLast k)
    pub either : (t ≡ answered (finds finding.yes)) ⊎ ((k : ℕ) × (t ≡ answered (finds (finding.no k))))

  -- A MESSAGE, the last brought, both ways
  pub record MessageJudged (t : Outcome Said) : Type 0 where
    pub passed : (t ≡ answered (replies reply.passed)) ↔ AllPass (length b.messages)
    pub no : (k : ℕ) → (t ≡ answered (replies (reply.no k))) ↔ FailsFirst k
    pub either : (t ≡ answered (replies reply.passed)) ⊎ ((k : ℕ) × (t ≡ answered (replies (reply.no k))))

-- THE CHECK OF A BATCH (document 02, (a)), by the challenges and what it is lent
module _ (p : ℕ) (s : Start) (cs : List ℕ) (z b : ℕ) (l : Shown) where
  -- "the combined value at the point is the same sum of them"
  abbrev pub SumHolds : Type 0
  SumHolds = evaluate p (length l.logs) (at l.logs) z ≡ at l.values 0

  -- "the opening equation", at j = k + 1
  abbrev pub EquationHolds : ℕ → Type 0
  EquationHolds k = opens p (at cs k) b (triple_at l.values (3 * k)) ≡ true

  pub record BatchJudged (t : Outcome Said) : Type 0 where
    pub yes : (t ≡ answered (finds finding.yes)) ↔ (SumHolds × ((k : ℕ) → k < s.rounds → EquationHolds k))
    -- "else no at j 0"
    pub zero : (t ≡ answered (finds (finding.no 0))) ↔ (SumHolds → ⊥)
    pub no : (k : ℕ) → (t ≡ answered (finds (finding.no (suc k)))) ↔ (SumHolds × (k < s.rounds) × ((i : ℕ) → i < k → EquationHolds i) × (EquationHolds k → ⊥))
    pub either : (t ≡ answered (finds finding.yes)) ⊎ ((j : ℕ) × (t ≡ answered (finds (finding.no j))))

-- what is said of an answered call by what was brought up to and with it, and what it is lent
abbrev pub Judges : ℕ → Start → List ℕ → Brought → Query → Shown → Outcome Said → Type 0
Judges p s cs b (query.Give x) l t = t ≡ answered (replies reply.taken)
Judges p s cs b (query.Close z) l t = t ≡ answered (replies reply.closed)
Judges p s cs b (query.CloseClaim c) l t = t ≡ answered (replies reply.closed)
Judges p s cs b (query.Message even cross odd) l t = MessageJudged p s cs b t
Judges p s cs b query.Verdict l t = VerdictJudged p s cs b t
Judges p s cs b query.Proof l t = VerdictJudged p s cs b t
Judges p s cs b (query.CheckOpening x) l t = Unit {0}
Judges p s cs b (query.CheckBatch m z x) l t = BatchJudged p s cs z x l t

-- A LIST, with what its answered calls brought
pub record Account : Type 0 where
  pub now : Hearing
  pub brought : Brought

abbrev pub fresh_account : Start → List ℕ → Account
fresh_account s cs = record { now = fresh_hearing s cs; brought = nothing }

abbrev pub account_on : ℕ → ℕ → Account → Posed → Account
account_on p n w q =
    record { now = hears_on p w.now q; brought = brought_as p n w.brought q.query q.shown (heard p w.now q).told }
