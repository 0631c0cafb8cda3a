-- What follows of a verifier from its start and the answered calls alone, the table over it, and its list of calls.
use Rattle.std.specs.Prelude.{ℕ, suc, ◌+◌, ◌*◌, ◌≡◌, Bool, true, false, not, ◌&&◌, ◌||◌, List, [], ◌∷◌, eqb, leb, ltb, length}
use Rattle.std.proofs.Math.Option.{Option, none, some}
use Rattle.refusal.specs.Limit.{max_logs}
use Rattle.refusal.specs.Outcome.{Outcome, answered, refused, refused_at}
use Rattle.field.specs.Total.{in_limits}
use Rattle.wire.specs.Header.{marked, version_of}
use Rattle.wire.specs.Proof.{proof_rounds, proof_total, proof_number, all_below, proof_size}
use Rattle.vector.specs.Slice.{is_nonzero, all_reduced}
use Rattle.verifier.specs.declared.Verifier.{Verifier}
use Rattle.verifier.specs.Reply as reply
use Rattle.verifier.specs.Records.{yes, no}
use Rattle.verifier.specs.Starts.{verifier_of}
use Rattle.item.specs.declared.Start.{Start}
use Rattle.item.specs.declared.Given.{Given}
use Rattle.calls.specs.declared.query.Query.{Query}
use Rattle.calls.specs.declared.query.Query.TheVariants as query
use Rattle.calls.specs.Step.{is_answered}
use Rattle.calls.specs.QueryStep.{Shown, Said, replies, finds, opens, Spoken, ask}
use Rattle.calls.specs.Table.{Refusal, refused_with, row, given_rows}

pub record VerifierState : Type 0 where
  pub start : Start
  -- "challenges known beforehand", n of them
  pub challenges : List ℕ
  -- the items answered, the newest first
  pub items : List Given
  pub closed : Bool
  -- how many messages passed; after a no, its round
  pub round : ℕ
  -- "A no .. closes the run"
  pub refuted : Bool

abbrev pub fresh_verifier_state : Start → List ℕ → VerifierState
fresh_verifier_state s cs = record { start = s; challenges = cs; items = []; closed = false; round = 0; refuted = false }

abbrev pub takes_item : VerifierState → Given → VerifierState
takes_item a x =
    record { start = a.start; challenges = a.challenges; items = x ∷ a.items; closed = a.closed; round = a.round; refuted = a.refuted }

abbrev pub at_round : VerifierState → ℕ → Bool → VerifierState
at_round a i over = record { start = a.start; challenges = a.challenges; items = a.items; closed = true; round = i; refuted = over }

-- a message that passed, or a no with its round; a yes to a file heard every message
abbrev pub hearing : VerifierState → Said → VerifierState
hearing a (replies reply.started) = a
hearing a (replies reply.taken) = a
hearing a (replies reply.closed) = at_round a a.round a.refuted
hearing a (replies reply.passed) = at_round a (suc a.round) false
hearing a (replies (reply.no k)) = at_round a k true
hearing a (finds yes) = at_round a a.start.rounds false
hearing a (finds (no k)) = at_round a k true
hearing a (opens x) = a

-- the state after an answered call
abbrev pub goes_on_heard : VerifierState → Query → Said → VerifierState
goes_on_heard a (query.Give x) t = takes_item a x
goes_on_heard a (query.Close z) t = hearing a t
goes_on_heard a (query.CloseClaim c) t = hearing a t
goes_on_heard a (query.Message even cross odd) t = hearing a t
goes_on_heard a query.Verdict t = hearing a t
goes_on_heard a query.Proof t = hearing a t
goes_on_heard a (query.CheckOpening b) t = a
goes_on_heard a (query.CheckBatch m z b) t = a

abbrev pub follow_heard : VerifierState → Query → Outcome Said → VerifierState
follow_heard a c (answered x) = goes_on_heard a c x
follow_heard a c (refused k) = a
follow_heard a c (refused_at k i) = a

-- THE TABLE
abbrev pub is_wanted : VerifierState → Bool
is_wanted a = ltb (length a.items) a.start.items

abbrev pub has_all : VerifierState → Bool
has_all a = eqb (length a.items) a.start.items

-- "item or close with no pass open", here after the close; 8; the other kind of run
abbrev pub close_rows : VerifierState → Bool → Option Refusal → Option Refusal
close_rows a kind rest = row (not a.closed) 10 (row (has_all a) 8 (row kind 10 rest))

-- the rows of the proof file, for the verifier's n
abbrev pub file_rows : ℕ → ℕ → List ℕ → Option Refusal
file_rows p n file =
    row (marked 80 10 file) 1
    (row (eqb (version_of file) 1) 2
    (row (eqb (proof_rounds file) n) 3
    (row (eqb (length file) (proof_size n)) 4
    (row (in_limits p (proof_total file)) 7 (row (all_below p (proof_number file) (3 * n + 2)) 11 none)))))

unfoldable pub verifier_table : ℕ → VerifierState → Query → Shown → Option Refusal
verifier_table p a (query.Give x) l = row (not a.closed) 10 (row (is_wanted a) 8 (given_rows p a.start (length a.items) x none))
verifier_table p a (query.Close t) l = close_rows a a.start.plain (row (in_limits p t) 7 none)
verifier_table p a (query.CloseClaim c) l = close_rows a (not a.start.plain) (row (ltb c p) 11 none)
-- "message or verdict before its pass is closed; message after the last or after a no; verdict before the last message without a no"
verifier_table p a (query.Message even cross odd) l =
    row (a.closed && (not a.refuted && ltb a.round a.start.rounds)) 12
    (row (ltb even p && (ltb cross p && ltb odd p)) 11 none)
verifier_table p a query.Verdict l = row (a.closed && (a.refuted || eqb a.round a.start.rounds)) 12 none
verifier_table p a query.Proof l = close_rows a a.start.plain (file_rows p a.start.rounds l.file)
verifier_table p a (query.CheckOpening b) l =
    row (ltb 0 a.start.rounds) 10
    (row (is_nonzero p b) 6
    (row (eqb (length l.values) (6 * a.start.rounds)) 6
    (row (all_reduced p (length l.values) l.values) 11 none)))
-- document 02, (a): "17 no logs or more than eight .. before 10 for n = 0 and any number handed in"; "one such value for each (else 6)"
verifier_table p a (query.CheckBatch m z b) l =
    row (leb 1 m && leb m max_logs) 17
    (row (ltb 0 a.start.rounds) 10
    (row (is_nonzero p z) 6
    (row (is_nonzero p b) 6
    (row (eqb (length l.values) (3 * a.start.rounds) && eqb (length l.logs) m) 6
    (row (all_reduced p (length l.values) l.values) 11
    (row (all_reduced p (length l.logs) l.logs) 11 none))))))

-- A LIST OF CALLS: "each call given the record that the last returned"
-- a call with what it is lent
pub record Posed : Type 0 where
  pub query : Query
  pub shown : Shown

-- one that is lent nothing
abbrev pub plainly : Query → Posed
plainly q = record { query = q; shown = record { file = []; values = []; logs = [] } }

-- the verifier, and the state that follows from the answered calls
pub record Hearing : Type 0 where
  pub state : VerifierState
  pub verifier : Verifier

-- what an answered start gives
abbrev pub fresh_hearing : Start → List ℕ → Hearing
fresh_hearing s cs = record { state = fresh_verifier_state s cs; verifier = verifier_of s cs }

module _ (p : ℕ) where
  abbrev pub heard : Hearing → Posed → Spoken
  heard h m = ask p h.verifier m.query m.shown

  abbrev pub hears_on : Hearing → Posed → Hearing
  hears_on h m = record { state = follow_heard h.state m.query (heard h m).told; verifier = (heard h m).verifier }

-- refused exactly when, and with the number that, the table says; then nothing changes
abbrev pub DecidesHeard : Verifier → Option Refusal → Spoken → Type 0
DecidesHeard v none o = is_answered o.told ≡ true
DecidesHeard v (some k) o = o ≡ record { verifier = v; told = refused_with k.0 k.1 }
