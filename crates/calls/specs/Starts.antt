-- The starts of a run and of a verifier: each is refused exactly by its rows, and otherwise gives the record that a list begins with.
use Rattle.std.specs.Prelude.{ℕ, zero, suc, ◌≤◌, ◌<◌, ◌≡◌, true, false, ◌&&◌, ◌||◌, List, eqb, leb, ltb, length}
use Rattle.std.proofs.Math.Option.{Option, none, some}
use Rattle.refusal.specs.Limit.{max_items, max_rounds, max_logs}
use Rattle.refusal.specs.Outcome.{Outcome, answered, refused, refused_at}
use Rattle.wire.specs.declared.log.Head.{Head}
use Rattle.wire.specs.Log.{read_log}
use Rattle.vector.specs.Rounds.{rounds_of}
use Rattle.vector.specs.Slice.{is_nonzero, all_nonzero}
use Rattle.item.specs.declared.Start.{Start}
use Rattle.item.specs.Start.{version_kept, plain_start, twisted_start, untwisted_start, rule_start}
use Rattle.prover.specs.Records.{Out}
use Rattle.prover.specs.Start as prover
use Rattle.batch.specs.Batch.{log_at, most_items, same_rounds, start_batch}
use Rattle.verifier.specs.Records.{Replied}
use Rattle.verifier.specs.Starts as verifier
use Rattle.runs.specs.Trip.{Trip}
use Rattle.calls.specs.Table.{Refusal, row, decided}

-- L from 1 to 32,768, n of it, and the version: of a plain run 1 or 2, of any other 0
pub record Startable (s : Start) : Type 0 where
  pub version : version_kept s.plain s.version ≡ true
  pub least : 1 ≤ s.items
  pub most : s.items ≤ max_items
  pub rounds : s.rounds ≡ rounds_of s.items

-- a run of field numbers that begins at its openings, "by n challenges handed in"; n is not 0
pub record Opens (s : Start) (cs : List ℕ) : Type 0 where
  pub start : Startable s
  pub numbers : s.plain ≡ false
  pub rounds : 0 < s.rounds
  pub listed : length cs ≡ s.rounds

-- a trip of L items
pub record Whole (T : Trip) : Type 0 where
  pub start : Startable T.start
  pub items : length T.items ≡ T.start.items

-- document 02, (b): "Each plain start is told the version (neither 1 nor 2: 2)"
abbrev pub version_row : ℕ → Option Refusal → Option Refusal
version_row version rest = row (eqb version 1 || eqb version 2) 2 rest

-- "L outside 1..32,768 .. at a run's start; n above 15"; "challenge, twist, v .. outside 1..P-1; a list .. not as long as n asks"
abbrev pub count_row : ℕ → Option Refusal → Option Refusal
count_row items rest = row (leb 1 items && leb items max_items) 3 rest

abbrev pub list_row : ℕ → ℕ → List ℕ → Option Refusal → Option Refusal
list_row p n xs rest = row (eqb (length xs) n && all_nonzero p n xs) 6 rest

abbrev pub rule_rows : ℕ → ℕ → ℕ → Option Refusal → Option Refusal
rule_rows p n v rest = row (leb n max_rounds) 3 (row (is_nonzero p v) 6 rest)

-- document 02, (a): with n = 0 there are no openings
abbrev pub openings_rows : ℕ → ℕ → List ℕ → Option Refusal
openings_rows p items cs = count_row items (row (ltb 0 (rounds_of items)) 10 (list_row p (rounds_of items) cs none))

-- "the files in order": the refusal of the first log that has one
abbrev pub file_row : Outcome Head → Option Refusal → Option Refusal
file_row (answered head) rest = rest
file_row (refused k) rest = some (k, none)
file_row (refused_at k i) rest = some (k, some i)

unfoldable pub log_rows : List (List ℕ) → ℕ → ℕ → Option Refusal → Option Refusal
log_rows logs k zero rest = rest
log_rows logs k (suc m) rest = file_row (read_log (log_at logs k)) (log_rows logs (suc k) m rest)

-- "17 no logs or more than eight, before any file, or unequal n, after the files in order; both before 10 for n = 0 and any number
-- handed in"
abbrev pub batch_rows : ℕ → ℕ → List (List ℕ) → ℕ → List ℕ → Option Refusal
batch_rows p m logs z cs =
    let n : ℕ = rounds_of (most_items logs m) in
    row (leb 1 m && leb m max_logs) 17
    (log_rows logs 0 m (row (same_rounds logs m) 17 (row (ltb 0 n) 10 (row (is_nonzero p z) 6 (list_row p n cs none)))))

-- refused by these rows, and otherwise an answer of which something holds
abbrev pub Decided : {A : Type 0} → Option Refusal → A → Type 0 → Outcome A → Type 0
Decided t x Holds o = (o ≡ decided t (answered x)) × (t ≡ none → Holds)

-- the run's fresh record, the verifier's, or that of a run which begins at its openings
abbrev pub StartsRun : Option Refusal → Start → Outcome Out → Type 0
StartsRun t s = Decided t (prover.started (prover.fresh_run s)) (Startable s)

abbrev pub StartsVerifier : Option Refusal → Start → List ℕ → Outcome Replied → Type 0
StartsVerifier t s cs = Decided t (verifier.started_with (verifier.verifier_of s cs)) (Startable s × (length cs ≡ s.rounds))

abbrev pub StartsOpenings : Option Refusal → Start → List ℕ → Outcome Out → Type 0
StartsOpenings t s cs = Decided t (prover.started (prover.openings_run s cs)) (Opens s cs)

pub record Starts (p : ℕ) : Type 0 where
  pub plain : (items version : ℕ)
      → StartsRun (version_row version (count_row items none)) (plain_start items version) (prover.start_plain items version)
  pub twisted : (items : ℕ) (twists : List ℕ)
      → StartsRun (count_row items (list_row p (rounds_of items) twists none)) (twisted_start items twists) (prover.start_twisted p items twists)
  pub rule : (n v : ℕ) → StartsRun (rule_rows p n v none) (rule_start p n v) (prover.start_rule p n v)
  pub openings : (items : ℕ) (cs : List ℕ) → StartsOpenings (openings_rows p items cs) (untwisted_start items) cs (prover.start_openings p items cs)
  pub batch : (m : ℕ) (logs : List (List ℕ)) (z : ℕ) (cs : List ℕ)
      → StartsOpenings (batch_rows p m logs z cs) (untwisted_start (most_items logs m)) cs (start_batch p m logs z cs)
  pub verifier_plain : (items version : ℕ) (cs : List ℕ)
      → StartsVerifier (version_row version (count_row items (list_row p (rounds_of items) cs none))) (plain_start items version) cs
      (verifier.start_plain p items version cs)
  pub verifier_twisted : (items : ℕ) (twists cs : List ℕ)
      → StartsVerifier (count_row items (list_row p (rounds_of items) twists (list_row p (rounds_of items) cs none))) (twisted_start items twists) cs (verifier.start_twisted p items twists cs)
  pub verifier_rule : (n v : ℕ) (cs : List ℕ)
      → StartsVerifier (rule_rows p n v (list_row p n cs none)) (rule_start p n v) cs (verifier.start_rule p n v cs)
