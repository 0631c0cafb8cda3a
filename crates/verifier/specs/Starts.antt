-- The starts: refused by 2, 3 and 6 only, and otherwise a fresh verifier, its pass "open from its start".
use Rattle.std.specs.Prelude.{ℕ, false, List}
use Rattle.refusal.specs.Number as number
use Rattle.refusal.specs.Outcome.{Outcome, answered, require}
use Rattle.field.specs.Number.{is_nonzero}
use Rattle.vector.specs.Rounds.{rounds_of}
use Rattle.vector.specs.Slice.{fifteen}
use Rattle.item.specs.declared.Start.{Start}
use Rattle.item.specs.Version.{version_fits}
use Rattle.item.specs.Start.{count_fits, rounds_fit, list_fits, plain_start, twisted_start, rule_start}
use Rattle.verifier.specs.declared.Verifier.{Verifier}
use Rattle.verifier.specs.Reply as reply
use Rattle.verifier.specs.Records.{Replied}

-- nothing taken yet; of the challenges, those of the run's rounds
unfoldable pub fresh_verifier : Start → List ℕ → Verifier
fresh_verifier start challenges =
    record {
      start = start;
      challenges = challenges;
      closed = false;
      taken = 0;
      fsum = 0;
      gsum = 0;
      claim = 0;
      round = 0;
      failed = false;
    }

abbrev pub verifier_of : Start → List ℕ → Verifier
verifier_of start challenges = fresh_verifier start (fifteen start.rounds challenges)

abbrev pub started_with : Verifier → Replied
started_with v = record { verifier = v; reply = reply.started }

-- a start that is fixed, by its challenges (6)
abbrev pub starting : ℕ → Start → List ℕ → Outcome Replied
starting p start challenges =
    require (list_fits p start.rounds challenges) number.argument (answered (started_with (verifier_of start challenges)))

-- the verifier of a plain run, which reads no twists
abbrev pub plain_verifier : ℕ → ℕ → List ℕ → Verifier
plain_verifier items version challenges = verifier_of (plain_start items version) challenges

abbrev pub twisted_verifier : ℕ → List ℕ → List ℕ → Verifier
twisted_verifier items twists challenges = verifier_of (twisted_start items twists) challenges

abbrev pub rule_verifier : ℕ → ℕ → ℕ → List ℕ → Verifier
rule_verifier p rounds v challenges = verifier_of (rule_start p rounds v) challenges

-- "Each plain start is told the version (neither 1 nor 2: 2)"; 2 before 3, as in a file's header
unfoldable pub start_plain : ℕ → ℕ → ℕ → List ℕ → Outcome Replied
start_plain p items version challenges =
    require (version_fits version) number.version
    (require (count_fits items) number.count
    (require (list_fits p (rounds_of items) challenges) number.argument
    (answered (started_with (plain_verifier items version challenges)))))

unfoldable pub start_twisted : ℕ → ℕ → List ℕ → List ℕ → Outcome Replied
start_twisted p items twists challenges =
    require (count_fits items) number.count
    (require (list_fits p (rounds_of items) twists) number.argument
    (require (list_fits p (rounds_of items) challenges) number.argument
    (answered (started_with (twisted_verifier items twists challenges)))))

-- "a twisted run on Az and Bz, L = 2^n, with v_j = v^(2^j), v from 1 to P-1"
unfoldable pub start_rule : ℕ → ℕ → ℕ → List ℕ → Outcome Replied
start_rule p rounds v challenges =
    require (rounds_fit rounds) number.count
    (require (is_nonzero p v) number.argument
    (require (list_fits p rounds challenges) number.argument
    (answered (started_with (rule_verifier p rounds v challenges)))))
