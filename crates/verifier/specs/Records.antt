-- What the verifier's calls hand back, in document 01's terms, and that a refusal changes nothing.
use Rattle.std.specs.Prelude.{ℕ, false, replicate}
use Rattle.refusal.specs.Outcome.{Outcome, answered, refused, refused_at}
use Rattle.item.specs.Start.{no_start}
use Rattle.verifier.specs.declared.Verifier.{Verifier}
use Rattle.verifier.specs.declared.Step.{Step}
use Rattle.verifier.specs.declared.Verdict.{Verdict}
use Rattle.verifier.specs.declared.Verdict.TheVariants as verdict
use Rattle.verifier.specs.declared.Opened.{Opened}
use Rattle.verifier.specs.declared.Opened.TheVariants as opened
use Rattle.verifier.specs.Reply.{Reply, answer_in}

-- beside a refused start: all zero, and refused by every call
abbrev pub blank : Verifier
blank =
    record {
      start = no_start;
      challenges = replicate 15 0;
      closed = false;
      taken = 0;
      fsum = 0;
      gsum = 0;
      claim = 0;
      round = 0;
      failed = false;
    }

-- an answered call: the verifier after it, and what it replies
pub record Replied : Type 0 where
  pub verifier : Verifier
  pub reply : Reply

-- any call: the verifier that it hands back, and its reply or refusal
pub record Handed : Type 0 where
  pub verifier : Verifier
  pub outcome : Outcome Reply

abbrev pub step_in : Step → Handed
step_in s = record { verifier = s.verifier; outcome = answer_in s.answer }

-- "state and buffers are unchanged": what each outcome of a call leaves of the verifier that it was given
abbrev pub leaves : Verifier → Outcome Replied → Handed
leaves v (answered s) = record { verifier = s.verifier; outcome = answered s.reply }
leaves v (refused k) = record { verifier = v; outcome = refused k }
leaves v (refused_at k i) = record { verifier = v; outcome = refused_at k i }

-- "the verdict is yes .. Otherwise no, with the first round that failed, or n"
pub data Finding : Type 0 where
  yes : Finding
  no : ℕ → Finding

abbrev pub verdict_in : Verdict → Outcome Finding
verdict_in verdict.Yes = answered yes
verdict_in (verdict.No k) = answered (no k)
verdict_in (verdict.Refused k) = refused k

-- "else no with the first vector (f before g) and j that fail"
pub data OpeningFinding : Type 0 where
  holds : OpeningFinding
  fails_f : ℕ → OpeningFinding
  fails_g : ℕ → OpeningFinding

abbrev pub opened_in : Opened → Outcome OpeningFinding
opened_in opened.Yes = answered holds
opened_in (opened.NoF j) = answered (fails_f j)
opened_in (opened.NoG j) = answered (fails_g j)
opened_in (opened.Refused k) = refused k
