-- The starts of a run.
use Rattle.std.specs.Prelude.{ℕ, List, [], ltb, pos, replicate}
use Rattle.refusal.specs.Number as number
use Rattle.refusal.specs.Outcome.{Outcome, answered, require}
use Rattle.field.specs.Number.{is_nonzero}
use Rattle.kernel.specs.Kernel.{empty_kernel}
use Rattle.vector.specs.Rounds.{rounds_of}
use Rattle.vector.specs.Slice.{fifteen}
use Rattle.item.specs.declared.Start.{Start}
use Rattle.item.specs.Version.{version_fits}
use Rattle.item.specs.Start.{count_fits, rounds_fit, list_fits, plain_start, twisted_start, untwisted_start, rule_start, no_start}
use Rattle.phase.specs.declared.Mode.TheVariants.{Small}
use Rattle.phase.specs.declared.Next.TheVariants.{Total, Openings}
use Rattle.phase.specs.declared.Kind.TheVariants.{Shut}
use Rattle.prover.specs.declared.Run.{Run}
use Rattle.pass.specs.declared.Pass.{Pass}
use Rattle.prover.specs.declared.Reply.TheVariants as answer
use Rattle.prover.specs.Records.{Out, out, leaves, answered_step}
use Rattle.pass.specs.Open.{new_pass, no_points}

-- "A fresh run is what an answered start gives: small, no pass open"
abbrev pub fresh_run : Start → Run
fresh_run start =
    record {
      start = start;
      mode = Small;
      next = Total;
      round = 0;
      challenges = replicate 15 0;
      messages = replicate 45 0;
      total = pos 0;
      claim = 0;
      fend = 0;
      gend = 0;
    }

-- the run of a batch (document 02, (a)): small, its challenges handed in, and its openings next
abbrev pub openings_run : Start → List ℕ → Run
openings_run start challenges =
    record {
      start = start;
      mode = Small;
      next = Openings;
      round = start.rounds;
      challenges = fifteen start.rounds challenges;
      messages = replicate 45 0;
      total = pos 0;
      claim = 0;
      fend = 0;
      gend = 0;
    }

abbrev pub zero_pass : Pass
zero_pass = new_pass Shut no_points empty_kernel

abbrev pub zero_run : Run
zero_run = fresh_run no_start

abbrev pub started : Run → Out
started r = out (answered_step r zero_pass answer.Started) [] []

-- a refused start has no records to leave unchanged: it hands back zeros, which is left to the program
abbrev pub start_leaves : Outcome Out → Out
start_leaves o = leaves zero_run zero_pass [] [] o

-- "Each plain start is told the version (neither 1 nor 2: 2)"; 2 before 3, as in a file's header
unfoldable pub start_plain : ℕ → ℕ → Outcome Out
start_plain items version =
    require (version_fits version) number.version
    (require (count_fits items) number.count (answered (started (fresh_run (plain_start items version)))))

unfoldable pub start_twisted : ℕ → ℕ → List ℕ → Outcome Out
start_twisted p items twists =
    require (count_fits items) number.count
    (require (list_fits p (rounds_of items) twists) number.argument (answered (started (fresh_run (twisted_start items twists)))))

unfoldable pub start_rule : ℕ → ℕ → ℕ → Outcome Out
start_rule p rounds v =
    require (rounds_fit rounds) number.count
    (require (is_nonzero p v) number.argument (answered (started (fresh_run (rule_start p rounds v)))))

-- a batch's run: with n = 0 there are no openings (10)
unfoldable pub start_openings : ℕ → ℕ → List ℕ → Outcome Out
start_openings p items challenges =
    require (count_fits items) number.count
    (require (ltb 0 (rounds_of items)) number.order
    (require (list_fits p (rounds_of items) challenges) number.argument (answered (started (openings_run (untwisted_start items) challenges)))))
