-- The proof file of a plain run: "It serves plain runs only."
use Rattle.std.specs.Prelude.{ℕ, Bool, List, []}
use Rattle.refusal.specs.Number as number
use Rattle.refusal.specs.Outcome.{Outcome, answered, refused, refused_at, require}
use Rattle.wire.specs.Proof.{proof_file, proof_values, write_proof}
use Rattle.phase.specs.Turn.{proof_turn}
use Rattle.prover.specs.declared.Run.{Run}
use Rattle.pass.specs.declared.Pass.{Pass}
use Rattle.prover.specs.declared.Reply.TheVariants as answer
use Rattle.prover.specs.Records.{Out, out, answered_step, unchanged}
use Rattle.prover.specs.WellFormed.{well_formed}

-- 10: "a proof file written .. for a twisted run", or before the ends were given
abbrev pub may_write : ℕ → Run → Pass → Bool
may_write p r s = proof_turn (well_formed p r s) r.start.plain r.next

-- then what the writer of the file answers; of a run that calls made it refuses only a short buffer (9)
unfoldable pub write_call : ℕ → Run → Pass → List ℕ → Outcome ℕ
write_call p r s file =
    require (may_write p r s) number.order (write_proof p r.start.rounds r.total r.messages r.fend r.gend file)

abbrev pub written_step : Run → Pass → Outcome ℕ → Out
written_step r s (answered size) = out (answered_step r s (answer.Written size)) [] []
written_step r s (refused k) = unchanged r s [] [] (refused k)
written_step r s (refused_at k i) = unchanged r s [] [] (refused_at k i)

-- the run's proof
abbrev pub run_proof : Run → List ℕ
run_proof r = proof_file r.start.rounds r.total (proof_values r.start.rounds r.messages r.fend r.gend)
