-- The test for records that no call returns: what safety and the contracts need of a record, in constant time.
use Rattle.std.specs.Prelude.{ℕ, Bool, false, cond}
use Rattle.pass.specs.Formed.{turn_formed, pass_formed}
use Rattle.prover.specs.declared.Run.{Run}
use Rattle.pass.specs.declared.Pass.{Pass}

abbrev pub run_formed : ℕ → Run → Bool
run_formed p r = turn_formed p r.start r.next r.round r.total

unfoldable pub well_formed : ℕ → Run → Pass → Bool
well_formed p r s = cond (run_formed p r) (pass_formed r.start.items r.mode r.next s) false
