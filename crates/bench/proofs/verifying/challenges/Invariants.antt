use Rattle.std.proofs.Common.{◌≡◌, length}
use Rattle.bench.proofs.verifying.challenges.Given as goal

abbrev pub invariant-loop-k : goal.invariant-loop-k
invariant-loop-k l = length l.out ≡ 15
