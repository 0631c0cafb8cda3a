use mathlib.Core.Path.{◌≡◌}
use Rattle.pass.specs.Lent.{cleared}
use Rattle.pass.proofs.lent.clear.Given as goal

abbrev pub invariant-loop-k : goal.invariant-loop-k
invariant-loop-k l = l.v ≡ cleared l.from l.k l.initial.v
