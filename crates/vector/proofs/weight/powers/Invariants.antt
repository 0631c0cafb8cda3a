use mathlib.Core.Path.{◌≡◌}
use lib.ListN.{replicate}
use Rattle.vector.specs.Slice.{overwrite}
use Rattle.vector.specs.Twist.{twist_of}
use Rattle.vector.proofs.weight.powers.Given as goal

abbrev pub invariant-loop-j : goal.invariant-loop-j
invariant-loop-j l = (l.square ≡ twist_of l.p l.v l.j) × (l.out ≡ overwrite (twist_of l.p l.v) l.j (replicate 15 0))
