use Rattle.wire.proofs.Numbers.{num-four}
use native.Mathlib.Omega.{arith}
use Rattle.wire.proofs.number.get32.Goals as goal

pub returns : goal.returns
returns c = omega (arith, num-four c.args.s.now c.args.at c.requires)
