use Rattle.wire.proofs.Numbers.{num-two}
use native.Mathlib.Omega.{arith}
use Rattle.wire.proofs.number.get16.Goals as goal

pub returns : goal.returns
returns c = (omega (arith, num-two c.args.s.now c.args.at c.requires), omega arith)
