use mathlib.Core.Path.{sym}
use Rattle.vector.proofs.Rounds.{rounds-few, rounds-formula}
use Rattle.vector.proofs.sizes.rounds_of.Goals as goal

pub returns-then-items-le1 : goal.returns-then-items-le1
returns-then-items-le1 c = sym (rounds-few c.args.items c.if-items-le1.true)

pub returns : goal.returns
returns c = sym (rounds-formula c.args.items c.if-items-le1.false)
