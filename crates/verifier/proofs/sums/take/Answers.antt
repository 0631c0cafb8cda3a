use Rattle.verifier.specs.Sums.{entering, one_more}
use mathlib.Core.Path.{◌≡◌}
use Prim.Native.Nat.{min}
use native.Mathlib.Omega.{arith}
use Rattle.verifier.proofs.sums.take.Goals as goal

pub returns : goal.returns
unfolding one_more entering
returns c = let e : min c.args.v.start.rounds 15 ≡ c.args.v.start.rounds = omega (arith, c.requires) in simp (c.add_mul-2.ensures, c.add_mul.ensures, c.enters_as-f.ensures.few c.requires.1, c.weight_of-weight.ensures, e)
