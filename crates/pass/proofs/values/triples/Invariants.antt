use mathlib.Core.Path.{◌≡◌}
use lib.Seq.{sets}
use Rattle.vector.specs.Opening.{triple_values}
use Rattle.pass.specs.Values.{triple_in}
use Rattle.pass.proofs.values.triples.Given as goal

abbrev pub invariant-loop-j : goal.invariant-loop-j
invariant-loop-j l = l.out ≡ sets l.initial.out l.from (triple_values (triple_in l.point l.minus l.square) 0 l.j)
