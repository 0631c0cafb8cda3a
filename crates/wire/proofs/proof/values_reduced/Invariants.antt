use mathlib.Core.Bool.{true}
use mathlib.Core.Path.{◌≡◌}
use lib.ListN.{get_or}
use Rattle.wire.specs.Proof.{all_below}
use Rattle.wire.proofs.proof.values_reduced.Given as goal

-- the numbers passed are below the modulus
abbrev pub invariant-loop-k : goal.invariant-loop-k
invariant-loop-k l = true ≡ all_below l.p (λ k. get_or l.values k 0) l.k
