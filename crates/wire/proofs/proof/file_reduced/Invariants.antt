use mathlib.Core.Bool.{true}
use mathlib.Core.Path.{◌≡◌}
use Rattle.wire.specs.Proof.{all_below, proof_number}
use Rattle.wire.proofs.proof.file_reduced.Given as goal

-- the numbers passed are below the modulus
abbrev pub invariant-loop-k : goal.invariant-loop-k
invariant-loop-k l = true ≡ all_below l.p (proof_number l.file) l.k
