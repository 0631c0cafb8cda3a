use lib.ListN.{take}
use Rattle.wire.specs.Proof.{numbers}
use lib.Seq.{sets}
use mathlib.Core.Path.{◌≡◌}
use Rattle.wire.proofs.proof.put_numbers.Given as goal

-- the buffer is the run of the first k numbers over the buffer at entry
abbrev pub invariant-loop-k : goal.invariant-loop-k
invariant-loop-k l = l.file ≡ sets l.initial.file l.at (numbers (take l.k l.values))
