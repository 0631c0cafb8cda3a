use mathlib.Core.Path.{◌≡◌}
use lib.ListN.{length}
use Rattle.vector.specs.Vector.{at}
use Rattle.vector.specs.Slice.{overwrite}
use Rattle.r1cs.proofs.RowSums.{first_times}
use Rattle.r1cs.proofs.entries.sum_rows.Given as goal

-- The loop's invariant: the first places are the product of the matrix of the first k entries.
abbrev pub invariant-loop-k : goal.invariant-loop-k
invariant-loop-k l = (length l.out ≡ length l.initial.out) × (l.out ≡ overwrite (first_times l.p l.size l.matrix (at l.z) l.k) l.size l.initial.out)
