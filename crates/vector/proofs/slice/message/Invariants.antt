use mathlib.Core.Path.{◌≡◌}
use Prim.Native.Nat.{◌+◌, ◌*◌}
use Rattle.algebra.specs.Mod.{residue}
use Rattle.vector.specs.Vector.{at, sum}
use Rattle.vector.specs.Message.{even_sum, odd_sum}
use Rattle.vector.proofs.slice.message.Given as goal

abbrev pub invariant-loop-k : goal.invariant-loop-k
invariant-loop-k l = (l.even ≡ residue l.p (even_sum l.k (at l.f) (at l.g)))
    × (l.cross ≡ residue l.p (sum l.k (λ i. at l.f (2 * i) * at l.g (2 * i + 1)))) × (l.back ≡ residue l.p (sum l.k (λ i. at l.f (2 * i + 1) * at l.g (2 * i))))
    × (l.odd ≡ residue l.p (odd_sum l.k (at l.f) (at l.g)))
