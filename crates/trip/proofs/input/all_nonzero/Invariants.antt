use mathlib.Core.Bool.{true}
use mathlib.Core.Path.{◌≡◌}
use Prim.Native.Nat.{ℕ, ◌<◌}
use Rattle.field.specs.Modulus.{modulus}
use Rattle.trip.specs.Input.{number_at}
use Rattle.vector.specs.Slice.{is_nonzero}
use Rattle.trip.proofs.input.all_nonzero.Given as goal

abbrev pub invariant-loop-k : goal.invariant-loop-k
invariant-loop-k l = (j : ℕ) → j < l.k → is_nonzero modulus (number_at l.numbers j) ≡ true
