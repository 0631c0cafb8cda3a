use mathlib.Core.Path.{◌≡◌}
use mathlib.Core.Bool.{true}
use Prim.Native.Nat.{ℕ, ◌<◌}
use Rattle.vector.specs.Vector.{at}
use Rattle.trip.specs.Modes.{is_letter}
use Rattle.trip.proofs.modes.is_word.Given as goal

abbrev pub invariant-loop-letter : goal.invariant-loop-letter
invariant-loop-letter l = (j : ℕ) → j < l.letter-index → is_letter (at l.word j) ≡ true
