use mathlib.Core.Path.{◌≡◌}
use lib.ListN.{length, replicate}
use Rattle.vector.specs.Slice.{overwrite}
use Rattle.trip.specs.Modes.{letter_from}
use Rattle.trip.proofs.modes.letters_of.Given as goal

abbrev pub invariant-loop-i : goal.invariant-loop-i
invariant-loop-i l = (l.letters ≡ overwrite (letter_from l.word l.from) l.i (replicate 17 0)) × (17 ≡ length l.letters)
