use mathlib.Core.Bool.{false}
use mathlib.Core.Path.{◌≡◌, sym, ◌∙◌}
use native.Mathlib.Omega.{arith}
use lib.Dec.{eqb}
use lib.ListN.{length}
use Rattle.vector.proofs.Every.{every-false}
use Rattle.vector.specs.Vector.{at}
use Rattle.trip.specs.Modes.{is_letter, is_word}
use Rattle.trip.proofs.modes.is_word.Goals as goal

pub returns-then-not-is_letter : goal.returns-then-not-is_letter
unfolding is_word
returns-then-not-is_letter c =
    let w = c.args.word.now in
    let some : eqb (length w) 0 ≡ false = sym c.is_empty.ensures ∙ c.if-is_empty.false in
    rw some (sym (every-false (λ k. is_letter (at w k)) (length w) c.loop-letter.letter-index (omega arith) (sym c.is_letter.ensures ∙ c.if-not-is_letter.true)))
