use mathlib.Core.Path.{refl, sym, ap, ◌∙◌}
use lib.ListN.{length, replicate, set}
use Rattle.vector.proofs.Overwrite.{overwrite-next, overwrite-length}
use Rattle.vector.specs.Slice.{overwrite}
use Rattle.trip.specs.Modes.{letter_from}
use Rattle.trip.proofs.modes.letters_of.Goals as goal

pub loop-i-init : goal.loop-i-init
unfolding overwrite
loop-i-init c = (refl, refl)

pub loop-i-preserved : goal.loop-i-preserved
loop-i-preserved c =
    let l = c.loop-i in
    let k = c.args in
    let next = ap (λ x. set l.letters l.i x) c.letter_from.ensures ∙ ap (λ xs. set xs l.i (letter_from k.word.now k.from l.i)) l.invariant.0 ∙ overwrite-next (letter_from k.word.now k.from) (replicate 17 0) l.i in
    (next, sym (ap length next ∙ overwrite-length (letter_from k.word.now k.from) (replicate 17 0) _))
