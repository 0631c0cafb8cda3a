use mathlib.Core.Path.{◌≡◌, ap, ◌∙◌}
use lib.IntN.{pos}
use mir.Syntax.{w32}
use mir.Facts.{to_z-of_z}
use Rattle.field.specs.Integer.{image}
use Rattle.field.proofs.Integers.{image-by_sign}
use Rattle.field.proofs.Field.from_reading.Goals as goal

pub returns : goal.returns
returns c =
    let s = c.before in
    let w : c.from_reading_in.result.value ≡ image 2147483647 s.args.r = simp (to_z-of_z {w = w32} s.ranges.r) at c.from_reading_in.ensures in
    (w, λ less. ap pos w ∙ image-by_sign 2147483647 s.args.r less)
