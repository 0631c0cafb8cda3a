use mir.Syntax.{w32, w64}
use mir.Val.{to_z, of_z}
use mir.Facts.{to_z-of_z}
use mathlib.Core.Path.{◌≡◌, ap, ◌∙◌}
use Rattle.field.specs.Integer.{image}
use Rattle.field.proofs.Signed.{widened}
use Rattle.field.proofs.Field.from_reading_in.Goals as goal

pub returns : goal.returns
returns c =
    let s = c.before.before in
    let w : c.widen.result ≡ s.args.r = simp (to_z-of_z {w = w32} s.ranges.r) at c.widen.ensures in
    c.image.ensures ∙ ap (image s.args.p) (ap (λ z. to_z w64 (of_z w64 z)) w ∙ to_z-of_z (widened s.ranges.r))
