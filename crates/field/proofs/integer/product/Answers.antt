use mathlib.Core.Path.{◌≡◌, ap, ◌∙◌}
use native.Mathlib.Omega.{arith}
use mir.Syntax.{w32, w64}
use mir.Val.{to_z, of_z}
use mir.Facts.{to_z-of_z, to_z_pos}
use Rattle.field.proofs.Signed.{widened, product-fits}
use Rattle.field.proofs.integer.product.Goals.{After-widen}
use Rattle.field.proofs.integer.product.Goals as goal

-- the widened reading, as the code passes it on
factor : (c : After-widen) → to_z w64 (of_z w64 c.widen.result) ≡ c.args.reading
factor c =
    let s = c.before in
    let w : c.widen.result ≡ s.args.reading = simp (to_z-of_z {w = w32} s.ranges.reading) at c.widen.ensures in
    ap (λ z. to_z w64 (of_z w64 z)) w ∙ to_z-of_z (widened s.ranges.reading)

pub overflow_mul-result : goal.overflow_mul-result
overflow_mul-result c =
    let s = c.before in
    rw (factor c, to_z_pos w64 {n = s.args.weight} (omega arith)) (product-fits s.args.reading s.args.weight s.ranges.reading s.ranges.weight)

pub returns : goal.returns
returns c =
    let s = c.before in
    rw (factor c, to_z_pos w64 {n = s.args.weight} (omega arith))
    (to_z-of_z (product-fits s.args.reading s.args.weight s.ranges.reading s.ranges.weight))
