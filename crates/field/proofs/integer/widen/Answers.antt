use mir.Facts.{to_z-of_z}
use Rattle.field.proofs.Signed.{widened}
use Rattle.field.proofs.integer.widen.Goals as goal

pub overflow_cast-result : goal.overflow_cast-result
overflow_cast-result c = rw (to_z-of_z c.ranges.x) (widened c.ranges.x)

pub returns : goal.returns
returns c = rw (to_z-of_z c.ranges.x, to_z-of_z (widened c.ranges.x))
