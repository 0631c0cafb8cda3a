use mathlib.Core.Path.{sym, ap}
use Prim.Native.Nat.{◌-◌, ◌/◌}
use native.Mathlib.Omega.{arith}
use lib.IntN.{pos}
use mir.Syntax.{w64}
use mir.Facts.{to_z_pos}
use Rattle.field.specs.Total.{limit}
use Rattle.field.proofs.total.limit.Goals as goal

pub returns-then-p-eq0 : goal.returns-then-p-eq0
returns-then-p-eq0 c = ap (λ p. pos (limit p)) (sym c.if-p-eq0.true)

pub returns : goal.returns
returns c = to_z_pos w64 {n = (c.args.p - 1) / 2} (omega arith)
