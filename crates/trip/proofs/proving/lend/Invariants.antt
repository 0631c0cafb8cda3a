use mathlib.Core.Path.{◌≡◌}
use Rattle.trip.specs.Items.{f_at, g_at}
use Rattle.vector.specs.Slice.{overwrite}
use Rattle.trip.proofs.proving.lend.Given as goal

abbrev pub invariant-loop-i : goal.invariant-loop-i
invariant-loop-i l = (l.f ≡ overwrite (f_at l.start l.log) l.i l.initial.f) × (l.g ≡ overwrite (g_at l.start l.log) l.i l.initial.g)
