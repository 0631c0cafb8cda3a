use mathlib.Core.Path.{◌≡◌}
use Prim.Native.Nat.{◌+◌, ◌≤◌}
use Rattle.kernel.specs.Kernel.{padding_from}
use Rattle.kernel.proofs.start.padding_below.Given as goal

abbrev pub invariant-loop-level : goal.invariant-loop-level
invariant-loop-level l = (l.k.fcount + l.level ≤ 16) × (l.k.gcount + l.level ≤ 16) × (padding_from l.taken l.level l.k ≡ padding_from l.taken l.initial.level l.initial.k)
