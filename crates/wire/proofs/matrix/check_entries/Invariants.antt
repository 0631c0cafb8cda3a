use Prim.Native.Nat.{◌-◌}
use mathlib.Core.Path.{◌≡◌}
use Rattle.refusal.specs.Outcome.{answered, require_all}
use Rattle.wire.specs.Matrix.{require_entry}
use Rattle.wire.proofs.matrix.check_entries.Given as goal

-- what is left of the search is the whole search
abbrev pub invariant-loop-k : goal.invariant-loop-k
invariant-loop-k l =
    require_all (require_entry l.p l.file) l.k (l.count - l.k) (answered tt) ≡ require_all (require_entry l.p l.file) 0 l.count (answered (tt {0}))
