-- Within a run's limits the leaves on lent buffers do what is asked.
use mathlib.Core.Path.{◌≡◌}
use mathlib.Core.List.{List}
use Prim.Native.Nat.{ℕ, ◌^◌, ◌≤◌}
use lib.ListN.{length}
use borrow.Author.Tests.{le-leb}
use Rattle.vector.specs.Vector.{at}
use Rattle.vector.specs.Opening.{opening}
use Rattle.pass.specs.declared.Stage.{Stage}
use Rattle.pass.specs.Values.{in_ninety}
use Rattle.pass.specs.Lent.{padded_lent, padded, opened_lent}

pub padded-so : (w : Stage) (xs : List ℕ) → w.start.rounds ≤ 15 → w.round ≤ w.start.rounds → padded w xs ≡ padded_lent w xs
padded-so w xs few round = simp (le-leb _ _ few, le-leb _ _ round)

pub opened-so : (p : ℕ) (w : Stage) (b : ℕ) (f g : List ℕ) → w.start.rounds ≤ 15 → 2 ^ w.start.rounds ≤ length f → 2 ^ w.start.rounds ≤ length g
    → opened_lent p w b f g ≡ in_ninety w.start.rounds (opening p w.start.rounds (at w.challenges) (at f) (at g) b)
opened-so p w b f g few flong glong = simp (le-leb _ _ few, le-leb _ _ flong, le-leb _ _ glong)
