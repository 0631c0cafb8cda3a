-- What an item does: to the total, to the stacks, and, in a change pass, to the buffers.
use Rattle.std.specs.Prelude.{ℕ, ◌+◌, ◌-◌, Bool, cond, ◌&&◌, List, leb}
use Rattle.refusal.specs.Limit.{max_items, max_rounds}
use Rattle.algebra.specs.Mod.{add_mod, mul_mod}
use Rattle.field.specs.Total.{plus}
use Rattle.item.specs.declared.Item.{Item}
use Rattle.item.specs.Item.{enters_as}
use Rattle.kernel.specs.declared.Kernel.{Kernel}
use Rattle.kernel.specs.Kernel.{entered}
use Rattle.kernel.specs.Change.{Placed, placed_of, placed}
use Rattle.phase.specs.declared.Next.TheVariants as next
use Rattle.phase.specs.Cases.{is_change, waits}
use Rattle.pass.specs.declared.Pass.{Pass}
use Rattle.pass.specs.declared.Stage.{Stage}
use Rattle.pass.specs.Pass.{kernel_of, with_kernel, counted}
use Rattle.pass.specs.Stage.{level_in, size_in, padding_in}

-- a pass, with the two lent buffers
pub record Moved : Type 0 where
  pub pass : Pass
  pub f : List ℕ
  pub g : List ℕ

abbrev pub moved : Pass → List ℕ → List ℕ → Moved
moved s f g = record { pass = s; f = f; g = g }

-- the index of the next item: "from index L-1 down"
abbrev pub index_in : Stage → Pass → ℕ
index_in w s = w.start.items - 1 - s.taken

unfoldable pub enters_in : ℕ → Stage → Pass → Item → ℕ
enters_in p w s x = enters_as p w.start (index_in w s) x.f

-- one more item taken
abbrev pub one_more : Pass → Pass
one_more s = counted s (s.taken + 1) s.total s.dot

-- the running product of a twisted run's total; a plain total needs none
abbrev pub running : ℕ → Bool → ℕ → ℕ → ℕ → ℕ
running p plain dot f g = cond plain dot (add_mod p dot (mul_mod p f g))

-- a pass for the total sums, and has no stack
unfoldable pub summed_item : ℕ → Bool → Pass → Item → ℕ → Pass
summed_item p plain s x f = counted s (s.taken + 1) (plus s.total x.worth) (running p plain s.dot f x.g)

-- a pair of a pass that was asked for enters the stacks
unfoldable pub entered_in : ℕ → Stage → Pass → ℕ → ℕ → Kernel
entered_in p w s f g = entered p w.challenges (level_in w s.kind) s.points (kernel_of s) f g

-- a pair of a change pass: "each place by the call that completes its value"
unfoldable pub placed_in : ℕ → Stage → Pass → ℕ → ℕ → List ℕ → List ℕ → Placed
placed_in p w s a b f g =
    placed p w.challenges (level_in w s.kind) (size_in w) (padding_in w + s.taken) (placed_of (kernel_of s) f g) a b

abbrev pub stacked_in : Pass → Placed → Moved
stacked_in s k = moved (with_kernel (one_more s) k.kernel) k.f k.g

unfoldable pub takes_in : ℕ → Stage → Pass → Item → List ℕ → List ℕ → Moved
takes_in p w s x f g =
    let a : ℕ = enters_in p w s x in
    cond (waits next.Total w.next) (moved (summed_item p w.start.plain s x a) f g)
    (stacked_in s (cond (is_change s.kind) (placed_in p w s a x.g f g) (placed_of (entered_in p w s a x.g) f g)))

-- n items more are within a run's limits and wanted; what is beyond them does nothing
unfoldable pub fits_in : Stage → ℕ → ℕ → Bool
fits_in w taken n =
    leb w.start.rounds max_rounds && (leb w.start.items max_items && leb (taken + n) w.start.items)

abbrev pub taken_in : ℕ → Stage → Pass → Item → List ℕ → List ℕ → Moved
taken_in p w s x f g = cond (fits_in w s.taken 1) (takes_in p w s x f g) (moved s f g)
