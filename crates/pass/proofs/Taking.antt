-- What an item does, by what the tests say: in a pass for the total, in one that was asked for, and in a change pass.
use mathlib.Core.Path.{◌≡◌, ap, ◌∙◌}
use mathlib.Core.Bool.{Bool, true, false, cond}
use mathlib.Core.List.{List}
use Prim.Native.Nat.{ℕ}
use Rattle.item.specs.declared.Item.{Item}
use Rattle.kernel.specs.Change.{placed_of}
use Rattle.phase.specs.declared.Next.TheVariants as next
use Rattle.phase.specs.Cases.{is_change, waits}
use Rattle.pass.specs.declared.Pass.{Pass}
use Rattle.pass.specs.declared.Stage.{Stage}
use Rattle.pass.specs.Take.{Moved, moved, enters_in, summed_item, entered_in, placed_in, stacked_in, takes_in, fits_in, taken_in}

module _ (p : ℕ) (w : Stage) (s : Pass) (x : Item) (f g : List ℕ) where
  abbrev pub summing : Moved
  summing = moved (summed_item p w.start.plain s x (enters_in p w s x)) f g

  abbrev pub stacking : Bool → Moved
  stacking b = stacked_in s (cond b (placed_in p w s (enters_in p w s x) x.g f g) (placed_of (entered_in p w s (enters_in p w s x) x.g) f g))

  pub takes-sum : waits next.Total w.next ≡ true → takes_in p w s x f g ≡ summing
  unfolding takes_in
  takes-sum h = ap (λ b. cond b summing (stacking (is_change s.kind))) h

  takes-stacks : waits next.Total w.next ≡ false → (b : Bool) → is_change s.kind ≡ b → takes_in p w s x f g ≡ stacking b
  unfolding takes_in
  takes-stacks h b k = ap (λ b. cond b summing (stacking (is_change s.kind))) h ∙ ap stacking k

  pub takes-enter : waits next.Total w.next ≡ false → is_change s.kind ≡ false → takes_in p w s x f g ≡ stacking false
  takes-enter h k = takes-stacks h false k

  pub takes-place : waits next.Total w.next ≡ false → is_change s.kind ≡ true → takes_in p w s x f g ≡ stacking true
  takes-place h k = takes-stacks h true k

  -- an item that is wanted is taken
  pub taken-so : fits_in w s.taken 1 ≡ true → taken_in p w s x f g ≡ takes_in p w s x f g
  taken-so h = ap (λ b. cond b (takes_in p w s x f g) (moved s f g)) h
