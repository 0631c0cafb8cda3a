-- What a call leaves, by what its tests say.
use mathlib.Core.Path.{◌≡◌, refl, sym, ap}
use mathlib.Core.Bool.{Bool, true, false}
use mathlib.Core.List.{List}
use Prim.Native.Nat.{ℕ}
use native.Mathlib.Omega.{arith}
use lib.Dec.{ltb}
use lib.ListN.{length}
use Rattle.refusal.specs.Number as number
use Rattle.refusal.specs.Outcome.{Outcome, answered, refused, refused_at, require, and_then}
use Rattle.item.specs.declared.Given.{Given}
use Rattle.item.specs.declared.Item.{Item}
use Rattle.item.specs.Item.{parts_of}
use Rattle.kernel.specs.Change.{placed_of}
use Rattle.phase.specs.declared.Next.TheVariants as next
use Rattle.phase.specs.Cases.{is_change, waits}
use Rattle.prover.specs.declared.Run.{Run}
use Rattle.pass.specs.declared.Pass.{Pass}
use Rattle.prover.specs.declared.Reply.TheVariants as answer
use Rattle.prover.specs.Records.{Out, out, answered_step}
use Rattle.pass.specs.Take.{summed_item}
use Rattle.pass.specs.Checks.{item_checks}
use Rattle.pass.proofs.Taking as taking
use Rattle.prover.specs.Level.{stage_of}
use Rattle.prover.specs.Take.{handed, next_index, entering, entered_item, placed_item, taken_item, takes}
use Rattle.prover.specs.WellFormed.{well_formed}
use Rattle.prover.specs.Calls.{pass_open, places_there, give_call}

module _ (p : ℕ) (r : Run) (s : Pass) (x : Item) (f g : List ℕ) where
  pub takes-sum : waits next.Total r.next ≡ true
      → takes p r s x f g ≡ out (answered_step r (summed_item p r.start.plain s x (entering p r s x)) answer.Taken) f g
  unfolding takes
  takes-sum h = ap (handed r) (taking.takes-sum p (stage_of r) s x f g h)

  pub takes-enter : waits next.Total r.next ≡ false → is_change s.kind ≡ false
      → takes p r s x f g ≡ taken_item r s (placed_of (entered_item p r s (entering p r s x) x.g) f g)
  unfolding takes
  takes-enter h k = ap (handed r) (taking.takes-enter p (stage_of r) s x f g h k)

  pub takes-place : waits next.Total r.next ≡ false → is_change s.kind ≡ true
      → takes p r s x f g ≡ taken_item r s (placed_item p r s (entering p r s x) x.g f g)
  unfolding takes
  takes-place h k = ap (handed r) (taking.takes-place p (stage_of r) s x f g h k)

-- a refusal is no answer
pub refused_not : {A : Type 0} {k : ℕ} {x : A} → refused k ≡ answered x → ⊥
refused_not e = let z : ◌≡◌ {A = ℕ} 0 1 = cc in omega arith

pub refused_at_not : {A : Type 0} {k i : ℕ} {x : A} → refused_at k i ≡ answered x → ⊥
refused_at_not e = let z : ◌≡◌ {A = ℕ} 0 1 = cc in omega arith

-- 9, then an item is taken
abbrev pub item_places : ℕ → Run → Pass → List ℕ → List ℕ → Item → Outcome Out
item_places p r s f g x = require (places_there r s (length f) (length g)) number.buffer (answered (takes p r s x f g))

-- the outcomes of an item
module _ (p : ℕ) (r : Run) (s : Pass) (given : Given) (f g : List ℕ) where
  abbrev took : Item → Outcome Out
  took x = answered (takes p r s x f g)

  abbrev checks : Outcome Item
  checks = item_checks p (stage_of r) (well_formed p r s) s.kind s.taken given (length f) (length g)

  -- row by row
  pub give-rows : give_call p r s given f g
      ≡ require (pass_open p r s) number.order
      (require (ltb s.taken r.start.items) number.items (and_then (parts_of p r.start (next_index r s) given) (item_places p r s f g)))
  unfolding give_call item_checks
  give-rows =
      sym (by (pass_open p r s) (ltb s.taken r.start.items) (places_there r s (length f) (length g)) (parts_of p r.start (next_index r s) given))
    where
      by : (a b d : Bool) (o : Outcome Item)
          → require a number.order (require b number.items (and_then o (λ x. require d number.buffer (took x))))
          ≡ and_then (require a number.order (require b number.items (and_then o (λ x. require d number.buffer (answered x))))) took
      by false b d o = refl
      by true false d o = refl
      by true true true (answered x) = refl
      by true true false (answered x) = refl
      by true true d (refused k) = refl
      by true true d (refused_at k i) = refl

  -- of an item that they took: a pass is open, and it is wanted
  pub checks-wanted : (x : Item) → checks ≡ answered x → (pass_open p r s ≡ true) × (ltb s.taken r.start.items ≡ true)
  unfolding item_checks
  checks-wanted x e = by (pass_open p r s) (ltb s.taken r.start.items) _ e
    where
      by : (a b : Bool) (o : Outcome Item) → require a number.order (require b number.items o) ≡ answered x → (a ≡ true) × (b ≡ true)
      by true true o e = (refl, refl)
      by true false o e = absurd (refused_not e)
      by false b o e = absurd (refused_not e)
