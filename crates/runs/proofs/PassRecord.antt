-- The record of a pass after any items: its kind, its count, its points, and the index at which the next item enters.
use mathlib.Core.Path.{◌≡◌, refl, sym, ap, ◌∙◌}
use mathlib.Core.Bool.{Bool, true, false, cond}
use mathlib.Core.List.{List, [], ◌∷◌}
use Prim.Native.Nat.{ℕ, suc, ◌+◌, ◌-◌}
use native.Mathlib.Numerals.{add-one}
use lib.ListN.{length}
use Rattle.algebra.specs.Mod.{add_mod, mul_mod}
use Rattle.field.specs.Total.{plus}
use Rattle.item.specs.declared.Item.{Item}
use Rattle.kernel.specs.declared.Points.{Points}
use Rattle.kernel.specs.declared.Kernel.{Kernel}
use Rattle.kernel.specs.Kernel.{empty_kernel, padding_below}
use Rattle.kernel.specs.Change.{Placed, placed_of, placed_kernel}
use Rattle.kernel.proofs.KernelChangeStream.{placed-kernel}
use Rattle.phase.specs.declared.Next.TheVariants as next
use Rattle.phase.specs.declared.Kind.{Kind}
use Rattle.phase.specs.declared.Kind.TheVariants.{Shut, Asked, Change}
use Rattle.phase.specs.Cases.{is_change, waits}
use Rattle.prover.specs.declared.Run.{Run}
use Rattle.pass.specs.declared.Pass.{Pass}
use Rattle.refusal.specs.Outcome.{answered}
use Rattle.prover.specs.Reply as reply
use Rattle.pass.specs.Pass.{kernel_of, with_kernel}
use Rattle.pass.specs.Values.{no_values}
use Rattle.prover.specs.Records.{Out}
use Rattle.prover.specs.Level.{level_of, fold_size, padding}
use Rattle.pass.specs.Open.{new_pass, no_points, points_of}
use Rattle.prover.specs.Open.{padded_kernel, open_kernel}
use Rattle.pass.specs.Take.{one_more, running, summed_item, moved, stacked_in, takes_in, placed_in, enters_in}
use Rattle.prover.specs.Take.{handed, entering, entered_item, placed_item, takes}
use Rattle.prover.proofs.Outcomes.{takes-sum, takes-enter, takes-place}
use Rattle.item.specs.declared.Given.{Given}
use Rattle.item.specs.Item.{contributes}
use Rattle.runs.specs.Trip.{enters_as}
use Rattle.runs.specs.Passes.{opened_pass, pass_after}

-- ONE MORE ITEM of any pass
module _ (p : ℕ) (r : Run) (s : Pass) (y : Item) (f g : List ℕ) where
  abbrev stacked : Bool → Placed
  stacked b = cond b (placed_item p r s (entering p r s y) y.g f g) (placed_of (entered_item p r s (entering p r s y) y.g) f g)

  abbrev taking : Bool → Out
  taking b = handed r (cond b (moved (summed_item p r.start.plain s y (entering p r s y)) f g) (stacked_in s (stacked (is_change s.kind))))

  -- what holds in a pass for the total and in any other
  either : {A : Type 0} (part : Out → A) (a : A) → part (taking true) ≡ a → part (taking false) ≡ a → part (takes p r s y f g) ≡ a
  unfolding takes takes_in
  either part a x y = by (waits next.Total r.next)
    where
      by : (b : Bool) → part (taking b) ≡ a
      by true = x
      by false = y

  pub takes_run : (takes p r s y f g).run ≡ r
  takes_run = either (λ o. o.run) r refl refl

  pub takes-answer : (takes p r s y f g).answer ≡ answered reply.taken
  takes-answer = either (λ o. o.answer) (answered reply.taken) refl refl

  pub takes-values : (takes p r s y f g).values ≡ no_values
  takes-values = either (λ o. o.values) no_values refl refl

  pub takes-kind : (takes p r s y f g).pass.kind ≡ s.kind
  unfolding summed_item
  takes-kind = either (λ o. o.pass.kind) s.kind refl refl

  pub takes-taken : (takes p r s y f g).pass.taken ≡ suc s.taken
  unfolding summed_item
  takes-taken = either (λ o. o.pass.taken) (s.taken + 1) refl refl ∙ add-one s.taken

  pub takes-points : (takes p r s y f g).pass.points ≡ s.points
  unfolding summed_item
  takes-points = either (λ o. o.pass.points) s.points refl refl

  -- a pass for the total
  module _ (h : waits next.Total r.next ≡ true) where
    pub takes-total : (takes p r s y f g).pass.total ≡ plus s.total y.worth
    unfolding summed_item
    takes-total = ap (λ o. o.pass.total) (takes-sum p r s y f g h)

    pub takes-dot : r.start.plain ≡ false → (takes p r s y f g).pass.dot ≡ add_mod p s.dot (mul_mod p (entering p r s y) y.g)
    unfolding summed_item
    takes-dot twisted =
        ap (λ o. o.pass.dot) (takes-sum p r s y f g h) ∙ ap (λ t. running p t s.dot (entering p r s y) y.g) twisted

    pub takes-still : kernel_of (takes p r s y f g).pass ≡ kernel_of s
    unfolding summed_item
    takes-still = ap (λ o. kernel_of o.pass) (takes-sum p r s y f g h)

  -- any other
  module _ (h : waits next.Total r.next ≡ false) where
    pub takes-kernel : is_change s.kind ≡ false → kernel_of (takes p r s y f g).pass ≡ entered_item p r s (entering p r s y) y.g
    takes-kernel k = ap (λ o. kernel_of o.pass) (takes-enter p r s y f g h k)

    pub takes-change : is_change s.kind ≡ true
        → kernel_of (takes p r s y f g).pass ≡ placed_kernel p r.challenges (level_of r s.kind) (kernel_of s) (entering p r s y) y.g
    unfolding placed_in
    takes-change k =
        ap (λ o. kernel_of o.pass) (takes-place p r s y f g h k)
        ∙ placed-kernel p r.challenges (level_of r s.kind) (fold_size r) (padding r + s.taken) (placed_of (kernel_of s) f g) (entering p r s y) y.g

    pub takes_none : (takes p r s y f g).pass.total ≡ s.total
    unfolding takes takes_in
    takes_none = ap (λ b. (taking b).pass.total) h

-- its pass does not depend on the buffers
pub takes-buffers : (p : ℕ) (r : Run) (s : Pass) (y : Item) (f g f' g' : List ℕ) → (takes p r s y f g).pass ≡ (takes p r s y f' g').pass
unfolding takes takes_in placed_in
takes-buffers p r s y f g f' g' = by (waits next.Total r.next)
  where
    same : (b : Bool) → (stacked p r s y f g b).kernel ≡ (stacked p r s y f' g' b).kernel
    same true =
        placed-kernel p r.challenges (level_of r s.kind) (fold_size r) (padding r + s.taken) (placed_of (kernel_of s) f g) (entering p r s y) y.g
        ∙ sym (placed-kernel p r.challenges (level_of r s.kind) (fold_size r) (padding r + s.taken) (placed_of (kernel_of s) f' g') (entering p r s y) y.g)
    same false = refl

    by : (b : Bool) → (taking p r s y f g b).pass ≡ (taking p r s y f' g' b).pass
    by true = refl
    by false = ap (with_kernel (one_more s)) (same (is_change s.kind))

module _ (p : ℕ) (r : Run) (b : ℕ) where
  -- what holds of every new pass of a kind holds of the one that is opened
  pub opened-new : {A : Type 0} (part : Pass → A) (a : A) (k : Kind) → ((points : Points) (q : Kernel) → part (new_pass k points q) ≡ a) → part (opened_pass p r k b) ≡ a
  opened-new part a Shut h = h no_points empty_kernel
  opened-new part a Asked h = by (waits next.Openings r.next)
    where
      by : (t : Bool) → part (cond t (new_pass Asked (points_of p b) (padded_kernel r)) (new_pass Asked no_points (open_kernel r))) ≡ a
      by true = h (points_of p b) (padded_kernel r)
      by false = h no_points (open_kernel r)
  opened-new part a Change h = h no_points (padding_below (padding r) (level_of r Change))

-- A PASS AFTER ITS ITEMS
module _ (p : ℕ) (r : Run) (k : Kind) (b : ℕ) where
  pub after-kind : (xs : List Given) → (pass_after p r k b xs).kind ≡ k
  unfolding pass_after
  after-kind [] = opened-new p r b (λ s. s.kind) k k (λ points q. refl)
  after-kind (x ∷ xs) = takes-kind p r (pass_after p r k b xs) (contributes p r.start x) [] [] ∙ after-kind xs

  pub after-taken : (xs : List Given) → (pass_after p r k b xs).taken ≡ length xs
  unfolding pass_after
  after-taken [] = opened-new p r b (λ s. s.taken) 0 k (λ points q. refl)
  after-taken (x ∷ xs) = takes-taken p r (pass_after p r k b xs) (contributes p r.start x) [] [] ∙ ap suc (after-taken xs)

  pub after-points : (xs : List Given) → (pass_after p r k b xs).points ≡ (opened_pass p r k b).points
  unfolding pass_after
  after-points [] = refl
  after-points (x ∷ xs) = takes-points p r (pass_after p r k b xs) (contributes p r.start x) [] [] ∙ after-points xs

  pub after-item : (xs : List Given) (x : Given) (f g : List ℕ) → (takes p r (pass_after p r k b xs) (contributes p r.start x) f g).pass ≡ pass_after p r k b (x ∷ xs)
  unfolding pass_after
  after-item xs x f g = takes-buffers p r (pass_after p r k b xs) (contributes p r.start x) f g [] []

  -- "from index L-1 down"
  pub after-entering : (xs : List Given) (x : Given)
      → entering p r (pass_after p r k b xs) (contributes p r.start x) ≡ enters_as p r.start (r.start.items - 1 - length xs) (contributes p r.start x).f
  unfolding enters_in
  after-entering xs x = ap (λ t. enters_as p r.start (r.start.items - 1 - t) (contributes p r.start x).f) (after-taken xs)
