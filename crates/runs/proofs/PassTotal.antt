-- The sum of a pass for the total: exact for items within their limits, and small in any pass.
use mathlib.Core.Path.{◌≡◌, refl, ap₂, ◌∙◌}
use mathlib.Core.Bool.{Bool, true, false}
use mathlib.Core.List.{List, [], ◌∷◌}
use Prim.Native.Nat.{ℕ, ◌*◌, ◌≤◌}
use native.Mathlib.Nat.{mul-le-mul}
use native.Mathlib.Omega.{arith}
use lib.IntN.{pos, nat_abs}
use lib.ListN.{length}
use Rattle.refusal.specs.Limit.{max_worth}
use Rattle.field.specs.Total.{plus}
use Rattle.field.proofs.Signed.{nat_abs_add, nat_abs_mul}
use Rattle.field.proofs.Totals.{plus-exact}
use Rattle.phase.specs.declared.Next.TheVariants as next
use Rattle.phase.specs.declared.Kind.{Kind}
use Rattle.phase.specs.Cases.{waits}
use Rattle.prover.specs.declared.Run.{Run}
use Rattle.item.specs.declared.Start.{Start}
use Rattle.item.specs.declared.Given.{Given}
use Rattle.item.specs.declared.Given.TheVariants.{Reading, Numbers}
use Rattle.item.specs.Mark.{counts_as}
use Rattle.item.specs.Item.{contributes}
use Rattle.runs.specs.Trip.{worth, sum_of}
use Rattle.runs.specs.Passes.{pass_after}
use Rattle.runs.specs.Items.{Within, AllWithin}
use Rattle.runs.proofs.PassRecord.{takes-total, takes_none, opened-new}

worth-bound : (s : Start) (x : Given) → Within s x → nat_abs (worth s x) ≤ max_worth
worth-bound s (Reading z w) h = rw (nat_abs_mul (counts_as s.version z) (pos w)) (mul-le-mul h.0 h.1)
worth-bound s (Numbers a b) h = omega arith

pub sum_bound_lem : (s : Start) (xs : List Given) → AllWithin s xs → nat_abs (sum_of s xs) ≤ length xs * max_worth
unfolding sum_of AllWithin
sum_bound_lem s [] h = omega arith
sum_bound_lem s (x ∷ xs) h = omega (arith, sum_bound_lem s xs h.1, worth-bound s x h.0, nat_abs_add (sum_of s xs) (worth s x))

worth-same : (p : ℕ) (start : Start) (x : Given) → (contributes p start x).worth ≡ worth start x
worth-same p start (Reading z w) = refl
worth-same p start (Numbers a b) = refl

module _ (p : ℕ) (r : Run) (k : Kind) (b : ℕ) where
  opened-total : (pass_after p r k b []).total ≡ pos 0
  unfolding pass_after
  opened-total = opened-new p r b (λ s. s.total) (pos 0) k (λ points q. refl)

  -- READINGS TIMES MINUTES, as long as no more than 32,768 items were taken
  pub after-total : waits next.Total r.next ≡ true → (xs : List Given) → AllWithin r.start xs → length xs ≤ 32768 → (pass_after p r k b xs).total ≡ sum_of r.start xs
  unfolding pass_after sum_of AllWithin
  after-total e [] h few = opened-total
  after-total e (x ∷ xs) h few =
      takes-total p r (pass_after p r k b xs) (contributes p r.start x) [] [] e
      ∙ ap₂ plus (after-total e xs h.1 (omega arith)) (worth-same p r.start x)
      ∙ plus-exact (sum_of r.start xs) (worth r.start x) (omega (arith, sum_bound_lem r.start xs h.1)) (omega (arith, worth-bound r.start x h.0))

  -- no other pass sums
  pub after_none : waits next.Total r.next ≡ false → (xs : List Given) → (pass_after p r k b xs).total ≡ pos 0
  unfolding pass_after
  after_none e [] = opened-total
  after_none e (x ∷ xs) = takes_none p r (pass_after p r k b xs) (contributes p r.start x) [] [] e ∙ after_none e xs

  pub after-bound : (xs : List Given) → AllWithin r.start xs → length xs ≤ 32768 → nat_abs (pass_after p r k b xs).total ≤ length xs * max_worth
  after-bound xs h few = by (waits next.Total r.next) refl
    where
      by : (t : Bool) → waits next.Total r.next ≡ t → nat_abs (pass_after p r k b xs).total ≤ length xs * max_worth
      by true e = rw (after-total e xs h few) (sum_bound_lem r.start xs h)
      by false e = rw (after_none e xs) (omega arith)
