-- A pass after items within their limits is a record that a call returned.
use mathlib.Core.Path.{◌≡◌, refl, sym, ap, ◌∙◌}
use mathlib.Core.Bool.{Bool, true, false, cond, true≢false}
use mathlib.Core.List.{List, [], ◌∷◌}
use Prim.Native.Nat.{ℕ, ◌*◌, ◌≤◌}
use native.Mathlib.Omega.{arith}
use lib.IntN.{nat_abs}
use lib.ListN.{length}
use borrow.Author.Tests.{le-leb, le-ltb, eq-eqb}
use Rattle.refusal.specs.Limit.{max_worth}
use Rattle.kernel.specs.Kernel.{empty_kernel}
use Rattle.phase.specs.declared.Mode.{Mode}
use Rattle.phase.specs.declared.Mode.TheVariants.{Small, Full}
use Rattle.phase.specs.declared.Next.{Next}
use Rattle.phase.specs.declared.Next.TheVariants.{Total, Message, Challenge, Ends, Openings}
use Rattle.phase.specs.declared.Kind.{Kind}
use Rattle.phase.specs.declared.Kind.TheVariants.{Shut, Asked, Change}
use Rattle.phase.specs.Cases.{waits}
use Rattle.phase.specs.Order.{kind_fits}
use Rattle.prover.specs.declared.Run.{Run}
use Rattle.pass.specs.declared.Pass.{Pass}
use Rattle.pass.specs.Pass.{kernel_of}
use Rattle.pass.specs.Formed.{pass_formed}
use Rattle.prover.specs.WellFormed.{run_formed, well_formed}
use Rattle.pass.specs.Open.{new_pass, no_points, points_of}
use Rattle.prover.specs.Open.{padded_kernel}
use Rattle.item.specs.declared.Given.{Given}
use Rattle.item.specs.Item.{contributes}
use Rattle.runs.specs.Passes.{pass_after}
use Rattle.runs.specs.Items.{AllWithin}
use Rattle.runs.proofs.RunFacts.{bounds}
use Rattle.runs.proofs.PassRecord.{takes-still, after-kind, after-taken}
use Rattle.runs.proofs.PassKernel.{after-counts, after-room}
use Rattle.runs.proofs.PassTotal.{after-bound}

-- a pass for the total has no stack
pub after_still : (p : ℕ) (r : Run) (b : ℕ) → waits Total r.next ≡ true → (xs : List Given) → kernel_of (pass_after p r Asked b xs) ≡ empty_kernel
unfolding pass_after
after_still p r b e [] = by r.next e
  where
    by : (n : Next) → waits Total n ≡ true
        → kernel_of (cond (waits Openings n) (new_pass Asked (points_of p b) (padded_kernel r)) (new_pass Asked no_points (cond (waits Total n) empty_kernel (padded_kernel r)))) ≡ empty_kernel
    by Total e = refl
    by Message e = absurd (true≢false (sym e))
    by Challenge e = absurd (true≢false (sym e))
    by Ends e = absurd (true≢false (sym e))
    by Openings e = absurd (true≢false (sym e))
after_still p r b e (x ∷ xs) = takes-still p r (pass_after p r Asked b xs) (contributes p r.start x) [] [] e ∙ after_still p r b e xs

-- no change before the total
change_later : (m : Mode) (n : Next) → kind_fits Change m n ≡ true → waits Total n ≡ false
change_later Small Total h = sym h
change_later Small Message h = refl
change_later Small Challenge h = refl
change_later Small Ends h = refl
change_later Small Openings h = refl
change_later Full n h = absurd (true≢false (sym h))

formed_by : (p : ℕ) (r : Run) (s : Pass) → run_formed p r ≡ true → kind_fits s.kind r.mode r.next ≡ true → s.taken ≤ r.start.items
    → s.fcount ≡ s.gcount → s.fcount ≤ 15 → nat_abs s.total ≤ s.taken * max_worth → well_formed p r s ≡ true
unfolding well_formed pass_formed
formed_by p r s h fits within counts room bound =
    rw
    (h, fits, le-ltb r.start.items s.taken within, eq-eqb s.fcount s.gcount counts, le-ltb 15 s.fcount room, le-leb (nat_abs s.total) (s.taken * max_worth) bound)

module _ (p : ℕ) (r : Run) (b : ℕ) (formed : run_formed p r ≡ true) where
  counts : (k : Kind) → kind_fits k r.mode r.next ≡ true → (xs : List Given) → length xs ≤ r.start.items → (k ≡ Shut → xs ≡ [])
      → ((pass_after p r k b xs).fcount ≡ (pass_after p r k b xs).gcount) × ((pass_after p r k b xs).fcount ≤ 15)
  unfolding pass_after
  counts Shut fits xs within none = rw (none refl) (refl, omega arith)
  counts Asked fits xs within none = by (waits Total r.next) refl
    where
      by : (t : Bool) → waits Total r.next ≡ t → ((pass_after p r Asked b xs).fcount ≡ (pass_after p r Asked b xs).gcount) × ((pass_after p r Asked b xs).fcount ≤ 15)
      by true e =
          let q = after_still p r b e xs in
          let f = ap (λ k. k.fcount) q in
          (f ∙ sym (ap (λ k. k.gcount) q), omega (arith, f))
      by false e = (after-counts p r b e Asked refl formed xs within, after-room p r b e Asked refl formed xs within)
  counts Change fits xs within none =
      let e = change_later r.mode r.next fits in
      (after-counts p r b e Change refl formed xs within, after-room p r b e Change refl formed xs within)

  -- with no pass open there are no items
  pub after-formed : (k : Kind) (xs : List Given) → kind_fits k r.mode r.next ≡ true → AllWithin r.start xs → length xs ≤ r.start.items
      → (k ≡ Shut → xs ≡ []) → well_formed p r (pass_after p r k b xs) ≡ true
  after-formed k xs fits good within none =
      let s : Pass = pass_after p r k b xs in
      let taken : s.taken ≡ length xs = after-taken p r k b xs in
      let few : length xs ≤ 32768 = omega (arith, (bounds p r formed).most) in
      let c = counts k fits xs within none in
      formed_by p r s formed (ap (λ m. kind_fits m r.mode r.next) (after-kind p r k b xs) ∙ fits) (omega arith) c.0 c.1
      (rw taken (after-bound p r k b xs good few))
