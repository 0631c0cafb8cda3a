-- THE PASS THAT IS OPENED: its padding is what it has taken, and it makes a well-formed record.
use mathlib.Core.Path.{◌≡◌, refl, sym, ap, subst, ◌∙◌}
use mathlib.Core.Bool.{Bool, true, false, cond}
use Prim.Native.Nat.{ℕ, suc, ◌-◌, ◌^◌, ◌≤◌, ◌<◌}
use native.Mathlib.Omega.{arith}
use lib.Pow.{pow_mono}
use borrow.Author.Tests.{le-ltb, eq-eqb}
use Rattle.kernel.specs.declared.Kernel.{Kernel}
use Rattle.kernel.specs.declared.Points.{Points}
use Rattle.vector.specs.Vector.{Vector}
use Rattle.kernel.specs.Kernel.{empty_kernel, padding_kernel}
use Rattle.vector.proofs.Rounds.{rounds-enough, size-all}
use Rattle.vector.proofs.StackCount.{ones_below_lem}
use Rattle.kernel.proofs.KernelLevels.{levelled_padding, levelled_count}
use Rattle.kernel.proofs.KernelPass.{Taken}
use Rattle.kernel.proofs.KernelOpen.{taken-padding}
use Rattle.phase.specs.declared.Next.TheVariants as next
use Rattle.phase.specs.declared.Kind.{Kind}
use Rattle.phase.specs.declared.Kind.TheVariants.{Asked}
use Rattle.phase.specs.Cases.{waits}
use Rattle.phase.specs.Order.{kind_fits}
use Rattle.phase.proofs.Facts.{level-at-most}
use Rattle.prover.specs.declared.Run.{Run}
use Rattle.pass.specs.declared.Pass.{Pass}
use Rattle.prover.specs.Level.{level_of, padding}
use Rattle.pass.specs.Formed.{pass_formed}
use Rattle.prover.specs.WellFormed.{run_formed, well_formed}
use Rattle.pass.specs.Open.{new_pass}
use Rattle.prover.specs.Open.{padded_kernel, open_kernel}
use Rattle.pass.proofs.Facts.{size_32}
use Rattle.prover.proofs.Facts.{Formed, holds}

-- A new pass is well formed where its kind fits and its kernel's stacks have room.
pub new_formed : (p : ℕ) (r : Run) (s : Pass) (kind : Kind) (points : Points) (k : Kernel) → well_formed p r s ≡ true
    → kind_fits kind r.mode r.next ≡ true → k.fcount ≡ k.gcount → k.fcount ≤ 15 → well_formed p r (new_pass kind points k) ≡ true
unfolding well_formed pass_formed
new_formed p r s kind points k h fits counts room =
    simp
    ((holds (run_formed p r) (pass_formed r.start.items r.mode r.next s) h).0, fits, le-ltb r.start.items 0 (omega arith), eq-eqb k.fcount k.gcount counts, le-ltb 15 k.fcount room)

module _ (r : Run) (s : Pass) (h : Formed r s) where
  -- the padding is N - L
  pub padding-is : padding r ≡ 2 ^ r.start.rounds - r.start.items
  padding-is = ap (λ n. n - r.start.items) (size_32 r.start.rounds 0 h.few ∙ size-all r.start.rounds)

  padding-below : padding r < 2 ^ 15
  padding-below =
      let most : 2 ^ r.start.rounds ≤ 2 ^ 15 = pow_mono h.few in
      omega (arith, padding-is, h.some)

  level-few : level_of r Asked ≤ 15
  level-few = omega (arith, level-at-most r.start.rounds r.round r.next Asked h.round, h.few)

  -- one entry for each binary one of the padding, so at most fifteen
  pub padded-counts : (padded_kernel r).fcount ≡ (padded_kernel r).gcount
  padded-counts = sym (levelled_padding (padding r) (level_of r Asked) level-few).paired.counts

  pub padded-room : (padded_kernel r).fcount ≤ 15
  padded-room =
      let l = levelled_padding (padding r) (level_of r Asked) level-few in
      omega (arith, levelled_count (level_of r Asked) (padding r) (padded_kernel r) l, ones_below_lem 15 (suc (level_of r Asked)) (padding r) padding-below)

  -- of any two vectors whose items from L on are zero, the padding is what the pass has taken
  pub padded-taken : (p : ℕ) (c : ℕ → ℕ) (at : Points) (f g : Vector) → ((j : ℕ) → r.start.items ≤ j → f j ≡ 0) → ((j : ℕ) → r.start.items ≤ j → g j ≡ 0)
      → Taken p r.start.rounds c (level_of r Asked) at f g (2 ^ r.start.rounds - r.start.items) (padded_kernel r)
  padded-taken p c at f g zf zg =
      let enough : r.start.items ≤ 2 ^ r.start.rounds = subst (λ n. r.start.items ≤ 2 ^ n) (sym h.rounds) (rounds-enough r.start.items h.most) in
      subst (λ t. Taken p r.start.rounds c (level_of r Asked) at f g (2 ^ r.start.rounds - r.start.items) (padding_kernel t (level_of r Asked))) (sym padding-is)
      (taken-padding p r.start.rounds c (level_of r Asked) at f g h.few (level-at-most r.start.rounds r.round r.next Asked h.round) r.start.items enough zf zg)

-- a pass for the total has no stack
pub open_counts : (r : Run) (s : Pass) → Formed r s → ((open_kernel r).fcount ≡ (open_kernel r).gcount) × ((open_kernel r).fcount ≤ 15)
open_counts r s h = by (waits next.Total r.next)
  where
    by : (b : Bool) → ((cond b empty_kernel (padded_kernel r)).fcount ≡ (cond b empty_kernel (padded_kernel r)).gcount) × ((cond b empty_kernel (padded_kernel r)).fcount ≤ 15)
    by true = (refl, omega arith)
    by false = (padded-counts r s h, padded-room r s h)
