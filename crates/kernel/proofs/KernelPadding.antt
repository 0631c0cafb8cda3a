-- THE PADDING IN ONE STEP, on the arrays: the kernel that a pass opens with, for t zero pairs.
use mathlib.Core.Path.{◌≡◌, refl, sym, ap, subst, ◌∙◌}
use mathlib.Core.Bool.{Bool, true, false, cond}
use mathlib.Core.List.{[], ◌∷◌}
use Prim.Native.Nat.{ℕ, zero, suc, ◌+◌, ◌-◌, ◌^◌, ◌≤◌}
use native.Mathlib.Numerals.{add-one}
use native.Mathlib.Omega.{arith}
use lib.Dec.{eqb}
use lib.ListN.{set, length-replicate}
use borrow.Author.Tests.{le-ltb}
use Rattle.kernel.specs.declared.Kernel.{Kernel}
use Rattle.vector.specs.Vector.{bit}
use Rattle.vector.specs.Fold.{Pair, combine_pair}
use Rattle.vector.specs.Stack.{Stack, entries}
use Rattle.kernel.specs.Kernel.{sums_in, kernel_with, pushed, empty_kernel, pushed_zero, padding_from, padding_below, padding_kernel}
use Rattle.kernel.specs.KernelView.{pairs_view, stack_pairs, sums_of, Paired}
use Rattle.kernel.proofs.KernelArrays.{climber, push_pairs, push_paired}
use Rattle.vector.proofs.Passes.{no_message}
use Rattle.vector.proofs.Padding.{equal_from, zero_entries, padding-entries}

-- A pass that has taken nothing.
pub empty_paired : Paired empty_kernel
empty_paired =
    let l = length-replicate {A = ℕ} 16 0 in
    record {
      counts = refl;
      room = omega arith;
      same = λ j h. refl;
      flevels = l;
      fvalues = l;
      glevels = l;
      gvalues = l;
      evals = record { fpoint = l; fminus = l; fsquare = l; gpoint = l; gminus = l; gsquare = l };
    }

pub empty_stack : stack_pairs empty_kernel ≡ []
unfolding pairs_view
empty_stack = refl

zero_pushed : (k : Kernel) (m : ℕ) → Paired k → k.fcount ≤ 15
    → pushed_zero k m ≡ kernel_with (pushed k.flevels k.fvalues k.glevels k.gvalues (climber k.fcount m 0 0)) (sums_in k) k.evals
zero_pushed k m pr h =
    rw (le-ltb 15 k.fcount h)
    (ap (λ n.
    record {
      flevels = set k.flevels k.fcount m;
      fvalues = set k.fvalues k.fcount 0;
      fcount = k.fcount + 1;
      glevels = set k.glevels n m;
      gvalues = set k.gvalues n 0;
      gcount = n + 1;
      even = k.even;
      cross = k.cross;
      odd = k.odd;
      evals = k.evals;
    })
    pr.counts)

module _ (t : ℕ) where
  -- a zero pair for a one of t
  abbrev one : ℕ → Kernel → Bool → Kernel
  one m k b = cond b (pushed_zero k m) k

  -- k has the entries st, of the places from m on, up to the last
  abbrev From : ℕ → Kernel → Stack Pair → Type 0
  From m k st = Paired k × (k.fcount + m ≤ 16) × (stack_pairs k ≡ st)

  one_more : (m : ℕ) (k : Kernel) (st : Stack Pair) (b : Bool) → From (suc m) k st → From m (one m k b) (cond b ((m, (0, 0)) ∷ st) st)
  one_more m k st true h =
      let room : k.fcount ≤ 15 = omega (arith, h.1) in
      let new = zero_pushed k m h.0 room in (
        subst Paired (sym new) (push_paired k h.0 k.fcount (sums_in k) k.evals (omega arith) h.0.evals m 0 0 room),
        omega (arith, h.1),
        ap stack_pairs new ∙ push_pairs k h.0 k.fcount (sums_in k) k.evals (omega arith) h.0.evals m 0 0 room ∙ ap (λ s. (m, (0, 0)) ∷ s) h.2,
      )
  one_more m k st false h = (h.0, omega (arith, h.1), h.2)

  -- the zero entries of the levels below a height
  abbrev pub zero_below : ℕ → Stack Pair
  zero_below zero = []
  zero_below (suc i) = zero_entries t i

  from_place : (last m d : ℕ) (k : Kernel) → m + d ≡ last → From m k (equal_from (0, 0) t m d) → From 0 (padding_from t m k) (zero_entries t last)
  unfolding padding_from equal_from
  from_place last zero d k e h = let same : d ≡ last = omega arith in rw same at h
  from_place last (suc m) d k e h =
      from_place last m (suc d) (one m k (eqb (bit m t) 1)) (omega arith)
      (one_more m k (equal_from (0, 0) t (suc m) d) (eqb (bit m t) 1) h)

  last-place : (last : ℕ) → last ≤ 15 → From last (one last empty_kernel (eqb (bit last t) 1)) (equal_from (0, 0) t last 0)
  unfolding equal_from
  last-place last h = one_more last empty_kernel [] (eqb (bit last t) 1) (empty_paired, omega arith, empty_stack)

  from_empty : (height : ℕ) → height ≤ 16 → From 0 (padding_below t height) (zero_below height)
  unfolding padding_below padding_from
  from_empty zero h = (empty_paired, omega arith, empty_stack)
  from_empty (suc last) h =
      rw (le-ltb 16 (suc last) h) (from_place last last 0 (one last empty_kernel (eqb (bit last t) 1)) (omega arith) (last-place last (omega arith)))

  pub below-paired : (height : ℕ) → height ≤ 16 → Paired (padding_below t height)
  below-paired height h = (from_empty height h).0

  -- an entry of value zero for each binary one of t below the height
  pub below-pairs : (height : ℕ) → height ≤ 16 → stack_pairs (padding_below t height) ≡ zero_below height
  below-pairs height h = (from_empty height h).2

  pub padding-paired : (last : ℕ) → last ≤ 15 → Paired (padding_kernel t last)
  padding-paired last h = rw (add-one last) (below-paired (suc last) (omega arith))

  pub padding-pairs : (last : ℕ) → last ≤ 15 → stack_pairs (padding_kernel t last) ≡ zero_entries t last
  padding-pairs last h = rw (add-one last) (below-pairs (suc last) (omega arith))

  -- the sums and the evaluations are zero
  one_kept : (m : ℕ) (k : Kernel) (b : Bool) → (sums_of (one m k b) ≡ sums_of k) × ((one m k b).evals ≡ k.evals)
  one_kept m k true = (refl, refl)
  one_kept m k false = (refl, refl)

  kept_from : (m : ℕ) (k : Kernel) → (sums_of (padding_from t m k) ≡ sums_of k) × ((padding_from t m k).evals ≡ k.evals)
  unfolding padding_from
  kept_from zero k = (refl, refl)
  kept_from (suc m) k =
      let rest = kept_from m (one m k (eqb (bit m t) 1)) in
      let here = one_kept m k (eqb (bit m t) 1) in
      (rest.0 ∙ here.0, rest.1 ∙ here.1)

  pub padding-sums : (last : ℕ) → last ≤ 15 → sums_of (padding_kernel t last) ≡ no_message
  unfolding padding_below
  padding-sums last h = rw (le-ltb 16 (last + 1) (omega arith)) (kept_from (last + 1) empty_kernel).0

  pub padding-evals : (last : ℕ) → last ≤ 15 → (padding_kernel t last).evals ≡ empty_kernel.evals
  unfolding padding_below
  padding-evals last h = rw (le-ltb 16 (last + 1) (omega arith)) (kept_from (last + 1) empty_kernel).1

-- of a vector whose items from L on are zero pairs: the stack after those N - L items
pub padding-stack : (p : ℕ) (c : ℕ → ℕ) (n items : ℕ) (v : ℕ → Pair) → n ≤ 15 → items ≤ 2 ^ n → ((j : ℕ) → items ≤ j → v j ≡ (0, 0))
    → (i : ℕ) → i ≤ n → stack_pairs (padding_kernel (2 ^ n - items) i) ≡ entries (combine_pair p) c n v (2 ^ n - items) i
padding-stack p c n items v hn fits h i hi =
    padding-pairs (2 ^ n - items) i (omega arith) ∙ sym (padding-entries p c n items v fits h (2 ^ n - items) (omega arith) i hi)
