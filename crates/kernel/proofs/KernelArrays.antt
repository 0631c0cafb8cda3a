-- The arrays of a kernel: what a push and a meeting do to the stacks that they hold.
use mathlib.Core.Path.{◌≡◌, refl, sym, ap, ◌∙◌}
use mathlib.Core.List.{List, ◌∷◌}
use mathlib.Core.Logic.{⊎_elim}
use Prim.Native.Nat.{ℕ, zero, suc, ◌+◌, ◌≤◌, ◌<◌}
use native.Mathlib.Nat.{eq-or-lt_of_le}
use native.Mathlib.Numerals.{add-one}
use native.Mathlib.Omega.{arith}
use lib.ListN.{length, get_or, set, length-set}
use lib.Seq.{get_or-set_same, get_or-set_other}
use borrow.Author.Tests.{le-ltb}
use Rattle.kernel.specs.declared.Evals.{Evals}
use Rattle.kernel.specs.declared.Kernel.{Kernel}
use Rattle.vector.specs.declared.Message.{Message as Sums}
use Rattle.kernel.specs.declared.Climber.{Climber}
use Rattle.kernel.specs.Kernel.{stacks_in, kernel_with, pushed}
use Rattle.kernel.specs.KernelView.{stack_view, stack_f, stack_g, pairs_view, stack_pairs, Sixteen, Paired}
use Rattle.vector.proofs.StackImage.{map_values}

abbrev pub climber : ℕ → ℕ → ℕ → ℕ → Climber
climber count level f g = record { count = count; level = level; f = f; g = g }

-- a stack is read from the places below its count
pub pairs_above : (levels fvalues gvalues : List ℕ) (n at level f g : ℕ) → n ≤ at
    → pairs_view (set levels at level) (set fvalues at f) (set gvalues at g) n ≡ pairs_view levels fvalues gvalues n
unfolding pairs_view
pairs_above levels fvalues gvalues zero at level f g h = refl
pairs_above levels fvalues gvalues (suc n) at level f g h =
    rw (
      get_or-set_other levels at n level 0 (λ e. omega arith),
      get_or-set_other fvalues at n f 0 (λ e. omega arith),
      get_or-set_other gvalues at n g 0 (λ e. omega arith),
      pairs_above levels fvalues gvalues n at level f g (omega arith),
    )

pub pairs_push : (levels fvalues gvalues : List ℕ) (n level f g : ℕ) → n < length levels → n < length fvalues → n < length gvalues
    → pairs_view (set levels n level) (set fvalues n f) (set gvalues n g) (n + 1) ≡ (level, (f, g)) ∷ pairs_view levels fvalues gvalues n
unfolding pairs_view
pairs_push levels fvalues gvalues n level f g hl hf hg =
    rw (
      add-one n,
      get_or-set_same levels n level 0 hl,
      get_or-set_same fvalues n f 0 hf,
      get_or-set_same gvalues n g 0 hg,
      pairs_above levels fvalues gvalues n n level f g (omega arith),
    )

-- the two stacks are the halves of the pairs
pub pairs_first : (levels fvalues gvalues : List ℕ) (n : ℕ) → map_values (λ e. e.0) (pairs_view levels fvalues gvalues n) ≡ stack_view levels fvalues n
unfolding pairs_view stack_view map_values
pairs_first levels fvalues gvalues zero = refl
pairs_first levels fvalues gvalues (suc n) = rw (pairs_first levels fvalues gvalues n)

pub pairs_second : (levels fvalues gvalues : List ℕ) (n : ℕ) → map_values (λ e. e.1) (pairs_view levels fvalues gvalues n) ≡ stack_view levels gvalues n
unfolding pairs_view stack_view map_values
pairs_second levels fvalues gvalues zero = refl
pairs_second levels fvalues gvalues (suc n) = rw (pairs_second levels fvalues gvalues n)

pub same_levels : (flevels glevels values : List ℕ) (n : ℕ) → ((j : ℕ) → j < n → get_or glevels j 0 ≡ get_or flevels j 0)
    → stack_view flevels values n ≡ stack_view glevels values n
unfolding stack_view
same_levels flevels glevels values zero h = refl
same_levels flevels glevels values (suc n) h = rw (h n (omega arith), same_levels flevels glevels values n (λ j l. h j (omega arith)))

pub pairs_count : (levels fvalues gvalues : List ℕ) (n : ℕ) → length (pairs_view levels fvalues gvalues n) ≡ n
unfolding pairs_view
pairs_count levels fvalues gvalues zero = refl
pairs_count levels fvalues gvalues (suc n) = ap suc (pairs_count levels fvalues gvalues n)

module _ (k : Kernel) (pr : Paired k) where
  pub first-stack : map_values (λ e. e.0) (stack_pairs k) ≡ stack_f k
  first-stack = pairs_first k.flevels k.fvalues k.gvalues k.fcount

  pub second-stack : map_values (λ e. e.1) (stack_pairs k) ≡ stack_g k
  second-stack =
      pairs_second k.flevels k.fvalues k.gvalues k.fcount
      ∙ same_levels k.flevels k.glevels k.gvalues k.fcount pr.same
      ∙ ap (stack_view k.glevels k.gvalues) (sym pr.counts)

  module _ (n : ℕ) (sums : Sums) (evals : Evals) (below : n ≤ k.fcount) (sixteen : Sixteen evals) where
    -- with n of its entries
    pub cut_paired : Paired (kernel_with (stacks_in k.flevels k.fvalues k.glevels k.gvalues n) sums evals)
    cut_paired =
        record {
          counts = refl;
          room = omega (arith, pr.room);
          same = λ j l. pr.same j (omega arith);
          flevels = pr.flevels;
          fvalues = pr.fvalues;
          glevels = pr.glevels;
          gvalues = pr.gvalues;
          evals = sixteen;
        }

    -- and one more
    module _ (level f g : ℕ) (h : n ≤ 15) where
      pub push_pairs : stack_pairs (kernel_with (pushed k.flevels k.fvalues k.glevels k.gvalues (climber n level f g)) sums evals)
          ≡ (level, (f, g)) ∷ pairs_view k.flevels k.fvalues k.gvalues n
      push_pairs =
          rw (le-ltb 15 n h)
          (pairs_push k.flevels k.fvalues k.gvalues n level f g (omega (arith, pr.flevels)) (omega (arith, pr.fvalues)) (omega (arith, pr.gvalues)))

      pub push_paired : Paired (kernel_with (pushed k.flevels k.fvalues k.glevels k.gvalues (climber n level f g)) sums evals)
      push_paired =
          rw (le-ltb 15 n h)
          (record {
            counts = refl;
            room = omega arith;
            same = λ j l.
                ⊎_elim
                (λ (e : j ≡ n).
                rw e
                (get_or-set_same k.glevels n level 0 (omega (arith, pr.glevels)) ∙ sym (get_or-set_same k.flevels n level 0 (omega (arith, pr.flevels)))))
                (λ (e : j < n).
                get_or-set_other k.glevels n j level 0 (omega arith) ∙ pr.same j (omega arith) ∙ sym (get_or-set_other k.flevels n j level 0 (omega arith)))
                (eq-or-lt_of_le (omega arith));
            flevels = length-set k.flevels n level ∙ pr.flevels;
            fvalues = length-set k.fvalues n f ∙ pr.fvalues;
            glevels = length-set k.glevels n level ∙ pr.glevels;
            gvalues = length-set k.gvalues n g ∙ pr.gvalues;
            evals = sixteen;
          })
