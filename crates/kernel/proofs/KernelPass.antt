-- A SMALL PASS on the kernel: what it has after t of the N = 2^n items of f and g, in a pass that folds to level i.
use mathlib.Core.Path.{◌≡◌, refl, sym, ap, ◌∙◌}
use mathlib.Core.Bool.{Bool, true, false, cond}
use mathlib.Core.List.{List, [], ◌∷◌}
use Prim.Native.Nat.{ℕ, suc, ◌-◌, ◌/◌, ◌^◌, ◌<◌, ◌≤◌}
use native.Mathlib.Omega.{arith}
use lib.Dec.{eqb, ltb}
use lib.ListN.{length}
use borrow.Author.Tests.{ltb-true}
use Rattle.kernel.specs.declared.Points.{Points}
use Rattle.kernel.specs.declared.Kernel.{Kernel}
use Rattle.vector.specs.Rounds.{size}
use Rattle.vector.specs.Vector.{Vector, at as items}
use Rattle.vector.specs.Fold.{Pair, fold_with, combine, combine_pair, beside, fold}
use Rattle.vector.specs.Stack.{Stack, entries, ones}
use Rattle.kernel.specs.Kernel.{entered}
use Rattle.kernel.specs.KernelView.{stack_f, stack_g, stack_pairs, sums_of, Paired}
use Rattle.vector.proofs.Folds.{fold-beside}
use Rattle.vector.proofs.Counts.{completes_zero}
use Rattle.vector.proofs.Machine.{enter, gathered}
use Rattle.vector.proofs.StackLaw.{enter-item}
use Rattle.vector.proofs.StackCount.{ones_at_most, ones_below_lem, entries-count}
use Rattle.vector.proofs.StackImage.{map_values, entries-first, entries-second}
use Rattle.vector.proofs.Gathering.{last_pairs, sums_step}
use Rattle.vector.proofs.Passes.{no_message, add_pair, last_message, last-message}
use Rattle.kernel.proofs.KernelArrays.{pairs_count, first-stack, second-stack}
use Rattle.kernel.proofs.KernelMachine.{Gathered, arriving, meeting, gathering, entered-enter, entered-paired}
use Rattle.kernel.proofs.KernelEvals.{Evaluated, evaluated-step}

pub record Taken (p n : ℕ) (c : ℕ → ℕ) (i : ℕ) (at : Points) (f g : Vector) (t : ℕ) (k : Kernel) : Type 0 where
  pub paired : Paired k
  pub stack : stack_pairs k ≡ entries (combine_pair p) c n (beside f g) t i
  pub sums : i < n → sums_of k ≡ last_message p (fold p c i f) (fold p c i g) (size n (suc i)) (t / 2 ^ suc i)
  pub evals : at.on ≡ true → (l : ℕ) → l ≤ i → Evaluated p n c at f g t k.evals l

-- a pass to level i uses the challenges below i
module _ {A M : Type 0} (combine : ℕ → A → A → A) (arrive : ℕ → A → M → M) (emit : A → A → M → M) (c d : ℕ → ℕ) (i : ℕ) (agree : (j : ℕ) → j < i → c j ≡ d j) where
  pub enter-challenges : (k : ℕ) (new : A) (st : Stack A) (m : M) → enter combine arrive emit c i k new st m ≡ enter combine arrive emit d i k new st m
  unfolding enter
  enter-challenges k new [] m = refl
  enter-challenges k new (top ∷ rest) m =
      go (eqb k top.0) (ltb k i) refl (enter-challenges (suc k) (combine (c k) new top.1) rest (arrive k new m))
    where
      go : (same less : Bool) → ltb k i ≡ less
          → enter combine arrive emit c i (suc k) (combine (c k) new top.1) rest (arrive k new m) ≡ enter combine arrive emit d i (suc k) (combine (c k) new top.1) rest (arrive k new m)
          → cond same (cond less (enter combine arrive emit c i (suc k) (combine (c k) new top.1) rest (arrive k new m)) (rest, emit new top.1 (arrive k new m))) ((k, new) ∷ top ∷ rest, arrive k new m)
          ≡ cond same (cond less (enter combine arrive emit d i (suc k) (combine (d k) new top.1) rest (arrive k new m)) (rest, emit new top.1 (arrive k new m))) ((k, new) ∷ top ∷ rest, arrive k new m)
      go true true e r = r ∙ ap (λ x. enter combine arrive emit d i (suc k) (combine x new top.1) rest (arrive k new m)) (agree k (ltb-true k i e))
      go true false e r = refl
      go false less e r = refl

module _ (p n : ℕ) (c : ℕ → ℕ) (i : ℕ) (at : Points) (f g : Vector) (hn : n ≤ 15) (hi : i ≤ n) where
  abbrev Has : ℕ → Kernel → Type 0
  Has t k = Taken p n c i at f g t k

  -- the stacks are document 01's, for each vector
  pub taken-first : (t : ℕ) (k : Kernel) → Has t k → stack_f k ≡ entries (combine p) c n f t i
  taken-first t k h = sym (first-stack k h.paired) ∙ ap (map_values (λ e. e.0)) h.stack ∙ entries-first p c f g n t i

  pub taken-second : (t : ℕ) (k : Kernel) → Has t k → stack_g k ≡ entries (combine p) c n g t i
  taken-second t k h = sym (second-stack k h.paired) ∙ ap (map_values (λ e. e.1)) h.stack ∙ entries-second p c f g n t i

  -- with their counts: the binary ones of t modulo 2^(i+1)
  pub taken-count : (t : ℕ) (k : Kernel) → Has t k → k.fcount ≡ ones (suc i) t
  taken-count t k h =
      sym (pairs_count k.flevels k.fvalues k.gvalues k.fcount) ∙ ap length h.stack ∙ entries-count (combine_pair p) c n (beside f g) t i

  pub taken-at-most : (t : ℕ) (k : Kernel) → Has t k → k.fcount ≤ suc i
  taken-at-most t k h = rw (taken-count t k h) (ones_at_most (suc i) t)

  -- there is room for one more entry before an item is taken
  pub taken-room : (t : ℕ) (k : Kernel) → t < 2 ^ n → Has t k → k.fcount ≤ 15
  taken-room t k ht h = rw (taken-count t k h) (omega (arith, ones_below_lem n (suc i) t ht))

  -- ONE MORE ITEM of the pass
  module _ (cs : List ℕ) (agree : (j : ℕ) → j < i → items cs j ≡ c j) (t : ℕ) (ht : t < 2 ^ n) (k : Kernel) (h : Has t k) where
    abbrev next : Kernel
    next = entered p cs i at k (f (2 ^ n - 1 - t)) (g (2 ^ n - 1 - t))

    abbrev more : Gathered
    more = gathered (combine_pair p) c n (beside f g) (arriving p at) (meeting p) i 0 t (gathering k)

    item-step : ◌≡◌ {A = Stack Pair × Gathered} (stack_pairs next, gathering next) (entries (combine_pair p) c n (beside f g) (suc t) i, more)
    item-step =
        sym (entered-enter p cs i at k h.paired (taken-room t k ht h) (omega arith) (f (2 ^ n - 1 - t)) (g (2 ^ n - 1 - t)))
        ∙ enter-challenges (combine_pair p) (arriving p at) (meeting p) (items cs) c i agree 0 (f (2 ^ n - 1 - t), g (2 ^ n - 1 - t)) (stack_pairs k) (gathering k)
        ∙ ap (λ st. enter (combine_pair p) (arriving p at) (meeting p) c i 0 (f (2 ^ n - 1 - t), g (2 ^ n - 1 - t)) st (gathering k)) h.stack
        ∙ enter-item (combine_pair p) c n (beside f g) (arriving p at) (meeting p) i hi t ht (gathering k)

    pairs_sums : (q : ℕ) → last_pairs (add_pair p) (fold_with (combine_pair p) c i (beside f g)) (size n (suc i)) no_message q
        ≡ last_message p (fold p c i f) (fold p c i g) (size n (suc i)) q
    pairs_sums q =
        ap (λ v. last_pairs (add_pair p) v (size n (suc i)) no_message q) (fold-beside p c f g i)
        ∙ last-message p (fold p c i f) (fold p c i g) (size n (suc i)) q

    item-sums : (less : i < n) → sums_of next ≡ last_message p (fold p c i f) (fold p c i g) (size n (suc i)) (suc t / 2 ^ suc i)
    item-sums less =
        ap (λ r. r.1.sums) item-step
        ∙ sums_step (combine_pair p) c n (beside f g) (arriving p at) (meeting p) (add_pair p) (λ m. m.sums) (λ k a m. refl) (λ even odd m. refl) i less no_message
        i 0 (omega arith) t ht (completes_zero t) (gathering k) (h.sums less ∙ sym (pairs_sums (t / 2 ^ suc i)))
        ∙ pairs_sums (suc t / 2 ^ suc i)

    item-evals : at.on ≡ true → (l : ℕ) → l ≤ i → Evaluated p n c at f g (suc t) next.evals l
    item-evals on l hl =
        rw (ap (λ r. r.1.evals) item-step)
        (evaluated-step p at on c n f g i l hl (omega arith) t ht (gathering k) h.paired.evals (h.evals on l hl))

    pub taken_item : Taken p n c i at f g (suc t) (entered p cs i at k (f (2 ^ n - 1 - t)) (g (2 ^ n - 1 - t)))
    taken_item =
        record {
          paired = entered-paired p cs i at k h.paired (taken-room t k ht h) (omega arith) (f (2 ^ n - 1 - t)) (g (2 ^ n - 1 - t));
          stack = ap (λ r. r.0) item-step;
          sums = item-sums;
          evals = item-evals;
        }
