-- A CHANGE PASS on the kernel: what it has after t of the N = 2^n items of f and g, and which item of the current fold a pair completes.
use mathlib.Core.Path.{◌≡◌, refl, sym, ap, subst, ◌∙◌}
use mathlib.Core.Bool.{Bool, true, false, cond}
use mathlib.Core.List.{List, [], ◌∷◌}
use Prim.Native.Nat.{ℕ, zero, suc, ◌-◌, ◌/◌, ◌%◌, ◌^◌, ◌<◌, ◌≤◌}
use native.Mathlib.Nat.{div-one}
use native.Mathlib.Omega.{arith}
use lib.Dec.{eqb, ltb}
use Rattle.vector.specs.Rounds.{size}
use Rattle.vector.specs.Vector.{Vector, at as items}
use Rattle.vector.specs.Fold.{Pair, fold_with, combine_pair, beside, fold}
use Rattle.vector.specs.Stack.{Stack, entries, levels}
use Rattle.vector.proofs.Rounds.{size-all}
use Rattle.vector.proofs.Folds.{fold-beside}
use Rattle.vector.proofs.Counts.{completes_zero}
use Rattle.vector.proofs.Machine.{enter, gathered}
use Rattle.vector.proofs.StackLaw.{enter-item}
use Rattle.vector.proofs.StackCount.{ones_below_lem, entries-levels}
use Rattle.vector.proofs.StackImage.{map_values, enter-image}
use Rattle.vector.proofs.Padding.{padding-entries}
use Rattle.vector.proofs.Arrivals.{StopsAt, stops_last, stops_below, multiple_completes, completes_multiple, arrivals, joined-arrives}
use Rattle.kernel.specs.declared.Kernel.{Kernel}
use Rattle.kernel.specs.declared.Climber.{Climber}
use Rattle.kernel.specs.Kernel.{climber_in, padding_below}
use Rattle.kernel.specs.KernelView.{entries_below, ones_below, stack_pairs, Paired}
use Rattle.kernel.proofs.KernelPadding.{zero_below, below-paired, below-pairs}
use Rattle.kernel.proofs.KernelLevels.{LevelledBelow, below-count, map_levels, still, bare_entries, bare_of, bare_levels}
use Rattle.kernel.proofs.KernelPass.{enter-challenges}
use Rattle.kernel.proofs.KernelChange.{Arrival, arrives_at, joins, arrival_of, left_kernel, lowest_climber, lowest_kept, left-enter, left-paired}

-- what a machine gathers depends on the image alone
module _ {A B : Type 0} (combine_a : ℕ → A → A → A) (combine_b : ℕ → B → B → B) (h : A → B)
    (respects : (c : ℕ) (even odd : A) → h (combine_a c even odd) ≡ combine_b c (h even) (h odd)) (c : ℕ → ℕ) {M N : Type 0}
    (arrive : ℕ → A → M → M) (emit : A → A → M → M) (arrive' : ℕ → B → N → N) (emit' : B → B → N → N) (φ : M → N)
    (arrives : (k : ℕ) (a : A) (m : M) → φ (arrive k a m) ≡ arrive' k (h a) (φ m))
    (emits : (even odd : A) (m : M) → φ (emit even odd m) ≡ emit' (h even) (h odd) (φ m)) where
  gathers_image : (i k : ℕ) (new : A) (st : Stack A) (m : M)
      → φ (enter combine_a arrive emit c i k new st m).1 ≡ (enter combine_b arrive' emit' c i k (h new) (map_values h st) (φ m)).1
  unfolding enter map_values
  gathers_image i k new [] m = arrives k new m
  gathers_image i k new (e ∷ rest) m =
      by (eqb k e.0) (ltb k i)
      (enter combine_a arrive emit c i (suc k) (combine_a (c k) new e.1) rest (arrive k new m))
      (enter combine_b arrive' emit' c i (suc k) (combine_b (c k) (h new) (h e.1)) (map_values h rest) (arrive' k (h new) (φ m)))
      (gathers_image i (suc k) (combine_a (c k) new e.1) rest (arrive k new m)
      ∙ ap (λ a. (enter combine_b arrive' emit' c i (suc k) a (map_values h rest) (φ (arrive k new m))).1) (respects (c k) new e.1)
      ∙ ap (λ x. (enter combine_b arrive' emit' c i (suc k) (combine_b (c k) (h new) (h e.1)) (map_values h rest) x).1) (arrives k new m))
    where
      by : (same below : Bool) (up : Stack A × M) (up' : Stack B × N) → φ up.1 ≡ up'.1
          → φ (cond same (cond below up (rest, emit new e.1 (arrive k new m))) ((k, new) ∷ e ∷ rest, arrive k new m)).1
          ≡ (cond same (cond below up' (map_values h rest, emit' (h new) (h e.1) (arrive' k (h new) (φ m)))) ((k, h new) ∷ (e.0, h e.1) ∷ map_values h rest, arrive' k (h new) (φ m))).1
      by true true up up' r = r
      by true false up up' r = emits new e.1 (arrive k new m) ∙ ap (emit' (h new) (h e.1)) (arrives k new m)
      by false below up up' r = arrives k new m

-- level 0: every pair is an item of fold 0
stops_lowest : (t : ℕ) → StopsAt 0 t 0
stops_lowest t = (omega arith, completes_zero t, λ h. absurd (omega arith))

abbrev last_level : ℕ → Unit {0} → ℕ → ℕ
last_level k a m = k

abbrev unnamed : ℕ → Unit {0}
unnamed j = tt

-- ANY PAIR: the levels that it leaves, and the level that it comes to
module _ (n : ℕ) (hn : n ≤ 15) (t : ℕ) (ht : t < 2 ^ n) (p : ℕ) (cs : List ℕ) (f g : ℕ) where
  room : (i : ℕ) (k : Kernel) → LevelledBelow i t k → k.fcount ≤ 15
  room i k h = omega (arith, below-count i t k h, ones_below_lem n i t ht)

  -- the stack with its values left out
  bare : (i : ℕ) (k : Kernel) → LevelledBelow (suc i) t k → map_values (λ (a : Pair). tt) (stack_pairs k) ≡ bare_entries (items cs) n t i
  bare i k h =
      sym (bare_levels (map_values (λ (a : Pair). tt) (stack_pairs k)))
      ∙ ap bare_of (map_levels (λ (a : Pair). tt) (stack_pairs k) ∙ h.places ∙ sym (entries-levels still (items cs) n unnamed t i))
      ∙ bare_levels (bare_entries (items cs) n t i)

  pub levelled_left : (i : ℕ) → i ≤ n → (k : Kernel) → LevelledBelow i t k → LevelledBelow i (suc t) (left_kernel i k (climber_in p cs i k f g))
  levelled_left zero hi k h = record { paired = subst Paired same h.paired; places = ap (λ q. levels (stack_pairs q)) (sym same) ∙ h.places }
    where
      same : k ≡ left_kernel 0 k (climber_in p cs 0 k f g)
      same = sym (lowest_kept p cs k f g h.paired)
  levelled_left (suc i) hi k h = record { paired = left-paired p cs i k h.paired (room (suc i) k h) f g; places = places }
    where
      next : Kernel
      next = left_kernel (suc i) k (climber_in p cs (suc i) k f g)

      nothing : Unit {0}
      nothing = tt

      after : map_values (λ (a : Pair). tt) (stack_pairs next) ≡ bare_entries (items cs) n (suc t) i
      after =
          ap (λ r. map_values (λ (a : Pair). tt) r.0) (sym (left-enter p cs i k h.paired (room (suc i) k h) f g (0, (0, 0))))
          ∙ enter-image (combine_pair p) still (λ a. tt) (λ c even odd. refl) (items cs) arrives_at (joins p (items cs) i) (λ k a m. m) (λ even odd m. m) i 0 (f, g) (stack_pairs k) (0, (0, 0)) nothing
          ∙ ap (λ st. (enter still (λ k a m. m) (λ even odd m. m) (items cs) i 0 tt st nothing).0) (bare i k h)
          ∙ ap (λ r. r.0) (enter-item still (items cs) n unnamed (λ k a m. m) (λ even odd m. m) i (omega arith) t ht nothing)

      places : levels (stack_pairs next) ≡ ones_below (suc t) (suc i)
      places = sym (map_levels (λ (a : Pair). tt) (stack_pairs next)) ∙ ap levels after ∙ entries-levels still (items cs) n unnamed (suc t) i

  stopped : (i : ℕ) → i ≤ n → (k : Kernel) → LevelledBelow i t k → StopsAt i t (climber_in p cs i k f g).level
  stopped zero hi k h = subst (λ (c : Climber). StopsAt 0 t c.level) (sym (lowest_climber p cs k f g)) (stops_lowest t)
  stopped (suc i) hi k h =
      let r = arrivals still (items cs) n unnamed last_level (λ even odd m. m) (λ m. m) (λ m. tt) (λ k a m. refl) (λ k a m. refl) (λ even odd m. refl) (λ even odd m. refl)
      (suc i) (suc i) 0 (omega arith) t (completes_zero t) 0 in
      let same : (climber_in p cs (suc i) k f g).level ≡ r.0 =
      ap (λ r. r.1.0) (sym (left-enter p cs i k h.paired (room (suc i) k h) f g (0, (0, 0))))
      ∙ gathers_image (combine_pair p) still (λ a. tt) (λ c even odd. refl) (items cs) arrives_at (joins p (items cs) i) last_level (λ even odd m. suc i) (λ m. m.0)
      (λ k a m. refl) (λ even odd m. refl) i 0 (f, g) (stack_pairs k) (0, (0, 0))
      ∙ ap (λ st. (enter still last_level (λ even odd m. suc i) (items cs) i 0 tt st 0).1) (bare i k h)
      ∙ ap (λ r. r.1) (enter-item still (items cs) n unnamed last_level (λ even odd m. suc i) i (omega arith) t ht 0)
      ∙ joined-arrives still (items cs) n unnamed last_level i (omega arith) t ht i 0 (omega arith) (completes_zero t) 0
      ∙ r.1.0 in
      subst (StopsAt (suc i) t) (sym same) r.1.2

  -- level i, where the items taken are a multiple of 2^i
  pub reaches_last : (i : ℕ) → i ≤ n → (k : Kernel) → LevelledBelow i t k → suc t % 2 ^ i ≡ 0 → (climber_in p cs i k f g).level ≡ i
  reaches_last i hi k h e = stops_last i t (climber_in p cs i k f g).level (stopped i hi k h) (multiple_completes i t e)

  pub stops_before : (i : ℕ) → i ≤ n → (k : Kernel) → LevelledBelow i t k → (suc t % 2 ^ i ≡ 0 → ⊥) → (climber_in p cs i k f g).level < i
  stops_before i hi k h ne = stops_below i t (climber_in p cs i k f g).level (stopped i hi k h) (λ up. ne (completes_multiple i t up))

-- THE ITEMS OF f AND g
pub record Changing (p n : ℕ) (c : ℕ → ℕ) (i : ℕ) (f g : Vector) (t : ℕ) (k : Kernel) : Type 0 where
  pub paired : Paired k
  pub stack : stack_pairs k ≡ entries_below (combine_pair p) c n (beside f g) t i

nothing-levels : levels {A = Pair} [] ≡ []
unfolding levels
nothing-levels = refl

pub changing-levelled : (p n : ℕ) (c : ℕ → ℕ) (i : ℕ) (f g : Vector) (t : ℕ) (k : Kernel) → Changing p n c i f g t k → LevelledBelow i t k
changing-levelled p n c i f g t k h = record { paired = h.paired; places = ap levels h.stack ∙ go i }
  where
    go : (i : ℕ) → levels (entries_below (combine_pair p) c n (beside f g) t i) ≡ ones_below t i
    go zero = nothing-levels
    go (suc i) = entries-levels (combine_pair p) c n (beside f g) t i

-- after the padding
pub changing-padding : (p n : ℕ) (c : ℕ → ℕ) (i : ℕ) (f g : Vector) → n ≤ 15 → i ≤ n → (count : ℕ) → count ≤ 2 ^ n
    → ((j : ℕ) → count ≤ j → f j ≡ 0) → ((j : ℕ) → count ≤ j → g j ≡ 0) → Changing p n c i f g (2 ^ n - count) (padding_below (2 ^ n - count) i)
changing-padding p n c i f g hn hi count fits zf zg =
    record { paired = below-paired (2 ^ n - count) i (omega arith); stack = below-pairs (2 ^ n - count) i (omega arith) ∙ go i hi }
  where
    zero-pairs : (j : ℕ) → count ≤ j → beside f g j ≡ (0, 0)
    zero-pairs j h = rw (zf j h, zg j h)

    go : (i : ℕ) → i ≤ n → zero_below (2 ^ n - count) i ≡ entries_below (combine_pair p) c n (beside f g) (2 ^ n - count) i
    go zero hi = refl
    go (suc i) hi = sym (padding-entries p c n count (beside f g) fits zero-pairs (2 ^ n - count) (omega arith) i (omega arith))

module _ (p n : ℕ) (c : ℕ → ℕ) (f g : Vector) (hn : n ≤ 15) (cs : List ℕ) (t : ℕ) (ht : t < 2 ^ n) where
  abbrev a : ℕ
  a = f (2 ^ n - 1 - t)

  abbrev b : ℕ
  b = g (2 ^ n - 1 - t)

  -- the machine of the pass below, on the entries of f and g
  pair_step : (i : ℕ) → suc i ≤ n → ((j : ℕ) → j < suc i → items cs j ≡ c j) → (k : Kernel) → Changing p n c (suc i) f g t k
      → (let x : Climber = climber_in p cs (suc i) k a b in
      ◌≡◌ {A = Stack Pair × Arrival} (stack_pairs (left_kernel (suc i) k x), arrival_of x)
      (entries (combine_pair p) c n (beside f g) (suc t) i, gathered (combine_pair p) c n (beside f g) arrives_at (joins p c i) i 0 t (0, (0, 0))))
  pair_step i hi agree k h =
      let some : k.fcount ≤ 15 = room n hn t ht p cs a b (suc i) k (changing-levelled p n c (suc i) f g t k h) in
      sym (left-enter p cs i k h.paired some a b (0, (0, 0)))
      ∙ enter-challenges (combine_pair p) arrives_at (joins p (items cs) i) (items cs) c i (λ j l. agree j (omega arith)) 0 (a, b) (stack_pairs k) (0, (0, 0))
      ∙ ap (λ x. enter (combine_pair p) arrives_at (λ even odd m. (suc i, combine_pair p x even odd)) c i 0 (a, b) (stack_pairs k) (0, (0, 0))) (agree i (omega arith))
      ∙ ap (λ st. enter (combine_pair p) arrives_at (joins p c i) c i 0 (a, b) st (0, (0, 0))) h.stack
      ∙ enter-item (combine_pair p) c n (beside f g) arrives_at (joins p c i) i (omega arith) t ht (0, (0, 0))

  -- ONE MORE ITEM of the pass
  pub changing-item : (i : ℕ) → i ≤ n → ((j : ℕ) → j < i → items cs j ≡ c j) → (k : Kernel) → Changing p n c i f g t k
      → Changing p n c i f g (suc t) (left_kernel i k (climber_in p cs i k (f (2 ^ n - 1 - t)) (g (2 ^ n - 1 - t))))
  changing-item zero hi agree k h =
      subst (Changing p n c 0 f g (suc t)) (sym (lowest_kept p cs k a b h.paired)) (record { paired = h.paired; stack = h.stack })
  changing-item (suc i) hi agree k h =
      record {
        paired = left-paired p cs i k h.paired (room n hn t ht p cs a b (suc i) k (changing-levelled p n c (suc i) f g t k h)) a b;
        stack = ap (λ r. r.0) (pair_step i hi agree k h);
      }

  -- it arrives as the item of a fold that it completes
  item-value : (i : ℕ) → i ≤ n → ((j : ℕ) → j < i → items cs j ≡ c j) → (k : Kernel) → Changing p n c i f g t k
      → (let x : Climber = climber_in p cs i k (f (2 ^ n - 1 - t)) (g (2 ^ n - 1 - t)) in
      ◌≡◌ {A = Pair} (x.f, x.g) (beside (fold p c x.level f) (fold p c x.level g) (size n x.level - suc t / 2 ^ x.level)))
  unfolding fold_with
  item-value zero hi agree k h =
      let place : 2 ^ n - 1 - t ≡ size n 0 - suc t / 2 ^ 0 = rw (div-one (suc t), size-all n) (omega arith) in
      subst (λ (x : Climber).
      ◌≡◌ {A = Pair} (x.f, x.g) (beside (fold p c x.level f) (fold p c x.level g) (size n x.level - suc t / 2 ^ x.level)))
      (sym (lowest_climber p cs k a b)) (ap (beside f g) place)
  item-value (suc i) hi agree k h =
      let x : Climber = climber_in p cs (suc i) k a b in
      let m : Arrival = gathered (combine_pair p) c n (beside f g) arrives_at (λ even odd m. m) (suc i) 0 t (0, (0, 0)) in
      let r = arrivals (combine_pair p) c n (beside f g) arrives_at (λ even odd m. m) (λ m. m.0) (λ m. m.1) (λ k a m. refl) (λ k a m. refl) (λ even odd m. refl) (λ even odd m. refl)
      (suc i) (suc i) 0 (omega arith) t (completes_zero t) (0, (0, 0)) in
      let l : ℕ = r.0 in
      let same : arrival_of x ≡ m =
      ap (λ r. r.1) (pair_step i hi agree k h)
      ∙ joined-arrives (combine_pair p) c n (beside f g) arrives_at i (omega arith) t ht i 0 (omega arith) (completes_zero t) (0, (0, 0)) in
      let level : l ≡ x.level = sym (ap (λ m. m.0) same ∙ r.1.0) in
      let value : (x.f, x.g) ≡ beside (fold p c l f) (fold p c l g) (size n l - suc t / 2 ^ l) =
      ap (λ m. m.1) same ∙ r.1.1 ∙ ap (λ v. v (size n l - suc (t / 2 ^ l))) (fold-beside p c f g l)
      ∙ ap (λ q. beside (fold p c l f) (fold p c l g) (size n l - q)) (sym r.1.2.1) in
      subst (λ l. ◌≡◌ {A = Pair} (x.f, x.g) (beside (fold p c l f) (fold p c l g) (size n l - suc t / 2 ^ l))) level value

  -- it completes an item of fold i where the items taken are a multiple of 2^i
  pub arrives_last : (i : ℕ) → i ≤ n → ((j : ℕ) → j < i → items cs j ≡ c j) → (k : Kernel) → Changing p n c i f g t k → suc t % 2 ^ i ≡ 0
      → (let x : Climber = climber_in p cs i k (f (2 ^ n - 1 - t)) (g (2 ^ n - 1 - t)) in
      (x.level ≡ i) × (x.f ≡ fold p c i f (size n i - suc t / 2 ^ i)) × (x.g ≡ fold p c i g (size n i - suc t / 2 ^ i)))
  arrives_last i hi agree k h e =
      let x : Climber = climber_in p cs i k a b in
      let l : x.level ≡ i = reaches_last n hn t ht p cs a b i hi k (changing-levelled p n c i f g t k h) e in
      let value : (x.f, x.g) ≡ beside (fold p c i f) (fold p c i g) (size n i - suc t / 2 ^ i) =
      item-value i hi agree k h ∙ ap (λ l. beside (fold p c l f) (fold p c l g) (size n l - suc t / 2 ^ l)) l in
      (l, ap (λ e. e.0) value, ap (λ e. e.1) value)

  pub arrives_below : (i : ℕ) → i ≤ n → (k : Kernel) → Changing p n c i f g t k → (suc t % 2 ^ i ≡ 0 → ⊥)
      → (climber_in p cs i k (f (2 ^ n - 1 - t)) (g (2 ^ n - 1 - t))).level < i
  arrives_below i hi k h ne = stops_before n hn t ht p cs a b i hi k (changing-levelled p n c i f g t k h) ne
