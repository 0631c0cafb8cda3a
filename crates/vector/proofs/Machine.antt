-- The machine of a small pass, and what one more item does to the stack.
use mathlib.Core.Path.{◌≡◌, refl, sym, ap, ◌∙◌}
use mathlib.Core.Bool.{true, false, cond}
use mathlib.Core.List.{[], ◌∷◌}
use mathlib.Core.Logic.{inl, inr}
use Prim.Native.Nat.{ℕ, zero, suc, ◌+◌, ◌-◌, ◌*◌, ◌/◌, ◌%◌, ◌^◌, ◌<◌, ◌≤◌}
use native.Mathlib.Omega.{arith}
use lib.Dec.{eqb, ltb}
use borrow.Author.Tests.{eq-eqb, ne_eqb, lt-ltb, le-ltb}
use Rattle.vector.specs.Rounds.{size}
use Rattle.vector.specs.Vector.{bit}
use Rattle.vector.specs.Fold.{fold_with}
use Rattle.vector.specs.Stack.{Stack, entry_on, entries_from}
use Rattle.vector.proofs.Rounds.{size-halves, half_count}
use Rattle.vector.proofs.Counts.{Parity, parity, Completes, even_stays, odd_completes, half_odd, in_fold}

-- A value comes to level k of a pass that folds to level i: it meets the top while the levels agree and goes up, as one item of the next fold.
-- `arrive` is told of each level that it comes to, `emit` of a pair at level i.
module _ {A M : Type 0} (combine : ℕ → A → A → A) (arrive : ℕ → A → M → M) (emit : A → A → M → M) (c : ℕ → ℕ) (i : ℕ) where
  unfoldable pub enter : ℕ → A → Stack A → M → Stack A × M
  enter k new [] m = ((k, new) ∷ [], arrive k new m)
  enter k new (top ∷ rest) m =
      cond (eqb k top.0)
      (cond (ltb k i) (enter (suc k) (combine (c k) new top.1) rest (arrive k new m)) (rest, emit new top.1 (arrive k new m)))
      ((k, new) ∷ top ∷ rest, arrive k new m)

-- the top is of a level above k
unfoldable pub Above : {A : Type 0} → ℕ → Stack A → Type 0
Above k [] = Unit {0}
Above k (top ∷ rest) = k < top.0

module _ {A : Type 0} (combine : ℕ → A → A → A) (c : ℕ → ℕ) (n : ℕ) (v : ℕ → A) where
  -- the item of fold k that has q items after it
  abbrev pub item_before : ℕ → ℕ → A
  item_before k q = fold_with combine c k v (size n k - suc q)

  pub entry-even : (t k x : ℕ) (rest : Stack A) → t / 2 ^ k ≡ 2 * x → entry_on combine c n v t k rest ≡ rest
  entry-even t k x rest e = let z : t / 2 ^ k % 2 ≡ 0 = omega arith in rw z

  pub entry-odd : (t k x : ℕ) (rest : Stack A) → t / 2 ^ k ≡ suc (2 * x) → entry_on combine c n v t k rest ≡ (k, item_before k (2 * x)) ∷ rest
  entry-odd t k x rest e = let z : suc (2 * x) % 2 ≡ 1 = omega arith in rw (e, z)

  entry-above : (t j k : ℕ) (rest : Stack A) → j < k → Above j rest → Above j (entry_on combine c n v t k rest)
  unfolding Above
  entry-above t j k rest h a =
      elim (eqb (bit k t) 1) as (λ b. Above j (cond b ((k, fold_with combine c k v (size n k - t / 2 ^ k)) ∷ rest) rest)) [ true ↦ h | false ↦ a ]

  pub entries-above : (t j k m : ℕ) → j < k → Above j (entries_from combine c n v t k m)
  unfolding Above entries_from
  entries-above t j k zero h = entry-above t j k [] h tt
  entries-above t j k (suc m) h = entry-above t j k _ h (entries-above t j (suc k) m (omega arith))

  -- the entries from level k on are those of t / 2^k
  entries-same : (s t k m : ℕ) → s / 2 ^ k ≡ t / 2 ^ k → entries_from combine c n v s k m ≡ entries_from combine c n v t k m
  unfolding entries_from
  entries-same s t k zero e = rw e
  entries-same s t k (suc m) e = rw (e, entries-same s t (suc k) m (sym (half_count s k) ∙ ap (λ q. q / 2) e ∙ half_count t k))

  -- two neighbours of fold k make the item of fold k + 1
  pub neighbours : (k x : ℕ) → k < n → x < size n (suc k)
      → combine (c k) (item_before k (suc (2 * x))) (item_before k (2 * x)) ≡ item_before (suc k) x
  unfolding fold_with
  neighbours k x hk hx =
      let e = size-halves n k hk in
      let even : size n k - suc (suc (2 * x)) ≡ 2 * (size n (suc k) - suc x) = omega arith in
      let odd : size n k - suc (2 * x) ≡ 2 * (size n (suc k) - suc x) + 1 = omega arith in
      rw (even, odd)

  module _ {M : Type 0} (arrive : ℕ → A → M → M) (emit : A → A → M → M) where
    -- what one more item, after t of them, adds at the levels k to k + m
    unfoldable pub gathered : ℕ → ℕ → ℕ → M → M
    gathered zero k t g =
        let g' : M = arrive k (item_before k (t / 2 ^ k)) g in
        cond (eqb (bit k t) 1) (emit (item_before k (t / 2 ^ k)) (fold_with combine c k v (size n k - t / 2 ^ k)) g') g'
    gathered (suc m) k t g =
        let g' : M = arrive k (item_before k (t / 2 ^ k)) g in
        cond (eqb (bit k t) 1) (gathered m (suc k) t g') g'

    pub enter-above : (i k : ℕ) (new : A) (st : Stack A) (g : M) → Above k st → enter combine arrive emit c i k new st g ≡ ((k, new) ∷ st, arrive k new g)
    unfolding enter Above
    enter-above i k new [] g a = refl
    enter-above i k new (top ∷ rest) g a = rw (ne_eqb k top.0 (λ e. omega arith))

    pub enter-up : (i k : ℕ) (new old : A) (st : Stack A) (g : M) → k < i
        → enter combine arrive emit c i k new ((k, old) ∷ st) g ≡ enter combine arrive emit c i (suc k) (combine (c k) new old) st (arrive k new g)
    unfolding enter
    enter-up i k new old st g h = rw (eq-eqb k k refl, lt-ltb k i h)

    pub enter-last : (i : ℕ) (new old : A) (st : Stack A) (g : M) → enter combine arrive emit c i i new ((i, old) ∷ st) g ≡ (st, emit new old (arrive i new g))
    unfolding enter
    enter-last i new old st g = rw (eq-eqb i i refl, le-ltb i i (omega arith))

    pub gathered-even : (m k t x : ℕ) (g : M) → t / 2 ^ k ≡ 2 * x → gathered m k t g ≡ arrive k (item_before k (2 * x)) g
    unfolding gathered
    gathered-even zero k t x g e = let z : 2 * x % 2 ≡ 0 = omega arith in rw (e, z)
    gathered-even (suc m) k t x g e = let z : 2 * x % 2 ≡ 0 = omega arith in rw (e, z)

    pub gathered-last : (k t x : ℕ) (g : M) → t / 2 ^ k ≡ suc (2 * x)
        → gathered zero k t g ≡ emit (item_before k (suc (2 * x))) (item_before k (2 * x)) (arrive k (item_before k (suc (2 * x))) g)
    unfolding gathered
    gathered-last k t x g e = let z : suc (2 * x) % 2 ≡ 1 = omega arith in rw (e, z)

    pub gathered-up : (m k t x : ℕ) (g : M) → t / 2 ^ k ≡ suc (2 * x)
        → gathered (suc m) k t g ≡ gathered m (suc k) t (arrive k (item_before k (suc (2 * x))) g)
    unfolding gathered
    gathered-up m k t x g e = let z : suc (2 * x) % 2 ≡ 1 = omega arith in rw (e, z)

    abbrev Step : ℕ → ℕ → ℕ → ℕ → M → Type 0
    Step i m k t g =
        enter combine arrive emit c i k (item_before k (t / 2 ^ k)) (entries_from combine c n v t k m) g
        ≡ (entries_from combine c n v (suc t) k m, gathered m k t g)

    even_step : (i m k t x : ℕ) (g : M) → Completes k t → t / 2 ^ k ≡ 2 * x → Step i m k t g
    unfolding entries_from Above
    even_step i zero k t x g up e =
        rw (gathered-even zero k t x g e, entry-even t k x [] e, entry-odd (suc t) k x [] (up ∙ ap suc e), e)
        (enter-above i k (item_before k (2 * x)) [] g tt)
    even_step i (suc m) k t x g up e =
        rw (
          gathered-even (suc m) k t x g e,
          entry-even t k x _ e,
          entry-odd (suc t) k x _ (up ∙ ap suc e),
          e,
          entries-same (suc t) t (suc k) m (even_stays k t x up e),
        )
        (enter-above i k (item_before k (2 * x)) _ g (entries-above t k (suc k) m (omega arith)))

    odd-last : (i t x : ℕ) (g : M) → Completes i t → t / 2 ^ i ≡ suc (2 * x) → Step i zero i t g
    unfolding entries_from
    odd-last i t x g up e =
        let next : suc t / 2 ^ i ≡ 2 * suc x = omega arith in
        rw (gathered-last i t x g e, entry-odd t i x [] e, entry-even (suc t) i (suc x) [] next, e)
        (enter-last i (item_before i (suc (2 * x))) (item_before i (2 * x)) [] g)

    odd_step : (i m k t x : ℕ) (g : M) → k < i → i ≤ n → t < 2 ^ n → Completes k t → t / 2 ^ k ≡ suc (2 * x)
        → Step i m (suc k) t (arrive k (item_before k (suc (2 * x))) g) → Step i (suc m) k t g
    unfolding entries_from
    odd_step i m k t x g hk hi ht up e rest =
        let next : suc t / 2 ^ k ≡ 2 * suc x = omega arith in
        let half = half_odd k t x e in
        let inside : x < size n (suc k) = omega (arith, in_fold n (suc k) t ht (odd_completes k t x up e)) in
        rw (gathered-up m k t x g e, entry-odd t k x _ e, entry-even (suc t) k (suc x) _ next, e)
        (enter-up i k (item_before k (suc (2 * x))) (item_before k (2 * x)) _ g hk
        ∙ (rw (neighbours k x (omega arith) inside) (rw half at rest)))

    -- ONE MORE ITEM: it comes to each level that it completes
    pub enter_step : (i m k : ℕ) → k + m ≡ i → i ≤ n → (t : ℕ) → t < 2 ^ n → Completes k t → (g : M) → Step i m k t g
    enter_step i zero k ek hi t ht up g = let same : k ≡ i = omega arith in rw same (go (parity (t / 2 ^ i)) (rw same at up))
      where
        go : Parity (t / 2 ^ i) → Completes i t → Step i zero i t g
        go (inl e) up = even_step i zero i t e.0 g up e.1
        go (inr e) up = odd-last i t e.0 g up e.1
    enter_step i (suc m) k ek hi t ht up g = go (enter_step i m (suc k) (omega arith) hi t ht) (parity (t / 2 ^ k))
      where
        go : (Completes (suc k) t → (g : M) → Step i m (suc k) t g) → Parity (t / 2 ^ k) → Step i (suc m) k t g
        go rest (inl e) = even_step i (suc m) k t e.0 g up e.1
        go rest (inr e) =
            odd_step i m k t e.0 g (omega arith) hi ht up e.1
            (rest (odd_completes k t e.0 up e.1) (arrive k (item_before k (suc (2 * e.0))) g))
