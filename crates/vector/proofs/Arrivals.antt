-- Where an item of a small pass comes to a stop, and as which item of which fold.
use mathlib.Core.Path.{◌≡◌, refl, sym, ap, ◌∙◌}
use mathlib.Core.Bool.{Bool, true, false, cond}
use mathlib.Core.Logic.{inl, inr, ⊎_elim}
use Prim.Native.Nat.{ℕ, zero, suc, ◌+◌, ◌-◌, ◌*◌, ◌/◌, ◌%◌, ◌^◌, ◌<◌, ◌≤◌}
use native.Mathlib.Nat.{eq-or-lt_of_le, mod-lt}
use native.Mathlib.Omega.{arith}
use lib.Dec.{eqb}
use lib.Pow.{high, split, pow_pos}
use Rattle.vector.specs.Rounds.{size}
use Rattle.vector.specs.Vector.{bit}
use Rattle.vector.proofs.Counts.{Parity, parity, Completes, even_stays, odd_completes, half_odd, in_fold, stays_above}
use Rattle.vector.proofs.Machine.{item_before, neighbours, gathered, gathered-even, gathered-last, gathered-up}

-- level l is the last that the item after t comes to, in a pass that folds to level i
abbrev pub StopsAt : ℕ → ℕ → ℕ → Type 0
StopsAt i t l = (l ≤ i) × Completes l t × (l < i → suc t / 2 ^ suc l ≡ t / 2 ^ suc l)

pub stops_last : (i t l : ℕ) → StopsAt i t l → Completes i t → l ≡ i
stops_last i t l s up = ⊎_elim (λ (e : l ≡ i). e) (λ (h : l < i). absurd (beyond h)) (eq-or-lt_of_le s.0)
  where
    beyond : l < i → ⊥
    beyond h =
        let d : ℕ = i - suc l in
        let e : suc l + d ≡ i = omega arith in
        let still : suc t / 2 ^ i ≡ t / 2 ^ i = rw e at (stays_above (suc l) d t (s.2 h)) in
        omega arith

pub stops_below : (i t l : ℕ) → StopsAt i t l → (Completes i t → ⊥) → l < i
stops_below i t l s no_more =
    ⊎_elim (λ (e : l ≡ i). absurd (no_more (rw e at s.1))) (λ (h : l < i). h) (eq-or-lt_of_le s.0)

-- an item of level i is complete when the items taken are a multiple of 2^i
pub multiple_completes : (i t : ℕ) → suc t % 2 ^ i ≡ 0 → Completes i t
multiple_completes i t e = go (suc t / 2 ^ i) refl
  where
    go : (a : ℕ) → suc t / 2 ^ i ≡ a → Completes i t
    go zero z = absurd (let whole : 0 * 2 ^ i + 0 ≡ suc t = rw (z, e) at (split (suc t) i) in omega arith)
    go (suc a) z =
        let whole : suc a * 2 ^ i + 0 ≡ suc t = rw (z, e) at (split (suc t) i) in
        let rest : a * 2 ^ i + (2 ^ i - 1) ≡ t = omega (arith, pow_pos i) in
        let quotient : (a * 2 ^ i + (2 ^ i - 1)) / 2 ^ i ≡ a = high a i (omega (arith, pow_pos i)) in
        rw (z, ← rest, quotient)

pub completes_multiple : (i t : ℕ) → Completes i t → suc t % 2 ^ i ≡ 0
completes_multiple i t e =
    let whole : suc (t / 2 ^ i) * 2 ^ i + suc t % 2 ^ i ≡ suc t = rw e at (split (suc t) i) in
    omega (arith, split t i, mod-lt t (pow_pos i))

-- `level_of` and `value_of` are the last arrival in what is gathered
module _ {A : Type 0} (combine : ℕ → A → A → A) (c : ℕ → ℕ) (n : ℕ) (v : ℕ → A) {M : Type 0} (arrive : ℕ → A → M → M) (emit : A → A → M → M)
    (level_of : M → ℕ) (value_of : M → A)
    (at_level : (k : ℕ) (a : A) (g : M) → level_of (arrive k a g) ≡ k)
    (as-value : (k : ℕ) (a : A) (g : M) → value_of (arrive k a g) ≡ a)
    (met-level : (even odd : A) (g : M) → level_of (emit even odd g) ≡ level_of g)
    (met-value : (even odd : A) (g : M) → value_of (emit even odd g) ≡ value_of g) where
  -- g has as its last arrival the item of fold l that the items up to t complete
  abbrev Arrived : ℕ → ℕ → ℕ → M → Type 0
  Arrived i t l g = (level_of g ≡ l) × (value_of g ≡ item_before combine c n v l (t / 2 ^ l)) × StopsAt i t l

  told : (i t k q : ℕ) (g : M) → t / 2 ^ k ≡ q → StopsAt i t k → Arrived i t k (arrive k (item_before combine c n v k q) g)
  told i t k q g e s = (at_level k _ g, as-value k _ g ∙ ap (item_before combine c n v k) (sym e), s)

  pub arrivals : (i m k : ℕ) → k + m ≡ i → (t : ℕ) → Completes k t → (g : M)
      → (l : ℕ) × Arrived i t l (gathered combine c n v arrive emit m k t g)
  arrivals i zero k ek t up g = go (parity (t / 2 ^ k))
    where
      here : StopsAt i t k
      here = (omega arith, up, λ h. absurd (omega arith))

      go : Parity (t / 2 ^ k) → (l : ℕ) × Arrived i t l (gathered combine c n v arrive emit zero k t g)
      go (inl e) = (k, rw (gathered-even combine c n v arrive emit zero k t e.0 g e.1) (told i t k (2 * e.0) g e.1 here))
      go (inr e) =
          let a = told i t k (suc (2 * e.0)) g e.1 here in (
            k,
            rw (gathered-last combine c n v arrive emit k t e.0 g e.1) (met-level _ _ _ ∙ a.0, met-value _ _ _ ∙ a.1, a.2),
          )
  arrivals i (suc m) k ek t up g = go (arrivals i m (suc k) (omega arith) t) (parity (t / 2 ^ k))
    where
      go : (Completes (suc k) t → (g : M) → (l : ℕ) × Arrived i t l (gathered combine c n v arrive emit m (suc k) t g)) → Parity (t / 2 ^ k)
          → (l : ℕ) × Arrived i t l (gathered combine c n v arrive emit (suc m) k t g)
      go rest (inl e) = (
        k,
        rw (gathered-even combine c n v arrive emit (suc m) k t e.0 g e.1)
            (told i t k (2 * e.0) g e.1 (omega arith, up, λ h. even_stays k t e.0 up e.1)),
      )
      go rest (inr e) = rw (gathered-up combine c n v arrive emit m k t e.0 g e.1) (rest (odd_completes k t e.0 up e.1) _)

-- A CHANGE PASS to level i + 1 stacks the levels up to i: two neighbours of fold i arrive as an item of fold i + 1 and go
module _ {A : Type 0} (combine : ℕ → A → A → A) (c : ℕ → ℕ) (n : ℕ) (v : ℕ → A) {M : Type 0} (arrive : ℕ → A → M → M) (i : ℕ) (less : i < n) (t : ℕ)
    (ht : t < 2 ^ n) where
  abbrev joined : A → A → M → M
  joined even odd m = arrive (suc i) (combine (c i) even odd) m

  abbrev nothing : A → A → M → M
  nothing even odd m = m

  last-arrival : (k : ℕ) (g : M) → gathered combine c n v arrive nothing zero k t g ≡ arrive k (item_before combine c n v k (t / 2 ^ k)) g
  unfolding gathered
  last-arrival k g = go (eqb (bit k t) 1)
    where
      go : (b : Bool)
          → cond b (arrive k (item_before combine c n v k (t / 2 ^ k)) g) (arrive k (item_before combine c n v k (t / 2 ^ k)) g)
          ≡ arrive k (item_before combine c n v k (t / 2 ^ k)) g
      go true = refl
      go false = refl

  pub joined-arrives : (m k : ℕ) → k + m ≡ i → Completes k t → (g : M)
      → gathered combine c n v arrive (λ even odd. arrive (suc i) (combine (c i) even odd)) m k t g
      ≡ gathered combine c n v arrive (λ even odd m. m) (suc m) k t g
  joined-arrives zero k ek up g = go (parity (t / 2 ^ k))
    where
      same : k ≡ i
      same = omega arith

      go : Parity (t / 2 ^ k) → gathered combine c n v arrive joined zero k t g ≡ gathered combine c n v arrive nothing 1 k t g
      go (inl e) =
          gathered-even combine c n v arrive joined zero k t e.0 g e.1 ∙ sym (gathered-even combine c n v arrive nothing 1 k t e.0 g e.1)
      go (inr e) =
          let x : ℕ = e.0 in
          let g' : M = arrive k (item_before combine c n v k (suc (2 * x))) g in
          let half = half_odd k t x e.1 in
          let inside : x < size n (suc k) = omega (arith, in_fold n (suc k) t ht (odd_completes k t x up e.1)) in
          gathered-last combine c n v arrive joined k t x g e.1
          ∙ ap (λ j. arrive (suc j) (combine (c j) (item_before combine c n v k (suc (2 * x))) (item_before combine c n v k (2 * x))) g') (sym same)
          ∙ ap (λ a. arrive (suc k) a g') (neighbours combine c n v k x (omega arith) inside)
          ∙ ap (λ q. arrive (suc k) (item_before combine c n v (suc k) q) g') (sym half)
          ∙ sym (last-arrival (suc k) g')
          ∙ sym (gathered-up combine c n v arrive nothing zero k t x g e.1)
  joined-arrives (suc m) k ek up g = go (joined-arrives m (suc k) (omega arith)) (parity (t / 2 ^ k))
    where
      go : (Completes (suc k) t → (g : M) → gathered combine c n v arrive joined m (suc k) t g ≡ gathered combine c n v arrive nothing (suc m) (suc k) t g)
          → Parity (t / 2 ^ k) → gathered combine c n v arrive joined (suc m) k t g ≡ gathered combine c n v arrive nothing (suc (suc m)) k t g
      go rest (inl e) =
          gathered-even combine c n v arrive joined (suc m) k t e.0 g e.1 ∙ sym (gathered-even combine c n v arrive nothing (suc (suc m)) k t e.0 g e.1)
      go rest (inr e) =
          gathered-up combine c n v arrive joined m k t e.0 g e.1
          ∙ rest (odd_completes k t e.0 up e.1) _
          ∙ sym (gathered-up combine c n v arrive nothing (suc m) k t e.0 g e.1)
