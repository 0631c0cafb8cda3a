-- What a small pass gathers besides its stack: the sums of the pairs of fold i, and what follows the items of one level.
use mathlib.Core.Path.{◌≡◌, refl, ap, ◌∙◌}
use mathlib.Core.Logic.{inl, inr}
use Prim.Native.Nat.{ℕ, zero, suc, ◌+◌, ◌-◌, ◌*◌, ◌/◌, ◌^◌, ◌<◌, ◌≤◌}
use native.Mathlib.Nat.{zero-div}
use native.Mathlib.Omega.{arith}
use Rattle.vector.specs.Rounds.{size}
use Rattle.vector.specs.Fold.{fold_with}
use Rattle.vector.proofs.Rounds.{half_count, size-halves}
use Rattle.vector.proofs.Counts.{Parity, parity, Completes, completes_zero, even_stays, odd_completes, half_odd, stays_above, in_fold}
use Rattle.vector.proofs.Machine.{item_before, gathered, gathered-even, gathered-last, gathered-up}
use Rattle.vector.proofs.StackLaw.{gathered_all}

-- the sums over the last q of the first h pairs of v
module _ {A B : Type 0} (emit : A → A → B → B) (v : ℕ → A) (h : ℕ) (b : B) where
  unfoldable pub last_pairs : ℕ → B
  last_pairs zero = b
  last_pairs (suc q) = emit (v (2 * (h - suc q))) (v (2 * (h - suc q) + 1)) (last_pairs q)

module _ {A : Type 0} (combine : ℕ → A → A → A) (c : ℕ → ℕ) (n : ℕ) (v : ℕ → A) {M : Type 0} (arrive : ℕ → A → M → M) (emit : A → A → M → M) where
  -- the sums are a part of what is gathered that arrivals leave alone
  module _ {B : Type 0} (add : A → A → B → B) (part : M → B)
      (quiet : (k : ℕ) (a : A) (g : M) → part (arrive k a g) ≡ part g)
      (heard : (even odd : A) (g : M) → part (emit even odd g) ≡ add even odd (part g))
      (i : ℕ) (hi : i < n) (b : B) where
    -- after t items: those of the last t / 2^(i+1) pairs of fold i
    abbrev pub sums_after : ℕ → B
    sums_after t = last_pairs add (fold_with combine c i v) (size n (suc i)) b (t / 2 ^ suc i)

    sums_even : (m k t x : ℕ) → k + m ≡ i → Completes k t → t / 2 ^ k ≡ 2 * x → (g : M) → part g ≡ sums_after t
        → part (gathered combine c n v arrive emit m k t g) ≡ sums_after (suc t)
    sums_even m k t x ek up e g r =
        let top : suc i ≡ suc k + m = omega arith in
        let stays : suc t / 2 ^ suc i ≡ t / 2 ^ suc i = rw top (stays_above (suc k) m t (even_stays k t x up e)) in
        rw (gathered-even combine c n v arrive emit m k t x g e, quiet k (item_before combine c n v k (2 * x)) g, stays) r

    sums_last : (t x : ℕ) → t < 2 ^ n → Completes i t → t / 2 ^ i ≡ suc (2 * x) → (g : M) → part g ≡ sums_after t
        → part (gathered combine c n v arrive emit zero i t g) ≡ sums_after (suc t)
    unfolding last_pairs
    sums_last t x ht up e g r =
        let one_more : suc t / 2 ^ suc i ≡ suc x = omega (arith, half_count (suc t) i) in
        let inside = in_fold n (suc i) t ht (odd_completes i t x up e) in
        let half = half_odd i t x e in
        let two = size-halves n i hi in
        let even : size n i - suc (suc (2 * x)) ≡ 2 * (size n (suc i) - suc x) = omega arith in
        let odd : size n i - suc (2 * x) ≡ 2 * (size n (suc i) - suc x) + 1 = omega arith in
        rw (gathered-last combine c n v arrive emit i t x g e, one_more, even, odd, heard _ _ _, quiet i _ g)
        (ap (add _ _) (rw half at r))

    pub sums_step : (m k : ℕ) → k + m ≡ i → (t : ℕ) → t < 2 ^ n → Completes k t → (g : M) → part g ≡ sums_after t
        → part (gathered combine c n v arrive emit m k t g) ≡ sums_after (suc t)
    sums_step zero k ek t ht up g r =
        let same : k ≡ i = omega arith in
        rw same (go (rw same at up) (parity (t / 2 ^ i)))
      where
        go : Completes i t → Parity (t / 2 ^ i) → part (gathered combine c n v arrive emit zero i t g) ≡ sums_after (suc t)
        go up (inl e) = sums_even zero i t e.0 (omega arith) up e.1 g r
        go up (inr e) = sums_last t e.0 ht up e.1 g r
    sums_step (suc m) k ek t ht up g r = go (sums_step m (suc k) (omega arith) t ht) (parity (t / 2 ^ k))
      where
        go : (Completes (suc k) t → (g : M) → part g ≡ sums_after t → part (gathered combine c n v arrive emit m (suc k) t g) ≡ sums_after (suc t))
            → Parity (t / 2 ^ k) → part (gathered combine c n v arrive emit (suc m) k t g) ≡ sums_after (suc t)
        go rest (inl e) = sums_even (suc m) k t e.0 ek up e.1 g r
        go rest (inr e) =
            rw (gathered-up combine c n v arrive emit m k t e.0 g e.1)
            (rest (odd_completes k t e.0 up e.1) (arrive k (item_before combine c n v k (suc (2 * e.0))) g) (quiet k _ g ∙ r))

    -- THE SUMS after t items
    pub sums_law : (g : M) → part g ≡ b → (t : ℕ) → t ≤ 2 ^ n → part (gathered_all combine c n v arrive emit i g t) ≡ sums_after t
    unfolding gathered_all last_pairs
    sums_law g e zero h = rw (zero-div (2 ^ suc i)) e
    sums_law g e (suc t) h = sums_step i 0 (omega arith) t (omega arith) (completes_zero t) _ (sums_law g e t (omega arith))

  -- R q g: g holds what the last q items of fold l make
  module _ (l : ℕ) (R : ℕ → M → Type 0)
      (other : (k : ℕ) (a : A) (q : ℕ) (g : M) → (k ≡ l → ⊥) → R q g → R q (arrive k a g))
      (emits : (even odd : A) (q : ℕ) (g : M) → R q g → R q (emit even odd g))
      (here : (q : ℕ) (g : M) → q < size n l → R q g → R (suc q) (arrive l (item_before combine c n v l q) g)) where
    -- above the level nothing is told of it
    beyond : (m k t q : ℕ) → l < k → (g : M) → R q g → R q (gathered combine c n v arrive emit m k t g)
    beyond zero k t q h g r = go (parity (t / 2 ^ k))
      where
        go : Parity (t / 2 ^ k) → R q (gathered combine c n v arrive emit zero k t g)
        go (inl e) = rw (gathered-even combine c n v arrive emit zero k t e.0 g e.1) (other k _ q g (λ e. omega arith) r)
        go (inr e) = rw (gathered-last combine c n v arrive emit k t e.0 g e.1) (emits _ _ q _ (other k _ q g (λ e. omega arith) r))
    beyond (suc m) k t q h g r = go (λ g r. beyond m (suc k) t q (omega arith) g r) (parity (t / 2 ^ k))
      where
        go : ((g : M) → R q g → R q (gathered combine c n v arrive emit m (suc k) t g)) → Parity (t / 2 ^ k)
            → R q (gathered combine c n v arrive emit (suc m) k t g)
        go rest (inl e) = rw (gathered-even combine c n v arrive emit (suc m) k t e.0 g e.1) (other k _ q g (λ e. omega arith) r)
        go rest (inr e) = rw (gathered-up combine c n v arrive emit m k t e.0 g e.1) (rest _ (other k _ q g (λ e. omega arith) r))

    -- at the level itself one more item is told
    arrived : (m t q : ℕ) → t / 2 ^ l ≡ q → q < size n l → (g : M) → R q g → R (suc q) (gathered combine c n v arrive emit m l t g)
    arrived m t q eq h g r = go m (parity q)
      where
        told : R (suc q) (arrive l (item_before combine c n v l q) g)
        told = here q g h r

        go : (m : ℕ) → Parity q → R (suc q) (gathered combine c n v arrive emit m l t g)
        go m (inl e) = rw (gathered-even combine c n v arrive emit m l t e.0 g (eq ∙ e.1), ← e.1) told
        go zero (inr e) = rw (gathered-last combine c n v arrive emit l t e.0 g (eq ∙ e.1), ← e.1) (emits _ _ (suc q) _ told)
        go (suc m) (inr e) =
            rw (gathered-up combine c n v arrive emit m l t e.0 g (eq ∙ e.1), ← e.1)
            (beyond m (suc l) t (suc q) (omega arith) _ told)

    -- d levels below it
    pub level-step : (d m k : ℕ) → k + d ≡ l → d ≤ m → (t : ℕ) → t < 2 ^ n → Completes k t → (g : M) → R (t / 2 ^ l) g
        → R (suc t / 2 ^ l) (gathered combine c n v arrive emit m k t g)
    level-step zero m k ek hm t ht up g r =
        let same : k ≡ l = omega arith in
        let up' : Completes l t = rw same at up in
        rw (same, up') (arrived m t (t / 2 ^ l) refl (in_fold n l t ht up') g r)
    level-step (suc d) zero k ek hm t ht up g r = absurd (omega arith)
    level-step (suc d) (suc m) k ek hm t ht up g r = go (level-step d m (suc k) (omega arith) (omega arith) t ht) (parity (t / 2 ^ k))
      where
        below : (a : A) → R (t / 2 ^ l) (arrive k a g)
        below a = other k a (t / 2 ^ l) g (λ e. omega arith) r

        go : (Completes (suc k) t → (g : M) → R (t / 2 ^ l) g → R (suc t / 2 ^ l) (gathered combine c n v arrive emit m (suc k) t g))
            → Parity (t / 2 ^ k) → R (suc t / 2 ^ l) (gathered combine c n v arrive emit (suc m) k t g)
        go rest (inl e) =
            let top : l ≡ suc k + d = omega arith in
            let stays : suc t / 2 ^ l ≡ t / 2 ^ l = rw top (stays_above (suc k) d t (even_stays k t e.0 up e.1)) in
            rw (gathered-even combine c n v arrive emit (suc m) k t e.0 g e.1, stays) (below _)
        go rest (inr e) =
            rw (gathered-up combine c n v arrive emit m k t e.0 g e.1)
            (rest (odd_completes k t e.0 up e.1) _ (below _))

    -- WHAT FOLLOWS A LEVEL after t items: the last t / 2^l items of fold l
    pub level-law : (i : ℕ) → l ≤ i → (g : M) → R 0 g → (t : ℕ) → t ≤ 2 ^ n → R (t / 2 ^ l) (gathered_all combine c n v arrive emit i g t)
    unfolding gathered_all
    level-law i hl g r zero h = rw (zero-div (2 ^ l)) r
    level-law i hl g r (suc t) h =
        level-step l i 0 (omega arith) hl t (omega arith) (completes_zero t) _ (level-law i hl g r t (omega arith))
