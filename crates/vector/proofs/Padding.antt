-- Padding in one step: after t zero items the stack is read off the binary ones of t, and the sums are as before.
use mathlib.Core.Path.{◌≡◌, refl, sym, ap, ap₂, ◌∙◌}
use mathlib.Core.Bool.{cond}
use mathlib.Core.List.{List, [], ◌∷◌}
use mathlib.Core.Logic.{inl, inr}
use Prim.Native.Nat.{ℕ, zero, suc, ◌+◌, ◌-◌, ◌*◌, ◌/◌, ◌^◌, ◌≤◌}
use native.Mathlib.Nat.{mul-zero}
use native.Mathlib.Omega.{arith}
use lib.Dec.{eqb}
use lib.Pow.{shr_mono, split}
use borrow.Author.Tests.{le-ltb}
use Rattle.algebra.specs.Mod.{add_mod, mul_mod}
use Rattle.algebra.proofs.Congruence.{residue-zero}
use Rattle.algebra.proofs.Laws.{zero-product}
use Rattle.vector.specs.Rounds.{size}
use Rattle.vector.specs.Vector.{Vector, bit, padded, twisted}
use Rattle.vector.specs.Fold.{fold_with, Pair, combine, combine_pair}
use Rattle.vector.specs.Stack.{Stack, entries_from, entries}
use Rattle.vector.proofs.Rounds.{size-times}
use Rattle.vector.proofs.Folds.{fold-equal}
use Rattle.vector.proofs.Counts.{Parity, parity, Completes, completes_zero, odd_completes}
use Rattle.vector.proofs.Machine.{item_before, gathered, gathered-even, gathered-last, gathered-up}
use Rattle.vector.proofs.StackLaw.{machine, gathered_all, stack_law}
use Rattle.vector.proofs.Passes.{no_message, add_pair}

rest_items : (a d q t : ℕ) → q * a ≤ t → a * (d + q) - t ≤ a * d
rest_items a d q t h = omega arith

-- a level-k entry with the value z for each binary one of t at a place k to k + m, the lowest on top
unfoldable pub equal_from : {A : Type 0} → A → ℕ → ℕ → ℕ → Stack A
equal_from z t k zero = cond (eqb (bit k t) 1) ((k, z) ∷ []) []
equal_from z t k (suc m) = cond (eqb (bit k t) 1) ((k, z) ∷ equal_from z t (suc k) m) (equal_from z t (suc k) m)

-- for t zero pairs and the levels 0 to i
abbrev pub zero_entries : ℕ → ℕ → Stack Pair
zero_entries t i = equal_from (0, 0) t 0 i

module _ {A : Type 0} (combine : ℕ → A → A → A) (c : ℕ → ℕ) (z : A) (still : (x : ℕ) → combine x z z ≡ z) where
  -- the last t of the N items are those from N - t on
  last-equal : (n : ℕ) (v : ℕ → A) (t : ℕ) → t ≤ 2 ^ n → ((i : ℕ) → 2 ^ n - t ≤ i → v i ≡ z)
      → (k : ℕ) → k ≤ n → fold_with combine c k v (size n k - t / 2 ^ k) ≡ z
  last-equal n v t ht h k hk =
      let q : ℕ = t / 2 ^ k in
      let s : ℕ = size n k in
      let less : q ≤ s = shr_mono k ht in
      let e : s ≡ (s - q) + q = omega arith in
      let whole : 2 ^ k * ((s - q) + q) ≡ 2 ^ n = ap (λ x. 2 ^ k * x) (sym e) ∙ size-times n k hk in
      fold-equal combine c z still v (2 ^ n - t) h k (s - q) (rw whole at (rest_items (2 ^ k) (s - q) q t (omega (arith, split t k))))

  equal_from_lem : (n : ℕ) (v : ℕ → A) (t : ℕ) → t ≤ 2 ^ n → ((i : ℕ) → 2 ^ n - t ≤ i → v i ≡ z)
      → (k m : ℕ) → k + m ≤ n → entries_from combine c n v t k m ≡ equal_from z t k m
  unfolding entries_from equal_from
  equal_from_lem n v t ht h k zero e = rw (last-equal n v t ht h k (omega arith))
  equal_from_lem n v t ht h k (suc m) e = rw (last-equal n v t ht h k (omega arith), equal_from_lem n v t ht h (suc k) m (omega arith))

  -- the entries after t items that are all z
  pub entries-equal : (n : ℕ) (v : ℕ → A) (t : ℕ) → t ≤ 2 ^ n → ((i : ℕ) → 2 ^ n - t ≤ i → v i ≡ z)
      → (i : ℕ) → i ≤ n → entries combine c n v t i ≡ equal_from z t 0 i
  entries-equal n v t ht h i hi = equal_from_lem n v t ht h 0 i (omega arith)

  module _ (n : ℕ) (v : ℕ → A) {M : Type 0} (arrive : ℕ → A → M → M) (emit : A → A → M → M) (g : M)
      (quiet : (k : ℕ) → arrive k z g ≡ g) (unheard : emit z z g ≡ g)
      (t : ℕ) (room : suc t ≤ 2 ^ n) (h : (i : ℕ) → 2 ^ n - suc t ≤ i → v i ≡ z) where
    new_equal : (k q : ℕ) → k ≤ n → Completes k t → t / 2 ^ k ≡ q → item_before combine c n v k q ≡ z
    new_equal k q hk up e = rw (up ∙ ap suc e) at (last-equal n v (suc t) room h k hk)

    old_equal : (k q : ℕ) → k ≤ n → t / 2 ^ k ≡ suc q → item_before combine c n v k q ≡ z
    old_equal k q hk e = rw e at (last-equal n v t (omega arith) (λ i l. h i (omega arith)) k hk)

    told-equal : (k q : ℕ) → k ≤ n → Completes k t → t / 2 ^ k ≡ q → arrive k (item_before combine c n v k q) g ≡ g
    told-equal k q hk up e = rw (new_equal k q hk up e) (quiet k)

    still-step : (m k : ℕ) → k + m ≤ n → Completes k t → gathered combine c n v arrive emit m k t g ≡ g
    still-step zero k l up = go (parity (t / 2 ^ k))
      where
        go : Parity (t / 2 ^ k) → gathered combine c n v arrive emit zero k t g ≡ g
        go (inl e) = gathered-even combine c n v arrive emit zero k t e.0 g e.1 ∙ told-equal k (2 * e.0) (omega arith) up e.1
        go (inr e) =
            gathered-last combine c n v arrive emit k t e.0 g e.1
            ∙ (rw (told-equal k (suc (2 * e.0)) (omega arith) up e.1, new_equal k (suc (2 * e.0)) (omega arith) up e.1, old_equal k (2 * e.0) (omega arith) e.1) unheard)
    still-step (suc m) k l up = go (still-step m (suc k) (omega arith)) (parity (t / 2 ^ k))
      where
        go : (Completes (suc k) t → gathered combine c n v arrive emit m (suc k) t g ≡ g) → Parity (t / 2 ^ k) → gathered combine c n v arrive emit (suc m) k t g ≡ g
        go rest (inl e) = gathered-even combine c n v arrive emit (suc m) k t e.0 g e.1 ∙ told-equal k (2 * e.0) (omega arith) up e.1
        go rest (inr e) =
            gathered-up combine c n v arrive emit m k t e.0 g e.1
            ∙ (rw (told-equal k (suc (2 * e.0)) (omega arith) up e.1) (rest (odd_completes k t e.0 up e.1)))

  module _ (n : ℕ) {M : Type 0} (arrive : ℕ → A → M → M) (emit : A → A → M → M) (i : ℕ) (hi : i ≤ n) where
    -- what is gathered stays as it was, where items z leave it alone
    pub gathered-still : (v : ℕ → A) (g : M) → ((k : ℕ) → arrive k z g ≡ g) → emit z z g ≡ g
        → (t : ℕ) → t ≤ 2 ^ n → ((j : ℕ) → 2 ^ n - t ≤ j → v j ≡ z) → gathered_all combine c n v arrive emit i g t ≡ g
    unfolding gathered_all
    gathered-still v g quiet unheard zero l h = refl
    gathered-still v g quiet unheard (suc t) l h =
        ap (gathered combine c n v arrive emit i 0 t) (gathered-still v g quiet unheard t (omega arith) (λ j l. h j (omega arith)))
        ∙ still-step n v arrive emit g quiet unheard t l h i 0 (omega arith) (completes_zero t)

    -- PADDING IN ONE STEP: what the machine has after taking t items z, one by one
    pub padding-stack : (g : M) (t : ℕ) → t ≤ 2 ^ n → (machine combine arrive emit c i (λ q. z) g t).0 ≡ equal_from z t 0 i
    padding-stack g t l =
        ap (λ r. r.0) (stack_law combine c n (λ j. z) arrive emit i hi g t l) ∙ entries-equal n (λ j. z) t l (λ j h. refl) i hi

    pub padding-still : (g : M) → ((k : ℕ) → arrive k z g ≡ g) → emit z z g ≡ g
        → (t : ℕ) → t ≤ 2 ^ n → machine combine arrive emit c i (λ q. z) g t ≡ (equal_from z t 0 i, g)
    padding-still g quiet unheard t l =
        stack_law combine c n (λ j. z) arrive emit i hi g t l
        ∙ ap₂ (λ st m. (st, m)) (entries-equal n (λ j. z) t l (λ j h. refl) i hi) (gathered-still (λ j. z) g quiet unheard t l (λ j h. refl))

-- Items L to N - 1 are zero pairs
module _ (p : ℕ) where
  zero-item : (x : ℕ) → combine p x 0 0 ≡ 0
  unfolding add_mod mul_mod
  zero-item x = rw (mul-zero x, residue-zero p) (residue-zero p)

  pub zero-pair : (x : ℕ) → combine_pair p x (0, 0) (0, 0) ≡ (0, 0)
  zero-pair x = rw (zero-item x)

  pub no-pair : add_pair p (0, 0) (0, 0) no_message ≡ no_message
  unfolding add_mod mul_mod
  no-pair = simp (residue-zero p)

  pub padded-zero : (items : ℕ) (v : Vector) (j : ℕ) → items ≤ j → padded items v j ≡ 0
  padded-zero items v j h = rw (le-ltb j items h)

  pub twisted-zero : (twists : List ℕ) (f : Vector) (j : ℕ) → f j ≡ 0 → twisted p twists f j ≡ 0
  twisted-zero twists f j e = rw e (zero-product p _)

  -- the stack of a padded pass after t of its padding items
  pub padding-entries : (c : ℕ → ℕ) (n items : ℕ) (v : ℕ → Pair) → items ≤ 2 ^ n → ((j : ℕ) → items ≤ j → v j ≡ (0, 0))
      → (t : ℕ) → t ≤ 2 ^ n - items → (i : ℕ) → i ≤ n → entries (combine_pair p) c n v t i ≡ zero_entries t i
  padding-entries c n items v fits h t l i hi =
      entries-equal (combine_pair p) c (0, 0) zero-pair n v t (omega arith) (λ j g. h j (omega arith)) i hi
