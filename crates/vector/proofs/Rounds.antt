-- n of L is the least with 2^n >= L, and the sizes of the folds are powers of two.
use mathlib.Core.Path.{◌≡◌, refl, sym, ap, ◌∙◌}
use Prim.Native.Nat.{ℕ, suc, ◌+◌, ◌-◌, ◌*◌, ◌/◌, ◌^◌, ◌<◌, ◌≤◌}
use native.Mathlib.Nat.{div-div-eq-div-mul, div-one, div_self, mul-div_cancel, pow-suc, pow-succ'}
use native.Mathlib.Omega.{arith}
use native.Mathlib.Decide.{dec_le}
use lib.Count.{count_leading_zeros, leading_top}
use lib.Pow.{pow_pos, pow_mono, pow-lt, pow-add}
use borrow.Author.Tests.{le-leb, lt-leb}
use Rattle.algebra.proofs.Primes.{by_dec}
use Rattle.vector.specs.Rounds.{LeastRounds, rounds_of, size}

module _ (items : ℕ) where
  pub rounds-few : items ≤ 1 → rounds_of items ≡ 0
  unfolding rounds_of
  rounds-few h = rw (le-leb items 1 h) refl

  pub rounds-formula : 1 < items → rounds_of items ≡ 32 - count_leading_zeros 32 (items - 1)
  unfolding rounds_of
  rounds-formula h = rw (lt-leb items 1 h) refl

  -- the highest set bit of L - 1 is bit n - 1
  top_bit : 1 < items → items ≤ 2 ^ 32 → (j : ℕ) × (rounds_of items ≡ suc j) × (2 ^ j < items) × (items ≤ 2 ^ suc j)
  top_bit more h =
      let t = leading_top 32 (items - 1) (omega arith) (omega arith) in
      (t.0, omega (arith, rounds-formula more, t.1), omega (arith, t.2), omega (arith, t.3))

  -- no smaller power is enough
  pub rounds-least : (k : ℕ) → k < rounds_of items → 2 ^ k < items
  rounds-least k h =
      by_dec (dec_le items 1) (λ few. absurd (omega (arith, rounds-few few)))
      (λ n. let more : 1 < items = omega arith in
      by_dec (dec_le items (2 ^ 32))
      (λ word. let t = top_bit more word in let below : 2 ^ k ≤ 2 ^ t.0 = pow_mono {j = t.0} (omega (arith, t.1)) in omega (arith, t.2))
      (λ m. let below : 2 ^ k ≤ 2 ^ 32 = pow_mono {j = 32} (omega (arith, rounds-formula more)) in omega arith))

  least : (k : ℕ) → items ≤ 2 ^ k → rounds_of items ≤ k
  least k h = by_dec (dec_le (rounds_of items) k) (λ l. l) (λ n. absurd (omega (arith, rounds-least k (omega arith))))

  pub rounds-at-most : items ≤ 32768 → rounds_of items ≤ 15
  rounds-at-most h = least 15 h

  pub rounds-enough : items ≤ 32768 → items ≤ 2 ^ rounds_of items
  rounds-enough h =
      by_dec (dec_le items 1) (λ few. rw (rounds-few few) few)
      (λ n. let t = top_bit (omega arith) (omega arith) in rw t.1 t.3)

  -- document 02, (f), "n is shown unchanged": up to 32,768 items it is document 01's least number, and no other number is
  pub rounds-unchanged : items ≤ 32768 → LeastRounds items (rounds_of items) × ((n : ℕ) → LeastRounds items n → n ≡ rounds_of items)
  rounds-unchanged h = ((rounds-enough h, least), λ n l. omega (arith, l.1 (rounds_of items) (rounds-enough h), least n l.0))

-- a power of two needs its own exponent
pub rounds_power : (k : ℕ) → k ≤ 15 → rounds_of (2 ^ k) ≡ k
rounds_power k h =
    let r : ℕ = rounds_of (2 ^ k) in
    let top : 2 ^ k ≤ 2 ^ 15 = pow_mono h in
    let enough : 2 ^ k ≤ 2 ^ r = rounds-enough (2 ^ k) (omega arith) in
    by_dec (dec_le r k) (λ l. by_dec (dec_le k r) (λ m. omega arith) (λ m. absurd (let less : 2 ^ r < 2 ^ k = pow-lt (omega arith) in omega arith)))
    (λ l. absurd (omega (arith, rounds-least (2 ^ k) k (omega arith))))

-- how many items fold j has
pub size-power : (n j : ℕ) → j ≤ n → size n j ≡ 2 ^ (n - j)
size-power n j h =
    let e : n ≡ (n - j) + j = omega arith in
    ap (λ m. 2 ^ m / 2 ^ j) e ∙ (rw (pow-add 2 (n - j) j) (mul-div_cancel (2 ^ (n - j)) (pow_pos j)))

pub size-all : (n : ℕ) → size n 0 ≡ 2 ^ n
size-all n = div-one (2 ^ n)

pub size-last : (n : ℕ) → size n n ≡ 1
size-last n = div_self (pow_pos n)

pub size-halves : (n j : ℕ) → j < n → size n j ≡ 2 * size n (suc j)
size-halves n j h =
    let e : n - j ≡ suc (n - suc j) = omega arith in
    size-power n j (omega arith) ∙ ap (λ m. 2 ^ m) e ∙ pow-succ' 2 (n - suc j) ∙ ap (λ s. 2 * s) (sym (size-power n (suc j) (omega arith)))

pub size-times : (n j : ℕ) → j ≤ n → 2 ^ j * size n j ≡ 2 ^ n
size-times n j h =
    let e : j + (n - j) ≡ n = omega arith in
    ap (λ s. 2 ^ j * s) (size-power n j h) ∙ sym (pow-add 2 j (n - j)) ∙ ap (λ m. 2 ^ m) e

-- t / 2^k halved
pub half_count : (t k : ℕ) → t / 2 ^ k / 2 ≡ t / 2 ^ suc k
half_count t k = rw (pow-suc 2 k) (div-div-eq-div-mul t (2 ^ k) 2)
