-- The binary places of a count t and of t + 1.
use mathlib.Core.Path.{◌≡◌, refl, sym, ap, ◌∙◌}
use mathlib.Core.Logic.{◌⊎◌, inl, inr}
use Prim.Native.Nat.{ℕ, zero, suc, ◌+◌, ◌-◌, ◌*◌, ◌/◌, ◌%◌, ◌^◌, ◌<◌, ◌≤◌}
use native.Mathlib.Nat.{add-mod_left, div-eq_of_lt, div-one}
use native.Mathlib.Omega.{arith}
use lib.Pow.{field, high, mod-mod-pow, shr_mono, shr-shr}
use Rattle.vector.specs.Rounds.{size}
use Rattle.vector.specs.Vector.{bit}
use Rattle.vector.proofs.Rounds.{half_count}

-- q is even or odd, with its half
abbrev pub Parity : ℕ → Type 0
Parity q = ((x : ℕ) × (q ≡ 2 * x)) ⊎ ((x : ℕ) × (q ≡ suc (2 * x)))

pub parity : (q : ℕ) → Parity q
parity zero = inl (0, refl)
parity (suc q) = go (parity q)
  where
    go : Parity q → Parity (suc q)
    go (inl e) = inr (e.0, ap suc e.1)
    go (inr e) = inl (suc e.0, omega arith)

-- one more item completes one more of level k: the places below k were ones
abbrev pub Completes : ℕ → ℕ → Type 0
Completes k t = suc t / 2 ^ k ≡ suc (t / 2 ^ k)

pub completes_zero : (t : ℕ) → Completes 0 t
completes_zero t = rw (div-one t, div-one (suc t))

-- at an even count the levels above stay as they are
pub even_stays : (k t x : ℕ) → Completes k t → t / 2 ^ k ≡ 2 * x → suc t / 2 ^ suc k ≡ t / 2 ^ suc k
even_stays k t x up e = omega (arith, half_count t k, half_count (suc t) k)

-- at an odd one the level above has one more
pub odd_completes : (k t x : ℕ) → Completes k t → t / 2 ^ k ≡ suc (2 * x) → Completes (suc k) t
odd_completes k t x up e = omega (arith, half_count t k, half_count (suc t) k)

pub half_odd : (k t x : ℕ) → t / 2 ^ k ≡ suc (2 * x) → t / 2 ^ suc k ≡ x
half_odd k t x e = omega (arith, half_count t k)

pub stays_above : (k d t : ℕ) → suc t / 2 ^ k ≡ t / 2 ^ k → suc t / 2 ^ (k + d) ≡ t / 2 ^ (k + d)
stays_above k d t e = sym (shr-shr (suc t) k d) ∙ ap (λ q. q / 2 ^ d) e ∙ shr-shr t k d

-- what is completed lies within the fold
pub in_fold : (n k t : ℕ) → t < 2 ^ n → Completes k t → t / 2 ^ k < size n k
in_fold n k t h up = omega (arith, shr_mono {a = suc t} {b = 2 ^ n} k (omega arith))

-- "binary one in t modulo 2^(i+1), at place k" is a one of t at a place up to i
pub bit-modulo : (i k t : ℕ) → k ≤ i → bit k (t % 2 ^ suc i) ≡ bit k t
bit-modulo i k t h =
    let d : ℕ = i - k in
    let e : suc i ≡ (d + 1) + k = omega arith in
    ap (λ w. t % 2 ^ w / 2 ^ k % 2) e ∙ ap (λ q. q % 2) (field t (d + 1) k) ∙ mod-mod-pow (t / 2 ^ k) d 1

-- bits below 2^j, and those that 2^j more leaves
module _ (j r : ℕ) where
  pub bit-low : r < 2 ^ j → bit j r ≡ 0
  bit-low h = ap (λ q. q % 2) (div-eq_of_lt h)

  pub bit_high : r < 2 ^ j → bit j (2 ^ j + r) ≡ 1
  bit_high h = let e : 2 ^ j + r ≡ 1 * 2 ^ j + r = omega arith in ap (λ x. x / 2 ^ j % 2) e ∙ ap (λ q. q % 2) (high 1 j h)

  pub bit_below : (k : ℕ) → k < j → bit k (2 ^ j + r) ≡ bit k r
  bit_below k h =
      let d : ℕ = j - 1 in
      let e : j ≡ suc d = omega arith in
      let less : k ≤ d = omega arith in
      let same : (2 ^ j + r) % 2 ^ suc d ≡ r % 2 ^ suc d = ap (λ w. (2 ^ j + r) % 2 ^ w) (sym e) ∙ add-mod_left (2 ^ j) r ∙ ap (λ w. r % 2 ^ w) e in
      sym (bit-modulo d k (2 ^ j + r) less) ∙ ap (bit k) same ∙ bit-modulo d k r less
