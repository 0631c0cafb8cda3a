-- Laws of little-endian numbers and of two's complement.
use mathlib.Core.Path.{◌≡◌, refl, ap}
use mathlib.Core.List.{List}
use Prim.Native.Nat.{ℕ, zero, suc, ◌+◌, ◌*◌, ◌/◌, ◌%◌, ◌≤◌, ◌<◌}
use native.Mathlib.Numerals.{add-one, unary_clauses}
use native.Mathlib.Nat.{div-div-eq-div-mul}
use native.Mathlib.Omega.{arith}
use lib.ListN.{length, get_or, set}
use lib.Seq.{drop-cons, sets}
use lib.IntN.{ℤ, pos, negsuc, nat_abs, ◌-ℤ◌}
use lib.Signed.{lt_z}
use mathlib.Core.Bool.{true, false, true≢false}
use borrow.Author.Tests.{le-ltb, ltb-true}
use Rattle.wire.specs.Number.{num, bytes, num_at}

-- one byte more
num-step : (k : ℕ) (s : List ℕ) {at next : ℕ} → at < length s → at + 1 ≡ next → num_at (suc k) s at ≡ get_or s at 0 + 256 * num_at k s next
unfolding num_at num
num-step k s {at} {next} h e = rw (← e, drop-cons s at 0 h, add-one at)

num-none : (s : List ℕ) (at : ℕ) → num_at 0 s at ≡ 0
unfolding num_at num
num-none s at = refl

module _ (s : List ℕ) (at : ℕ) where
  pub num-two : at + 2 ≤ length s → num_at 2 s at ≡ get_or s at 0 + 256 * get_or s (at + 1) 0
  num-two h =
      omega (
        arith,
        num-step 1 s {at = at} {next = at + 1} (omega arith) refl,
        num-step 0 s {at = at + 1} {next = at + 2} (omega arith) (omega arith),
        num-none s (at + 2),
      )

  pub num-four : at + 4 ≤ length s
      → num_at 4 s at ≡ get_or s at 0 + 256 * get_or s (at + 1) 0 + 65536 * get_or s (at + 2) 0 + 16777216 * get_or s (at + 3) 0
  num-four h =
      omega (
        arith,
        num-step 3 s {at = at} {next = at + 1} (omega arith) refl,
        num-step 2 s {at = at + 1} {next = at + 2} (omega arith) (omega arith),
        num-step 1 s {at = at + 2} {next = at + 3} (omega arith) (omega arith),
        num-step 0 s {at = at + 3} {next = at + 4} (omega arith) (omega arith),
        num-none s (at + 4),
      )

  -- four stores are the bytes of the number
  pub four_stores : (v : ℕ)
      → set (set (set (set s at (v % 256)) (at + 1) (v / 256 % 256)) (at + 2) (v / 65536 % 256)) (at + 3) (v / 16777216 % 256)
      ≡ sets s at (bytes 4 v)
  unfolding bytes
  four_stores v = simp (unary_clauses, div-div-eq-div-mul)

-- -1 less a number is its two's complement
pub minus : (k : ℕ) → negsuc 0 -ℤ pos k ≡ negsuc k
minus zero = refl
minus (suc k) = ap negsuc (omega arith)

pub minus-neg : (n : ℕ) → negsuc 0 -ℤ negsuc n ≡ pos n
minus-neg n = rw (le-ltb (suc n) 1 (omega arith)) (ap pos (omega arith))

-- a number by its sign
pub negative : (z : ℤ) {m : ℕ} → nat_abs z ≤ m → lt_z z (pos 0) ≡ true → (n : ℕ) × (z ≡ negsuc n) × (n < m)
negative (pos n) l h = let z = ltb-true n 0 h in absurd (omega arith)
negative (negsuc n) l h = (n, refl, omega arith)

pub positive : (z : ℤ) {m : ℕ} → nat_abs z ≤ m → lt_z z (pos 0) ≡ false → (n : ℕ) × (z ≡ pos n) × (n ≤ m)
positive (pos n) l h = (n, refl, l)
positive (negsuc n) l h = absurd (true≢false h)
