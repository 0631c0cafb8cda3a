-- Signed machine numbers: what the bits of a number that fits read back as, and bounds by absolute values.
use mathlib.Core.Path.{◌≡◌, refl, sym, ap}
use mathlib.Core.Bool.{Bool, true, false, cond, true≢false}
use Prim.Native.Nat.{ℕ, zero, suc, ◌+◌, ◌-◌, ◌*◌, ◌^◌, ◌≤◌, ◌<◌}
use native.Mathlib.Nat.{le_refl, mul-le-mul}
use native.Mathlib.Omega.{arith}
use lib.Dec.{leb, ltb}
use lib.IntN.{ℤ, pos, negsuc, nat_abs, neg_ℤ, sub_ℕ, ◌+ℤ◌, ◌-ℤ◌, ◌*ℤ◌}
use lib.Signed.{mag, lt_z}
use borrow.Author.Tests.{le-leb, le-ltb, lt-leb, ltb-false, ltb-true}
use mir.Syntax.{w16, w32, w64}
use mir.Val.{Fits, SFits}

pub mag_le : (z : ℤ) → mag z ≤ nat_abs z
mag_le (pos n) = le_refl n
mag_le (negsuc n) = omega arith

pub nat_abs_le : (z : ℤ) → nat_abs z ≤ mag z + 1
nat_abs_le (pos n) = omega arith
nat_abs_le (negsuc n) = omega arith

nat_abs_neg : (z : ℤ) → nat_abs (neg_ℤ z) ≡ nat_abs z
nat_abs_neg (pos zero) = refl
nat_abs_neg (pos (suc n)) = refl
nat_abs_neg (negsuc n) = refl

nat_abs_cond : (b : Bool) (x y : ℤ) (m : ℕ) → nat_abs x ≤ m → nat_abs y ≤ m → nat_abs (cond b x y) ≤ m
nat_abs_cond true x y m hx hy = hx
nat_abs_cond false x y m hx hy = hy

nat_abs_sub : (a b : ℕ) → nat_abs (sub_ℕ a (suc b)) ≤ a + suc b
nat_abs_sub a b = nat_abs_cond (ltb a (suc b)) (negsuc (suc b - suc a)) (pos (a - suc b)) (a + suc b) (omega arith) (omega arith)

pub nat_abs_add : (x y : ℤ) → nat_abs (x +ℤ y) ≤ nat_abs x + nat_abs y
nat_abs_add (pos a) (pos b) = le_refl (a + b)
nat_abs_add (pos a) (negsuc b) = nat_abs_sub a b
nat_abs_add (negsuc a) (pos b) = omega (arith, nat_abs_sub b a)
nat_abs_add (negsuc a) (negsuc b) = omega arith

pub nat_abs_mul : (x y : ℤ) → nat_abs (x *ℤ y) ≡ nat_abs x * nat_abs y
nat_abs_mul (pos a) (pos b) = refl
nat_abs_mul (pos a) (negsuc b) = nat_abs_neg (pos (a * suc b))
nat_abs_mul (negsuc a) (pos b) = nat_abs_neg (pos (suc a * b))
nat_abs_mul (negsuc a) (negsuc b) = refl

pub small_fits : (z : ℤ) → nat_abs z < 2 ^ 63 → SFits w64 z
small_fits z h = record { sfits = omega (arith, mag_le z) }

pub nat_abs_32 : (z : ℤ) → SFits w32 z → nat_abs z ≤ 2147483648
nat_abs_32 z h = omega (arith, nat_abs_le z, h.sfits)

pub widened : {z : ℤ} → SFits w32 z → SFits w64 z
widened h = record { sfits = omega (arith, h.sfits) }

-- -1 less a negative number
pub from-minus-one : (n : ℕ) → negsuc 0 -ℤ negsuc n ≡ pos n
from-minus-one n = rw (le-ltb (suc n) 1 (omega arith)) (ap pos (omega arith))

-- a number by its sign
pub negative : (z : ℤ) → SFits w64 z → lt_z z (pos 0) ≡ true → (n : ℕ) × (z ≡ negsuc n) × (n < 2 ^ 63)
negative (pos n) f h = let l = ltb-true n 0 h in absurd (omega arith)
negative (negsuc n) f h = (n, refl, omega (arith, f.sfits))

pub nonnegative : (z : ℤ) → SFits w64 z → lt_z z (pos 0) ≡ false → (n : ℕ) × (z ≡ pos n) × (n < 2 ^ 63)
nonnegative (pos n) f h = (n, refl, omega (arith, f.sfits))
nonnegative (negsuc n) f h = absurd (true≢false h)

module _ (r : ℤ) (w : ℕ) (fr : SFits w32 r) (fw : Fits w16 w) where
  product-abs : nat_abs (r *ℤ pos w) ≤ 2147483648 * 65535
  product-abs =
      let b : nat_abs r ≤ 2147483648 = nat_abs_32 r fr in
      let d : w ≤ 65535 = omega arith in
      rw (nat_abs_mul r (pos w)) (mul-le-mul b d)

  pub product-fits : SFits w64 (r *ℤ pos w)
  product-fits = small_fits _ (omega (arith, product-abs))

pub sum_fits : (t z : ℤ) → nat_abs t ≤ 2 ^ 62 → nat_abs z ≤ 2 ^ 61 → SFits w64 (t +ℤ z)
sum_fits t z h k = small_fits _ (omega (arith, nat_abs_add t z))

-- the two tests of a limit m
pub over_limit : (m : ℕ) (z : ℤ) → lt_z (pos m) z ≡ true → leb (nat_abs z) m ≡ false
over_limit m (pos n) h = lt-leb n m (ltb-true m n h)
over_limit m (negsuc n) h = absurd (true≢false (sym h))

pub under-limit : (m : ℕ) (z : ℤ) → lt_z z (neg_ℤ (pos m)) ≡ true → leb (nat_abs z) m ≡ false
under-limit zero (pos n) h = let l = ltb-true n 0 h in absurd (omega arith)
under-limit zero (negsuc n) h = lt-leb (suc n) 0 (omega arith)
under-limit (suc m) (pos n) h = absurd (true≢false (sym h))
under-limit (suc m) (negsuc n) h = lt-leb (suc n) (suc m) (omega (arith, ltb-true m n h))

pub between-limits : (m : ℕ) (z : ℤ) → lt_z (pos m) z ≡ false → lt_z z (neg_ℤ (pos m)) ≡ false → leb (nat_abs z) m ≡ true
between-limits m (pos n) h l = le-leb n m (ltb-false m n h)
between-limits zero (negsuc n) h l = absurd (true≢false l)
between-limits (suc m) (negsuc n) h l = le-leb (suc n) (suc m) (omega (arith, ltb-false m n l))

pub minus-fits : (m : ℕ) → m < 2 ^ 63 → SFits w64 (neg_ℤ (pos m))
minus-fits zero h = record { sfits = omega arith }
minus-fits (suc m) h = record { sfits = omega arith }
