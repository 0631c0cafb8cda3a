-- The size of a fold by a shift.
use mathlib.Core.Path.{◌≡◌, sym, ap, ◌∙◌}
use Prim.Native.Nat.{ℕ, ◌-◌, ◌*◌, ◌%◌, ◌^◌, ◌≤◌, ◌<◌}
use native.Mathlib.Nat.{div-eq_of_lt, mod-eq_of_lt, one-mul}
use native.Mathlib.Omega.{arith}
use borrow.Author.Tests.{lt-ltb, le-ltb}
use lib.Pow.{pow-lt}
use Rattle.vector.specs.Rounds.{size}
use Rattle.vector.specs.Power.{size_in32}
use Rattle.vector.proofs.Rounds.{size-power}

module _ (n j : ℕ) where
  pub size-past : n < j → size n j ≡ 0
  size-past h = div-eq_of_lt (pow-lt h)

  pub large : 31 < n → 0 ≡ size_in32 n j
  unfolding size_in32
  large h = rw (le-ltb n 32 (omega arith))

  pub past : n ≤ 31 → n < j → 0 ≡ size_in32 n j
  unfolding size_in32
  past le h = rw (lt-ltb n 32 (omega arith)) (sym (size-past h))

  pub shifted : n ≤ 31 → j ≤ n → (1 * 2 ^ (n - j)) % 4294967296 ≡ size_in32 n j
  unfolding size_in32
  shifted le h =
      rw (lt-ltb n 32 (omega arith))
      (ap (λ k. k % 4294967296) (one-mul (2 ^ (n - j))) ∙ mod-eq_of_lt (pow-lt {i = n - j} {j = 32} (omega arith)) ∙ sym (size-power n j h))
