-- What the proofs need of the modulus.
use mathlib.Core.Path.{◌≡◌, refl}
use Prim.Native.Nat.{◌%◌, ◌^◌, ◌<◌, ◌≤◌}
use native.Mathlib.Omega.{arith}
use Rattle.algebra.specs.Prime.{Prime}
use Rattle.algebra.proofs.Primes.{prime_31}
use Rattle.refusal.specs.Limit.{max_weight}
use Rattle.field.specs.Modulus.{modulus}

pub modulus-odd : modulus % 2 ≡ 1
unfolding modulus
modulus-odd = refl

pub modulus-prime : Prime modulus
unfolding modulus
modulus-prime = prime_31

-- four bytes hold a field number
pub modulus-word : modulus ≤ 2 ^ 32
unfolding modulus
modulus-word = omega arith

-- a weight is a field number
pub modulus-weights : max_weight < modulus
unfolding modulus
modulus-weights = omega arith
