-- Arithmetic modulo p on the natural numbers. Arguments need not be reduced; results are.
use Rattle.std.specs.Prelude.{ℕ, zero, suc, ◌+◌, ◌-◌, ◌*◌, ◌/◌, ◌%◌, max, leb, true, false}

-- A modulus of 0 is read as 1, so that every law holds for every p and every function on machine numbers is total.
abbrev pub base : ℕ → ℕ
base p = max p 1

unfoldable pub residue : ℕ → ℕ → ℕ
residue p a = a % base p

unfoldable pub add_mod : ℕ → ℕ → ℕ → ℕ
add_mod p a b = residue p (a + b)

unfoldable pub neg_mod : ℕ → ℕ → ℕ
neg_mod p a = residue p (base p - residue p a)

unfoldable pub sub_mod : ℕ → ℕ → ℕ → ℕ
sub_mod p a b = residue p (a + (base p - residue p b))

unfoldable pub mul_mod : ℕ → ℕ → ℕ → ℕ
mul_mod p a b = residue p (a * b)

-- a to the power n
unfoldable pub pow_mod : ℕ → ℕ → ℕ → ℕ
pow_mod p a zero = residue p 1
pow_mod p a (suc n) = mul_mod p a (pow_mod p a n)

-- The inverse of 2 for an odd p. Document 01: "Half means multiplying by 1,073,741,824".
unfoldable pub half_one : ℕ → ℕ
half_one p = (p + 1) / 2

unfoldable pub half_mod : ℕ → ℕ → ℕ
half_mod p a = mul_mod p a (half_one p)

-- The inverse by remainders: p % a is -(p / a) a modulo p, so the inverse of a is -(p / a) times that of p % a, which is less than a.
-- The first number bounds the calls.
unfoldable pub inverse_in : ℕ → ℕ → ℕ → ℕ
inverse_in zero p a = 0
inverse_in (suc k) p a = elim (leb a 1) [ true ↦ a | false ↦ mul_mod p (neg_mod p (p / a)) (inverse_in k p (p % a)) ]

-- The inverse for a prime p, 0 for 0.
unfoldable pub inverse_mod : ℕ → ℕ → ℕ
inverse_mod p a = inverse_in (residue p a) p (residue p a)

-- a / b of a field.
unfoldable pub div_mod : ℕ → ℕ → ℕ → ℕ
div_mod p a b = mul_mod p a (inverse_mod p b)
