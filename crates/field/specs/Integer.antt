-- Integers as numbers modulo p.
use Rattle.std.specs.Prelude.{ℕ, suc, ℤ, pos, negsuc, ◌+ℤ◌}
use Rattle.algebra.specs.Mod.{residue, neg_mod}

-- The image of an integer modulo p; `negsuc n` is -(n + 1).
unfoldable pub image : ℕ → ℤ → ℕ
image p (pos n) = residue p n
image p (negsuc n) = neg_mod p (suc n)

-- "A negative reading r becomes P + r"; any other stays.
abbrev pub by_sign : ℕ → ℤ → ℤ
by_sign p (pos n) = pos n
by_sign p (negsuc n) = pos p +ℤ negsuc n
