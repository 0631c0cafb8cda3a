-- The item of ops 15 and 33.
use Rattle.std.specs.Prelude.{ℕ, cond, leb, Option, Some, None}
use Rattle.item.specs.declared.Given.{Given}
use Rattle.item.specs.declared.Given.TheVariants.{Reading}
use Rattle.wire.specs.Number.{signed}

-- "the reading is a, two's complement in 32 bits (`tool bad` only if b > 65,535)"
abbrev pub plain_item : ℕ → ℕ → Option Given
plain_item a b = cond (leb b 65535) (Some (Reading (signed 4 a) b)) None
