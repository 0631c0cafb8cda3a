-- "All work is modulo P = 2,147,483,647 = 2^31 - 1, a prime": the one place that names the number for the calls.
use Rattle.std.specs.Prelude.{ℕ}

unfoldable pub modulus : ℕ
modulus = 2147483647
