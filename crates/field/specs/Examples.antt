-- Numbers of document 01's starred cases, and at the ends of the widths that readings come in.
use Rattle.std.specs.Prelude.{ℕ, ◌-◌, ◌≡◌, refl, true, false, pos, negsuc}
use Rattle.algebra.specs.Mod.{residue, neg_mod, mul_mod, half_one, half_mod}
use Rattle.field.specs.Integer.{image}
use Rattle.refusal.specs.Limit.{max_total}
use Rattle.field.specs.Total.{limit, in_limits}

abbrev P : ℕ
P = 2147483647

pub reading-minus-one : image P (negsuc 0) ≡ P - 1
unfolding image neg_mod residue
reading-minus-one = refl

pub half_of_one : half_mod P 1 ≡ 1073741824
unfolding half_mod half_one mul_mod residue
half_of_one = refl

-- the frozen reading of -18.0 degrees
pub reading-minus-180 : image P (negsuc 179) ≡ 2147483467
unfolding image neg_mod residue
reading-minus-180 = refl

-- the same in thousandths
pub reading-minus-18000 : image P (negsuc 17999) ≡ 2147465647
unfolding image neg_mod residue
reading-minus-18000 = refl

-- the least number of 16 bits
pub least_half_word : image P (negsuc 32767) ≡ 2147450879
unfolding image neg_mod residue
least_half_word = refl

-- the ends of 32 bits, where a number is not its own sign: P is 0, and -2^31 is -1
pub greatest_word : image P (pos 2147483647) ≡ 0
unfolding image residue
greatest_word = refl

pub least_word : image P (negsuc 2147483647) ≡ P - 1
unfolding image neg_mod residue
least_word = refl

-- the limit over any modulus, at P
pub limit-of_total : limit P ≡ max_total
limit-of_total = refl

pub largest_total : in_limits P (pos 1073741823) ≡ true
unfolding in_limits
largest_total = refl

pub past_largest_total : in_limits P (pos 1073741824) ≡ false
unfolding in_limits
past_largest_total = refl

pub smallest_total : in_limits P (negsuc 1073741822) ≡ true
unfolding in_limits
smallest_total = refl

pub past_smallest_total : in_limits P (negsuc 1073741823) ≡ false
unfolding in_limits
past_smallest_total = refl
