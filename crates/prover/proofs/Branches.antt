-- How a row of checks is read: by what each check answered.
use Rattle.std.specs.Prelude.{Some}
use mathlib.Core.Path.{◌≡◌}
use mathlib.Core.Bool.{true}
use Prim.Native.Nat.{ℕ}
use Rattle.std.proofs.lemmas.Bool.{cond-true, cond-false}
use Rattle.field.specs.declared.Field.{Field}
use Rattle.field.specs.Number.{is_nonzero, checked_nonzero}
use Rattle.field.proofs.Checks.{number-nonzero, none_nonzero}

pub number_so : (p x : ℕ) (b : Field) → checked_nonzero p x ≡ Some b → is_nonzero p x ≡ true
number_so p x b e = (number-nonzero p x b e).0

pub number_value : (p x : ℕ) (b : Field) → checked_nonzero p x ≡ Some b → b.value ≡ x
number_value p x b e = (number-nonzero p x b e).1

pub ruleset branches = (cond-true, cond-false, number_so, number_value, none_nonzero)
