-- What the constructors' answers tell of the number handed in.
use Rattle.std.specs.Prelude.{Option, Some, None}
use Prim.Native.Nat.{ℕ}
use mathlib.Core.Path.{◌≡◌, refl}
use mathlib.Core.Bool.{Bool, true, false, cond}
use Rattle.field.specs.declared.Field.{Field}
use Rattle.field.specs.Number.{is_reduced, is_nonzero, checked, checked_nonzero}

-- over any test of the number
abbrev tested : Bool → ℕ → Option Field
tested t x = cond t (Some (record { value = x })) None

tested-number : (t : Bool) (x : ℕ) (b : Field) → tested t x ≡ Some b → (t ≡ true) × (b.value ≡ x)
tested-number true x b e = (refl, cc)
tested-number false x b e = cc

tested-none : (t : Bool) (x : ℕ) → tested t x ≡ None → t ≡ false
tested-none true x e = cc
tested-none false x e = refl

pub number-reduced : (p x : ℕ) (b : Field) → checked p x ≡ Some b → (is_reduced p x ≡ true) × (b.value ≡ x)
number-reduced p x b e = tested-number (is_reduced p x) x b e

pub none_reduced : (p x : ℕ) → checked p x ≡ None → is_reduced p x ≡ false
none_reduced p x e = tested-none (is_reduced p x) x e

pub number-nonzero : (p x : ℕ) (b : Field) → checked_nonzero p x ≡ Some b → (is_nonzero p x ≡ true) × (b.value ≡ x)
number-nonzero p x b e = tested-number (is_nonzero p x) x b e

pub none_nonzero : (p x : ℕ) → checked_nonzero p x ≡ None → is_nonzero p x ≡ false
none_nonzero p x e = tested-none (is_nonzero p x) x e
