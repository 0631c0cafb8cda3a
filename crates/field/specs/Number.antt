-- The field number: "0 to P-1 and has one form only; P itself is not zero written otherwise".
use Rattle.std.specs.Prelude.{ℕ, Bool, cond, ◌&&◌, ltb, Option, Some, None}
use Rattle.field.specs.declared.Field.{Field}

abbrev pub is_reduced : ℕ → ℕ → Bool
is_reduced p x = ltb x p

abbrev pub checked : ℕ → ℕ → Option Field
checked p x = cond (is_reduced p x) (Some (record { value = x })) None

-- "1 to P-1", of challenges, twists, v and points
abbrev pub is_nonzero : ℕ → ℕ → Bool
is_nonzero p x = ltb 0 x && is_reduced p x

abbrev pub checked_nonzero : ℕ → ℕ → Option Field
checked_nonzero p x = cond (is_nonzero p x) (Some (record { value = x })) None
