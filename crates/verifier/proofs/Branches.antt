-- How a row of checks is read: by what each check answered, and that a refusal stays.
use mathlib.Core.Path.{◌≡◌, refl}
use mathlib.Core.Bool.{Bool, true, false, cond}
use mathlib.Core.Logic.{◌⊎◌, inl, inr}
use Prim.Native.Nat.{ℕ}
use Rattle.std.specs.Prelude.{Option, Some, None}
use Rattle.std.proofs.lemmas.Bool.{cond-true, cond-false}
use Rattle.refusal.specs.declared.Refusal.{Refusal}
use Rattle.refusal.specs.Refusal.{number_of, index_of, told, refused_by}
use Rattle.field.specs.declared.Field.{Field}
use Rattle.field.specs.Number.{is_reduced, is_nonzero, checked, checked_nonzero}
use Rattle.item.specs.declared.Item.{Item}
use Rattle.verifier.specs.declared.Verifier.{Verifier}
use Rattle.verifier.specs.Records.{Replied, leaves}
use Rattle.verifier.specs.Calls.{with_parts}

-- a constructor's answer; what stands before the cases shows `grind` the call to match
abbrev pub Tested : Bool → ℕ → Option Field → Type 0
Tested test x r = (r ≡ r) × (((test ≡ true) × (r ≡ Some (record { value = x }))) ⊎ ((test ≡ false) × (r ≡ None)))

tested : (b : Bool) (x : ℕ) → Tested b x (cond b (Some (record { value = x })) None)
tested true x = (refl, inl (refl, refl))
tested false x = (refl, inr (refl, refl))

pub checked_cases : (p x : ℕ) → Tested (is_reduced p x) x (checked p x)
checked_cases p x = tested (is_reduced p x) x

pub nonzero_cases : (p x : ℕ) → Tested (is_nonzero p x) x (checked_nonzero p x)
nonzero_cases p x = tested (is_nonzero p x) x

-- a refused call leaves the verifier as it was
left : (v : Verifier) (k : ℕ) (i : Option ℕ) → leaves v (told k i) ≡ record { verifier = v; outcome = told k i }
left v k None = refl
left v k (Some i) = refl

pub leaves-refused : (v : Verifier) (e : Refusal) → leaves v (refused_by e) ≡ record { verifier = v; outcome = refused_by e }
leaves-refused v e = left v (number_of e) (index_of e)

-- the refusal of an item is the call's
parted : (k : ℕ) (i : Option ℕ) (rest : Item → Replied) → with_parts (told k i) rest ≡ told k i
parted k None rest = refl
parted k (Some i) rest = refl

pub parts-refused : (e : Refusal) (rest : Item → Replied) → with_parts (refused_by e) rest ≡ refused_by e
parts-refused e rest = parted (number_of e) (index_of e) rest

pub ruleset branches = (cond-true, cond-false, checked_cases, nonzero_cases, leaves-refused, parts-refused)
