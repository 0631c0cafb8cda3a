-- What a call's steps may rely on once its checks passed, in forms that `grind` finds by the check.
use mathlib.Core.Path.{◌≡◌, refl}
use mathlib.Core.Bool.{Bool, true, false, cond}
use mathlib.Core.Logic.{◌⊎◌, inl, inr}
use Prim.Native.Nat.{◌≤◌, ◌<◌}
use Rattle.verifier.specs.declared.Verifier.{Verifier}
use Rattle.verifier.specs.WellFormed.{well_formed}
use Rattle.verifier.specs.Calls.{pass_open, message_turn, has_rounds}
use Rattle.verifier.proofs.Branches.{branches}
use Rattle.verifier.proofs.Invariant.{open_says, hears-safe, opening-safe, opening-some}

pub open_bounds : (v : Verifier) → pass_open v ≡ true → (pass_open v ≡ pass_open v) × ((v.start.items ≤ 32768) × (v.start.rounds ≤ 15))
open_bounds v h = let f = (open_says v h).0 in (refl, (f.limit, f.few))

pub rounds_bounds : (v : Verifier) → has_rounds v ≡ true → (has_rounds v ≡ has_rounds v) × ((1 ≤ v.start.rounds) × (v.start.rounds ≤ 15))
rounds_bounds v h = (refl, (opening-some v h, opening-safe v h))

pub turn_bounds : (v : Verifier) → well_formed v ≡ true → message_turn v ≡ true → (message_turn v ≡ message_turn v) × (v.round < 15)
turn_bounds v h t = (refl, hears-safe v h t)

pub ruleset guarded = (branches, open_bounds, rounds_bounds, turn_bounds)

pub cond_cases : {A : Type 0} (b : Bool) (x y : A) → (cond b x y ≡ cond b x y) × (((b ≡ true) × (cond b x y ≡ x)) ⊎ ((b ≡ false) × (cond b x y ≡ y)))
cond_cases true x y = (refl, inl (refl, refl))
cond_cases false x y = (refl, inr (refl, refl))

pub ruleset splits = (branches, cond_cases)
