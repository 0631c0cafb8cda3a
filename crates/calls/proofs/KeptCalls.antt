-- What is asked of an answered call, by the call.
use Prim.Native.Nat.{ℕ, ◌-◌, ◌^◌, ◌<◌}
use mathlib.Core.Path.{◌≡◌, refl, subst}
use mathlib.Core.Bool.{Bool, true}
use lib.ListN.{length}
use Rattle.phase.specs.Cases.{is_full}
use Rattle.vector.specs.Vector.{at}
use Rattle.item.specs.declared.Given.{Given}
use Rattle.runs.specs.Trip.{Trip, trip_item, vector_f, vector_g}
use Rattle.calls.specs.declared.Call.{Call}
use Rattle.calls.specs.declared.Call.TheVariants as call
use Rattle.calls.specs.Step.{Lent}
use Rattle.calls.specs.State.{State}
use Rattle.calls.specs.Meaning.{AsLeft, binds_item, Kept}

module _ (p : ℕ) (T : Trip) (through : Bool) (a : State) where
  abbrev pub ItemKept : Given → Lent → Type 0
  ItemKept x l = (x ≡ trip_item T (T.start.items - 1 - length a.pass.items)) × (binds_item through a ≡ true → AsLeft a l)

  abbrev pub KeptBy : Call → Lent → Type 0
  KeptBy call.OpenPass l = Unit {0}
  KeptBy (call.OpenAt b) l = Unit {0}
  KeptBy call.ToFull l = Unit {0}
  KeptBy call.ToSmall l = Unit {0}
  KeptBy (call.Give x) l = ItemKept x l
  KeptBy call.Close l = Unit {0}
  KeptBy call.Message l = AsLeft a l
  KeptBy (call.Challenge c) l = is_full a.turn.mode ≡ true → AsLeft a l
  KeptBy call.Ends l = AsLeft a l
  KeptBy (call.Opening b) l = (j : ℕ) → j < 2 ^ T.start.rounds → (at l.f j ≡ vector_f p T j) × (at l.g j ≡ vector_g p T j)
  KeptBy call.WriteProof l = Unit {0}

  pub by_kept : (c : Call) (l : Lent) → KeptBy c l → Kept p T through a c l
  by_kept c l h =
      record {
        item = λ x e. (subst (λ c. KeptBy c l) e h).0;
        change = λ x e. (subst (λ c. KeptBy c l) e h).1;
        message = λ e. subst (λ c. KeptBy c l) e h;
        challenge = λ x e. subst (λ c. KeptBy c l) e h;
        ends = λ e. subst (λ c. KeptBy c l) e h;
        opening = λ b e. subst (λ c. KeptBy c l) e h;
      }

  pub kept_by : (c : Call) (l : Lent) → Kept p T through a c l → KeptBy c l
  kept_by call.OpenPass l h = tt
  kept_by (call.OpenAt b) l h = tt
  kept_by call.ToFull l h = tt
  kept_by call.ToSmall l h = tt
  kept_by (call.Give x) l h = (h.item x refl, h.change x refl)
  kept_by call.Close l h = tt
  kept_by call.Message l h = h.message refl
  kept_by (call.Challenge c) l h = h.challenge c refl
  kept_by call.Ends l h = h.ends refl
  kept_by (call.Opening b) l h = h.opening b refl
  kept_by call.WriteProof l h = tt
