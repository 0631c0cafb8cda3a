-- Document 01's "One trip, whole" is such a run, whichever of its steps are made in full mode; its verifier agrees, by messages and by the 42
-- bytes of its proof file.
use mathlib.Core.Path.{◌≡◌, refl, sym}
use mathlib.Core.Bool.{Bool, true}
use mathlib.Core.List.{List, [], ◌∷◌, ◌++◌}
use Prim.Native.Nat.{ℕ, zero, suc, ◌+◌, ◌<◌}
use native.Mathlib.Omega.{arith}
use lib.IntN.{pos, negsuc}
use lib.ListN.{replicate, take}
use Rattle.field.specs.Total.{in_limits}
use Rattle.vector.specs.Rounds.{rounds_of}
use Rattle.item.specs.declared.Given.TheVariants.{Reading}
use Rattle.item.specs.Version.{in_range}
use Rattle.item.specs.Mark.{is_mark}
use Rattle.runs.specs.Trip.{Trip, trip_item, sum_of}
use Rattle.calls.specs.declared.Call.{Call}
use Rattle.calls.specs.Step.{Lent}
use Rattle.calls.specs.Lists.{after}
use Rattle.calls.specs.World.{Made, World, fresh_world, came, onward}
use Rattle.calls.specs.QueryState.{Hearing, fresh_hearing}
use Rattle.calls.specs.Proper.{ItemFits, Valid, AllNonzero, Brings, proper_run}
use Rattle.calls.specs.Carried.{by_messages, by_file, writes_proof}
use Rattle.calls.specs.Demand3.{AllProper, AllBringRun, AllAgreed}
use Rattle.calls.proofs.Demand3.{demand3_31}

abbrev pub P : ℕ
P = 2147483647

abbrev trip : Trip
trip =
    record {
      start = record { items = 3; rounds = 2; plain = true; version = 1; twists = replicate 15 0 };
      items = Reading (negsuc 179) 10 ∷ Reading (negsuc 174) 20 ∷ Reading (pos 40) 5 ∷ [];
    }

valid : Valid P trip
unfolding rounds_of in_limits sum_of in_range is_mark
valid = record { whole = record { start = record { version = refl; least = omega arith; most = omega arith; rounds = refl }; items = refl }; items = fits; total = λ e. refl }
  where
    fits : (i : ℕ) → i < 3 → ItemFits P trip.start (trip_item trip i)
    fits zero h = (refl, refl, omega arith)
    fits (suc zero) h = (refl, refl, omega arith)
    fits (suc (suc zero)) h = (refl, refl, omega arith)
    fits (suc (suc (suc i))) h = absurd (omega arith)

-- four places, which hold something else at each call
abbrev pub idle : Call → ℕ → Lent
idle c j = record { f = replicate 4 (P + j); g = replicate 4 (P + j); file = [] }

-- for any trip of two rounds
pub brings : (T : Trip) → T.start.rounds ≡ 2 → (full : ℕ → Bool) → Brings P T full (2 ∷ 3 ∷ []) (2 ∷ []) idle
brings T rounds full =
    record { count = sym rounds; challenges = two; points = one; room = λ i most e j. rw rounds (omega arith, omega arith) }
  where
    two : AllNonzero P (2 ∷ 3 ∷ [])
    two zero h = refl
    two (suc zero) h = refl
    two (suc (suc j)) h = absurd (omega arith)

    one : AllNonzero P (2 ∷ [])
    one zero h = refl
    one (suc j) h = absurd (omega arith)

module _ (full : ℕ → Bool) (f g : List ℕ) where
  abbrev begin : World
  begin = fresh_world trip.start f g

  abbrev run : List Made
  run = proper_run P trip full (2 ∷ 3 ∷ []) (2 ∷ []) idle f g

  abbrev listens : Hearing
  listens = fresh_hearing trip.start (2 ∷ 3 ∷ [])

  pub trip-proper : AllProper P (2 ∷ 3 ∷ []) trip begin run
  trip-proper = demand3_31.proper trip valid full (2 ∷ 3 ∷ []) (2 ∷ []) idle (brings trip refl full) f g

  pub trip-agreed : AllAgreed P listens (by_messages P trip begin run) × AllBringRun P trip begin run listens (by_messages P trip begin run)
  trip-agreed = let v = demand3_31.verifier_proper trip valid full (2 ∷ 3 ∷ []) (2 ∷ []) idle (brings trip refl full) f g in (v.1, v.2)

  abbrev into : Lent
  into = record { f = []; g = []; file = replicate 42 0 }

  abbrev file : List ℕ
  file = take 42 (came P (after (onward P) begin run) (writes_proof into)).lent.file

  pub trip-file-agreed : AllAgreed P listens (by_file P trip begin run file) × AllBringRun P trip begin (run ++ writes_proof into ∷ []) listens (by_file P trip begin run file)
  trip-file-agreed =
      let v = (demand3_31.verifier_proper trip valid full (2 ∷ 3 ∷ []) (2 ∷ []) idle (brings trip refl full) f g).3 refl into (omega arith) in (v.2, v.3)
