-- Logs of three marks, weights 10, 20 and 5, in each version: what is said of nothing but marks is said of these.
use mathlib.Core.Path.{◌≡◌, refl}
use mathlib.Core.Bool.{Bool, true}
use mathlib.Core.List.{List, [], ◌∷◌}
use Prim.Native.Nat.{ℕ, zero, suc, ◌<◌}
use native.Mathlib.Omega.{arith}
use lib.IntN.{pos}
use Rattle.refusal.specs.Outcome.{require_all}
use Rattle.field.specs.Modulus.{modulus}
use Rattle.field.proofs.ModulusLaws.{modulus-weights, modulus-prime, modulus-odd, modulus-word}
use Rattle.vector.specs.Rounds.{rounds_of}
use Rattle.wire.specs.Number.{num, num_at, signed}
use Rattle.wire.specs.Header.{marked}
use Rattle.wire.specs.Log.{reading_of, read_log_within}
use Rattle.item.specs.Version.{in_range}
use Rattle.item.specs.Mark.{is_mark}
use Rattle.runs.specs.Trip.{Trip, total_of}
use Rattle.calls.specs.World.{Made, World, fresh_world}
use Rattle.calls.specs.QueryState.{fresh_hearing}
use Rattle.calls.specs.Proper.{proper_run}
use Rattle.calls.specs.Carried.{by_messages}
use Rattle.calls.specs.BatchTrip.{log_trip}
use Rattle.calls.specs.Demand3.{AllProper, AllAgreed}
use Rattle.calls.proofs.LiveExample.{P, idle, brings}
use Rattle.calls.proofs.Marked.{AllMarked, log-marked, marked-total, marked-proper, marked-accepted}

abbrev tenths : List ℕ
tenths = 82 ∷ 86 ∷ 76 ∷ 1 ∷ 0 ∷ 3 ∷ 0 ∷ 0 ∷ 128 ∷ 10 ∷ 0 ∷ 0 ∷ 128 ∷ 20 ∷ 0 ∷ 0 ∷ 128 ∷ 5 ∷ 0 ∷ []

abbrev thousandths : List ℕ
thousandths =
    82 ∷ 86 ∷ 76 ∷ 2 ∷ 0 ∷ 3 ∷ 0 ∷ 0 ∷ 0 ∷ 0 ∷ 128 ∷ 10 ∷ 0 ∷ 0 ∷ 0 ∷ 0 ∷ 128 ∷ 20 ∷ 0 ∷ 0 ∷ 0 ∷ 0 ∷ 128 ∷ 5 ∷ 0 ∷ []

of_three : (A : ℕ → Type 0) → A 0 → A 1 → A 2 → (i : ℕ) → i < 3 → A i
of_three A x y z zero h = x
of_three A x y z (suc zero) h = y
of_three A x y z (suc (suc zero)) h = z
of_three A x y z (suc (suc (suc i))) h = absurd (omega arith)

tenths-marked : AllMarked (log_trip tenths)
unfolding read_log_within marked require_all num_at num signed in_range is_mark
tenths-marked = log-marked tenths (record { count = 3; version = 1 }) refl (of_three (λ i. is_mark 1 (reading_of tenths i) ≡ true) refl refl refl)

thousandths-marked : AllMarked (log_trip thousandths)
unfolding read_log_within marked require_all num_at num signed in_range is_mark
thousandths-marked =
    log-marked thousandths (record { count = 3; version = 2 }) refl (of_three (λ i. is_mark 2 (reading_of thousandths i) ≡ true) refl refl refl)

-- in a run with the challenges 2 and 3 and the point 2 every call is answered, and its verifier says yes
abbrev Proved : Trip → (ℕ → Bool) → List ℕ → List ℕ → Type 0
Proved T full f g =
    let begin : World = fresh_world T.start f g in
    let run : List Made = proper_run P T full (2 ∷ 3 ∷ []) (2 ∷ []) idle f g in
    AllProper P (2 ∷ 3 ∷ []) T begin run × AllAgreed P (fresh_hearing T.start (2 ∷ 3 ∷ [])) (by_messages P T begin run)

proved : (T : Trip) → AllMarked T → T.start.rounds ≡ 2 → (full : ℕ → Bool) (f g : List ℕ) → Proved T full f g
unfolding modulus
proved T all rounds full f g =
    let b = brings T rounds full in (
      marked-proper T all P modulus-weights modulus-prime modulus-odd modulus-word full (2 ∷ 3 ∷ []) (2 ∷ []) idle b f g,
      (marked-accepted T all P modulus-weights modulus-prime modulus-odd modulus-word full (2 ∷ 3 ∷ []) (2 ∷ []) idle b f g).1,
    )

-- total 0, by the law; provable in every choice of modes
pub tenths-total : total_of (log_trip tenths) ≡ pos 0
tenths-total = marked-total (log_trip tenths) tenths-marked

pub tenths-proved : (full : ℕ → Bool) (f g : List ℕ) → Proved (log_trip tenths) full f g
unfolding rounds_of num_at num
tenths-proved = proved (log_trip tenths) tenths-marked refl

pub thousandths-total : total_of (log_trip thousandths) ≡ pos 0
thousandths-total = marked-total (log_trip thousandths) thousandths-marked

pub thousandths-proved : (full : ℕ → Bool) (f g : List ℕ) → Proved (log_trip thousandths) full f g
unfolding rounds_of num_at num
thousandths-proved = proved (log_trip thousandths) thousandths-marked refl
