-- Document 02, (d), "Totals and proofs of logs without the mark are unchanged": a trip's total, vectors and proof file beside what they were
-- with no mark to look for, in either version.
use mathlib.Core.Path.{◌≡◌, refl, ap, ap₂, ◌∙◌}
use mathlib.Core.Bool.{false}
use mathlib.Core.List.{List, [], ◌∷◌}
use Prim.Native.Nat.{ℕ, suc, ◌<◌}
use native.Mathlib.Omega.{arith}
use lib.IntN.{ℤ, pos, ◌+ℤ◌}
use lib.ListN.{length, get_or}
use Rattle.vector.specs.Vector.{Vector, padded}
use Rattle.wire.specs.Log.{log_count, reading_of, weight_of}
use Rattle.wire.proofs.Unmarked.{NoMark}
use Rattle.item.specs.declared.Given.{Given}
use Rattle.item.specs.declared.Given.TheVariants.{Reading, Numbers}
use Rattle.item.specs.declared.Item.{Item}
use Rattle.item.specs.declared.Start.{Start}
use Rattle.item.specs.Mark.{is_mark}
use Rattle.item.specs.Item.{contributes}
use Rattle.item.proofs.Marks.{ordinary_item, unmarked_contributes}
use Rattle.runs.specs.Trip.{Trip, trip_item, enters_as, vector_f, vector_g, sum_of, total_of}
use Rattle.r1cs.proofs.RuleTotals.{padded-same}
use Rattle.calls.specs.BatchTrip.{log_trip}
use Rattle.calls.specs.Meaning.{file_of, proof_of_trip}
use Rattle.calls.proofs.RuleTrips.{items-length, items_at}

-- WITHOUT THE MARK
abbrev pub NotMarked : ℕ → Given → Type 0
NotMarked version (Reading r w) = is_mark version r ≡ false
NotMarked version (Numbers a b) = Unit {0}

abbrev pub Unmarked : Trip → Type 0
Unmarked T = (i : ℕ) → i < T.start.items → NotMarked T.start.version (trip_item T i)

-- WHAT A TRIP WAS: each reading stands for itself
abbrev pub ordinary : ℕ → Given → Item
ordinary p (Reading r w) = ordinary_item p r w
ordinary p (Numbers a b) = record { f = a; g = b; worth = pos 0 }

abbrev pub ordinary_f : ℕ → Trip → Vector
ordinary_f p T = padded T.start.items (λ i. enters_as p T.start i (ordinary p (trip_item T i)).f)

abbrev pub ordinary_g : ℕ → Trip → Vector
ordinary_g p T = padded T.start.items (λ i. (ordinary p (trip_item T i)).g)

unfoldable pub ordinary_sum : List Given → ℤ
ordinary_sum [] = pos 0
ordinary_sum (x ∷ xs) = ordinary_sum xs +ℤ (ordinary 0 x).worth

abbrev pub ordinary_total : Trip → ℤ
ordinary_total T = ordinary_sum T.items

abbrev pub ordinary_file : ℕ → Trip → List ℕ → List ℕ
ordinary_file p T cs = file_of p T.start.rounds (ordinary_total T) (ordinary_f p T) (ordinary_g p T) cs

-- IT IS THE SAME
item_same : (p : ℕ) (s : Start) (x : Given) → NotMarked s.version x → contributes p s x ≡ ordinary p x
item_same p s (Reading r w) m = unmarked_contributes p s r w m
item_same p s (Numbers a b) m = refl

sum_same : (s : Start) (xs : List Given) → ((i : ℕ) → i < length xs → NotMarked s.version (get_or xs i (Numbers 0 0)))
    → sum_of s xs ≡ ordinary_sum xs
unfolding sum_of ordinary_sum
sum_same s [] h = refl
sum_same s (x ∷ xs) h =
    ap₂ ◌+ℤ◌ (sum_same s xs (λ i l. h (suc i) (omega arith))) (ap (λ y. y.worth) (item_same 0 s x (h 0 (omega arith))))

pub unmarked_total : (T : Trip) → length T.items ≡ T.start.items → Unmarked T → total_of T ≡ ordinary_total T
unmarked_total T whole h = sum_same T.start T.items (λ i l. h i (omega (arith, whole)))

module _ (p : ℕ) (T : Trip) where
  pub unmarked_f : Unmarked T → vector_f p T ≡ ordinary_f p T
  unmarked_f h =
      padded-same T.start.items _ _
      (λ i l. ap (λ y. enters_as p T.start i y.f) (item_same p T.start (trip_item T i) (h i l)))

  -- of any trip: a marked item "keeps its weight"
  pub weights-same : vector_g p T ≡ ordinary_g p T
  weights-same = padded-same T.start.items _ _ (λ i l. by (trip_item T i))
    where
      by : (x : Given) → (contributes p T.start x).g ≡ (ordinary p x).g
      by (Reading r w) = refl
      by (Numbers a b) = refl

  pub unmarked_file : length T.items ≡ T.start.items → Unmarked T → (cs : List ℕ) → proof_of_trip p T cs ≡ ordinary_file p T cs
  unmarked_file whole h cs =
      ap₂ (λ t f. file_of p T.start.rounds t f (vector_g p T) cs) (unmarked_total T whole h) (unmarked_f h)
      ∙ ap (λ g. file_of p T.start.rounds (ordinary_total T) (ordinary_f p T) g cs) weights-same

-- OF A LOG WITHOUT THE MARK: its trip, total and proof file
module _ (log : List ℕ) (none : NoMark log) where
  abbrev item : ℕ → Given
  item i = Reading (reading_of log i) (weight_of log i)

  pub log-unmarked : Unmarked (log_trip log)
  log-unmarked i less = rw (items_at item (log_count log) i less) (none i less)

  pub log-total : total_of (log_trip log) ≡ ordinary_total (log_trip log)
  log-total = unmarked_total (log_trip log) (items-length item 0 (log_count log)) log-unmarked

  pub log-file : (p : ℕ) (cs : List ℕ) → proof_of_trip p (log_trip log) cs ≡ ordinary_file p (log_trip log) cs
  log-file p = unmarked_file p (log_trip log) (items-length item 0 (log_count log)) log-unmarked
