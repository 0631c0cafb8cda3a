-- THE BATCH'S RUN: its vector is the paper's combined vector, and its openings are that vector's.
use mathlib.Core.Path.{◌≡◌, refl, ap, ◌∙◌}
use mathlib.Core.List.{List}
use Prim.Native.Nat.{ℕ, ◌<◌, ◌≤◌}
use Rattle.refusal.specs.Limit.{max_items}
use Rattle.algebra.specs.Mod.{residue}
use Rattle.algebra.proofs.Congruence.{residue-twice}
use Rattle.vector.specs.Vector.{padded}
use Rattle.vector.specs.Rounds.{rounds_of}
use Rattle.vector.proofs.Rounds.{rounds-at-most}
use Rattle.item.specs.declared.Given.{Given}
use Rattle.item.specs.declared.Given.TheVariants.{Numbers}
use Rattle.item.specs.Item.{contributes, enters_as}
use Rattle.item.proofs.Untwisted.{enters_same}
use Rattle.runs.specs.Trip.{Trip, trip_item, vector_f, vector_g}
use Rattle.r1cs.proofs.RuleTotals.{padded-same}
use Rattle.batch.specs.Batch.{combined, most_items}
use Rattle.calls.specs.Starts.{Whole}
use Rattle.calls.specs.BatchTrip.{batch_trip}
use Rattle.calls.proofs.RuleTrips.{items-length, items_at}

module _ (p z m : ℕ) (logs : List (List ℕ)) (some : 1 ≤ most_items logs m) (most : most_items logs m ≤ max_items) where
  abbrev items : ℕ
  items = most_items logs m

  abbrev T : Trip
  T = batch_trip p z m logs

  abbrev item : ℕ → Given
  item i = Numbers (combined p z m logs i) 0

  -- a trip that lists of calls speak of
  pub batch-whole : Whole T
  batch-whole = record { start = record { version = refl; least = some; most = most; rounds = refl }; items = items-length item 0 items }

  few : rounds_of items ≤ 15
  few = rounds-at-most items most

  pub item-at : (i : ℕ) → i < items → trip_item T i ≡ Numbers (combined p z m logs i) 0
  item-at = items_at item items

  combined-reduced : (i : ℕ) → residue p (combined p z m logs i) ≡ combined p z m logs i
  unfolding combined
  combined-reduced i = residue-twice p _

  pub batch-vector-f : vector_f p T ≡ padded items (combined p z m logs)
  batch-vector-f =
      padded-same items _ (combined p z m logs)
      (λ i less.
      ap (λ x. enters_as p T.start i (contributes p T.start x).f) (item-at i less) ∙ enters_same p items i (combined p z m logs i) few
      ∙ combined-reduced i)

  pub batch-vector-g : vector_g p T ≡ padded items (λ i. 0)
  batch-vector-g = padded-same items _ (λ i. 0) (λ i less. ap (λ x. (contributes p T.start x).g) (item-at i less))
