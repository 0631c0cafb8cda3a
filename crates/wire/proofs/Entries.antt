-- The checks of an entry, and of all, refuse alone as they do before others.
use mathlib.Core.Path.{◌≡◌, refl}
use mathlib.Core.Bool.{Bool, true, false, ◌&&◌}
use mathlib.Core.List.{List}
use Prim.Native.Nat.{ℕ, ◌^◌}
use lib.Dec.{ltb}
use Rattle.refusal.specs.declared.Refusal.{Refusal}
use Rattle.refusal.specs.Number as number
use Rattle.refusal.specs.Refusal.{refused_by}
use Rattle.refusal.specs.Outcome.{Outcome, answered, require_at, require_all, and_then}
use Rattle.refusal.proofs.Outcome.{each_passed, each_stopped}
use Rattle.wire.specs.Matrix.{entry, matrix_rounds, sorted_at, require_entry}

module _ (p : ℕ) (file : List ℕ) (k : ℕ) where
  abbrev placed : Bool
  placed = ltb (entry file k).row (2 ^ matrix_rounds file) && ltb (entry file k).column (2 ^ matrix_rounds file)

  abbrev valued : Bool
  valued = ltb 0 (entry file k).value && ltb (entry file k).value p

  pub entry_alone : (A : Type 0) (later : Outcome A) → require_entry p file k later ≡ and_then (require_entry p file k (answered (tt {0}))) (λ y. later)
  entry_alone A later = by placed (sorted_at file k) valued
    where
      by : (a b c : Bool) → require_at a number.place k (require_at b number.sorted k (require_at c number.value k later))
          ≡ and_then (require_at a number.place k (require_at b number.sorted k (require_at c number.value k (answered (tt {0}))))) (λ y. later)
      by true true true = refl
      by true true false = refl
      by true false c = refl
      by false b c = refl

module _ (p : ℕ) (file : List ℕ) where
  pub entries_passed : {A : Type 0} (n : ℕ) (x : Unit {0}) (rest : Outcome A) → require_all (require_entry p file) 0 n (answered (tt {0})) ≡ answered x
      → require_all (require_entry p file) 0 n rest ≡ rest
  entries_passed {A} n x rest h = each_passed (λ A. require_entry {A = A} p file) (λ A k. entry_alone p file k A) n x rest h

  pub entries_stopped : {A : Type 0} (n : ℕ) (e : Refusal) (rest : Outcome A) → require_all (require_entry p file) 0 n (answered (tt {0})) ≡ refused_by e
      → require_all (require_entry p file) 0 n rest ≡ refused_by e
  entries_stopped {A} n e rest h = each_stopped (λ A. require_entry {A = A} p file) (λ A k. entry_alone p file k A) n e rest h
