-- What the test of a rule vector says, and its size as the code has it.
use mathlib.Core.Path.{◌≡◌, refl, sym}
use mathlib.Core.Bool.{Bool, true, false, cond, true≢false}
use mathlib.Core.List.{List}
use Prim.Native.Nat.{ℕ, ◌^◌, ◌≤◌, ◌<◌}
use native.Mathlib.Omega.{arith}
use lib.Dec.{eqb, leb}
use lib.ListN.{length}
use borrow.Author.Tests.{eqb-true, eq-eqb, le-leb, leb-true, lt-ltb}
use Rattle.refusal.specs.Limit.{max_rounds}
use Rattle.verifier.proofs.Branches.{branches}
use Rattle.vector.specs.Power.{size_in32}
use Rattle.vector.specs.Vector.{at}
use Rattle.vector.specs.Opening.{evaluate}
use Rattle.vector.specs.Slice.{all_reduced, evaluate_slice}
use Rattle.vector.proofs.Rounds.{size-all}
use Rattle.vector.proofs.Every.{all-reduced_iff}
use Rattle.r1cs.specs.Product.{rule_vector}

both : (a b : Bool) → cond a b false ≡ true → (a ≡ true) × (b ≡ true)
both true b h = (refl, h)
both false b h = absurd (true≢false (sym h))

pub size-rule : (n : ℕ) → n ≤ 15 → size_in32 n 0 ≡ 2 ^ n
unfolding size_in32
size-rule n h = rw (lt-ltb n 32 (omega arith)) (size-all n)

-- "rule vector's length .. 2^n", and no number in it is P or more
pub record RuleVector (p size : ℕ) (xs : List ℕ) : Type 0 where
  pub long : length xs ≡ size
  pub reduced : (i : ℕ) → i < size → at xs i < p

module _ (p size : ℕ) (xs : List ℕ) where
  pub vector-of : rule_vector p size xs ≡ true → RuleVector p size xs
  unfolding rule_vector
  vector-of h =
      let t = both (eqb (length xs) size) (all_reduced p size xs) h in
      record { long = eqb-true (length xs) size t.0; reduced = (all-reduced_iff p size xs).0 t.1 }

  pub of_vector : RuleVector p size xs → rule_vector p size xs ≡ true
  unfolding rule_vector
  of_vector h = rw (eq-eqb (length xs) size h.long) ((all-reduced_iff p size xs).1 h.reduced)

  pub vector-value : (x : ℕ) → length xs ≡ size → evaluate_slice p size xs x ≡ evaluate p size (at xs) x
  unfolding evaluate_slice
  vector-value x long = rw (le-leb size (length xs) (omega arith))

  pub vector-at : (x : ℕ) → rule_vector p size xs ≡ true → evaluate_slice p size xs x ≡ evaluate p size (at xs) x
  vector-at x h = vector-value x (vector-of h).long

pub size-passed : (n : ℕ) → leb n max_rounds ≡ true → size_in32 n 0 ≡ 2 ^ n
size-passed n h = size-rule n (leb-true n max_rounds h)

-- how the rows of a rule check are read
pub ruleset rule_rows = (branches, size-passed, vector-at)
