-- A slice whose first places are the first items of a vector: what the functions on slices give is that of the vector.
use mathlib.Core.List.{List}
use mathlib.Core.Path.{◌≡◌, ap₂, ◌∙◌}
use Prim.Native.Nat.{ℕ, suc, ◌+◌, ◌*◌, ◌≤◌, ◌<◌}
use native.Mathlib.Omega.{arith}
use borrow.Author.Tests.{le-leb}
use lib.ListN.{length}
use Rattle.vector.specs.Vector.{Vector, at, weight}
use Rattle.vector.specs.Fold.{combine, fold, fold_with}
use Rattle.vector.specs.Message.{message_of}
use Rattle.vector.specs.Opening.{evaluate}
use Rattle.vector.specs.Slice.{fold_slice, message_slice, evaluate_slice, fifteen}
use Rattle.vector.proofs.Messages.{message-same}
use Rattle.vector.proofs.Horner.{evaluate-same}
use Rattle.vector.proofs.Weights.{weight-challenges}
use Rattle.vector.proofs.Overwrite.{fifteen-at, fold-length, fold-written}
use Rattle.vector.proofs.Guards.{both-have}

-- the list has n places, and they are the first n items of v
pub record Holds (xs : List ℕ) (n : ℕ) (v : Vector) : Type 0 where
  pub long : n ≤ length xs
  pub same : (k : ℕ) → k < n → at xs k ≡ v k

-- a slice that holds fold j holds fold j + 1 after the fold in place
pub fold-holds : (p : ℕ) (c : ℕ → ℕ) (j h : ℕ) (xs : List ℕ) (v : Vector)
    → Holds xs (2 * h) (fold p c j v) → Holds (fold_slice p (c j) h xs) h (fold p c (suc j) v)
unfolding fold_with
fold-holds p c j h xs v l =
    let many = l.long in
    record {
      long = omega (arith, fold-length p (c j) h xs);
      same =
          λ k less.
          fold-written p (c j) h xs k many less
          ∙ ap₂ (combine p (c j)) (l.same (2 * k) (omega arith)) (l.same (2 * k + 1) (omega arith));
    }

module _ (p : ℕ) (fs gs : List ℕ) (f g : Vector) where
  pub message-holds : (h : ℕ) → Holds fs (2 * h) f → Holds gs (2 * h) g → message_slice p h fs gs ≡ message_of p h f g
  unfolding message_slice
  message-holds h l m =
      rw (both-have (2 * h) (length fs) (length gs) l.long m.long) (message-same p h (at fs) f (at gs) g l.same m.same)

pub evaluate-holds : (p n : ℕ) (xs : List ℕ) (v : Vector) (x : ℕ) → Holds xs n v → evaluate_slice p n xs x ≡ evaluate p n v x
unfolding evaluate_slice
evaluate-holds p n xs v x l =
    rw (le-leb n (length xs) l.long)
    (evaluate-same p n (at xs) v x l.same)

-- numbers kept in fifteen places are the slice's
pub fifteen-weight : (p n : ℕ) (xs : List ℕ) (i : ℕ) → n ≤ 15 → n ≤ length xs → weight p (at (fifteen n xs)) n i ≡ weight p (at xs) n i
fifteen-weight p n xs i few within = weight-challenges p (at xs) (at (fifteen n xs)) n i (fifteen-at n xs few within)
