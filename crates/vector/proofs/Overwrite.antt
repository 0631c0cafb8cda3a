-- A list whose first places are replaced by the items of a vector: its length, and each of its places.
use mathlib.Core.Bool.{Bool, true, false, cond}
use mathlib.Core.List.{List}
use mathlib.Core.Logic.{⊎_elim}
use mathlib.Core.Path.{◌≡◌, refl, sym, ap, ap₂, ◌∙◌}
use Prim.Native.Nat.{ℕ, zero, suc, ◌+◌, ◌*◌, ◌≤◌, ◌<◌}
use native.Mathlib.Nat.{eq-or-lt_of_le}
use native.Mathlib.Numerals.{add-one}
use native.Mathlib.Omega.{arith}
use borrow.Author.Tests.{le-leb}
use lib.Dec.{leb}
use lib.ListN.{length, set, length-set, replicate}
use lib.Seq.{get_or-set_same, get_or-set_other}
use Rattle.vector.specs.Vector.{Vector, at}
use Rattle.vector.specs.Fold.{combine, fold_once_with}
use Rattle.vector.specs.Slice.{overwrite, fold_slice, fifteen}
use Rattle.vector.proofs.Guards.{both-have}

module _ (v : Vector) (xs : List ℕ) where
  pub overwrite-next : (h : ℕ) → set (overwrite v h xs) h (v h) ≡ overwrite v (h + 1) xs
  unfolding overwrite
  overwrite-next h = ap (λ n. overwrite v n xs) (sym (add-one h))

  pub overwrite-length : (h : ℕ) → length (overwrite v h xs) ≡ length xs
  unfolding overwrite
  overwrite-length zero = refl
  overwrite-length (suc h) = length-set (overwrite v h xs) h (v h) ∙ overwrite-length h

  pub overwrite-kept : (h k : ℕ) → h ≤ k → at (overwrite v h xs) k ≡ at xs k
  unfolding overwrite
  overwrite-kept zero k le = refl
  overwrite-kept (suc h) k le = get_or-set_other (overwrite v h xs) h k (v h) 0 (omega arith) ∙ overwrite-kept h k (omega arith)

  pub overwrite-written : (h k : ℕ) → h ≤ length xs → k < h → at (overwrite v h xs) k ≡ v k
  unfolding overwrite
  overwrite-written zero k within less = absurd (omega arith)
  overwrite-written (suc h) k within less =
      ⊎_elim
      (λ (same : k ≡ h).
      ap (at (set (overwrite v h xs) h (v h))) same
      ∙ get_or-set_same (overwrite v h xs) h (v h) 0 (omega (arith, overwrite-length h))
      ∙ ap v (sym same))
      (λ (below : k < h).
      get_or-set_other (overwrite v h xs) h k (v h) 0 (omega arith) ∙ overwrite-written h k (omega arith) below)
      (eq-or-lt_of_le (omega arith))

-- One step of the fold in place: the items that it reads are still those at entry.
module _ (p c : ℕ) (xs ys : List ℕ) (i x : ℕ) where
  pub fold_step : ys ≡ overwrite (fold_once_with (combine p) c (at xs)) i xs → x ≡ combine p c (at ys (2 * i)) (at ys (2 * i + 1))
      → set ys i x ≡ overwrite (fold_once_with (combine p) c (at xs)) (i + 1) xs
  fold_step e r =
      let F = fold_once_with (combine p) c (at xs) in
      let read : (k : ℕ) → i ≤ k → at ys k ≡ at xs k = λ k le. ap (λ zs. at zs k) e ∙ overwrite-kept F xs i k le in
      ap₂ (λ zs z. set zs i z) e (r ∙ ap₂ (combine p c) (read (2 * i) (omega arith)) (read (2 * i + 1) (omega arith)))
      ∙ overwrite-next F xs i

-- The fold of a slice in place: the fold in the first h places, every other place and the length as they were.
either_length : (b : Bool) (xs ys : List ℕ) → length xs ≡ length ys → length (cond b xs ys) ≡ length ys
either_length true xs ys e = e
either_length false xs ys e = refl

either_at : (b : Bool) (xs ys : List ℕ) (k : ℕ) → at xs k ≡ at ys k → at (cond b xs ys) k ≡ at ys k
either_at true xs ys k e = e
either_at false xs ys k e = refl

module _ (p c h : ℕ) (xs : List ℕ) where
  pub fold-length : length (fold_slice p c h xs) ≡ length xs
  unfolding fold_slice
  fold-length =
      let F = fold_once_with (combine p) c (at xs) in
      either_length (leb (2 * h) (length xs)) (overwrite F h xs) xs (overwrite-length F xs h)

  pub fold-kept : (k : ℕ) → h ≤ k → at (fold_slice p c h xs) k ≡ at xs k
  unfolding fold_slice
  fold-kept k le =
      let F = fold_once_with (combine p) c (at xs) in
      either_at (leb (2 * h) (length xs)) (overwrite F h xs) xs k (overwrite-kept F xs h k le)

  pub fold-written : (k : ℕ) → 2 * h ≤ length xs → k < h → at (fold_slice p c h xs) k ≡ fold_once_with (combine p) c (at xs) k
  unfolding fold_slice
  fold-written k within less =
      rw (le-leb (2 * h) (length xs) within)
      (overwrite-written (fold_once_with (combine p) c (at xs)) xs h k (omega arith) less)

-- Numbers kept in fifteen places: the first n are the slice's.
pub fifteen-at : (n : ℕ) (xs : List ℕ) → n ≤ 15 → n ≤ length xs → (k : ℕ) → k < n → at (fifteen n xs) k ≡ at xs k
unfolding fifteen
fifteen-at n xs few within k less =
    rw (both-have n 15 (length xs) few within) (overwrite-written (at xs) (replicate 15 0) n k (omega arith) less)
