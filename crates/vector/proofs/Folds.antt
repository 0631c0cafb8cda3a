-- What a fold depends on, and folds of images, of pairs, of equal items and of reduced items.
use mathlib.Core.Path.{◌≡◌, refl, ap₂, ◌∙◌}
use Prim.Native.Nat.{ℕ, zero, suc, ◌+◌, ◌*◌, ◌^◌, ◌<◌, ◌≤◌}
use native.Mathlib.Nat.{pow-suc}
use native.Mathlib.Omega.{arith}
use Rattle.algebra.specs.Mod.{residue, add_mod}
use Rattle.algebra.proofs.Congruence.{residue-twice}
use Rattle.vector.specs.Vector.{Vector}
use Rattle.vector.specs.Fold.{fold_with, fold, combine_pair, beside}

module _ {A : Type 0} (combine : ℕ → A → A → A) where
  -- fold j uses the challenges below j
  pub fold-challenges : (c d : ℕ → ℕ) (v : ℕ → A) (j : ℕ) → ((k : ℕ) → k < j → c k ≡ d k) → (i : ℕ) → fold_with combine c j v i ≡ fold_with combine d j v i
  unfolding fold_with
  fold-challenges c d v zero h i = refl
  fold-challenges c d v (suc j) h i =
      rw (h j (omega arith), fold-challenges c d v j (λ k l. h k (omega arith)) (2 * i), fold-challenges c d v j (λ k l. h k (omega arith)) (2 * i + 1))

  module _ (c : ℕ → ℕ) where
    -- the first m items of fold j are made of the first 2^j m items
    pub fold_same : (u v : ℕ → A) (j m : ℕ) → ((i : ℕ) → i < 2 ^ j * m → u i ≡ v i) → (i : ℕ) → i < m → fold_with combine c j u i ≡ fold_with combine c j v i
    unfolding fold_with
    fold_same u v zero m h i l = h i (omega arith)
    fold_same u v (suc j) m h i l =
        let e : 2 ^ suc j * m ≡ 2 ^ j * (2 * m) = rw (pow-suc 2 j) (omega arith) in
        let same = fold_same u v j (2 * m) (λ i l. h i (rw e l)) in
        rw (same (2 * i) (omega arith), same (2 * i + 1) (omega arith))

    -- items that are z from m on, where two z combine to z
    pub fold-equal : (z : A) → ((x : ℕ) → combine x z z ≡ z) → (v : ℕ → A) (m : ℕ) → ((i : ℕ) → m ≤ i → v i ≡ z)
        → (k j : ℕ) → m ≤ 2 ^ k * j → fold_with combine c k v j ≡ z
    unfolding fold_with
    fold-equal z still v m h zero j l = h j (omega arith)
    fold-equal z still v m h (suc k) j l =
        let l' = rw (pow-suc 2 k) at l in
        let low : m ≤ 2 ^ k * (2 * j) = omega arith in
        let high : m ≤ 2 ^ k * (2 * j + 1) = omega arith in
        rw (fold-equal z still v m h k (2 * j) low, fold-equal z still v m h k (2 * j + 1) high) (still (c k))

module _ {A B : Type 0} (combine_a : ℕ → A → A → A) (combine_b : ℕ → B → B → B) (h : A → B)
    (respects : (c : ℕ) (even odd : A) → h (combine_a c even odd) ≡ combine_b c (h even) (h odd)) where
  pub fold-image : (c : ℕ → ℕ) (v : ℕ → A) (j i : ℕ) → h (fold_with combine_a c j v i) ≡ fold_with combine_b c j (λ k. h (v k)) i
  unfolding fold_with
  fold-image c v zero i = refl
  fold-image c v (suc j) i =
      respects (c j) (fold_with combine_a c j v (2 * i)) (fold_with combine_a c j v (2 * i + 1))
      ∙ ap₂ (combine_b (c j)) (fold-image c v j (2 * i)) (fold-image c v j (2 * i + 1))

module _ (p : ℕ) (c : ℕ → ℕ) where
  -- two vectors side by side
  pub fold-beside : (f g : Vector) (j : ℕ) → fold_with (combine_pair p) c j (beside f g) ≡ beside (fold p c j f) (fold p c j g)
  unfolding fold_with
  fold-beside f g zero = refl
  fold-beside f g (suc j) = rw (fold-beside f g j)

  -- a fold of reduced items is reduced, and so is every fold after the first
  pub fold-reduced : (v : Vector) → ((i : ℕ) → residue p (v i) ≡ v i) → (j i : ℕ) → residue p (fold p c j v i) ≡ fold p c j v i
  unfolding fold_with add_mod
  fold-reduced v h zero i = h i
  fold-reduced v h (suc j) i = residue-twice p _

  pub fold-once_reduced : (v : Vector) (j : ℕ) → 0 < j → (i : ℕ) → residue p (fold p c j v i) ≡ fold p c j v i
  unfolding fold_with add_mod
  fold-once_reduced v zero l i = absurd (omega arith)
  fold-once_reduced v (suc j) l i = residue-twice p _
