-- The stack of the images of the values; so one stack of pairs is the stack of f beside the stack of g.
use mathlib.Core.Path.{◌≡◌, refl, ap, ◌∙◌}
use mathlib.Core.Bool.{Bool, true, false, cond}
use mathlib.Core.List.{[], ◌∷◌}
use Prim.Native.Nat.{ℕ, zero, suc, ◌-◌, ◌/◌, ◌^◌}
use lib.Dec.{eqb, ltb}
use Rattle.vector.specs.Rounds.{size}
use Rattle.vector.specs.Vector.{Vector, bit}
use Rattle.vector.specs.Fold.{combine, combine_pair, beside}
use Rattle.vector.specs.Stack.{Stack, entry_on, entries_from, entries}
use Rattle.vector.proofs.Folds.{fold-image}
use Rattle.vector.proofs.Machine.{enter}

unfoldable pub map_values : {A B : Type 0} → (A → B) → Stack A → Stack B
map_values h [] = []
map_values h (e ∷ rest) = (e.0, h e.1) ∷ map_values h rest

module _ {A B : Type 0} (combine_a : ℕ → A → A → A) (combine_b : ℕ → B → B → B) (h : A → B)
    (respects : (c : ℕ) (even odd : A) → h (combine_a c even odd) ≡ combine_b c (h even) (h odd))
    (c : ℕ → ℕ) where
  image-entry : (n : ℕ) (v : ℕ → A) (t k : ℕ) (rest : Stack A)
      → map_values h (entry_on combine_a c n v t k rest) ≡ entry_on combine_b c n (λ i. h (v i)) t k (map_values h rest)
  unfolding map_values
  image-entry n v t k rest = go (eqb (bit k t) 1) (fold-image combine_a combine_b h respects c v k (size n k - t / 2 ^ k))
    where
      go : {a : A} {b : B} (test : Bool) → h a ≡ b → map_values h (cond test ((k, a) ∷ rest) rest) ≡ cond test ((k, b) ∷ map_values h rest) (map_values h rest)
      go true e = rw e
      go false e = refl

  image-from : (n : ℕ) (v : ℕ → A) (t k m : ℕ) → map_values h (entries_from combine_a c n v t k m) ≡ entries_from combine_b c n (λ i. h (v i)) t k m
  unfolding entries_from map_values
  image-from n v t k zero = image-entry n v t k []
  image-from n v t k (suc m) =
      image-entry n v t k (entries_from combine_a c n v t (suc k) m)
      ∙ ap (entry_on combine_b c n (λ i. h (v i)) t k) (image-from n v t (suc k) m)

  -- the images of the entries are the entries of the images
  pub entries-image : (n : ℕ) (v : ℕ → A) (t i : ℕ) → map_values h (entries combine_a c n v t i) ≡ entries combine_b c n (λ k. h (v k)) t i
  entries-image n v t i = image-from n v t 0 i

  -- one more item: the stack of the images takes the image
  pub enter-image : {M N : Type 0} (arrive : ℕ → A → M → M) (emit : A → A → M → M) (arrive' : ℕ → B → N → N) (emit' : B → B → N → N)
      (i k : ℕ) (new : A) (st : Stack A) (g : M) (g' : N)
      → map_values h (enter combine_a arrive emit c i k new st g).0 ≡ (enter combine_b arrive' emit' c i k (h new) (map_values h st) g').0
  unfolding enter map_values
  enter-image arrive emit arrive' emit' i k new [] g g' = refl
  enter-image {M} {N} arrive emit arrive' emit' i k new (e ∷ rest) g g' =
      by (eqb k e.0) (ltb k i)
      (enter combine_a arrive emit c i (suc k) (combine_a (c k) new e.1) rest (arrive k new g))
      (enter combine_b arrive' emit' c i (suc k) (combine_b (c k) (h new) (h e.1)) (map_values h rest) (arrive' k (h new) g'))
      (enter-image arrive emit arrive' emit' i (suc k) (combine_a (c k) new e.1) rest (arrive k new g) (arrive' k (h new) g')
      ∙ ap (λ a. (enter combine_b arrive' emit' c i (suc k) a (map_values h rest) (arrive' k (h new) g')).0) (respects (c k) new e.1))
    where
      by : (same below : Bool) (up : Stack A × M) (up' : Stack B × N) → map_values h up.0 ≡ up'.0
          → map_values h (cond same (cond below up (rest, emit new e.1 (arrive k new g))) ((k, new) ∷ e ∷ rest, arrive k new g)).0
          ≡ (cond same (cond below up' (map_values h rest, emit' (h new) (h e.1) (arrive' k (h new) g'))) ((k, h new) ∷ (e.0, h e.1) ∷ map_values h rest, arrive' k (h new) g')).0
      by true true up up' r = r
      by true false up up' r = refl
      by false below up up' r = refl

-- The two vectors of a pass side by side: one stack of pairs is the stack of f beside the stack of g.
module _ (p : ℕ) (c : ℕ → ℕ) (f g : Vector) where
  pub entries-first : (n t i : ℕ) → map_values (λ e. e.0) (entries (combine_pair p) c n (beside f g) t i) ≡ entries (combine p) c n f t i
  entries-first n t i = entries-image (combine_pair p) (combine p) (λ e. e.0) (λ x even odd. refl) c n (beside f g) t i

  pub entries-second : (n t i : ℕ) → map_values (λ e. e.1) (entries (combine_pair p) c n (beside f g) t i) ≡ entries (combine p) c n g t i
  entries-second n t i = entries-image (combine_pair p) (combine p) (λ e. e.1) (λ x even odd. refl) c n (beside f g) t i
