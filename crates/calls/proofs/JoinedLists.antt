-- Lists of calls made one after another.
use mathlib.Core.Path.{◌≡◌, refl}
use mathlib.Core.List.{List, [], ◌∷◌, ◌++◌}
use mathlib.Core.Logic.{inl, inr}
use Rattle.calls.specs.Lists.{after, along, somewhere}

module _ {W M : Type 0} (next : W → M → W) where
  pub after-joined : (w : W) (xs ys : List M) → after next w (xs ++ ys) ≡ after next (after next w xs) ys
  unfolding after
  after-joined w [] ys = refl
  after-joined w (x ∷ xs) ys = after-joined (next w x) xs ys

  module _ (P : W → M → Type 0) where
    pub along-joined : (w : W) (xs ys : List M) → along next P w xs → along next P (after next w xs) ys → along next P w (xs ++ ys)
    unfolding after along
    along-joined w [] ys h k = k
    along-joined w (x ∷ xs) ys h k = (h.0, along-joined (next w x) xs ys h.1 k)

    pub somewhere-first : (w : W) (xs ys : List M) → somewhere next P w xs → somewhere next P w (xs ++ ys)
    unfolding somewhere
    somewhere-first w [] ys h = absurd h
    somewhere-first w (x ∷ xs) ys (inl h) = inl h
    somewhere-first w (x ∷ xs) ys (inr h) = inr (somewhere-first (next w x) xs ys h)

    pub somewhere-then : (w : W) (xs ys : List M) → somewhere next P (after next w xs) ys → somewhere next P w (xs ++ ys)
    unfolding after somewhere
    somewhere-then w [] ys h = h
    somewhere-then w (x ∷ xs) ys h = inr (somewhere-then (next w x) xs ys h)
