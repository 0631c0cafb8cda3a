-- A list of calls with one more.
use mathlib.Core.List.{List, [], ◌∷◌, ◌++◌}
use mathlib.Core.Logic.{inl, inr, ⊎_elim}
use Rattle.calls.specs.Lists.{after, along, always, somewhere}

module _ {W M : Type 0} (next : W → M → W) (P : W → M → Type 0) where
  -- what holds along a list holds at its last call
  pub last-along : (w : W) (ms : List M) (m : M) → along next P w (ms ++ m ∷ []) → P (after next w ms) m
  unfolding along after
  last-along w [] m h = h.0
  last-along w (x ∷ ms) m h = last-along (next w x) ms m h.1

  -- and along the first calls of it
  pub along-first : (w : W) (ms ns : List M) → along next P w (ms ++ ns) → along next P w ms
  unfolding along
  along-first w [] ns h = tt
  along-first w (x ∷ ms) ns h = (h.0, along-first (next w x) ms ns h.1)

  pub along-more : (w : W) (ms : List M) (m : M) → along next P w ms → P (after next w ms) m → along next P w (ms ++ m ∷ [])
  unfolding along after
  along-more w [] m h e = (e, tt)
  along-more w (x ∷ ms) m h e = (h.0, along-more (next w x) ms m h.1 e)

  -- what holds somewhere in a list holds in a longer one
  pub somewhere-more : (w : W) (ms : List M) (m : M) → somewhere next P w ms → somewhere next P w (ms ++ m ∷ [])
  unfolding somewhere
  somewhere-more w [] m h = absurd h
  somewhere-more w (x ∷ ms) m h =
      ⊎_elim {C = somewhere next P w (x ∷ ms ++ m ∷ [])} (λ here. inl here) (λ later. inr (somewhere-more (next w x) ms m later)) h

  pub somewhere-last : (w : W) (ms : List M) (m : M) → P (after next w ms) m → somewhere next P w (ms ++ m ∷ [])
  unfolding somewhere after
  somewhere-last w [] m h = inl h
  somewhere-last w (x ∷ ms) m h = inr (somewhere-last (next w x) ms m h)

module _ {W M : Type 0} (next : W → M → W) (P : W → Type 0) where
  pub always-last : (w : W) (ms : List M) → always next P w ms → P (after next w ms)
  unfolding always after
  always-last w [] h = h
  always-last w (x ∷ ms) h = always-last (next w x) ms h.1

  pub always-first : (w : W) (ms ns : List M) → always next P w (ms ++ ns) → always next P w ms
  unfolding always
  always-first w [] [] h = h
  always-first w [] (n ∷ ns) h = h.0
  always-first w (x ∷ ms) ns h = (h.0, always-first (next w x) ms ns h.1)

  pub always-more : (w : W) (ms : List M) (m : M) → always next P w ms → P (next (after next w ms) m) → always next P w (ms ++ m ∷ [])
  unfolding always after
  always-more w [] m h e = (h, e)
  always-more w (x ∷ ms) m h e = (h.0, always-more (next w x) ms m h.1 e)

-- what follows from it holds throughout, too
pub always_so : {W M : Type 0} (next : W → M → W) (P Q : W → Type 0) → ((w : W) → P w → Q w) → (w : W) (ms : List M) → always next P w ms
    → always next Q w ms
unfolding always
always_so next P Q f w [] h = f w h
always_so next P Q f w (x ∷ ms) h = (f w h.0, always_so next P Q f (next w x) ms h.1)
