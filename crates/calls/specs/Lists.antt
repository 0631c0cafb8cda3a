-- What holds along a list of calls that are made one after another, whatever the machine.
use Rattle.std.specs.Prelude.{List, [], ◌∷◌, ◌++◌, ◌⊎◌}

module _ {W M : Type 0} (next : W → M → W) where
  -- where the list leads
  unfoldable pub after : W → List M → W
  after w [] = w
  after w (m ∷ ms) = after (next w m) ms

  -- at every call
  unfoldable pub along : (W → M → Type 0) → W → List M → Type 0
  along P w [] = Unit {0}
  along P w (m ∷ ms) = P w m × along P (next w m) ms

  -- before the first call and after every one
  unfoldable pub always : (W → Type 0) → W → List M → Type 0
  always P w [] = P w
  always P w (m ∷ ms) = P w × always P (next w m) ms

  -- at some call
  unfoldable pub somewhere : (W → M → Type 0) → W → List M → Type 0
  somewhere P w [] = ⊥
  somewhere P w (m ∷ ms) = P w m ⊎ somewhere P (next w m) ms

  -- what each call gives
  unfoldable pub each : {A : Type 0} → (W → M → A) → W → List M → List A
  each of w [] = []
  each of w (m ∷ ms) = of w m ∷ each of (next w m) ms

  -- what the calls give, one after another
  unfoldable pub collected : {A : Type 0} → (W → M → List A) → W → List M → List A
  collected of w [] = []
  collected of w (m ∷ ms) = of w m ++ collected of (next w m) ms
