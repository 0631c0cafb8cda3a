-- What the counts of first places say.
use Rattle.std.specs.Prelude.{ℕ, ◌≤◌, ◌≡◌, List, length, take}

-- r counts the first n places of xs, as far as there are; the first two parts follow from the last, and are there for the proofs that
-- Rattle makes of a part
abbrev pub Counts : {A : Type 0} → ℕ → ℕ → List A → Type 0
Counts n r xs = (r ≤ length xs) × (r ≡ length (take r xs)) × (r ≡ length (take n xs))
