-- What a call answers, in document 01's terms: "A refusal carries its number and, for 5 and 13 to 15, the index"; so does 18.
-- Each enum of the code has a definition that maps its cases to this type, and the contracts use that definition.
use Rattle.std.specs.Prelude.{ℕ, zero, suc, Bool, cond}

pub data Outcome (A : Type 0) : Type 0 where
  answered : A → Outcome A
  refused : ℕ → Outcome A
  refused_at : ℕ → ℕ → Outcome A

-- "Within a place the checks run downward": one check, with its number, and what follows where it passes
abbrev pub require : {A : Type 0} → Bool → ℕ → Outcome A → Outcome A
require ok number rest = cond ok rest (refused number)

-- the same, with an index
abbrev pub require_at : {A : Type 0} → Bool → ℕ → ℕ → Outcome A → Outcome A
require_at ok number index rest = cond ok rest (refused_at number index)

-- what follows an answer; a refusal stays
abbrev pub and_then : {A B : Type 0} → Outcome A → (A → Outcome B) → Outcome B
and_then (answered x) rest = rest x
and_then (refused k) rest = refused k
and_then (refused_at k i) rest = refused_at k i

-- "the lowest faulty item counts": the n indices from i on, each by its own checks; then the rest
unfoldable pub require_all : {A : Type 0} → (ℕ → Outcome A → Outcome A) → ℕ → ℕ → Outcome A → Outcome A
require_all checks i zero rest = rest
require_all checks i (suc n) rest = checks i (require_all checks (suc i) n rest)
