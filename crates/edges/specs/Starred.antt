-- Document 01, "Edges": the starred cases, each a row of one table, in its order; its case for -32,768 ended with document 02, (d). To the
-- left of `is` stands a case, whose numbers come from the definitions that the contracts cite; to the right what document 01 states.
use Rattle.std.specs.Prelude.{ℕ, zero, suc, ◌-◌, ◌≡◌, refl, List, [], ◌∷◌, ◌++◌, map, ℤ, pos, neg_ℤ, length}
use Rattle.algebra.specs.Mod.{residue, add_mod, neg_mod, mul_mod, half_one, half_mod}
use Rattle.field.specs.Integer.{image}
use Rattle.vector.specs.Rounds.{rounds_of}
use Rattle.vector.specs.Vector.{Vector, at, sum}
use Rattle.vector.specs.Fold.{fold_with, end_value}
use Rattle.vector.specs.Message.{Message, message}
use Rattle.vector.specs.Opening.{triple_values, opening}
use Rattle.verifier.specs.Trips.{claim_at}
use Rattle.item.specs.declared.Given.{Given}
use Rattle.item.specs.declared.Given.TheVariants.{Reading}
use Rattle.item.specs.Mark.{is_mark}
use Rattle.item.specs.Start.{plain_start}
use Rattle.runs.specs.Trip.{Trip, vector_f, vector_g, sum_of, total_of}

abbrev P : ℕ
P = 2147483647

-- "-180"
abbrev minus : ℕ → ℤ
minus n = neg_ℤ (pos n)

pub data Case : Type 0 where
  -- of a trip under its challenges, openings at a point
  messages : Trip → List ℕ → Case
  claims : Trip → List ℕ → Case
  ends : Trip → List ℕ → Case
  openings : Trip → List ℕ → ℕ → Case
  -- a reading as a field number
  reading_of : ℤ → Case
  half : ℕ → Case
  -- n of L
  rounds : ℕ → Case

-- the parts 0 to n - 1, one after the other
unfoldable pub in_order : (ℕ → List ℕ) → ℕ → List ℕ
in_order part zero = []
in_order part (suc n) = in_order part n ++ part n

module _ (T : Trip) (challenges : List ℕ) where
  abbrev n : ℕ
  n = T.start.rounds

  abbrev f : Vector
  f = vector_f P T

  abbrev g : Vector
  g = vector_g P T

  abbrev message_at : ℕ → Message
  message_at i = message P n (at challenges) f g i

  -- message 0 to n - 1: even, cross, odd
  abbrev pub message_numbers : List ℕ
  message_numbers = in_order (λ i. (message_at i).even ∷ (message_at i).cross ∷ (message_at i).odd ∷ []) n

  -- the claim that each message meets, and the last
  abbrev pub claim_numbers : List ℕ
  claim_numbers = in_order (λ k. claim_at P (at challenges) (image P (total_of T)) message_at k ∷ []) (suc n)

  abbrev pub end_numbers : List ℕ
  end_numbers = end_value P (at challenges) n f ∷ end_value P (at challenges) n g ∷ []

  abbrev pub opening_numbers : ℕ → List ℕ
  opening_numbers b = opening P n (at challenges) f g b

abbrev pub computed : Case → List ℕ
computed (messages T cs) = message_numbers T cs
computed (claims T cs) = claim_numbers T cs
computed (ends T cs) = end_numbers T cs
computed (openings T cs b) = opening_numbers T cs b
computed (reading_of r) = image P r ∷ []
computed (half a) = half_mod P a ∷ []
computed (rounds items) = rounds_of items ∷ []

infix 4 ◌is◌
pub data Row : Type 0 where
  ◌is◌ : Case → List ℕ → Row

abbrev pub left : Row → List ℕ
left (c is stated) = computed c

abbrev pub right : Row → List ℕ
right (c is stated) = stated

-- the trip of a plain run of version 1 with these items
abbrev pub trip_of : List Given → Trip
trip_of items = record { start = plain_start (length items) 1; items = items }

-- "Readings -180, -175, 40, weights 10, 20, 5; challenges 2, 3; point 2."
abbrev pub trip : Trip
trip = trip_of (Reading (minus 180) 10 ∷ Reading (minus 175) 20 ∷ Reading (pos 40) 5 ∷ [])

abbrev pub trip_challenges : List ℕ
trip_challenges = 2 ∷ 3 ∷ []

-- openings as the program prints them, claims as field numbers; a run of one item has no messages, whatever the item
abbrev pub table : Given → List Row
table item =
    (messages trip trip_challenges
    is 2147482047 ∷ 2147478297 ∷ 2147480147
    ∷ 2147457147 ∷ 2147482997 ∷ 200 ∷ [])
    ∷ (claims trip trip_challenges is image P (minus 5100) ∷ image P (minus 26300) ∷ image P (minus 26650) ∷ [])
    ∷ (ends trip trip_challenges is 2147483237 ∷ 65 ∷ [])
    ∷ (openings trip trip_challenges 2
    is 2147483277 ∷ 330 ∷ 2147483277
    ∷ 2147483197 ∷ 2147483037 ∷ 2147483237
    ∷ 70 ∷ 2147483637 ∷ 70
    ∷ 60 ∷ 40 ∷ 65 ∷ [])
    ∷ (reading_of (minus 1) is (P - 1) ∷ [])
    ∷ (half 1 is 1073741824 ∷ [])
    ∷ (rounds 1 is 0 ∷ [])
    ∷ (messages (trip_of (item ∷ [])) [] is [])
    ∷ (rounds 2 is 1 ∷ [])
    ∷ (rounds 3 is 2 ∷ [])
    ∷ []

pub starred : (item : Given) → map left (table item) ≡ map right (table item)
unfolding in_order claim_at rounds_of triple_values fold_with sum sum_of is_mark image residue add_mod neg_mod mul_mod half_one half_mod
starred item = refl
