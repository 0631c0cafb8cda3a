-- In which mode each step of a run is made, as the program's user writes it: a letter for each round, for the ends and for the openings, 115
-- (s) for small mode and 102 (f) for full mode.
use Rattle.std.specs.Prelude.{ℕ, ◌-◌, ◌≡◌, refl, Bool, true, false, cond, List, [], ◌∷◌, eqb, leb, ltb, length, replicate}
use Rattle.vector.specs.Vector.{at}
use Rattle.vector.specs.Slice.{every, overwrite}

abbrev pub is_letter : ℕ → Bool
is_letter x = cond (eqb x 115) true (eqb x 102)

-- one letter at least, and no other
unfoldable pub is_word : List ℕ → Bool
is_word w = cond (eqb (length w) 0) false (every (length w) (λ i. is_letter (at w i)))

-- steps past the word stay in its last mode, letters past the steps are not used
unfoldable pub letter_at : List ℕ → ℕ → ℕ
letter_at w i = at w (cond (ltb i (length w)) i (length w - 1))

abbrev pub full_at : List ℕ → ℕ → Bool
full_at w i = eqb (letter_at w i) 102

-- as the program holds them, a run having fifteen rounds at most: in full mode from step k on (`change K`), before it by the word
abbrev pub letter_from : List ℕ → ℕ → ℕ → ℕ
letter_from w k i = cond (leb k i) 102 (letter_at w i)

abbrev pub letters_of : List ℕ → ℕ → List ℕ
letters_of w k = overwrite (letter_from w k) 17 (replicate 17 0)

-- `modes sf`
example_word : is_word (115 ∷ 102 ∷ []) ≡ true
unfolding is_word every
example_word = refl

example_steps : (full_at (115 ∷ 102 ∷ []) 0 ≡ false) × (full_at (115 ∷ 102 ∷ []) 1 ≡ true) × (full_at (115 ∷ 102 ∷ []) 9 ≡ true)
unfolding letter_at
example_steps = (refl, refl, refl)
