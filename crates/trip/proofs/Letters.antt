-- The letters that the program holds say of each step what the arguments say.
use mathlib.Core.Path.{◌≡◌, refl, ap, ◌∙◌}
use mathlib.Core.Bool.{Bool, true, false, cond}
use mathlib.Core.List.{List, [], ◌∷◌}
use Prim.Native.Nat.{ℕ, zero, suc, ◌-◌, ◌<◌}
use native.Mathlib.Omega.{arith}
use lib.Dec.{eqb, leb}
use lib.ListN.{length, replicate}
use borrow.Author.Tests.{lt-ltb, lt-leb, le-ltb}
use Rattle.vector.proofs.Overwrite.{overwrite-length, overwrite-written}
use Rattle.vector.specs.Vector.{at}
use Rattle.vector.specs.Slice.{overwrite}
use Rattle.trip.specs.Modes.{letter_at, full_at, letter_from, letters_of}

held : (v : ℕ → ℕ) (i : ℕ) → i < 17 → letter_at (overwrite v 17 (replicate 17 0)) i ≡ v i
unfolding letter_at
held v i h =
    let xs : List ℕ = overwrite v 17 (replicate 17 0) in
    let long : length xs ≡ 17 = overwrite-length v (replicate 17 0) 17 in
    ap (λ b. at xs (cond b i (length xs - 1))) (lt-ltb i (length xs) (omega (arith, long)))
    ∙ overwrite-written v (replicate 17 0) 17 i (omega arith) h

-- of a word, before step k
pub letters_full : (w : List ℕ) (k i : ℕ) → i < 17 → i < k → full_at (letters_of w k) i ≡ full_at w i
letters_full w k i h before = ap (λ x. eqb x 102) (held (letter_from w k) i h ∙ ap (λ b. cond b 102 (letter_at w i)) (lt-leb k i before))

-- of a change before step k
all_small : (i : ℕ) → letter_at (115 ∷ []) i ≡ 115
unfolding letter_at
all_small zero = refl
all_small (suc i) = ap (λ b. at (115 ∷ []) (cond b (suc i) 0)) (le-ltb (suc i) 1 (omega arith))

pub changing-full : (k i : ℕ) → i < 17 → full_at (letters_of (115 ∷ []) k) i ≡ leb k i
changing-full k i h = ap (λ x. eqb x 102) (held (letter_from (115 ∷ []) k) i h ∙ ap (λ x. cond (leb k i) 102 x) (all_small i)) ∙ by (leb k i)
  where
    by : (b : Bool) → eqb (cond b 102 115) 102 ≡ b
    by true = refl
    by false = refl
