-- Slices at work, modulo 7.
use Rattle.std.specs.Prelude.{◌≡◌, refl, true, false, [], ◌∷◌}
use Rattle.algebra.specs.Mod.{residue, add_mod, mul_mod, pow_mod}
use Rattle.vector.specs.Vector.{at, sum, weight}
use Rattle.vector.specs.Slice.{overwrite, fold_slice, message_slice, evaluate_slice, every, all_reduced, all_nonzero, fifteen}
use Rattle.vector.specs.Twist.{twists_of}

-- 3 + 2·5 and 6 + 2·1, the other places kept
pub folded : fold_slice 7 2 2 (3 ∷ 5 ∷ 6 ∷ 1 ∷ 4 ∷ []) ≡ 6 ∷ 1 ∷ 6 ∷ 1 ∷ 4 ∷ []
unfolding fold_slice overwrite residue add_mod mul_mod
folded = refl

pub too_short : fold_slice 7 2 2 (3 ∷ 5 ∷ 6 ∷ []) ≡ 3 ∷ 5 ∷ 6 ∷ []
unfolding fold_slice
too_short = refl

pub message-of : message_slice 7 1 (2 ∷ 3 ∷ []) (4 ∷ 5 ∷ 6 ∷ []) ≡ record { even = 1; cross = 1; odd = 1 }
unfolding message_slice sum residue
message-of = refl

-- 1 + 2·3 + 3·9
pub evaluated : evaluate_slice 7 3 (1 ∷ 2 ∷ 3 ∷ []) 3 ≡ 6
unfolding evaluate_slice sum residue
evaluated = refl

-- bits 0 and 2 of 5: the first and the third number
pub first-and_third : weight 7 (at (2 ∷ 3 ∷ 5 ∷ [])) 3 5 ≡ 3
unfolding weight residue mul_mod
first-and_third = refl

-- a place that is not there counts as 0
pub reduced_past_end : all_reduced 7 3 (6 ∷ []) ≡ true
unfolding every
reduced_past_end = refl

pub nonzero_past_end : all_nonzero 7 2 (6 ∷ []) ≡ false
unfolding every
nonzero_past_end = refl

pub kept : fifteen 2 (4 ∷ 5 ∷ 6 ∷ []) ≡ 4 ∷ 5 ∷ 0 ∷ 0 ∷ 0 ∷ 0 ∷ 0 ∷ 0 ∷ 0 ∷ 0 ∷ 0 ∷ 0 ∷ 0 ∷ 0 ∷ 0 ∷ []
unfolding fifteen overwrite
kept = refl

-- 3, 3², 3⁴
pub three-twists : twists_of 7 3 3 ≡ 3 ∷ 2 ∷ 4 ∷ 0 ∷ 0 ∷ 0 ∷ 0 ∷ 0 ∷ 0 ∷ 0 ∷ 0 ∷ 0 ∷ 0 ∷ 0 ∷ 0 ∷ []
unfolding overwrite pow_mod residue mul_mod
three-twists = refl
