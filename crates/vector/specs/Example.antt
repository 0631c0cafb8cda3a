-- Document 01, "One trip, whole": readings -180, -175, 40; weights 10, 20, 5; challenges 2, 3; point 2.
use Rattle.std.specs.Prelude.{ℕ, ◌≡◌, refl, [], ◌∷◌, pos, negsuc}
use Rattle.algebra.specs.Mod.{residue, add_mod, neg_mod, mul_mod}
use Rattle.field.specs.Integer.{image}
use Rattle.vector.specs.Vector.{Vector, at, sum, dot, padded}
use Rattle.vector.specs.Fold.{fold_with, end_value}
use Rattle.vector.specs.Message.{message, next_claim}
use Rattle.vector.specs.Opening.{triple_values, opening}

abbrev P : ℕ
P = 2147483647

abbrev readings : Vector
readings = at (image P (negsuc 179) ∷ image P (negsuc 174) ∷ image P (pos 40) ∷ [])

abbrev f : Vector
f = padded 3 readings

abbrev g : Vector
g = padded 3 (at (10 ∷ 20 ∷ 5 ∷ []))

abbrev challenges : ℕ → ℕ
challenges = at (2 ∷ 3 ∷ [])

pub first-message : message P 2 challenges f g 0 ≡ record { even = 2147482047; cross = 2147478297; odd = 2147480147 }
unfolding fold_with sum image residue add_mod neg_mod mul_mod
first-message = refl

pub second-message : message P 2 challenges f g 1 ≡ record { even = 2147457147; cross = 2147482997; odd = 200 }
unfolding fold_with sum image residue add_mod neg_mod mul_mod
second-message = refl

-- "Claims go -5100, -26300, -26650"
pub first-claim : dot P 4 f g ≡ image P (negsuc 5099)
unfolding sum image residue neg_mod
first-claim = refl

pub second-claim : next_claim P (message P 2 challenges f g 0) 2 ≡ image P (negsuc 26299)
unfolding fold_with sum image residue add_mod neg_mod mul_mod
second-claim = refl

pub third_claim : next_claim P (message P 2 challenges f g 1) 3 ≡ image P (negsuc 26649)
unfolding fold_with sum image residue add_mod neg_mod mul_mod
third_claim = refl

pub end_values : ◌≡◌ {A = ℕ × ℕ} (end_value P challenges 2 f, end_value P challenges 2 g) (2147483237, 65)
unfolding fold_with image residue add_mod neg_mod mul_mod
end_values = refl

pub opening-values : opening P 2 challenges f g 2
    ≡ 2147483277 ∷ 330 ∷ 2147483277 ∷ 2147483197 ∷ 2147483037 ∷ 2147483237 ∷ 70 ∷ 2147483637 ∷ 70 ∷ 60 ∷ 40 ∷ 65 ∷ []
unfolding triple_values fold_with sum image residue add_mod neg_mod mul_mod
opening-values = refl
