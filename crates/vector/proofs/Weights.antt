-- The weight of an index: the product of the numbers at its ones, place by place.
use mathlib.Core.Path.{◌≡◌, refl, sym, ap, ◌∙◌}
use mathlib.Core.Bool.{cond}
use mathlib.Core.List.{[], ◌∷◌}
use Prim.Native.Nat.{ℕ, zero, suc, ◌+◌, ◌*◌, ◌/◌, ◌%◌, ◌^◌, ◌<◌}
use native.Mathlib.Nat.{add-zero, mul-one, zero-div}
use native.Mathlib.Omega.{arith}
use lib.Dec.{eqb}
use lib.Pow.{shr-shr}
use Rattle.algebra.specs.Mod.{residue, mul_mod}
use Rattle.algebra.proofs.Congruence.{residue-twice}
use Rattle.vector.specs.Vector.{Vector, at, bit, weight}
use Rattle.vector.proofs.Counts.{bit-low, bit_high, bit_below}
use Rattle.vector.proofs.Rounds.{half_count}

module _ (p : ℕ) (v : Vector) where
  pub weight-reduced : (n i : ℕ) → residue p (weight p v n i) ≡ weight p v n i
  unfolding weight mul_mod
  weight-reduced zero i = residue-twice p 1
  weight-reduced (suc n) i = residue-twice p (weight p v n i * cond (eqb (bit n i) 1) (v n) 1)

  -- one more place, by its bit
  pub weight-one : (n i : ℕ) → bit n i ≡ 1 → weight p v (suc n) i ≡ mul_mod p (weight p v n i) (v n)
  unfolding weight
  weight-one n i e = rw e

  pub weight-zero : (n i : ℕ) → bit n i ≡ 0 → weight p v (suc n) i ≡ weight p v n i
  unfolding weight mul_mod
  weight-zero n i e = rw e (ap (residue p) (mul-one (weight p v n i)) ∙ weight-reduced n i)

  -- only the bits below n count
  pub weight-same : (n i j : ℕ) → ((k : ℕ) → k < n → bit k i ≡ bit k j) → weight p v n i ≡ weight p v n j
  unfolding weight
  weight-same zero i j h = refl
  weight-same (suc n) i j h = rw (h n (omega arith), weight-same n i j (λ k l. h k (omega arith)))

  -- and only the numbers below n
  pub weight-challenges : (u : Vector) (n i : ℕ) → ((k : ℕ) → k < n → u k ≡ v k) → weight p u n i ≡ weight p v n i
  unfolding weight
  weight-challenges u zero i h = refl
  weight-challenges u (suc n) i h = rw (h n (omega arith), weight-challenges u n i (λ k l. h k (omega arith)))

  pub weight-low : (n r : ℕ) → r < 2 ^ n → weight p v (suc n) r ≡ weight p v n r
  weight-low n r h = weight-zero n r (bit-low n r h)

  pub weight-high : (n r : ℕ) → r < 2 ^ n → weight p v (suc n) (2 ^ n + r) ≡ mul_mod p (weight p v n r) (v n)
  weight-high n r h =
      weight-one n (2 ^ n + r) (bit_high n r h) ∙ ap (λ w. mul_mod p w (v n)) (weight-same n (2 ^ n + r) r (λ k l. bit_below n r k l))

  -- A loop from the lowest place, with the number halved: rest is i / 2^k
  pub rest-turn : (k i rest : ℕ) → rest ≡ i / 2 ^ k → rest / 2 ≡ i / 2 ^ suc k
  rest-turn k i rest e = ap (λ q. q / 2) e ∙ half_count i k

  pub weight-take : (k i rest : ℕ) → rest ≡ i / 2 ^ k → rest % 2 ≡ 1 → mul_mod p (weight p v k i) (v k) ≡ weight p v (suc k) i
  weight-take k i rest e one = sym (weight-one k i (ap (λ q. q % 2) (sym e) ∙ one))

  pub weight-skip : (k i rest : ℕ) → rest ≡ i / 2 ^ k → (rest % 2 ≡ 1 → ⊥) → weight p v k i ≡ weight p v (suc k) i
  weight-skip k i rest e none =
      let z : rest % 2 ≡ 0 = omega arith in
      sym (weight-zero k i (ap (λ q. q % 2) (sym e) ∙ z))

  -- no ones are left: the places above count for nothing
  pub weight-rest : (d k i : ℕ) → i / 2 ^ k ≡ 0 → weight p v (k + d) i ≡ weight p v k i
  weight-rest zero k i e = rw (add-zero k)
  weight-rest (suc d) k i e =
      let z : k + suc d ≡ suc (k + d) = omega arith in
      rw z (weight-zero (k + d) i (ap (λ q. q % 2) (sym (shr-shr i k d) ∙ ap (λ q. q / 2 ^ d) e ∙ zero-div (2 ^ d))) ∙ weight-rest d k i e)

-- bit k goes with challenge k: of index 2 the one is at place 1, of index 1 at place 0
pub weight-of_two : weight 101 (at (3 ∷ 5 ∷ [])) 2 2 ≡ 5
unfolding weight mul_mod residue
weight-of_two = refl

pub weight-of_one : weight 101 (at (3 ∷ 5 ∷ [])) 2 1 ≡ 3
unfolding weight mul_mod residue
weight-of_one = refl
