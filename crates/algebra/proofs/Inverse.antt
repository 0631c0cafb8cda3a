-- Inverses modulo any prime, and what follows: no zero divisors, cancelling.
use mathlib.Core.Path.{◌≡◌, refl, sym, ap, ◌∙◌}
use mathlib.Core.Bool.{Bool, true, false}
use mathlib.Core.List.{[], ◌∷◌}
use mathlib.Core.Logic.{◌⊎◌, inl, inr}
use Prim.Native.Nat.{ℕ, zero, suc, ◌*◌, ◌/◌, ◌%◌, ◌≤◌, ◌<◌}
use native.Mathlib.Nat.{le_refl, mod-add-div', mod-lt, pos_of_ne-zero}
use native.Mathlib.Omega.{arith}
use native.Mathlib.Decide.{dec_le, ℕ_discrete}
use lib.Dec.{leb}
use borrow.Author.Tests.{le-leb, lt-leb, leb-true, leb-false}
use Rattle.algebra.specs.Mod.{base, residue, neg_mod, mul_mod, inverse_in, inverse_mod}
use Rattle.algebra.specs.Prime.{Prime}
use Rattle.algebra.proofs.Congruence.{Cong, base-pos, cong_add, cong_cancel, cong_eq, cong_modulus, cong_reduced, cong_refl, cong_sym, cong_trans, mul_cong, neg_cong, residue-lt, residue-small, residue-twice, residue-zero}
use Rattle.algebra.proofs.Laws.{mul_associates, mul_lt, mul_residue, one_product, zero-product}
use Rattle.algebra.proofs.Primes.{by_dec}
use Rattle.algebra.proofs.Ring.{var, mul, neg, sub, num, solve, solve_from, vars, none, given}

-- p % a is -(p / a) a
remainder : (p a : ℕ) → Cong p (p % a) (neg_mod p (mul_mod p (p / a) a))
remainder p a =
    cong_cancel (p / a * a)
    (cong_trans (cong_eq (mod-add-div' p a))
    (cong_trans (cong_modulus p)
    (cong_sym
    (cong_trans (cong_add (cong_refl (neg_mod p (mul_mod p (p / a) a))) (cong_sym (mul_cong (p / a) a)))
    (neg_cong (mul_mod p (p / a) a))))))

-- one call of the recursion
step : (p a v : ℕ) → Cong p (mul_mod p (p % a) v) 1 → Cong p (mul_mod p a (mul_mod p (neg_mod p (p / a)) v)) 1
step p a v e =
    solve_from p (vars (a ∷ v ∷ p / a ∷ p % a ∷ [])) (mul (var 0) (mul (neg (var 2)) (var 1))) (num 1)
    (given (neg (var 1)) (var 3) (neg (mul (var 2) (var 0))) (remainder p a) (given (num 1) (mul (var 3) (var 1)) (num 1) e none))
    tt

module _ (p : ℕ) where
  inverse_in-lt : (k a : ℕ) → a < base p → inverse_in k p a < base p
  unfolding inverse_in
  inverse_in-lt zero a h = base-pos p
  inverse_in-lt (suc k) a h = by (leb a 1)
    where
      by : (b : Bool) → elim b as (λ x. ℕ) [ true ↦ a | false ↦ mul_mod p (neg_mod p (p / a)) (inverse_in k p (p % a)) ] < base p
      by true = h
      by false = mul_lt p (neg_mod p (p / a)) (inverse_in k p (p % a))

  pub inverse_lt : (a : ℕ) → inverse_mod p a < base p
  unfolding inverse_mod
  inverse_lt a = inverse_in-lt (residue p a) (residue p a) (residue-lt p a)

  -- the clauses of the recursion, by whether the number is over 1
  pub inverse_in-small : (k a : ℕ) → a ≤ k → a ≤ 1 → inverse_in k p a ≡ a
  unfolding inverse_in
  inverse_in-small zero a l h = omega arith
  inverse_in-small (suc k) a l h =
      ap (λ b. elim b as (λ x. ℕ) [ true ↦ a | false ↦ mul_mod p (neg_mod p (p / a)) (inverse_in k p (p % a)) ]) (le-leb a 1 h)

  pub inverse_in-large : (k a : ℕ) → 1 < a → inverse_in (suc k) p a ≡ mul_mod p (neg_mod p (p / a)) (inverse_in k p (p % a))
  unfolding inverse_in
  inverse_in-large k a h =
      ap (λ b. elim b as (λ x. ℕ) [ true ↦ a | false ↦ mul_mod p (neg_mod p (p / a)) (inverse_in k p (p % a)) ]) (lt-leb a 1 h)

  -- any bound from the number on serves
  pub inverse_in-bound : (k j a : ℕ) → a ≤ k → a ≤ j → inverse_in k p a ≡ inverse_in j p a
  inverse_in-bound zero j a hk hj = inverse_in-small zero a hk (omega arith) ∙ sym (inverse_in-small j a hj (omega arith))
  inverse_in-bound (suc k) zero a hk hj = inverse_in-small (suc k) a hk (omega arith) ∙ sym (inverse_in-small zero a hj (omega arith))
  inverse_in-bound (suc k) (suc j) a hk hj =
      by_dec (dec_le a 1) (λ h. inverse_in-small (suc k) a hk h ∙ sym (inverse_in-small (suc j) a hj h))
      (λ n.
      let h : 1 < a = omega arith in
      let r = mod-lt p {m = a} (omega arith) in
      inverse_in-large k a h
      ∙ ap (mul_mod p (neg_mod p (p / a))) (inverse_in-bound k j (p % a) (omega arith) (omega arith))
      ∙ sym (inverse_in-large j a h))

  -- one turn of a loop that keeps t times the inverse of a
  pub inverse_turn : (t a : ℕ) → 1 < a
      → mul_mod p (mul_mod p t (neg_mod p (p / a))) (inverse_in (p % a) p (p % a)) ≡ mul_mod p t (inverse_in a p a)
  inverse_turn t zero h = absurd (omega arith)
  inverse_turn t (suc k) h =
      let a = suc k in
      let r = mod-lt p {m = a} (omega arith) in
      mul_associates p t (neg_mod p (p / a)) (inverse_in (p % a) p (p % a))
      ∙ ap (mul_mod p t)
      (ap (mul_mod p (neg_mod p (p / a))) (inverse_in-bound (p % a) k (p % a) (le_refl (p % a)) (omega arith)) ∙ sym (inverse_in-large k a h))

module _ {p : ℕ} (prime : Prime p) where
  pub prime_pos : 0 < p
  prime_pos = omega (arith, prime.big)

  inverse_in_lem : (k a : ℕ) → a ≤ k → 0 < a → a < p → Cong p (mul_mod p a (inverse_in k p a)) 1
  unfolding inverse_in
  inverse_in_lem zero a h lo hi = absurd (omega arith)
  inverse_in_lem (suc k) a h lo hi = by (λ l u v. inverse_in_lem k (p % a) l u v) (leb a 1) refl
    where
      by : (p % a ≤ k → 0 < p % a → p % a < p → Cong p (mul_mod p (p % a) (inverse_in k p (p % a))) 1)
          → (b : Bool) → leb a 1 ≡ b
          → Cong p (mul_mod p a (elim b as (λ x. ℕ) [ true ↦ a | false ↦ mul_mod p (neg_mod p (p / a)) (inverse_in k p (p % a)) ])) 1
      by rec true e =
          let one : a ≡ 1 = omega (arith, leb-true a 1 e) in
          cong_trans (mul_cong a a) (cong_eq (ap (λ x. x * x) one))
      by rec false e =
          let m = mod-lt p lo in
          let n = leb-false a 1 e in
          step p a _ (rec (omega arith) (pos_of_ne-zero (λ z. prime.only a (omega arith) hi z)) (omega arith))

  one-residue : residue p 1 ≡ 1
  one-residue = residue-small p 1 (omega (arith, prime.big))

  one_of : (a b : ℕ) → Cong p (mul_mod p a b) 1 → mul_mod p a b ≡ 1
  unfolding mul_mod
  one_of a b e = sym (residue-twice p (a * b)) ∙ e.residues ∙ one-residue

  -- a number that p does not divide times its inverse is 1
  pub inverse_of : (a : ℕ) → (residue p a ≡ 0 → ⊥) → mul_mod p a (inverse_mod p a) ≡ 1
  unfolding inverse_mod
  inverse_of a n =
      let r = residue p a in
      sym (mul_residue p a (inverse_in r p r))
      ∙ one_of r (inverse_in r p r) (inverse_in_lem r r (le_refl r) (pos_of_ne-zero n) (omega (arith, residue-lt p a, prime.big)))

  pub inverse_zero : inverse_mod p 0 ≡ 0
  unfolding inverse_mod inverse_in
  inverse_zero = ap (λ r. inverse_in r p r) (residue-zero p)

  -- p does not divide a number that has an inverse
  pub unit_residue : (a b : ℕ) → mul_mod p a b ≡ 1 → residue p a ≡ 0 → ⊥
  unit_residue a b e z =
      let zero_one : ◌≡◌ {A = ℕ} 0 1 = sym (zero-product p b) ∙ ap (λ r. mul_mod p r b) (sym z) ∙ mul_residue p a b ∙ e in
      omega arith

  -- Euclid's lemma
  pub no-zero-divisors : (a b : ℕ) → mul_mod p a b ≡ 0 → (residue p a ≡ 0) ⊎ (residue p b ≡ 0)
  no-zero-divisors a b e = by_dec (ℕ_discrete (residue p a) 0) (λ z. inl z) (λ n. inr (other n))
    where
      other : (residue p a ≡ 0 → ⊥) → residue p b ≡ 0
      other n =
          let v = inverse_mod p a in
          sym (one_product p b) ∙ ap (λ x. mul_mod p x b) (sym (inverse_of a n))
          ∙ solve p (vars (a ∷ b ∷ v ∷ [])) (mul (mul (var 0) (var 2)) (var 1)) (mul (mul (var 0) (var 1)) (var 2)) tt
          ∙ ap (λ x. mul_mod p x v) e
          ∙ zero-product p v

  -- a factor that p does not divide may be cancelled
  pub cancel_factor : (a b c : ℕ) → (residue p a ≡ 0 → ⊥) → Cong p (mul_mod p a b) (mul_mod p a c) → Cong p b c
  cancel_factor a b c n e =
      solve_from p (vars (a ∷ b ∷ c ∷ inverse_mod p a ∷ [])) (var 1) (var 2)
      (given (var 3) (mul (var 0) (var 1)) (mul (var 0) (var 2)) e
      (given (sub (var 2) (var 1)) (mul (var 0) (var 3)) (num 1) (cong_eq (inverse_of a n)) none))
      tt

  -- the inverse is the only such number
  pub inverse_only : (a b : ℕ) → b < p → mul_mod p a b ≡ 1 → b ≡ inverse_mod p a
  inverse_only a b h e =
      let n = unit_residue a b e in
      cong_reduced (omega arith) (inverse_lt p a)
      (cancel_factor a b (inverse_mod p a) n (cong_eq (e ∙ sym (inverse_of a n))))
