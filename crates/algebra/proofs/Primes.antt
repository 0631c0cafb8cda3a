-- Primes by trial division up to the root; 2,147,483,647 is one, by computation.
use mathlib.Core.Path.{◌≡◌, sym, ap, ◌∙◌, subst}
use mathlib.Core.Bool.{Bool, true, not, ◌&&◌}
use Prim.Native.Nat.{ℕ, zero, suc, ◌+◌, ◌*◌, ◌/◌, ◌%◌, ◌≤◌, ◌<◌}
use native.Mathlib.Nat.{mul_comm, mul-le-mul, mul-le-mul_left, mul-mod_right, div-add-mod, add-zero}
use native.Mathlib.Omega.{arith}
use native.Mathlib.Decide.{dec_lt}
use lib.Dec.{T, eqb, eqb_refl, T_not, lit<}
use Rattle.algebra.specs.Prime.{Prime}
use Rattle.algebra.proofs.Polynomial.{both}

pub by_dec : {A C : Type 0} → Dec A → (A → C) → ((A → ⊥) → C) → C
by_dec (yes a) f g = f a
by_dec (no n) f g = g n

-- no number from 2 to k + 1 divides p
abbrev pub trial : ℕ → ℕ → Bool
trial p zero = true
trial p (suc k) = not (eqb (p % (k + 2)) 0) && trial p k

last : (p k d : ℕ) → T (not (eqb (p % (k + 2)) 0)) → (d < k + 2 → ⊥) → d < suc k + 2 → p % d ≡ 0 → ⊥
last p k d b h hi e =
    let same : d ≡ k + 2 = omega arith in
    T_not (eqb (p % (k + 2)) 0) b (subst (λ n. T (eqb n 0)) (sym e ∙ ap (λ n. p % n) same) (eqb_refl 0))

trial-ok : (p k d : ℕ) → T (trial p k) → 1 < d → d < k + 2 → p % d ≡ 0 → ⊥
trial-ok p zero d t lo hi e = omega arith
trial-ok p (suc k) d t lo hi e =
    let b = both (not (eqb (p % (k + 2)) 0)) (trial p k) t in
    by_dec (dec_lt d (k + 2)) (λ h. trial-ok p k d b.1 lo h e) (λ h. last p k d b.0 h hi e)

module _ (p d : ℕ) (lo : 1 < d) (hi : d < p) (e : p % d ≡ 0) where
  cofactor : d * (p / d) ≡ p
  cofactor = sym (add-zero (d * (p / d))) ∙ ap (λ n. d * (p / d) + n) (sym e) ∙ div-add-mod p d

  cofactor_divides : p % (p / d) ≡ 0
  cofactor_divides = ap (λ n. n % (p / d)) (sym cofactor ∙ mul_comm d (p / d)) ∙ mul-mod_right (p / d) d

  cofactor_big : 1 < p / d
  cofactor_big =
      by_dec (dec_lt 1 (p / d)) (λ h. h)
      (λ h. let l : d * (p / d) ≤ d * 1 = mul-le-mul_left d (omega arith) in absurd (let m = cofactor in omega arith))

  cofactor_small : (m : ℕ) → p < m * m → (d < m → ⊥) → p / d < m
  cofactor_small m root u =
      by_dec (dec_lt (p / d) m) (λ h. h)
      (λ h. let l : m * m ≤ d * (p / d) = mul-le-mul (omega arith) (omega arith) in absurd (let f = cofactor in omega arith))

pub prime_by : (p k : ℕ) → 1 < p → p < (k + 2) * (k + 2) → T (trial p k) → Prime p
prime_by p k lo root t =
    record {
      big = lo;
      only = λ d l h e.
          by_dec (dec_lt d (k + 2)) (λ u. trial-ok p k d t l u e)
          (λ u. trial-ok p k (p / d) t (cofactor_big p d l h e) (cofactor_small p d l h e (k + 2) root u) (cofactor_divides p d l h e));
    }

pub prime_31 : Prime 2147483647
prime_31 = prime_by 2147483647 46339 (lit< tt) (lit< tt) tt
