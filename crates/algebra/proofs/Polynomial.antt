-- Polynomials with natural coefficients in Horner's form, and a test that two are the same.
-- `hor c q` is c + x * q, where c has only the variables after x. Each operation is correct at every value of the variables.
use mathlib.Core.Path.{◌≡◌, refl, sym, ap, ap₂, ◌∙◌}
use mathlib.Core.Bool.{Bool, true, false, ◌&&◌}
use Prim.Native.Nat.{ℕ, zero, suc, ◌+◌, ◌*◌}
use native.Mathlib.Nat.{mul_comm, mul_assoc, mul_left_comm, mul-add, add-mul, zero-mul, mul-zero, add-zero, zero-add, mul-one}
use native.Mathlib.Omega.{arith}
use lib.Dec.{T, eqb, eqb→eq}

pub data Pol : Type 0 where
  con : ℕ → Pol
  hor : Pol → Pol → Pol

abbrev pub val : (ℕ → ℕ) → ℕ → Pol → ℕ
val env i (con k) = k
val env i (hor c q) = val env (suc i) c + env i * val env i q

abbrev pub add_c : ℕ → Pol → Pol
add_c k (con l) = con (k + l)
add_c k (hor c q) = hor (add_c k c) q

abbrev pub add_p : Pol → Pol → Pol
add_p (con k) q = add_c k q
add_p (hor c q) (con k) = hor (add_c k c) q
add_p (hor c q) (hor c' q') = hor (add_p c c') (add_p q q')

abbrev pub times : ℕ → Pol → Pol
times k (con l) = con (k * l)
times k (hor c q) = hor (times k c) (times k q)

abbrev pub scale : ℕ → Pol → Pol
scale zero q = con zero
scale (suc k) q = times (suc k) q

-- c times q, where c has only the variables after q's first
abbrev pub under : (Pol → Pol) → Pol → Pol → Pol
under f c (con l) = hor (scale l c) (con zero)
under f c (hor c' q) = hor (f c') (under f c q)

abbrev pub mul_p : Pol → Pol → Pol
mul_p (con k) q = scale k q
mul_p (hor c p) (con l) = scale l (hor c p)
mul_p (hor c p) (hor c' q) = add_p (under (mul_p c) c (hor c' q)) (hor (con zero) (mul_p p (hor c' q)))

abbrev pub var_p : ℕ → Pol
var_p zero = hor (con zero) (con 1)
var_p (suc i) = hor (var_p i) (con zero)

abbrev pub eq_c : ℕ → Pol → Bool
eq_c k (con l) = eqb k l
eq_c k (hor c q) = eq_c k c && eq_c zero q

abbrev pub eq_p : Pol → Pol → Bool
eq_p (con k) q = eq_c k q
eq_p (hor c q) (con k) = eq_c k c && eq_c zero q
eq_p (hor c q) (hor c' q') = eq_p c c' && eq_p q q'

pub both : (a b : Bool) → T (a && b) → T a × T b
both true true h = (tt, tt)
both true false h = absurd h
both false true h = absurd h
both false false h = absurd h

module _ (env : ℕ → ℕ) where
  pub add_c-ok : (i k : ℕ) (q : Pol) → val env i (add_c k q) ≡ k + val env i q
  add_c-ok i k (con l) = refl
  add_c-ok i k (hor c q) = omega (arith, add_c-ok (suc i) k c)

  pub add_p-ok : (i : ℕ) (a b : Pol) → val env i (add_p a b) ≡ val env i a + val env i b
  add_p-ok i (con k) b = add_c-ok i k b
  add_p-ok i (hor c q) (con k) = omega (arith, add_c-ok (suc i) k c)
  add_p-ok i (hor c q) (hor c' q') =
      omega (arith, add_p-ok (suc i) c c', ap (λ v. env i * v) (add_p-ok i q q') ∙ mul-add (env i) (val env i q) (val env i q'))

  pub times-ok : (i k : ℕ) (q : Pol) → val env i (times k q) ≡ k * val env i q
  times-ok i k (con l) = refl
  times-ok i k (hor c q) =
      omega (arith, times-ok (suc i) k c, ap (λ v. env i * v) (times-ok i k q) ∙ mul_left_comm (env i) k (val env i q), mul-add k (val env (suc i) c) (env i * val env i q))

  pub scale_ok : (i k : ℕ) (q : Pol) → val env i (scale k q) ≡ k * val env i q
  scale_ok i zero q = sym (zero-mul (val env i q))
  scale_ok i (suc k) q = times-ok i (suc k) q

  pub under-ok : (i : ℕ) (f : Pol → Pol) (c : Pol) → ((c' : Pol) → val env (suc i) (f c') ≡ val env (suc i) c * val env (suc i) c')
      → (q : Pol) → val env i (under f c q) ≡ val env (suc i) c * val env i q
  under-ok i f c h (con l) = omega (arith, scale_ok (suc i) l c, mul_comm l (val env (suc i) c), mul-zero (env i))
  under-ok i f c h (hor c' q) =
      omega (arith, h c', ap (λ v. env i * v) (under-ok i f c h q) ∙ mul_left_comm (env i) (val env (suc i) c) (val env i q), mul-add (val env (suc i) c) (val env (suc i) c') (env i * val env i q))

  pub mul_p-ok : (i : ℕ) (a b : Pol) → val env i (mul_p a b) ≡ val env i a * val env i b
  mul_p-ok i (con k) b = scale_ok i k b
  mul_p-ok i (hor c p) (con l) = scale_ok i l (hor c p) ∙ mul_comm l (val env i (hor c p))
  mul_p-ok i (hor c p) (hor c' q) =
      let w = val env i (hor c' q) in
      add_p-ok i (under (mul_p c) c (hor c' q)) (hor (con zero) (mul_p p (hor c' q)))
      ∙ ap₂ ◌+◌ (under-ok i (mul_p c) c (λ d. mul_p-ok (suc i) c d) (hor c' q))
      (zero-add (env i * val env i (mul_p p (hor c' q))) ∙ ap (λ v. env i * v) (mul_p-ok i p (hor c' q)) ∙ sym (mul_assoc (env i) (val env i p) w))
      ∙ sym (add-mul (val env (suc i) c) (env i * val env i p) w)

  pub eq_c-ok : (i k : ℕ) (q : Pol) → T (eq_c k q) → k ≡ val env i q
  eq_c-ok i k (con l) t = eqb→eq k l t
  eq_c-ok i k (hor c q) t =
      let b = both (eq_c k c) (eq_c zero q) t in
      omega (arith, eq_c-ok (suc i) k c b.0, ap (λ v. env i * v) (sym (eq_c-ok i zero q b.1)) ∙ mul-zero (env i))

  pub eq_p-ok : (i : ℕ) (a b : Pol) → T (eq_p a b) → val env i a ≡ val env i b
  eq_p-ok i (con k) b t = eq_c-ok i k b t
  eq_p-ok i (hor c q) (con k) t = sym (eq_c-ok i k (hor c q) t)
  eq_p-ok i (hor c q) (hor c' q') t =
      let b = both (eq_p c c') (eq_p q q') t in
      ap₂ (λ u v. u + env i * v) (eq_p-ok (suc i) c c' b.0) (eq_p-ok i q q' b.1)

  pub var_p-ok : (i j : ℕ) → val env i (var_p j) ≡ env (i + j)
  var_p-ok i zero = zero-add (env i * 1) ∙ mul-one (env i) ∙ ap env (sym (add-zero i))
  var_p-ok i (suc j) = ap₂ ◌+◌ (var_p-ok (suc i) j) (mul-zero (env i)) ∙ add-zero (env (suc i + j)) ∙ ap env (omega arith)
