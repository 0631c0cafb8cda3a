-- The opening equation: a fold split into even and odd powers, and the same with no division.
use mathlib.Core.Path.{◌≡◌, sym, ap, ap₂, ◌∙◌}
use mathlib.Core.Bool.{true}
use mathlib.Core.List.{[], ◌∷◌}
use Prim.Native.Nat.{ℕ, zero, suc, ◌+◌, ◌*◌, ◌%◌, ◌^◌, ◌<◌}
use native.Mathlib.Nat.{mul_assoc, mul_comm, pow-suc, pow-zero}
use native.Mathlib.Omega.{arith}
use native.Mathlib.Decide.{ℕ_discrete}
use lib.Dec.{eqb}
use borrow.Author.Tests.{eq-eqb, ne_eqb}
use Rattle.algebra.specs.Mod.{base, residue, add_mod, neg_mod, sub_mod, mul_mod, half_one, half_mod, inverse_mod, div_mod}
use Rattle.algebra.specs.Prime.{Prime}
use Rattle.algebra.proofs.Congruence.{Cong, cong_refl, cong_sym, cong_trans, cong_eq, cong_add, cong_mul, cong_residue, cong_reduced, add_cong, mul_cong, residue-lt, residue-zero}
use Rattle.algebra.proofs.Laws.{half_one_lem, add_lt}
use Rattle.algebra.proofs.Primes.{by_dec}
use Rattle.algebra.proofs.Inverse.{inverse_of, cancel_factor}
use Rattle.algebra.proofs.Ring.{solve, solve_from, solve_by, var, num, add, sub, mul, neg, vars, none, given}
use Rattle.vector.specs.Rounds.{size}
use Rattle.vector.specs.Vector.{Vector, sum}
use Rattle.vector.specs.Fold.{fold_once_with, fold_with, combine, fold}
use Rattle.vector.specs.Opening.{evaluate, Triple, triple, opening_right, opens}
use Rattle.vector.proofs.Sums.{sum_same, sum-halves, sum-times, sum-plus, sum-cong}
use Rattle.vector.proofs.Rounds.{size-halves}
use Rattle.vector.proofs.Messages.{combine-cong}

pow_cong : {p a b : ℕ} → Cong p a b → (n : ℕ) → Cong p (a ^ n) (b ^ n)
pow_cong {p} {a} {b} e zero = cong_eq (pow-zero a ∙ sym (pow-zero b))
pow_cong {p} {a} {b} e (suc n) = cong_trans (cong_eq (pow-suc a n)) (cong_trans (cong_mul (pow_cong e n) e) (cong_eq (sym (pow-suc b n))))

pow_double : (x i : ℕ) → x ^ (2 * i) ≡ (x * x) ^ i
pow_double x zero = pow-zero x ∙ sym (pow-zero (x * x))
pow_double x (suc i) =
    let e : 2 * suc i ≡ suc (suc (2 * i)) = omega arith in
    rw (e, pow-suc x (suc (2 * i)), pow-suc x (2 * i), pow-suc (x * x) i, pow_double x i) (mul_assoc ((x * x) ^ i) x x)

-- the even and the odd powers, as polynomials in y = x²
abbrev even_part : ℕ → Vector → ℕ → ℕ
even_part h v y = sum h (λ i. v (2 * i) * y ^ i)

abbrev odd_part : ℕ → Vector → ℕ → ℕ
odd_part h v y = sum h (λ i. v (2 * i + 1) * y ^ i)

split_powers : (h : ℕ) (v : Vector) (x : ℕ) → sum (2 * h) (λ i. v i * x ^ i) ≡ even_part h v (x * x) + x * odd_part h v (x * x)
split_powers h v x =
    sum-halves h (λ i. v i * x ^ i)
    ∙ ap₂ ◌+◌ (sum_same h _ _ (λ i l. rw (pow_double x i)))
    (sum_same h _ (λ i. v (2 * i + 1) * (x * x) ^ i * x) (λ i l. odd_power i) ∙ sum-times h (λ i. v (2 * i + 1) * (x * x) ^ i) x ∙ mul_comm _ x)
  where
    odd_power : (i : ℕ) → v (2 * i + 1) * x ^ (2 * i + 1) ≡ v (2 * i + 1) * (x * x) ^ i * x
    odd_power i =
        let e : 2 * i + 1 ≡ suc (2 * i) = omega arith in
        ap (λ m. v (2 * i + 1) * x ^ m) e
        ∙ (rw (pow-suc x (2 * i), pow_double x i) (sym (mul_assoc (v (2 * i + 1)) ((x * x) ^ i) x)))

module _ (p : ℕ) (h : ℕ) (v : Vector) where
  part-cong : (u : Vector) {y z : ℕ} → Cong p y z → Cong p (sum h (λ i. u i * y ^ i)) (sum h (λ i. u i * z ^ i))
  part-cong u {y} {z} e = sum-cong h (λ i. u i * y ^ i) (λ i. u i * z ^ i) (λ i l. cong_mul (cong_refl (u i)) (pow_cong e i))

  -- a fold at x and at any y that is x² modulo p
  pub evaluate-split : (x y : ℕ) → Cong p (x * x) y → Cong p (evaluate p (2 * h) v x) (even_part h v y + x * odd_part h v y)
  evaluate-split x y e =
      cong_trans (cong_residue _)
      (cong_trans (cong_eq (split_powers h v x))
      (cong_add (part-cong (λ i. v (2 * i)) e) (cong_mul (cong_refl x) (part-cong (λ i. v (2 * i + 1)) e))))

  -- the next fold at y
  pub evaluate-next : (c y : ℕ) → Cong p (evaluate p h (fold_once_with (combine p) c v) y) (even_part h v y + c * odd_part h v y)
  evaluate-next c y =
      cong_trans (cong_residue _)
      (cong_trans
      (sum-cong h _ (λ i. v (2 * i) * y ^ i + v (2 * i + 1) * y ^ i * c)
      (λ i l. cong_trans (cong_mul (combine-cong p c (v (2 * i)) (v (2 * i + 1))) (cong_refl (y ^ i))) (cong_eq (omega arith))))
      (cong_eq
      (sum-plus h (λ i. v (2 * i) * y ^ i) (λ i. v (2 * i + 1) * y ^ i * c)
      ∙ ap (λ s. even_part h v y + s) (sum-times h (λ i. v (2 * i + 1) * y ^ i) c ∙ mul_comm _ c))))

-- the values of a fold of 2h items at b and -b, and that of the next at b²
abbrev triple_once : ℕ → ℕ → ℕ → ℕ → Vector → Triple
triple_once p b h c v =
    record {
      at_point = evaluate p (2 * h) v b;
      at_minus = evaluate p (2 * h) v (neg_mod p b);
      at_square = evaluate p h (fold_once_with (combine p) c v) (mul_mod p b b);
    }

module _ {p : ℕ} (prime : Prime p) (odd : p % 2 ≡ 1) (b : ℕ) (nonzero : residue p b ≡ 0 → ⊥) where
  two_halves : Cong p (add_mod p (half_one p) (half_one p)) 1
  two_halves = cong_trans (add_cong (half_one p) (half_one p)) (half_one_lem p odd)

  inverse : Cong p (mul_mod p b (inverse_mod p b)) 1
  inverse = cong_eq (inverse_of prime b nonzero)

  -- E + bO and E - bO give E + cO
  right_of : (c : ℕ) (t : Triple) (even odds : ℕ) → Cong p t.at_point (add_mod p even (mul_mod p b odds)) → Cong p t.at_minus (sub_mod p even (mul_mod p b odds))
      → Cong p (opening_right p c b t) (add_mod p even (mul_mod p c odds))
  unfolding half_mod div_mod
  right_of c t even odds plus minus =
      let P = var 0 in
      let M = var 1 in
      let E = var 2 in
      let O = var 3 in
      let C = var 4 in
      let B = var 5 in
      let H = var 6 in
      let I = var 7 in
      solve_from p (vars (t.at_point ∷ t.at_minus ∷ even ∷ odds ∷ c ∷ b ∷ half_one p ∷ inverse_mod p b ∷ []))
      (add (mul (add P M) H) (mul C (mul (mul (sub P M) H) I)))
      (add E (mul C O))
      (given (add H (mul C (mul H I))) P (add E (mul B O)) plus
      (given (sub H (mul C (mul H I))) M (sub E (mul B O)) minus
      (given (add E (mul C O)) (add H H) (num 1) two_halves
      (given (mul (mul C O) (add H H)) (mul B I) (num 1) inverse none))))
      tt

  square_minus : Cong p (neg_mod p b * neg_mod p b) (mul_mod p b b)
  square_minus =
      cong_trans (cong_sym (mul_cong (neg_mod p b) (neg_mod p b)))
      (cong_eq (solve p (vars (b ∷ [])) (mul (neg (var 0)) (neg (var 0))) (mul (var 0) (var 0)) tt))

  plus-part : (even odds : ℕ) → Cong p (even + b * odds) (add_mod p even (mul_mod p b odds))
  plus-part even odds = cong_sym (cong_trans (add_cong even (mul_mod p b odds)) (cong_add (cong_refl even) (mul_cong b odds)))

  minus-part : (even odds : ℕ) → Cong p (even + neg_mod p b * odds) (sub_mod p even (mul_mod p b odds))
  minus-part even odds =
      cong_trans
      (cong_sym (cong_trans (add_cong even (mul_mod p (neg_mod p b) odds)) (cong_add (cong_refl even) (mul_cong (neg_mod p b) odds))))
      (cong_eq (solve p (vars (b ∷ even ∷ odds ∷ [])) (add (var 1) (mul (neg (var 0)) (var 2))) (sub (var 1) (mul (var 0) (var 2))) tt))

  -- the right side is reduced
  right-reduced : (c : ℕ) (t : Triple) → opening_right p c b t < base p
  right-reduced c t = add_lt p (half_mod p (add_mod p t.at_point t.at_minus)) (mul_mod p c (div_mod p (half_mod p (sub_mod p t.at_point t.at_minus)) b))

  opens-once : (h c : ℕ) (v : Vector) → opens p c b (triple_once p b h c v) ≡ true
  unfolding opens
  opens-once h c v =
      let t = triple_once p b h c v in
      let y = mul_mod p b b in
      let even = even_part h v y in
      let odds = odd_part h v y in
      let plus = cong_trans (evaluate-split p h v b y (cong_sym (mul_cong b b))) (plus-part even odds) in
      let minus = cong_trans (evaluate-split p h v (neg_mod p b) y square_minus) (minus-part even odds) in
      let next = cong_trans (evaluate-next p h v c y) (cong_sym (cong_trans (add_cong even (mul_mod p c odds)) (cong_add (cong_refl even) (mul_cong c odds)))) in
      eq-eqb _ _ (cong_reduced (residue-lt p _) (right-reduced c t) (cong_trans next (cong_sym (right_of c t even odds plus minus))))

  -- THE OPENING EQUATION holds for true folds, every k below n
  pub true_opening : (n : ℕ) (c : ℕ → ℕ) (v : Vector) (k : ℕ) → k < n → opens p (c k) b (triple p n c v b k) ≡ true
  unfolding fold_with
  true_opening n c v k h = rw (size-halves n k h) (opens-once (size n (suc k)) (c k) (fold p c k v))

  -- 2b times the right side needs no division
  right-times : (c : ℕ) (t : Triple)
      → mul_mod p (add_mod p b b) (opening_right p c b t)
      ≡ add_mod p (mul_mod p b (add_mod p t.at_point t.at_minus)) (mul_mod p c (sub_mod p t.at_point t.at_minus))
  unfolding half_mod div_mod
  right-times c t =
      let P = var 0 in
      let M = var 1 in
      let C = var 2 in
      let B = var 3 in
      let H = var 4 in
      let I = var 5 in
      solve_by p (vars (t.at_point ∷ t.at_minus ∷ c ∷ b ∷ half_one p ∷ inverse_mod p b ∷ []))
      (mul (add B B) (add (mul (add P M) H) (mul C (mul (mul (sub P M) H) I))))
      (add (mul B (add P M)) (mul C (sub P M)))
      (given (add (mul B (add P M)) (mul C (sub P M))) (add H H) (num 1) two_halves
      (given (mul (mul C (sub P M)) (add H H)) (mul B I) (num 1) inverse none))
      tt

  double_nonzero : residue p (add_mod p b b) ≡ 0 → ⊥
  double_nonzero z = nonzero (zero_of.residues ∙ residue-zero p)
    where
      zero_of : Cong p b 0
      zero_of =
          solve_from p (vars (b ∷ half_one p ∷ [])) (var 0) (num 0)
          (given (var 1) (add (var 0) (var 0)) (num 0) (record { residues = z ∙ sym (residue-zero p) })
          (given (neg (var 0)) (add (var 1) (var 1)) (num 1) two_halves none))
          tt

  -- THE SAME WITH NO DIVISION: both sides times 2b
  pub opens-multiplied : (c : ℕ) (t : Triple) → t.at_square < p
      → opens p c b t
      ≡ eqb (mul_mod p (add_mod p b b) t.at_square)
      (add_mod p (mul_mod p b (add_mod p t.at_point t.at_minus)) (mul_mod p c (sub_mod p t.at_point t.at_minus)))
  unfolding opens
  opens-multiplied c t reduced =
      let s = t.at_square in
      let r = opening_right p c b t in
      let d = add_mod p b b in
      let back : mul_mod p d s ≡ mul_mod p d r → s ≡ r = λ e. cong_reduced (omega arith) (right-reduced c t) (cancel_factor prime d s r double_nonzero (cong_eq e)) in
      rw (← right-times c t)
      (by_dec (ℕ_discrete s r) (λ e. eq-eqb s r e ∙ sym (eq-eqb (mul_mod p d s) (mul_mod p d r) (ap (mul_mod p d) e)))
      (λ ne. ne_eqb s r ne ∙ sym (ne_eqb (mul_mod p d s) (mul_mod p d r) (λ e. ne (back e)))))
