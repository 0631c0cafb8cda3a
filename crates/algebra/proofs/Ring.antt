-- A decision by computation of the identities of commutative rings, for numbers modulo any p.
-- An expression is the difference of two polynomials, so that nothing here subtracts.
--   solve p env a b tt       : the values of a and b are equal, both being operations
--   solve_cong p env a b tt  : they are congruent
--   solve_from p env a b u tt: they are congruent by a linear combination u of congruences
--   solve_by p env a b u tt: they are equal by it, both being operations
use mathlib.Core.Path.{◌≡◌, refl, sym, ap, ap₂, ◌∙◌}
use mathlib.Core.Bool.{Bool, true, false, ◌&&◌}
use mathlib.Core.List.{List}
use Prim.Native.Nat.{ℕ, zero, ◌+◌, ◌-◌, ◌*◌}
use native.Mathlib.Nat.{add_comm, add_assoc, add-mul, add-zero, mul-add, mul-zero, zero-add}
use native.Mathlib.Omega.{arith}
use lib.ListN.{get_or}
use lib.Dec.{T}
use Rattle.algebra.specs.Mod.{base, residue, add_mod, neg_mod, sub_mod, mul_mod}
use Rattle.algebra.proofs.Congruence.{Cong, cong_refl, cong_sym, cong_trans, cong_eq, cong_add, cong_mul, cong_cancel, add_cong, mul_cong, neg_cong, sub_cong, residue-twice}
use Rattle.algebra.proofs.Polynomial.{Pol, con, val, add_p, mul_p, var_p, eq_p, both, add_p-ok, mul_p-ok, eq_p-ok, var_p-ok}

pub data Expr : Type 0 where
  var : ℕ → Expr
  num : ℕ → Expr
  add : Expr → Expr → Expr
  sub : Expr → Expr → Expr
  mul : Expr → Expr → Expr
  neg : Expr → Expr

abbrev pub vars : List ℕ → ℕ → ℕ
vars l i = get_or l i 0

abbrev pub eval : ℕ → (ℕ → ℕ) → Expr → ℕ
eval p env (var i) = env i
eval p env (num k) = k
eval p env (add a b) = add_mod p (eval p env a) (eval p env b)
eval p env (sub a b) = sub_mod p (eval p env a) (eval p env b)
eval p env (mul a b) = mul_mod p (eval p env a) (eval p env b)
eval p env (neg a) = neg_mod p (eval p env a)

-- plus - minus
pub record Diff : Type 0 where
  pub plus : Pol
  pub minus : Pol

abbrev pub add_d : Diff → Diff → Diff
add_d a b = record { plus = add_p a.plus b.plus; minus = add_p a.minus b.minus }

abbrev pub sub_d : Diff → Diff → Diff
sub_d a b = record { plus = add_p a.plus b.minus; minus = add_p a.minus b.plus }

abbrev pub mul_d : Diff → Diff → Diff
mul_d a b =
    record {
      plus = add_p (mul_p a.plus b.plus) (mul_p a.minus b.minus);
      minus = add_p (mul_p a.plus b.minus) (mul_p a.minus b.plus);
    }

abbrev pub norm : Expr → Diff
norm (var i) = record { plus = var_p i; minus = con zero }
norm (num k) = record { plus = con k; minus = con zero }
norm (add a b) = add_d (norm a) (norm b)
norm (sub a b) = sub_d (norm a) (norm b)
norm (mul a b) = mul_d (norm a) (norm b)
norm (neg a) = record { plus = (norm a).minus; minus = (norm a).plus }

abbrev pub agree : Expr → Expr → Bool
agree a b = eq_p (add_p (norm a).plus (norm b).minus) (add_p (norm b).plus (norm a).minus)

abbrev pub compound : Expr → Bool
compound (var i) = false
compound (num k) = false
compound (add a b) = true
compound (sub a b) = true
compound (mul a b) = true
compound (neg a) = true

expand : (x y m n : ℕ) → x * y + ((x + m) * n + m * (y + n)) ≡ (x + m) * (y + n) + m * n
expand x y m n = simp (add-mul, mul-add) (omega arith)

module _ (p : ℕ) (env : ℕ → ℕ) where
  -- x is the difference d
  abbrev Is : ℕ → Diff → Type 0
  Is x d = Cong p (x + val env 0 d.minus) (val env 0 d.plus)

  regroup : {a b : ℕ} → a ≡ b → {c d : ℕ} → Cong p b c → c ≡ d → Cong p a d
  regroup e c f = cong_trans (cong_eq e) (cong_trans c (cong_eq f))

  add_sound : (x y : ℕ) (a b : Diff) → Is x a → Is y b → Is (x + y) (add_d a b)
  add_sound x y a b u v =
      regroup (omega (arith, add_p-ok env 0 a.minus b.minus)) (cong_add u v) (sym (add_p-ok env 0 a.plus b.plus))

  mul_sound : (x y : ℕ) (a b : Diff) → Is x a → Is y b → Is (x * y) (mul_d a b)
  mul_sound x y a b u v =
      let m = val env 0 a.minus in
      let n = val env 0 b.minus in
      let lo = add_p-ok env 0 (mul_p a.plus b.minus) (mul_p a.minus b.plus) ∙ ap₂ ◌+◌ (mul_p-ok env 0 a.plus b.minus) (mul_p-ok env 0 a.minus b.plus) in
      let hi = add_p-ok env 0 (mul_p a.plus b.plus) (mul_p a.minus b.minus) ∙ ap₂ ◌+◌ (mul_p-ok env 0 a.plus b.plus) (mul_p-ok env 0 a.minus b.minus) in
      regroup (ap (λ w. x * y + w) lo)
      (cong_trans
      (cong_add (cong_refl (x * y)) (cong_add (cong_mul (cong_sym u) (cong_refl n)) (cong_mul (cong_refl m) (cong_sym v))))
      (cong_trans (cong_eq (expand x y m n)) (cong_add (cong_mul u v) (cong_refl (m * n)))))
      (sym hi)

  neg_sound : (x : ℕ) (a : Diff) → Is x a → Cong p (neg_mod p x + val env 0 a.plus) (val env 0 a.minus)
  neg_sound x a u =
      let n = val env 0 a.minus in
      cong_trans (cong_add (cong_refl (neg_mod p x)) (cong_sym u))
      (regroup (sym (add_assoc (neg_mod p x) x n)) (cong_add (neg_cong x) (cong_refl n)) (zero-add n))

  lift : (n : ℕ) {x y m : ℕ} → Cong p x y → Cong p (y + n) m → Cong p (x + n) m
  lift n e u = cong_trans (cong_add e (cong_refl n)) u

  sound : (e : Expr) → Is (eval p env e) (norm e)
  sound (var i) = cong_eq (add-zero (env i) ∙ ap env (sym (zero-add i)) ∙ sym (var_p-ok env 0 i))
  sound (num k) = cong_eq (add-zero k)
  sound (add a b) =
      lift (val env 0 (norm (add a b)).minus) (add_cong (eval p env a) (eval p env b))
      (add_sound (eval p env a) (eval p env b) (norm a) (norm b) (sound a) (sound b))
  sound (sub a b) =
      lift (val env 0 (norm (sub a b)).minus) (sub_cong (eval p env a) (eval p env b))
      (add_sound (eval p env a) (neg_mod p (eval p env b)) (norm a) (norm (neg b)) (sound a) (neg_sound (eval p env b) (norm b) (sound b)))
  sound (mul a b) =
      lift (val env 0 (norm (mul a b)).minus) (mul_cong (eval p env a) (eval p env b))
      (mul_sound (eval p env a) (eval p env b) (norm a) (norm b) (sound a) (sound b))
  sound (neg a) = neg_sound (eval p env a) (norm a) (sound a)

  pub solve_cong : (a b : Expr) → T (agree a b) → Cong p (eval p env a) (eval p env b)
  solve_cong a b t =
      let x = eval p env a in
      let y = eval p env b in
      let m = val env 0 (norm a).minus in
      let n = val env 0 (norm b).minus in
      let same = eq_p-ok env 0 (add_p (norm a).plus (norm b).minus) (add_p (norm b).plus (norm a).minus) t in
      let ea = add_p-ok env 0 (norm a).plus (norm b).minus in
      let eb = add_p-ok env 0 (norm b).plus (norm a).minus in
      cong_cancel (m + n)
      (cong_trans (regroup (sym (add_assoc x m n)) (cong_add (sound a) (cong_refl n)) (sym ea ∙ same ∙ eb))
      (regroup refl (cong_add (cong_sym (sound b)) (cong_refl m)) (omega arith)))

  -- what an operation gives is reduced
  reduced : (e : Expr) → T (compound e) → residue p (eval p env e) ≡ eval p env e
  unfolding add_mod sub_mod mul_mod neg_mod
  reduced (var i) t = absurd t
  reduced (num k) t = absurd t
  reduced (add a b) t = residue-twice p (eval p env a + eval p env b)
  reduced (sub a b) t = residue-twice p (eval p env a + (base p - residue p (eval p env b)))
  reduced (mul a b) t = residue-twice p (eval p env a * eval p env b)
  reduced (neg a) t = residue-twice p (base p - residue p (eval p env a))

  pub solve : (a b : Expr) → T (compound a && compound b && agree a b) → eval p env a ≡ eval p env b
  solve a b t =
      let t1 = both (compound a && compound b) (agree a b) t in
      let t2 = both (compound a) (compound b) t1.0 in
      sym (reduced a t2.0) ∙ (solve_cong a b t1.1).residues ∙ reduced b t2.1

-- a combination of congruences: the sum of k (l - r)
pub data Uses (p : ℕ) (env : ℕ → ℕ) : Expr → Type 0 where
  none : Uses p env (num 0)
  given : {rest : Expr} (k l r : Expr) → Cong p (eval p env l) (eval p env r) → Uses p env rest → Uses p env (add (mul k (sub l r)) rest)

module _ (p : ℕ) (env : ℕ → ℕ) where
  difference_zero : {x y : ℕ} → Cong p x y → Cong p (sub_mod p x y) 0
  difference_zero {x} {y} e =
      cong_trans (sub_cong x y)
      (cong_trans (cong_add e (cong_refl (neg_mod p y))) (cong_trans (cong_eq (add_comm y (neg_mod p y))) (neg_cong y)))

  uses_zero : {s : Expr} → Uses p env s → Cong p (eval p env s) 0
  uses_zero none = cong_refl 0
  uses_zero (given {rest = rest} k l r e u) =
      cong_trans (add_cong (mul_mod p (eval p env k) (sub_mod p (eval p env l) (eval p env r))) (eval p env rest))
      (cong_add
      (cong_trans (mul_cong (eval p env k) (sub_mod p (eval p env l) (eval p env r)))
      (cong_trans (cong_mul (cong_refl (eval p env k)) (difference_zero e)) (cong_eq (mul-zero (eval p env k)))))
      (uses_zero u))

  -- a - b is the combination
  pub solve_from : (a b : Expr) {s : Expr} → Uses p env s → T (agree (sub a b) s) → Cong p (eval p env a) (eval p env b)
  solve_from a b {s} u t =
      let y = eval p env b in
      cong_cancel (neg_mod p y)
      (cong_trans (cong_sym (sub_cong (eval p env a) y))
      (cong_trans (solve_cong p env (sub a b) s t)
      (cong_trans (uses_zero u)
      (cong_sym (cong_trans (cong_eq (add_comm y (neg_mod p y))) (neg_cong y))))))

  pub solve_by : (a b : Expr) {s : Expr} → Uses p env s → T (compound a && compound b && agree (sub a b) s) → eval p env a ≡ eval p env b
  solve_by a b {s} u t =
      let t1 = both (compound a && compound b) (agree (sub a b) s) t in
      let t2 = both (compound a) (compound b) t1.0 in
      sym (reduced p env a t2.0) ∙ (solve_from a b u t1.1).residues ∙ reduced p env b t2.1
