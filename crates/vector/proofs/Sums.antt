-- Finite sums: of equal items, of congruent items, split by place and by parity.
use mathlib.Core.Path.{◌≡◌, refl, ap, ◌∙◌}
use Prim.Native.Nat.{ℕ, zero, suc, ◌+◌, ◌-◌, ◌*◌, ◌<◌, ◌≤◌}
use native.Mathlib.Numerals.{add-one}
use native.Mathlib.Nat.{sub_self, sub-zero, add-zero}
use native.Mathlib.Omega.{arith}
use Rattle.algebra.specs.Mod.{residue, add_mod, mul_mod}
use Rattle.algebra.proofs.Congruence.{Cong, cong_refl, cong_residue, cong_add, cong_mul, mul_cong}
use Rattle.vector.specs.Vector.{Vector, sum, dot}

pub two_suc : (h : ℕ) → 2 * suc h ≡ suc (suc (2 * h))
two_suc h = omega arith

pub sum_same : (n : ℕ) (u v : Vector) → ((i : ℕ) → i < n → u i ≡ v i) → sum n u ≡ sum n v
unfolding sum
sum_same zero u v h = refl
sum_same (suc n) u v h = rw (h n (omega arith), sum_same n u v (λ i l. h i (omega arith)))

pub sum_first : (n : ℕ) (v : Vector) → sum (suc n) v ≡ v 0 + sum n (λ i. v (suc i))
unfolding sum
sum_first zero v = omega arith
sum_first (suc n) v = omega (arith, sum_first n v)

pub sum-times : (n : ℕ) (v : Vector) (x : ℕ) → sum n (λ i. v i * x) ≡ sum n v * x
unfolding sum
sum-times zero v x = omega arith
sum-times (suc n) v x = omega (arith, sum-times n v x)

pub sum-plus : (n : ℕ) (u v : Vector) → sum n (λ i. u i + v i) ≡ sum n u + sum n v
unfolding sum
sum-plus zero u v = refl
sum-plus (suc n) u v = omega (arith, sum-plus n u v)

-- the items of even number and those of odd number
pub sum-halves : (h : ℕ) (v : Vector) → sum (2 * h) v ≡ sum h (λ i. v (2 * i)) + sum h (λ i. v (2 * i + 1))
unfolding sum
sum-halves zero v = refl
sum-halves (suc h) v = rw (two_suc h) (rw (add-one (2 * h)) (omega (arith, sum-halves h v)))

-- the first m items, and those after them
pub sum-append : (m n : ℕ) (v : Vector) → sum (m + n) v ≡ sum m v + sum n (λ i. v (m + i))
unfolding sum
sum-append m zero v = rw (add-zero m) (omega arith)
sum-append m (suc n) v = let e : m + suc n ≡ suc (m + n) = omega arith in rw e (omega (arith, sum-append m n v))

pub sum-zero : (n : ℕ) (v : Vector) → ((i : ℕ) → i < n → v i ≡ 0) → sum n v ≡ 0
unfolding sum
sum-zero zero v h = refl
sum-zero (suc n) v h = rw (h n (omega arith), sum-zero n v (λ i l. h i (omega arith)))

-- zeros at the end add nothing
pub sum-until : (m n : ℕ) (v : Vector) → m ≤ n → ((i : ℕ) → m ≤ i → i < n → v i ≡ 0) → sum n v ≡ sum m v
sum-until m n v l h =
    let e : n ≡ m + (n - m) = omega arith in
    ap (λ k. sum k v) e ∙ sum-append m (n - m) v
    ∙ ap (λ s. sum m v + s) (sum-zero (n - m) (λ i. v (m + i)) (λ i g. h (m + i) (omega arith) (omega arith)))
    ∙ add-zero (sum m v)

-- the sum of the last q of the first h items
unfoldable pub last_sum : Vector → ℕ → ℕ → ℕ
last_sum v h zero = 0
last_sum v h (suc q) = last_sum v h q + v (h - suc q)

last_rest : (v : Vector) (h q : ℕ) → q ≤ h → last_sum v h q + sum (h - q) v ≡ sum h v
unfolding sum last_sum
last_rest v h zero l = rw (sub-zero h) (omega arith)
last_rest v h (suc q) l =
    let e : h - q ≡ suc (h - suc q) = omega arith in
    let r = rw e at (last_rest v h q (omega arith)) in
    omega arith

pub last_sum_lem : (v : Vector) (h : ℕ) → last_sum v h h ≡ sum h v
unfolding sum
last_sum_lem v h = let r = rw (sub_self h) at (last_rest v h h (omega arith)) in omega arith

module _ {p : ℕ} where
  pub sum-cong : (n : ℕ) (u v : Vector) → ((i : ℕ) → i < n → Cong p (u i) (v i)) → Cong p (sum n u) (sum n v)
  unfolding sum
  sum-cong zero u v h = cong_refl 0
  sum-cong (suc n) u v h = cong_add (sum-cong n u v (λ i l. h i (omega arith))) (h n (omega arith))

  pub dot-cong : (n : ℕ) (f f' g g' : Vector) → ((i : ℕ) → i < n → Cong p (f i) (f' i)) → ((i : ℕ) → i < n → Cong p (g i) (g' i))
      → dot p n f g ≡ dot p n f' g'
  dot-cong n f f' g g' hf hg = (sum-cong n (λ i. f i * g i) (λ i. f' i * g' i) (λ i l. cong_mul (hf i l) (hg i l))).residues

-- one more product on a running sum
pub running-product : (p x a b : ℕ) → add_mod p (residue p x) (mul_mod p a b) ≡ residue p (x + a * b)
unfolding add_mod
running-product p x a b = (cong_add (cong_residue x) (mul_cong a b)).residues
