-- Evaluations by Horner's rule from the last item, gathered as the items of a level complete.
use mathlib.Core.Path.{◌≡◌, sym, ap, ap₂, ◌∙◌}
use Prim.Native.Nat.{ℕ, zero, suc, ◌+◌, ◌-◌, ◌*◌, ◌/◌, ◌^◌, ◌<◌, ◌≤◌}
use native.Mathlib.Nat.{add-zero, mul_assoc, mul-one, zero-mul, pow-suc, pow-zero}
use native.Mathlib.Omega.{arith}
use Rattle.algebra.specs.Mod.{residue, add_mod, mul_mod}
use Rattle.algebra.proofs.Congruence.{cong_add, cong_mul, cong_refl, cong_residue, cong_trans, mul_cong, residue-zero}
use Rattle.algebra.proofs.Laws.{zero-product, zero-sum}
use Rattle.vector.specs.Rounds.{size}
use Rattle.vector.specs.Vector.{Vector, sum}
use Rattle.vector.specs.Fold.{combine, fold}
use Rattle.vector.specs.Opening.{evaluate}
use Rattle.vector.proofs.Sums.{sum_first, sum_same, sum-times, sum-until}
use Rattle.vector.proofs.Folds.{fold-image}
use Rattle.vector.proofs.Counts.{completes_zero}
use Rattle.vector.proofs.Machine.{item_before, gathered}
use Rattle.vector.proofs.StackLaw.{gathered_all}
use Rattle.vector.proofs.Gathering.{level-step, level-law}

-- the item before those of which the value is known
abbrev pub horner_step : ℕ → ℕ → ℕ → ℕ → ℕ
horner_step p x value item = add_mod p item (mul_mod p value x)

-- the last q of the first h items, the first of them on power 0
unfoldable pub horner : ℕ → ℕ → Vector → ℕ → ℕ → ℕ
horner p x v h zero = 0
horner p x v h (suc q) = horner_step p x (horner p x v h q) (v (h - suc q))

-- a zero before zeros
pub horner-zero : (p x : ℕ) → horner_step p x 0 0 ≡ 0
horner-zero p x = rw (zero-product p x, zero-sum p 0) (residue-zero p)

-- a value is that of the first h items
pub evaluate-same : (p h : ℕ) (u v : Vector) (x : ℕ) → ((i : ℕ) → i < h → u i ≡ v i) → evaluate p h u x ≡ evaluate p h v x
evaluate-same p h u v x e = ap (residue p) (sum_same h _ _ (λ i l. rw (e i l)))

-- zeros at the end add nothing
pub evaluate-until : (p m n : ℕ) (v : Vector) (x : ℕ) → m ≤ n → ((i : ℕ) → m ≤ i → i < n → v i ≡ 0) → evaluate p n v x ≡ evaluate p m v x
evaluate-until p m n v x l h = ap (residue p) (sum-until m n (λ i. v i * x ^ i) l (λ i a b. rw (h i a b) (zero-mul (x ^ i))))

module _ (p x : ℕ) (v : Vector) (h : ℕ) where
  step_sum : (s item : ℕ) → horner_step p x (residue p s) item ≡ residue p (item + s * x)
  unfolding add_mod
  step_sum s item = (cong_add (cong_refl item) (cong_trans (mul_cong (residue p s) x) (cong_mul (cong_residue s) (cong_refl x)))).residues

  abbrev part : ℕ → Vector
  part q i = v (h - q + i) * x ^ i

  part-next : (q i : ℕ) → suc q ≤ h → part (suc q) (suc i) ≡ part q i * x
  part-next q i l =
      let e : h - suc q + suc i ≡ h - q + i = omega arith in
      rw (e, pow-suc x i) (sym (mul_assoc (v (h - q + i)) (x ^ i) x))

  part-first : (q : ℕ) → part q 0 ≡ v (h - q)
  part-first q = rw (add-zero (h - q), pow-zero x, mul-one (v (h - q)))

  pub horner-sum : (q : ℕ) → q ≤ h → horner p x v h q ≡ residue p (sum q (λ i. v (h - q + i) * x ^ i))
  unfolding horner sum
  horner-sum zero l = sym (residue-zero p)
  horner-sum (suc q) l =
      ap (λ s. horner_step p x s (v (h - suc q))) (horner-sum q (omega arith)) ∙ step_sum (sum q (part q)) (v (h - suc q))
      ∙ ap (residue p)
      (sym
      (sum_first q (part (suc q))
      ∙ ap₂ ◌+◌ (part-first (suc q)) (sum_same q (λ i. part (suc q) (suc i)) (λ i. part q i * x) (λ i g. part-next q i l) ∙ sum-times q (part q) x)))

  -- all h items: the polynomial's value
  pub horner-end : horner p x v h h ≡ evaluate p h v x
  horner-end =
      horner-sum h (omega arith)
      ∙ ap (residue p) (sum_same h (part h) (λ i. v i * x ^ i) (λ i l. let e : h - h + i ≡ i = omega arith in rw e))

-- A pass that keeps the value of fold l at x: `read g` is the value kept in g, of the vector whose items are the images of v's.
-- `Ok` is what arrivals and pairs keep and the reading relies on.
module _ (p x : ℕ) {A : Type 0} (combine_a : ℕ → A → A → A) (image : A → ℕ)
    (respects : (c : ℕ) (even odd : A) → image (combine_a c even odd) ≡ combine p c (image even) (image odd))
    (c : ℕ → ℕ) (n : ℕ) (v : ℕ → A)
    {M : Type 0} (arrive : ℕ → A → M → M) (emit : A → A → M → M) (Ok : M → Type 0) (l : ℕ) (read : M → ℕ)
    (ok-arrive : (k : ℕ) (a : A) (g : M) → Ok g → Ok (arrive k a g))
    (ok-emit : (even odd : A) (g : M) → Ok g → Ok (emit even odd g))
    (other : (k : ℕ) (a : A) (g : M) → (k ≡ l → ⊥) → Ok g → read (arrive k a g) ≡ read g)
    (unheard : (even odd : A) (g : M) → Ok g → read (emit even odd g) ≡ read g)
    (here : (a : A) (g : M) → Ok g → read (arrive l a g) ≡ horner_step p x (read g) (image a)) where
  abbrev folded : Vector
  folded = fold p c l (λ k. image (v k))

  abbrev Keeps : ℕ → M → Type 0
  Keeps q g = Ok g × (read g ≡ horner p x folded (size n l) q)

  keeps_here : (q : ℕ) (g : M) → q < size n l → Keeps q g → Keeps (suc q) (arrive l (item_before combine_a c n v l q) g)
  unfolding horner
  keeps_here q g h r = (
    ok-arrive l _ g r.0,
    here (item_before combine_a c n v l q) g r.0 ∙ ap₂ (horner_step p x) r.1 (fold-image combine_a (combine p) image respects c v l (size n l - suc q)),
  )

  keeps-other : (k : ℕ) (a : A) (q : ℕ) (g : M) → (k ≡ l → ⊥) → Keeps q g → Keeps q (arrive k a g)
  keeps-other k a q g ne r = (ok-arrive k a g r.0, other k a g ne r.0 ∙ r.1)

  keeps-pair : (even odd : A) (q : ℕ) (g : M) → Keeps q g → Keeps q (emit even odd g)
  keeps-pair even odd q g r = (ok-emit even odd g r.0, unheard even odd g r.0 ∙ r.1)

  -- THE VALUE OF LEVEL l: Horner's rule over the last t / 2^l items of fold l, kept by one more item
  pub horner-step : (i : ℕ) → l ≤ i → (t : ℕ) → t < 2 ^ n → (g : M) → Ok g
      → read g ≡ horner p x (fold p c l (λ k. image (v k))) (size n l) (t / 2 ^ l)
      → read (gathered combine_a c n v arrive emit i 0 t g) ≡ horner p x (fold p c l (λ k. image (v k))) (size n l) (suc t / 2 ^ l)
  horner-step i hl t ht g ok e =
      (level-step combine_a c n v arrive emit l Keeps keeps-other keeps-pair keeps_here l i 0 (omega arith) hl t ht (completes_zero t) g (ok, e)).1

  -- after t items
  pub level-horner : (i : ℕ) → l ≤ i → (g : M) → Ok g → read g ≡ 0 → (t : ℕ) → t ≤ 2 ^ n
      → read (gathered_all combine_a c n v arrive emit i g t) ≡ horner p x (fold p c l (λ k. image (v k))) (size n l) (t / 2 ^ l)
  unfolding horner
  level-horner i hl g ok none t h = (level-law combine_a c n v arrive emit l Keeps keeps-other keeps-pair keeps_here i hl g (ok, none) t h).1

  -- after all N items it is the fold's value at x
  pub level-evaluation : (i : ℕ) → l ≤ i → (g : M) → Ok g → read g ≡ 0
      → read (gathered_all combine_a c n v arrive emit i g (2 ^ n)) ≡ evaluate p (size n l) (fold p c l (λ k. image (v k))) x
  level-evaluation i hl g ok none = level-horner i hl g ok none (2 ^ n) (omega arith) ∙ horner-end p x folded (size n l)
