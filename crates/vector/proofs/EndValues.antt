-- Fold n in one pass, first item to last: the sum of the items times the products of the challenges over the ones of their numbers.
use mathlib.Core.Path.{◌≡◌, refl, sym, ap, ◌∙◌, fun_ext}
use mathlib.Core.Bool.{Bool, true, false, cond}
use mathlib.Core.List.{List, []}
use Prim.Native.Nat.{ℕ, zero, suc, ◌+◌, ◌*◌, ◌^◌, ◌<◌, ◌≤◌}
use native.Mathlib.Nat.{mul_assoc, mul_comm, mul-one, pow-suc, zero-add, zero-mul}
use native.Mathlib.Omega.{arith}
use lib.Dec.{ltb}
use lib.ListN.{length}
use borrow.Author.Tests.{ltb-true, lt-ltb, le-ltb}
use Rattle.algebra.specs.Mod.{residue, add_mod, mul_mod}
use Rattle.algebra.proofs.Congruence.{Cong, cong_refl, cong_sym, cong_trans, cong_eq, cong_add, cong_mul, cong_residue, mul_cong, residue-twice, residue-zero}
use Rattle.algebra.proofs.Laws.{zero-product}
use Rattle.vector.specs.Vector.{Vector, at, sum, padded, weight, twisted}
use Rattle.vector.specs.Fold.{fold_with, fold, end_value}
use Rattle.vector.proofs.Sums.{sum_same, sum-append, sum-times, sum-until, sum-cong, running-product}
use Rattle.vector.proofs.Folds.{fold-reduced, fold-once_reduced}
use Rattle.vector.proofs.Weights.{weight-low, weight-high}
use Rattle.vector.proofs.Messages.{combine-cong}

module _ (p : ℕ) (c : ℕ → ℕ) where
  -- the items of block i of 2^j items, each times its weight
  abbrev pub block_sum : ℕ → Vector → ℕ → ℕ
  block_sum j v i = sum (2 ^ j) (λ r. v (i * 2 ^ j + r) * weight p c j r)

  two_blocks : (j : ℕ) (u : Vector) → sum (2 ^ suc j) u ≡ sum (2 ^ j) u + sum (2 ^ j) (λ r. u (2 ^ j + r))
  two_blocks j u = let e : 2 ^ suc j ≡ 2 ^ j + 2 ^ j = omega arith in ap (λ m. sum m u) e ∙ sum-append (2 ^ j) (2 ^ j) u

  low_half : (j : ℕ) (v : Vector) (i : ℕ)
      → Cong p (sum (2 ^ j) (λ r. v (i * 2 ^ suc j + r) * weight p c (suc j) r)) (block_sum j v (2 * i))
  low_half j v i =
      cong_eq
      (sum_same (2 ^ j) _ _
      (λ r h.
      let e : i * (2 ^ j * 2) + r ≡ 2 * i * 2 ^ j + r = omega arith in
      rw (pow-suc 2 j, e, weight-low p c j r h)))

  high_half : (j : ℕ) (v : Vector) (i : ℕ)
      → Cong p (sum (2 ^ j) (λ r. v (i * 2 ^ suc j + (2 ^ j + r)) * weight p c (suc j) (2 ^ j + r))) (c j * block_sum j v (2 * i + 1))
  high_half j v i =
      cong_trans
      (sum-cong (2 ^ j) _ (λ r. v ((2 * i + 1) * 2 ^ j + r) * weight p c j r * c j)
      (λ r h.
      let e : i * (2 ^ j * 2) + (2 ^ j + r) ≡ (2 * i + 1) * 2 ^ j + r = omega arith in
      rw (pow-suc 2 j, e, weight-high p c j r h)
      (cong_trans (cong_mul (cong_refl _) (mul_cong (weight p c j r) (c j))) (cong_eq (sym (mul_assoc _ _ _))))))
      (cong_eq (sum-times (2 ^ j) (λ r. v ((2 * i + 1) * 2 ^ j + r) * weight p c j r) (c j) ∙ mul_comm _ (c j)))

  -- item i of fold j is the weighted sum of its 2^j items
  pub fold-sum : (j : ℕ) (v : Vector) (i : ℕ) → Cong p (fold p c j v i) (block_sum j v i)
  unfolding fold_with sum weight
  fold-sum zero v i =
      let e : i * 1 + 0 ≡ i = omega arith in
      rw e
      (cong_sym
      (cong_trans (cong_eq (zero-add (v i * residue p 1)))
      (cong_trans (cong_mul (cong_refl (v i)) (cong_residue 1)) (cong_eq (mul-one (v i))))))
  fold-sum (suc j) v i =
      cong_trans (combine-cong p (c j) (fold p c j v (2 * i)) (fold p c j v (2 * i + 1)))
      (cong_trans (cong_add (fold-sum j v (2 * i)) (cong_mul (cong_refl (c j)) (fold-sum j v (2 * i + 1))))
      (cong_sym (cong_trans (cong_eq (two_blocks j _)) (cong_add (low_half j v i) (high_half j v i)))))

  -- the running sum of one pass, first item to last, after m items
  abbrev pub weighted : ℕ → Vector → ℕ → ℕ
  weighted n v m = residue p (sum m (λ i. v i * weight p c n i))

  pub weighted-step : (n : ℕ) (v : Vector) (m : ℕ) → add_mod p (weighted n v m) (mul_mod p (v m) (weight p c n m)) ≡ weighted n v (suc m)
  unfolding sum
  weighted-step n v m = running-product p (sum m (λ i. v i * weight p c n i)) (v m) (weight p c n m)

  -- FOLD n IN ONE PASS
  pub end_sum : (n : ℕ) (v : Vector) → Cong p (end_value p c n v) (sum (2 ^ n) (λ i. v i * weight p c n i))
  end_sum n v =
      cong_trans (fold-sum n v 0)
      (cong_eq (sum_same (2 ^ n) _ _ (λ i h. let e : 0 * 2 ^ n + i ≡ i = omega arith in rw e)))

  -- an equation where the end value is reduced: there is a round, or the items are (Folds)
  pub end_weighted : (n : ℕ) (v : Vector) → residue p (end_value p c n v) ≡ end_value p c n v → end_value p c n v ≡ weighted n v (2 ^ n)
  end_weighted n v e = sym e ∙ (end_sum n v).residues

  -- padding adds nothing: the pass ends with the last of the items
  pub padded-sum : (n items : ℕ) (v : Vector) → items ≤ 2 ^ n
      → sum (2 ^ n) (λ i. padded items v i * weight p c n i) ≡ sum items (λ i. v i * weight p c n i)
  padded-sum n items v h =
      sum-until items (2 ^ n) (λ i. padded items v i * weight p c n i) h
      (λ i l u. rw (le-ltb i items l) (zero-mul (weight p c n i)))
      ∙ sum_same items _ _ (λ i l. rw (lt-ltb i items l))

  padded-reduced : (items : ℕ) (v : Vector) → ((i : ℕ) → i < items → residue p (v i) ≡ v i) → (i : ℕ) → residue p (padded items v i) ≡ padded items v i
  padded-reduced items v h i = by (ltb i items) refl
    where
      by : (b : Bool) → ltb i items ≡ b → residue p (cond b (v i) 0) ≡ cond b (v i) 0
      by true e = h i (ltb-true i items e)
      by false e = residue-zero p

  -- THE VERIFIER'S END VALUE: of reduced items, padding left out
  pub end_padded : (n items : ℕ) (v : Vector) → items ≤ 2 ^ n → ((i : ℕ) → i < items → residue p (v i) ≡ v i)
      → end_value p c n (padded items v) ≡ weighted n v items
  end_padded n items v h e =
      end_weighted n (padded items v) (fold-reduced p c (padded items v) (padded-reduced items v e) n 0) ∙ ap (residue p) (padded-sum n items v h)

  -- or of any items, where there is a round
  pub end_folded : (n items : ℕ) (v : Vector) → items ≤ 2 ^ n → 0 < n → end_value p c n (padded items v) ≡ weighted n v items
  end_folded n items v h l =
      end_weighted n (padded items v) (fold-once_reduced p c (padded items v) n l 0) ∙ ap (residue p) (padded-sum n items v h)

  -- with twists: item i of f times the twists over the ones of i times the challenges over the ones of i
  pub end_twisted : (n : ℕ) (twists : List ℕ) (f : Vector)
      → Cong p (end_value p c n (twisted p twists f)) (sum (2 ^ n) (λ i. f i * weight p (at twists) (length twists) i * weight p c n i))
  end_twisted n twists f =
      cong_trans (end_sum n (twisted p twists f))
      (sum-cong (2 ^ n) _ _ (λ i h. cong_mul (mul_cong (f i) (weight p (at twists) (length twists) i)) (cong_refl (weight p c n i))))

-- padding and twists in either order
pub twisted-padded : (p : ℕ) (twists : List ℕ) (items : ℕ) (f : Vector) → twisted p twists (padded items f) ≡ padded items (twisted p twists f)
twisted-padded p twists items f = fun_ext (λ i. by i (ltb i items))
  where
    by : (i : ℕ) (b : Bool)
        → mul_mod p (cond b (f i) 0) (weight p (at twists) (length twists) i) ≡ cond b (mul_mod p (f i) (weight p (at twists) (length twists) i)) 0
    by i true = refl
    by i false = zero-product p (weight p (at twists) (length twists) i)

-- with no twists the items stay as they are, reduced
pub untwisted : (p : ℕ) (f : Vector) (i : ℕ) → twisted p [] f i ≡ residue p (f i)
unfolding weight mul_mod
untwisted p f i = (cong_trans (cong_mul (cong_refl (f i)) (cong_residue 1)) (cong_eq (mul-one (f i)))).residues

pub twisted-reduced : (p : ℕ) (twists : List ℕ) (f : Vector) (i : ℕ) → residue p (twisted p twists f i) ≡ twisted p twists f i
unfolding mul_mod
twisted-reduced p twists f i = residue-twice p _
