-- Completeness of a round: even + odd is the scalar product, and even + cross·c + odd·c² that of the folded vectors.
use mathlib.Core.Path.{◌≡◌, refl, sym, ap, ◌∙◌}
use Prim.Native.Nat.{ℕ, zero, suc, ◌+◌, ◌*◌, ◌^◌, ◌<◌, ◌≤◌}
use native.Mathlib.Nat.{zero-add}
use native.Mathlib.Omega.{arith}
use borrow.Author.Tests.{le-ltb, lt-ltb}
use Rattle.algebra.specs.Mod.{residue, add_mod, mul_mod}
use Rattle.algebra.proofs.Congruence.{Cong, cong_refl, cong_sym, cong_trans, cong_eq, cong_residue, cong_add, cong_mul, add_cong, mul_cong}
use Rattle.vector.specs.Rounds.{size}
use Rattle.vector.specs.Vector.{Vector, sum, dot, padded}
use Rattle.vector.specs.Fold.{fold_once_with, fold_with, combine, fold, end_value}
use Rattle.vector.specs.Message.{even_sum, cross_sum, odd_sum, message_of, message, passes, next_claim}
use Rattle.vector.proofs.Sums.{sum_same, sum-until, sum-halves, sum-cong}
use Rattle.vector.proofs.Rounds.{size-all, size-last, size-halves}

-- a fold with no reduction
abbrev exact_fold : ℕ → Vector → Vector
exact_fold c v i = v (2 * i) + c * v (2 * i + 1)

exact_claim : (h c : ℕ) (f g : Vector)
    → sum h (λ i. exact_fold c f i * exact_fold c g i) ≡ even_sum h f g + cross_sum h f g * c + odd_sum h f g * (c * c)
unfolding sum
exact_claim zero c f g = omega arith
exact_claim (suc h) c f g = omega (arith, exact_claim h c f g)

module _ (p : ℕ) where
  pub combine-cong : (c even odd : ℕ) → Cong p (combine p c even odd) (even + c * odd)
  combine-cong c even odd = cong_trans (add_cong even (mul_mod p c odd)) (cong_add (cong_refl even) (mul_cong c odd))

  pub even_odd : (h : ℕ) (f g : Vector) → passes p (message_of p h f g) ≡ dot p (2 * h) f g
  unfolding add_mod
  even_odd h f g =
      (cong_trans (cong_add (cong_residue (even_sum h f g)) (cong_residue (odd_sum h f g)))
      (cong_eq (sym (sum-halves h (λ i. f i * g i))))).residues

  pub claim-next : (h c : ℕ) (f g : Vector)
      → next_claim p (message_of p h f g) c ≡ dot p h (fold_once_with (combine p) c f) (fold_once_with (combine p) c g)
  unfolding add_mod
  claim-next h c f g =
      (cong_trans
      (cong_add
      (cong_trans (cong_residue _)
      (cong_add (cong_residue (even_sum h f g)) (cong_trans (mul_cong _ c) (cong_mul (cong_residue (cross_sum h f g)) (cong_refl c)))))
      (cong_trans (mul_cong _ (mul_mod p c c)) (cong_mul (cong_residue (odd_sum h f g)) (mul_cong c c))))
      (cong_trans (cong_eq (sym (exact_claim h c f g)))
      (sum-cong h _ _
      (λ i l.
      cong_sym (cong_mul (combine-cong c (f (2 * i)) (f (2 * i + 1))) (combine-cong c (g (2 * i)) (g (2 * i + 1)))))))
      ).residues

  -- a message is of the first 2h items
  pub message-same : (h : ℕ) (f f' g g' : Vector) → ((i : ℕ) → i < 2 * h → f i ≡ f' i) → ((i : ℕ) → i < 2 * h → g i ≡ g' i)
      → message_of p h f g ≡ message_of p h f' g'
  message-same h f f' g g' ef eg =
      let even : even_sum h f g ≡ even_sum h f' g' = sum_same h _ _ (λ k l. rw (ef (2 * k) (omega arith), eg (2 * k) (omega arith))) in
      let cross : cross_sum h f g ≡ cross_sum h f' g' = sum_same h _ _
      (λ k l. rw (ef (2 * k) (omega arith), eg (2 * k) (omega arith), ef (2 * k + 1) (omega arith), eg (2 * k + 1) (omega arith))) in
      let odd : odd_sum h f g ≡ odd_sum h f' g' = sum_same h _ _ (λ k l. rw (ef (2 * k + 1) (omega arith), eg (2 * k + 1) (omega arith))) in
      rw (even, cross, odd)

  -- padding adds nothing to a scalar product
  pub dot-padded : (items n : ℕ) → items ≤ n → (f g : Vector) → dot p n (padded items f) (padded items g) ≡ dot p items f g
  dot-padded items n h f g =
      ap (residue p)
      (sum-until items n (λ i. padded items f i * padded items g i) h (λ i l u. rw (le-ltb i items l) refl)
      ∙ sum_same items _ _ (λ i l. rw (lt-ltb i items l) refl))

  module _ (n : ℕ) (c : ℕ → ℕ) (f g : Vector) where
    -- a message of the trip passes at the scalar product of fold i
    pub message-passes : (i : ℕ) → i < n → passes p (message p n c f g i) ≡ dot p (size n i) (fold p c i f) (fold p c i g)
    message-passes i h = rw (size-halves n i h) (even_odd (size n (suc i)) (fold p c i f) (fold p c i g))

    -- and its next claim is that of fold i + 1
    pub message-next : (i : ℕ)
        → next_claim p (message p n c f g i) (c i) ≡ dot p (size n (suc i)) (fold p c (suc i) f) (fold p c (suc i) g)
    unfolding fold_with
    message-next i = claim-next (size n (suc i)) (c i) (fold p c i f) (fold p c i g)

    -- before the first round the claim is the scalar product of the vectors
    pub first-claim : dot p (size n 0) (fold p c 0 f) (fold p c 0 g) ≡ dot p (2 ^ n) f g
    unfolding fold_with
    first-claim = rw (size-all n)

    one_product : dot p 1 (fold p c n f) (fold p c n g) ≡ mul_mod p (end_value p c n f) (end_value p c n g)
    unfolding sum mul_mod
    one_product = ap (residue p) (zero-add (end_value p c n f * end_value p c n g))

    -- after the last it is the product of the end values
    pub last-claim : dot p (size n n) (fold p c n f) (fold p c n g) ≡ mul_mod p (end_value p c n f) (end_value p c n g)
    last-claim = rw (size-last n) one_product
