-- What a small pass has when all N items were taken: message i, or fold n.
use mathlib.Core.Path.{◌≡◌, refl, ap, ap₂, ◌∙◌}
use mathlib.Core.List.{[], ◌∷◌}
use Prim.Native.Nat.{ℕ, zero, suc, ◌+◌, ◌*◌, ◌/◌, ◌^◌, ◌<◌, ◌≤◌}
use native.Mathlib.Nat.{add_assoc}
use native.Mathlib.Omega.{arith}
use Rattle.algebra.specs.Mod.{residue, add_mod, mul_mod}
use Rattle.algebra.proofs.Congruence.{residue-zero}
use Rattle.vector.specs.Rounds.{size}
use Rattle.vector.specs.Vector.{Vector}
use Rattle.vector.specs.Fold.{fold_with, fold, Pair, combine_pair, beside}
use Rattle.vector.specs.Message.{Message, message_of, message}
use Rattle.vector.specs.Stack.{backwards}
use Rattle.vector.proofs.Sums.{last_sum, last_sum_lem, running-product}
use Rattle.vector.proofs.Folds.{fold-beside}
use Rattle.vector.proofs.StackLaw.{machine, gathered_all, stack_law, entries-empty, entries-end}
use Rattle.vector.proofs.Gathering.{last_pairs, sums_law}

abbrev pub no_message : Message
no_message = record { even = 0; cross = 0; odd = 0 }

-- one more pair in the three sums: item 2k and item 2k + 1 of both vectors
abbrev pub add_pair : ℕ → Pair → Pair → Message → Message
add_pair p a b m =
    record {
      even = add_mod p m.even (mul_mod p a.0 a.1);
      cross = add_mod p (add_mod p m.cross (mul_mod p a.0 b.1)) (mul_mod p b.0 a.1);
      odd = add_mod p m.odd (mul_mod p b.0 b.1);
    }

module _ (p : ℕ) (f g : Vector) (h : ℕ) where
  -- the sums of the last q of the first h pairs
  abbrev pub last_message : ℕ → Message
  last_message q =
      record {
        even = residue p (last_sum (λ k. f (2 * k) * g (2 * k)) h q);
        cross = residue p (last_sum (λ k. f (2 * k) * g (2 * k + 1) + f (2 * k + 1) * g (2 * k)) h q);
        odd = residue p (last_sum (λ k. f (2 * k + 1) * g (2 * k + 1)) h q);
      }

  pub last-message : (q : ℕ) → last_pairs (add_pair p) (beside f g) h no_message q ≡ last_message q
  unfolding last_pairs last_sum
  last-message zero = rw (residue-zero p)
  last-message (suc q) =
      rw (last-message q, running-product p _ _ _, running-product p _ _ _, running-product p _ _ _, running-product p _ _ _, add_assoc _ _ _)

  pub whole-message : last_message h ≡ message_of p h f g
  whole-message = rw (last_sum_lem _ h, last_sum_lem _ h, last_sum_lem _ h)

module _ (p n : ℕ) (c : ℕ → ℕ) (f g : Vector) {M : Type 0} (arrive : ℕ → Pair → M → M) (emit : Pair → Pair → M → M) (part : M → Message)
    (quiet : (k : ℕ) (a : Pair) (m : M) → part (arrive k a m) ≡ part m)
    (heard : (even odd : Pair) (m : M) → part (emit even odd m) ≡ add_pair p even odd (part m))
    (m : M) (none : part m ≡ no_message) (i : ℕ) (hi : i < n) where
  -- "the sums are those of the last t/2^(i+1) pairs" of fold i
  pub pass-sums : (t : ℕ) → t ≤ 2 ^ n
      → part (gathered_all (combine_pair p) c n (beside f g) arrive emit i m t) ≡ last_message p (fold p c i f) (fold p c i g) (size n (suc i)) (t / 2 ^ suc i)
  pass-sums t h =
      sums_law (combine_pair p) c n (beside f g) arrive emit (add_pair p) part quiet heard i hi no_message m none t h
      ∙ ap (λ v. last_pairs (add_pair p) v (size n (suc i)) no_message (t / 2 ^ suc i)) (fold-beside p c f g i)
      ∙ last-message p (fold p c i f) (fold p c i g) (size n (suc i)) (t / 2 ^ suc i)

  pub pass-message : part (gathered_all (combine_pair p) c n (beside f g) arrive emit i m (2 ^ n)) ≡ message p n c f g i
  pass-message = pass-sums (2 ^ n) (omega arith) ∙ whole-message p (fold p c i f) (fold p c i g) (size n (suc i))

-- A PASS FOR ROUND i, whole: the stack is empty and the sums are message i
pub round_pass : (p n : ℕ) (c : ℕ → ℕ) (f g : Vector) (i : ℕ) → i < n
    → machine (combine_pair p) (λ k a m. m) (add_pair p) c i (backwards (2 ^ n) (beside f g)) no_message (2 ^ n) ≡ ([], message p n c f g i)
round_pass p n c f g i h =
    stack_law (combine_pair p) c n (beside f g) (λ k a m. m) (add_pair p) i (omega arith) no_message (2 ^ n) (omega arith)
    ∙ ap₂ (λ st m. (st, m)) (entries-empty (combine_pair p) c n (beside f g) i h)
    (pass-message p n c f g (λ k a m. m) (add_pair p) (λ m. m) (λ k a m. refl) (λ even odd m. refl) no_message refl i h)

-- A PASS FOR THE ENDS OR OPENINGS, whole: the stack has one entry, fold n
pub ends_pass : {A M : Type 0} (combine : ℕ → A → A → A) (arrive : ℕ → A → M → M) (emit : A → A → M → M) (n : ℕ) (c : ℕ → ℕ) (v : ℕ → A) (m : M)
    → (machine combine arrive emit c n (backwards (2 ^ n) v) m (2 ^ n)).0 ≡ (n, fold_with combine c n v 0) ∷ []
ends_pass combine arrive emit n c v m =
    ap (λ r. r.0) (stack_law combine c n v arrive emit n (omega arith) m (2 ^ n) (omega arith)) ∙ entries-end combine c n v
