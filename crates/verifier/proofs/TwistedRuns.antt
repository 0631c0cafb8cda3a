-- Demand 2 for twisted runs: the same, with the true end value of the padded and twisted f.
use mathlib.Core.Path.{◌≡◌, refl, sym, ap, ◌∙◌}
use mathlib.Core.Bool.{true}
use mathlib.Core.List.{List}
use Prim.Native.Nat.{ℕ, ◌*◌, ◌^◌, ◌<◌}
use native.Mathlib.Omega.{arith}
use borrow.Author.Tests.{lt-ltb}
use Rattle.algebra.specs.Mod.{mul_mod}
use Rattle.algebra.proofs.Congruence.{base-of, residue-lt, residue-small}
use Rattle.refusal.specs.Outcome.{answered}
use Rattle.field.specs.Number.{is_reduced}
use Rattle.vector.specs.Rounds.{rounds_of}
use Rattle.vector.specs.Vector.{Vector, at, sum, dot, weight, padded, twisted}
use Rattle.vector.specs.Fold.{end_value}
use Rattle.vector.specs.Message.{Message}
use Rattle.vector.specs.Message as vector
use Rattle.vector.specs.Slice.{fifteen}
use Rattle.vector.proofs.Overwrite.{fifteen-at}
use Rattle.vector.proofs.Agreement.{fifteen-weight}
use Rattle.vector.proofs.EndValues.{twisted-padded, twisted-reduced}
use Rattle.item.specs.Start.{count_fits, list_fits, twisted_start}
use Rattle.item.proofs.PartsRows.{numbers-taken}
use Rattle.verifier.specs.declared.Verifier.{Verifier}
use Rattle.verifier.specs.Records.{leaves, yes}
use Rattle.verifier.specs.Starts.{fresh_verifier, twisted_verifier}
use Rattle.verifier.specs.Sums.{entering}
use Rattle.verifier.specs.Claims.{closed_with}
use Rattle.verifier.specs.Calls.{close_claim, verdict}
use Rattle.verifier.specs.Trips.{after_calls, given_items, number_items, messages, verdict_of}
use Rattle.verifier.proofs.EndSums.{state, few}
use Rattle.verifier.proofs.Verdicts.{true_messages}
use Rattle.verifier.proofs.Runs.{AllReduced, list_length, Run, reaches, ready-open, run_ends, run-verdict, claim-next, message-reduced}

module _ (p items : ℕ) (vs cs : List ℕ) (f g : Vector) where
  abbrev pub after_twisted : Verifier
  after_twisted = after_calls (given_items p (number_items f g)) (twisted_verifier items vs cs) items

  -- padded, then "first multiplied by the product of those v_k with b_k = 1"
  abbrev pub twisted_vector : Vector
  twisted_vector = twisted p vs (padded items f)

  module _ (count : count_fits items ≡ true) (twist-list : list_fits p (rounds_of items) vs ≡ true) (list : list_fits p (rounds_of items) cs ≡ true)
      (field-f : (i : ℕ) → i < items → f i < p) (field-g : (i : ℕ) → i < items → g i < p) where
    abbrev kept_challenges : List ℕ
    kept_challenges = fifteen (rounds_of items) cs

    abbrev twisted_state : ℕ → Verifier
    twisted_state = state p (twisted_start items vs) (number_items f g) kept_challenges

    twisted-same : (i : ℕ) → i < items → entering p (twisted_start items vs) i (f i) ≡ twisted p vs f i
    unfolding entering
    twisted-same i h =
        let long = list_length p (rounds_of items) vs twist-list in
        ap (mul_mod p (f i))
        (fifteen-weight p (rounds_of items) vs i (few items count) (omega arith) ∙ ap (λ k. weight p (at vs) k i) (sym long))

    abbrev twisted-run : Run p
    twisted-run =
        record {
          start = twisted_start items vs;
          known = refl;
          count = count;
          own = refl;
          challenges = kept_challenges;
          c = at cs;
          agree = fifteen-at (rounds_of items) cs (few items count) (omega (arith, list_length p (rounds_of items) cs list));
          given = number_items f g;
          fits =
              λ i h.
              numbers-taken p (twisted_start items vs) i (f i) (g i) refl (lt-ltb (f i) p (field-f i h)) (lt-ltb (g i) p (field-g i h));
          F = twisted p vs f;
          same = twisted-same;
          reduced_f = λ i h. twisted-reduced p vs f i;
          reduced_g = λ i h. residue-small p (g i) (omega (arith, field-g i h));
        }

    twisted-end : end_value p (at cs) (rounds_of items) (padded items (twisted p vs f)) ≡ end_value p (at cs) (rounds_of items) twisted_vector
    twisted-end = ap (end_value p (at cs) (rounds_of items)) (sym (twisted-padded p vs items f))

    -- (a)
    pub twisted-ends :
        (after_twisted.fsum ≡ end_value p (at cs) (rounds_of items) twisted_vector)
        × (after_twisted.gsum ≡ end_value p (at cs) (rounds_of items) (padded items g))
    twisted-ends = ((run_ends p twisted-run).0 ∙ twisted-end, (run_ends p twisted-run).1)

    twisted-close : (claim : ℕ) → is_reduced p claim ≡ true
        → (leaves after_twisted (close_claim p after_twisted claim)).verifier ≡ closed_with (twisted_state items) claim
    unfolding fresh_verifier state
    twisted-close claim h =
        ap (λ v. (leaves v (close_claim p v claim)).verifier) (reaches p twisted-run)
        ∙ (rw (claim-next p (twisted_state items) claim (ready-open p twisted-run) refl refl h))

    -- (b)
    pub twisted-verdict : (claim : ℕ) (m : ℕ → Message) → is_reduced p claim ≡ true → AllReduced p (rounds_of items) m
        → verdict p (after_calls (messages p m) (leaves after_twisted (close_claim p after_twisted claim)).verifier (rounds_of items))
        ≡ answered
        (verdict_of p (at cs) (rounds_of items) claim m
        (mul_mod p (end_value p (at cs) (rounds_of items) twisted_vector) (end_value p (at cs) (rounds_of items) (padded items g))))
    twisted-verdict claim m h reduced =
        ap (λ v. verdict p (after_calls (messages p m) v (rounds_of items))) (twisted-close claim h)
        ∙ run-verdict p twisted-run claim m reduced
        ∙ ap
        (λ x. answered (verdict_of p (at cs) (rounds_of items) claim m (mul_mod p x (end_value p (at cs) (rounds_of items) (padded items g)))))
        twisted-end

    -- (d) the run's own total
    pub twisted-accepts : 0 < p
        → verdict p
        (after_calls (messages p (vector.message p (rounds_of items) (at cs) twisted_vector (padded items g)))
        (leaves after_twisted (close_claim p after_twisted (dot p (2 ^ rounds_of items) twisted_vector (padded items g)))).verifier
        (rounds_of items))
        ≡ answered yes
    twisted-accepts h =
        let n = rounds_of items in
        let total = dot p (2 ^ n) twisted_vector (padded items g) in
        let e = base-of p h in
        twisted-verdict total (vector.message p n (at cs) twisted_vector (padded items g))
        (lt-ltb total p (omega (arith, residue-lt p (sum (2 ^ n) (λ i. twisted_vector i * padded items g i)))))
        (message-reduced p n (at cs) twisted_vector (padded items g) h)
        ∙ ap answered (true_messages p n (at cs) twisted_vector (padded items g))
