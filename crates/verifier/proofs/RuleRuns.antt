-- Demand 2 for rule checks: twisted runs of 2^n items with the twists v^(2^j).
use mathlib.Core.Path.{◌≡◌, refl, sym, ap, ◌∙◌}
use mathlib.Core.Bool.{true}
use mathlib.Core.List.{List}
use Prim.Native.Nat.{ℕ, ◌*◌, ◌^◌, ◌≤◌, ◌<◌}
use native.Mathlib.Omega.{arith}
use lib.Pow.{pow_pos, pow_mono}
use borrow.Author.Tests.{le-leb, lt-ltb}
use Rattle.algebra.specs.Mod.{residue, mul_mod, pow_mod}
use Rattle.algebra.proofs.Congruence.{residue-small, residue-twice, base-of, residue-lt}
use Rattle.refusal.specs.Outcome.{answered}
use Rattle.field.specs.Number.{is_reduced}
use Rattle.vector.specs.Message as vector
use Rattle.vector.specs.Vector.{Vector, at, padded, sum, dot}
use Rattle.vector.specs.Fold.{end_value}
use Rattle.vector.specs.Message.{Message}
use Rattle.vector.specs.Slice.{fifteen}
use Rattle.vector.proofs.Overwrite.{fifteen-at}
use Rattle.vector.proofs.Rounds.{rounds_power}
use Rattle.vector.proofs.TwistPowers.{twists_weight}
use Rattle.item.specs.Start.{count_fits, list_fits, rule_start}
use Rattle.item.proofs.PartsRows.{numbers-taken}
use Rattle.verifier.specs.declared.Verifier.{Verifier}
use Rattle.verifier.specs.Records.{leaves, yes}
use Rattle.verifier.specs.Starts.{fresh_verifier, rule_verifier}
use Rattle.verifier.specs.Sums.{entering}
use Rattle.verifier.specs.Claims.{closed_with}
use Rattle.verifier.specs.Calls.{close_claim, verdict}
use Rattle.verifier.specs.Trips.{after_calls, given_items, number_items, messages, verdict_of}
use Rattle.verifier.proofs.Verdicts.{true_messages}
use Rattle.verifier.proofs.EndSums.{state}
use Rattle.verifier.proofs.Runs.{AllReduced, list_length, Run, reaches, ready-open, run_ends, run-verdict, claim-next, message-reduced}

-- 2^n items are as many as a run may have
rule_count : (n : ℕ) → n ≤ 15 → count_fits (2 ^ n) ≡ true
rule_count n h =
    let most : 2 ^ n ≤ 2 ^ 15 = pow_mono h in
    let least : 0 < 2 ^ n = pow_pos n in
    rw (le-leb 1 (2 ^ n) (omega arith)) (le-leb (2 ^ n) 32768 (omega arith))

module _ (p n v : ℕ) (cs : List ℕ) (f g : Vector) where
  abbrev pub after_rule : Verifier
  after_rule = after_calls (given_items p (number_items f g)) (rule_verifier p n v cs) (2 ^ n)

  -- "v_j = v^(2^j)": item i of f times v^i
  abbrev pub powered_vector : Vector
  powered_vector = padded (2 ^ n) (λ i. mul_mod p (f i) (pow_mod p v i))

  abbrev pub second_vector : Vector
  second_vector = padded (2 ^ n) g

  module _ (small : n ≤ 15) (list : list_fits p n cs ≡ true) (field-f : (i : ℕ) → i < 2 ^ n → f i < p)
      (field-g : (i : ℕ) → i < 2 ^ n → g i < p) where
    abbrev rule_state : ℕ → Verifier
    rule_state = state p (rule_start p n v) (number_items f g) (fifteen n cs)

    rule-same : (i : ℕ) → i < 2 ^ n → entering p (rule_start p n v) i (f i) ≡ mul_mod p (f i) (pow_mod p v i)
    unfolding entering
    rule-same i h = ap (mul_mod p (f i)) (twists_weight p v n i small h)

    product-reduced : (a b : ℕ) → residue p (mul_mod p a b) ≡ mul_mod p a b
    unfolding mul_mod
    product-reduced a b = residue-twice p (a * b)

    abbrev rule-run : Run p
    rule-run =
        record {
          start = rule_start p n v;
          known = refl;
          count = rule_count n small;
          own = sym (rounds_power n small);
          challenges = fifteen n cs;
          c = at cs;
          agree = fifteen-at n cs small (omega (arith, list_length p n cs list));
          given = number_items f g;
          fits =
              λ i h.
              numbers-taken p (rule_start p n v) i (f i) (g i) refl (lt-ltb (f i) p (field-f i h)) (lt-ltb (g i) p (field-g i h));
          F = λ i. mul_mod p (f i) (pow_mod p v i);
          same = rule-same;
          reduced_f = λ i h. product-reduced (f i) (pow_mod p v i);
          reduced_g = λ i h. residue-small p (g i) (omega (arith, field-g i h));
        }

    -- (a)
    pub rule-ends : (after_rule.fsum ≡ end_value p (at cs) n powered_vector) × (after_rule.gsum ≡ end_value p (at cs) n second_vector)
    rule-ends = run_ends p rule-run

    rule-close : (claim : ℕ) → is_reduced p claim ≡ true
        → (leaves after_rule (close_claim p after_rule claim)).verifier ≡ closed_with (rule_state (2 ^ n)) claim
    unfolding fresh_verifier state
    rule-close claim h =
        ap (λ w. (leaves w (close_claim p w claim)).verifier) (reaches p rule-run)
        ∙ (rw (claim-next p (rule_state (2 ^ n)) claim (ready-open p rule-run) refl refl h))

    -- (b)
    pub rule-verdict : (claim : ℕ) (m : ℕ → Message) → is_reduced p claim ≡ true → AllReduced p n m
        → verdict p (after_calls (messages p m) (leaves after_rule (close_claim p after_rule claim)).verifier n)
        ≡ answered (verdict_of p (at cs) n claim m (mul_mod p (end_value p (at cs) n powered_vector) (end_value p (at cs) n second_vector)))
    rule-verdict claim m h reduced =
        ap (λ w. verdict p (after_calls (messages p m) w n)) (rule-close claim h) ∙ run-verdict p rule-run claim m reduced

    -- (d) the run's own total
    pub rule-accepts : 0 < p
        → verdict p
        (after_calls (messages p (vector.message p n (at cs) powered_vector second_vector))
        (leaves after_rule (close_claim p after_rule (dot p (2 ^ n) powered_vector second_vector))).verifier
        n)
        ≡ answered yes
    rule-accepts h =
        let total = dot p (2 ^ n) powered_vector second_vector in
        let e = base-of p h in
        rule-verdict total (vector.message p n (at cs) powered_vector second_vector)
        (lt-ltb total p (omega (arith, residue-lt p (sum (2 ^ n) (λ i. powered_vector i * second_vector i)))))
        (message-reduced p n (at cs) powered_vector second_vector h)
        ∙ ap answered (true_messages p n (at cs) powered_vector second_vector)
