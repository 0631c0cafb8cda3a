-- THE RULE CHECK'S RUN: its total and its messages, as a list of calls answers them, are those of the check in r1cs.
use mathlib.Core.Path.{◌≡◌, refl, sym, ap, ap₂, ◌∙◌}
use mathlib.Core.List.{List}
use Prim.Native.Nat.{ℕ, zero, suc, ◌+◌, ◌^◌, ◌<◌, ◌≤◌}
use native.Mathlib.Nat.{add-zero, zero-add, suc-add, add-suc}
use native.Mathlib.Omega.{arith}
use lib.ListN.{length, get_or}
use lib.Pow.{pow_pos, pow_mono}
use Rattle.algebra.specs.Mod.{mul_mod, pow_mod}
use Rattle.vector.specs.Vector.{Vector, at, dot}
use Rattle.vector.specs.Message.{message}
use Rattle.vector.proofs.Rounds.{rounds_power}
use Rattle.vector.proofs.TwistPowers.{twists_weight}
use Rattle.prover.specs.Reply as reply
use Rattle.item.specs.declared.Given.{Given}
use Rattle.item.specs.declared.Given.TheVariants.{Numbers}
use Rattle.item.specs.Item.{contributes}
use Rattle.runs.specs.Trip.{Trip, trip_item, vector_f, vector_g}
use Rattle.r1cs.specs.Check.{rule_first, rule_second, rule_total, rule_message}
use Rattle.r1cs.proofs.RuleTotals.{padded-same, rule-first}
use Rattle.calls.specs.Meaning.{meant, says, total, message_at}
use Rattle.calls.specs.Starts.{Whole}
use Rattle.calls.specs.RuleTrip.{items_from, rule_trip}

pub items-length : (x : ℕ → Given) (i m : ℕ) → length (items_from x i m) ≡ m
unfolding items_from
items-length x i zero = refl
items-length x i (suc m) = ap suc (items-length x (suc i) m)

items-after : (x : ℕ → Given) (i m j : ℕ) → j < m → get_or (items_from x i m) j (Numbers 0 0) ≡ x (i + j)
unfolding items_from
items-after x i zero j h = absurd (omega arith)
items-after x i (suc m) zero h = ap x (sym (add-zero i))
items-after x i (suc m) (suc j) h = items-after x (suc i) m j (omega arith) ∙ ap x (suc-add i j ∙ sym (add-suc i j))

pub items_at : (x : ℕ → Given) (m j : ℕ) → j < m → get_or (items_from x 0 m) j (Numbers 0 0) ≡ x j
items_at x m j h = items-after x 0 m j h ∙ ap x (zero-add j)

module _ (p v n : ℕ) (few : n ≤ 15) (a b : Vector) where
  abbrev T : Trip
  T = rule_trip p n v a b

  -- a trip that lists of calls speak of
  pub rule-whole : Whole T
  rule-whole =
      let most : 2 ^ n ≤ 2 ^ 15 = pow_mono few in
      record { start = record { version = refl; least = pow_pos n; most = most; rounds = sym (rounds_power n few) }; items = items-length (λ i. Numbers (a i) (b i)) 0 (2 ^ n) }

  item-at : (i : ℕ) → i < 2 ^ n → trip_item T i ≡ Numbers (a i) (b i)
  item-at = items_at (λ i. Numbers (a i) (b i)) (2 ^ n)

  pub rule-vector-f : vector_f p T ≡ rule_first p v n a
  rule-vector-f =
      padded-same (2 ^ n) _ (λ i. mul_mod p (a i) (pow_mod p v i))
      (λ i less. ap₂ (λ x w. mul_mod p (contributes p T.start x).f w) (item-at i less) (twists_weight p v n i few less))
      ∙ sym (rule-first p v n few a)

  pub rule-vector-g : vector_g p T ≡ rule_second n b
  rule-vector-g = padded-same (2 ^ n) _ b (λ i less. ap (λ x. (contributes p T.start x).g) (item-at i less))

  -- the run's total is the check's, and so the claim where no row fails (r1cs: check_claim_total)
  pub rule-run-total : (cs : List ℕ) → meant p T cs total ≡ says (reply.field_total (rule_total p v n a b))
  rule-run-total cs = ap₂ (λ f g. says (reply.field_total (dot p (2 ^ n) f g))) rule-vector-f rule-vector-g

  -- and so are its messages
  pub rule-run-message : (cs : List ℕ) (i : ℕ) → message_at p T cs i ≡ rule_message p v n (at cs) a b i
  rule-run-message cs i = ap₂ (λ f g. message p n (at cs) f g i) rule-vector-f rule-vector-g
