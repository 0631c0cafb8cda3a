-- Demand 2 for plain runs: from an answered start, after the L items of the trip first to last, the total and n messages, the verdict is
-- that of document 01 with the true end values of the padded vectors.
use mathlib.Core.Path.{◌≡◌, refl, sym, ap, ◌∙◌}
use mathlib.Core.Bool.{true}
use mathlib.Core.List.{List}
use Prim.Native.Nat.{ℕ, zero, suc, ◌*◌, ◌^◌, ◌≤◌, ◌<◌}
use native.Mathlib.Omega.{arith}
use lib.IntN.{ℤ, pos, ◌*ℤ◌, +ℤ_comm}
use borrow.Author.Tests.{le-leb}
use Rattle.algebra.specs.Mod.{add_mod, mul_mod}
use Rattle.algebra.proofs.Congruence.{residue-small}
use Rattle.refusal.specs.Outcome.{answered}
use Rattle.refusal.specs.Limit.{max_weight}
use Rattle.algebra.proofs.Laws.{add_commutes}
use Rattle.field.specs.Integer.{image}
use Rattle.field.specs.Total.{in_limits}
use Rattle.field.proofs.Integers.{image-residue, image-step}
use Rattle.vector.specs.Rounds.{rounds_of}
use Rattle.vector.specs.Vector.{Vector, at, sum, dot, padded}
use Rattle.vector.specs.Fold.{end_value}
use Rattle.vector.specs.Message.{Message}
use Rattle.vector.specs.Message as vector
use Rattle.vector.specs.Slice.{fifteen}
use Rattle.vector.proofs.Rounds.{rounds-enough}
use Rattle.vector.proofs.Sums.{running-product}
use Rattle.vector.proofs.Overwrite.{fifteen-at}
use Rattle.vector.proofs.Messages.{dot-padded}
use Rattle.item.specs.Version.{version_fits}
use Rattle.item.specs.Mark.{counts_as, reading_fits}
use Rattle.item.specs.Start.{count_fits, list_fits, plain_start}
use Rattle.item.proofs.PartsRows.{reading-taken}
use Rattle.verifier.specs.declared.Verifier.{Verifier}
use Rattle.verifier.specs.Records.{leaves, yes}
use Rattle.verifier.specs.Starts.{fresh_verifier, plain_verifier}
use Rattle.verifier.specs.Sums.{entering}
use Rattle.verifier.specs.Claims.{closed_with}
use Rattle.verifier.specs.Calls.{pass_open, close, verdict}
use Rattle.verifier.specs.Trips.{after_calls, given_items, reading_items, messages, verdict_of, trip_total}
use Rattle.verifier.proofs.EndSums.{state, few, limit}
use Rattle.verifier.proofs.Verdicts.{true_messages}
use Rattle.verifier.proofs.Runs.{AllReduced, list_length, Run, reaches, ready-open, run_ends, run-verdict, close-next, message-reduced}

-- the image of the trip's total is the scalar product
trip-image : (p : ℕ) (readings : ℕ → ℤ) (weights : Vector) (m : ℕ)
    → image p (trip_total readings weights m) ≡ dot p m (λ i. image p (readings i)) weights
unfolding trip_total sum image
trip-image p readings weights zero = refl
trip-image p readings weights (suc m) =
    let t = trip_total readings weights m in
    ap (image p) (+ℤ_comm t (readings m *ℤ pos (weights m)))
    ∙ image-step p (readings m) (weights m) t
    ∙ add_commutes p (mul_mod p (image p (readings m)) (weights m)) (image p t)
    ∙ ap (λ x. add_mod p x (mul_mod p (image p (readings m)) (weights m))) (trip-image p readings weights m)
    ∙ running-product p (sum m (λ i. image p (readings i) * weights i)) (image p (readings m)) (weights m)

module _ (p items version : ℕ) (cs : List ℕ) (readings : ℕ → ℤ) (weights : Vector) where
  -- what each reading counts as
  abbrev pub counted : ℕ → ℤ
  counted i = counts_as version (readings i)

  -- document 01's f and g: readings and weights, then zeros
  abbrev pub reading_vector : Vector
  reading_vector = padded items (λ i. image p (counted i))

  abbrev pub weight_vector : Vector
  weight_vector = padded items weights

  -- the verifier after the items
  abbrev pub after_plain : Verifier
  after_plain = after_calls (given_items p (reading_items readings weights)) (plain_verifier items version cs) items

  module _ (large : max_weight < p) (known : version_fits version ≡ true) (count : count_fits items ≡ true) (list : list_fits p (rounds_of items) cs ≡ true)
      (fine : (i : ℕ) → i < items → weights i ≤ max_weight)
      (ranged : (i : ℕ) → i < items → reading_fits version (readings i) ≡ true) where
    abbrev pub kept : List ℕ
    kept = fifteen (rounds_of items) cs

    abbrev pub plain_state : ℕ → Verifier
    plain_state = state p (plain_start items version) (reading_items readings weights) kept

    pub plain-agree : (k : ℕ) → k < rounds_of items → at kept k ≡ at cs k
    plain-agree = fifteen-at (rounds_of items) cs (few items count) (omega (arith, list_length p (rounds_of items) cs list))

    plain-same : (i : ℕ) → i < items → entering p (plain_start items version) i (image p (counted i)) ≡ image p (counted i)
    unfolding entering
    plain-same i h = refl

    abbrev plain-run : Run p
    plain-run =
        record {
          start = plain_start items version;
          known = known;
          count = count;
          own = refl;
          challenges = kept;
          c = at cs;
          agree = plain-agree;
          given = reading_items readings weights;
          fits = λ i h. reading-taken p (plain_start items version) i (readings i) (weights i) refl (le-leb (weights i) max_weight (fine i h)) (ranged i h);
          F = λ i. image p (counted i);
          same = plain-same;
          reduced_f = λ i h. image-residue p (counted i);
          reduced_g = λ i h. residue-small p (weights i) (omega (arith, fine i h));
        }

    -- the record after the items
    pub plain-reaches : after_plain ≡ plain_state items
    plain-reaches = reaches p plain-run

    pub plain-open : pass_open after_plain ≡ true
    plain-open = ap pass_open plain-reaches ∙ ready-open p plain-run

    -- (a) THE RUNNING SUMS ARE THE TRUE END VALUES
    pub plain-ends :
        (after_plain.fsum ≡ end_value p (at cs) (rounds_of items) reading_vector)
        × (after_plain.gsum ≡ end_value p (at cs) (rounds_of items) weight_vector)
    plain-ends = run_ends p plain-run

    plain-close : (total : ℤ) → in_limits p total ≡ true → (leaves after_plain (close p after_plain total)).verifier ≡ closed_with (plain_state items) (image p total)
    unfolding fresh_verifier state
    plain-close total h =
        ap (λ v. (leaves v (close p v total)).verifier) plain-reaches
        ∙ (rw (close-next p (plain_state items) total (ready-open p plain-run) refl refl h))

    -- (b) THE VERDICT, for any total within its limits and any messages of field numbers
    pub plain-verdict : (total : ℤ) (m : ℕ → Message) → in_limits p total ≡ true → AllReduced p (rounds_of items) m
        → verdict p (after_calls (messages p m) (leaves after_plain (close p after_plain total)).verifier (rounds_of items))
        ≡ answered
        (verdict_of p (at cs) (rounds_of items) (image p total) m
        (mul_mod p (end_value p (at cs) (rounds_of items) reading_vector) (end_value p (at cs) (rounds_of items) weight_vector)))
    plain-verdict total m h reduced =
        ap (λ v. verdict p (after_calls (messages p m) v (rounds_of items))) (plain-close total h)
        ∙ run-verdict p plain-run (image p total) m reduced

    -- the trip's total as a claim
    pub plain-claim : image p (trip_total counted weights items) ≡ dot p (2 ^ rounds_of items) reading_vector weight_vector
    plain-claim =
        trip-image p counted weights items
        ∙ sym (dot-padded p items (2 ^ rounds_of items) (rounds-enough items (limit items count)) (λ i. image p (counted i)) weights)

    -- (d) COMPLETENESS: the trip's own total, if it is within its limits, with the messages of its vectors
    pub plain-accepts : in_limits p (trip_total counted weights items) ≡ true
        → verdict p
        (after_calls (messages p (vector.message p (rounds_of items) (at cs) reading_vector weight_vector))
        (leaves after_plain (close p after_plain (trip_total counted weights items))).verifier
        (rounds_of items))
        ≡ answered yes
    plain-accepts h =
        let n = rounds_of items in
        let m = vector.message p n (at cs) reading_vector weight_vector in
        let product = mul_mod p (end_value p (at cs) n reading_vector) (end_value p (at cs) n weight_vector) in
        plain-verdict (trip_total counted weights items) m h (message-reduced p n (at cs) reading_vector weight_vector (omega arith))
        ∙ ap answered
        (ap (λ x. verdict_of p (at cs) n x m product) plain-claim ∙ true_messages p n (at cs) reading_vector weight_vector)
