-- The proof file of a plain run: from an answered start, after the L items of the trip first to last, the verdict on a file is that of
-- document 01 with the true end values of the padded vectors, and the run's own file is accepted.
use mathlib.Core.Path.{◌≡◌, refl, sym, ap, ap₂, subst, ◌∙◌}
use mathlib.Core.Bool.{true}
use mathlib.Core.List.{List}
use mathlib.Core.Logic.{◌↔◌}
use Prim.Native.Nat.{ℕ, ◌+◌, ◌*◌, ◌^◌, ◌≤◌, ◌<◌}
use native.Mathlib.Omega.{arith}
use lib.Dec.{eqb}
use lib.IntN.{ℤ}
use lib.ListN.{length, get_or, take}
use borrow.Author.Tests.{eq-eqb, leb-true}
use Rattle.algebra.specs.Mod.{residue, mul_mod}
use Rattle.algebra.proofs.Congruence.{base-of, residue-lt}
use Rattle.refusal.specs.Outcome.{answered}
use Rattle.refusal.specs.Limit.{max_weight}
use Rattle.field.specs.Integer.{image}
use Rattle.field.specs.Total.{in_limits}
use Rattle.vector.specs.Rounds.{rounds_of}
use Rattle.vector.specs.Vector.{Vector, at}
use Rattle.vector.specs.Fold.{end_value}
use Rattle.vector.specs.Message.{Message, passes}
use Rattle.vector.specs.Message as vector
use Rattle.wire.specs.Proof.{proof_size, proof_file, proof_values, write_proof, written_in}
use Rattle.wire.proofs.ProofOf.{own-file}
use Rattle.wire.proofs.RoundTrip.{thirds, ReadsAs, good, messages-same, ends_same, write_reads_back}
use Rattle.item.specs.Version.{version_fits}
use Rattle.item.specs.Mark.{reading_fits}
use Rattle.item.specs.Start.{count_fits, list_fits}
use Rattle.verifier.specs.declared.Verifier.{Verifier}
use Rattle.verifier.specs.Records.{yes}
use Rattle.verifier.specs.Starts.{fresh_verifier}
use Rattle.claim.specs.Claim.{message_of3}
use Rattle.verifier.specs.ProofFile.{file_message, Judgement, judges, proof, leaves_judged}
use Rattle.verifier.specs.Trips.{claim_at, trip_total, verdict_of, file_verdict_of}
use Rattle.verifier.proofs.FileFacts.{row-file}
use Rattle.verifier.proofs.EndSums.{state, few}
use Rattle.verifier.proofs.Verdicts.{AllPass, verdict-yes, true_messages, claim-of_same}
use Rattle.verifier.proofs.PlainRuns.{counted, reading_vector, weight_vector, after_plain, plain_state, kept, plain-agree, plain-reaches, plain-open, plain-ends, plain-claim}
use Rattle.verifier.proofs.FileVerdicts.{FileSays, file_claim, file-verdict-says, file-verdict-yes, file-verdict-same}
use Rattle.verifier.proofs.ProofFiles.{proof-answered, file-finds}

same_message : {a b c d e f : ℕ} → a ≡ d → b ≡ e → c ≡ f → message_of3 a b c ≡ message_of3 d e f
same_message x y z = cc

-- three numbers of a list for each of n messages
abbrev pub Lists : ℕ → (ℕ → Message) → List ℕ → Type 0
Lists n m ms =
    (r : ℕ) → r < n
    → (get_or ms (3 * r) 0 ≡ (m r).even) × (get_or ms (3 * r + 1) 0 ≡ (m r).cross) × (get_or ms (3 * r + 2) 0 ≡ (m r).odd)

read_message : (p : ℕ) (file : List ℕ) (n : ℕ) (t : ℤ) (ms : List ℕ) (f g : ℕ) → ReadsAs p file n t ms f g → (m : ℕ → Message) → Lists n m ms
    → (i : ℕ) → i < n → file_message file i ≡ m i
read_message p file n t ms f g r m l i h =
    let e = messages-same p file n t ms f g r i h in
    let x = l i h in
    same_message (e.0 ∙ x.0) (e.1 ∙ x.1) (e.2 ∙ x.2)

module _ (p items version : ℕ) (cs : List ℕ) (readings : ℕ → ℤ) (weights : Vector) (large : max_weight < p) (known : version_fits version ≡ true) (count : count_fits items ≡ true)
    (list : list_fits p (rounds_of items) cs ≡ true) (fine : (i : ℕ) → i < items → weights i ≤ max_weight)
    (ranged : (i : ℕ) → i < items → reading_fits version (readings i) ≡ true) where
  abbrev n : ℕ
  n = rounds_of items

  abbrev v : Verifier
  v = after_plain p items version cs readings weights

  abbrev pub end_f : ℕ
  end_f = end_value p (at cs) n (reading_vector p items version cs readings weights)

  abbrev pub end_g : ℕ
  end_g = end_value p (at cs) n (weight_vector p items version cs readings weights)

  reached : v ≡ plain_state p items version cs readings weights large known count list fine ranged items
  reached = plain-reaches p items version cs readings weights large known count list fine ranged

  sums : (v.fsum ≡ end_f) × (v.gsum ≡ end_g)
  sums = plain-ends p items version cs readings weights large known count list fine ranged

  rounds-own : v.start.rounds ≡ n
  unfolding fresh_verifier state
  rounds-own = ap (λ w. w.start.rounds) reached

  -- the verdict by the challenges, n and end values of the trip
  plain-finds : (file : List ℕ) {j : Judgement} → proof p v file ≡ answered j → j.finding ≡ file_verdict_of p (at cs) n file end_f end_g
  unfolding fresh_verifier state
  plain-finds file e =
      file-finds p v file (proof-answered p v file e)
      ∙ ap (λ w. file_verdict_of p (at w.challenges) w.start.rounds file v.fsum v.gsum) reached
      ∙ file-verdict-same p n (at (kept p items version cs readings weights large known count list fine ranged)) (at cs)
      (plain-agree p items version cs readings weights large known count list fine ranged) file v.fsum v.gsum
      ∙ ap₂ (file_verdict_of p (at cs) n file) sums.0 sums.1

  -- DEMAND 2 FOR A PLAIN RUN'S FILE, BOTH WAYS
  pub plain-file-says : (file : List ℕ) {j : Judgement} → proof p v file ≡ answered j → FileSays p (at cs) file n end_f end_g j.finding
  plain-file-says file e =
      subst (FileSays p (at cs) file n end_f end_g) (sym (plain-finds file e)) (file-verdict-says p (at cs) file n end_f end_g)

  pub plain-file-yes : (file : List ℕ) {j : Judgement} → proof p v file ≡ answered j
      → (j.finding ≡ yes) ↔ FileSays p (at cs) file n end_f end_g yes
  plain-file-yes file e =
      let x = file-verdict-yes p (at cs) file n end_f end_g in
      ((λ y. x.0 (sym (plain-finds file e) ∙ y)), λ h. plain-finds file e ∙ x.1 h)

  -- the trip's own total and messages
  abbrev pub total : ℤ
  total = trip_total (counted p items version cs readings weights) weights items

  abbrev pub round_message : ℕ → Message
  round_message = vector.message p n (at cs) (reading_vector p items version cs readings weights) (weight_vector p items version cs readings weights)

  true_claims : AllPass p (at cs) (image p total) round_message n × (claim_at p (at cs) (image p total) round_message n ≡ mul_mod p end_f end_g)
  true_claims =
      (verdict-yes p (at cs) n (image p total) round_message (mul_mod p end_f end_g)
      ).0
      (ap (λ x. verdict_of p (at cs) n x round_message (mul_mod p end_f end_g)) (plain-claim p items version cs readings weights large known count list fine ranged)
      ∙ true_messages p n (at cs) (reading_vector p items version cs readings weights) (weight_vector p items version cs readings weights))

  -- COMPLETENESS: a file that reads as the trip's total, messages and end values
  pub plain-file-accepts : (file ms : List ℕ) → Lists n round_message ms → ReadsAs p file n total ms end_f end_g
      → (leaves_judged v (proof p v file)).1 ≡ answered yes
  unfolding fresh_verifier state
  plain-file-accepts file ms l r =
      let g = good p file n total ms end_f end_g r in
      let same = read_message p file n total ms end_f end_g r round_message l in
      let claim : file_claim p file ≡ image p total = ap (image p) g.total in
      let claims : (i : ℕ) → i ≤ n → claim_at p (at cs) (file_claim p file) (file_message file) i ≡ claim_at p (at cs) (image p total) round_message i =
      λ i h.
      ap (λ x. claim_at p (at cs) x (file_message file) i) claim
      ∙ claim-of_same p n (at cs) (image p total) (file_message file) round_message same i h
      in
      let o : proof p v file ≡ answered (judges p v total file) =
      sym
      (row-file p v file (plain-open p items version cs readings weights large known count list fine ranged)
      (ap (λ w. eqb w.taken w.start.items) reached ∙ eq-eqb items items refl)
      (ap (λ w. w.start.plain) reached)
      (sym (own-file p v.start.rounds file _ g (sym rounds-own))))
      in
      ap (λ x. (leaves_judged v x).1) o
      ∙ ap answered
      ((plain-file-yes file o
      ).1 (
        (λ i h. ap (passes p) (same i h) ∙ true_claims.0 i h ∙ sym (claims i (omega arith))),
        claims n (omega arith) ∙ true_claims.1,
        ends_same p file n total ms end_f end_g r,
      ))

  end_below : (a : ℕ) → residue p a < p
  end_below a = let e = base-of p (omega arith) in omega (arith, residue-lt p a)

  f-below : end_f < p
  unfolding fresh_verifier state
  f-below = subst (λ x. x < p) (ap (λ w. w.fsum) (sym reached) ∙ sums.0) (end_below _)

  g-below : end_g < p
  unfolding fresh_verifier state
  g-below = subst (λ x. x < p) (ap (λ w. w.gsum) (sym reached) ∙ sums.1) (end_below _)

  numbers-below : (ms : List ℕ) → Lists n round_message ms → (k : ℕ) → k < 3 * n → get_or ms k 0 < p
  numbers-below ms l =
      thirds (λ k. get_or ms k 0 < p) n λ r h.
      let x = l r h in
      (rw x.0 (end_below _), rw x.1 (end_below _), rw x.2 (end_below _))

  -- the file that write_proof leaves in the first places of a buffer, from the run's total, messages and end values
  pub plain-written-accepts : p ≤ 2 ^ 32 → in_limits p total ≡ true → (ms : List ℕ) → 3 * n ≤ length ms → Lists n round_message ms
      → (buffer : List ℕ) → proof_size n ≤ length buffer
      → (leaves_judged v
      (proof p v
      (take (proof_size n) (written_in (write_proof p n total ms end_f end_g buffer) (proof_file n total (proof_values n ms end_f end_g)) buffer)))
      ).1
      ≡ answered yes
  unfolding in_limits
  plain-written-accepts fits limits ms room l buffer long =
      plain-file-accepts _ ms l
      (write_reads_back p n total ms end_f end_g
      (record {
        fits = fits;
        most = few items count;
        limits = leb-true _ _ limits;
        room = room;
        messages = numbers-below ms l;
        end_f_lem = f-below;
        end_g_lem = g-below;
      })
      buffer long
      ).1
