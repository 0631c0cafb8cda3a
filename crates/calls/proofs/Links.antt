-- A VERIFIER'S LIST BESIDE A RUN'S: what the run gave is the trip's.
use mathlib.Core.Path.{◌≡◌, refl, sym, ap, ap₂, ◌∙◌}
use mathlib.Core.Bool.{Bool, true, false, cond, ◌&&◌, true≢false}
use mathlib.Core.List.{List, [], ◌∷◌, ◌++◌}
use Prim.Native.Nat.{ℕ, zero, suc, ◌*◌, ◌^◌, ◌<◌, ◌≤◌}
use native.Mathlib.Omega.{arith}
use lib.IntN.{ℤ}
use lib.ListN.{length, length-append, take, drop}
use lib.Seq.{take-append_seam}
use Rattle.refusal.specs.Limit.{max_weight}
use Rattle.field.specs.Total.{in_limits}
use Rattle.algebra.specs.Mod.{neg_mod, mul_mod}
use Rattle.wire.specs.Proof.{proof_file, proof_size}
use Rattle.wire.proofs.Writes.{length_file}
use Rattle.vector.specs.Vector.{Vector, at, dot}
use Rattle.vector.specs.Rounds.{size}
use Rattle.vector.specs.Fold.{combine, fold, end_value}
use Rattle.vector.specs.Message.{Message}
use Rattle.vector.specs.Opening.{evaluate, triple, triple_values, opening}
use Rattle.vector.proofs.Folds.{fold-challenges}
use Rattle.vector.proofs.Horner.{evaluate-same}
use Rattle.refusal.specs.Outcome.{answered}
use Rattle.phase.specs.declared.Next.{Next}
use Rattle.phase.specs.declared.Next.TheVariants as next
use Rattle.phase.specs.declared.Kind.{Kind}
use Rattle.phase.specs.declared.Kind.TheVariants.{Shut, Asked, Change}
use Rattle.phase.specs.Cases.{waits}
use Rattle.prover.specs.Reply as reply
use Rattle.pass.specs.Values.{in_ninety}
use Rattle.pass.proofs.OpeningValues.{triples_length, triples_same}
use Rattle.runs.specs.Trip.{Trip, vector_f, vector_g, sum_of, total_of}
use Rattle.calls.specs.declared.Call.{Call}
use Rattle.calls.specs.declared.Call.TheVariants as call
use Rattle.calls.specs.State.{State}
use Rattle.calls.specs.Table.{table}
use Rattle.calls.specs.Meaning.{Question, total, round_message, ends, opening_at, proof, done, close_asks, question, Answer, meant, says, message_at, messages_of, messages_to, proof_of_trip}
use Rattle.calls.specs.World.{came}
use Rattle.calls.proofs.Steps.{row-passed}
use Rattle.calls.proofs.Turns.{both}
use Rattle.calls.proofs.Agrees.{message-before, messages-before, length_messages}
use Rattle.calls.proofs.Hits.{Hit, message-round, is_late, late, all_challenges}
use Rattle.calls.proofs.AnswerParts.{total_in, message_in, field_total_in, is_plain}

-- WHAT DEPENDS ON THE CHALLENGES
-- a proof file and an opening depend on the first n
module _ (p : ℕ) (T : Trip) (cs ds : List ℕ) (same : (j : ℕ) → j < T.start.rounds → at ds j ≡ at cs j) where
  abbrev n : ℕ
  n = T.start.rounds

  pub end_same : (v : Vector) → end_value p (at ds) n v ≡ end_value p (at cs) n v
  end_same v = fold-challenges (combine p) (at ds) (at cs) v n same 0

  all-messages : (m : ℕ) → m ≤ n → messages_to p T ds m ≡ messages_to p T cs m
  unfolding messages_of
  all-messages zero h = refl
  all-messages (suc m) h = messages-before p T ds cs m (λ j less. same j (omega arith))

  pub file-same : proof_of_trip p T ds ≡ proof_of_trip p T cs
  file-same =
      ap (λ ms. proof_file n (total_of T) (ms ++ end_value p (at ds) n (vector_f p T) ∷ end_value p (at ds) n (vector_g p T) ∷ [])) (all-messages n (omega arith))
      ∙ ap₂ (λ x y. proof_file n (total_of T) (messages_to p T cs n ++ x ∷ y ∷ [])) (end_same (vector_f p T)) (end_same (vector_g p T))

  triple-same : (v : Vector) (b k : ℕ) → k < n → triple p n (at ds) v b k ≡ triple p n (at cs) v b k
  triple-same v b k less =
      let low : (x : ℕ) → evaluate p (size n k) (fold p (at ds) k v) x ≡ evaluate p (size n k) (fold p (at cs) k v) x =
      λ x. evaluate-same p (size n k) _ _ x (λ i l. fold-challenges (combine p) (at ds) (at cs) v k (λ j h. same j (omega arith)) i) in
      let high : evaluate p (size n (suc k)) (fold p (at ds) (suc k) v) (mul_mod p b b) ≡ evaluate p (size n (suc k)) (fold p (at cs) (suc k) v) (mul_mod p b b) =
      evaluate-same p (size n (suc k)) _ _ (mul_mod p b b) (λ i l. fold-challenges (combine p) (at ds) (at cs) v (suc k) (λ j h. same j (omega arith)) i) in
      rw (low b, low (neg_mod p b), high)

  pub opening-same : (b : ℕ) → opening p n (at ds) (vector_f p T) (vector_g p T) b ≡ opening p n (at cs) (vector_f p T) (vector_g p T) b
  opening-same b = ap₂ ◌++◌ (triples_same _ _ 0 n (λ j lo hi. triple-same (vector_f p T) b j (omega arith))) (triples_same _ _ 0 n (λ j lo hi. triple-same (vector_g p T) b j (omega arith)))

total-given : (plain : Bool) (t z : ℤ) (d : ℕ) → answered (reply.total t) ≡ answered (cond plain (reply.total z) (reply.field_total d)) → t ≡ z
total-given true t z d e = ap total_in e
total-given false t z d e = absurd (true≢false (ap is_plain e))

claim-given : (plain : Bool) (c d : ℕ) (z : ℤ) → answered (reply.field_total c) ≡ answered (cond plain (reply.total z) (reply.field_total d)) → c ≡ d
claim-given true c d z e = absurd (true≢false (ap is_plain (sym e)))
claim-given false c d z e = ap field_total_in e

-- a proof file is asked for by its own call alone
abbrev is_proof : Question → Bool
is_proof total = false
is_proof (round_message i) = false
is_proof ends = false
is_proof (opening_at b) = false
is_proof proof = true
is_proof (done x) = false

no_close : (a : State) (t : Next) (k : Kind) → is_proof (close_asks a t k) ≡ false
no_close a t Shut = refl
no_close a next.Total Asked = refl
no_close a next.Message Asked = refl
no_close a next.Challenge Asked = refl
no_close a next.Ends Asked = refl
no_close a next.Openings Asked = refl
no_close a t Change = refl

is_write_lem : (a : State) (c : Call) → is_proof (question a c) ≡ true → c ≡ call.WriteProof
is_write_lem a call.OpenPass e = absurd (true≢false (sym e))
is_write_lem a (call.OpenAt b) e = absurd (true≢false (sym e))
is_write_lem a call.ToFull e = absurd (true≢false (sym e))
is_write_lem a call.ToSmall e = absurd (true≢false (sym e))
is_write_lem a (call.Give x) e = absurd (true≢false (sym e))
is_write_lem a call.Close e = absurd (true≢false (sym e ∙ no_close a a.turn.next a.pass.kind))
is_write_lem a call.Message e = absurd (true≢false (sym e))
is_write_lem a (call.Challenge c) e = absurd (true≢false (sym e))
is_write_lem a call.Ends e = absurd (true≢false (sym e))
is_write_lem a (call.Opening b) e = absurd (true≢false (sym e))
is_write_lem a call.WriteProof e = refl

length_proof : (p : ℕ) (T : Trip) (cs : List ℕ) → length (proof_of_trip p T cs) ≡ proof_size T.start.rounds
length_proof p T cs =
    let n : ℕ = T.start.rounds in
    let xs : List ℕ = end_value p (at cs) n (vector_f p T) ∷ end_value p (at cs) n (vector_g p T) ∷ [] in
    length_file n (total_of T) (messages_to p T cs n ++ xs) (length-append (messages_to p T cs n) xs ∙ omega (arith, length_messages p T cs n))

-- 6n values
pub opening-length : (p n : ℕ) (c : ℕ → ℕ) (f g : Vector) (b : ℕ) → length (opening p n c f g b) ≡ 6 * n
opening-length p n c f g b =
    length-append (triple_values (triple p n c f b) 0 n) (triple_values (triple p n c g b) 0 n)
    ∙ omega (arith, triples_length (triple p n c f b) 0 n, triples_length (triple p n c g b) 0 n)

module _ (p : ℕ) (large : max_weight < p) (through : Bool) (T : Trip) (whole : length T.items ≡ T.start.items) (cs : List ℕ) where
  abbrev H : Question → Type 0
  H q = Hit p large through T whole cs q

  pub total-of : (t : ℤ) (h : H total) → says (reply.total t) ≡ meant p T h.world.state.turn.challenges total → t ≡ total_of T
  total-of t h e = total-given T.start.plain t (total_of T) _ (ap (λ r. r.answer) e)

  pub claim-of : (c : ℕ) (h : H total) → says (reply.field_total c) ≡ meant p T h.world.state.turn.challenges total → c ≡ dot p (2 ^ T.start.rounds) (vector_f p T) (vector_g p T)
  claim-of c h e = claim-given T.start.plain c _ (total_of T) (ap (λ r. r.answer) e)

  pub message-of : (i even cross odd : ℕ) (h : H (round_message i)) → says (reply.message even cross odd) ≡ meant p T h.world.state.turn.challenges (round_message i)
      → ◌≡◌ {A = Message} (record { even = even; cross = cross; odd = odd }) (message_at p T cs i)
  message-of i even cross odd h e =
      let round = message-round h.world.state h.made.call i h.asked in
      ap (λ r. message_in r.answer) e
      ∙ message-before p T h.world.state.turn.challenges cs i (λ j less. h.prefix j (omega arith))

  -- after the ends every challenge was taken
  late_prefix : (q : Question) (h : H q) → is_late (question h.world.state h.made.call) ≡ true → (j : ℕ) → j < T.start.rounds → at h.world.state.turn.challenges j ≡ at cs j
  late_prefix q h e j less =
      let w = late p h.world.state h.made.call h.made.lent h.free e in
      let all = all_challenges p h.world.state h.going.faithful.fits w in
      let n : h.world.state.start.rounds ≡ T.start.rounds = ap (λ s. s.rounds) h.going.start in
      h.prefix j (omega arith)

  pub opening_of_lem : (b : ℕ) (values : List ℕ) (h : H (opening_at b)) → ◌≡◌ {A = Answer} (record { answer = answered reply.opening; values = values }) (meant p T h.world.state.turn.challenges (opening_at b))
      → take (6 * T.start.rounds) values ≡ opening p T.start.rounds (at cs) (vector_f p T) (vector_g p T) b
  opening_of_lem b values h e =
      let n : ℕ = T.start.rounds in
      let ds : List ℕ = h.world.state.turn.challenges in
      let v : List ℕ = opening p n (at ds) (vector_f p T) (vector_g p T) b in
      ap (λ r. take (6 * n) r.values) e
      ∙ ap (λ k. take k (in_ninety n v)) (sym (opening-length p n (at ds) (vector_f p T) (vector_g p T) b))
      ∙ take-append_seam v _
      ∙ opening-same p T cs ds (late_prefix (opening_at b) h (ap is_late h.asked)) b

  pub file-of : (file : List ℕ) (h : H proof) → take (proof_size h.world.state.start.rounds) (came p h.world h.made).lent.file ≡ file
      → (file ≡ proof_of_trip p T cs) × (in_limits p (total_of T) ≡ true)
  unfolding table
  file-of file h e =
      let b : State = h.world.state in
      let ds : List ℕ = b.turn.challenges in
      let rounds : b.start.rounds ≡ T.start.rounds = ap (λ s. s.rounds) h.going.start in
      let write : h.made.call ≡ call.WriteProof = is_write_lem b h.made.call (ap is_proof h.asked) in
      let left = h.right.proof write in
      let q = (row-passed (b.start.plain && waits next.Openings b.turn.next) 10 _ (ap (λ c. table p b c h.made.lent) (sym write) ∙ h.free)).0 in
      let plain = both b.start.plain (waits next.Openings b.turn.next) q in
      let same_total : h.past.total ≡ total_of T = h.going.agrees.total plain.0 (not_first b.turn.next plain.1) ∙ ap (λ s. sum_of s T.items) h.going.start in (
        sym e
            ∙ ap₂ (λ k f. take (proof_size k) f) rounds left
            ∙ ap (λ k. take k (proof_of_trip p T ds ++ drop (proof_size T.start.rounds) h.made.lent.file)) (sym (length_proof p T ds))
            ∙ take-append_seam (proof_of_trip p T ds) _
            ∙ file-same p T cs ds (late_prefix proof h (ap is_late h.asked)),
        ap (in_limits p) (sym same_total) ∙ h.going.faithful.fits.run.total,
      )
    where
      not_first : (t : Next) → waits next.Openings t ≡ true → waits next.Total t ≡ false
      not_first next.Total e = absurd (true≢false (sym e))
      not_first next.Message e = refl
      not_first next.Challenge e = refl
      not_first next.Ends e = refl
      not_first next.Openings e = refl
