-- What an answered call says where the calls bring the trip's, and that the verifier goes on with the trip.
use mathlib.Core.Path.{◌≡◌, refl, sym, ap, subst, ◌∙◌}
use mathlib.Core.Bool.{Bool, true, false, cond, ◌||◌}
use mathlib.Core.List.{List}
use mathlib.Core.Option.{none}
use Prim.Native.Nat.{ℕ, zero, suc, ◌+◌, ◌*◌, ◌%◌, ◌^◌, ◌≤◌, ◌<◌}
use native.Mathlib.Omega.{arith}
use lib.Dec.{eqb}
use lib.ListN.{length}
use borrow.Author.Tests.{eq-eqb, eqb-true, ltb-true}
use Rattle.algebra.specs.Prime.{Prime}
use Rattle.refusal.specs.Limit.{max_weight}
use Rattle.refusal.proofs.Outcome.{both}
use Rattle.field.specs.Integer.{image}
use Rattle.wire.specs.Proof.{proof_total, proof_number}
use Rattle.vector.specs.Rounds.{rounds_of}
use Rattle.vector.specs.Vector.{at}
use Rattle.vector.specs.Slice.{is_nonzero}
use Rattle.vector.specs.Message.{Message}
use Rattle.vector.specs.Opening.{opening_of, opening}
use Rattle.vector.proofs.Rounds.{rounds-at-most, rounds-enough}
use Rattle.verifier.specs.declared.Verifier.{Verifier}
use Rattle.verifier.specs.Records.{Replied, yes, holds}
use Rattle.verifier.specs.Claims.{message_of3, closed_with, passed_with, failed_now, hears, finds}
use Rattle.verifier.specs.Openings.{opening_finds}
use Rattle.verifier.specs.Batch.{batch_finds}
use Rattle.verifier.specs.ProofFile.{file_message, hears_next, hears_first, ends_agree, compares, after_file}
use Rattle.verifier.proofs.TrueOpenings.{true_opening_holds}
use Rattle.item.specs.declared.Start.{Start}
use Rattle.runs.specs.Trip.{Trip, trip_item, vector_f, vector_g}
use Rattle.calls.specs.declared.query.Query.{Query}
use Rattle.calls.specs.declared.query.Query.TheVariants as query
use Rattle.calls.specs.QueryStep.{Shown, replies}
use Rattle.calls.specs.QueryStep as said
use Rattle.calls.specs.QueryState.{VerifierState, at_round, hearing, goes_on_heard, has_all, verifier_table}
use Rattle.calls.specs.Meaning.{message_at, proof_of_trip}
use Rattle.calls.proofs.BatchHeard.{nonzero, batch-holds}
use Rattle.calls.proofs.HeardMeaning.{BringsTrip, SaysTrip}
use Rattle.calls.proofs.QueryStands.{Carries, carried_challenge, verdict-turn}
use Rattle.calls.proofs.QueryTurns.{item-rows, close-rows, claim-rows, file-rows, message-rows, verdict-row, opening-point, batch-rows}
use Rattle.calls.proofs.QuerySteps.{heard_as, goes_to, says_so}
use Rattle.calls.proofs.QueryKeeps.{stands_after}
use Rattle.calls.proofs.HeardTrip.{Fine, total-product}
use Rattle.calls.proofs.HeardFollows.{Follows, carries, item-follows, no-message, close_follows, message-follows, ends-own, verdict-yes, verdict-follows}
use Rattle.calls.proofs.HeardFile.{ReadsTrip, file-reads}

next_passed : (p : ℕ) (w : Verifier) (m : Message) → w.failed ≡ false → hears p w m ≡ heard_as p w m true → hears_next p w m ≡ passed_with p w m
unfolding hears_next
next_passed p w m going heard = ap (λ b. cond b w (hears p w m).verifier) going ∙ ap (λ (s : Replied). s.verifier) heard

-- a modulus such as 2147483647
module _ (p : ℕ) (large : max_weight < p) (prime : Prime p) (odd : p % 2 ≡ 1) (word : p ≤ 2 ^ 32) (T : Trip) (most : T.start.items ≤ 32768)
    (rounds : T.start.rounds ≡ rounds_of T.start.items) (all : length T.items ≡ T.start.items) (cs : List ℕ)
    (listed : length cs ≡ T.start.rounds) where
  abbrev n : ℕ
  n = T.start.rounds

  few : n ≤ 15
  few = omega (arith, rounds, rounds-at-most T.start.items most)

  enough : T.start.items ≤ 2 ^ n
  enough = rw rounds (rounds-enough T.start.items most)

  -- an opening of the trip, whatever the verifier was asked before
  pub opening-holds : (k : ℕ) (v : Verifier) → Carries T.start cs k v → (b : ℕ) → is_nonzero p b ≡ true
      → opening_finds p v b (opening p n (at cs) (vector_f p T) (vector_g p T) b) ≡ holds
  opening-holds k v c b ok =
      ap (λ k. opening_finds p v b (opening p k (at cs) (vector_f p T) (vector_g p T) b)) (sym (ap (λ s. s.rounds) c.start))
      ∙ true_opening_holds prime odd b (nonzero p b ok) v (at cs)
      (λ k h. carried_challenge c few listed k (omega (arith, ap (λ s. s.rounds) c.start)))
      (vector_f p T) (vector_g p T)

  module _ (a : VerifierState) (v : Verifier) (f : Follows p T cs a v) where
    kind : {b : Bool} → a.start.plain ≡ b → T.start.plain ≡ b
    kind e = ap (λ s. s.plain) (sym f.start) ∙ e

    -- every item was given
    module _ (whole : has_all a ≡ true) where
      whole_length : length a.items ≡ T.start.items
      whole_length = eqb-true (length a.items) a.start.items whole ∙ ap (λ s. s.items) f.start

      whole-fine : (i : ℕ) → i < T.start.items → Fine p T.start.plain (trip_item T i)
      whole-fine i l = f.fine i (omega (arith, whole_length))

      -- THE RUN'S FILE
      module _ (unclosed : a.closed ≡ false) (plain : T.start.plain ≡ true) (file : List ℕ) (reads : ReadsTrip p T cs file) where
        abbrev closed : Verifier
        closed = closed_with v (image p (proof_total file))

        heard : (k : ℕ) → k ≤ n → Follows p T cs (at_round a k false) (hears_first p closed (file_message file) k)
        unfolding hears_first
        heard zero h =
            close_follows p T cs a v f (image p (proof_total file))
            (ap (image p) reads.total ∙ total-product p large T enough whole-fine plain all) unclosed whole
        heard (suc k) h =
            let w = hears_first p closed (file_message file) k in
            let g = heard k (omega arith) in
            let next = message-follows p T cs (at_round a k false) w g few listed (file_message file k) (reads.messages k h) refl h in
            subst (Follows p T cs (at_round a (suc k) false)) (sym (next_passed p w (file_message file k) (g.stands.going refl).0 next.0)) next.1

        abbrev last : Verifier
        last = hears_first p closed (file_message file) n

        last-follows : Follows p T cs (at_round a n false) last
        last-follows = heard n (omega arith)

        ends-agree : ends_agree last file ≡ true
        unfolding ends_agree
        ends-agree =
            let r = (carries p T cs (at_round a n false) last last-follows).start in
            let ends = ends-own p T cs (at_round a n false) last last-follows few listed large enough whole_length in
            let first = eq-eqb _ _ (ap (λ (s : Start). proof_number file (3 * s.rounds)) r ∙ reads.end_f_lem ∙ sym ends.0) in
            let second = eq-eqb _ _ (ap (λ (s : Start). proof_number file (3 * s.rounds + 1)) r ∙ reads.end_g_lem ∙ sym ends.1) in
            rw (first, second)

        file-last : after_file p v (proof_total file) file ≡ last
        unfolding after_file compares
        file-last =
            ap (λ (s : Start). compares (hears_first p closed (file_message file) s.rounds) file) (carries p T cs a v f).start
            ∙ ap (λ b. cond b last (failed_now last)) ends-agree

        pub file-follows : Follows p T cs (at_round a n false) (after_file p v (proof_total file) file)
        file-follows = subst (Follows p T cs (at_round a n false)) (sym file-last) last-follows

        pub file-yes : finds p (after_file p v (proof_total file) file) ≡ yes
        file-yes = verdict-yes p T cs (at_round a n false) _ file-follows few listed large enough refl refl

    closed_at : (w : Verifier) → a.closed ≡ false → Follows p T cs (at_round a 0 false) w → Follows p T cs (at_round a a.round a.refuted) w
    closed_at w unclosed g =
        subst (λ i. Follows p T cs (at_round a i a.refuted) w) (sym (no-message p T cs a v f unclosed))
        (subst (λ b. Follows p T cs (at_round a 0 b) w) (sym f.going) g)

    -- THE ANSWER, and the state after it
    pub answers-right : (c : Query) (l : Shown) → verifier_table p a c l ≡ none → BringsTrip p T a c l
        → SaysTrip p T a c l (says_so p v c l) × Follows p T cs (goes_on_heard a c (says_so p v c l)) (goes_to p v c l)
    answers-right (query.Give x) l e brings =
        let rows = item-rows p a l x e in (
          refl,
          item-follows p T cs a v f x brings (subst (λ s. Fine p s.plain x) f.start rows.fine) rows.unclosed
              (stands_after p a v f.stands (query.Give x) l e),
        )
    answers-right (query.Close t) l e brings =
        let rows = close-rows p a l t e in (
          refl,
          closed_at _ rows.unclosed
              (close_follows p T cs a v f (image p t)
              (ap (image p) brings ∙ total-product p large T enough (whole-fine rows.counted) (kind rows.same) all) rows.unclosed rows.counted),
        )
    answers-right (query.CloseClaim c) l e brings =
        let rows = claim-rows p a l c e in
        (refl, closed_at _ rows.unclosed (close_follows p T cs a v f c brings rows.unclosed rows.counted))
    answers-right (query.Message even cross odd) l e brings =
        let m = message_of3 even cross odd in
        let rows = message-rows p a l even cross odd e in
        let less : a.round < n = omega (arith, ltb-true a.round a.start.rounds rows.2, ap (λ s. s.rounds) f.start) in
        let next = message-follows p T cs a v f few listed m (brings ∙ ap (λ xs. message_at p T xs a.round) f.challenges) rows.0 less in (
          ap (λ (s : Replied). replies s.reply) next.0,
          subst (λ (s : Replied). Follows p T cs (hearing a (replies s.reply)) s.verifier) (sym next.0) next.1,
        )
    answers-right query.Verdict l e brings =
        let row = verdict-row p a l e in
        let parts = both a.closed (a.refuted || eqb a.round a.start.rounds) row in
        let last : a.round ≡ n =
        eqb-true a.round a.start.rounds (ap (λ b. b || eqb a.round a.start.rounds) (sym f.going) ∙ parts.1)
        ∙ ap (λ s. s.rounds) f.start in (
          ap said.finds (verdict-yes p T cs a v f few listed large enough parts.0 last),
          verdict-follows p T cs a v f few listed large enough parts.0 last (verdict-turn p a v f.stands ∙ row),
        )
    answers-right query.Proof l e brings =
        let rows = file-rows p a l e in
        let file = l.file in
        let reads : ReadsTrip p T cs file =
        subst (ReadsTrip p T cs) (sym (brings.0 ∙ ap (proof_of_trip p T) f.challenges))
        (file-reads p T cs large word few enough listed (whole-fine rows.counted) brings.1) in
        let found = file-yes rows.counted rows.unclosed (kind rows.same) file reads in (
          ap said.finds found,
          subst (λ d. Follows p T cs (hearing a (said.finds d)) (after_file p v (proof_total file) file)) (sym found)
              (subst (λ s. Follows p T cs (at_round a s.rounds false) (after_file p v (proof_total file) file)) (sym f.start)
              (file-follows rows.counted rows.unclosed (kind rows.same) file reads)),
        )
    answers-right (query.CheckOpening b) l e brings = (
      λ values.
          ap (λ xs. said.opens (opening_finds p v b xs))
          (values ∙ ap (λ ds. opening p n (at ds) (vector_f p T) (vector_g p T) b) f.challenges)
          ∙ ap said.opens (opening-holds (length a.items) v (carries p T cs a v f) b (opening-point p a l b e)),
      f,
    )
    answers-right (query.CheckBatch m z b) l e brings = (
      λ opens.
          let rows = batch-rows p a l m z b e in
          let some : 0 < n = subst (λ s. 0 < s.rounds) f.start (ltb-true 0 a.start.rounds rows.0) in
          ap (λ xs. said.finds (batch_finds p v z b xs l.logs))
          (opens.0 ∙ ap (λ ds. opening_of p n (at ds) (vector_f p T) b) f.challenges)
          ∙ ap said.finds (batch-holds p prime odd T.start few some cs listed (length a.items) v (carries p T cs a v f) z b rows.1 (vector_f p T) l.logs opens.1),
      f,
    )
