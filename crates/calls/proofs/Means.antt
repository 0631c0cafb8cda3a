-- ANSWERS: an answered call of a list that brings the trip's items and keeps the buffers answers what is meant.
use mathlib.Core.Path.{◌≡◌, refl, sym, ap, ap₂, subst, ◌∙◌}
use mathlib.Core.Bool.{Bool, true, false, cond, true≢false}
use mathlib.Core.List.{List, [], ◌∷◌, ◌++◌}
use mathlib.Core.Option.{none}
use Prim.Native.Nat.{ℕ, ◌*◌, ◌^◌, ◌<◌, ◌≤◌}
use lib.Dec.{leb}
use lib.ListN.{length}
use borrow.Author.Tests.{eqb-true, leb-true}
use Rattle.refusal.specs.Limit.{max_weight}
use Rattle.refusal.specs.Outcome.{Outcome, answered, refused, refused_at}
use Rattle.wire.specs.Proof.{proof_file}
use Rattle.vector.specs.Vector.{at, dot}
use Rattle.vector.specs.Slice.{all_reduced, is_nonzero}
use Rattle.kernel.proofs.KernelPass.{Taken}
use Rattle.phase.specs.declared.Next.{Next}
use Rattle.phase.specs.declared.Next.TheVariants as next
use Rattle.phase.specs.declared.Kind.{Kind}
use Rattle.phase.specs.declared.Kind.TheVariants.{Shut, Asked, Change}
use Rattle.phase.specs.Cases.{waits, is_full, is_open}
use Rattle.phase.specs.Order.{round_fits, kind_fits}
use Rattle.prover.specs.declared.Run.{Run}
use Rattle.pass.specs.declared.Pass.{Pass}
use Rattle.prover.specs.declared.Reply.TheVariants as answer
use Rattle.prover.specs.Reply.{answer_in}
use Rattle.prover.specs.Reply as reply
use Rattle.pass.specs.Values.{no_values}
use Rattle.pass.specs.Pass.{kernel_of}
use Rattle.prover.specs.Records.{Step, Out, answered_step}
use Rattle.prover.specs.Level.{level_of}
use Rattle.pass.specs.Open.{new_pass, no_points, points_of}
use Rattle.prover.specs.Open.{open_kernel, padded_kernel}
use Rattle.prover.specs.Close.{with_total, with_field_total, shut_pass}
use Rattle.prover.specs.Full.{message_turn, ends_turn, opening_turn, both_reduced, message_given, ends_given}
use Rattle.prover.specs.Opening.{opening_given}
use Rattle.prover.specs.Written.{run_proof}
use Rattle.prover.proofs.FullLaws as full
use Rattle.prover.proofs.FullLaws.{message-law, ends-law}
use Rattle.prover.proofs.OpeningLaws.{opening-law}
use Rattle.item.specs.declared.Given.{Given}
use Rattle.runs.specs.Trip.{Trip, vector_f, vector_g, total_of}
use Rattle.runs.specs.Passes.{pass_after, Gives}
use Rattle.runs.proofs.PassRecord.{after-kind, after-points}
use Rattle.runs.proofs.PassTrip.{after-dot, after_sum}
use Rattle.runs.proofs.CloseLaws.{closed-message, closed-ends, closed-opening}
use Rattle.calls.specs.declared.Call.TheVariants as call
use Rattle.calls.specs.Step.{Lent}
use Rattle.calls.specs.State.{State}
use Rattle.calls.specs.Table.{decided, long, both_long, read_rows, table}
use Rattle.calls.specs.Meaning.{Answer, meant, round_message, ends, opening_at, close_asks, fold_f, fold_g, messages_to, proof_of_trip}
use Rattle.calls.proofs.Records.{Notes, run_of, pass_of}
use Rattle.calls.proofs.Arrays.{array_take}
use Rattle.calls.proofs.Guards.{level-now, fold-long, message-decided, ends_decided, opening-decided}
use Rattle.calls.proofs.Steps.{row-passed, close_step}
use Rattle.calls.proofs.Fits.{given_at, Fits, few, run-formed, formed}
use Rattle.calls.proofs.Turns.{both}
use Rattle.calls.proofs.Agrees.{trip_at, Agrees, pass-whole}

-- what is in an answered outcome
abbrev step_in : Step → Outcome Step → Step
step_in d (answered s) = s
step_in d (refused k) = d
step_in d (refused_at k i) = d

abbrev out_in : Out → Outcome Out → Out
out_in d (answered o) = o
out_in d (refused k) = d
out_in d (refused_at k i) = d

same_step : {s t : Step} → answered s ≡ answered t → s ≡ t
same_step {s} {t} e = ap (step_in s) e

same_out : {s t : Out} → answered s ≡ answered t → s ≡ t
same_out {s} {t} e = ap (out_in s) e

-- an answer with its values
abbrev pub replied : Step → Answer
replied s = record { answer = answer_in s.answer; values = s.values }

abbrev pub replied_out : Out → Answer
replied_out o = record { answer = o.answer; values = o.values }

module _ (p : ℕ) (large : max_weight < p) (through : Bool) (its : List Given) (a : State) {past : Notes} (h : Fits p a past) where
  abbrev T : Trip
  T = trip_at its a

  abbrev R : Run
  R = run_of a past

  abbrev n : ℕ
  n = a.start.rounds

  abbrev cs : ℕ → ℕ
  cs = at a.turn.challenges

  -- THE CLOSE OF A PASS
  module _ (gives : Gives T a.pass.items) (all : length a.pass.items ≡ a.start.items) (whole : length its ≡ a.start.items) where
    abbrev S : Kind → Pass
    S k = pass_after p R k a.pass.point a.pass.items

    total-meant : (plain : Bool) → a.start.plain ≡ plain → a.turn.next ≡ next.Total
        → replied (cond plain (answered_step (with_total p R (S Asked).total) shut_pass (answer.Total (S Asked).total))
        (answered_step (with_field_total R (S Asked).dot) shut_pass (answer.FieldTotal (S Asked).dot)))
        ≡ record { answer = answered (cond plain (reply.total (total_of T)) (reply.field_total (dot p (2 ^ n) (vector_f p T) (vector_g p T)))); values = no_values }
    total-meant true k e =
        ap (λ z. record { answer = answered (reply.total z); values = no_values })
        (after_sum p R Asked a.pass.point a.pass.items (run-formed p a h) (ap (waits next.Total) e) h.pass.within all T refl gives whole)
    total-meant false k e =
        ap (λ z. record { answer = answered (reply.field_total z); values = no_values })
        (after-dot p R Asked a.pass.point a.pass.items (run-formed p a h) (ap (waits next.Total) e) k all T refl gives)

    taken-whole : a.pass.kind ≡ Asked → waits next.Total a.turn.next ≡ false
        → Taken p n cs (level_of R (S Asked).kind) (S Asked).points (vector_f p T) (vector_g p T) (2 ^ n) (kernel_of (S Asked))
    taken-whole ek other =
        subst (λ k. Taken p n cs (level_of R k) (S Asked).points (vector_f p T) (vector_g p T) (2 ^ n) (kernel_of (S Asked))) (sym (after-kind p R Asked a.pass.point a.pass.items))
        (pass-whole p its a h other gives all)

    -- an opening pass evaluates at its point
    opening-points : a.turn.next ≡ next.Openings → (S Asked).points ≡ points_of p a.pass.point
    opening-points et = after-points p R Asked a.pass.point a.pass.items ∙ ap (λ t. (cond (waits next.Openings t) (new_pass Asked (points_of p a.pass.point) (padded_kernel R)) (new_pass Asked no_points (open_kernel R))).points) et

    pub close-meant : (t : Next) (k : Kind) → a.turn.next ≡ t → a.pass.kind ≡ k → is_open k ≡ true → kind_fits k a.turn.mode t ≡ true
        → replied (close_step p R (S k) t k) ≡ meant p T a.turn.challenges (close_asks a t k)
    close-meant t Shut et ek op fit = absurd (true≢false (sym op))
    close-meant next.Total Asked et ek op fit = total-meant a.start.plain refl et
    close-meant next.Message Asked et ek op fit =
        ap replied (same_step (closed-message p cs (vector_f p T) (vector_g p T) R (S Asked) (run-formed p a h) (taken-whole ek (ap (waits next.Total) et)) et))
    close-meant next.Challenge Asked et ek op fit = refl
    close-meant next.Ends Asked et ek op fit =
        ap replied (same_step (closed-ends p cs (vector_f p T) (vector_g p T) R (S Asked) (run-formed p a h) (taken-whole ek (ap (waits next.Total) et)) et))
    close-meant next.Openings Asked et ek op fit =
        ap replied
        (same_step
        (closed-opening p cs (vector_f p T) (vector_g p T) R (S Asked) (run-formed p a h) (taken-whole ek (ap (waits next.Total) et)) et
        (after-kind p R Asked a.pass.point a.pass.items) a.pass.point (opening-points et)))
    close-meant t Change et ek op fit = refl

  -- IN FULL MODE: the buffers as lent hold the current fold
  places-lent : (f g : List ℕ) → long a ≤ length f → long a ≤ length g → ((j : ℕ) → j < long a → (at f j ≡ fold_f p T a j) × (at g j ≡ fold_g p T a j))
      → full.Lent p cs (vector_f p T) (vector_g p T) R f g
  places-lent f g lf lg same =
      let e = fold-long p a past (few p a h) in
      let l = level-now n (length a.turn.challenges) a.turn.next in
      record {
        first = rw (e, l) (record { long = lf; same = λ k less. (same k less).0 });
        second = rw (e, l) (record { long = lg; same = λ k less. (same k less).1 });
      }

  module _ (l : Lent) (same : (j : ℕ) → j < long a → (at l.f j ≡ fold_f p T a j) × (at l.g j ≡ fold_g p T a j)) (rows : read_rows p a l ≡ none) where
    lengths : (long a ≤ length l.f) × (long a ≤ length l.g)
    lengths =
        let q = both (leb (long a) (length l.f)) (leb (long a) (length l.g)) (row-passed (both_long a l) 9 _ rows).0 in
        (leb-true _ _ q.0, leb-true _ _ q.1)

    pub lent-full : full.Lent p cs (vector_f p T) (vector_g p T) R l.f l.g
    lent-full = places-lent l.f l.g lengths.0 lengths.1 same

    reduced : both_reduced p R l.f l.g ≡ true
    reduced =
        let q = both (all_reduced p (long a) l.f) (all_reduced p (long a) l.g) (row-passed _ 16 none (row-passed (both_long a l) 9 _ rows).1).0 in
        rw (fold-long p a past (few p a h), q.0, q.1)

    pub message-meant : table p a call.Message l ≡ none → a.turn.next ≡ next.Message → is_full a.turn.mode ≡ true
        → replied_out (message_given p R (pass_of p a past) l.f l.g) ≡ meant p T a.turn.challenges (round_message (length a.turn.challenges))
    message-meant e et f =
        let turn : message_turn p R (pass_of p a past) ≡ true = rw (formed p a h, f, et) in
        let law = message-law p cs (vector_f p T) (vector_g p T) R (pass_of p a past) l.f l.g lent-full reduced turn in
        let here = message-decided p a past (few p a h) (pass_of p a past) (formed p a h) l ∙ ap (λ t. decided t (answered (message_given p R (pass_of p a past) l.f l.g))) e in
        ap replied_out (same_out (sym here ∙ law))

    pub ends-meant : table p a call.Ends l ≡ none → a.turn.next ≡ next.Ends → is_full a.turn.mode ≡ true
        → replied_out (ends_given R (pass_of p a past) l.f l.g) ≡ meant p T a.turn.challenges ends
    ends-meant e et f =
        let turn : ends_turn p R (pass_of p a past) ≡ true = rw (formed p a h, f, et) in
        let law = ends-law p cs (vector_f p T) (vector_g p T) R (pass_of p a past) l.f l.g lent-full reduced turn in
        let here = ends_decided p a past (few p a h) (pass_of p a past) (formed p a h) l ∙ ap (λ t. decided t (answered (ends_given R (pass_of p a past) l.f l.g))) e in
        ap replied_out (same_out (sym here ∙ law))

    pub opening-meant : (b : ℕ) → table p a (call.Opening b) l ≡ none → opening_turn p R (pass_of p a past) ≡ true → is_nonzero p b ≡ true
        → ((j : ℕ) → j < n → at R.challenges j ≡ cs j)
        → replied_out (opening_given p R (pass_of p a past) b l.f l.g) ≡ meant p T a.turn.challenges (opening_at b)
    opening-meant b e turn ok agree =
        let law = opening-law p cs (vector_f p T) (vector_g p T) R (pass_of p a past) l.f l.g lent-full reduced agree b turn ok in
        let here = opening-decided p a past (few p a h) (pass_of p a past) (formed p a h) b l ∙ ap (λ t. decided t (answered (opening_given p R (pass_of p a past) b l.f l.g))) e in
        ap replied_out (same_out (sym here ∙ law))

  -- THE PROOF FILE
  pub file-meant : (g : Agrees p through its a past) → a.start.plain ≡ true → a.turn.next ≡ next.Openings → run_proof R ≡ proof_of_trip p T a.turn.challenges
  file-meant g plain et =
      let full : length a.turn.challenges ≡ n = eqb-true _ _ (subst (λ t. round_fits t (length a.turn.challenges) n ≡ true) et h.run.round) in
      let count : length past.messages ≡ 3 * n = h.run.given ∙ ap (λ t. 3 * given_at (length a.turn.challenges) t) et ∙ ap (λ k. 3 * k) full in
      let given : past.messages ≡ messages_to p T a.turn.challenges n =
      g.messages plain ∙ ap (λ t. messages_to p T a.turn.challenges (given_at (length a.turn.challenges) t)) et ∙ ap (messages_to p T a.turn.challenges) full in
      let e = g.ends plain (ap (waits next.Openings) et) in
      let z : past.total ≡ total_of T = g.total plain (ap (waits next.Total) et) in
      ap₂ (λ z ms. proof_file n z (ms ++ past.fend ∷ past.gend ∷ [])) z (array_take 45 past.messages (3 * n) count ∙ given)
      ∙ ap₂ (λ x y. proof_file n (total_of T) (messages_to p T a.turn.challenges n ++ x ∷ y ∷ [])) e.0 e.1
