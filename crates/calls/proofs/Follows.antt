-- The records after an answered call stand for the state after it.
use mathlib.Core.Path.{◌≡◌, refl, sym, ap, ap₂, subst, ◌∙◌}
use mathlib.Core.Bool.{Bool, true, false, cond, not, ◌&&◌, ◌||◌, true≢false}
use mathlib.Core.List.{List, [], ◌∷◌, ◌++◌}
use mathlib.Core.Logic.{⊎_elim}
use mathlib.Core.Option.{none}
use Prim.Native.Nat.{ℕ, zero, suc, ◌+◌, ◌*◌, ◌/◌, ◌^◌, ◌<◌, ◌≤◌}
use native.Mathlib.Numerals.{add-one}
use native.Mathlib.Omega.{arith}
use lib.Dec.{eqb, ltb}
use lib.IntN.{ℤ}
use Rattle.refusal.specs.Outcome.{answered}
use lib.ListN.{length, length-append, get_or, set, get_or-eq_default}
use borrow.Author.Tests.{ltb-true, ltb-false, eqb-true, eq-eqb}
use Rattle.refusal.specs.Limit.{max_weight}
use Rattle.algebra.proofs.Congruence.{base-of}
use Rattle.field.specs.Total.{in_limits}
use Rattle.algebra.specs.Mod.{add_mod}
use Rattle.field.specs.Integer.{image}
use Rattle.field.proofs.Integers.{image-lt}
use Rattle.vector.specs.Vector.{at}
use Rattle.vector.specs.Rounds.{size}
use Rattle.vector.specs.Message.{Message, next_claim}
use Rattle.claim.specs.Claim.{message_of3}
use Rattle.vector.specs.Slice.{all_reduced, message_slice}
use Rattle.vector.proofs.Rounds.{rounds-enough, size-last}
use Rattle.vector.proofs.Every.{all-reduced_iff}
use Rattle.phase.proofs.Facts.{waits-for}
use Rattle.phase.specs.declared.Mode.{Mode}
use Rattle.phase.specs.declared.Mode.TheVariants.{Small, Full}
use Rattle.phase.specs.declared.Next.{Next}
use Rattle.phase.specs.declared.Next.TheVariants as next
use Rattle.phase.specs.declared.Kind.{Kind}
use Rattle.phase.specs.declared.Kind.TheVariants.{Shut, Asked, Change}
use Rattle.phase.specs.Cases.{waits, is_change, is_full, is_open}
use Rattle.phase.specs.Level.{level_at}
use Rattle.phase.specs.Order.{round_or_ends, round_fits, kind_fits}
use Rattle.prover.specs.declared.Run.{Run}
use Rattle.pass.specs.declared.Pass.{Pass}
use Rattle.prover.specs.declared.Reply.TheVariants as answer
use Rattle.prover.specs.Reply as reply
use Rattle.prover.specs.Reply.{answer_in}
use Rattle.prover.specs.Records.{Step, answered_step}
use Rattle.prover.specs.Level.{fold_size}
use Rattle.prover.specs.Close.{run_with, with_total, with_field_total, messages_with, with_message, shut_pass}
use Rattle.prover.specs.Take.{takes}
use Rattle.prover.specs.Full.{message_given}
use Rattle.prover.specs.Challenge.{kept_message, kept_challenge, challenged_full}
use Rattle.item.specs.declared.Start.{Start}
use Rattle.item.specs.declared.Given.{Given}
use Rattle.item.specs.declared.Given.TheVariants.{Reading, Numbers}
use Rattle.item.specs.Item.{contributes}
use Rattle.runs.specs.Passes.{pass_after}
use Rattle.runs.specs.Items.{Within, AllWithin}
use Rattle.runs.proofs.PassTotal.{after-total}
use Rattle.runs.proofs.PassRecord.{takes_run, after-item}
use Rattle.runs.proofs.PassTrip.{own-dot}
use Rattle.runs.proofs.CloseLaws.{residue-below}
use Rattle.calls.specs.declared.Call.TheVariants as call
use Rattle.calls.specs.Step.{Lent, Result, leaving}
use Rattle.calls.specs.State.{State, in_pass, goes_to, with_buffers, in_mode, takes_challenge, buffers_in, goes_on, closed}
use Rattle.calls.specs.Claim.{moved_to}
use Rattle.calls.specs.Table.{changes_next, level_now, long, both_long, total_fits, table}
use Rattle.calls.proofs.Records.{Notes, noted, in_array, run_of, pass_of}
use Rattle.calls.proofs.Arrays as arrays
use Rattle.calls.proofs.Arrays.{array_next, message-at, message-newest}
use Rattle.calls.proofs.Guards.{challenge_does}
use Rattle.calls.proofs.Steps.{row-passed, keeping_step, close_step, does}
use Rattle.calls.proofs.Turns.{both, pass_kind, openings_kind, change_kind, full_shut, challenge_shut}
use Rattle.item.specs.Mark.{counts_as}
use Rattle.calls.proofs.ItemRows.{Limits, item-admitted}
use Rattle.calls.proofs.Fits.{Fine, given_at, given_round, RunFits, PassFits, Fits, lt_or_le, few, run-formed, kind-is}
use Rattle.calls.proofs.Numbers.{own-message, own-ends, slice_below}
use Rattle.calls.proofs.HeardTrip as heard

-- what holds of a result o, and of the state that follows
pub record Follows (p : ℕ) (a : State) (past : Notes) (o : Result) : Type 0 where
  pub run : o.run ≡ run_of a past
  pub pass : o.pass ≡ pass_of p a past
  pub fits : Fits p a past

module _ (p : ℕ) (large : max_weight < p) where
  pub positive : 0 < p
  positive = omega arith

  -- nothing taken
  pub no_items : (s : Start) (m : Mode) (t : Next) (k : Kind) → kind_fits k m t ≡ true → PassFits p s m t k []
  unfolding AllWithin
  no_items s m t k h = record { kind = h; idle = λ e. refl; count = omega arith; within = tt; own = λ q l. absurd (omega arith) }

  -- A PASS IS OPENED
  pub open_follows : (a : State) {past : Notes} → Fits p a past → (l : Lent) → table p a call.OpenPass l ≡ none
      → (let o : Result = does p (run_of a past) (pass_of p a past) call.OpenPass l in Follows p (in_pass a Asked 0 []) past o)
  unfolding table pass_after
  open_follows a {past} h l e =
      let q = pass_kind a.turn.mode a.turn.next (row-passed _ 10 none e).0 in
      record {
        run = refl;
        pass = rw q.1;
        fits = record { run = h.run; pass = no_items a.start a.turn.mode a.turn.next Asked q.0 };
      }

  pub open_at_follows : (a : State) {past : Notes} → Fits p a past → (b : ℕ) (l : Lent) → table p a (call.OpenAt b) l ≡ none
      → (let o : Result = does p (run_of a past) (pass_of p a past) (call.OpenAt b) l in Follows p (in_pass a Asked b []) past o)
  unfolding table pass_after
  open_at_follows a {past} h b l e =
      let q = openings_kind a.turn.mode a.turn.next a.start.rounds (row-passed _ 10 _ e).0 in
      record {
        run = refl;
        pass = rw q.1;
        fits = record { run = h.run; pass = no_items a.start a.turn.mode a.turn.next Asked q.0 };
      }

  pub to_full_follows : (a : State) {past : Notes} → Fits p a past → (l : Lent) → table p a call.ToFull l ≡ none
      → (let o : Result = does p (run_of a past) (pass_of p a past) call.ToFull l in Follows p (with_buffers (in_pass a Change 0 []) o.lent) past o)
  unfolding table pass_after
  to_full_follows a {past} h l e =
      let q = change_kind a.turn.mode a.turn.next a.start.rounds (row-passed _ 10 _ e).0 in
      record {
        run = refl;
        pass = refl;
        fits = record { run = h.run; pass = no_items a.start a.turn.mode a.turn.next Change q };
      }

  -- AN ITEM IS TAKEN
  one_more_lem : (s : Start) (m : Mode) (t : Next) (k : Kind) (xs : List Given) (x : Given) → PassFits p s m t k xs → is_open k ≡ true → length xs < s.items
      → Within s x → heard.Fine p s.plain x → PassFits p s m t k (x ∷ xs)
  unfolding AllWithin
  one_more_lem s m t k xs x h o l w own =
      record { kind = h.kind; idle = λ e. absurd (true≢false (sym o ∙ ap is_open e)); count = omega arith; within = (w, h.within); own = owns }
    where
      owns : (q : ℕ) → q < length (x ∷ xs) → heard.Fine p s.plain (get_or (x ∷ xs) q (Numbers 0 0))
      owns zero l = own
      owns (suc q) l = h.own q (omega arith)

  -- with the buffers or without
  with_or_without : (b : Bool) (a : State) {past : Notes} (l : Lent) (o : Result) → Follows p a past o → Follows p (buffers_in b a l) past o
  with_or_without true a l o h = record { run = h.run; pass = h.pass; fits = record { run = h.fits.run; pass = h.fits.pass } }
  with_or_without false a l o h = h

  take_follows : (a : State) {past : Notes} → Fits p a past → (x : Given) (l m : Lent) → is_open a.pass.kind ≡ true → length a.pass.items < a.start.items → Within a.start x → heard.Fine p a.start.plain x
      → (o : Result) → o.run ≡ run_of a past → o.pass ≡ (takes p (run_of a past) (pass_of p a past) (contributes p a.start x) l.f l.g).pass
      → Follows p (buffers_in (is_change a.pass.kind) (in_pass a a.pass.kind a.pass.point (x ∷ a.pass.items)) m) past o
  take_follows a {past} h x l m op less w own o er ep =
      with_or_without (is_change a.pass.kind) (in_pass a a.pass.kind a.pass.point (x ∷ a.pass.items)) m o
      (record {
        run = er;
        pass = ep ∙ after-item p (run_of a past) a.pass.kind a.pass.point a.pass.items x l.f l.g;
        fits = record { run = h.run; pass = one_more_lem a.start a.turn.mode a.turn.next a.pass.kind a.pass.items x h.pass op less w own };
      })

  -- an item within its limits
  within : (s : Start) (x : Given) → Limits p s x → Within s x
  within s (Reading z w) h = h
  within s (Numbers a b) h = tt

  image-below : (z : ℤ) → image p z < p
  image-below z = omega (arith, image-lt p z, base-of p positive)

  -- both numbers of an item of the run's kind are field numbers
  fine : (s : Start) (kind : Bool) (x : Given) → heard.Fine p kind x → Fine p s x
  fine s true (Reading z w) h = (image-below (counts_as s.version z), omega arith)
  fine s true (Numbers a b) h = absurd h
  fine s false (Reading z w) h = absurd h
  fine s false (Numbers a b) h = h

  all-fine : (s : Start) (m : Mode) (t : Next) (k : Kind) (xs : List Given) → PassFits p s m t k xs → (q : ℕ) → Fine p s (get_or xs q (Numbers 0 0))
  all-fine s m t k xs h q =
      ⊎_elim (λ (l : q < length xs). fine s s.plain (get_or xs q (Numbers 0 0)) (h.own q l))
      (λ (l : length xs ≤ q). subst (Fine p s) (sym (get_or-eq_default xs (Numbers 0 0) {n = q} l)) (positive, positive)) (lt_or_le q (length xs))

  pub item-follows : (a : State) {past : Notes} → Fits p a past → (x : Given) (l : Lent)
      → table p a (call.Give x) l ≡ none
      → (let o : Result = does p (run_of a past) (pass_of p a past) (call.Give x) l in Follows p (goes_on a (call.Give x) o.lent) past o)
  item-follows a {past} h x l e =
      let q = item-admitted p a l x e in
      take_follows a h x l (does p (run_of a past) (pass_of p a past) (call.Give x) l).lent q.opened q.more (within a.start x q.limits) q.own
      (does p (run_of a past) (pass_of p a past) (call.Give x) l) (takes_run p (run_of a past) (pass_of p a past) (contributes p a.start x) l.f l.g) refl

  -- WHAT IS NEXT after the total and after a challenge
  round-next : (i n : ℕ) → i ≤ n → round_fits (round_or_ends i n) i n ≡ true
  round-next i n h = by (ltb i n) refl
    where
      by : (b : Bool) → ltb i n ≡ b → round_fits (cond b next.Message next.Ends) i n ≡ true
      by true e = e
      by false e = eq-eqb i n (omega (arith, ltb-false i n e))

  pub shut_items : (s : Start) (m : Mode) (t : Next) → PassFits p s m t Shut []
  shut_items s m t = no_items s m t Shut refl

  -- THE TOTAL IS GIVEN
  total-fits : (a : State) {past : Notes} → Fits p a past → a.turn.next ≡ next.Total → (z : ℤ) → in_limits p z ≡ true → (claim : ℕ) → claim < p
      → RunFits p a.start (round_or_ends 0 a.start.rounds) a.turn.challenges z past.messages (moved_to past.running claim) past.fend past.gend
  total-fits a {past} h e z fits claim below =
      let r = h.run in
      let none_yet : length a.turn.challenges ≡ 0 = eqb-true _ _ (subst (λ t. round_fits t (length a.turn.challenges) a.start.rounds ≡ true) e r.round) in
      let no-message : length past.messages ≡ 0 = r.given ∙ ap (λ t. 3 * given_at (length a.turn.challenges) t) e in
      let q = given_round 0 a.start.rounds in
      record {
        version = r.version;
        some = r.some;
        most = r.most;
        rounds = r.rounds;
        total = fits;
        below = r.below;
        fend = r.fend;
        gend = r.gend;
        round = rw none_yet (round-next 0 a.start.rounds (omega arith));
        given = no-message ∙ rw none_yet (ap (λ k. 3 * k) (sym q.0));
        last = λ w. absurd (true≢false (sym w ∙ q.2));
        claim = below;
      }

  -- A MESSAGE IS GIVEN
  message-below : (ms : List ℕ) (x y z : ℕ) → ((j : ℕ) → at ms j < p) → x < p → y < p → z < p → (j : ℕ) → at (ms ++ x ∷ y ∷ z ∷ []) j < p
  message-below [] x y z h lx ly lz zero = lx
  message-below [] x y z h lx ly lz (suc zero) = ly
  message-below [] x y z h lx ly lz (suc (suc zero)) = lz
  message-below [] x y z h lx ly lz (suc (suc (suc j))) = positive
  message-below (m ∷ ms) x y z h lx ly lz zero = h 0
  message-below (m ∷ ms) x y z h lx ly lz (suc j) = message-below ms x y z (λ j. h (suc j)) lx ly lz j

  message-fits : (a : State) {past : Notes} → Fits p a past → a.turn.next ≡ next.Message → (x y z : ℕ) → x < p → y < p → z < p
      → RunFits p a.start next.Challenge a.turn.challenges past.total (past.messages ++ x ∷ y ∷ z ∷ []) (record { claim = past.running.claim; message = message_of3 x y z }) past.fend past.gend
  message-fits a {past} h e x y z lx ly lz =
      let r = h.run in
      let round : round_fits next.Message (length a.turn.challenges) a.start.rounds ≡ true = subst (λ t. round_fits t (length a.turn.challenges) a.start.rounds ≡ true) e r.round in
      let given : length past.messages ≡ 3 * length a.turn.challenges = r.given ∙ ap (λ t. 3 * given_at (length a.turn.challenges) t) e in
      record {
        version = r.version;
        some = r.some;
        most = r.most;
        rounds = r.rounds;
        total = r.total;
        fend = r.fend;
        gend = r.gend;
        round = round;
        given = omega (arith, length-append past.messages (x ∷ y ∷ z ∷ []));
        last = λ w. message-newest past.messages (length a.turn.challenges) x y z given;
        claim = r.claim;
        below = message-below past.messages x y z r.below lx ly lz;
      }

  -- THE ENDS ARE GIVEN
  ends-fits : (a : State) {past : Notes} → Fits p a past → a.turn.next ≡ next.Ends → (x y : ℕ) → x < p → y < p
      → RunFits p a.start next.Openings a.turn.challenges past.total past.messages past.running x y
  ends-fits a {past} h e x y lx ly =
      let r = h.run in
      record {
        version = r.version;
        some = r.some;
        most = r.most;
        rounds = r.rounds;
        total = r.total;
        below = r.below;
        fend = lx;
        gend = ly;
        round = subst (λ t. round_fits t (length a.turn.challenges) a.start.rounds ≡ true) e r.round;
        given = r.given ∙ ap (λ t. 3 * given_at (length a.turn.challenges) t) e;
        last = λ w. absurd (true≢false (sym w));
        claim = r.claim;
      }

  -- A CHALLENGE IS TAKEN
  next-below : (m : Message) (c : ℕ) → next_claim p m c < p
  unfolding add_mod
  next-below m c = residue-below p positive _

  challenge-fits : (a : State) {past : Notes} → Fits p a past → a.turn.next ≡ next.Challenge → (c : ℕ)
      → RunFits p a.start (takes_challenge a c).turn.next (a.turn.challenges ++ c ∷ []) past.total past.messages
      (moved_to past.running (next_claim p past.running.message c)) past.fend past.gend
  challenge-fits a {past} h e c =
      let r = h.run in
      let cs : List ℕ = a.turn.challenges ++ c ∷ [] in
      let less : length a.turn.challenges < a.start.rounds = ltb-true _ _ (subst (λ t. round_fits t (length a.turn.challenges) a.start.rounds ≡ true) e r.round) in
      let given : length past.messages ≡ 3 * suc (length a.turn.challenges) = r.given ∙ ap (λ t. 3 * given_at (length a.turn.challenges) t) e in
      let long : length cs ≡ suc (length a.turn.challenges) = length-append a.turn.challenges (c ∷ []) ∙ add-one (length a.turn.challenges) in
      let q = given_round (length cs) a.start.rounds in
      record {
        version = r.version;
        some = r.some;
        most = r.most;
        rounds = r.rounds;
        total = r.total;
        below = r.below;
        fend = r.fend;
        gend = r.gend;
        round = round-next (length cs) a.start.rounds (omega arith);
        given = given ∙ ap (λ k. 3 * k) (sym long ∙ sym q.0);
        last = λ w. absurd (true≢false (sym w ∙ q.2));
        claim = next-below past.running.message c;
      }

  -- A PASS IS CLOSED
  given-message : (r : Run) (even cross odd : ℕ) (messages : List ℕ) → messages_with r.messages r.round even cross odd ≡ messages
      → with_message r even cross odd ≡ record {
        start = r.start;
        mode = r.mode;
        next = next.Challenge;
        round = r.round;
        challenges = r.challenges;
        messages = messages;
        total = r.total;
        claim = r.claim;
        fend = r.fend;
        gend = r.gend;
      }
  given-message r even cross odd messages e = rw e

  message-round : (a : State) {past : Notes} → Fits p a past → a.turn.next ≡ next.Message → (length a.turn.challenges < a.start.rounds) × (length past.messages ≡ 3 * length a.turn.challenges)
  message-round a {past} h e = (
    ltb-true _ _ (subst (λ t. round_fits t (length a.turn.challenges) a.start.rounds ≡ true) e h.run.round),
    h.run.given ∙ ap (λ t. 3 * given_at (length a.turn.challenges) t) e,
  )

  -- the run after a message, in either mode
  message-run : (a : State) {past : Notes} → Fits p a past → a.turn.next ≡ next.Message → (even cross odd : ℕ)
      → with_message (run_of a past) even cross odd ≡ run_of (goes_to a next.Challenge) (noted p call.Message past (answered (reply.message even cross odd)))
  message-run a {past} h e even cross odd =
      let q = message-round a h e in
      given-message (run_of a past) even cross odd (in_array 45 (past.messages ++ even ∷ cross ∷ odd ∷ []))
      (arrays.message-next past.messages (length a.turn.challenges) even cross odd q.1 (omega (arith, q.0, few p a h)))

  module _ (a : State) {past : Notes} (h : Fits p a past) (l : Lent) (all : length a.pass.items ≡ a.start.items) where
    abbrev R : Run
    R = run_of a past

    abbrev S : Kind → Pass
    S k = pass_after p R k a.pass.point a.pass.items

    enough : a.start.items ≤ 2 ^ a.start.rounds
    enough = subst (λ n. a.start.items ≤ 2 ^ n) (sym h.run.rounds) (rounds-enough a.start.items h.run.most)

    total-closed : (plain : Bool) → a.start.plain ≡ plain → a.turn.next ≡ next.Total → (plain ≡ true → in_limits p (S Asked).total ≡ true)
        → (let st : Step = cond plain (answered_step (with_total p R (S Asked).total) shut_pass (answer.Total (S Asked).total))
        (answered_step (with_field_total R (S Asked).dot) shut_pass (answer.FieldTotal (S Asked).dot)) in
        Follows p (goes_to a (round_or_ends 0 a.start.rounds)) (noted p call.Close past (answer_in st.answer)) (keeping_step l st))
    unfolding pass_after
    total-closed true e et fits =
        record { run = refl; pass = refl; fits = record { run = total-fits a h et (S Asked).total (fits refl) _ (image-below (S Asked).total); pass = shut_items a.start a.turn.mode _ } }
    total-closed false e et fits =
        record { run = refl; pass = refl; fits = record { run = total-fits a h et past.total h.run.total _ (subst (λ x. x < p) (sym (own-dot p R Asked a.pass.point a.pass.items (run-formed p a h) (ap (waits next.Total) et) e all)) (residue-below p positive _)); pass = shut_items a.start a.turn.mode _ } }

    close-core : (t : Next) (k : Kind) → a.turn.next ≡ t → is_open k ≡ true → kind_fits k a.turn.mode t ≡ true → (a.start.plain ≡ true → t ≡ next.Total → in_limits p (S Asked).total ≡ true)
        → (let st : Step = close_step p R (S k) t k in Follows p (closed a t k) (noted p call.Close past (answer_in st.answer)) (keeping_step l st))
    unfolding pass_after
    close-core t Shut et op fit fits = absurd (true≢false (sym op))
    close-core next.Total Asked et op fit fits = total-closed a.start.plain refl et (λ e. fits e refl)
    close-core next.Message Asked et op fit fits =
        let q = message-round a h et in
        let b = own-message p positive R a.pass.items (all-fine _ _ _ _ _ h.pass) a.pass.point (run-formed p a h) all (ap (waits next.Total) et) enough (length a.turn.challenges)
        (ap (λ t. level_at a.start.rounds (length a.turn.challenges) t Asked) et) q.0 in
        record {
          run = message-run a h et (S Asked).even (S Asked).cross (S Asked).odd;
          pass = refl;
          fits = record { run = message-fits a h et _ _ _ b.0 b.1 b.2; pass = shut_items a.start a.turn.mode _ };
        }
    close-core next.Challenge Asked et op fit fits = absurd (no-pass a.turn.mode fit)
      where
        no-pass : (m : Mode) → kind_fits Asked m next.Challenge ≡ true → ⊥
        no-pass Small e = true≢false (sym e)
        no-pass Full e = true≢false (sym e)
    close-core next.Ends Asked et op fit fits =
        let b = own-ends p positive R a.pass.items (all-fine _ _ _ _ _ h.pass) a.pass.point (run-formed p a h) all (ap (waits next.Total) et) enough et in
        record { run = refl; pass = refl; fits = record { run = ends-fits a h et _ _ b.0 b.1; pass = shut_items a.start a.turn.mode _ } }
    close-core next.Openings Asked et op fit fits =
        record {
          run = ap (λ t. run_with R t R.messages R.total R.claim R.fend R.gend) et;
          pass = refl;
          fits = record { run = subst (λ t. RunFits p a.start t a.turn.challenges past.total past.messages past.running past.fend past.gend) et h.run; pass = shut_items a.start a.turn.mode _ };
        }
    close-core t Change et op fit fits =
        record { run = refl; pass = refl; fits = record { run = h.run; pass = shut_items a.start Full a.turn.next } }

  limit-of : (first plain inside : Bool) → (not (first && plain) || inside) ≡ true → first ≡ true → plain ≡ true → inside ≡ true
  limit-of true true inside e f g = e
  limit-of true false inside e f g = absurd (true≢false (sym g))
  limit-of false plain inside e f g = absurd (true≢false (sym f))

  pub close_follows : (a : State) {past : Notes} → Fits p a past → (l : Lent) → table p a call.Close l ≡ none
      → (let o : Result = does p (run_of a past) (pass_of p a past) call.Close l in Follows p (goes_on a call.Close o.lent) (noted p call.Close past o.answer) o)
  unfolding table
  close_follows a {past} h l e =
      let q = row-passed (is_open a.pass.kind) 10 _ e in
      let u = row-passed (eqb (length a.pass.items) a.start.items) 8 _ q.1 in
      let v = row-passed (total_fits p a) 7 none u.1 in
      let all = eqb-true _ _ u.0 in
      subst (λ k. (let st : Step = close_step p (run_of a past) (pass_of p a past) a.turn.next k in Follows p (closed a a.turn.next a.pass.kind) (noted p call.Close past (answer_in st.answer)) (keeping_step l st)))
      (sym (kind-is p a h))
      (close-core a h l all a.turn.next a.pass.kind refl q.0 h.pass.kind
      (λ plain first.
      ap (in_limits p) (after-total p (run_of a past) Asked a.pass.point (ap (waits next.Total) first) a.pass.items h.pass.within (omega (arith, h.pass.count, h.run.most)))
      ∙ limit-of (waits next.Total a.turn.next) a.start.plain _ v.0 (ap (waits next.Total) first) plain))

  -- the closed pass is the same of any run
  shut_same : (r r' : Run) (k : Kind) (b : ℕ) (xs : List Given) → k ≡ Shut → xs ≡ [] → pass_after p r k b xs ≡ pass_after p r' Shut 0 []
  unfolding pass_after
  shut_same r r' k b xs ek ex = rw (ek, ex)

  shut_pass_lem : (a : State) {past : Notes} → Fits p a past → a.pass.kind ≡ Shut → (r : Run) → pass_of p a past ≡ pass_after p r Shut 0 []
  shut_pass_lem a {past} h e r = shut_same (run_of a past) r a.pass.kind a.pass.point a.pass.items e (h.pass.idle e)

  pub message-follows : (a : State) {past : Notes} → Fits p a past → (l : Lent) → table p a call.Message l ≡ none
      → (let o : Result = does p (run_of a past) (pass_of p a past) call.Message l in Follows p (goes_on a call.Message o.lent) (noted p call.Message past o.answer) o)
  unfolding table message_given
  message-follows a {past} h l e =
      let q = both (is_full a.turn.mode) (waits next.Message a.turn.next) (row-passed _ 10 _ e).0 in
      let et = waits-for next.Message a.turn.next q.1 in
      let m : Message = message_slice p (fold_size (run_of a past) / 2) l.f l.g in
      let b = slice_below p positive (fold_size (run_of a past) / 2) l.f l.g in
      record {
        run = message-run a h et m.even m.cross m.odd;
        pass = shut_pass_lem a h (full_shut a.pass.kind a.turn.mode a.turn.next q.0 h.pass.kind) _;
        fits = record { run = message-fits a h et m.even m.cross m.odd b.0 b.1 b.2; pass = shut_items a.start a.turn.mode next.Challenge };
      }

  -- the first place of a fold is a field number where all of its places are
  first-place : (a : State) (f : List ℕ) → 0 < long a → all_reduced p (long a) f ≡ true → at f 0 < p
  first-place a f there e = (all-reduced_iff p (long a) f).0 e 0 there

  pub to_small_follows : (a : State) {past : Notes} → Fits p a past → (l : Lent) → table p a call.ToSmall l ≡ none
      → (let o : Result = does p (run_of a past) (pass_of p a past) call.ToSmall l in Follows p (in_mode a Small) past o)
  unfolding table
  to_small_follows a h l e =
      let full = (both (is_full a.turn.mode) (changes_next a.turn.next a.start.rounds) (row-passed _ 10 none e).0).0 in
      record {
        run = refl;
        pass = shut_pass_lem a h (full_shut a.pass.kind a.turn.mode a.turn.next full h.pass.kind) _;
        fits = record { run = h.run; pass = shut_items a.start Small a.turn.next };
      }

  pub ends-follows : (a : State) {past : Notes} → Fits p a past → (l : Lent) → table p a call.Ends l ≡ none
      → (let o : Result = does p (run_of a past) (pass_of p a past) call.Ends l in Follows p (goes_on a call.Ends o.lent) (noted p call.Ends past o.answer) o)
  unfolding table
  ends-follows a {past} h l e =
      let r = row-passed (is_full a.turn.mode && waits next.Ends a.turn.next) 10 _ e in
      let q = both (is_full a.turn.mode) (waits next.Ends a.turn.next) r.0 in
      let et = waits-for next.Ends a.turn.next q.1 in
      let one : long a ≡ 1 = ap (λ t. size a.start.rounds (level_now a.start.rounds (length a.turn.challenges) 0 t)) et ∙ size-last a.start.rounds in
      let u = both (all_reduced p (long a) l.f) (all_reduced p (long a) l.g) (row-passed _ 16 none (row-passed (both_long a l) 9 _ r.1).1).0 in
      record {
        run = refl;
        pass = shut_pass_lem a h (full_shut a.pass.kind a.turn.mode a.turn.next q.0 h.pass.kind) _;
        fits = record {
          run = ends-fits a h et (at l.f 0) (at l.g 0) (first-place a l.f (omega arith) u.0) (first-place a l.g (omega arith) u.1);
          pass = shut_items a.start a.turn.mode next.Openings;
        };
      }

  -- the run after a challenge, in either mode
  abbrev next_run : Run → ℕ → List ℕ → ℕ → Run
  next_run r k cs claim =
      record {
        start = r.start;
        mode = r.mode;
        next = round_or_ends k r.start.rounds;
        round = k;
        challenges = cs;
        messages = r.messages;
        total = r.total;
        claim = claim;
        fend = r.fend;
        gend = r.gend;
      }

  given-challenge : (r : Run) (c k : ℕ) (cs : List ℕ) (m : Message) → r.round + 1 ≡ k → set r.challenges r.round c ≡ cs → kept_message r.messages r.round ≡ m
      → kept_challenge p r c ≡ next_run r k cs (next_claim p m c)
  given-challenge r c k cs m long kept last =
      ap₂ (λ k cs. next_run r k cs (next_claim p (kept_message r.messages r.round) c)) long kept ∙ ap (λ m. next_run r k cs (next_claim p m c)) last

  abbrev challenge_noted : ℕ → Notes → Notes
  challenge_noted c past = noted p (call.Challenge c) past (answered reply.challenged)

  challenge-run : (a : State) {past : Notes} → Fits p a past → a.turn.next ≡ next.Challenge → (c : ℕ)
      → kept_challenge p (run_of a past) c ≡ run_of (takes_challenge a c) (challenge_noted c past)
  challenge-run a {past} h e c =
      let i : ℕ = length a.turn.challenges in
      let cs : List ℕ = a.turn.challenges ++ c ∷ [] in
      let less : i < a.start.rounds = ltb-true _ _ (subst (λ t. round_fits t i a.start.rounds ≡ true) e h.run.round) in
      let given : length past.messages ≡ 3 * suc i = h.run.given ∙ ap (λ t. 3 * given_at i t) e in
      given-challenge (run_of a past) c (length cs) (in_array 15 cs) past.running.message (sym (length-append a.turn.challenges (c ∷ [])))
      (array_next 15 a.turn.challenges c (omega (arith, less, few p a h)))
      (message-at 45 past.messages i (omega arith) ∙ h.run.last (ap (waits next.Challenge) e))

  pub challenge-follows : (a : State) {past : Notes} → Fits p a past → (c : ℕ) (l : Lent) → table p a (call.Challenge c) l ≡ none
      → (let o : Result = does p (run_of a past) (pass_of p a past) (call.Challenge c) l in Follows p (goes_on a (call.Challenge c) o.lent) (noted p (call.Challenge c) past o.answer) o)
  unfolding table challenged_full
  challenge-follows a {past} h c l e =
      let et = waits-for next.Challenge a.turn.next (row-passed (waits next.Challenge a.turn.next) 10 _ e).0 in
      let shut : a.pass.kind ≡ Shut = challenge_shut a.pass.kind a.turn.mode (subst (λ t. kind_fits a.pass.kind a.turn.mode t ≡ true) et h.pass.kind) in
      by a.turn.mode (challenge-run a h et c) (shut_pass_lem a h shut (run_of (takes_challenge a c) (challenge_noted c past)))
      (record { run = challenge-fits a h et c; pass = shut_items a.start a.turn.mode (takes_challenge a c).turn.next })
    where
      by : (m : Mode) → kept_challenge p (run_of a past) c ≡ run_of (takes_challenge a c) (challenge_noted c past)
          → pass_of p a past ≡ pass_after p (run_of (takes_challenge a c) (challenge_noted c past)) Shut 0 [] → Fits p (takes_challenge a c) (challenge_noted c past)
          → (let o : Result = leaving l (challenge_does p (run_of a past) (pass_of p a past) c l m) in Follows p (buffers_in (is_full m) (takes_challenge a c) o.lent) (noted p (call.Challenge c) past o.answer) o)
      by Small r s f = record { run = r; pass = s; fits = f }
      by Full r s f = record { run = r; pass = s; fits = record { run = f.run; pass = f.pass } }
