-- THE SECOND LAYER: where every answered call brings the trip's items and keeps the buffers, every call of the list comes out right.
use mathlib.Core.Path.{◌≡◌, refl, sym, ap, subst, ◌∙◌}
use mathlib.Core.Bool.{Bool, true, false, cond, ◌&&◌, true≢false}
use mathlib.Core.List.{List, [], ◌∷◌}
use mathlib.Core.Option.{Option, none, some}
use Prim.Native.Nat.{ℕ, ◌<◌, ◌≤◌}
use native.Mathlib.Omega.{arith}
use lib.Dec.{eqb}
use lib.ListN.{length}
use borrow.Author.Tests.{eqb-true}
use Rattle.refusal.specs.Limit.{max_weight}
use Rattle.vector.specs.Vector.{at}
use Rattle.kernel.proofs.KernelPass.{Taken, taken-first, taken-second}
use Rattle.phase.proofs.Facts.{waits-for}
use Rattle.phase.specs.declared.Mode.{Mode}
use Rattle.phase.specs.declared.Mode.TheVariants.{Small, Full}
use Rattle.phase.specs.declared.Next.{Next}
use Rattle.phase.specs.declared.Next.TheVariants as next
use Rattle.phase.specs.declared.Kind.{Kind}
use Rattle.phase.specs.declared.Kind.TheVariants.{Shut, Asked, Change}
use Rattle.phase.specs.Cases.{waits, is_change, is_full, is_open, is_small}
use Rattle.phase.proofs.Facts.{level-at-most}
use Rattle.prover.specs.declared.Run.{Run}
use Rattle.pass.specs.declared.Pass.{Pass}
use Rattle.refusal.specs.Outcome.{Outcome, answered}
use Rattle.prover.specs.Reply.{Reply, answer_in}
use Rattle.prover.specs.Reply as reply
use Rattle.pass.specs.Pass.{kernel_of}
use Rattle.prover.specs.Records.{Out}
use Rattle.prover.specs.Level.{level_of}
use Rattle.prover.specs.Take.{takes}
use Rattle.prover.specs.Full.{message_given}
use Rattle.prover.specs.Challenge.{challenged_full}
use Rattle.prover.specs.Opening.{opening_given}
use Rattle.item.specs.declared.Given.{Given}
use Rattle.item.specs.Item.{contributes}
use Rattle.runs.specs.Trip.{Trip, vector_f, vector_g}
use Rattle.runs.specs.Passes.{pass_after}
use Rattle.runs.specs.Buffers.{Written}
use Rattle.runs.proofs.PassRecord.{takes-answer}
use Rattle.calls.specs.declared.Call.{Call}
use Rattle.calls.specs.declared.Call.TheVariants as call
use Rattle.calls.specs.Step.{Lent, Result, is_answered, leaving, step}
use Rattle.calls.specs.State.{State, fresh, takes_given, takes_challenge, buffers_in, goes_on, closed, follow}
use Rattle.calls.specs.Table.{Refusal, pass_waits, openings_next, pass_level, taken, table}
use Rattle.calls.specs.Meaning.{meant, close_asks, fold_f, fold_g, messages_of, AsLeft, challenge_writes, Kept}
use Rattle.calls.specs.Statement.{HasStacks, Stacks, Holds, Right}
use Rattle.calls.specs.World.{Made, World, fresh_world, came, onward}
use Rattle.calls.specs.Lists.{along, always}
use Rattle.calls.specs.Demand3.{AllKept, AllRight}
use Rattle.calls.specs.Starts.{Startable}
use Rattle.calls.proofs.Records.{Notes, no_notes, noted, refusal_noted, run_of, pass_of}
use Rattle.calls.proofs.Guards.{challenge_does}
use Rattle.calls.proofs.Steps.{some_none, row-passed, close_step, does, refused_result, settled}
use Rattle.calls.proofs.Fits.{Fits, few, kind-is}
use Rattle.calls.proofs.Turns.{both}
use Rattle.calls.proofs.ItemRows.{Admitted, item-admitted}
use Rattle.calls.proofs.Refusals.{refused_with_lem, Inv, Faithful, goes, step_is, faithful_on, fresh-faithful, asked-level}
use Rattle.calls.proofs.Agrees.{trip_at, Agrees, pass_taken, round-most}
use Rattle.calls.proofs.KeptCalls.{ItemKept, KeptBy, kept_by}
use Rattle.calls.proofs.Rights.{right, item-written-so}
use Rattle.calls.proofs.Keeps.{opened-agrees, to_full_agrees, item-agrees, close-agrees, returned_agrees, full_message, full_ends, challenge-agrees}

module _ (p : ℕ) (large : max_weight < p) (through : Bool) (its : List Given) (a : State) {past : Notes} (h : Fits p a past) (g : Agrees p through its a past)
    (whole : length its ≡ a.start.items) (l : Lent) where
  abbrev T : Trip
  T = trip_at its a

  abbrev R : Run
  R = run_of a past

  abbrev S : Pass
  S = pass_of p a past

  taken-noted : (x : Given) (b : State) (o : Outcome Reply) → o ≡ answered reply.taken → Agrees p through its b past → Agrees p through its b (noted p (call.Give x) past o)
  taken-noted x b o e r = subst (λ y. Agrees p through its b (noted p (call.Give x) past y)) (sym e) r

  item-next : (x : Given) → Admitted p a x l → ItemKept p T through a x l
      → (let o : Result = leaving l (takes p R S (contributes p a.start x) l.f l.g) in Agrees p through its (takes_given a x o.lent) (noted p (call.Give x) past o.answer))
  item-next x q kept =
      let o : Result = leaving l (takes p R S (contributes p a.start x) l.f l.g) in
      let b = item-written-so p large through its a h g whole l x q kept.0 in
      taken-noted x _ o.answer (takes-answer p R S (contributes p a.start x) l.f l.g)
      (item-agrees p large through its a h g whole l x o.lent a.pass.kind refl q.opened q.more kept.0 h.pass.kind kept.1 b.0 b.1)

  close-next : table p a call.Close l ≡ none → (let o : Result = does p R S call.Close l in Agrees p through its (goes_on a call.Close o.lent) (noted p call.Close past o.answer))
  unfolding table
  close-next e =
      let q = row-passed (is_open a.pass.kind) 10 _ e in
      let u = row-passed (eqb (length a.pass.items) a.start.items) 8 _ q.1 in
      let r = right p large through its a h g whole l call.Close e tt in
      subst (λ k. answer_in (close_step p R S a.turn.next k).answer ≡ (meant p T a.turn.challenges (close_asks a a.turn.next a.pass.kind)).answer → Agrees p through its (closed a a.turn.next a.pass.kind) (noted p call.Close past (answer_in (close_step p R S a.turn.next k).answer)))
      (sym (kind-is p a h))
      (close-agrees p large through its a h g whole l a.turn.next a.pass.kind refl refl q.0 h.pass.kind (eqb-true _ _ u.0)) r.answer

  message-next : table p a call.Message l ≡ none → AsLeft a l → (let o : Result = does p R S call.Message l in Agrees p through its (goes_on a call.Message o.lent) (noted p call.Message past o.answer))
  unfolding table message_given
  message-next e kept =
      let q = both (is_full a.turn.mode) (waits next.Message a.turn.next) (row-passed (is_full a.turn.mode && waits next.Message a.turn.next) 10 _ e).0 in
      full_message p large through its a h g whole l (waits-for next.Message a.turn.next q.1) q.0 kept _ _ _ (right p large through its a h g whole l call.Message e kept).answer

  ends_next : table p a call.Ends l ≡ none → AsLeft a l → (let o : Result = does p R S call.Ends l in Agrees p through its (goes_on a call.Ends o.lent) (noted p call.Ends past o.answer))
  unfolding table
  ends_next e kept =
      let q = both (is_full a.turn.mode) (waits next.Ends a.turn.next) (row-passed (is_full a.turn.mode && waits next.Ends a.turn.next) 10 _ e).0 in
      full_ends p large through its a h g whole l (waits-for next.Ends a.turn.next q.1) q.0 _ _ (right p large through its a h g whole l call.Ends e kept).answer

  abbrev challenged_result : ℕ → Out
  challenged_result c = challenged_full p R S c l.f l.g

  challenge-next : (c : ℕ) → table p a (call.Challenge c) l ≡ none → (is_full a.turn.mode ≡ true → AsLeft a l)
      → (let o : Result = does p R S (call.Challenge c) l in Agrees p through its (goes_on a (call.Challenge c) o.lent) (noted p (call.Challenge c) past o.answer))
  unfolding table challenged_full
  challenge-next c e kept =
      let et = waits-for next.Challenge a.turn.next (row-passed (waits next.Challenge a.turn.next) 10 _ e).0 in
      let r = right p large through its a h g whole l (call.Challenge c) e kept in
      by a.turn.mode refl et r.f r.g
    where
      by : (m : Mode) → a.turn.mode ≡ m → a.turn.next ≡ next.Challenge
          → (let o : Result = leaving l (challenge_does p R S c l m) in
          let z : ℕ × ℕ = challenge_writes a m in
          let b : State = buffers_in (is_full m) (takes_challenge a c) o.lent in
          Written (fold_f p T b) z.0 z.1 l.f o.lent.f → Written (fold_g p T b) z.0 z.1 l.g o.lent.g → Agrees p through its b (noted p (call.Challenge c) past o.answer))
      by Small em et wf wg = challenge-agrees p large through its a h g whole l c l Small em et (λ f. absurd (true≢false (sym f)))
      by Full em et wf wg =
          let o : Result = leaving l (challenged_result c) in
          challenge-agrees p large through its a h g whole l c o.lent Full em et (λ f. (wf, wg))

  pub agrees_next : (c : Call) → table p a c l ≡ none → KeptBy p T through a c l → (let o : Result = does p R S c l in Agrees p through its (goes_on a c o.lent) (noted p c past o.answer))
  unfolding table opening_given
  agrees_next call.OpenPass e kept =
      opened-agrees p large through its a h g whole l 0 (both (is_small a.turn.mode) _ (row-passed (pass_waits a.turn.mode a.turn.next) 10 none e).0).0
  agrees_next (call.OpenAt b) e kept =
      opened-agrees p large through its a h g whole l b (both (is_small a.turn.mode) (openings_next a.turn.next a.start.rounds) (row-passed (is_small a.turn.mode && openings_next a.turn.next a.start.rounds) 10 _ e).0).0
  agrees_next call.ToFull e kept = to_full_agrees p large through its a h g whole l e
  agrees_next call.ToSmall e kept = returned_agrees p large through its a h g whole l
  agrees_next (call.Give x) e kept = item-next x (item-admitted p a l x e) kept
  agrees_next call.Close e kept = close-next e
  agrees_next call.Message e kept = message-next e kept
  agrees_next (call.Challenge c) e kept = challenge-next c e kept
  agrees_next call.Ends e kept = ends_next e kept
  agrees_next (call.Opening b) e kept = g
  agrees_next call.WriteProof e kept = g

-- THE STACKS of an open small pass hold the trip's entries
module _ (p : ℕ) (large : max_weight < p) (through : Bool) (its : List Given) where
  stacks-of : (a : State) {past : Notes} → Fits p a past → Agrees p through its a past → HasStacks a → Stacks p (trip_at its a) a (kernel_of (pass_of p a past))
  stacks-of a {past} h g e =
      let n : ℕ = a.start.rounds in
      let c : ℕ → ℕ = at a.turn.challenges in
      let T : Trip = trip_at its a in
      let other : waits next.Total a.turn.next ≡ false = e.1 in
      let s : Pass = pass_after p (run_of a past) Asked a.pass.point a.pass.items in
      let level : level_of (run_of a past) Asked ≡ pass_level a = asked-level p large n (length a.turn.challenges) a.turn.next in
      let hi = level-at-most n (length a.turn.challenges) a.turn.next Asked (round-most p its a h) in
      let t = subst (λ i. (i ≤ n) × Taken p n c i s.points (vector_f p T) (vector_g p T) (taken a) (kernel_of s)) level (hi, pass_taken p its a h other g.gives) in
      subst (λ k. Stacks p T a (kernel_of (pass_after p (run_of a past) k a.pass.point a.pass.items))) (sym e.0)
      (record {
        f = taken-first p n c (pass_level a) s.points (vector_f p T) (vector_g p T) (few p a h) t.0 (taken a) (kernel_of s) t.1;
        g = taken-second p n c (pass_level a) s.points (vector_f p T) (vector_g p T) (few p a h) t.0 (taken a) (kernel_of s) t.1;
      })

  holds_at : (a : State) {past : Notes} (r : Run) (s : Pass) → Inv p large a past r s → Agrees p through its a past → Holds p through (trip_at its a) a r s
  holds_at a r s i g =
      record {
        stacks = λ e. subst (λ s. Stacks p (trip_at its a) a (kernel_of s)) (sym i.pass) (stacks-of a i.fits g e);
        places_f = g.places_f;
        places_g = g.places_g;
        claim = λ w. ap (λ (r : Run). r.claim) i.run ∙ g.claim w;
      }

  -- ONE CALL
  module _ (a : State) {past : Notes} (h : Fits p a past) (g : Agrees p through its a past) (whole : length its ≡ a.start.items) (c : Call) (l : Lent) where
    abbrev U : Trip
    U = trip_at its a

    abbrev came-to : Option Refusal → Result
    came-to t = settled (run_of a past) (pass_of p a past) l t (does p (run_of a past) (pass_of p a past) c l)

    right_so : (t : Option Refusal) → table p a c l ≡ t → (is_answered (came-to t).answer ≡ true → Kept p U through a c l) → t ≡ none → Right p U a c l (came-to t)
    right_so none e kept free = right p large through its a h g whole l c e (kept_by p U through a c l (kept (goes p large a h c l e).0))
    right_so (some k) e kept free = absurd (some_none free)

    agrees_so : (t : Option Refusal) → table p a c l ≡ t → (is_answered (came-to t).answer ≡ true → Kept p U through a c l)
        → Agrees p through its (follow a c (came-to t)) (noted p c past (came-to t).answer)
    agrees_so none e kept =
        let o : Result = does p (run_of a past) (pass_of p a past) c l in
        let yes = (goes p large a h c l e).0 in
        subst (λ b. Agrees p through its (cond b (goes_on a c o.lent) a) (noted p c past o.answer)) (sym yes) (agrees_next p large through its a h g whole l c e (kept_by p U through a c l (kept yes)))
    agrees_so (some k) e kept =
        let o : Result = refused_result (run_of a past) (pass_of p a past) l k in
        subst (λ b. Agrees p through its (cond b (goes_on a c o.lent) a) (noted p c past o.answer)) (sym (refused_with_lem _ k.0 k.1))
        (subst (Agrees p through its a) (sym (refusal_noted p c past k.0 k.1)) g)

  pub right-step : (a : State) {past : Notes} (r : Run) (s : Pass) → Inv p large a past r s → Agrees p through its a past → length its ≡ a.start.items → (c : Call) → (l : Lent)
      → (is_answered (step p r s c l).answer ≡ true → Kept p (trip_at its a) through a c l) → table p a c l ≡ none → Right p (trip_at its a) a c l (step p r s c l)
  right-step a {past} r s i g whole c l =
      let P : Result → Type 0 = λ o. (is_answered o.answer ≡ true → Kept p (trip_at its a) through a c l) → table p a c l ≡ none → Right p (trip_at its a) a c l o in
      subst (λ r. P (step p r s c l)) (sym i.run)
      (subst (λ s. P (step p (run_of a past) s c l)) (sym i.pass)
      (subst P (sym (step_is p large a i.fits c l)) (right_so a i.fits g whole c l (table p a c l) refl)))

  pub agrees_step : (a : State) {past : Notes} (r : Run) (s : Pass) → Inv p large a past r s → Agrees p through its a past → length its ≡ a.start.items → (c : Call) → (l : Lent)
      → (is_answered (step p r s c l).answer ≡ true → Kept p (trip_at its a) through a c l) → Agrees p through its (follow a c (step p r s c l)) (noted p c past (step p r s c l).answer)
  agrees_step a {past} r s i g whole c l =
      let P : Result → Type 0 = λ o. (is_answered o.answer ≡ true → Kept p (trip_at its a) through a c l) → Agrees p through its (follow a c o) (noted p c past o.answer) in
      subst (λ r. P (step p r s c l)) (sym i.run)
      (subst (λ s. P (step p (run_of a past) s c l)) (sym i.pass)
      (subst P (sym (step_is p large a i.fits c l)) (agrees_so a i.fits g whole c l (table p a c l) refl)))

-- the start stays
buffers-start : (b : Bool) (a : State) (l : Lent) → (buffers_in b a l).start ≡ a.start
buffers-start true a l = refl
buffers-start false a l = refl

closed-start : (a : State) (t : Next) (k : Kind) → (closed a t k).start ≡ a.start
closed-start a t Shut = refl
closed-start a next.Total Asked = refl
closed-start a next.Message Asked = refl
closed-start a next.Challenge Asked = refl
closed-start a next.Ends Asked = refl
closed-start a next.Openings Asked = refl
closed-start a t Change = refl

goes_start : (a : State) (c : Call) (l : Lent) → (goes_on a c l).start ≡ a.start
goes_start a call.OpenPass l = refl
goes_start a (call.OpenAt b) l = refl
goes_start a call.ToFull l = refl
goes_start a call.ToSmall l = refl
goes_start a (call.Give x) l = buffers-start (is_change a.pass.kind) _ l
goes_start a call.Close l = closed-start a a.turn.next a.pass.kind
goes_start a call.Message l = refl
goes_start a (call.Challenge c) l = buffers-start (is_full a.turn.mode) (takes_challenge a c) l
goes_start a call.Ends l = refl
goes_start a (call.Opening b) l = refl
goes_start a call.WriteProof l = refl

pub follow-start : (a : State) (c : Call) (o : Result) → (follow a c o).start ≡ a.start
follow-start a c o = by (is_answered o.answer)
  where
    by : (b : Bool) → (cond b (goes_on a c o.lent) a).start ≡ a.start
    by true = goes_start a c o.lent
    by false = refl

-- EVERY LIST
module _ (p : ℕ) (large : max_weight < p) (through : Bool) (T : Trip) (whole : length T.items ≡ T.start.items) where
  -- the list from here on
  pub record Going (w : World) (past : Notes) : Type 0 where
    pub faithful : Faithful p large w past
    pub start : w.state.start ≡ T.start
    pub agrees : Agrees p through T.items w.state past

  pub same-trip : (w : World) {past : Notes} → Going w past → trip_at T.items w.state ≡ T
  same-trip w g = ap (λ s. record { start = s; items = T.items }) g.start

  pub holds-here : (w : World) {past : Notes} → Going w past → Holds p through T w.state w.run w.pass
  holds-here w g =
      subst (λ U. Holds p through U w.state w.run w.pass) (same-trip w g)
      (holds_at p large through T.items w.state w.run w.pass g.faithful g.agrees)

  module _ (w : World) {past : Notes} (g : Going w past) (m : Made)
      (kept : is_answered (came p w m).answer ≡ true → Kept p T through w.state m.call m.lent) where
    full : length T.items ≡ w.state.start.items
    full = whole ∙ ap (λ s. s.items) (sym g.start)

    own-kept : is_answered (came p w m).answer ≡ true → Kept p (trip_at T.items w.state) through w.state m.call m.lent
    own-kept y = subst (λ U. Kept p U through w.state m.call m.lent) (sym (same-trip w g)) (kept y)

    pub right-here : table p w.state m.call m.lent ≡ none → Right p T w.state m.call m.lent (came p w m)
    right-here free =
        subst (λ U. Right p U w.state m.call m.lent (came p w m)) (same-trip w g)
        (right-step p large through T.items w.state w.run w.pass g.faithful g.agrees full m.call m.lent own-kept free)

    pub goes_on_lem : Going (onward p w m) (noted p m.call past (came p w m).answer)
    goes_on_lem =
        record {
          faithful = faithful_on p large w g.faithful m;
          start = follow-start w.state m.call (came p w m) ∙ g.start;
          agrees = agrees_step p large through T.items w.state w.run w.pass g.faithful g.agrees full m.call m.lent own-kept;
        }

  pub all_right : (w : World) {past : Notes} → Going w past → (ms : List Made) → AllKept p through T w ms → AllRight p through T w ms
  unfolding along always
  all_right w g [] kept = (tt, holds-here w g)
  all_right w g (m ∷ ms) kept =
      let rest = all_right (onward p w m) (goes_on_lem w g m kept.0) ms kept.1 in
      ((right-here w g m kept.0, rest.0), (holds-here w g, rest.1))

  -- nothing is known of the buffers of a fresh run
  pub fresh-agrees : (f g : List ℕ) → Agrees p through T.items (fresh T.start f g) no_notes
  unfolding messages_of
  fresh-agrees f g =
      record {
        gives = λ q h. absurd (omega arith);
        places_f = λ j lo hi. absurd (omega arith);
        places_g = λ j lo hi. absurd (omega arith);
        total = λ plain w. absurd (true≢false w);
        messages = λ _. refl;
        ends = λ _ w. absurd (true≢false (sym w));
        last = λ w. absurd (true≢false (sym w));
        claim = λ w. absurd (true≢false (sym w));
      }

  pub fresh-going : Startable T.start → (f g : List ℕ) → Going (fresh_world T.start f g) no_notes
  fresh-going h f g = record { faithful = fresh-faithful p large T.start h f g; start = refl; agrees = fresh-agrees f g }
