-- THE FIRST LAYER, with nothing asked of the caller: each call of any list is refused exactly when the table says, and then changes
-- nothing; and an open small pass has document 01's entries.
use mathlib.Core.Path.{◌≡◌, refl, sym, ap, subst, ◌∙◌}
use mathlib.Core.Bool.{Bool, true, false, cond, true≢false}
use mathlib.Core.List.{List, [], ◌∷◌}
use mathlib.Core.Option.{Option, none, some}
use Prim.Native.Nat.{ℕ, suc, ◌+◌, ◌<◌}
use native.Mathlib.Omega.{arith}
use lib.ListN.{length}
use borrow.Author.Tests.{le-leb}
use Rattle.refusal.specs.Limit.{max_weight}
use Rattle.refusal.specs.Outcome.{answered}
use Rattle.field.specs.Total.{limit, in_limits}
use Rattle.kernel.specs.declared.Kernel.{Kernel}
use Rattle.vector.proofs.StackCount.{ones_at_most}
use Rattle.kernel.proofs.KernelLevels.{Levelled, levelled_first, levelled_second, levelled_count}
use Rattle.phase.specs.declared.Mode.{Mode}
use Rattle.phase.specs.declared.Mode.TheVariants.{Small, Full}
use Rattle.phase.specs.declared.Next.{Next}
use Rattle.phase.specs.declared.Next.TheVariants as next
use Rattle.phase.specs.declared.Kind.{Kind}
use Rattle.phase.specs.declared.Kind.TheVariants.{Shut, Asked, Change}
use Rattle.phase.specs.Cases.{waits}
use Rattle.phase.specs.Level.{level_at}
use Rattle.prover.specs.declared.Run.{Run}
use Rattle.pass.specs.declared.Pass.{Pass}
use Rattle.prover.specs.declared.Reply.TheVariants as answer
use Rattle.prover.specs.Reply as reply
use Rattle.prover.specs.Reply.{answer_in}
use Rattle.pass.specs.Pass.{kernel_of}
use Rattle.prover.specs.Records.{answered_step}
use Rattle.prover.specs.Level.{level_of, padding}
use Rattle.prover.specs.Close.{with_total, with_field_total, shut_pass}
use Rattle.prover.specs.Full.{message_given}
use Rattle.prover.specs.Opening.{opening_given}
use Rattle.prover.specs.Challenge.{challenged_full}
use Rattle.item.specs.declared.Start.{Start}
use Rattle.item.specs.declared.Given.{Given}
use Rattle.item.specs.Item.{contributes}
use Rattle.runs.specs.Passes.{pass_after}
use Rattle.runs.proofs.RunFacts.{bounds}
use Rattle.runs.proofs.PassRecord.{takes-answer}
use Rattle.runs.proofs.PassKernel.{after-levels}
use Rattle.calls.specs.declared.Call.{Call}
use Rattle.calls.specs.declared.Call.TheVariants as call
use Rattle.calls.specs.Step.{Lent, Result, is_answered, step}
use Rattle.calls.specs.State.{State, goes_on, follow}
use Rattle.calls.specs.Table.{Refusal, refused_with, level_now, pass_level, taken, table}
use Rattle.calls.specs.Statement.{Decides, Counted, CountsHold}
use Rattle.calls.specs.World.{Made, World, fresh_world, came, onward}
use Rattle.calls.specs.Lists.{along, always}
use Rattle.calls.specs.Demand3.{AllDecided}
use Rattle.calls.specs.Starts.{Startable}
use Rattle.calls.proofs.Records.{Notes, no_notes, noted, refusal_noted, run_of, pass_of}
use Rattle.calls.proofs.Guards.{challenge_does}
use Rattle.calls.proofs.Steps.{close_step, does, refused_result, settled, steps}
use Rattle.calls.proofs.Fits.{Fits, few, run-formed, formed, kind-is, taken_is, sum_is, messages-below}
use Rattle.calls.proofs.Follows.{Follows, positive, no_items, open_follows, open_at_follows, to_full_follows, to_small_follows, item-follows, close_follows, message-follows, ends-follows, challenge-follows}

close-answered : (p : ℕ) (r : Run) (s : Pass) (t : Next) (k : Kind) → is_answered (answer_in (close_step p r s t k).answer) ≡ true
close-answered p r s t Shut = refl
close-answered p r s next.Total Asked = by r.start.plain
  where
    by : (plain : Bool) → is_answered (answer_in (cond plain (answered_step (with_total p r s.total) shut_pass (answer.Total s.total)) (answered_step (with_field_total r s.dot) shut_pass (answer.FieldTotal s.dot))).answer) ≡ true
    by true = refl
    by false = refl
close-answered p r s next.Message Asked = refl
close-answered p r s next.Challenge Asked = refl
close-answered p r s next.Ends Asked = refl
close-answered p r s next.Openings Asked = refl
close-answered p r s t Change = refl

pub refused_with_lem : (A : Type 0) (k : ℕ) (i : Option ℕ) → is_answered (refused_with {A = A} k i) ≡ false
refused_with_lem A k none = refl
refused_with_lem A k (some i) = refl

-- what an answered item notes: nothing
take_noted : (p : ℕ) (b : State) (past : Notes) (x : Given) (o : Result) → o.answer ≡ answered reply.taken → Follows p b past o → (is_answered o.answer ≡ true) × Follows p b (noted p (call.Give x) past o.answer) o
take_noted p b past x o e h = (ap is_answered e, subst (λ y. Follows p b (noted p (call.Give x) past y) o) (sym e) h)

module _ (p : ℕ) (large : max_weight < p) where
  abbrev Goes : State → Notes → Call → Result → Type 0
  Goes a past c o = (is_answered o.answer ≡ true) × Follows p (goes_on a c o.lent) (noted p c past o.answer) o

  challenge-answered : (r : Run) (s : Pass) (c : ℕ) (l : Lent) (m : Mode) → is_answered (challenge_does p r s c l m).answer ≡ true
  unfolding challenged_full
  challenge-answered r s c l Small = refl
  challenge-answered r s c l Full = refl

  -- AN ANSWERED CALL
  pub goes : (a : State) {past : Notes} → Fits p a past → (c : Call) → (l : Lent) → table p a c l ≡ none → Goes a past c (does p (run_of a past) (pass_of p a past) c l)
  unfolding message_given opening_given
  goes a {past} h call.OpenPass l e = (refl, open_follows p large a h l e)
  goes a {past} h (call.OpenAt b) l e = (refl, open_at_follows p large a h b l e)
  goes a {past} h call.ToFull l e = (refl, to_full_follows p large a h l e)
  goes a {past} h call.ToSmall l e = (refl, to_small_follows p large a h l e)
  goes a {past} h (call.Give x) l e =
      take_noted p _ past x _ (takes-answer p (run_of a past) (pass_of p a past) (contributes p a.start x) l.f l.g)
      (item-follows p large a h x l e)
  goes a {past} h call.Close l e = (close-answered p (run_of a past) (pass_of p a past) a.turn.next (pass_of p a past).kind, close_follows p large a h l e)
  goes a {past} h call.Message l e = (refl, message-follows p large a h l e)
  goes a {past} h (call.Challenge c) l e = (challenge-answered (run_of a past) (pass_of p a past) c l a.turn.mode, challenge-follows p large a h c l e)
  goes a {past} h call.Ends l e = (refl, ends-follows p large a h l e)
  goes a {past} h (call.Opening b) l e = (refl, record { run = refl; pass = refl; fits = h })
  goes a {past} h call.WriteProof l e = (refl, record { run = refl; pass = refl; fits = h })

  -- THE RECORDS STAND FOR THE STATE
  pub record Inv (a : State) (past : Notes) (r : Run) (s : Pass) : Type 0 where
    pub run : r ≡ run_of a past
    pub pass : s ≡ pass_of p a past
    pub fits : Fits p a past

  pub step_is : (a : State) {past : Notes} → Fits p a past → (c : Call) (l : Lent)
      → step p (run_of a past) (pass_of p a past) c l ≡ settled (run_of a past) (pass_of p a past) l (table p a c l) (does p (run_of a past) (pass_of p a past) c l)
  step_is a {past} h c l =
      steps p a past (few p a h) (pass_of p a past) (formed p a h) (kind-is p a h) (taken_is p a h) (sum_is p a h) h.pass.kind
      h.run.total (messages-below p a h (positive p large)) h.run.fend h.run.gend c l

  module _ (a : State) {past : Notes} (h : Fits p a past) (c : Call) (l : Lent) where
    abbrev did : Result
    did = does p (run_of a past) (pass_of p a past) c l

    answered-so : (t : Option Refusal) → table p a c l ≡ t → Decides (run_of a past) (pass_of p a past) l t (settled (run_of a past) (pass_of p a past) l t did)
    answered-so none e = (goes a h c l e).0
    answered-so (some k) e = refl

    stands-so : (t : Option Refusal) → table p a c l ≡ t
        → (let o : Result = settled (run_of a past) (pass_of p a past) l t did in Inv (follow a c o) (noted p c past o.answer) o.run o.pass)
    stands-so none e =
        let g = goes a h c l e in
        subst (λ b. Inv (cond b (goes_on a c did.lent) a) (noted p c past did.answer) did.run did.pass) (sym g.0)
        (record { run = g.1.run; pass = g.1.pass; fits = g.1.fits })
    stands-so (some k) e =
        let o : Result = refused_result (run_of a past) (pass_of p a past) l k in
        subst (λ b. Inv (cond b (goes_on a c o.lent) a) (noted p c past o.answer) (run_of a past) (pass_of p a past)) (sym (refused_with_lem _ k.0 k.1))
        (subst (λ n. Inv a n (run_of a past) (pass_of p a past)) (sym (refusal_noted p c past k.0 k.1)) (record { run = refl; pass = refl; fits = h }))

  pub decide_step : (a : State) {past : Notes} (r : Run) (s : Pass) → Inv a past r s → (c : Call) → (l : Lent) → Decides r s l (table p a c l) (step p r s c l)
  decide_step a {past} r s i c l =
      subst (λ r. Decides r s l (table p a c l) (step p r s c l)) (sym i.run)
      (subst (λ s. Decides (run_of a past) s l (table p a c l) (step p (run_of a past) s c l)) (sym i.pass)
      (subst (Decides (run_of a past) (pass_of p a past) l (table p a c l)) (sym (step_is a i.fits c l)) (answered-so a i.fits c l (table p a c l) refl)))

  pub inv_step : (a : State) {past : Notes} (r : Run) (s : Pass) → Inv a past r s → (c : Call) → (l : Lent)
      → (let o : Result = step p r s c l in Inv (follow a c o) (noted p c past o.answer) o.run o.pass)
  inv_step a {past} r s i c l =
      subst (λ r. (let o : Result = step p r s c l in Inv (follow a c o) (noted p c past o.answer) o.run o.pass)) (sym i.run)
      (subst (λ s. (let o : Result = step p (run_of a past) s c l in Inv (follow a c o) (noted p c past o.answer) o.run o.pass)) (sym i.pass)
      (subst (λ o. Inv (follow a c o) (noted p c past o.answer) o.run o.pass) (sym (step_is a i.fits c l)) (stands-so a i.fits c l (table p a c l) refl)))

  -- THE STACKS' LEVELS
  pub asked-level : (n i : ℕ) (t : Next) → level_at n i t Asked ≡ level_now n i n t
  asked-level n i next.Total = refl
  asked-level n i next.Message = refl
  asked-level n i next.Challenge = refl
  asked-level n i next.Ends = refl
  asked-level n i next.Openings = refl

  counted : (i t : ℕ) (k : Kernel) → Levelled i t k → Counted i t k
  counted i t k h =
      let n = levelled_count i t k h in
      record { f = levelled_first i t k h; g = levelled_second i t k h; fcount = n; gcount = h.paired.counts ∙ n; few = ones_at_most (suc i) t }

  pub counts-hold : (a : State) {past : Notes} (r : Run) (s : Pass) → Inv a past r s → CountsHold a s
  counts-hold a {past} r s i e =
      let h = i.fits in
      let other : waits next.Total a.turn.next ≡ false = e.1 in
      let level : level_of (run_of a past) Asked ≡ pass_level a = asked-level a.start.rounds (length a.turn.challenges) a.turn.next in
      let b = bounds p (run_of a past) (run-formed p a h) in
      let t : padding (run_of a past) + length a.pass.items ≡ taken a = ap (λ n. n + length a.pass.items) b.padding in
      let l = after-levels p (run_of a past) a.pass.point other Asked refl (run-formed p a h) a.pass.items h.pass.count in
      let K : Kernel = kernel_of (pass_after p (run_of a past) Asked a.pass.point a.pass.items) in
      subst (λ s. Counted (pass_level a) (taken a) (kernel_of s)) (sym i.pass)
      (subst (λ k. Counted (pass_level a) (taken a) (kernel_of (pass_after p (run_of a past) k a.pass.point a.pass.items))) (sym e.0)
      (counted (pass_level a) (taken a) K (subst (λ i. Levelled i (taken a) K) level (subst (λ t. Levelled (level_of (run_of a past) Asked) t K) t l))))

  -- EVERY LIST
  abbrev pub Faithful : World → Notes → Type 0
  Faithful w past = Inv w.state past w.run w.pass

  pub faithful_on : (w : World) {past : Notes} → Faithful w past → (m : Made) → Faithful (onward p w m) (noted p m.call past (came p w m).answer)
  faithful_on w i m = inv_step w.state w.run w.pass i m.call m.lent

  pub all-decided : (w : World) {past : Notes} → Faithful w past → (ms : List Made) → AllDecided p w ms
  unfolding along always
  all-decided w i [] = (tt, counts-hold w.state w.run w.pass i)
  all-decided w i (m ∷ ms) =
      let rest = all-decided (onward p w m) (faithful_on w i m) ms in (
        (decide_step w.state w.run w.pass i m.call m.lent, rest.0),
        (counts-hold w.state w.run w.pass i, rest.1),
      )

  -- a fresh run, its buffers holding anything
  pub fresh-faithful : (s : Start) → Startable s → (f g : List ℕ) → Faithful (fresh_world s f g) no_notes
  unfolding pass_after in_limits
  fresh-faithful s h f g =
      record {
        run = refl;
        pass = refl;
        fits = record {
          run = record {
            version = h.version;
            some = h.least;
            most = h.most;
            rounds = h.rounds;
            round = refl;
            total = le-leb 0 (limit p) (omega arith);
            given = refl;
            last = λ e. absurd (true≢false (sym e));
            claim = positive p large;
            below = λ j. positive p large;
            fend = positive p large;
            gend = positive p large;
          };
          pass = no_items p large s Small next.Total Shut refl;
        };
      }
