-- A run whose openings are next keeps the claim that it has, whatever it is asked; so a batch's is 0 throughout.
use mathlib.Core.Path.{◌≡◌, refl, sym, ap, subst, ◌∙◌}
use mathlib.Core.Option.{Option, none, some}
use mathlib.Core.List.{List, [], ◌∷◌}
use Prim.Native.Nat.{ℕ, ◌<◌}
use Rattle.refusal.specs.Limit.{max_weight}
use Rattle.phase.specs.declared.Next.{Next}
use Rattle.phase.specs.declared.Next.TheVariants as next
use Rattle.phase.specs.declared.Kind.{Kind}
use Rattle.phase.specs.declared.Kind.TheVariants.{Shut, Asked, Change}
use Rattle.phase.specs.Cases.{waits}
use Rattle.prover.specs.declared.Run.{Run}
use Rattle.pass.specs.declared.Pass.{Pass}
use Rattle.prover.specs.Full.{message_given}
use Rattle.prover.specs.Opening.{opening_given}
use Rattle.item.specs.declared.Start.{Start}
use Rattle.item.specs.Item.{contributes}
use Rattle.runs.proofs.PassRecord.{takes_run}
use Rattle.calls.specs.declared.Call.{Call}
use Rattle.calls.specs.declared.Call.TheVariants as call
use Rattle.calls.specs.Lists.{always}
use Rattle.calls.specs.Step.{Lent, Result, step}
use Rattle.calls.specs.State.{State}
use Rattle.calls.specs.World.{Made, World, onward}
use Rattle.calls.specs.Table.{Refusal, table}
use Rattle.calls.specs.Starts.{Opens}
use Rattle.calls.specs.Begins.{openings_world}
use Rattle.calls.proofs.Records.{Notes, run_of, pass_of}
use Rattle.calls.proofs.Steps.{row-passed, close_step, does, settled}
use Rattle.calls.proofs.Refusals.{Faithful, faithful_on, step_is}
use Rattle.calls.proofs.Begins.{opens-faithful}
use Rattle.calls.proofs.BatchTakes.{Late, not_next, late_batch}

module _ (p : ℕ) where
  close-keeps : (r : Run) (s : Pass) (t : Next) (k : Kind) → t ≡ next.Openings → (close_step p r s t k).run.claim ≡ r.claim
  close-keeps r s t Shut e = refl
  close-keeps r s next.Total Asked e = not_next next.Total e next.Total refl refl
  close-keeps r s next.Message Asked e = refl
  close-keeps r s next.Challenge Asked e = refl
  close-keeps r s next.Ends Asked e = refl
  close-keeps r s next.Openings Asked e = refl
  close-keeps r s t Change e = refl

  late_keeps : (a : State) (r : Run) (s : Pass) (c : Call) (l : Lent) → a.turn.next ≡ next.Openings → r.next ≡ next.Openings → table p a c l ≡ none
      → (does p r s c l).run.claim ≡ r.claim
  unfolding table message_given opening_given
  late_keeps a r s call.OpenPass l e f t = refl
  late_keeps a r s (call.OpenAt b) l e f t = refl
  late_keeps a r s call.ToFull l e f t = refl
  late_keeps a r s call.ToSmall l e f t = refl
  late_keeps a r s (call.Give x) l e f t = ap (λ (r : Run). r.claim) (takes_run p r s (contributes p r.start x) l.f l.g)
  late_keeps a r s call.Close l e f t = close-keeps r s r.next s.kind f
  late_keeps a r s call.Message l e f t = refl
  late_keeps a r s (call.Challenge c) l e f t = not_next a.turn.next e next.Challenge refl (row-passed (waits next.Challenge a.turn.next) 10 _ t).0
  late_keeps a r s call.Ends l e f t = refl
  late_keeps a r s (call.Opening b) l e f t = refl
  late_keeps a r s call.WriteProof l e f t = refl

module _ (p : ℕ) (large : max_weight < p) where
  pub step-late : (w : World) {past : Notes} → Faithful p large w past → w.state.turn.next ≡ next.Openings → (m : Made) → (onward p w m).run.claim ≡ w.run.claim
  step-late w {past} i e m =
      let a : State = w.state in
      let R : Run = run_of a past in
      subst (λ r. (step p r w.pass m.call m.lent).run.claim ≡ r.claim) (sym i.run)
      (subst (λ s. (step p R s m.call m.lent).run.claim ≡ R.claim) (sym i.pass)
      (subst (λ (o : Result). o.run.claim ≡ R.claim) (sym (step_is p large a i.fits m.call m.lent)) (settles (table p a m.call m.lent) refl)))
    where
      settles : (t : Option Refusal) → table p w.state m.call m.lent ≡ t
          → (let R : Run = run_of w.state past in
          let S : Pass = pass_of p w.state past in
          (settled R S m.lent t (does p R S m.call m.lent)).run.claim ≡ R.claim)
      settles none free = late_keeps p w.state (run_of w.state past) (pass_of p w.state past) m.call m.lent e e free
      settles (some k) free = refl

  late_claims : (cs : List ℕ) (x : ℕ) (w : World) {past : Notes} → Faithful p large w past → w.run.claim ≡ x → (ms : List Made)
      → always (onward p) (λ w. Late cs w.state.turn) w ms → always (onward p) (λ w. w.run.claim ≡ x) w ms
  unfolding always
  late_claims cs x w i e [] late = e
  late_claims cs x w i e (m ∷ ms) late =
      (e, late_claims cs x (onward p w m) (faithful_on p large w i m) (step-late w i late.0.openings m ∙ e) ms late.1)

  -- a run that is started at its openings
  pub batch-claim : (s : Start) (cs : List ℕ) → Opens s cs → (f g : List ℕ) (ms : List Made) → always (onward p) (λ w. w.run.claim ≡ 0) (openings_world s cs f g) ms
  batch-claim s cs o f g ms = late_claims cs 0 (openings_world s cs f g) (opens-faithful p large s cs o f g) refl ms (late_batch p large s cs o f g ms)
