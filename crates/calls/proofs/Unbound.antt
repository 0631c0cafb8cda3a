-- While the run works on no buffers nothing is asked of what a call is lent; a return frees them up to the next change.
use mathlib.Core.Path.{◌≡◌, refl, sym, ap, ap₂, ◌∙◌}
use mathlib.Core.Bool.{Bool, true, false, cond, ◌&&◌, ◌||◌, true≢false}
use mathlib.Core.List.{List, [], ◌∷◌}
use mathlib.Core.Option.{none}
use Prim.Native.Nat.{ℕ}
use Rattle.phase.specs.declared.Next.{Next}
use Rattle.phase.specs.declared.Next.TheVariants as next
use Rattle.phase.specs.declared.Kind.{Kind}
use Rattle.phase.specs.declared.Kind.TheVariants.{Shut, Asked, Change}
use Rattle.phase.specs.Cases.{is_change, is_full, waits}
use Rattle.runs.specs.Trip.{Trip}
use Rattle.calls.specs.declared.Call.{Call}
use Rattle.calls.specs.declared.Call.TheVariants as call
use Rattle.calls.specs.Lists.{along, always}
use Rattle.calls.specs.Step.{Lent, is_answered}
use Rattle.calls.specs.State.{State, takes_challenge, closed, goes_on}
use Rattle.calls.specs.World.{Made, World, came, onward}
use Rattle.calls.specs.Table.{openings_next, table}
use Rattle.calls.specs.Meaning.{Kept}
use Rattle.calls.specs.Proper.{in_use}
use Rattle.calls.specs.Demand3.{goes_back}
use Rattle.calls.proofs.Steps.{row-passed}
use Rattle.calls.proofs.Turns.{both}
use Rattle.calls.proofs.KeptCalls.{KeptBy, kept_by, by_kept}
use Rattle.calls.proofs.LiveWorld.{buffers_same}

neither : (x y : Bool) → (x || y) ≡ false → (x ≡ false) × (y ≡ false)
neither false y e = (refl, e)
neither true y e = absurd (true≢false e)

module _ (a : State) (idle : in_use a ≡ false) where
  is_small_lem : is_full a.turn.mode ≡ false
  is_small_lem = (neither (is_full a.turn.mode) (is_change a.pass.kind) idle).0

  no_change : is_change a.pass.kind ≡ false
  no_change = (neither (is_full a.turn.mode) (is_change a.pass.kind) idle).1

module _ (p : ℕ) (through : Bool) (T : Trip) (a : State) (idle : in_use a ≡ false) where
  not_full : is_full a.turn.mode ≡ true → ⊥
  not_full y = true≢false (sym y ∙ is_small_lem a idle)

  -- a call of full mode is not let through
  kept-too : (c : Call) (l m : Lent) → table p a c m ≡ none → KeptBy p T through a c l → KeptBy p T through a c m
  unfolding table
  kept-too call.OpenPass l m e h = tt
  kept-too (call.OpenAt b) l m e h = tt
  kept-too call.ToFull l m e h = tt
  kept-too call.ToSmall l m e h = tt
  kept-too (call.Give x) l m e h = (h.0, λ y. absurd (true≢false (sym (both (is_change a.pass.kind) _ y).0 ∙ no_change a idle)))
  kept-too call.Close l m e h = tt
  kept-too call.Message l m e h =
      absurd (not_full (both (is_full a.turn.mode) (waits next.Message a.turn.next) (row-passed (is_full a.turn.mode && waits next.Message a.turn.next) 10 _ e).0).0)
  kept-too (call.Challenge c) l m e h = λ y. absurd (not_full y)
  kept-too call.Ends l m e h =
      absurd (not_full (both (is_full a.turn.mode) (waits next.Ends a.turn.next) (row-passed (is_full a.turn.mode && waits next.Ends a.turn.next) 10 _ e).0).0)
  kept-too (call.Opening b) l m e h =
      absurd (not_full (both (is_full a.turn.mode) (openings_next a.turn.next a.start.rounds) (row-passed (is_full a.turn.mode && openings_next a.turn.next a.start.rounds) 10 _ e).0).0)
  kept-too call.WriteProof l m e h = tt

  pub unbound-kept : (c : Call) (l m : Lent) → table p a c m ≡ none → Kept p T through a c l → Kept p T through a c m
  unbound-kept c l m e h = by_kept p T through a c m (kept-too c l m e (kept_by p T through a c l h))

-- FREED by a return, and free as long as no change is opened
closed-free : (a : State) (t : Next) (k : Kind) → is_full a.turn.mode ≡ false → is_change k ≡ false → a.pass.kind ≡ k → in_use (closed a t k) ≡ false
closed-free a t Shut m k e = ap₂ ◌||◌ m (ap is_change e)
closed-free a next.Total Asked m k e = ap (λ b. b || false) m
closed-free a next.Message Asked m k e = ap (λ b. b || false) m
closed-free a next.Challenge Asked m k e = ap₂ ◌||◌ m (ap is_change e)
closed-free a next.Ends Asked m k e = ap (λ b. b || false) m
closed-free a next.Openings Asked m k e = ap (λ b. b || false) m
closed-free a t Change m k e = absurd (true≢false k)

-- another pass than a change's, in the same mode
same_mode : (a : State) → in_use a ≡ false → (is_full a.turn.mode || false) ≡ false
same_mode a h = ap (λ b. b || false) (is_small_lem a h)

goes_free : (a : State) (c : Call) (l : Lent) → (c ≡ call.ToFull → ⊥) → in_use a ≡ false → in_use (goes_on a c l) ≡ false
goes_free a call.OpenPass l other h = same_mode a h
goes_free a (call.OpenAt b) l other h = same_mode a h
goes_free a call.ToFull l other h = absurd (other refl)
goes_free a call.ToSmall l other h = refl
goes_free a (call.Give x) l other h = buffers_same in_use (λ a l. refl) (is_change a.pass.kind) _ l ∙ h
goes_free a call.Close l other h = closed-free a a.turn.next a.pass.kind (is_small_lem a h) (no_change a h) refl
goes_free a call.Message l other h = same_mode a h
goes_free a (call.Challenge c) l other h =
    buffers_same in_use (λ a l. refl) (is_full a.turn.mode) (takes_challenge a c) l ∙ same_mode a h
goes_free a call.Ends l other h = same_mode a h
goes_free a (call.Opening b) l other h = h
goes_free a call.WriteProof l other h = h

module _ (p : ℕ) where
  follow-free : (w : World) (m : Made) → (m.call ≡ call.ToFull → ⊥) → in_use w.state ≡ false → in_use (onward p w m).state ≡ false
  follow-free w m other h = by (is_answered (came p w m).answer)
    where
      by : (b : Bool) → in_use (cond b (goes_on w.state m.call (came p w m).lent) w.state) ≡ false
      by true = goes_free w.state m.call (came p w m).lent other h
      by false = h

  stays_free : (w : World) (ms : List Made) → in_use w.state ≡ false → along (onward p) (λ u m. m.call ≡ call.ToFull → ⊥) w ms
      → always (onward p) (λ u. in_use u.state ≡ false) w ms
  unfolding along always
  stays_free w [] h other = h
  stays_free w (m ∷ ms) h other = (h, stays_free (onward p w m) ms (follow-free w m other.0 h) other.1)

  pub return_frees : (w : World) (l : Lent) (ms : List Made)
      → (let v : World = onward p w (goes_back l) in
      is_answered (came p w (goes_back l)).answer ≡ true → along (onward p) (λ u m. m.call ≡ call.ToFull → ⊥) v ms
      → always (onward p) (λ u. in_use u.state ≡ false) v ms)
  return_frees w l ms answered other =
      stays_free (onward p w (goes_back l)) ms
      (ap (λ b. in_use (cond b (goes_on w.state call.ToSmall (came p w (goes_back l)).lent) w.state)) answered) other
