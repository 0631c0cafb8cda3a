-- A run whose openings are next stays there: it takes no challenge more. And an opening that a run gave, wherever it began, was asked at a
-- point from 1 to p - 1.
use mathlib.Core.Path.{◌≡◌, refl, sym, ap, subst, ◌∙◌}
use mathlib.Core.Bool.{Bool, true, false, cond, true≢false, ◌&&◌}
use mathlib.Core.List.{List, [], ◌∷◌}
use mathlib.Core.Option.{none}
use Prim.Native.Nat.{ℕ, ◌<◌}
use lib.Dec.{ltb}
use Rattle.refusal.specs.Limit.{max_weight}
use Rattle.vector.specs.Vector.{at}
use Rattle.vector.specs.Slice.{is_nonzero}
use Rattle.phase.specs.declared.Next.{Next}
use Rattle.phase.specs.declared.Next.TheVariants as next
use Rattle.phase.specs.declared.Kind.{Kind}
use Rattle.phase.specs.declared.Kind.TheVariants.{Shut, Asked, Change}
use Rattle.phase.specs.Cases.{is_change, is_full, waits}
use Rattle.item.specs.declared.Start.{Start}
use Rattle.calls.specs.declared.Call.{Call}
use Rattle.calls.specs.declared.Call.TheVariants as call
use Rattle.calls.specs.Lists.{after, along, always}
use Rattle.calls.specs.Step.{Lent, Result, is_answered}
use Rattle.calls.specs.State.{State, Turn, closed, goes_on, follow}
use Rattle.calls.specs.Table.{table}
use Rattle.calls.specs.World.{Made, World, came, onward}
use Rattle.calls.specs.Meaning.{opening_at, Answer}
use Rattle.calls.specs.Given.{Gave}
use Rattle.calls.specs.Begins.{Begin, total, openings, CanBegin, begun, openings_world}
use Rattle.calls.specs.Starts.{Opens}
use Rattle.calls.specs.Demand3.{AllTake}
use Rattle.calls.proofs.Records.{Notes}
use Rattle.calls.proofs.Steps.{row-passed}
use Rattle.calls.proofs.Turns.{both}
use Rattle.calls.proofs.Refusals.{Faithful, faithful_on, decide_step}
use Rattle.calls.proofs.Begins.{opens-faithful, begun-faithful}
use Rattle.calls.proofs.Alike.{answered_none}
use Rattle.calls.proofs.LiveWorld.{buffers_same}
use Rattle.calls.proofs.Longer.{always_so, always-last}
use Rattle.calls.proofs.Pointed.{gave-pointed}

-- what is next, and the challenges
pub record Late (cs : List ℕ) (t : Turn) : Type 0 where
  pub openings : t.next ≡ next.Openings
  pub challenges : t.challenges ≡ cs

pub not_next : {A : Type 0} (t : Next) → t ≡ next.Openings → (u : Next) → waits u next.Openings ≡ false → waits u t ≡ true → A
not_next t e u other this = absurd (true≢false (sym this ∙ ap (waits u) e ∙ other))

closed-late : (cs : List ℕ) (a : State) (t : Next) (k : Kind) → t ≡ next.Openings → Late cs a.turn → Late cs (closed a t k).turn
closed-late cs a t Shut e h = h
closed-late cs a next.Total Asked e h = not_next next.Total e next.Total refl refl
closed-late cs a next.Message Asked e h = not_next next.Message e next.Message refl refl
closed-late cs a next.Challenge Asked e h = h
closed-late cs a next.Ends Asked e h = not_next next.Ends e next.Ends refl refl
closed-late cs a next.Openings Asked e h = record { openings = refl; challenges = h.challenges }
closed-late cs a t Change e h = record { openings = h.openings; challenges = h.challenges }

module _ (p : ℕ) (cs : List ℕ) where
  goes_late : (a : State) (c : Call) (l after : Lent) → table p a c l ≡ none → Late cs a.turn → Late cs (goes_on a c after).turn
  unfolding table
  goes_late a call.OpenPass l m t h = h
  goes_late a (call.OpenAt b) l m t h = h
  goes_late a call.ToFull l m t h = h
  goes_late a call.ToSmall l m t h = record { openings = h.openings; challenges = h.challenges }
  goes_late a (call.Give x) l m t h = subst (Late cs) (sym (buffers_same (λ d. d.turn) (λ a l. refl) (is_change a.pass.kind) _ m)) h
  goes_late a call.Close l m t h = closed-late cs a a.turn.next a.pass.kind h.openings h
  goes_late a call.Message l m t h =
      not_next a.turn.next h.openings next.Message refl
      (both (is_full a.turn.mode) (waits next.Message a.turn.next) (row-passed (is_full a.turn.mode && waits next.Message a.turn.next) 10 _ t).0).1
  goes_late a (call.Challenge c) l m t h =
      not_next a.turn.next h.openings next.Challenge refl (row-passed (waits next.Challenge a.turn.next) 10 _ t).0
  goes_late a call.Ends l m t h =
      not_next a.turn.next h.openings next.Ends refl
      (both (is_full a.turn.mode) (waits next.Ends a.turn.next) (row-passed (is_full a.turn.mode && waits next.Ends a.turn.next) 10 _ t).0).1
  goes_late a (call.Opening b) l m t h = h
  goes_late a call.WriteProof l m t h = h

  follow-late : (a : State) (c : Call) (l : Lent) (o : Result) → (is_answered o.answer ≡ true → table p a c l ≡ none) → Late cs a.turn → Late cs (follow a c o).turn
  follow-late a c l o free h = by (is_answered o.answer) refl
    where
      by : (t : Bool) → is_answered o.answer ≡ t → Late cs (cond t (goes_on a c o.lent) a).turn
      by true e = goes_late a c l o.lent (free e) h
      by false e = h

  late_always : (large : max_weight < p) (w : World) {past : Notes} → Faithful p large w past → Late cs w.state.turn → (ms : List Made)
      → always (onward p) (λ w. Late cs w.state.turn) w ms
  unfolding along always
  late_always large w i h [] = h
  late_always large w i h (m ∷ ms) =
      let a : State = w.state in
      let o : Result = came p w m in
      let free : is_answered o.answer ≡ true → table p a m.call m.lent ≡ none =
      λ y. answered_none w.run w.pass m.lent (table p a m.call m.lent) o (decide_step p large a w.run w.pass i m.call m.lent) y in (
        h,
        late_always large (onward p w m) (faithful_on p large w i m) (follow-late a m.call m.lent o free h) ms,
      )

module _ (p : ℕ) (large : max_weight < p) where
  pub late_batch : (s : Start) (cs : List ℕ) → Opens s cs → (f g : List ℕ) (ms : List Made)
      → always (onward p) (λ w. Late cs w.state.turn) (openings_world s cs f g) ms
  late_batch s cs o f g ms =
      late_always p cs large (openings_world s cs f g) (opens-faithful p large s cs o f g) (record { openings = refl; challenges = refl }) ms

  -- a batch's list takes the challenges that it began with
  pub batch-takes : (s : Start) (cs : List ℕ) → Opens s cs → (f g : List ℕ) (ms : List Made)
      → AllTake p cs (openings_world s cs f g) ms
  batch-takes s cs o f g ms =
      always_so (onward p) (λ w. Late cs w.state.turn) _ (λ w h j less. ap (λ ds. at ds j) h.challenges) (openings_world s cs f g) ms
      (late_batch s cs o f g ms)

  -- and has them before its last call
  pub batch-challenges : (s : Start) (cs : List ℕ) → Opens s cs → (f g : List ℕ) (ms : List Made) (m : Made)
      → (after (onward p) (openings_world s cs f g) ms).state.turn.challenges ≡ cs
  batch-challenges s cs o f g ms m =
      (always-last (onward p) (λ w. Late cs w.state.turn) (openings_world s cs f g) ms
      (late_batch s cs o f g ms)).challenges

  pub begun-pointed : (s : Start) (b : Begin) → CanBegin s b → (f g : List ℕ) (ms : List Made) → (x : ℕ) (y : Answer)
      → Gave p (begun s b f g) ms (opening_at x) y → (is_nonzero p x && ltb 0 s.rounds) ≡ true
  begun-pointed s total h f g ms x y gave = gave-pointed p large (begun s total f g) (begun-faithful p large s total h f g) refl ms x y gave
  begun-pointed s (openings cs) h f g ms x y gave =
      gave-pointed p large (begun s (openings cs) f g) (begun-faithful p large s (openings cs) h f g) refl ms x y gave
