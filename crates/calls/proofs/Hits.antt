-- What a run's list gave, at the state where it gave it.
use mathlib.Core.Path.{◌≡◌, refl, sym, ap, ap₂, subst, ◌∙◌}
use mathlib.Core.Bool.{Bool, true, false, ◌&&◌, true≢false}
use mathlib.Core.List.{List, [], ◌∷◌}
use mathlib.Core.Logic.{⊎_elim}
use mathlib.Core.Option.{none}
use Prim.Native.Nat.{ℕ, ◌<◌}
use lib.Dec.{ltb}
use lib.ListN.{length}
use borrow.Author.Tests.{eqb-true}
use Rattle.refusal.specs.Limit.{max_weight}
use Rattle.vector.specs.Vector.{at}
use Rattle.phase.proofs.Facts.{waits-for}
use Rattle.phase.specs.declared.Next.{Next}
use Rattle.phase.specs.declared.Next.TheVariants as next
use Rattle.phase.specs.declared.Kind.{Kind}
use Rattle.phase.specs.declared.Kind.TheVariants.{Shut, Asked, Change}
use Rattle.phase.specs.Cases.{is_full, waits}
use Rattle.phase.specs.Order.{round_fits}
use Rattle.runs.specs.Trip.{Trip}
use Rattle.calls.specs.declared.Call.{Call}
use Rattle.calls.specs.declared.Call.TheVariants as call
use Rattle.calls.specs.Lists.{after, along, always, somewhere}
use Rattle.calls.specs.Step.{Lent, is_answered}
use Rattle.calls.specs.State.{State}
use Rattle.calls.specs.World.{Made, World, came, onward}
use Rattle.calls.specs.Table.{openings_next, table}
use Rattle.calls.specs.Meaning.{Question, total, round_message, ends, opening_at, proof, done, close_asks, question, meant, Kept}
use Rattle.calls.specs.Statement.{Right}
use Rattle.calls.specs.Given.{reply_of, Answered}
use Rattle.calls.specs.Demand3.{AllKept, AllTake}
use Rattle.calls.proofs.Records.{Notes}
use Rattle.calls.proofs.Steps.{row-passed}
use Rattle.calls.proofs.Fits.{Fits}
use Rattle.calls.proofs.Turns.{both}
use Rattle.calls.proofs.Refusals.{decide_step}
use Rattle.calls.proofs.Answers.{Going, right-here, goes_on_lem}
use Rattle.calls.proofs.Alike.{answered_none}

-- the challenges taken are the first of cs
abbrev pub Prefix : List ℕ → List ℕ → Type 0
Prefix ds cs = (j : ℕ) → j < length ds → at ds j ≡ at cs j

module _ (p : ℕ) (large : max_weight < p) (through : Bool) (T : Trip) (whole : length T.items ≡ T.start.items) (cs : List ℕ) where
  -- the call of the list that was asked q
  pub record Hit (q : Question) : Type 0 where
    pub world : World
    pub past : Notes
    pub made : Made
    pub going : Going p large through T whole world past
    pub prefix : Prefix world.state.turn.challenges cs
    pub asked : question world.state made.call ≡ q
    pub free : table p world.state made.call made.lent ≡ none
    pub right : Right p T world.state made.call made.lent (came p world made)

  -- what it replied
  pub hit_replies : (q : Question) (h : Hit q) → reply_of (came p h.world h.made) ≡ meant p T h.world.state.turn.challenges q
  hit_replies q h = ap₂ (λ x y. record { answer = x; values = y }) h.right.answer h.right.values ∙ ap (meant p T h.world.state.turn.challenges) h.asked

  unfoldable pub hit_here : (w : World) {past : Notes} → Going p large through T whole w past → Prefix w.state.turn.challenges cs → (m : Made)
      → (is_answered (came p w m).answer ≡ true → Kept p T through w.state m.call m.lent) → (q : Question) → Answered p q w m → Hit q
  hit_here w {past} g prefix m kept q e =
      let d = decide_step p large w.state w.run w.pass g.faithful m.call m.lent in
      let free = answered_none w.run w.pass m.lent (table p w.state m.call m.lent) (came p w m) d e.0 in
      record { world = w; past = past; made = m; going = g; prefix = prefix; asked = e.1; free = free; right = right-here p large through T whole w g m kept free }

  -- WHAT HOLDS SOMEWHERE IN THE LIST of an answered call that was asked q
  pub hit_somewhere : (q : Question) (P : World → Made → Type 0) (w : World) {past : Notes} → Going p large through T whole w past → (ms : List Made) → AllKept p through T w ms
      → AllTake p cs w ms → somewhere (onward p) (λ w m. Answered p q w m × P w m) w ms → (h : Hit q) × P h.world h.made
  unfolding along always somewhere hit_here
  hit_somewhere q P w g [] kept takes e = absurd e
  hit_somewhere q P w g (m ∷ ms) kept takes e =
      ⊎_elim {C = (h : Hit q) × P h.world h.made}
      (λ here. (hit_here w g takes.0 m kept.0 q here.0, here.1))
      (λ later. hit_somewhere q P (onward p w m) (goes_on_lem p large through T whole w g m kept.0) ms kept.1 takes.1 later) e

  -- THE WORLD AFTER THE LIST
  pub going_after : (w : World) {past : Notes} → Going p large through T whole w past → (ms : List Made) → AllKept p through T w ms → AllTake p cs w ms
      → (let x : World = after (onward p) w ms in (past : Notes) × Going p large through T whole x past × Prefix x.state.turn.challenges cs)
  unfolding along always after
  going_after w {past} g [] kept takes = (past, g, takes)
  going_after w g (m ∷ ms) kept takes = going_after (onward p w m) (goes_on_lem p large through T whole w g m kept.0) ms kept.1 takes.1

-- THE ROUND OF A QUESTION
abbrev round_in : ℕ → Question → ℕ
round_in d total = d
round_in d (round_message i) = i
round_in d ends = d
round_in d (opening_at b) = d
round_in d proof = d
round_in d (done x) = d

close-round : (a : State) (t : Next) (k : Kind) → round_in (length a.turn.challenges) (close_asks a t k) ≡ length a.turn.challenges
close-round a t Shut = refl
close-round a next.Total Asked = refl
close-round a next.Message Asked = refl
close-round a next.Challenge Asked = refl
close-round a next.Ends Asked = refl
close-round a next.Openings Asked = refl
close-round a t Change = refl

call_round : (a : State) (c : Call) → round_in (length a.turn.challenges) (question a c) ≡ length a.turn.challenges
call_round a call.OpenPass = refl
call_round a (call.OpenAt b) = refl
call_round a call.ToFull = refl
call_round a call.ToSmall = refl
call_round a (call.Give x) = refl
call_round a call.Close = close-round a a.turn.next a.pass.kind
call_round a call.Message = refl
call_round a (call.Challenge c) = refl
call_round a call.Ends = refl
call_round a (call.Opening b) = refl
call_round a call.WriteProof = refl

pub message-round : (a : State) (c : Call) (i : ℕ) → question a c ≡ round_message i → length a.turn.challenges ≡ i
message-round a c i e = sym (call_round a c) ∙ ap (round_in (length a.turn.challenges)) e

-- AFTER THE ENDS: openings and proof files
abbrev pub is_late : Question → Bool
is_late total = false
is_late (round_message i) = false
is_late ends = false
is_late (opening_at b) = true
is_late proof = true
is_late (done x) = false

late_close : (a : State) (t : Next) (k : Kind) → is_late (close_asks a t k) ≡ true → waits next.Openings t ≡ true
late_close a t Shut e = absurd (true≢false (sym e))
late_close a next.Total Asked e = absurd (true≢false (sym e))
late_close a next.Message Asked e = absurd (true≢false (sym e))
late_close a next.Challenge Asked e = absurd (true≢false (sym e))
late_close a next.Ends Asked e = absurd (true≢false (sym e))
late_close a next.Openings Asked e = refl
late_close a t Change e = absurd (true≢false (sym e))

pub late : (p : ℕ) (a : State) (c : Call) (l : Lent) → table p a c l ≡ none → is_late (question a c) ≡ true → waits next.Openings a.turn.next ≡ true
unfolding table
late p a call.OpenPass l t e = absurd (true≢false (sym e))
late p a (call.OpenAt b) l t e = absurd (true≢false (sym e))
late p a call.ToFull l t e = absurd (true≢false (sym e))
late p a call.ToSmall l t e = absurd (true≢false (sym e))
late p a (call.Give x) l t e = absurd (true≢false (sym e))
late p a call.Close l t e = late_close a a.turn.next a.pass.kind e
late p a call.Message l t e = absurd (true≢false (sym e))
late p a (call.Challenge c) l t e = absurd (true≢false (sym e))
late p a call.Ends l t e = absurd (true≢false (sym e))
late p a (call.Opening b) l t e =
    (both (waits next.Openings a.turn.next) (ltb 0 a.start.rounds)
    (both (is_full a.turn.mode) (openings_next a.turn.next a.start.rounds) (row-passed (is_full a.turn.mode && openings_next a.turn.next a.start.rounds) 10 _ t).0).1).0
late p a call.WriteProof l t e = (both a.start.plain (waits next.Openings a.turn.next) (row-passed (a.start.plain && waits next.Openings a.turn.next) 10 _ t).0).1

-- then every challenge was taken
pub all_challenges : (p : ℕ) (a : State) {past : Notes} → Fits p a past → waits next.Openings a.turn.next ≡ true → length a.turn.challenges ≡ a.start.rounds
all_challenges p a h e = eqb-true _ _ (subst (λ t. round_fits t (length a.turn.challenges) a.start.rounds ≡ true) (waits-for next.Openings a.turn.next e) h.run.round)
