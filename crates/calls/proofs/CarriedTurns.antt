-- How far a verifier is at a state of the run whose answers it was brought, and what the run is asked next.
use mathlib.Core.Path.{◌≡◌, refl, sym, ap, subst, ◌∙◌}
use mathlib.Core.Bool.{Bool, true, false, cond, ◌&&◌}
use mathlib.Core.List.{[], ◌∷◌, ◌++◌}
use mathlib.Core.Option.{none}
use Prim.Native.Nat.{ℕ, suc, ◌<◌}
use native.Mathlib.Omega.{arith}
use lib.Dec.{ltb}
use lib.ListN.{length, length-append}
use borrow.Author.Tests.{eqb-true, ltb-true}
use Rattle.phase.proofs.Facts.{waits-for}
use Rattle.phase.specs.declared.Next.{Next}
use Rattle.phase.specs.declared.Next.TheVariants as next
use Rattle.phase.specs.declared.Kind.{Kind}
use Rattle.phase.specs.declared.Kind.TheVariants.{Shut, Asked, Change}
use Rattle.phase.specs.Cases.{is_change, is_full, waits}
use Rattle.phase.specs.Order.{round_fits, round_or_ends}
use Rattle.calls.specs.declared.Call.{Call}
use Rattle.calls.specs.declared.Call.TheVariants as call
use Rattle.calls.specs.Step.{Lent, Result, is_answered}
use Rattle.calls.specs.State.{State, takes_challenge, goes_on, closed, follow}
use Rattle.calls.specs.Table.{read_rows, table}
use Rattle.calls.specs.Meaning.{Question, total, round_message, ends, opening_at, proof, done, close_asks, question}
use Rattle.calls.specs.Carried.{claims}
use Rattle.calls.proofs.Steps.{row-passed}
use Rattle.calls.proofs.Turns.{both}
use Rattle.calls.proofs.LiveWorld.{buffers_same}

-- 0 before the total, then one more than the messages given
abbrev turn_at : Next → ℕ → ℕ
turn_at next.Total i = 0
turn_at next.Message i = suc i
turn_at next.Challenge i = suc (suc i)
turn_at next.Ends i = suc i
turn_at next.Openings i = suc i

abbrev pub turn : State → ℕ
turn a = turn_at a.turn.next (length a.turn.challenges)

-- the total and a message bring it on
abbrev pub brought : Question → ℕ → ℕ
brought total x = suc x
brought (round_message i) x = suc x
brought ends x = x
brought (opening_at b) x = x
brought proof x = x
brought (done a) x = x

-- where each is asked, of n rounds; nothing is carried of an answer that is none of them
abbrev pub AtTurn : ℕ → ℕ → Question → Type 0
AtTurn n x total = x ≡ 0
AtTurn n x (round_message i) = (x ≡ suc i) × (i < n)
AtTurn n x ends = x ≡ suc n
AtTurn n x (opening_at b) = Unit {0}
AtTurn n x proof = Unit {0}
AtTurn n x (done a) = claims a ≡ []

abbrev Goes : State → Question → State → Type 0
Goes a q b = AtTurn a.start.rounds (turn a) q × (turn b ≡ brought q (turn a))

round_turn : (j n i : ℕ) → turn_at (round_or_ends j n) i ≡ suc i
round_turn j n i = by (ltb j n)
  where
    by : (b : Bool) → turn_at (cond b next.Message next.Ends) i ≡ suc i
    by true = refl
    by false = refl

close-turn : (a : State) (t : Next) (k : Kind) → a.turn.next ≡ t → round_fits t (length a.turn.challenges) a.start.rounds ≡ true → Goes a (close_asks a t k) (closed a t k)
close-turn a t Shut e h = (refl, refl)
close-turn a next.Total Asked e h =
    let first = ap (λ t. turn_at t (length a.turn.challenges)) e in
    (first, round_turn 0 a.start.rounds (length a.turn.challenges) ∙ ap suc (eqb-true (length a.turn.challenges) 0 h) ∙ ap suc (sym first))
close-turn a next.Message Asked e h =
    let now = ap (λ t. turn_at t (length a.turn.challenges)) e in ((now, ltb-true (length a.turn.challenges) a.start.rounds h), ap suc (sym now))
close-turn a next.Challenge Asked e h = (refl, refl)
close-turn a next.Ends Asked e h =
    let now = ap (λ t. turn_at t (length a.turn.challenges)) e in (now ∙ ap suc (eqb-true (length a.turn.challenges) a.start.rounds h), sym now)
close-turn a next.Openings Asked e h = (tt, ap (λ t. turn_at t (length a.turn.challenges)) (sym e))
close-turn a t Change e h = (refl, refl)

pub goes_turn : (p : ℕ) (a : State) (c : Call) (l m : Lent) → table p a c l ≡ none → round_fits a.turn.next (length a.turn.challenges) a.start.rounds ≡ true → Goes a (question a c) (goes_on a c m)
unfolding table
goes_turn p a call.OpenPass l m free h = (refl, refl)
goes_turn p a (call.OpenAt b) l m free h = (refl, refl)
goes_turn p a call.ToFull l m free h = (refl, refl)
goes_turn p a call.ToSmall l m free h = (refl, refl)
goes_turn p a (call.Give x) l m free h = (refl, buffers_same turn (λ a l. refl) (is_change a.pass.kind) _ m)
goes_turn p a call.Close l m free h = close-turn a a.turn.next a.pass.kind refl h
goes_turn p a call.Message l m free h =
    let e = waits-for next.Message a.turn.next (both (is_full a.turn.mode) (waits next.Message a.turn.next) (row-passed (is_full a.turn.mode && waits next.Message a.turn.next) 10 (read_rows p a l) free).0).1 in
    let i : ℕ = length a.turn.challenges in
    let now = ap (λ t. turn_at t i) e in
    ((now, ltb-true i a.start.rounds (subst (λ t. round_fits t i a.start.rounds ≡ true) e h)), ap suc (sym now))
goes_turn p a (call.Challenge c) l m free h =
    let e = waits-for next.Challenge a.turn.next (row-passed (waits next.Challenge a.turn.next) 10 _ free).0 in
    let count : length (a.turn.challenges ++ c ∷ []) ≡ suc (length a.turn.challenges) = omega (arith, length-append a.turn.challenges (c ∷ [])) in (
      refl,
      buffers_same turn (λ a l. refl) (is_full a.turn.mode) (takes_challenge a c) m
          ∙ round_turn (length (a.turn.challenges ++ c ∷ [])) a.start.rounds (length (a.turn.challenges ++ c ∷ []))
          ∙ ap suc count ∙ ap (λ t. turn_at t (length a.turn.challenges)) (sym e),
    )
goes_turn p a call.Ends l m free h =
    let e = waits-for next.Ends a.turn.next (both (is_full a.turn.mode) (waits next.Ends a.turn.next) (row-passed (is_full a.turn.mode && waits next.Ends a.turn.next) 10 (read_rows p a l) free).0).1 in
    let i : ℕ = length a.turn.challenges in
    let now = ap (λ t. turn_at t i) e in
    (now ∙ ap suc (eqb-true i a.start.rounds (subst (λ t. round_fits t i a.start.rounds ≡ true) e h)), sym now)
goes_turn p a (call.Opening b) l m free h = (tt, refl)
goes_turn p a call.WriteProof l m free h = (tt, refl)

pub follow-turn : (a : State) (c : Call) (o : Result) → is_answered o.answer ≡ true → turn (follow a c o) ≡ turn (goes_on a c o.lent)
follow-turn a c o y =
    ap (λ b. turn (cond b (goes_on a c o.lent) a)) y
