-- An opening is asked for at a point from 1 to P-1, in a run with rounds.
use mathlib.Core.Path.{◌≡◌, refl, sym, ap, ap₂, subst, ◌∙◌}
use mathlib.Core.Bool.{Bool, true, false, cond, ◌&&◌, true≢false}
use mathlib.Core.List.{List, [], ◌∷◌}
use mathlib.Core.Logic.{⊎_elim}
use mathlib.Core.Option.{none}
use Prim.Native.Nat.{ℕ, ◌<◌}
use lib.Dec.{ltb}
use Rattle.refusal.specs.Limit.{max_weight}
use Rattle.vector.specs.Slice.{is_nonzero}
use Rattle.phase.specs.declared.Mode.{Mode}
use Rattle.phase.specs.declared.Mode.TheVariants.{Small, Full}
use Rattle.phase.specs.declared.Next.{Next}
use Rattle.phase.specs.declared.Next.TheVariants as next
use Rattle.phase.specs.declared.Kind.{Kind}
use Rattle.phase.specs.declared.Kind.TheVariants.{Shut, Asked, Change}
use Rattle.phase.specs.Cases.{is_change, is_full, is_small, waits}
use Rattle.calls.specs.declared.Call.{Call}
use Rattle.calls.specs.declared.Call.TheVariants as call
use Rattle.calls.specs.Lists.{along, somewhere}
use Rattle.calls.specs.Step.{Lent, Result, is_answered}
use Rattle.calls.specs.State.{State, takes_challenge, goes_on, closed, follow}
use Rattle.calls.specs.Table.{row, pass_waits, openings_next, table}
use Rattle.calls.specs.Meaning.{Question, total, round_message, ends, opening_at, proof, done, close_asks, question, Answer}
use Rattle.calls.specs.World.{Made, World, came, onward}
use Rattle.calls.specs.Given.{Gave}
use Rattle.calls.proofs.Records.{Notes}
use Rattle.calls.proofs.Steps.{row-passed}
use Rattle.calls.proofs.Turns.{both}
use Rattle.calls.proofs.Refusals.{Faithful, decide_step, faithful_on}
use Rattle.calls.proofs.Answers.{follow-start}
use Rattle.calls.proofs.Alike.{answered_none}
use Rattle.calls.proofs.LiveWorld.{buffers_same}

-- an opening pass has a point, and there are rounds
abbrev point_fits : ℕ → ℕ → ℕ → Next → Kind → Bool
point_fits p n b t Shut = true
point_fits p n b next.Total Asked = true
point_fits p n b next.Message Asked = true
point_fits p n b next.Challenge Asked = true
point_fits p n b next.Ends Asked = true
point_fits p n b next.Openings Asked = is_nonzero p b && ltb 0 n
point_fits p n b t Change = true

abbrev pub pointed : ℕ → State → Bool
pointed p a = point_fits p a.start.rounds a.pass.point a.turn.next a.pass.kind

abbrev point_in : Question → ℕ
point_in total = 0
point_in (round_message i) = 0
point_in ends = 0
point_in (opening_at b) = b
point_in proof = 0
point_in (done x) = 0

abbrev is_opening_asked : Question → Bool
is_opening_asked total = false
is_opening_asked (round_message i) = false
is_opening_asked ends = false
is_opening_asked (opening_at b) = true
is_opening_asked proof = false
is_opening_asked (done x) = false

module _ (p : ℕ) where
  close-pointed : (a : State) (t : Next) (k : Kind) → pointed p a ≡ true → pointed p (closed a t k) ≡ true
  close-pointed a t Shut h = h
  close-pointed a next.Total Asked h = refl
  close-pointed a next.Message Asked h = refl
  close-pointed a next.Challenge Asked h = h
  close-pointed a next.Ends Asked h = refl
  close-pointed a next.Openings Asked h = refl
  close-pointed a t Change h = refl

  open_pointed : (n : ℕ) (m : Mode) (t : Next) → pass_waits m t ≡ true → point_fits p n 0 t Asked ≡ true
  open_pointed n Full t e = absurd (true≢false (sym e))
  open_pointed n Small next.Total e = refl
  open_pointed n Small next.Message e = refl
  open_pointed n Small next.Challenge e = refl
  open_pointed n Small next.Ends e = refl
  open_pointed n Small next.Openings e = absurd (true≢false (sym e))

  at-pointed : (n b : ℕ) (t : Next) → is_nonzero p b ≡ true → openings_next t n ≡ true → point_fits p n b t Asked ≡ true
  at-pointed n b next.Total h e = refl
  at-pointed n b next.Message h e = refl
  at-pointed n b next.Challenge h e = refl
  at-pointed n b next.Ends h e = refl
  at-pointed n b next.Openings h e = ap₂ ◌&&◌ h e

  goes_pointed : (a : State) (c : Call) (l m : Lent) → table p a c l ≡ none → pointed p a ≡ true → pointed p (goes_on a c m) ≡ true
  unfolding table
  goes_pointed a call.OpenPass l m e h = open_pointed a.start.rounds a.turn.mode a.turn.next (row-passed (pass_waits a.turn.mode a.turn.next) 10 none e).0
  goes_pointed a (call.OpenAt b) l m e h =
      let r = row-passed (is_small a.turn.mode && openings_next a.turn.next a.start.rounds) 10 (row (is_nonzero p b) 6 none) e in
      at-pointed a.start.rounds b a.turn.next (row-passed (is_nonzero p b) 6 none r.1).0 (both (is_small a.turn.mode) (openings_next a.turn.next a.start.rounds) r.0).1
  goes_pointed a call.ToFull l m e h = refl
  goes_pointed a call.ToSmall l m e h = refl
  goes_pointed a (call.Give x) l m e h = buffers_same (pointed p) (λ a l. refl) (is_change a.pass.kind) _ m ∙ h
  goes_pointed a call.Close l m e h = close-pointed a a.turn.next a.pass.kind h
  goes_pointed a call.Message l m e h = refl
  goes_pointed a (call.Challenge c) l m e h = buffers_same (pointed p) (λ a l. refl) (is_full a.turn.mode) (takes_challenge a c) m
  goes_pointed a call.Ends l m e h = refl
  goes_pointed a (call.Opening b) l m e h = h
  goes_pointed a call.WriteProof l m e h = h

  pub follow-pointed : (a : State) (c : Call) (l : Lent) (o : Result) → (is_answered o.answer ≡ true → table p a c l ≡ none) → pointed p a ≡ true → pointed p (follow a c o) ≡ true
  follow-pointed a c l o t h = by (is_answered o.answer) refl
    where
      by : (b : Bool) → is_answered o.answer ≡ b → pointed p (cond b (goes_on a c o.lent) a) ≡ true
      by true e = goes_pointed a c l o.lent (t e) h
      by false e = h

  close-asked : (a : State) (t : Next) (k : Kind) (x : ℕ) → point_fits p a.start.rounds a.pass.point t k ≡ true → close_asks a t k ≡ opening_at x → (is_nonzero p x && ltb 0 a.start.rounds) ≡ true
  close-asked a t Shut x h e = absurd (true≢false (sym (ap is_opening_asked e)))
  close-asked a next.Total Asked x h e = absurd (true≢false (sym (ap is_opening_asked e)))
  close-asked a next.Message Asked x h e = absurd (true≢false (sym (ap is_opening_asked e)))
  close-asked a next.Challenge Asked x h e = absurd (true≢false (sym (ap is_opening_asked e)))
  close-asked a next.Ends Asked x h e = absurd (true≢false (sym (ap is_opening_asked e)))
  close-asked a next.Openings Asked x h e = subst (λ y. (is_nonzero p y && ltb 0 a.start.rounds) ≡ true) (ap point_in e) h
  close-asked a t Change x h e = absurd (true≢false (sym (ap is_opening_asked e)))

  pub asked-pointed : (a : State) (c : Call) (l : Lent) (x : ℕ) → table p a c l ≡ none → pointed p a ≡ true → question a c ≡ opening_at x → (is_nonzero p x && ltb 0 a.start.rounds) ≡ true
  unfolding table
  asked-pointed a call.OpenPass l x t h e = absurd (true≢false (sym (ap is_opening_asked e)))
  asked-pointed a (call.OpenAt b) l x t h e = absurd (true≢false (sym (ap is_opening_asked e)))
  asked-pointed a call.ToFull l x t h e = absurd (true≢false (sym (ap is_opening_asked e)))
  asked-pointed a call.ToSmall l x t h e = absurd (true≢false (sym (ap is_opening_asked e)))
  asked-pointed a (call.Give y) l x t h e = absurd (true≢false (sym (ap is_opening_asked e)))
  asked-pointed a call.Close l x t h e = close-asked a a.turn.next a.pass.kind x h e
  asked-pointed a call.Message l x t h e = absurd (true≢false (sym (ap is_opening_asked e)))
  asked-pointed a (call.Challenge c) l x t h e = absurd (true≢false (sym (ap is_opening_asked e)))
  asked-pointed a call.Ends l x t h e = absurd (true≢false (sym (ap is_opening_asked e)))
  asked-pointed a (call.Opening b) l x t h e =
      let r = row-passed (is_full a.turn.mode && openings_next a.turn.next a.start.rounds) 10 _ t in
      let n = (both (waits next.Openings a.turn.next) (ltb 0 a.start.rounds) (both (is_full a.turn.mode) (openings_next a.turn.next a.start.rounds) r.0).1).1 in
      subst (λ y. (is_nonzero p y && ltb 0 a.start.rounds) ≡ true) (ap point_in e) (ap₂ ◌&&◌ (row-passed (is_nonzero p b) 6 _ r.1).0 n)
  asked-pointed a call.WriteProof l x t h e = absurd (true≢false (sym (ap is_opening_asked e)))

  module _ (large : max_weight < p) where
    pub gave-pointed : (w : World) {past : Notes} → Faithful p large w past → pointed p w.state ≡ true → (ms : List Made)
        → (x : ℕ) (y : Answer) → Gave p w ms (opening_at x) y → (is_nonzero p x && ltb 0 w.state.start.rounds) ≡ true
    unfolding somewhere along
    gave-pointed w i h [] x y e = absurd e
    gave-pointed w i h (m ∷ ms) x y e =
        let a : State = w.state in
        let o : Result = came p w m in
        let free : is_answered o.answer ≡ true → table p a m.call m.lent ≡ none =
        λ y. answered_none w.run w.pass m.lent (table p a m.call m.lent) o (decide_step p large a w.run w.pass i m.call m.lent) y in
        ⊎_elim {C = (is_nonzero p x && ltb 0 a.start.rounds) ≡ true}
        (λ here. asked-pointed a m.call m.lent x (free here.0.0) h here.0.1)
        (λ later.
        subst (λ st. (is_nonzero p x && ltb 0 st.rounds) ≡ true) (follow-start a m.call o)
        (gave-pointed (onward p w m) (faithful_on p large w i m) (follow-pointed a m.call m.lent o free h) ms x y later)) e
