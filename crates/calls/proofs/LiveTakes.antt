-- A proper run takes the challenges that the host brings, in their order.
use mathlib.Core.Path.{◌≡◌, refl, sym, ap, ap₂, ◌∙◌}
use mathlib.Core.Bool.{Bool, true, false, cond}
use mathlib.Core.List.{List, [], ◌∷◌, ◌++◌, append_assoc, append-nil}
use Prim.Native.Nat.{ℕ, zero, suc}
use lib.Dec.{ltb}
use lib.ListN.{get_or-append}
use Rattle.vector.specs.Vector.{at}
use Rattle.phase.specs.declared.Next.{Next}
use Rattle.phase.specs.declared.Next.TheVariants as next
use Rattle.phase.specs.declared.Kind.{Kind}
use Rattle.phase.specs.declared.Kind.TheVariants.{Shut, Asked, Change}
use Rattle.phase.specs.Cases.{is_change, is_full}
use Rattle.runs.specs.Trip.{Trip}
use Rattle.calls.specs.declared.Call.{Call}
use Rattle.calls.specs.declared.Call.TheVariants as call
use Rattle.calls.specs.Lists.{along, always, each}
use Rattle.calls.specs.Step.{Lent, lending, Result, is_answered}
use Rattle.calls.specs.State.{State, takes_challenge, closed, goes_on, follow}
use Rattle.calls.specs.World.{World, fresh_world}
use Rattle.calls.specs.Proper.{items_below, whole_pass, answer_by, change_to, before, change_before, rounds_from, openings_from, end_calls, opening_calls, whole_run, Host, host_on, proper_run}
use Rattle.calls.specs.Demand3.{AllAnswered, AllTake}
use Rattle.calls.proofs.LiveWorld.{made, made_from, buffers_same}
use Rattle.calls.proofs.Hits.{Prefix}

-- the challenges in a list of calls
abbrev own : Call → List ℕ
own call.OpenPass = []
own (call.OpenAt b) = []
own call.ToFull = []
own call.ToSmall = []
own (call.Give x) = []
own call.Close = []
own call.Message = []
own (call.Challenge c) = c ∷ []
own call.Ends = []
own (call.Opening b) = []
own call.WriteProof = []

unfoldable pub challenges_in : List Call → List ℕ
challenges_in [] = []
challenges_in (c ∷ cs) = own c ++ challenges_in cs

append_in : (xs ys : List Call) → challenges_in (xs ++ ys) ≡ challenges_in xs ++ challenges_in ys
unfolding challenges_in
append_in [] ys = refl
append_in (c ∷ xs) ys = ap (λ zs. own c ++ zs) (append_in xs ys) ∙ sym (append_assoc (own c) (challenges_in xs) (challenges_in ys))

quiet_both : (xs ys : List Call) → challenges_in xs ≡ [] → challenges_in ys ≡ [] → challenges_in (xs ++ ys) ≡ []
quiet_both xs ys e f = append_in xs ys ∙ ap₂ ◌++◌ e f

before-quiet : (xs ys : List Call) (cs : List ℕ) → challenges_in xs ≡ cs → challenges_in ys ≡ [] → challenges_in (xs ++ ys) ≡ cs
before-quiet xs ys cs e f = append_in xs ys ∙ ap₂ ◌++◌ e f ∙ append-nil cs

after_quiet : (xs ys : List Call) (cs : List ℕ) → challenges_in xs ≡ [] → challenges_in ys ≡ cs → challenges_in (xs ++ ys) ≡ cs
after_quiet xs ys cs e f = append_in xs ys ∙ ap₂ ◌++◌ e f

-- a proper run's are those of its rounds
module _ (T : Trip) where
  items-quiet : (m : ℕ) → challenges_in (items_below T m) ≡ []
  unfolding items_below challenges_in
  items-quiet zero = refl
  items-quiet (suc m) = items-quiet m

  pass-quiet : (opening : Call) → own opening ≡ [] → challenges_in (whole_pass T opening) ≡ []
  unfolding challenges_in
  pass-quiet opening e = ap₂ ◌++◌ e (quiet_both (items_below T T.start.items) (call.Close ∷ []) (items-quiet T.start.items) refl)

  answer-quiet : (full : Bool) (opening asking : Call) → own opening ≡ [] → own asking ≡ [] → challenges_in (answer_by T full opening asking) ≡ []
  unfolding challenges_in
  answer-quiet true opening asking e f = ap (λ xs. xs ++ []) f
  answer-quiet false opening asking e f = pass-quiet opening e

  change-to_quiet : (was full : Bool) → challenges_in (change_to T was full) ≡ []
  unfolding challenges_in
  change-to_quiet false true = pass-quiet call.ToFull refl
  change-to_quiet true false = refl
  change-to_quiet false false = refl
  change-to_quiet true true = refl

  module _ (full : ℕ → Bool) where
    change-quiet : (i : ℕ) → challenges_in (change_before T full i) ≡ []
    change-quiet i = change-to_quiet (before T full i) (full i)

    rounds-in : (i : ℕ) (cs : List ℕ) → challenges_in (rounds_from T full i cs) ≡ cs
    unfolding rounds_from challenges_in
    rounds-in i [] = refl
    rounds-in i (c ∷ cs) =
        let asks : List Call = answer_by T (full i) call.OpenPass call.Message in
        after_quiet (change_before T full i ++ asks) (call.Challenge c ∷ rounds_from T full (suc i) cs) (c ∷ cs)
        (quiet_both (change_before T full i) asks (change-quiet i) (answer-quiet (full i) call.OpenPass call.Message refl refl))
        (ap (λ ds. c ∷ ds) (rounds-in (suc i) cs))

    openings-quiet : (i : ℕ) (bs : List ℕ) → challenges_in (openings_from T full i bs) ≡ []
    unfolding openings_from
    openings-quiet i [] = change-quiet i
    openings-quiet i (b ∷ bs) =
        let asks : List Call = answer_by T (full i) (call.OpenAt b) (call.Opening b) in
        quiet_both (change_before T full i ++ asks) (openings_from T full (suc i) bs)
        (quiet_both (change_before T full i) asks (change-quiet i) (answer-quiet (full i) (call.OpenAt b) (call.Opening b) refl refl)) (openings-quiet (suc i) bs)

    pub last-quiet : (bs : List ℕ) → challenges_in (opening_calls T full bs) ≡ []
    unfolding challenges_in
    last-quiet bs = by (ltb 0 T.start.rounds)
      where
        by : (b : Bool) → challenges_in (cond b (openings_from T full (suc T.start.rounds) bs) []) ≡ []
        by true = openings-quiet (suc T.start.rounds) bs
        by false = refl

    whole_in : (cs bs : List ℕ) → challenges_in (whole_run T full cs bs) ≡ cs
    whole_in cs bs =
        let first : List Call = whole_pass T call.OpenPass in
        let asks : List Call = answer_by T (full T.start.rounds) call.OpenPass call.Ends in
        before-quiet (first ++ rounds_from T full 0 cs ++ end_calls T full) (opening_calls T full bs) cs
        (before-quiet (first ++ rounds_from T full 0 cs) (end_calls T full) cs
        (after_quiet first (rounds_from T full 0 cs) cs (pass-quiet call.OpenPass refl) (rounds-in 0 cs))
        (quiet_both (change_before T full T.start.rounds) asks (change-quiet T.start.rounds)
        (answer-quiet (full T.start.rounds) call.OpenPass call.Ends refl refl)))
        (last-quiet bs)

-- an answered call adds its challenge
close-takes : (a : State) (t : Next) (k : Kind) → (closed a t k).turn.challenges ≡ a.turn.challenges
close-takes a t Shut = refl
close-takes a next.Total Asked = refl
close-takes a next.Message Asked = refl
close-takes a next.Challenge Asked = refl
close-takes a next.Ends Asked = refl
close-takes a next.Openings Asked = refl
close-takes a t Change = refl

goes_takes : (a : State) (c : Call) (l : Lent) → (goes_on a c l).turn.challenges ≡ a.turn.challenges ++ own c
goes_takes a call.OpenPass l = sym (append-nil a.turn.challenges)
goes_takes a (call.OpenAt b) l = sym (append-nil a.turn.challenges)
goes_takes a call.ToFull l = sym (append-nil a.turn.challenges)
goes_takes a call.ToSmall l = sym (append-nil a.turn.challenges)
goes_takes a (call.Give x) l = buffers_same (λ d. d.turn.challenges) (λ a l. refl) (is_change a.pass.kind) _ l ∙ sym (append-nil a.turn.challenges)
goes_takes a call.Close l = close-takes a a.turn.next a.pass.kind ∙ sym (append-nil a.turn.challenges)
goes_takes a call.Message l = sym (append-nil a.turn.challenges)
goes_takes a (call.Challenge c) l = buffers_same (λ d. d.turn.challenges) (λ a l. refl) (is_full a.turn.mode) (takes_challenge a c) l
goes_takes a call.Ends l = sym (append-nil a.turn.challenges)
goes_takes a (call.Opening b) l = sym (append-nil a.turn.challenges)
goes_takes a call.WriteProof l = sym (append-nil a.turn.challenges)

follow-takes : (a : State) (c : Call) (o : Result) → is_answered o.answer ≡ true → (follow a c o).turn.challenges ≡ a.turn.challenges ++ own c
follow-takes a c o y = ap (λ b. (cond b (goes_on a c o.lent) a).turn.challenges) y ∙ goes_takes a c o.lent

first_of : (ds rest cs : List ℕ) → ds ++ rest ≡ cs → Prefix ds cs
first_of ds rest cs e j h = sym (get_or-append ds rest 0 j h) ∙ ap (λ xs. at xs j) e

module _ (p : ℕ) (T : Trip) (idle : Call → ℕ → Lent) where
  pub all_take : (cs : List ℕ) (calls : List Call) (w : Host) → AllAnswered p w.world (made_from p T idle w calls)
      → w.world.state.turn.challenges ++ challenges_in calls ≡ cs → AllTake p cs w.world (made_from p T idle w calls)
  unfolding each along always challenges_in
  all_take cs [] w h e = first_of w.world.state.turn.challenges [] cs e
  all_take cs (c ∷ calls) w h e =
      let ds : List ℕ = w.world.state.turn.challenges in (
        first_of ds (own c ++ challenges_in calls) cs e,
        all_take cs calls (host_on p T idle w c) h.1
            (ap (λ ds. ds ++ challenges_in calls) (follow-takes w.world.state c (made p T idle w c) h.0) ∙ append_assoc ds (own c) (challenges_in calls) ∙ e),
      )

  pub proper-takes : (full : ℕ → Bool) (cs bs f g : List ℕ)
      → (let w : World = fresh_world T.start f g in AllAnswered p w (proper_run p T full cs bs idle f g) → AllTake p cs w (proper_run p T full cs bs idle f g))
  proper-takes full cs bs f g h = all_take cs (whole_run T full cs bs) (record { world = fresh_world T.start f g; count = 0; lent = lending f g [] }) h (whole_in T full cs bs)
