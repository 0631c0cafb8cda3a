-- THE VERIFIER'S OWN LIST, made of what a run answered, brings what the run gave, is answered throughout, and the verifier agrees: in
-- messages, or by the proof file.
use mathlib.Core.Path.{◌≡◌, refl, sym, ap, subst, ◌∙◌}
use mathlib.Core.Bool.{Bool, true, false, cond}
use mathlib.Core.List.{List, [], ◌∷◌, ◌++◌}
use mathlib.Core.Logic.{inl, inr}
use Prim.Native.Nat.{ℕ, suc, ◌%◌, ◌^◌, ◌<◌, ◌≤◌}
use native.Mathlib.Nat.{zero-add}
use native.Mathlib.Omega.{arith}
use lib.Dec.{ltb}
use lib.ListN.{length, take}
use Rattle.algebra.specs.Prime.{Prime}
use Rattle.refusal.specs.Limit.{max_weight}
use Rattle.wire.specs.Proof.{proof_size}
use Rattle.vector.specs.Slice.{is_nonzero}
use Rattle.phase.specs.declared.Next.TheVariants as next
use Rattle.phase.specs.Cases.{waits}
use Rattle.verifier.specs.declared.Verifier.{Verifier}
use Rattle.verifier.specs.Starts.{verifier_of}
use Rattle.runs.specs.Trip.{Trip, trip_item}
use Rattle.calls.specs.declared.Call.{Call}
use Rattle.calls.specs.declared.Call.TheVariants as call
use Rattle.calls.specs.Lists.{after, along, always, somewhere, collected}
use Rattle.calls.specs.Step.{Lent, Result, is_answered}
use Rattle.calls.specs.State.{State, goes_on}
use Rattle.calls.specs.World.{Made, World, fresh_world, came, onward}
use Rattle.calls.specs.Meaning.{Question, total, round_message, ends, opening_at, proof, done, question, Answer, meant, proof_of_trip, Kept}
use Rattle.calls.specs.QueryState.{VerifierState, fresh_verifier_state, Posed, Hearing, fresh_hearing}
use Rattle.calls.specs.Given.{reply_of, Gave, Wrote}
use Rattle.calls.specs.Proper.{Valid, Brings, proper_run}
use Rattle.calls.specs.Carried.{items_of, claims_in, checks, carried_over, by_messages, by_file, writes_proof}
use Rattle.calls.specs.Demand3.{AllKept, AllTake, AllProper, AllBringRun, AllAgreed}
use Rattle.calls.proofs.Records.{Notes, no_notes}
use Rattle.calls.proofs.Turns.{both}
use Rattle.calls.proofs.KeptCalls.{by_kept}
use Rattle.calls.proofs.Answers.{Going, goes_on_lem, fresh-going}
use Rattle.calls.proofs.HeardFollows.{Follows}
use Rattle.calls.proofs.HeardLists.{fresh-follows}
use Rattle.calls.proofs.Longer.{along-more, somewhere-more, somewhere-last, always-last, always-more}
use Rattle.calls.proofs.Hits.{Prefix, Hit, hit_replies, hit_here, going_after}
use Rattle.calls.proofs.Links.{message-of, opening_of_lem, file-of}
use Rattle.calls.proofs.Pointed.{pointed, follow-pointed, asked-pointed}
use Rattle.calls.proofs.LiveTable.{write_free, free_answered}
use Rattle.calls.proofs.Live.{proper-answered, proper-kept, proper-ended}
use Rattle.calls.proofs.LiveTakes.{proper-takes}
use Rattle.calls.proofs.CarriedTurns.{turn, brought, AtTurn, goes_turn, follow-turn}
use Rattle.calls.proofs.CarriedSteps.{VerifierAgrees, agrees_along, place, items-agreed, total-agreed, message-agreed, verdict-agreed, check_agreed, proof-agreed}

module _ (p : ℕ) (large : max_weight < p) (prime : Prime p) (odd : p % 2 ≡ 1) (word : p ≤ 2 ^ 32) (through : Bool) (T : Trip) (valid : Valid p T) (cs : List ℕ)
    (listed : length cs ≡ T.start.rounds) (w₀ : World) (ms₀ : List Made) where
  abbrev n : ℕ
  n = T.start.rounds

  abbrev L : ℕ
  L = T.start.items

  abbrev F : VerifierState → Verifier → Type 0
  F b v = Follows p T cs b v

  abbrev H : Question → Type 0
  H q = Hit p large through T valid.whole.items cs q

  abbrev G : World → Notes → Type 0
  G w past = Going p large through T valid.whole.items w past

  -- what the call of a hit came to, and the state after it
  abbrev came_of : (q : Question) → H q → Result
  came_of q h = came p h.world h.made

  abbrev next-state : (q : Question) → H q → State
  next-state q h = (onward p h.world h.made).state

  -- what the call of a hit replied is given by the list beside which the verifier's is made
  abbrev Given : (q : Question) → H q → Type 0
  Given q h = Gave p w₀ ms₀ q (reply_of (came_of q h))

  abbrev Within : World → List Made → Type 0
  Within w ms = (q : Question) (x : Answer) → Gave p w ms q x → Gave p w₀ ms₀ q x

  abbrev Agrees : VerifierState → Verifier → List Posed → Type 0
  Agrees = VerifierAgrees p T w₀ ms₀

  -- ALONG A RUN'S LIST, a part of that one: what each answered call has carried over is agreed with, and what holds beside the run holds
  -- after it
  module _ (what : Question → Answer → List Posed) (Beside : State → VerifierState → Type 0)
      (one : (q : Question) (h : H q) → is_answered (came_of q h).answer ≡ true → Given q h → (b : VerifierState) (v : Verifier) → F b v → Beside h.world.state b → (qs : List Posed)
      → ((b : VerifierState) (v : Verifier) → F b v → Beside (next-state q h) b → Agrees b v qs) → Agrees b v (what q (reply_of (came_of q h)) ++ qs)) where
    module _ (w : World) {past : Notes} (g : G w past) (prefix : Prefix w.state.turn.challenges cs) (m : Made)
        (kept : is_answered (came p w m).answer ≡ true → Kept p T through w.state m.call m.lent)
        (here : is_answered (came p w m).answer ≡ true → Gave p w₀ ms₀ (question w.state m.call) (reply_of (came p w m)))
        (b : VerifierState) (v : Verifier) (f : F b v) (beside : Beside w.state b) (rest : List Posed) where
      one-call : ((b : VerifierState) (v : Verifier) → F b v → Beside (onward p w m).state b → Agrees b v rest)
          → (y : Bool) → is_answered (came p w m).answer ≡ y → Agrees b v (cond y (what (question w.state m.call) (reply_of (came p w m))) [] ++ rest)
      unfolding hit_here
      one-call on true y =
          one (question w.state m.call) (hit_here p large through T valid.whole.items cs w g prefix m kept (question w.state m.call) (y, refl)) y (here y) b v f beside rest on
      one-call on false y = on b v f (subst (λ c. Beside c b) (sym (ap (λ y. cond y (goes_on w.state m.call (came p w m).lent) w.state) y)) beside)

    all-agreed : (w : World) {past : Notes} → G w past → (ms : List Made) → AllKept p through T w ms → AllTake p cs w ms → Within w ms
        → (b : VerifierState) (v : Verifier) → F b v → Beside w.state b → Agrees b v (carried_over p T w ms what)
    unfolding along always collected somewhere
    all-agreed w g [] kept takes within b v f beside = tt
    all-agreed w g (m ∷ ms) kept takes within b v f beside =
        one-call w g takes.0 m kept.0 (λ y. within _ _ (inl ((y, refl), refl))) b v f beside _
        (λ b v f beside. all-agreed (onward p w m) (goes_on_lem p large through T valid.whole.items w g m kept.0) ms kept.1 takes.1 (λ q x gave. within q x (inr gave)) b v f beside)
        (is_answered (came p w m).answer) refl

  -- BY MESSAGES: the verifier is where the run is
  record Beside (a : State) (b : VerifierState) : Type 0 where
    pointed : pointed p a ≡ true
    whole : length b.items ≡ L
    place : place b ≡ turn a

  abbrev carried : Question → Answer → List Posed
  carried q x = claims_in x.answer ++ checks n q x.values

  module _ (q : Question) (h : H q) (y : is_answered (came_of q h).answer ≡ true) where
    -- what is asked, at its turn
    goes : AtTurn n (turn h.world.state) q × (turn (next-state q h) ≡ brought q (turn h.world.state))
    goes =
        let t = goes_turn p h.world.state h.made.call h.made.lent (came_of q h).lent h.free h.going.faithful.fits.run.round in
        let at_turn = subst (λ q. AtTurn h.world.state.start.rounds (turn h.world.state) q) h.asked t.0 in (
          subst (λ s. AtTurn s.rounds (turn h.world.state) q) h.going.start at_turn,
          follow-turn h.world.state h.made.call (came_of q h) y ∙ t.1 ∙ ap (λ q. brought q (turn h.world.state)) h.asked,
        )

    pointed-next : pointed p h.world.state ≡ true → pointed p (next-state q h) ≡ true
    pointed-next e = follow-pointed p h.world.state h.made.call h.made.lent (came_of q h) (λ y. h.free) e

    beside-next : (b b' : VerifierState) → Beside h.world.state b → length b'.items ≡ L → place b' ≡ brought q (turn h.world.state) → Beside (next-state q h) b'
    beside-next b b' s whole e = record { pointed = pointed-next s.pointed; whole = whole; place = e ∙ sym goes.1 }

    as_meant : (what : Answer → List Posed) (b : VerifierState) (v : Verifier) (qs : List Posed) → Agrees b v (what (meant p T h.world.state.turn.challenges q) ++ qs) → Agrees b v (what (reply_of (came_of q h)) ++ qs)
    as_meant what b v qs = subst (λ x. Agrees b v (what x ++ qs)) (sym (hit_replies p large through T valid.whole.items cs q h))

    given-meant : Given q h → Gave p w₀ ms₀ q (meant p T h.world.state.turn.challenges q)
    given-meant = subst (Gave p w₀ ms₀ q) (hit_replies p large through T valid.whole.items cs q h)

  -- an opening, either way
  opened : (x : ℕ) (h : H (opening_at x)) → pointed p h.world.state ≡ true → (b : VerifierState) (v : Verifier) → F b v → (qs : List Posed)
      → ((v : Verifier) → F b v → Agrees b v qs) → Agrees b v (checks n (opening_at x) (meant p T h.world.state.turn.challenges (opening_at x)).values ++ qs)
  opened x h point b v f qs on =
      let ok = both (is_nonzero p x) (ltb 0 h.world.state.start.rounds) (asked-pointed p h.world.state h.made.call h.made.lent x h.free point h.asked) in
      check_agreed p large prime odd word T valid cs listed w₀ ms₀ b v f x _ ok.0 (ap (λ s. ltb 0 s.rounds) (sym h.going.start) ∙ ok.1)
      (opening_of_lem p large through T valid.whole.items cs x _ h refl) qs on

  each-carried : (q : Question) (h : H q) → is_answered (came_of q h).answer ≡ true → Given q h → (b : VerifierState) (v : Verifier) → F b v → Beside h.world.state b → (qs : List Posed)
      → ((b : VerifierState) (v : Verifier) → F b v → Beside (next-state q h) b → Agrees b v qs) → Agrees b v (carried q (reply_of (came_of q h)) ++ qs)
  each-carried total h y gave b v f s qs on =
      as_meant total h y (carried total) b v qs
      (total-agreed p large prime odd word T valid cs listed w₀ ms₀ b v f T.start.plain refl (given-meant total h y gave) s.whole (s.place ∙ (goes total h y).0) qs
      (λ b' v f whole e. on b' v f (beside-next total h y b b' s whole (e ∙ ap suc (sym (goes total h y).0)))))
  each-carried (round_message i) h y gave b v f s qs on =
      let t = (goes (round_message i) h y).0 in
      as_meant (round_message i) h y (carried (round_message i)) b v qs
      (message-agreed p large prime odd word T valid cs listed w₀ ms₀ b v f i _ _ _ (message-of p large through T valid.whole.items cs i _ _ _ h refl) (given-meant (round_message i) h y gave) t.1 s.whole (s.place ∙ t.0) qs
      (λ b' v f whole e. on b' v f (beside-next (round_message i) h y b b' s whole (e ∙ ap suc (sym t.0)))))
  each-carried ends h y gave b v f s qs on =
      let t = (goes ends h y).0 in
      as_meant ends h y (carried ends) b v qs
      (verdict-agreed p large prime odd word T valid cs listed w₀ ms₀ b v f s.whole (s.place ∙ t) qs
      (λ b' v f whole e. on b' v f (beside-next ends h y b b' s whole (e ∙ sym t))))
  each-carried (opening_at x) h y gave b v f s qs on =
      as_meant (opening_at x) h y (carried (opening_at x)) b v qs
      (opened x h s.pointed b v f qs (λ v f. on b v f (beside-next (opening_at x) h y b b s s.whole s.place)))
  each-carried proof h y gave b v f s qs on =
      as_meant proof h y (carried proof) b v qs (on b v f (beside-next proof h y b b s s.whole s.place))
  each-carried (done x) h y gave b v f s qs on =
      as_meant (done x) h y (carried (done x)) b v qs
      (subst (λ xs. Agrees b v ((xs ++ []) ++ qs)) (sym (goes (done x) h y).0) (on b v f (beside-next (done x) h y b b s s.whole s.place)))

  -- BY THE FILE only the openings are carried
  abbrev Pointed : State → VerifierState → Type 0
  Pointed a b = pointed p a ≡ true

  abbrev checked : Question → Answer → List Posed
  checked q x = checks n q x.values

  each-checked : (q : Question) (h : H q) → is_answered (came_of q h).answer ≡ true → Given q h → (b : VerifierState) (v : Verifier) → F b v → Pointed h.world.state b → (qs : List Posed)
      → ((b : VerifierState) (v : Verifier) → F b v → Pointed (next-state q h) b → Agrees b v qs) → Agrees b v (checked q (reply_of (came_of q h)) ++ qs)
  each-checked total h y gave b v f s qs on = on b v f (pointed-next total h y s)
  each-checked (round_message i) h y gave b v f s qs on = on b v f (pointed-next (round_message i) h y s)
  each-checked ends h y gave b v f s qs on = on b v f (pointed-next ends h y s)
  each-checked (opening_at x) h y gave b v f s qs on =
      as_meant (opening_at x) h y (checked (opening_at x)) b v qs (opened x h s b v f qs (λ v f. on b v f (pointed-next (opening_at x) h y s)))
  each-checked proof h y gave b v f s qs on = on b v f (pointed-next proof h y s)
  each-checked (done x) h y gave b v f s qs on = on b v f (pointed-next (done x) h y s)

  -- A RUN'S LIST from a fresh run on
  module _ (f g : List ℕ) (ms : List Made) (kept : AllKept p through T (fresh_world T.start f g) ms)
      (takes : AllTake p cs (fresh_world T.start f g) ms) (within : Within (fresh_world T.start f g) ms) where
    abbrev Told : List Posed → Type 0
    Told qs = AllAgreed p (fresh_hearing T.start cs) qs × AllBringRun p T w₀ ms₀ (fresh_hearing T.start cs) qs

    abbrev fresh : World
    fresh = fresh_world T.start f g

    going : G fresh no_notes
    going = fresh-going p large through T valid.whole.items valid.whole.start f g

    -- the items first
    items-first : (qs : List Posed) → ((b : VerifierState) (v : Verifier) → F b v → b.closed ≡ false → length b.items ≡ L → Agrees b v qs)
        → Told (items_of T.items ++ qs)
    items-first qs on =
        agrees_along p T w₀ ms₀ (fresh_hearing T.start cs) (items_of T.items ++ qs)
        (items-agreed p large prime odd word T valid cs listed w₀ ms₀ T.items 0 (zero-add (length T.items) ∙ valid.whole.items) (λ j. ap (trip_item T) (sym (zero-add j)))
        (fresh_verifier_state T.start cs) (verifier_of T.start cs) (fresh-follows p large prime odd word T valid.whole cs listed) refl refl qs on)

    pub messages-agreed : Told (by_messages p T fresh ms)
    messages-agreed =
        items-first _
        (λ b v s unclosed whole. all-agreed carried Beside each-carried fresh going ms kept takes within b v s
        (record { pointed = refl; whole = whole; place = ap (λ c. cond c (suc b.round) 0) unclosed }))

    module _ (plain : T.start.plain ≡ true) (turn-so : waits next.Openings (after (onward p) fresh ms).state.turn.next ≡ true)
        (l : Lent) (room : proof_size n ≤ length l.file) where
      abbrev w : World
      w = after (onward p) fresh ms

      abbrev wrote : Result
      wrote = came p w (writes_proof l)

      last : (past : Notes) × G w past × Prefix w.state.turn.challenges cs
      last = going_after p large through T valid.whole.items cs fresh going ms kept takes

      pub start-kept : w.state.start ≡ T.start
      start-kept = last.1.start

      pub write_answered : is_answered wrote.answer ≡ true
      write_answered =
          let g = last.1 in
          free_answered p large w.state w.run w.pass g.faithful call.WriteProof l
          (write_free p w.state l (ap (λ s. s.plain) g.start ∙ plain) turn-so (omega (arith, room, ap (λ s. s.rounds) g.start)))

      pub written : take (proof_size n) wrote.lent.file ≡ proof_of_trip p T cs
      unfolding hit_here
      written =
          let g = last.1 in
          let h = hit_here p large through T valid.whole.items cs w g last.2 (writes_proof l)
          (λ y. by_kept p T through w.state call.WriteProof l tt) proof (write_answered, refl) in
          (file-of p large through T valid.whole.items cs (take (proof_size n) wrote.lent.file) h (ap (λ s. take (proof_size s.rounds) wrote.lent.file) g.start)).0

      pub file-agreed : Wrote p w₀ ms₀ (take (proof_size n) wrote.lent.file) → Told (by_file p T fresh ms (take (proof_size n) wrote.lent.file))
      file-agreed given =
          items-first _
          (λ b v s unclosed whole. proof-agreed p large prime odd word T valid cs listed w₀ ms₀ b v s plain unclosed whole _ written given _
          (λ b v s. all-agreed checked Pointed each-checked fresh going ms kept takes within b v s refl))

-- A PROPER RUN'S
module _ (p : ℕ) (large : max_weight < p) (prime : Prime p) (odd : p % 2 ≡ 1) (word : p ≤ 2 ^ 32) (T : Trip) (valid : Valid p T) (full : ℕ → Bool) (cs bs : List ℕ)
    (idle : Call → ℕ → Lent) (brings : Brings p T full cs bs idle) (f g : List ℕ) where
  abbrev begin : World
  begin = fresh_world T.start f g

  abbrev ms : List Made
  ms = proper_run p T full cs bs idle f g

  -- answered throughout, and as is asked
  pub proper-run : AllProper p cs T begin ms
  proper-run =
      let answered = proper-answered p large T valid full cs bs idle brings f g in
      (answered, proper-kept p large T valid full cs bs idle brings f g, proper-takes p T idle full cs bs f g answered)

  abbrev h : Hearing
  h = fresh_hearing T.start cs

  pub proper-messages : AllAgreed p h (by_messages p T begin ms) × AllBringRun p T begin ms h (by_messages p T begin ms)
  proper-messages =
      messages-agreed p large prime odd word true T valid cs brings.count begin ms f g ms (proper-run.1 true) proper-run.2
      (λ q x gave. gave)

  module _ (plain : T.start.plain ≡ true) (m : Lent) (room : proof_size T.start.rounds ≤ length m.file) where
    abbrev ending : World
    ending = after (onward p) begin ms

    abbrev filed : Result
    filed = came p ending (writes_proof m)

    abbrev file : List ℕ
    file = take (proof_size T.start.rounds) filed.lent.file

    -- the run's list with the call that wrote the file
    abbrev longer : List Made
    longer = ms ++ writes_proof m ∷ []

    ended : waits next.Openings ending.state.turn.next ≡ true
    ended = proper-ended p large T valid full cs bs idle brings f g

    within : (q : Question) (x : Answer) → Gave p begin ms q x → Gave p begin longer q x
    within q x gave = somewhere-more (onward p) _ begin ms (writes_proof m) gave

    filed-answered : is_answered filed.answer ≡ true
    filed-answered =
        write_answered p large prime odd word true T valid cs brings.count begin longer f g ms (proper-run.1 true) proper-run.2 within plain ended m room

    pub proper-longer : AllProper p cs T begin longer
    proper-longer = (
      along-more (onward p) _ begin ms (writes_proof m) proper-run.0 filed-answered,
      λ through. along-more (onward p) _ begin ms (writes_proof m) (proper-run.1 through) (λ y. by_kept p T through ending.state call.WriteProof m tt),
      always-more (onward p) _ begin ms (writes_proof m) proper-run.2
          (subst (λ ds. Prefix ds cs) (sym (ap (λ b. (cond b (goes_on ending.state call.WriteProof filed.lent) ending.state).turn.challenges) filed-answered))
          (always-last (onward p) _ begin ms proper-run.2)),
    )

    pub proper-written : file ≡ proof_of_trip p T cs
    proper-written = written p large prime odd word true T valid cs brings.count begin longer f g ms (proper-run.1 true) proper-run.2 within plain ended m room

    pub proper-file : AllAgreed p h (by_file p T begin ms file) × AllBringRun p T begin longer h (by_file p T begin ms file)
    proper-file =
        file-agreed p large prime odd word true T valid cs brings.count begin longer f g ms (proper-run.1 true) proper-run.2 within plain ended m room
        (somewhere-last (onward p) _ begin ms (writes_proof m) (
          (filed-answered, refl),
          ap (λ s. take (proof_size s.rounds) filed.lent.file)
              (start-kept p large prime odd word true T valid cs brings.count begin longer f g ms (proper-run.1 true) proper-run.2 within plain ended m room),
        ))
