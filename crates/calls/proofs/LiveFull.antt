-- A challenge in either mode, and the calls of full mode, the return among them, lent the buffers as a proper list has them, are answered.
use mathlib.Core.Path.{◌≡◌, refl, sym, ap, ap₂, subst, ◌∙◌}
use mathlib.Core.Bool.{Bool, true, false, true≢false}
use mathlib.Core.List.{List, [], ◌∷◌, ◌++◌}
use Prim.Native.Nat.{ℕ, suc, ◌^◌, ◌<◌}
use native.Mathlib.Omega.{arith}
use lib.Dec.{ltb}
use lib.ListN.{length, length-append}
use Rattle.refusal.specs.Limit.{max_weight}
use Rattle.vector.specs.Vector.{at}
use Rattle.vector.specs.Rounds.{size}
use Rattle.vector.specs.Slice.{is_nonzero}
use Rattle.vector.proofs.Rounds.{size-all}
use Rattle.vector.proofs.Overwrite.{overwrite-length, overwrite-written}
use Rattle.phase.specs.declared.Mode.{Mode}
use Rattle.phase.specs.declared.Mode.TheVariants.{Small, Full}
use Rattle.phase.specs.declared.Next.{Next}
use Rattle.phase.specs.declared.Next.TheVariants as next
use Rattle.phase.specs.declared.Kind.{Kind}
use Rattle.phase.specs.declared.Kind.TheVariants.{Shut}
use Rattle.phase.specs.Cases.{is_full, waits}
use Rattle.phase.specs.Order.{round_or_ends}
use Rattle.runs.specs.Trip.{Trip, vector_f, vector_g}
use Rattle.calls.specs.declared.Call.{Call}
use Rattle.calls.specs.declared.Call.TheVariants as call
use Rattle.calls.specs.Step.{Lent}
use Rattle.calls.specs.State.{State, takes_challenge, buffers_in}
use Rattle.calls.specs.Table.{openings_next, return_waits, level_now, long}
use Rattle.calls.specs.Meaning.{AsLeft}
use Rattle.calls.specs.Proper.{Valid, Host, fold_zero, lends}
use Rattle.calls.proofs.LiveVectors.{f-below, g-below}
use Rattle.calls.proofs.LiveTable.{reads_free, to_small_free, message-free, challenge-free, ends-free, opening-free}
use Rattle.calls.proofs.LiveWorld.{made, Lives, buffers_left, buffers_so, Standing, lends-used, room-used, call-lives, stands, stands-idle, fits_read}

module _ (p : ℕ) (large : max_weight < p) (through : Bool) (T : Trip) (idle : Call → ℕ → Lent) (valid : Valid p T) where
  abbrev Stands : Mode → Next → ℕ → Kind → ℕ → Host → Type 0
  Stands m t i k q w = Standing p large through T idle valid m t i k q w

  abbrev LivesOn : Mode → Next → ℕ → Kind → ℕ → List Call → Type 0
  LivesOn m t i k q cs = (w : Host) → Stands m t i k q w → Lives p T idle through w cs

  abbrev n : ℕ
  n = T.start.rounds

  -- A CHALLENGE
  -- what is next after it
  then : (has : Bool) (a : State) (c : ℕ) (l : Lent) (i : ℕ) → length a.turn.challenges ≡ i → a.start ≡ T.start
      → (let b : State = buffers_in has (takes_challenge a c) l in (b.turn.next ≡ round_or_ends (suc i) n) × (length b.turn.challenges ≡ suc i))
  then has a c l i round start =
      let count : length (a.turn.challenges ++ c ∷ []) ≡ suc i = omega (arith, length-append a.turn.challenges (c ∷ [])) in
      by has (ap₂ (λ i s. round_or_ends i s.rounds) count start, count)
    where
      by : (has : Bool) → (round_or_ends (length (a.turn.challenges ++ c ∷ [])) a.start.rounds ≡ round_or_ends (suc i) n) × (length (a.turn.challenges ++ c ∷ []) ≡ suc i)
          → (let b : State = buffers_in has (takes_challenge a c) l in (b.turn.next ≡ round_or_ends (suc i) n) × (length b.turn.challenges ≡ suc i))
      by true h = h
      by false h = h

  pub challenge-lives : (m : Mode) (i : ℕ) (w : Host) → Stands m next.Challenge i Shut 0 w → (c : ℕ) → is_nonzero p c ≡ true → (cs : List Call)
      → LivesOn m (round_or_ends (suc i) n) (suc i) Shut 0 cs → Lives p T idle through w (call.Challenge c ∷ cs)
  challenge-lives Small i w st c ok cs on =
      let a : State = w.world.state in
      let not-held : is_full a.turn.mode ≡ false = ap is_full st.mode in
      let free = challenge-free p a (lends p T idle w (call.Challenge c)) c (ap (waits next.Challenge) st.next) ok (λ y. absurd (true≢false (sym y ∙ not-held))) in
      call-lives p large through T idle valid Small next.Challenge i Shut 0 w st (call.Challenge c) _ refl free (λ y. absurd (true≢false (sym y ∙ not-held))) cs
      (λ v r.
      let o : Lent = (made p T idle w (call.Challenge c)).lent in
      let e = buffers_so (is_full a.turn.mode) (takes_challenge a c) o in
      let h = then (is_full a.turn.mode) a c o i st.round st.going.start in
      on _ (stands-idle p large through T idle valid Small next.Challenge i Shut 0 w st (call.Challenge c) v Small (round_or_ends (suc i) n) (suc i) Shut 0
      (ap (λ d. d.mode) e.0 ∙ st.mode) h.0 h.1 (ap (λ d. d.kind) e.1) (ap (λ d. length d.items) e.1) refl))
  challenge-lives Full i w st c ok cs on =
      let a : State = w.world.state in
      let reads = fits_read p large through T idle valid Full next.Challenge i Shut 0 w st refl refl in
      let free = challenge-free p a w.lent c (ap (waits next.Challenge) st.next) ok (λ y. reads) in
      call-lives p large through T idle valid Full next.Challenge i Shut 0 w st (call.Challenge c) w.lent
      (lends-used p large through T idle valid Full next.Challenge i Shut 0 w st refl false refl (call.Challenge c)) free (λ y j h. st.left refl refl j) cs
      (λ v r.
      let o : Lent = (made p T idle w (call.Challenge c)).lent in
      let e = buffers_so (is_full a.turn.mode) (takes_challenge a c) o in
      let h = then (is_full a.turn.mode) a c o i st.round st.going.start in
      on _ (stands p large through T idle valid Full next.Challenge i Shut 0 w st (call.Challenge c) v Full (round_or_ends (suc i) n) (suc i) Shut 0
      (ap (λ d. d.mode) e.0 ∙ st.mode) h.0 h.1 (ap (λ d. d.kind) e.1) (ap (λ d. length d.items) e.1)
      (λ held-so. room-used p large through T idle valid Full next.Challenge i Shut 0 w st refl (call.Challenge c))
      (λ held-so y. buffers_left (is_full a.turn.mode) (takes_challenge a c) o (ap is_full st.mode))))

  module _ (i : ℕ) (w : Host) (cs : List Call) where
    -- A MESSAGE AND THE ENDS read the current fold
    pub full_message_lives : Stands Full next.Message i Shut 0 w → LivesOn Full next.Challenge i Shut 0 cs → Lives p T idle through w (call.Message ∷ cs)
    full_message_lives st on =
        let reads = fits_read p large through T idle valid Full next.Message i Shut 0 w st refl refl in
        let free = message-free p w.world.state w.lent (ap is_full st.mode) (ap (waits next.Message) st.next) reads in
        let kept : AsLeft w.world.state w.lent = λ j h. st.left refl refl j in
        call-lives p large through T idle valid Full next.Message i Shut 0 w st call.Message w.lent
        (lends-used p large through T idle valid Full next.Message i Shut 0 w st refl false refl call.Message) free kept cs
        (λ v r. on _ (stands p large through T idle valid Full next.Message i Shut 0 w st call.Message v Full next.Challenge i Shut 0
        st.mode refl st.round refl refl (λ held-so. room-used p large through T idle valid Full next.Message i Shut 0 w st refl call.Message) (λ held-so y j. (refl, refl))))

    pub full_ends_lives : Stands Full next.Ends i Shut 0 w → LivesOn Full next.Openings i Shut 0 cs → Lives p T idle through w (call.Ends ∷ cs)
    full_ends_lives st on =
        let reads = fits_read p large through T idle valid Full next.Ends i Shut 0 w st refl refl in
        let free = ends-free p w.world.state w.lent (ap is_full st.mode) (ap (waits next.Ends) st.next) reads in
        let kept : AsLeft w.world.state w.lent = λ j h. st.left refl refl j in
        call-lives p large through T idle valid Full next.Ends i Shut 0 w st call.Ends w.lent
        (lends-used p large through T idle valid Full next.Ends i Shut 0 w st refl false refl call.Ends) free kept cs
        (λ v r. on _ (stands p large through T idle valid Full next.Ends i Shut 0 w st call.Ends v Full next.Openings i Shut 0
        st.mode refl st.round refl refl (λ held-so. room-used p large through T idle valid Full next.Ends i Shut 0 w st refl call.Ends) (λ held-so y j. (refl, refl))))

    -- A RETURN, whatever it is lent
    pub return_lives : (t : Next) → return_waits Full t n ≡ true → Stands Full t i Shut 0 w → LivesOn Small t i Shut 0 cs → Lives p T idle through w (call.ToSmall ∷ cs)
    return_lives t turn st on =
        let a : State = w.world.state in
        let now : return_waits a.turn.mode a.turn.next a.start.rounds ≡ true
        = ap₂ (λ m t. return_waits m t a.start.rounds) st.mode st.next ∙ ap (λ s. return_waits Full t s.rounds) st.going.start ∙ turn in
        call-lives p large through T idle valid Full t i Shut 0 w st call.ToSmall _ refl (to_small_free p a (lends p T idle w call.ToSmall) now) tt cs
        (λ v r. on _ (stands-idle p large through T idle valid Full t i Shut 0 w st call.ToSmall v Small t i Shut 0 refl st.next st.round refl refl refl))

    -- AN OPENING is lent fold 0
    pub full_opening_lives : (b : ℕ) → is_nonzero p b ≡ true → ltb 0 n ≡ true → Stands Full next.Openings i Shut 0 w → LivesOn Full next.Openings i Shut 0 cs
        → Lives p T idle through w (call.Opening b ∷ cs)
    full_opening_lives b ok some st on =
        let a : State = w.world.state in
        let l : Lent = fold_zero p T w.lent in
        let r = st.room refl in
        let long-so : long a ≡ 2 ^ n = ap₂ (λ s t. size s.rounds (level_now s.rounds (length a.turn.challenges) 0 t)) st.going.start st.next ∙ size-all n in
        let fz : (j : ℕ) → j < 2 ^ n → at l.f j ≡ vector_f p T j = λ j h. overwrite-written (vector_f p T) w.lent.f (2 ^ n) j r.0 h in
        let gz : (j : ℕ) → j < 2 ^ n → at l.g j ≡ vector_g p T j = λ j h. overwrite-written (vector_g p T) w.lent.g (2 ^ n) j r.1 h in
        let reads = reads_free p a l
        (omega (arith, long-so, r.0, overwrite-length (vector_f p T) w.lent.f (2 ^ n)))
        (omega (arith, long-so, r.1, overwrite-length (vector_g p T) w.lent.g (2 ^ n)))
        (λ j h. (
          subst (λ x. x < p) (sym (fz j (omega (arith, long-so)))) (f-below p large T valid j),
          subst (λ x. x < p) (sym (gz j (omega (arith, long-so)))) (g-below p large T valid j),
        )) in
        let turn : openings_next a.turn.next a.start.rounds ≡ true = ap₂ openings_next st.next (ap (λ s. s.rounds) st.going.start) ∙ some in
        let free = opening-free p a l b (ap is_full st.mode) turn ok reads in
        let kept : (j : ℕ) → j < 2 ^ n → (at l.f j ≡ vector_f p T j) × (at l.g j ≡ vector_g p T j) = λ j h. (fz j h, gz j h) in
        call-lives p large through T idle valid Full next.Openings i Shut 0 w st (call.Opening b) l
        (lends-used p large through T idle valid Full next.Openings i Shut 0 w st refl true refl (call.Opening b)) free kept cs
        (λ v r. on _ (stands p large through T idle valid Full next.Openings i Shut 0 w st (call.Opening b) v Full next.Openings i Shut 0
        st.mode st.next st.round st.kind st.taken
        (λ held-so. room-used p large through T idle valid Full next.Openings i Shut 0 w st refl (call.Opening b)) (λ held-so y. absurd (true≢false y))))
