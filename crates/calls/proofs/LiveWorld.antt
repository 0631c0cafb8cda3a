-- Where a proper list stands between two of its calls, and how one answered call moves it on.
use mathlib.Core.Path.{◌≡◌, refl, sym, ap, ap₂, subst, ◌∙◌}
use mathlib.Core.Bool.{Bool, true, false, cond, ◌&&◌, ◌||◌, true≢false}
use mathlib.Core.List.{List, [], ◌∷◌}
use mathlib.Core.Option.{none}
use Prim.Native.Nat.{ℕ, ◌^◌, ◌<◌, ◌≤◌}
use native.Mathlib.Nat.{div-le_self}
use native.Mathlib.Omega.{arith}
use lib.ListN.{length}
use Rattle.refusal.specs.Limit.{max_weight}
use Rattle.vector.specs.Vector.{Vector, at}
use Rattle.vector.proofs.Overwrite.{overwrite-length}
use Rattle.phase.specs.declared.Mode.{Mode}
use Rattle.phase.specs.declared.Mode.TheVariants.{Full}
use Rattle.phase.specs.declared.Next.{Next}
use Rattle.phase.specs.declared.Next.TheVariants as next
use Rattle.phase.specs.declared.Kind.{Kind}
use Rattle.phase.specs.declared.Kind.TheVariants.{Shut, Asked, Change}
use Rattle.phase.specs.Cases.{is_change, is_full, waits}
use Rattle.runs.specs.Trip.{Trip, vector_f, vector_g}
use Rattle.runs.specs.Buffers.{Written}
use Rattle.runs.proofs.CloseLaws.{fold-below}
use Rattle.calls.specs.declared.Call.{Call}
use Rattle.calls.specs.Lists.{after, along, each}
use Rattle.calls.specs.Step.{Lent, Result, is_answered}
use Rattle.calls.specs.State.{State, with_buffers, buffers_in, goes_on}
use Rattle.calls.specs.World.{Made, World, came, onward}
use Rattle.calls.specs.Table.{long, taken, completed, both_long, read_rows, table}
use Rattle.calls.specs.Meaning.{fold_f, fold_g}
use Rattle.calls.specs.Statement.{Right, known}
use Rattle.calls.specs.Proper.{Valid, Room, Host, fold_zero, working, lends, makes, host_on}
use Rattle.calls.specs.Demand3.{AllAnswered, AllKept}
use Rattle.calls.proofs.Follows.{positive}
use Rattle.calls.proofs.Records.{Notes, noted}
use Rattle.calls.proofs.Agrees.{trip_at, known_in}
use Rattle.calls.proofs.KeptCalls.{KeptBy, by_kept}
use Rattle.calls.proofs.Answers.{Going, same-trip}
use Rattle.calls.proofs.LiveStep.{Moved, moved}
use Rattle.calls.proofs.LiveVectors.{f-below, g-below}
use Rattle.calls.proofs.LiveTable.{long-enough, reads_free}

module _ (p : ℕ) (T : Trip) (idle : Call → ℕ → Lent) where
  abbrev pub made : Host → Call → Result
  made w c = came p w.world (makes p T idle w c)

  -- all that is shown of a call
  abbrev Lived : Bool → Host → Call → Type 0
  Lived through w c = (is_answered (made w c).answer ≡ true) × KeptBy p T through w.world.state c (lends p T idle w c)

  -- and of a list, along it; it ends after the ends
  unfoldable pub Lives : Bool → Host → List Call → Type 0
  Lives through w [] = waits next.Openings w.world.state.turn.next ≡ true
  Lives through w (c ∷ cs) = Lived through w c × Lives through (host_on p T idle w c) cs

  abbrev pub made_from : Host → List Call → List Made
  made_from = each (host_on p T idle) (makes p T idle)

  -- what holds of the host's calls holds along the list that it makes
  all_made : (through : Bool) (P : World → Made → Type 0) → ((w : Host) (c : Call) → Lived through w c → P w.world (makes p T idle w c)) → (w : Host) (cs : List Call)
      → Lives through w cs → along (onward p) P w.world (made_from w cs)
  unfolding along each Lives
  all_made through P so w [] h = tt
  all_made through P so w (c ∷ cs) h = (so w c h.0, all_made through P so (host_on p T idle w c) cs h.1)

  pub lives_ended : (through : Bool) (w : Host) (cs : List Call) → Lives through w cs → waits next.Openings (after (onward p) w.world (made_from w cs)).state.turn.next ≡ true
  unfolding after each Lives
  lives_ended through w [] h = h
  lives_ended through w (c ∷ cs) h = lives_ended through (host_on p T idle w c) cs h.1

  module _ (through : Bool) (w : Host) (cs : List Call) (h : Lives through w cs) where
    pub lives_answered : AllAnswered p w.world (made_from w cs)
    lives_answered = all_made through _ (λ w c q. q.0) w cs h

    pub lives_kept : AllKept p through T w.world (made_from w cs)
    lives_kept = all_made through _ (λ w c q y. by_kept p T through w.world.state c (lends p T idle w c) q.1) w cs h

-- all of the current fold is known in full mode, up to the ends
full_known : (h q : ℕ) (k : Kind) (t : Next) (through : Bool) → waits next.Openings t ≡ false → known_in h q Full k (waits next.Openings t) through ≡ 0
full_known h q Shut t through e = ap (λ o. cond o h 0) e
full_known h q Asked t through e = ap (λ o. cond o h 0) e
full_known h q Change t through e = ap (λ o. cond o h 0) e

full_all : (through : Bool) (a : State) → a.turn.mode ≡ Full → waits next.Openings a.turn.next ≡ false → known through a ≡ 0
full_all through a em et =
    ap (λ m. known_in (long a) (completed a (taken a)) m a.pass.kind (waits next.Openings a.turn.next) through) em
    ∙ full_known (long a) (completed a (taken a)) a.pass.kind a.turn.next through et

-- the buffers in the host's hands are as the state has them
abbrev pub SameBuffers : Lent → State → Type 0
SameBuffers l a = (j : ℕ) → (at l.f j ≡ at a.buffers.f j) × (at l.g j ≡ at a.buffers.g j)

-- the run works on them
abbrev pub held : Mode → Kind → Bool
held m k = is_full m || is_change k

-- the openings of full mode, to which fold 0 is lent anew
abbrev pub lent_anew : Mode → Next → Bool
lent_anew m t = is_full m && waits next.Openings t

-- a call that writes nothing
pub still : (a b : State) (l x : Lent) (v u : Vector) → b.buffers.f ≡ a.buffers.f → b.buffers.g ≡ a.buffers.g → Written v 0 0 l.f x.f → Written u 0 0 l.g x.g → SameBuffers l a → SameBuffers x b
still a b l x v u ef eg wf wg left j =
    (wf.above j (omega arith) ∙ (left j).0 ∙ ap (λ y. at y j) (sym ef), wg.above j (omega arith) ∙ (left j).1 ∙ ap (λ y. at y j) (sym eg))

-- the buffers of a call leave the rest of the state
pub buffers_same : {A : Type 0} (of : State → A) → ((a : State) (l : Lent) → of (with_buffers a l) ≡ of a) → (b : Bool) (a : State) (l : Lent) → of (buffers_in b a l) ≡ of a
buffers_same of same true a l = same a l
buffers_same of same false a l = refl

pub buffers_left : (b : Bool) (a : State) (l : Lent) → b ≡ true → SameBuffers l (buffers_in b a l)
buffers_left true a l e = λ j. (refl, refl)
buffers_left false a l e = absurd (true≢false (sym e))

pub buffers_so : (b : Bool) (a : State) (l : Lent) → ((buffers_in b a l).turn ≡ a.turn) × ((buffers_in b a l).pass ≡ a.pass)
buffers_so true a l = (refl, refl)
buffers_so false a l = (refl, refl)

-- room, whatever is lent of it
cond_room : (T : Trip) (b : Bool) (l m : Lent) → Room T l → Room T m → Room T (cond b l m)
cond_room T true l m h g = h
cond_room T false l m h g = g

module _ (p : ℕ) (large : max_weight < p) (through : Bool) (T : Trip) (idle : Call → ℕ → Lent) (valid : Valid p T) where
  -- in this mode, with this next, so many challenges, this pass open and so many items taken; nothing of buffers that it does not work on
  pub record Standing (m : Mode) (t : Next) (i : ℕ) (k : Kind) (q : ℕ) (w : Host) : Type 0 where
    pub past : Notes
    pub going : Going p large through T valid.whole.items w.world past
    pub mode : w.world.state.turn.mode ≡ m
    pub next : w.world.state.turn.next ≡ t
    pub round : length w.world.state.turn.challenges ≡ i
    pub kind : w.world.state.pass.kind ≡ k
    pub taken : length w.world.state.pass.items ≡ q
    pub room : held m k ≡ true → Room T w.lent
    pub left : held m k ≡ true → lent_anew m t ≡ false → SameBuffers w.lent w.world.state

  module _ (m : Mode) (t : Next) (i : ℕ) (k : Kind) (q : ℕ) (w : Host) (st : Standing m t i k q w) where
    -- ONE CALL that the table has nothing against
    abbrev pub MovedBy : Call → Type 0
    MovedBy c = Moved p large through T valid.whole.items w.world st.past (makes p T idle w c)

    pub start-so : w.world.state.start ≡ T.start
    start-so = st.going.start

    -- of the buffers that the run works on, fold 0 anew or what is in the host's hands
    pub lends-used : held m k ≡ true → (b : Bool) → lent_anew m t ≡ b → (c : Call) → lends p T idle w c ≡ cond b (fold_zero p T w.lent) w.lent
    lends-used held-so b anew c =
        ap (λ u. cond u (working p T w.world.state w.lent) (idle c w.count)) (ap₂ held st.mode st.kind ∙ held-so)
        ∙ ap (λ b. cond b (fold_zero p T w.lent) w.lent) (ap₂ lent_anew st.mode st.next ∙ anew)

    -- of others, anything
    pub lends-idle : held m k ≡ false → (c : Call) → lends p T idle w c ≡ idle c w.count
    lends-idle not-held c = ap (λ u. cond u (working p T w.world.state w.lent) (idle c w.count)) (ap₂ held st.mode st.kind ∙ not-held)

    -- those have room still
    pub room-used : held m k ≡ true → (c : Call) → Room T (lends p T idle w c)
    room-used held-so c =
        let r = st.room held-so in
        subst (Room T) (sym (lends-used held-so (lent_anew m t) refl c))
        (cond_room T (lent_anew m t) (fold_zero p T w.lent) w.lent (
          subst (λ n. 2 ^ T.start.rounds ≤ n) (sym (overwrite-length (vector_f p T) w.lent.f (2 ^ T.start.rounds))) r.0,
          subst (λ n. 2 ^ T.start.rounds ≤ n) (sym (overwrite-length (vector_g p T) w.lent.g (2 ^ T.start.rounds))) r.1,
        ) r)

    pub call-lives : (c : Call) (l : Lent) → lends p T idle w c ≡ l
        → (let a : State = w.world.state in
        table p a c l ≡ none → KeptBy p T through a c l → (cs : List Call)
        → (MovedBy c → Right p T a c l (made p T idle w c) → Lives p T idle through (host_on p T idle w c) cs) → Lives p T idle through w (c ∷ cs))
    unfolding Lives
    call-lives c l e free kept cs on =
        let a : State = w.world.state in
        let here = subst (λ l. (table p a c l ≡ none) × KeptBy p T through a c l) (sym e) (free, kept) in
        let v : MovedBy c =
        moved p large through T valid.whole.items w.world st.going (makes p T idle w c) here.0 (by_kept p T through a c (lends p T idle w c) here.1) in
        ((v.answered, here.1), on v (subst (λ l. Right p T a c l (made p T idle w c)) e v.right))

    pub stands : (c : Call) → MovedBy c → (m' : Mode) (t' : Next) (i' : ℕ) (k' : Kind) (q' : ℕ)
        → (let b : State = goes_on w.world.state c (made p T idle w c).lent in
        b.turn.mode ≡ m' → b.turn.next ≡ t' → length b.turn.challenges ≡ i' → b.pass.kind ≡ k' → length b.pass.items ≡ q'
        → (held m' k' ≡ true → Room T (lends p T idle w c)) → (held m' k' ≡ true → lent_anew m' t' ≡ false → SameBuffers (made p T idle w c).lent b)
        → Standing m' t' i' k' q' (host_on p T idle w c))
    stands c v m' t' i' k' q' em et ei ek eq room left =
        record {
          past = noted p c st.past (made p T idle w c).answer;
          going = v.going;
          mode = ap (λ d. d.turn.mode) v.state ∙ em;
          next = ap (λ d. d.turn.next) v.state ∙ et;
          round = ap (λ d. length d.turn.challenges) v.state ∙ ei;
          kind = ap (λ d. d.pass.kind) v.state ∙ ek;
          taken = ap (λ d. length d.pass.items) v.state ∙ eq;
          room = λ held-so. (
            subst (λ n. 2 ^ T.start.rounds ≤ n) (sym v.right.f.size) (room held-so).0,
            subst (λ n. 2 ^ T.start.rounds ≤ n) (sym v.right.g.size) (room held-so).1,
          );
          left = λ held-so y. subst (SameBuffers (made p T idle w c).lent) (sym v.state) (left held-so y);
        }

    -- a call after which the run works on no buffers, whatever it was lent
    pub stands-idle : (c : Call) → MovedBy c → (m' : Mode) (t' : Next) (i' : ℕ) (k' : Kind) (q' : ℕ)
        → (let b : State = goes_on w.world.state c (made p T idle w c).lent in
        b.turn.mode ≡ m' → b.turn.next ≡ t' → length b.turn.challenges ≡ i' → b.pass.kind ≡ k' → length b.pass.items ≡ q'
        → held m' k' ≡ false → Standing m' t' i' k' q' (host_on p T idle w c))
    stands-idle c v m' t' i' k' q' em et ei ek eq not-held =
        stands c v m' t' i' k' q' em et ei ek eq (λ held-so. absurd (true≢false (sym held-so ∙ not-held))) (λ held-so. absurd (true≢false (sym held-so ∙ not-held)))

    -- THE BUFFERS FIT
    long-most : long w.world.state ≤ 2 ^ T.start.rounds
    long-most = subst (λ s. long w.world.state ≤ 2 ^ s.rounds) start-so (div-le_self _ _)

    pub fits-long : (l : Lent) → Room T l → both_long w.world.state l ≡ true
    fits-long l r = long-enough p w.world.state l (omega (arith, long-most, r.0)) (omega (arith, long-most, r.1))

    -- and hold the current fold in full mode
    fold_small : (j : ℕ) → (fold_f p (trip_at T.items w.world.state) w.world.state j < p) × (fold_g p (trip_at T.items w.world.state) w.world.state j < p)
    fold_small j =
        subst (λ U. (fold_f p U w.world.state j < p) × (fold_g p U w.world.state j < p)) (sym (same-trip p large through T valid.whole.items w.world st.going))
        (fold-below p (positive p large) _ (vector_f p T) (f-below p large T valid) _ j, fold-below p (positive p large) _ (vector_g p T) (g-below p large T valid) _ j)

    pub fits_read : m ≡ Full → waits next.Openings t ≡ false → read_rows p w.world.state w.lent ≡ none
    fits_read em et =
        let held-so : held m k ≡ true = ap (λ m. held m k) em in
        let r = st.room held-so in
        let a : State = w.world.state in
        let now : waits next.Openings a.turn.next ≡ false = ap (waits next.Openings) st.next ∙ et in
        let all : known through a ≡ 0 = full_all through a (st.mode ∙ em) now in
        let anew : lent_anew m t ≡ false = ap₂ (λ m o. is_full m && o) em et in
        reads_free p a w.lent (omega (arith, long-most, r.0)) (omega (arith, long-most, r.1))
        (λ j h. (
          subst (λ x. x < p) (sym ((st.left held-so anew j).0 ∙ st.going.agrees.places_f j (omega (arith, all)) h)) (fold_small j).0,
          subst (λ x. x < p) (sym ((st.left held-so anew j).1 ∙ st.going.agrees.places_g j (omega (arith, all)) h)) (fold_small j).1,
        ))
