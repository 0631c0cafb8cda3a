-- A whole pass in small mode, for what is next or for a change, is answered to its close.
use mathlib.Core.Path.{◌≡◌, refl, sym, ap, ap₂, subst, ◌∙◌}
use mathlib.Core.Bool.{Bool, true, false, not, ◌&&◌, ◌||◌, and-false, or-true, true≢false}
use mathlib.Core.List.{List, [], ◌∷◌, ◌++◌, append_assoc}
use Prim.Native.Nat.{ℕ, zero, suc, ◌+◌, ◌-◌, ◌<◌}
use native.Mathlib.Omega.{arith}
use lib.Dec.{ltb}
use lib.ListN.{length}
use Rattle.refusal.specs.Limit.{max_weight}
use Rattle.field.specs.Total.{in_limits}
use Rattle.vector.specs.Slice.{is_nonzero}
use Rattle.phase.specs.declared.Mode.{Mode}
use Rattle.phase.specs.declared.Mode.TheVariants.{Small, Full}
use Rattle.phase.specs.declared.Next.{Next}
use Rattle.phase.specs.declared.Next.TheVariants as next
use Rattle.phase.specs.declared.Kind.{Kind}
use Rattle.phase.specs.declared.Kind.TheVariants.{Shut, Asked, Change}
use Rattle.phase.specs.Cases.{is_change, is_full, is_open, is_small, waits}
use Rattle.phase.specs.Order.{round_or_ends}
use Rattle.item.specs.declared.Given.{Given}
use Rattle.runs.specs.Trip.{Trip, trip_item, sum_of}
use Rattle.runs.proofs.PassTrip.{gives_all}
use Rattle.calls.specs.declared.Call.{Call}
use Rattle.calls.specs.declared.Call.TheVariants as call
use Rattle.calls.specs.Step.{Lent}
use Rattle.calls.specs.State.{State, in_pass, closed}
use Rattle.calls.specs.Table.{pass_waits, openings_next, change_waits, total_fits}
use Rattle.calls.specs.Proper.{ItemFits, Valid, Room, items_below, whole_pass, Host, lends, host_on}
use Rattle.calls.proofs.Turns.{both}
use Rattle.calls.proofs.Agrees.{trip_at}
use Rattle.calls.proofs.LiveTable.{open_free, open_at_free, to_full_free, item-free, close-free}
use Rattle.calls.proofs.LiveWorld.{still, made, Lives, held, buffers_left, buffers_so, Standing, MovedBy, lends-used, lends-idle, room-used, call-lives, stands, stands-idle, fits-long}

module _ (p : ℕ) (large : max_weight < p) (through : Bool) (T : Trip) (idle : Call → ℕ → Lent) (valid : Valid p T) where
  abbrev Stands : Mode → Next → ℕ → Kind → ℕ → Host → Type 0
  Stands m t i k q w = Standing p large through T idle valid m t i k q w

  abbrev LivesOn : Mode → Next → ℕ → Kind → ℕ → List Call → Type 0
  LivesOn m t i k q cs = (w : Host) → Stands m t i k q w → Lives p T idle through w cs

  abbrev L : ℕ
  L = T.start.items

  abbrev n : ℕ
  n = T.start.rounds

  -- OPENED for what is next, at a point, or for a change
  module _ (t : Next) (i : ℕ) (w : Host) (st : Stands Small t i Shut 0 w) (cs : List Call) where
    abbrev at_open : State
    at_open = w.world.state

    rounds-so : at_open.start.rounds ≡ n
    rounds-so = ap (λ s. s.rounds) st.going.start

    open_lives : pass_waits Small t ≡ true → LivesOn Small t i Asked 0 cs → Lives p T idle through w (call.OpenPass ∷ cs)
    open_lives turn on =
        let free = open_free p at_open (lends p T idle w call.OpenPass) (ap₂ pass_waits st.mode st.next ∙ turn) in
        call-lives p large through T idle valid Small t i Shut 0 w st call.OpenPass _ refl free tt cs
        (λ v r. on _ (stands-idle p large through T idle valid Small t i Shut 0 w st call.OpenPass v Small t i Asked 0 st.mode st.next st.round refl refl refl))

    open_at_lives : (b : ℕ) → openings_next t n ≡ true → is_nonzero p b ≡ true → LivesOn Small t i Asked 0 cs → Lives p T idle through w (call.OpenAt b ∷ cs)
    open_at_lives b turn ok on =
        let free = open_at_free p at_open (lends p T idle w (call.OpenAt b)) b (ap is_small st.mode) (ap₂ openings_next st.next rounds-so ∙ turn) ok in
        call-lives p large through T idle valid Small t i Shut 0 w st (call.OpenAt b) _ refl free tt cs
        (λ v r. on _ (stands-idle p large through T idle valid Small t i Shut 0 w st (call.OpenAt b) v Small t i Asked 0 st.mode st.next st.round refl refl refl))

    to_full_lives : change_waits Small t n ≡ true → ((j : ℕ) → Room T (idle call.ToFull j)) → LivesOn Small t i Change 0 cs → Lives p T idle through w (call.ToFull ∷ cs)
    to_full_lives turn room on =
        let now : change_waits at_open.turn.mode at_open.turn.next at_open.start.rounds ≡ true
        = ap₂ (λ m t. change_waits m t at_open.start.rounds) st.mode st.next ∙ ap (change_waits Small t) rounds-so ∙ turn in
        let here = lends-idle p large through T idle valid Small t i Shut 0 w st refl call.ToFull in
        let free = to_full_free p at_open (idle call.ToFull w.count) now (fits-long p large through T idle valid Small t i Shut 0 w st (idle call.ToFull w.count) (room w.count)) in
        call-lives p large through T idle valid Small t i Shut 0 w st call.ToFull _ here free tt cs
        (λ v r. on _ (stands p large through T idle valid Small t i Shut 0 w st call.ToFull v Small t i Change 0 st.mode st.next st.round refl refl
        (λ held-so. subst (Room T) (sym here) (room w.count)) (λ held-so y j. (refl, refl))))

  -- GIVEN THE TRIP'S ITEM
  module _ (t : Next) (i : ℕ) (k : Kind) (op : is_open k ≡ true) (q : ℕ) (w : Host) (st : Stands Small t i k q w) (more : q < L) where
    abbrev a : State
    a = w.world.state

    more-so : length a.pass.items < a.start.items
    more-so = omega (arith, st.taken, ap (λ s. s.items) st.going.start)

    -- after it
    abbrev taking : Given → State
    taking x = in_pass a a.pass.kind a.pass.point (x ∷ a.pass.items)

    stands-item : (x : Given) → (let c : Call = call.Give x in
        MovedBy p large through T idle valid Small t i k q w st c → (held Small k ≡ true → Room T (lends p T idle w c)) → Stands Small t i k (suc q) (host_on p T idle w c))
    stands-item x v room =
        let c : Call = call.Give x in
        let o : Lent = (made p T idle w c).lent in
        let b = buffers_so (is_change a.pass.kind) (taking x) o in
        stands p large through T idle valid Small t i k q w st c v Small t i k (suc q)
        (ap (λ d. d.mode) b.0 ∙ st.mode) (ap (λ d. d.next) b.0 ∙ st.next) (ap (λ d. length d.challenges) b.0 ∙ st.round)
        (ap (λ d. d.kind) b.1 ∙ st.kind) (ap (λ d. length d.items) b.1 ∙ ap suc st.taken)
        room (λ held-so y. buffers_left (is_change a.pass.kind) (taking x) o (ap is_change st.kind ∙ held-so))

    -- in a change pass the buffers are as they were left, else anything
    item_lives : (x : Given) → ItemFits p T.start x → x ≡ trip_item T (L - 1 - q) → (cs : List Call) → LivesOn Small t i k (suc q) cs
        → Lives p T idle through w (call.Give x ∷ cs)
    item_lives x fits e cs on = by (is_change k) refl
      where
        c : Call
        c = call.Give x

        own : ItemFits p a.start x
        own = subst (λ s. ItemFits p s x) (sym st.going.start) fits

        same : x ≡ trip_item T (L - 1 - length a.pass.items)
        same = e ∙ ap (λ q. trip_item T (L - 1 - q)) (sym st.taken)

        by : (b : Bool) → is_change k ≡ b → Lives p T idle through w (c ∷ cs)
        by true held-so =
            let free = item-free p a w.lent x (ap is_open st.kind ∙ op) more-so own (λ y. fits-long p large through T idle valid Small t i k q w st w.lent (st.room held-so)) in
            call-lives p large through T idle valid Small t i k q w st c w.lent (lends-used p large through T idle valid Small t i k q w st held-so false refl c) free
            (same, λ y j h. st.left held-so refl j) cs (λ v o. on _ (stands-item x v (λ held-so. room-used p large through T idle valid Small t i k q w st held-so c)))
        by false not-held =
            let none : is_change a.pass.kind ≡ false = ap is_change st.kind ∙ not-held in
            let free = item-free p a (lends p T idle w c) x (ap is_open st.kind ∙ op) more-so own (λ y. absurd (true≢false (sym y ∙ none))) in
            call-lives p large through T idle valid Small t i k q w st c _ refl free
            (same, λ y. absurd (true≢false (sym (both (is_change a.pass.kind) _ y).0 ∙ none))) cs (λ v o. on _ (stands-item x v (λ held-so. absurd (true≢false (sym held-so ∙ not-held)))))

  items_live : (t : Next) (i : ℕ) (k : Kind) → is_open k ≡ true → (rest q : ℕ) → q + rest ≡ L → (w : Host) → Stands Small t i k q w
      → (cs : List Call) → LivesOn Small t i k L cs → Lives p T idle through w (items_below T rest ++ cs)
  unfolding items_below
  items_live t i k op zero q e w st cs on = on w (subst (λ q. Stands Small t i k q w) (let z : q ≡ L = omega arith in z) st)
  items_live t i k op (suc rest) q e w st cs on =
      let at_rest : rest ≡ L - 1 - q = omega arith in
      item_lives t i k op q w st (omega arith) (trip_item T rest) (valid.items rest (omega arith)) (ap (trip_item T) at_rest) (items_below T rest ++ cs)
      (λ w st. items_live t i k op rest (suc q) (omega arith) w st cs on)

  -- CLOSED: what follows
  record Closes (a b : State) (m : Mode) (t : Next) : Type 0 where
    mode : b.turn.mode ≡ m
    next : b.turn.next ≡ t
    challenges : b.turn.challenges ≡ a.turn.challenges
    kind : b.pass.kind ≡ Shut
    items : b.pass.items ≡ []
    f : b.buffers.f ≡ a.buffers.f
    g : b.buffers.g ≡ a.buffers.g

  -- the plain total is within its limits
  module _ (t : Next) (i : ℕ) (k : Kind) (w : Host) (st : Stands Small t i k L w) where
    abbrev here : State
    here = w.world.state

    all-items : here.pass.items ≡ T.items
    all-items =
        let count : T.start.items ≡ here.start.items = ap (λ s. s.items) (sym st.going.start) in
        gives_all (trip_at T.items here) here.pass.items st.going.agrees.gives (st.taken ∙ count) (valid.whole.items ∙ count)

    total-so : total_fits p here ≡ true
    total-so = by here.start.plain refl
      where
        by : (plain : Bool) → here.start.plain ≡ plain → (not (waits next.Total here.turn.next && here.start.plain) || in_limits p (sum_of here.start here.pass.items)) ≡ true
        by true e =
            let fits = ap₂ (λ s xs. in_limits p (sum_of s xs)) st.going.start all-items ∙ valid.total (ap (λ s. s.plain) (sym st.going.start) ∙ e) in
            ap (λ b. not (waits next.Total here.turn.next && here.start.plain) || b) fits ∙ or-true (not (waits next.Total here.turn.next && here.start.plain))
        by false e =
            ap (λ b. not b || in_limits p (sum_of here.start here.pass.items)) (ap (λ b. waits next.Total here.turn.next && b) e ∙ and-false (waits next.Total here.turn.next))

  -- after a change the run is full
  close-lives : (t : Next) (i : ℕ) (k : Kind) → is_open k ≡ true → (m' : Mode) (t' : Next) → is_full m' ≡ is_change k
      → ((a : State) → a.start ≡ T.start → a.turn.mode ≡ Small → a.turn.next ≡ t → Closes a (closed a t k) m' t')
      → (w : Host) → Stands Small t i k L w → (cs : List Call) → LivesOn m' t' i Shut 0 cs → Lives p T idle through w (call.Close ∷ cs)
  close-lives t i k op m' t' full after w st cs on = by (is_change k) refl
    where
      a : State
      a = w.world.state

      all : length a.pass.items ≡ a.start.items
      all = st.taken ∙ ap (λ s. s.items) (sym st.going.start)

      h : Closes a (closed a a.turn.next a.pass.kind) m' t'
      h = subst (λ b. Closes a b m' t') (ap₂ (closed a) (sym st.next) (sym st.kind)) (after a st.going.start st.mode st.next)

      by : (b : Bool) → is_change k ≡ b → Lives p T idle through w (call.Close ∷ cs)
      by true held-so =
          let free = close-free p a w.lent (ap is_open st.kind ∙ op) all (total-so t i k w st) in
          call-lives p large through T idle valid Small t i k L w st call.Close w.lent (lends-used p large through T idle valid Small t i k L w st held-so false refl call.Close) free tt cs
          (λ v r. on _ (stands p large through T idle valid Small t i k L w st call.Close v m' t' i Shut 0
          h.mode h.next (ap length h.challenges ∙ st.round) h.kind (ap length h.items)
          (λ u. room-used p large through T idle valid Small t i k L w st held-so call.Close)
          (λ u y. still a (closed a a.turn.next a.pass.kind) w.lent (made p T idle w call.Close).lent _ _ h.f h.g r.f r.g (st.left held-so refl))))
      by false not-held =
          let free = close-free p a (lends p T idle w call.Close) (ap is_open st.kind ∙ op) all (total-so t i k w st) in
          call-lives p large through T idle valid Small t i k L w st call.Close _ refl free tt cs
          (λ v r. on _ (stands-idle p large through T idle valid Small t i k L w st call.Close v m' t' i Shut 0
          h.mode h.next (ap length h.challenges ∙ st.round) h.kind (ap length h.items) (ap (λ b. b || false) (full ∙ not-held))))

  -- from its opening on
  rest-lives : (t : Next) (i : ℕ) (k : Kind) → is_open k ≡ true → (m' : Mode) (t' : Next) → is_full m' ≡ is_change k
      → ((a : State) → a.start ≡ T.start → a.turn.mode ≡ Small → a.turn.next ≡ t → Closes a (closed a t k) m' t') → (w : Host) → Stands Small t i k 0 w
      → (cs : List Call) → LivesOn m' t' i Shut 0 cs → Lives p T idle through w ((items_below T L ++ call.Close ∷ []) ++ cs)
  rest-lives t i k op m' t' full after w st cs on =
      subst (Lives p T idle through w) (sym (append_assoc (items_below T L) (call.Close ∷ []) cs))
      (items_live t i k op L 0 (omega arith) w st (call.Close ∷ cs) (λ w st. close-lives t i k op m' t' full after w st cs on))

  -- THE PASSES OF A RUN
  module _ (i : ℕ) (w : Host) (cs : List Call) where
    pub total-lives : Stands Small next.Total i Shut 0 w → LivesOn Small (round_or_ends 0 n) i Shut 0 cs → Lives p T idle through w (whole_pass T call.OpenPass ++ cs)
    total-lives st on =
        open_lives next.Total i w st _ refl
        (λ w st. rest-lives next.Total i Asked refl Small (round_or_ends 0 n) refl
        (λ a es em et. record { mode = em; next = ap (λ s. round_or_ends 0 s.rounds) es; challenges = refl; kind = refl; items = refl; f = refl; g = refl }) w st cs on)

    pub message-lives : Stands Small next.Message i Shut 0 w → LivesOn Small next.Challenge i Shut 0 cs → Lives p T idle through w (whole_pass T call.OpenPass ++ cs)
    message-lives st on =
        open_lives next.Message i w st _ refl
        (λ w st. rest-lives next.Message i Asked refl Small next.Challenge refl
        (λ a es em et. record { mode = em; next = refl; challenges = refl; kind = refl; items = refl; f = refl; g = refl }) w st cs on)

    pub ends-lives : Stands Small next.Ends i Shut 0 w → LivesOn Small next.Openings i Shut 0 cs → Lives p T idle through w (whole_pass T call.OpenPass ++ cs)
    ends-lives st on =
        open_lives next.Ends i w st _ refl
        (λ w st. rest-lives next.Ends i Asked refl Small next.Openings refl
        (λ a es em et. record { mode = em; next = refl; challenges = refl; kind = refl; items = refl; f = refl; g = refl }) w st cs on)

    pub opening-lives : (b : ℕ) → is_nonzero p b ≡ true → ltb 0 n ≡ true → Stands Small next.Openings i Shut 0 w → LivesOn Small next.Openings i Shut 0 cs
        → Lives p T idle through w (whole_pass T (call.OpenAt b) ++ cs)
    opening-lives b ok some st on =
        open_at_lives next.Openings i w st _ b some ok
        (λ w st. rest-lives next.Openings i Asked refl Small next.Openings refl
        (λ a es em et. record { mode = em; next = refl; challenges = refl; kind = refl; items = refl; f = refl; g = refl }) w st cs on)

    pub change-lives : (t : Next) → change_waits Small t n ≡ true → ((j : ℕ) → Room T (idle call.ToFull j)) → Stands Small t i Shut 0 w → LivesOn Full t i Shut 0 cs
        → Lives p T idle through w (whole_pass T call.ToFull ++ cs)
    change-lives t turn room st on =
        to_full_lives t i w st _ turn room
        (λ w st. rest-lives t i Change refl Full t refl (λ a es em et. by a t et) w st cs on)
      where
        by : (a : State) (t : Next) → a.turn.next ≡ t → Closes a (closed a t Change) Full t
        by a t et = record { mode = refl; next = et; challenges = refl; kind = refl; items = refl; f = refl; g = refl }
