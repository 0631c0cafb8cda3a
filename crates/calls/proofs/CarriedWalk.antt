-- What a proper list of calls is asked, in order: the total, message 0 to n-1, the ends, and an opening at each point.
use mathlib.Core.Path.{◌≡◌, refl, sym, ap, ap₂, subst, ◌∙◌}
use mathlib.Core.Bool.{Bool, true, false, cond}
use mathlib.Core.List.{List, [], ◌∷◌, ◌++◌, append_assoc, append-nil}
use Prim.Native.Nat.{ℕ, zero, suc, ◌+◌}
use native.Mathlib.Omega.{arith}
use lib.Dec.{ltb}
use lib.ListN.{length, length-append}
use borrow.Author.Tests.{lt-ltb, le-ltb}
use Rattle.phase.specs.declared.Next.{Next}
use Rattle.phase.specs.declared.Next.TheVariants as next
use Rattle.phase.specs.declared.Kind.{Kind}
use Rattle.phase.specs.declared.Kind.TheVariants.{Shut, Asked, Change}
use Rattle.phase.specs.Order.{round_or_ends}
use Rattle.phase.specs.Cases.{is_change, is_full}
use Rattle.runs.specs.Trip.{Trip, trip_item}
use Rattle.calls.specs.declared.Call.{Call}
use Rattle.calls.specs.declared.Call.TheVariants as call
use Rattle.calls.specs.Step.{Lent, Result, is_answered}
use Rattle.calls.specs.State.{State, takes_challenge, goes_on, closed, follow}
use Rattle.calls.specs.Meaning.{Question, total, round_message, ends, opening_at, proof, done, close_asks, question}
use Rattle.calls.specs.Proper.{items_below, whole_pass, answer_by, change_to, before, change_before, rounds_from, openings_from, end_calls, opening_calls, whole_run}
use Rattle.calls.proofs.LiveWorld.{buffers_same}

-- what is carried over of an answered call
abbrev pub asked : Question → List Question
asked total = total ∷ []
asked (round_message i) = round_message i ∷ []
asked ends = ends ∷ []
asked (opening_at b) = opening_at b ∷ []
asked proof = []
asked (done x) = []

-- what a question depends on
pub record Place : Type 0 where
  pub next : Next
  pub kind : Kind
  pub point : ℕ
  pub round : ℕ

abbrev pub place_of : State → Place
place_of a = record { next = a.turn.next; kind = a.pass.kind; point = a.pass.point; round = length a.turn.challenges }

abbrev pub between : Next → ℕ → Place
between t i = record { next = t; kind = Shut; point = 0; round = i }

abbrev in_pass : Place → Kind → ℕ → Place
in_pass w k b = record { next = w.next; kind = k; point = b; round = w.round }

-- ONE ANSWERED CALL, of n rounds: what it is asked, and where it leads
module _ (n : ℕ) where
  abbrev closes : Place → Next → Kind → List Question × Place
  closes w t Shut = ([], w)
  closes w next.Total Asked = (total ∷ [], between (round_or_ends 0 n) w.round)
  closes w next.Message Asked = (round_message w.round ∷ [], between next.Challenge w.round)
  closes w next.Challenge Asked = ([], w)
  closes w next.Ends Asked = (ends ∷ [], between next.Openings w.round)
  closes w next.Openings Asked = (opening_at w.point ∷ [], between next.Openings w.round)
  closes w t Change = ([], between w.next w.round)

  abbrev pub leads : Place → Call → List Question × Place
  leads w call.OpenPass = ([], in_pass w Asked 0)
  leads w (call.OpenAt b) = ([], in_pass w Asked b)
  leads w call.ToFull = ([], in_pass w Change 0)
  leads w call.ToSmall = ([], between w.next w.round)
  leads w (call.Give x) = ([], w)
  leads w call.Close = closes w w.next w.kind
  leads w call.Message = (round_message w.round ∷ [], between next.Challenge w.round)
  leads w (call.Challenge c) = ([], between (round_or_ends (suc w.round) n) (suc w.round))
  leads w call.Ends = (ends ∷ [], between next.Openings w.round)
  leads w (call.Opening b) = (opening_at b ∷ [], w)
  leads w call.WriteProof = ([], w)

  unfoldable pub asked_by : Place → List Call → List Question
  asked_by w [] = []
  asked_by w (c ∷ cs) = (leads w c).0 ++ asked_by (leads w c).1 cs

  unfoldable walk : Place → List Call → Place
  walk w [] = w
  walk w (c ∷ cs) = walk (leads w c).1 cs

-- A STATE is led so
close-leads : (a : State) (t : Next) (k : Kind) → a.turn.next ≡ t
    → (asked (close_asks a t k) ≡ (closes a.start.rounds (place_of a) t k).0) × (place_of (closed a t k) ≡ (closes a.start.rounds (place_of a) t k).1)
close-leads a t Shut e = (refl, refl)
close-leads a next.Total Asked e = (refl, refl)
close-leads a next.Message Asked e = (refl, refl)
close-leads a next.Challenge Asked e = (refl, refl)
close-leads a next.Ends Asked e = (refl, refl)
close-leads a next.Openings Asked e = (refl, refl)
close-leads a t Change e = (refl, refl)

goes_leads : (a : State) (c : Call) (l : Lent)
    → (asked (question a c) ≡ (leads a.start.rounds (place_of a) c).0) × (place_of (goes_on a c l) ≡ (leads a.start.rounds (place_of a) c).1)
goes_leads a call.OpenPass l = (refl, refl)
goes_leads a (call.OpenAt b) l = (refl, refl)
goes_leads a call.ToFull l = (refl, refl)
goes_leads a call.ToSmall l = (refl, refl)
goes_leads a (call.Give x) l = (refl, buffers_same place_of (λ a l. refl) (is_change a.pass.kind) _ l)
goes_leads a call.Close l = close-leads a a.turn.next a.pass.kind refl
goes_leads a call.Message l = (refl, refl)
goes_leads a (call.Challenge c) l =
    let count : length (a.turn.challenges ++ c ∷ []) ≡ suc (length a.turn.challenges) = omega (arith, length-append a.turn.challenges (c ∷ [])) in
    (refl, buffers_same place_of (λ a l. refl) (is_full a.turn.mode) (takes_challenge a c) l ∙ ap (λ i. between (round_or_ends i a.start.rounds) i) count)
goes_leads a call.Ends l = (refl, refl)
goes_leads a (call.Opening b) l = (refl, refl)
goes_leads a call.WriteProof l = (refl, refl)

pub follow-leads : (a : State) (c : Call) (o : Result) → is_answered o.answer ≡ true
    → (asked (question a c) ≡ (leads a.start.rounds (place_of a) c).0) × (place_of (follow a c o) ≡ (leads a.start.rounds (place_of a) c).1)
follow-leads a c o y =
    let g = goes_leads a c o.lent in
    (g.0, ap (λ b. place_of (cond b (goes_on a c o.lent) a)) y ∙ g.1)

-- A PROPER LIST, part by part
unfoldable pub rounds_asked : ℕ → ℕ → List Question
rounds_asked i zero = []
rounds_asked i (suc m) = round_message i ∷ rounds_asked (suc i) m

unfoldable pub openings_asked : List ℕ → List Question
openings_asked [] = []
openings_asked (b ∷ bs) = opening_at b ∷ openings_asked bs

module _ (T : Trip) where
  abbrev n : ℕ
  n = T.start.rounds

  record Leads (w : Place) (cs : List Call) (qs : List Question) (v : Place) : Type 0 where
    asks : asked_by n w cs ≡ qs
    ends_at : walk n w cs ≡ v

  nowhere : (w : Place) → Leads w [] [] w
  unfolding asked_by walk
  nowhere w = record { asks = refl; ends_at = refl }

  first : (w : Place) (c : Call) (cs : List Call) (qs : List Question) (v : Place) → Leads (leads n w c).1 cs qs v → Leads w (c ∷ cs) ((leads n w c).0 ++ qs) v
  unfolding asked_by walk
  first w c cs qs v h = record { asks = ap (λ qs. (leads n w c).0 ++ qs) h.asks; ends_at = h.ends_at }

  joined : (w : Place) (xs ys : List Call) → (asked_by n w (xs ++ ys) ≡ asked_by n w xs ++ asked_by n (walk n w xs) ys) × (walk n w (xs ++ ys) ≡ walk n (walk n w xs) ys)
  unfolding asked_by walk
  joined w [] ys = (refl, refl)
  joined w (c ∷ xs) ys =
      let h = joined (leads n w c).1 xs ys in
      (ap (λ qs. (leads n w c).0 ++ qs) h.0 ∙ sym (append_assoc (leads n w c).0 (asked_by n (leads n w c).1 xs) _), h.1)

  both : (w v u : Place) (xs ys : List Call) (qs rs : List Question) → Leads w xs qs v → Leads v ys rs u → Leads w (xs ++ ys) (qs ++ rs) u
  both w v u xs ys qs rs g h =
      let j = joined w xs ys in
      record {
        asks = j.0 ∙ ap₂ ◌++◌ g.asks (ap (λ v. asked_by n v ys) g.ends_at ∙ h.asks);
        ends_at = j.1 ∙ ap (λ v. walk n v ys) g.ends_at ∙ h.ends_at;
      }

  -- A PASS is asked what its close is
  pass_on : (m : ℕ) (w : Place) (cs : List Call) (qs : List Question) (v : Place) → Leads w cs qs v → Leads w (items_below T m ++ cs) qs v
  unfolding items_below
  pass_on zero w cs qs v h = h
  pass_on (suc m) w cs qs v h = first w (call.Give (trip_item T m)) (items_below T m ++ cs) qs v (pass_on m w cs qs v h)

  closing : (t : Next) (i : ℕ) (opening : Call) (w v : Place) (qs : List Question) → leads n (between t i) opening ≡ ([], w) → leads n w call.Close ≡ (qs, v)
      → Leads (between t i) (whole_pass T opening) qs v
  unfolding asked_by walk
  closing t i opening w v qs e h =
      let last : Leads w (call.Close ∷ []) (qs ++ []) v =
      record { asks = ap (λ (x : List Question × Place). x.0 ++ []) h; ends_at = ap (λ (x : List Question × Place). x.1) h } in
      let rest = pass_on T.start.items w (call.Close ∷ []) (qs ++ []) v last in
      record {
        asks = ap (λ (x : List Question × Place). x.0 ++ asked_by n x.1 (items_below T T.start.items ++ call.Close ∷ [])) e ∙ rest.asks ∙ append-nil qs;
        ends_at = ap (λ (x : List Question × Place). walk n x.1 (items_below T T.start.items ++ call.Close ∷ [])) e ∙ rest.ends_at;
      }

  -- THE ANSWERS, in either mode
  message-asked : (full : Bool) (i : ℕ) → Leads (between next.Message i) (answer_by T full call.OpenPass call.Message) (round_message i ∷ []) (between next.Challenge i)
  unfolding asked_by walk
  message-asked true i = record { asks = refl; ends_at = refl }
  message-asked false i = closing next.Message i call.OpenPass (record { next = next.Message; kind = Asked; point = 0; round = i }) _ _ refl refl

  ends_asked : (full : Bool) (i : ℕ) → Leads (between next.Ends i) (answer_by T full call.OpenPass call.Ends) (ends ∷ []) (between next.Openings i)
  unfolding asked_by walk
  ends_asked true i = record { asks = refl; ends_at = refl }
  ends_asked false i = closing next.Ends i call.OpenPass (record { next = next.Ends; kind = Asked; point = 0; round = i }) _ _ refl refl

  opening-asked : (full : Bool) (i b : ℕ) → Leads (between next.Openings i) (answer_by T full (call.OpenAt b) (call.Opening b)) (opening_at b ∷ []) (between next.Openings i)
  unfolding asked_by walk
  opening-asked true i b = record { asks = refl; ends_at = refl }
  opening-asked false i b = closing next.Openings i (call.OpenAt b) (record { next = next.Openings; kind = Asked; point = b; round = i }) _ _ refl refl

  change-asked : (was full : Bool) (t : Next) (i : ℕ) → Leads (between t i) (change_to T was full) [] (between t i)
  unfolding asked_by walk
  change-asked false true t i = closing t i call.ToFull (record { next = t; kind = Change; point = 0; round = i }) _ _ refl refl
  change-asked true false t i = record { asks = refl; ends_at = refl }
  change-asked false false t i = nowhere (between t i)
  change-asked true true t i = nowhere (between t i)

  module _ (full : ℕ → Bool) where
    -- a step with the change before it
    step-asked : (j : ℕ) (t : Next) (i : ℕ) (asks : List Call) (qs : List Question) (v : Place) → Leads (between t i) asks qs v → Leads (between t i) (change_before T full j ++ asks) qs v
    step-asked j t i asks qs v h = both _ _ _ (change_before T full j) asks [] qs (change-asked (before T full j) (full j) t i) h

    rounds-asked : (cs : List ℕ) (i : ℕ) → i + length cs ≡ n → Leads (between (round_or_ends i n) i) (rounds_from T full i cs) (rounds_asked i (length cs)) (between next.Ends n)
    unfolding rounds_from rounds_asked
    rounds-asked [] i e =
        let all : i ≡ n = omega arith in
        let last : round_or_ends i n ≡ next.Ends = ap (λ b. cond b next.Message next.Ends) (le-ltb i n (omega arith)) in
        subst (λ v. Leads (between (round_or_ends i n) i) [] [] v) (ap₂ between last all) (nowhere (between (round_or_ends i n) i))
    rounds-asked (c ∷ cs) i e =
        let more : round_or_ends i n ≡ next.Message = ap (λ b. cond b next.Message next.Ends) (lt-ltb i n (omega arith)) in
        let asks : List Call = answer_by T (full i) call.OpenPass call.Message in
        subst (λ t. Leads (between t i) (rounds_from T full i (c ∷ cs)) (rounds_asked i (length (c ∷ cs))) (between next.Ends n)) (sym more)
        (both _ _ _ (change_before T full i ++ asks) (call.Challenge c ∷ rounds_from T full (suc i) cs) (round_message i ∷ []) (rounds_asked (suc i) (length cs))
        (step-asked i next.Message i asks _ _ (message-asked (full i) i))
        (first (between next.Challenge i) (call.Challenge c) (rounds_from T full (suc i) cs) _ _ (rounds-asked cs (suc i) (omega arith))))

    openings-asked : (bs : List ℕ) (j i : ℕ) → Leads (between next.Openings i) (openings_from T full j bs) (openings_asked bs) (between next.Openings i)
    unfolding openings_from openings_asked
    openings-asked [] j i = change-asked (before T full j) (full j) next.Openings i
    openings-asked (b ∷ bs) j i =
        let asks : List Call = answer_by T (full j) (call.OpenAt b) (call.Opening b) in
        both _ _ _ (change_before T full j ++ asks) (openings_from T full (suc j) bs) (opening_at b ∷ []) (openings_asked bs)
        (step-asked j next.Openings i asks _ _ (opening-asked (full j) i b)) (openings-asked bs (suc j) i)

    last-asked : (bs : List ℕ) (i : ℕ) → Leads (between next.Openings i) (opening_calls T full bs) (cond (ltb 0 n) (openings_asked bs) []) (between next.Openings i)
    last-asked bs i = by (ltb 0 n)
      where
        by : (b : Bool) → Leads (between next.Openings i) (cond b (openings_from T full (suc n) bs) []) (cond b (openings_asked bs) []) (between next.Openings i)
        by true = openings-asked bs (suc n) i
        by false = nowhere (between next.Openings i)

    pub whole-asked : (cs bs : List ℕ) → length cs ≡ n
        → asked_by n (between next.Total 0) (whole_run T full cs bs) ≡ ((total ∷ rounds_asked 0 (length cs)) ++ (ends ∷ [])) ++ cond (ltb 0 n) (openings_asked bs) []
    whole-asked cs bs count =
        let one = closing next.Total 0 call.OpenPass (record { next = next.Total; kind = Asked; point = 0; round = 0 }) (between (round_or_ends 0 n) 0) (total ∷ []) refl refl in
        let two = both _ _ _ (whole_pass T call.OpenPass) (rounds_from T full 0 cs) (total ∷ []) (rounds_asked 0 (length cs)) one (rounds-asked cs 0 (omega arith)) in
        let three = step-asked n next.Ends n (answer_by T (full n) call.OpenPass call.Ends) _ _ (ends_asked (full n) n) in
        let four = both _ _ _ (whole_pass T call.OpenPass ++ rounds_from T full 0 cs) (end_calls T full) (total ∷ rounds_asked 0 (length cs)) (ends ∷ []) two three in
        (both _ _ _ (whole_pass T call.OpenPass ++ rounds_from T full 0 cs ++ end_calls T full) (opening_calls T full bs) _ _ four (last-asked bs n)).asks
