-- THE VERIFIER'S OWN LIST of a proper run is the whole one, call by call.
use mathlib.Core.Path.{◌≡◌, refl, sym, ap, ap₂, subst, ◌∙◌}
use mathlib.Core.Bool.{Bool, true, false, cond}
use mathlib.Core.List.{List, [], ◌∷◌, ◌++◌, append_assoc, map}
use Prim.Native.Nat.{ℕ, zero, suc, ◌<◌}
use lib.Dec.{ltb}
use lib.IntN.{ℤ}
use lib.ListN.{length}
use Rattle.refusal.specs.Limit.{max_weight}
use Rattle.vector.specs.Message.{Message}
use Rattle.prover.specs.Reply as reply
use Rattle.runs.specs.Trip.{Trip}
use Rattle.calls.specs.declared.Call.{Call}
use Rattle.calls.specs.declared.query.Query.TheVariants as query
use Rattle.calls.specs.Lists.{along, always, each, collected}
use Rattle.calls.specs.Step.{Lent, lending, Result}
use Rattle.calls.specs.State.{State, follow}
use Rattle.calls.specs.World.{Made, World, fresh_world, came}
use Rattle.calls.specs.Meaning.{Question, total, round_message, ends, opening_at, proof, done, question, Answer, proof_of_trip, message_at}
use Rattle.calls.specs.QueryState.{Posed, plainly}
use Rattle.calls.specs.Given.{reply_of}
use Rattle.calls.specs.Proper.{Valid, Host, makes, host_on, whole_run, Brings, proper_run}
use Rattle.calls.specs.Carried.{items_of, claims, claims_in, checks, carried_over, by_messages, by_file}
use Rattle.calls.specs.WholeList.{brings_total, brings_message, messages_from, check_at, all_checks, whole_by_messages, whole_by_file}
use Rattle.calls.specs.Demand3.{AllAnswered, AllKept, AllTake}
use Rattle.calls.proofs.Records.{Notes}
use Rattle.calls.proofs.Answers.{Going, goes_on_lem, fresh-going}
use Rattle.calls.proofs.Hits.{Hit, hit_replies, hit_here}
use Rattle.calls.proofs.Links.{message-of, opening_of_lem}
use Rattle.calls.proofs.CarriedTurns.{AtTurn, goes_turn}
use Rattle.calls.proofs.CarriedWalk.{asked, place_of, leads, asked_by, follow-leads, rounds_asked, openings_asked, whole-asked}
use Rattle.calls.proofs.LiveWorld.{made_from}
use Rattle.calls.proofs.Live.{proper-answered, proper-kept}
use Rattle.calls.proofs.LiveTakes.{proper-takes}

-- the calls that questions are carried over as
module _ (form : Question → List Posed) where
  unfoldable carried_as : List Question → List Posed
  carried_as [] = []
  carried_as (q ∷ qs) = form q ++ carried_as qs

  carried-append : (qs rs : List Question) → carried_as (qs ++ rs) ≡ carried_as qs ++ carried_as rs
  unfolding carried_as
  carried-append [] rs = refl
  carried-append (q ∷ qs) rs = ap (λ xs. form q ++ xs) (carried-append qs rs) ∙ sym (append_assoc (form q) (carried_as qs) (carried_as rs))

module _ (p : ℕ) (T : Trip) (cs : List ℕ) where
  abbrev n : ℕ
  n = T.start.rounds

  -- BY MESSAGES
  abbrev by_message : Question → List Posed
  by_message total = plainly (brings_total p T) ∷ []
  by_message (round_message i) = plainly (brings_message (message_at p T cs i)) ∷ []
  by_message ends = plainly query.Verdict ∷ []
  by_message (opening_at b) = check_at p T cs b ∷ []
  by_message proof = []
  by_message (done x) = []

  -- BY THE FILE the checks alone
  abbrev by_check : Question → List Posed
  by_check total = []
  by_check (round_message i) = []
  by_check ends = []
  by_check (opening_at b) = check_at p T cs b ∷ []
  by_check proof = []
  by_check (done x) = []

  -- WHAT A PROPER LIST IS ASKED, carried over
  messages-so : (m i : ℕ) → carried_as by_message (rounds_asked i m) ≡ messages_from p T cs i m
  unfolding carried_as rounds_asked messages_from
  messages-so zero i = refl
  messages-so (suc m) i = ap (λ xs. plainly (brings_message (message_at p T cs i)) ∷ xs) (messages-so m (suc i))

  no-messages : (m i : ℕ) → carried_as by_check (rounds_asked i m) ≡ []
  unfolding carried_as rounds_asked
  no-messages zero i = refl
  no-messages (suc m) i = no-messages m (suc i)

  openings-so : (form : Question → List Posed) → ((b : ℕ) → form (opening_at b) ≡ check_at p T cs b ∷ []) → (bs : List ℕ)
      → carried_as form (cond (ltb 0 n) (openings_asked bs) []) ≡ all_checks p T cs bs
  unfolding carried_as openings_asked
  openings-so form one bs = by (ltb 0 n)
    where
      all : (bs : List ℕ) → carried_as form (openings_asked bs) ≡ map (check_at p T cs) bs
      all [] = refl
      all (b ∷ bs) = ap₂ ◌++◌ (one b) (all bs)

      by : (x : Bool) → carried_as form (cond x (openings_asked bs) []) ≡ cond x (map (check_at p T cs) bs) []
      by true = all bs
      by false = refl

  module _ (bs : List ℕ) (m : ℕ) where
    abbrev rest : List Question
    rest = cond (ltb 0 n) (openings_asked bs) []

    split : (form : Question → List Posed) → carried_as form (((total ∷ rounds_asked 0 m) ++ (ends ∷ [])) ++ rest) ≡ ((form total ++ carried_as form (rounds_asked 0 m)) ++ (form ends ++ [])) ++ carried_as form rest
    unfolding carried_as
    split form =
        carried-append form ((total ∷ rounds_asked 0 m) ++ (ends ∷ [])) rest
        ∙ ap (λ xs. xs ++ carried_as form rest) (carried-append form (total ∷ rounds_asked 0 m) (ends ∷ []))

    messages-whole : carried_as by_message (((total ∷ rounds_asked 0 m) ++ (ends ∷ [])) ++ rest)
        ≡ (plainly (brings_total p T) ∷ messages_from p T cs 0 m) ++ (plainly query.Verdict ∷ all_checks p T cs bs)
    messages-whole =
        split by_message
        ∙ ap₂ (λ xs ys. ((plainly (brings_total p T) ∷ xs) ++ (plainly query.Verdict ∷ [])) ++ ys) (messages-so m 0) (openings-so by_message (λ b. refl) bs)
        ∙ append_assoc (plainly (brings_total p T) ∷ messages_from p T cs 0 m) (plainly query.Verdict ∷ []) (all_checks p T cs bs)

    checks-whole : carried_as by_check (((total ∷ rounds_asked 0 m) ++ (ends ∷ [])) ++ rest) ≡ all_checks p T cs bs
    checks-whole = split by_check ∙ ap₂ (λ xs ys. (xs ++ []) ++ ys) (no-messages m 0) (openings-so by_check (λ b. refl) bs)

module _ (p : ℕ) (large : max_weight < p) (through : Bool) (T : Trip) (whole : length T.items ≡ T.start.items) (cs : List ℕ) where
  abbrev H : Question → Type 0
  H q = Hit p large through T whole cs q

  abbrev came_of : (q : Question) → H q → Result
  came_of q h = came p h.world h.made

  -- ALONG A RUN'S LIST
  module _ (what : Question → Answer → List Posed) (form : Question → List Posed) (one : (q : Question) (h : H q) → what q (reply_of (came_of q h)) ≡ carried_as form (asked q)) where
    gathered-so : (idle : Call → ℕ → Lent) (calls : List Call) (w : Host) {past : Notes} → Going p large through T whole w.world past
        → (let ms : List Made = made_from p T idle w calls in
        AllAnswered p w.world ms → AllKept p through T w.world ms → AllTake p cs w.world ms
        → carried_over p T w.world ms what ≡ carried_as form (asked_by T.start.rounds (place_of w.world.state) calls))
    unfolding each along always collected carried_as asked_by hit_here
    gathered-so idle [] w g y kept takes = refl
    gathered-so idle (c ∷ calls) w g y kept takes =
        let a : State = w.world.state in
        let m : Made = makes p T idle w c in
        let o : Result = came p w.world m in
        let v : Host = host_on p T idle w c in
        let n : ℕ = T.start.rounds in
        let here = one (question a c) (hit_here p large through T whole cs w.world g takes.0 m kept.0 (question a c) (y.0, refl)) in
        let later = gathered-so idle calls v (goes_on_lem p large through T whole w.world g m kept.0) y.1 kept.1 takes.1 in
        let led = follow-leads a c o y.0 in
        let rounds-so : a.start.rounds ≡ n = ap (λ s. s.rounds) g.start in
        let first : asked (question a c) ≡ (leads n (place_of a) c).0 = led.0 ∙ ap (λ k. (leads k (place_of a) c).0) rounds-so in
        let then : place_of (follow a c o) ≡ (leads n (place_of a) c).1 = led.1 ∙ ap (λ k. (leads k (place_of a) c).1) rounds-so in
        ap (λ b. cond b (what (question a c) (reply_of o)) [] ++ carried_over p T v.world (made_from p T idle v calls) what) y.0
        ∙ ap₂ ◌++◌ (here ∙ ap (carried_as form) first) (later ∙ ap (λ w. carried_as form (asked_by n w calls)) then)
        ∙ sym (carried-append form (leads n (place_of a) c).0 (asked_by n (leads n (place_of a) c).1 calls))

  check_so : (b : ℕ) (h : H (opening_at b)) → checks T.start.rounds (opening_at b) (reply_of (came_of (opening_at b) h)).values ≡ check_at p T cs b ∷ []
  check_so b h =
      ap (λ (x : Answer). checks T.start.rounds (opening_at b) x.values) (hit_replies p large through T whole cs (opening_at b) h)
      ∙ ap (λ values. (record { query = query.CheckOpening b; shown = record { file = []; values = values; logs = [] } }) ∷ []) (opening_of_lem p large through T whole cs b _ h refl)

  claim_so : (plain : Bool) (t : ℤ) (c : ℕ) → claims (cond plain (reply.total t) (reply.field_total c)) ++ [] ≡ plainly (cond plain (query.Close t) (query.CloseClaim c)) ∷ []
  claim_so true t c = refl
  claim_so false t c = refl

  each-message : (q : Question) (h : H q) → claims_in (reply_of (came_of q h)).answer ++ checks T.start.rounds q (reply_of (came_of q h)).values ≡ carried_as (by_message p T cs) (asked q)
  unfolding carried_as
  each-message total h = ap (λ (x : Answer). claims_in x.answer ++ []) (hit_replies p large through T whole cs total h) ∙ claim_so T.start.plain _ _
  each-message (round_message i) h =
      ap (λ (x : Answer). claims_in x.answer ++ []) (hit_replies p large through T whole cs (round_message i) h)
      ∙ ap (λ (m : Message). plainly (brings_message m) ∷ []) (message-of p large through T whole cs i _ _ _ h refl)
  each-message ends h = ap (λ (x : Answer). claims_in x.answer ++ []) (hit_replies p large through T whole cs ends h)
  each-message (opening_at b) h = ap₂ ◌++◌ (ap (λ (x : Answer). claims_in x.answer) (hit_replies p large through T whole cs (opening_at b) h)) (check_so b h)
  each-message proof h = ap (λ (x : Answer). claims_in x.answer ++ []) (hit_replies p large through T whole cs proof h)
  each-message (done x) h =
      let t = (goes_turn p h.world.state h.made.call h.made.lent h.made.lent h.free h.going.faithful.fits.run.round).0 in
      ap (λ (x : Answer). claims_in x.answer ++ []) (hit_replies p large through T whole cs (done x) h)
      ∙ ap (λ xs. xs ++ []) (subst (AtTurn h.world.state.start.rounds _) h.asked t)

  each-check : (q : Question) (h : H q) → checks T.start.rounds q (reply_of (came_of q h)).values ≡ carried_as (by_check p T cs) (asked q)
  unfolding carried_as
  each-check total h = refl
  each-check (round_message i) h = refl
  each-check ends h = refl
  each-check (opening_at b) h = check_so b h
  each-check proof h = refl
  each-check (done x) h = refl

-- A PROPER RUN'S
module _ (p : ℕ) (large : max_weight < p) (T : Trip) (valid : Valid p T) (full : ℕ → Bool) (cs bs : List ℕ) (idle : Call → ℕ → Lent) (brings : Brings p T full cs bs idle)
    (f g : List ℕ) where
  abbrev begin : World
  begin = fresh_world T.start f g

  abbrev ms : List Made
  ms = proper_run p T full cs bs idle f g

  all_so : (what : Question → Answer → List Posed) (form : Question → List Posed)
      → ((q : Question) (h : Hit p large true T valid.whole.items cs q) → what q (reply_of (came_of p large true T valid.whole.items cs q h)) ≡ carried_as form (asked q))
      → carried_over p T begin ms what ≡ carried_as form (((total ∷ rounds_asked 0 T.start.rounds) ++ (ends ∷ [])) ++ cond (ltb 0 T.start.rounds) (openings_asked bs) [])
  all_so what form one =
      let answered = proper-answered p large T valid full cs bs idle brings f g in
      gathered-so p large true T valid.whole.items cs what form one idle (whole_run T full cs bs) (record { world = begin; count = 0; lent = lending f g [] })
      (fresh-going p large true T valid.whole.items valid.whole.start f g)
      answered (proper-kept p large T valid full cs bs idle brings f g true) (proper-takes p T idle full cs bs f g answered)
      ∙ ap (carried_as form) (whole-asked T full cs bs brings.count)
      ∙ ap (λ m. carried_as form (((total ∷ rounds_asked 0 m) ++ (ends ∷ [])) ++ cond (ltb 0 T.start.rounds) (openings_asked bs) [])) brings.count

  pub messages-list : by_messages p T begin ms ≡ whole_by_messages p T cs bs
  messages-list =
      ap (λ xs. items_of T.items ++ xs)
      (all_so (λ q x. claims_in x.answer ++ checks T.start.rounds q x.values) (by_message p T cs) (each-message p large true T valid.whole.items cs)
      ∙ messages-whole p T cs bs T.start.rounds)

  pub file-list : (file : List ℕ) → file ≡ proof_of_trip p T cs → by_file p T begin ms file ≡ whole_by_file p T cs bs
  file-list file e =
      ap₂ (λ file xs. items_of T.items ++ record { query = query.Proof; shown = record { file = file; values = []; logs = [] } } ∷ xs) e
      (all_so (λ q x. checks T.start.rounds q x.values) (by_check p T cs) (each-check p large true T valid.whole.items cs)
      ∙ checks-whole p T cs bs T.start.rounds)

-- IN ANY MODES a proper run gives the same total, messages, ends and openings, to be carried over
pub any_modes : (p : ℕ) (large : max_weight < p) (T : Trip) (valid : Valid p T) (cs bs : List ℕ) (full full' : ℕ → Bool) (idle idle' : Call → ℕ → Lent)
    → Brings p T full cs bs idle → Brings p T full' cs bs idle' → (f g f' g' : List ℕ)
    → by_messages p T (fresh_world T.start f g) (proper_run p T full cs bs idle f g)
    ≡ by_messages p T (fresh_world T.start f' g') (proper_run p T full' cs bs idle' f' g')
any_modes p large T valid cs bs full full' idle idle' h h' f g f' g' =
    messages-list p large T valid full cs bs idle h f g ∙ sym (messages-list p large T valid full' cs bs idle' h' f' g')
