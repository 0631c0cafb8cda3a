-- DEMAND 3: "a single theorem whose subject is the whole list". To be read top to bottom with Lists, Starts, State, World, Begins, Table,
-- Meaning, Claim, Statement (a run's list), Proper (a run's own list), QueryState (a verifier's list), Given (a verifier's beside a run's), Carried and
-- WholeList (the verifier's own list), Verdict (a verifier's verdicts) and Blocks (lists with blocks of items).
use Rattle.std.specs.Prelude.{ℕ, ◌<◌, ◌≤◌, ◌≡◌, Bool, true, false, List, [], ◌∷◌, ◌++◌, length, take}
use Rattle.std.proofs.Math.Option.{none}
use Rattle.refusal.specs.Outcome.{answered}
use Rattle.wire.specs.Proof.{proof_size}
use Rattle.vector.specs.Vector.{at}
use Rattle.item.specs.declared.Start.{Start}
use Rattle.runs.specs.Trip.{Trip}
use Rattle.calls.specs.declared.Call.{Call}
use Rattle.calls.specs.declared.Call.TheVariants as call
use Rattle.calls.specs.Lists.{after, along, always}
use Rattle.calls.specs.Step.{Lent, is_answered}
use Rattle.calls.specs.State.{State}
use Rattle.calls.specs.World.{Made, World, fresh_world, came, onward}
use Rattle.calls.specs.Table.{table}
use Rattle.calls.specs.Meaning.{question, Kept}
use Rattle.calls.specs.Statement.{Decides, CountsHold, Holds, Right}
use Rattle.calls.specs.Claim.{AllClaimed, amid_rounds}
use Rattle.calls.specs.QueryState.{verifier_table, Posed, Hearing, fresh_hearing, heard, hears_on, DecidesHeard}
use Rattle.calls.specs.Proper.{Valid, in_use, Brings, proper_run}
use Rattle.calls.specs.Given.{reply_of, BringsRun, OpeningsChecked, BatchChecked, agreed, OpensTrip}
use Rattle.calls.specs.Carried.{by_messages, by_file, writes_proof}
use Rattle.calls.specs.WholeList.{whole_by_messages, whole_by_file}
use Rattle.calls.specs.Verdict.{brought_with, Judges, Account, fresh_account, account_on}
use Rattle.calls.specs.Blocks.{Wide, wide_on, WideDecided, expanded, WidePosed, wide_hears, WideDecidedHeard, expanded_heard}
use Rattle.calls.specs.Starts.{Startable, Opens, Whole, batch_rows, Starts}
use Rattle.calls.specs.Begins.{Begin, CanBegin, begun, openings_world, batch_run}
use Rattle.calls.specs.BatchTrip.{batch_trip}

-- the call that returns to small mode
abbrev pub goes_back : Lent → Made
goes_back l = record { call = call.ToSmall; lent = l }

-- ALONG A RUN'S LIST
module _ (p : ℕ) where
  abbrev pub AllAnswered : World → List Made → Type 0
  AllAnswered = along (onward p) (λ w m. is_answered (came p w m).answer ≡ true)

  -- each call is as the table says, and every small pass holds document 01's entries
  abbrev pub AllDecided : World → List Made → Type 0
  AllDecided w ms =
      along (onward p) (λ w m. Decides w.run w.pass m.lent (table p w.state m.call m.lent) (came p w m)) w ms
      × always (onward p) (λ w. CountsHold w.state w.pass) w ms

  -- every answered call is as "Lists of calls" asks
  abbrev pub AllKept : Bool → Trip → World → List Made → Type 0
  AllKept through T =
      along (onward p) (λ w m. is_answered (came p w m).answer ≡ true → Kept p T through w.state m.call m.lent)

  -- each call that the table lets through is right, and so are the stacks and buffers
  abbrev pub AllRight : Bool → Trip → World → List Made → Type 0
  AllRight through T w ms =
      along (onward p) (λ w m. table p w.state m.call m.lent ≡ none → Right p T w.state m.call m.lent (came p w m)) w ms
      × always (onward p) (λ w. Holds p through T w.state w.run w.pass) w ms

  -- the challenges taken are the first of these
  abbrev pub AllTake : List ℕ → World → List Made → Type 0
  AllTake cs = always (onward p) (λ w. (j : ℕ) → j < length w.state.turn.challenges → at w.state.turn.challenges j ≡ at cs j)

  -- answered throughout, and what is asked below
  abbrev pub AllProper : List ℕ → Trip → World → List Made → Type 0
  AllProper cs T w ms = AllAnswered w ms × ((through : Bool) → AllKept through T w ms) × AllTake cs w ms

  -- ALONG A VERIFIER'S LIST, and one beside a run's
  abbrev pub AllDecidedHeard : Hearing → List Posed → Type 0
  AllDecidedHeard = along (hears_on p) (λ h q. DecidesHeard h.verifier (verifier_table p h.state q.query q.shown) (heard p h q))

  abbrev pub AllBringRun : Trip → World → List Made → Hearing → List Posed → Type 0
  AllBringRun T w ms =
      along (hears_on p) (λ h q. is_answered (heard p h q).told ≡ true → BringsRun p T w ms h.state q.query q.shown)

  -- the verifier agrees with what the table lets through, with a check where it is of an opening of the trip
  abbrev pub AllSay : Trip → Hearing → List Posed → Type 0
  AllSay T =
      along (hears_on p) (λ h q. verifier_table p h.state q.query q.shown ≡ none → OpensTrip p T h.state q.query q.shown → (heard p h q).told ≡ answered (agreed q.query))

  -- every call is answered, and the verifier agrees
  abbrev pub AllAgreed : Hearing → List Posed → Type 0
  AllAgreed = along (hears_on p) (λ h q. (heard p h q).told ≡ answered (agreed q.query))

  -- every answered call answers to the equations of what was brought up to and with it, and of what it is lent
  abbrev pub AllJudged : Start → List ℕ → Account → List Posed → Type 0
  AllJudged s cs =
      along (account_on p s.rounds)
      (λ w q. is_answered (heard p w.now q).told ≡ true → Judges p s cs (brought_with p s.rounds w.brought q.query q.shown) q.query q.shown (heard p w.now q).told)

pub record Demand3 (p : ℕ) : Type 0 where
  -- each start is refused exactly by its rows, and otherwise gives the records that the lists below begin with
  pub starts : Starts p
  -- WHATEVER THE LIST: refused exactly when, and with the number that, the table says, and then nothing changes; and every small pass
  -- for a round, the ends or openings holds exactly document 01's entries, level by level
  pub refusals : (s : Start) (b : Begin) → CanBegin s b → (f g : List ℕ) (ms : List Made)
      → AllDecided p (begun s b f g) ms
  -- and the run's claim is the one that the answers make, refused calls and wrong items included, and a field number
  pub claims : (s : Start) (b : Begin) → CanBegin s b → (f g : List ℕ) (ms : List Made)
      → AllClaimed p (begun s b f g) ms
  -- WHERE EVERY PASS GIVES THE TRIP'S ITEMS AND THE BUFFERS ARE KEPT: every answer is what is meant, every stack entry is the fold's item,
  -- every buffer and every proof file is as document 01 says, and from the total to the ends the claim is the scalar product of the current
  -- folds, after every call
  pub answers : (through : Bool) (T : Trip) → Whole T → (b : Begin) → CanBegin T.start b → (f g : List ℕ) (ms : List Made)
      → (let w : World = begun T.start b f g in AllKept p through T w ms → AllRight p through T w ms)
  -- AN ANSWERED RETURN FREES THE BUFFERS up to the next change that is opened
  pub freed : (w : World) (l : Lent) (ms : List Made)
      → (let v : World = onward p w (goes_back l) in
      is_answered (came p w (goes_back l)).answer ≡ true → along (onward p) (λ u m. m.call ≡ call.ToFull → ⊥) v ms
      → always (onward p) (λ u. in_use u.state ≡ false) v ms)
  -- and while they are free nothing is asked of them: what is asked of a call is asked of it whatever it is lent
  pub unbound : (through : Bool) (T : Trip) (a : State) → in_use a ≡ false → (c : Call) (l m : Lent) → table p a c m ≡ none
      → Kept p T through a c l → Kept p T through a c m
  -- A PROPER RUN IS ANSWERED THROUGHOUT, whichever of its steps are made in full mode and whatever the buffers hold while it does not work on
  -- them; it meets what is asked above, and takes the challenges that it is brought
  pub proper : (T : Trip) → Valid p T → (full : ℕ → Bool) (cs bs : List ℕ) (idle : Call → ℕ → Lent) → Brings p T full cs bs idle → (f g : List ℕ)
      → AllProper p cs T (fresh_world T.start f g) (proper_run p T full cs bs idle f g)
  -- A BATCH'S OWN LIST, which begins before step n + 1 in small mode, likewise
  pub proper_batch : (T : Trip) → Valid p T → (full : ℕ → Bool) (cs bs : List ℕ) (idle : Call → ℕ → Lent) → Brings p T full cs bs idle
      → Opens T.start cs → full T.start.rounds ≡ false → (f g : List ℕ)
      → AllProper p cs T (openings_world T.start cs f g) (batch_run p T full cs bs idle f g)
  -- ALIKE: two lists for the same trip, each in any mode and with any number of changes either way; where the same challenges were taken and
  -- the same is asked, the same is answered
  pub alike : (T : Trip) → Whole T → (b b' : Begin) → CanBegin T.start b → CanBegin T.start b' → (th th' : Bool) (f g f' g' : List ℕ)
      (ms ns : List Made) (m n : Made)
      → (let w : World = begun T.start b f g in
      let v : World = begun T.start b' f' g' in
      let x : World = after (onward p) w ms in
      let y : World = after (onward p) v ns in
      AllKept p th T w (ms ++ m ∷ []) → AllKept p th' T v (ns ++ n ∷ [])
      → x.state.turn.challenges ≡ y.state.turn.challenges → question x.state m.call ≡ question y.state n.call
      → is_answered (came p x m).answer ≡ true → is_answered (came p y n).answer ≡ true → reply_of (came p x m) ≡ reply_of (came p y n))
  -- A VERIFIER'S LIST, whatever it is: refused exactly when, and with the number that, the table says, and then nothing changes
  pub verifier_refusals : (s : Start) → Startable s → (cs : List ℕ) (qs : List Posed) → AllDecidedHeard p (fresh_hearing s cs) qs
  -- BESIDE A RUN'S LIST that took the verifier's challenges: where the answered calls bring the trip's items first to last and what the run
  -- gave, every message passes and every verdict is yes
  pub verifier_answers : (through : Bool) (T : Trip) → Whole T → (b : Begin) → CanBegin T.start b → (f g : List ℕ) (ms : List Made)
      → (let w : World = begun T.start b f g in
      AllKept p through T w ms → (cs : List ℕ) → length cs ≡ T.start.rounds → AllTake p cs w ms
      → (qs : List Posed) → AllBringRun p T w ms (fresh_hearing T.start cs) qs → AllSay p T (fresh_hearing T.start cs) qs)
  -- and it holds the claim that the run held at the same place: where the run had taken as many challenges as it has heard messages
  pub claims_alike : (through : Bool) (T : Trip) → Whole T → (b : Begin) → CanBegin T.start b → (f g : List ℕ) (ms ns : List Made)
      → (let w : World = begun T.start b f g in
      let x : World = after (onward p) w ms in
      AllKept p through T w (ms ++ ns) → (cs : List ℕ) → length cs ≡ T.start.rounds → AllTake p cs w (ms ++ ns)
      → (qs : List Posed) → AllBringRun p T w (ms ++ ns) (fresh_hearing T.start cs) qs
      → (let h : Hearing = after (hears_on p) (fresh_hearing T.start cs) qs in
      amid_rounds x.state.turn.next ≡ true → h.state.closed ≡ true → h.state.round ≡ length x.state.turn.challenges
      → h.verifier.claim ≡ x.run.claim))
  -- and "at any time", whatever the verifier was asked before, every check of the run's openings is yes
  pub openings_checked : (through : Bool) (T : Trip) → Whole T → (b : Begin) → CanBegin T.start b → (f g : List ℕ) (ms : List Made)
      → (let w : World = begun T.start b f g in
      AllKept p through T w ms → (cs : List ℕ) → length cs ≡ T.start.rounds → AllTake p cs w ms
      → (qs : List Posed) → OpeningsChecked p T w ms (after (hears_on p) (fresh_hearing T.start cs) qs))
  -- OF A BATCH whose start the table lets through: "at any time" a verifier with its n and its challenges says yes to what its run opened and
  -- to the logs' values
  pub batch_checked : (m : ℕ) (logs : List (List ℕ)) (z : ℕ) (cs : List ℕ) → batch_rows p m logs z cs ≡ none → (through : Bool) (f g : List ℕ)
      (ms : List Made)
      → (let T : Trip = batch_trip p z m logs in
      let w : World = openings_world T.start cs f g in
      AllKept p through T w ms → (s : Start) → Startable s → s.rounds ≡ T.start.rounds → (qs : List Posed)
      → BatchChecked p T w ms z m logs (after (hears_on p) (fresh_hearing s cs) qs))
  -- A PROPER RUN'S VERIFIER has for its own list the L items, the close, n messages, the verdict and a check of each opening, which bring
  -- what the run gave; it answers them throughout and agrees: every message passes, the verdict and every check are yes; and so with the proof
  -- file of a plain run, which the run goes on to write into any file that has room for it: the L items, the file, the checks
  pub verifier_proper : (T : Trip) → Valid p T → (full : ℕ → Bool) (cs bs : List ℕ) (idle : Call → ℕ → Lent) → Brings p T full cs bs idle → (f g : List ℕ)
      → (let w : World = fresh_world T.start f g in
      let ms : List Made = proper_run p T full cs bs idle f g in
      let h : Hearing = fresh_hearing T.start cs in
      (by_messages p T w ms ≡ whole_by_messages p T cs bs)
      × AllAgreed p h (by_messages p T w ms)
      × AllBringRun p T w ms h (by_messages p T w ms)
      × (T.start.plain ≡ true → (m : Lent) → proof_size T.start.rounds ≤ length m.file
      → (let longer : List Made = ms ++ writes_proof m ∷ [] in
      let file : List ℕ = take (proof_size T.start.rounds) (came p (after (onward p) w ms) (writes_proof m)).lent.file in
      AllProper p cs T w longer
      × (by_file p T w ms file ≡ whole_by_file p T cs bs)
      × AllAgreed p h (by_file p T w ms file)
      × AllBringRun p T w longer h (by_file p T w ms file))))
  -- A VERIFIER'S VERDICTS, whatever its list: yes for exactly the messages that meet its equations, else no with the first round that
  -- failed, or n; and yes for exactly the batches whose sum and equations hold, else no at 0, or at the first j that fails
  pub verdicts : (s : Start) → Startable s → (cs : List ℕ) → length cs ≡ s.rounds → (qs : List Posed) → AllJudged p s cs (fresh_account s cs) qs
  -- WITH BLOCKS OF ITEMS AMONG THE CALLS: each is refused exactly when its rows say, or stands for its single items, all of them answered; and the
  -- list ends as the one in which each answered block stands as its single items, of which all the above is said
  pub blocks : (s : Start) (b : Begin) → CanBegin s b → (f g : List ℕ) (xs : List Wide)
      → (let w : World = begun s b f g in
      along (wide_on p) (WideDecided p) w xs × (after (wide_on p) w xs ≡ after (onward p) w (expanded p w xs)))
  pub verifier_blocks : (s : Start) → Startable s → (cs : List ℕ) (xs : List WidePosed)
      → (let h : Hearing = fresh_hearing s cs in
      along (wide_hears p) (WideDecidedHeard p) h xs × (after (wide_hears p) h xs ≡ after (hears_on p) h (expanded_heard p h xs)))
