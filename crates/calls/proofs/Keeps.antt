-- WHAT AGREES WITH THE TRIP STAYS SO: after an answered call that brought the trip's item and kept the buffers.
use mathlib.Core.Path.{◌≡◌, refl, sym, ap, ap₂, subst, ◌∙◌}
use mathlib.Core.Bool.{Bool, true, false, cond, not, ◌&&◌, ◌||◌, true≢false}
use mathlib.Core.List.{List, [], ◌∷◌, ◌++◌}
use mathlib.Core.Option.{none}
use Prim.Native.Nat.{ℕ, zero, suc, ◌+◌, ◌-◌, ◌/◌, ◌^◌, ◌<◌, ◌≤◌}
use native.Mathlib.Omega.{arith}
use native.Mathlib.Numerals.{add-one}
use lib.Dec.{ltb}
use lib.IntN.{ℤ}
use lib.ListN.{length, length-append, get_or}
use borrow.Author.Tests.{ltb-true, ltb-false, eqb-true}
use Rattle.refusal.specs.Limit.{max_weight}
use Rattle.field.specs.Integer.{image}
use Rattle.vector.specs.Vector.{Vector, at, dot}
use Rattle.vector.specs.Rounds.{size}
use Rattle.vector.specs.Fold.{fold, end_value}
use Rattle.vector.specs.Message.{next_claim}
use Rattle.vector.proofs.Messages.{message-next, first-claim}
use Rattle.claim.specs.Claim.{message_of3}
use Rattle.phase.specs.declared.Mode.{Mode}
use Rattle.phase.specs.declared.Mode.TheVariants.{Small, Full}
use Rattle.phase.specs.declared.Next.{Next}
use Rattle.phase.specs.declared.Next.TheVariants as next
use Rattle.phase.specs.declared.Kind.{Kind}
use Rattle.phase.specs.declared.Kind.TheVariants.{Shut, Asked, Change}
use Rattle.phase.specs.Cases.{is_change, is_full, is_open, is_small, waits}
use Rattle.phase.specs.Order.{round_or_ends, round_fits, kind_fits}
use Rattle.prover.specs.declared.Run.{Run}
use Rattle.pass.specs.declared.Pass.{Pass}
use Rattle.prover.specs.Records.{Step}
use Rattle.refusal.specs.Outcome.{Outcome, answered}
use Rattle.prover.specs.Reply.{Reply, answer_in}
use Rattle.prover.specs.Reply as reply
use Rattle.item.specs.declared.Given.{Given}
use Rattle.item.specs.declared.Given.TheVariants.{Numbers}
use Rattle.prover.proofs.ReturnLaws.{full_is}
use Rattle.runs.specs.Trip.{Trip, trip_item, vector_f, vector_g, total_of}
use Rattle.runs.specs.Passes.{pass_after, Gives}
use Rattle.runs.specs.Buffers.{Written}
use Rattle.runs.proofs.PassTrip.{gives_all}
use Rattle.calls.specs.declared.Call.TheVariants as call
use Rattle.calls.specs.Step.{Lent, Result}
use Rattle.calls.specs.State.{State, in_pass, goes_to, with_buffers, in_mode, takes_challenge, buffers_in, closed}
use Rattle.calls.specs.Table.{change_waits, level_now, level, long, taken, completed, table}
use Rattle.calls.specs.Claim.{amid_rounds}
use Rattle.calls.specs.Meaning.{meant, round_message, ends, close_asks, message_at, messages_of, messages_to, fold_f, fold_g, AsLeft, item_writes}
use Rattle.calls.specs.Statement.{known}
use Rattle.calls.proofs.Records.{Notes, noted, run_of, pass_of}
use Rattle.calls.proofs.Steps.{row-passed, close_step, does}
use Rattle.calls.proofs.Fits.{given_at, given_round, Fits}
use Rattle.calls.proofs.Turns.{both}
use Rattle.calls.proofs.Agrees.{trip_at, known_in, Agrees, message-before, messages-before, old_challenges, new_challenge, enough}
use Rattle.calls.proofs.AnswerParts.{numbers_in, message_in, total_in, field_total_in}
use Rattle.calls.proofs.Rights.{right, round_level, challenge-level}
use Rattle.calls.proofs.HeardTrip.{claim_of, Fine, total-product}

-- nothing is known of the buffers in small mode outside a change
small_none : (h q : ℕ) (m : Mode) (k : Kind) (o through : Bool) → is_small m ≡ true → is_change k ≡ false → known_in h q m k o through ≡ h
small_none h q Small Shut o through s c = refl
small_none h q Small Asked o through s c = refl
small_none h q Small Change o through s c = absurd (true≢false c)
small_none h q Full k o through s c = absurd (true≢false (sym s))

small_change : (h q : ℕ) (m : Mode) (o through : Bool) → is_small m ≡ true → known_in h q m Change o through ≡ cond (through || not o) (h - q) h
small_change h q Small o through s = refl
small_change h q Full o through s = absurd (true≢false (sym s))

full_some : (h q : ℕ) (k : Kind) (o through : Bool) → known_in h q Full k o through ≡ cond o h 0
full_some h q Shut o through = refl
full_some h q Asked o through = refl
full_some h q Change o through = refl

-- places from a bound on, where a test says so
from-where : {P : ℕ → Type 0} (b : Bool) (h low : ℕ) → (b ≡ true → (j : ℕ) → low ≤ j → j < h → P j) → (j : ℕ) → cond b low h ≤ j → j < h → P j
from-where true h low f j lo hi = f refl j lo hi
from-where false h low f j lo hi = absurd (omega arith)

no_place : (h k j : ℕ) → k ≡ h → k ≤ j → j < h → ⊥
no_place h k j e lo hi = omega arith

small_asked : (m : Mode) (t : Next) → kind_fits Asked m t ≡ true → is_small m ≡ true
small_asked Small t e = refl
small_asked Full t e = absurd (true≢false (sym e))

small_changing : (m : Mode) (t : Next) → kind_fits Change m t ≡ true → is_small m ≡ true
small_changing Small t e = refl
small_changing Full t e = absurd (true≢false (sym e))

no_items-given : (T : Trip) → Gives T []
no_items-given T q h = absurd (omega arith)

-- one item more of the trip
one-given : (T : Trip) (x : Given) (xs : List Given) → length xs < T.start.items → x ≡ trip_item T (T.start.items - 1 - length xs) → Gives T xs → Gives T (x ∷ xs)
one-given T x xs l e gives zero h = e ∙ ap (trip_item T) (let q : T.start.items - 1 - length xs ≡ T.start.items - suc (length xs) + 0 = omega arith in q)
one-given T x xs l e gives (suc q) h =
    gives q (omega arith) ∙ ap (trip_item T) (let r : T.start.items - length xs + q ≡ T.start.items - suc (length xs) + suc q = omega arith in r)

module _ (p : ℕ) (large : max_weight < p) (through : Bool) (its : List Given) (a : State) {past : Notes} (h : Fits p a past) (g : Agrees p through its a past)
    (whole : length its ≡ a.start.items) (l : Lent) where
  abbrev T : Trip
  T = trip_at its a

  -- A PASS IS OPENED
  pub opened-agrees : (b : ℕ) → is_small a.turn.mode ≡ true → Agrees p through its (in_pass a Asked b []) past
  opened-agrees b s =
      let none = small_none (long a) (taken (in_pass a Asked b []) / 2 ^ level a) a.turn.mode Asked (waits next.Openings a.turn.next) through s refl in
      record {
        gives = no_items-given T;
        places_f = λ j lo hi. absurd (no_place (long a) _ j none lo hi);
        places_g = λ j lo hi. absurd (no_place (long a) _ j none lo hi);
        total = g.total;
        messages = g.messages;
        ends = g.ends;
        last = g.last;
        claim = g.claim;
      }

  pub to_full_agrees : table p a call.ToFull l ≡ none → (let o : Result = does p (run_of a past) (pass_of p a past) call.ToFull l in Agrees p through its (with_buffers (in_pass a Change 0 []) o.lent) past)
  unfolding table
  to_full_agrees e =
      let o : Result = does p (run_of a past) (pass_of p a past) call.ToFull l in
      let b : State = with_buffers (in_pass a Change 0 []) o.lent in
      let s = (both (is_small a.turn.mode) _ (row-passed (change_waits a.turn.mode a.turn.next a.start.rounds) 10 _ e).0).0 in
      let r = right p large through its a h g whole l call.ToFull e tt in
      let k = small_change (long a) (taken b / 2 ^ level a) a.turn.mode (waits next.Openings a.turn.next) through s in
      let low : long a - taken b / 2 ^ level a ≡ long a - completed a (2 ^ a.start.rounds - a.start.items) =
      ap (λ t. long a - t / 2 ^ level a) (let q : taken b ≡ 2 ^ a.start.rounds - a.start.items = omega arith in q) in
      record {
        gives = no_items-given T;
        places_f = λ j lo hi. from-where {P = λ j. at b.buffers.f j ≡ fold_f p T b j} (through || not (waits next.Openings a.turn.next)) (long a) (long a - taken b / 2 ^ level a) (λ t j lo hi. r.f.wrote j (omega (arith, low)) hi) j (omega (arith, k)) hi;
        places_g = λ j lo hi. from-where {P = λ j. at b.buffers.g j ≡ fold_g p T b j} (through || not (waits next.Openings a.turn.next)) (long a) (long a - taken b / 2 ^ level a) (λ t j lo hi. r.g.wrote j (omega (arith, low)) hi) j (omega (arith, k)) hi;
        total = g.total;
        messages = g.messages;
        ends = g.ends;
        last = g.last;
        claim = g.claim;
      }

  -- AN ITEM IS TAKEN
  -- places written now, and those kept since they were left
  kept-or_new : (v : Vector) (from to : ℕ) (old lent new : List ℕ) → Written v from to lent new → ((j : ℕ) → j < long a → at lent j ≡ at old j)
      → ((j : ℕ) → to ≤ j → j < long a → at old j ≡ v j) → (j : ℕ) → from ≤ j → j < long a → at new j ≡ v j
  kept-or_new v from to old lent new w left known j lo hi = by (ltb j to) refl
    where
      by : (b : Bool) → ltb j to ≡ b → at new j ≡ v j
      by true e = w.wrote j lo (ltb-true j to e)
      by false e = w.above j (ltb-false j to e) ∙ left j hi ∙ known j (ltb-false j to e) hi

  pub item-agrees : (x : Given) (o : Lent) (k : Kind) → a.pass.kind ≡ k → is_open k ≡ true → length a.pass.items < a.start.items → x ≡ trip_item T (a.start.items - 1 - length a.pass.items)
      → kind_fits k a.turn.mode a.turn.next ≡ true → ((is_change k && (through || not (waits next.Openings a.turn.next))) ≡ true → AsLeft a l)
      → Written (fold_f p T a) (item_writes a k).0 (item_writes a k).1 l.f o.f
      → Written (fold_g p T a) (item_writes a k).0 (item_writes a k).1 l.g o.g
      → Agrees p through its (buffers_in (is_change k) (in_pass a k a.pass.point (x ∷ a.pass.items)) o) past
  item-agrees x o Shut ek op more e fit kept wf wg = absurd (true≢false (sym op))
  item-agrees x o Asked ek op more e fit kept wf wg =
      let b : State = in_pass a Asked a.pass.point (x ∷ a.pass.items) in
      let none = small_none (long a) (taken b / 2 ^ level a) a.turn.mode Asked (waits next.Openings a.turn.next) through (small_asked a.turn.mode a.turn.next fit) refl in
      record {
        gives = one-given T x a.pass.items more e g.gives;
        places_f = λ j lo hi. absurd (no_place (long a) _ j none lo hi);
        places_g = λ j lo hi. absurd (no_place (long a) _ j none lo hi);
        total = g.total;
        messages = g.messages;
        ends = g.ends;
        last = g.last;
        claim = g.claim;
      }
  item-agrees x o Change ek op more e fit kept wf wg =
      let b : State = with_buffers (in_pass a Change a.pass.point (x ∷ a.pass.items)) o in
      let s = small_changing a.turn.mode a.turn.next fit in
      let test : Bool = through || not (waits next.Openings a.turn.next) in
      let k = small_change (long a) (taken b / 2 ^ level a) a.turn.mode (waits next.Openings a.turn.next) through s in
      let was : known through a ≡ cond test (long a - taken a / 2 ^ level a) (long a) =
      ap (λ c. known_in (long a) (taken a / 2 ^ level a) a.turn.mode c (waits next.Openings a.turn.next) through) ek
      ∙ small_change (long a) (taken a / 2 ^ level a) a.turn.mode (waits next.Openings a.turn.next) through s in
      let low : long a - taken b / 2 ^ level a ≡ long a - completed a (suc (taken a)) =
      ap (λ t. long a - t / 2 ^ level a) (let q : taken b ≡ suc (taken a) = omega arith in q) in
      record {
        gives = one-given T x a.pass.items more e g.gives;
        places_f = λ j lo hi. from-where {P = λ j. at b.buffers.f j ≡ fold_f p T b j} test (long a) (long a - taken b / 2 ^ level a)
            (λ t j lo hi. kept-or_new (fold_f p T a) _ _ a.buffers.f l.f o.f wf (λ j hi. (kept t j hi).0)
            (λ j lo hi. g.places_f j (omega (arith, was ∙ ap (λ b. cond b (long a - taken a / 2 ^ level a) (long a)) t)) hi) j (omega (arith, low)) hi) j (omega (arith, k)) hi;
        places_g = λ j lo hi. from-where {P = λ j. at b.buffers.g j ≡ fold_g p T b j} test (long a) (long a - taken b / 2 ^ level a)
            (λ t j lo hi. kept-or_new (fold_g p T a) _ _ a.buffers.g l.g o.g wg (λ j hi. (kept t j hi).1)
            (λ j lo hi. g.places_g j (omega (arith, was ∙ ap (λ b. cond b (long a - taken a / 2 ^ level a) (long a)) t)) hi) j (omega (arith, low)) hi) j (omega (arith, k)) hi;
        total = g.total;
        messages = g.messages;
        ends = g.ends;
        last = g.last;
        claim = g.claim;
      }

  -- A PASS IS CLOSED
  abbrev R : Run
  R = run_of a past

  -- in small mode, no pass open
  still-none : (b : State) → b.turn.mode ≡ a.turn.mode → b.pass.kind ≡ Shut → is_small a.turn.mode ≡ true → known through b ≡ long b
  still-none b em ek s =
      ap₂ (λ m k. known_in (long b) (taken b / 2 ^ level b) m k (waits next.Openings b.turn.next) through) em ek
      ∙ small_none (long b) (taken b / 2 ^ level b) a.turn.mode Shut (waits next.Openings b.turn.next) through s refl

  -- the total is the claim: the scalar product of the vectors
  total-product-so : length a.pass.items ≡ a.start.items → a.start.plain ≡ true → image p (total_of T) ≡ dot p (2 ^ a.start.rounds) (vector_f p T) (vector_g p T)
  total-product-so all plain =
      let same : a.pass.items ≡ its = gives_all T a.pass.items g.gives all whole in
      total-product p large T (enough p its a h)
      (λ i l. subst (λ (xs : List Given). Fine p a.start.plain (get_or xs i (Numbers 0 0))) same (h.pass.own i (omega arith))) plain whole

  total-agrees : (plain : Bool) → a.start.plain ≡ plain → a.turn.next ≡ next.Total → is_small a.turn.mode ≡ true → (z : ℤ) (d : ℕ) → (plain ≡ true → z ≡ total_of T)
      → cond plain (image p z) d ≡ dot p (2 ^ a.start.rounds) (vector_f p T) (vector_g p T)
      → Agrees p through its (goes_to a (round_or_ends 0 a.start.rounds)) (noted p call.Close past (cond plain (answered (reply.total z)) (answered (reply.field_total d))))
  total-agrees plain ep et s z d e claims =
      let n : ℕ = a.start.rounds in
      let cs : List ℕ = a.turn.challenges in
      let none_yet : length cs ≡ 0 = eqb-true _ _ (subst (λ t. round_fits t (length cs) n ≡ true) et h.run.round) in
      let q = given_round 0 n in
      let messages : a.start.plain ≡ true → past.messages ≡ messages_to p T cs (given_at (length cs) (round_or_ends 0 n)) =
      λ plain. g.messages plain ∙ ap (λ t. messages_to p T cs (given_at (length cs) t)) et
      ∙ ap (messages_to p T cs) (sym q.0 ∙ ap (λ i. given_at i (round_or_ends 0 n)) (sym none_yet)) in
      let first : dot p (2 ^ n) (vector_f p T) (vector_g p T) ≡ claim_of p T cs (level_now n (length cs) 0 (round_or_ends 0 n)) =
      sym (first-claim p n (at cs) (vector_f p T) (vector_g p T))
      ∙ ap (claim_of p T cs) (sym (ap (λ k. level_now n k 0 (round_or_ends 0 n)) none_yet ∙ round_level 0 n (omega arith))) in
      by plain ep e messages q.1 q.2 (claims ∙ first)
    where
      b : State
      b = goes_to a (round_or_ends 0 a.start.rounds)

      none : known through b ≡ long b
      none = still-none b refl refl s

      by : (plain : Bool) → a.start.plain ≡ plain → (plain ≡ true → z ≡ total_of T)
          → (a.start.plain ≡ true → past.messages ≡ messages_to p T a.turn.challenges (given_at (length a.turn.challenges) (round_or_ends 0 a.start.rounds)))
          → waits next.Openings (round_or_ends 0 a.start.rounds) ≡ false → waits next.Challenge (round_or_ends 0 a.start.rounds) ≡ false
          → cond plain (image p z) d ≡ claim_of p T a.turn.challenges (level b)
          → Agrees p through its b (noted p call.Close past (cond plain (answered (reply.total z)) (answered (reply.field_total d))))
      by true ep e messages later soon claims =
          record {
            gives = no_items-given T;
            places_f = λ j lo hi. absurd (no_place (long b) _ j none lo hi);
            places_g = λ j lo hi. absurd (no_place (long b) _ j none lo hi);
            total = λ _ _. e refl;
            messages = messages;
            ends = λ _ w. absurd (true≢false (sym w ∙ later));
            last = λ w. absurd (true≢false (sym w ∙ soon));
            claim = λ w. claims;
          }
      by false ep e messages later soon claims =
          record {
            gives = no_items-given T;
            places_f = λ j lo hi. absurd (no_place (long b) _ j none lo hi);
            places_g = λ j lo hi. absurd (no_place (long b) _ j none lo hi);
            total = λ w _. absurd (true≢false (sym w ∙ ep));
            messages = messages;
            ends = λ _ w. absurd (true≢false (sym w ∙ later));
            last = λ w. absurd (true≢false (sym w ∙ soon));
            claim = λ w. claims;
          }

  -- a message was given: in small mode with the close, in full mode by its own call
  message-kept : a.start.plain ≡ true → a.turn.next ≡ next.Message → (even cross odd : ℕ) → answered (reply.message even cross odd) ≡ (meant p T a.turn.challenges (round_message (length a.turn.challenges))).answer
      → past.messages ++ even ∷ cross ∷ odd ∷ [] ≡ messages_to p T a.turn.challenges (suc (length a.turn.challenges))
  unfolding messages_of
  message-kept plain et even cross odd e =
      ap₂ ◌++◌ (g.messages plain ∙ ap (λ t. messages_to p T a.turn.challenges (given_at (length a.turn.challenges) t)) et) (ap numbers_in e)

  message-meant : (even cross odd : ℕ) → answered (reply.message even cross odd) ≡ (meant p T a.turn.challenges (round_message (length a.turn.challenges))).answer
      → message_of3 even cross odd ≡ message_at p T a.turn.challenges (length a.turn.challenges)
  message-meant even cross odd e = ap message_in e

  -- it leaves the claim, and the current folds are the same
  message-claim : a.turn.next ≡ next.Message → past.running.claim ≡ claim_of p T a.turn.challenges (length a.turn.challenges)
  message-claim et =
      g.claim (ap amid_rounds et) ∙ ap (λ t. claim_of p T a.turn.challenges (level_now a.start.rounds (length a.turn.challenges) 0 t)) et

  small_message : a.turn.next ≡ next.Message → is_small a.turn.mode ≡ true → (even cross odd : ℕ) → answered (reply.message even cross odd) ≡ (meant p T a.turn.challenges (round_message (length a.turn.challenges))).answer
      → Agrees p through its (goes_to a next.Challenge) (noted p call.Close past (answered (reply.message even cross odd)))
  small_message et s even cross odd e =
      let b : State = goes_to a next.Challenge in
      let none = still-none b refl refl s in
      record {
        gives = no_items-given T;
        places_f = λ j lo hi. absurd (no_place (long b) _ j none lo hi);
        places_g = λ j lo hi. absurd (no_place (long b) _ j none lo hi);
        total = λ plain _. g.total plain (ap (waits next.Total) et);
        messages = λ plain. message-kept plain et even cross odd e;
        ends = λ _ w. absurd (true≢false (sym w));
        last = λ _. message-meant even cross odd e;
        claim = λ _. message-claim et;
      }

  -- the ends were given
  ends-kept : (x y : ℕ) → answered (reply.ends x y) ≡ (meant p T a.turn.challenges ends).answer
      → (x ≡ end_value p (at a.turn.challenges) a.start.rounds (vector_f p T)) × (y ≡ end_value p (at a.turn.challenges) a.start.rounds (vector_g p T))
  ends-kept x y e = (ap (λ z. at (numbers_in z) 0) e, ap (λ z. at (numbers_in z) 1) e)

  small_ends : a.turn.next ≡ next.Ends → is_small a.turn.mode ≡ true → (x y : ℕ) → answered (reply.ends x y) ≡ (meant p T a.turn.challenges ends).answer
      → Agrees p through its (goes_to a next.Openings) (noted p call.Close past (answered (reply.ends x y)))
  small_ends et s x y e =
      let b : State = goes_to a next.Openings in
      let none = still-none b refl refl s in
      record {
        gives = no_items-given T;
        places_f = λ j lo hi. absurd (no_place (long b) _ j none lo hi);
        places_g = λ j lo hi. absurd (no_place (long b) _ j none lo hi);
        total = λ plain _. g.total plain (ap (waits next.Total) et);
        messages = λ plain. g.messages plain ∙ ap (λ t. messages_to p T a.turn.challenges (given_at (length a.turn.challenges) t)) et;
        ends = λ _ w. ends-kept x y e;
        last = λ w. absurd (true≢false (sym w));
        claim = λ w. absurd (true≢false (sym w));
      }

  small_openings : a.turn.next ≡ next.Openings → is_small a.turn.mode ≡ true → Agrees p through its (goes_to a next.Openings) past
  small_openings et s =
      let b : State = goes_to a next.Openings in
      let none = still-none b refl refl s in
      record {
        gives = no_items-given T;
        places_f = λ j lo hi. absurd (no_place (long b) _ j none lo hi);
        places_g = λ j lo hi. absurd (no_place (long b) _ j none lo hi);
        total = λ plain _. g.total plain (ap (waits next.Total) et);
        messages = λ plain. g.messages plain ∙ ap (λ t. messages_to p T a.turn.challenges (given_at (length a.turn.challenges) t)) et;
        ends = λ plain w. g.ends plain (ap (waits next.Openings) et);
        last = λ w. absurd (true≢false (sym w));
        claim = λ w. absurd (true≢false (sym w));
      }

  -- the change is done: every place is known
  changed : a.pass.kind ≡ Change → kind_fits Change a.turn.mode a.turn.next ≡ true → length a.pass.items ≡ a.start.items → Agrees p through its (in_mode a Full) past
  changed ek fit all =
      let b : State = in_mode a Full in
      let test : Bool = through || not (waits next.Openings a.turn.next) in
      let s = small_changing a.turn.mode a.turn.next fit in
      let t : taken a ≡ 2 ^ a.start.rounds = omega (arith, enough p its a h) in
      let was : known through a ≡ cond test (long a - taken a / 2 ^ level a) (long a) =
      ap (λ c. known_in (long a) (taken a / 2 ^ level a) a.turn.mode c (waits next.Openings a.turn.next) through) ek
      ∙ small_change (long a) (taken a / 2 ^ level a) a.turn.mode (waits next.Openings a.turn.next) through s in
      let none_left : long a - taken a / 2 ^ level a ≡ 0 = ap (λ t. long a - t / 2 ^ level a) t ∙ (let z : long a - long a ≡ 0 = omega arith in z) in
      let low : waits next.Openings a.turn.next ≡ false → known through a ≡ 0 = λ w. was ∙ by through (waits next.Openings a.turn.next) w ∙ none_left in
      record {
        gives = no_items-given T;
        places_f = λ j lo hi. openings (waits next.Openings a.turn.next) refl (λ w. g.places_f j (omega (arith, low w)) hi) j lo hi;
        places_g = λ j lo hi. openings (waits next.Openings a.turn.next) refl (λ w. g.places_g j (omega (arith, low w)) hi) j lo hi;
        total = g.total;
        messages = g.messages;
        ends = g.ends;
        last = g.last;
        claim = g.claim;
      }
    where
      by : (th o : Bool) → o ≡ false → cond (th || not o) (long a - taken a / 2 ^ level a) (long a) ≡ long a - taken a / 2 ^ level a
      by true o e = refl
      by false true e = absurd (true≢false e)
      by false false e = refl

      openings : {A : Type 0} (o : Bool) → waits next.Openings a.turn.next ≡ o → (waits next.Openings a.turn.next ≡ false → A) → (j : ℕ) → cond o (long a) 0 ≤ j → j < long a → A
      openings true e f j lo hi = absurd (omega arith)
      openings false e f j lo hi = f e

  total-answer : (plain : Bool) (z : ℤ) (d : ℕ) (x : Reply) → cond plain (answered (reply.total z)) (answered (reply.field_total d)) ≡ answered (cond plain (reply.total (total_of T)) x) → plain ≡ true → z ≡ total_of T
  total-answer true z d x e w = ap total_in e
  total-answer false z d x e w = absurd (true≢false (sym w))

  claim-answer : (plain : Bool) (z : ℤ) (d : ℕ) → (plain ≡ true → image p (total_of T) ≡ dot p (2 ^ a.start.rounds) (vector_f p T) (vector_g p T))
      → cond plain (answered (reply.total z)) (answered (reply.field_total d)) ≡ answered (cond plain (reply.total (total_of T)) (reply.field_total (dot p (2 ^ a.start.rounds) (vector_f p T) (vector_g p T))))
      → cond plain (image p z) d ≡ dot p (2 ^ a.start.rounds) (vector_f p T) (vector_g p T)
  claim-answer true z d product e = ap (image p) (ap total_in e) ∙ product refl
  claim-answer false z d product e = ap field_total_in e

  -- the answer of a close for the total
  step-answer : (plain : Bool) (s t : Step) (x y : Outcome Reply) → answer_in s.answer ≡ x → answer_in t.answer ≡ y → answer_in (cond plain s t).answer ≡ cond plain x y
  step-answer true s t x y e f = e
  step-answer false s t x y e f = f

  pub close-agrees : (t : Next) (k : Kind) → a.turn.next ≡ t → a.pass.kind ≡ k → is_open k ≡ true → kind_fits k a.turn.mode t ≡ true → length a.pass.items ≡ a.start.items
      → (let st : Step = close_step p R (pass_after p R k a.pass.point a.pass.items) t k in
      answer_in st.answer ≡ (meant p T a.turn.challenges (close_asks a t k)).answer → Agrees p through its (closed a t k) (noted p call.Close past (answer_in st.answer)))
  close-agrees t Shut et ek op fit all e = absurd (true≢false (sym op))
  close-agrees next.Total Asked et ek op fit all e =
      let s : Pass = pass_after p R Asked a.pass.point a.pass.items in
      let same = step-answer a.start.plain _ _ (answered (reply.total s.total)) (answered (reply.field_total s.dot)) refl refl in
      subst (λ x. Agrees p through its (goes_to a (round_or_ends 0 a.start.rounds)) (noted p call.Close past x)) (sym same)
      (total-agrees a.start.plain refl et (small_asked a.turn.mode next.Total fit) s.total s.dot (total-answer a.start.plain s.total s.dot _ (sym same ∙ e))
      (claim-answer a.start.plain s.total s.dot (total-product-so all) (sym same ∙ e)))
  close-agrees next.Message Asked et ek op fit all e = small_message et (small_asked a.turn.mode next.Message fit) _ _ _ e
  close-agrees next.Challenge Asked et ek op fit all e = absurd (no-pass a.turn.mode fit)
    where
      no-pass : (m : Mode) → kind_fits Asked m next.Challenge ≡ true → ⊥
      no-pass Small e = true≢false (sym e)
      no-pass Full e = true≢false (sym e)
  close-agrees next.Ends Asked et ek op fit all e = small_ends et (small_asked a.turn.mode next.Ends fit) _ _ e
  close-agrees next.Openings Asked et ek op fit all e = small_openings et (small_asked a.turn.mode next.Openings fit)
  close-agrees t Change et ek op fit all e = changed ek (subst (λ t. kind_fits Change a.turn.mode t ≡ true) (sym et) fit) all

  -- IN FULL MODE
  full_places : (b : State) → b.turn.mode ≡ a.turn.mode → is_full a.turn.mode ≡ true → waits next.Openings b.turn.next ≡ false → known through b ≡ 0
  full_places b em f w =
      ap (λ m. known_in (long b) (taken b / 2 ^ level b) m b.pass.kind (waits next.Openings b.turn.next) through) (em ∙ full_is a.turn.mode f)
      ∙ full_some (long b) (taken b / 2 ^ level b) b.pass.kind (waits next.Openings b.turn.next) through
      ∙ ap (λ o. cond o (long b) 0) w

  full_none : (b : State) → b.turn.mode ≡ a.turn.mode → is_full a.turn.mode ≡ true → waits next.Openings b.turn.next ≡ true → known through b ≡ long b
  full_none b em f w =
      ap (λ m. known_in (long b) (taken b / 2 ^ level b) m b.pass.kind (waits next.Openings b.turn.next) through) (em ∙ full_is a.turn.mode f)
      ∙ full_some (long b) (taken b / 2 ^ level b) b.pass.kind (waits next.Openings b.turn.next) through
      ∙ ap (λ o. cond o (long b) 0) w

  -- back in small mode no place is known
  pub returned_agrees : Agrees p through its (in_mode a Small) past
  returned_agrees =
      let b : State = in_mode a Small in
      let none = small_none (long b) (taken b / 2 ^ level b) Small Shut (waits next.Openings b.turn.next) through refl refl in
      record {
        gives = no_items-given T;
        places_f = λ j lo hi. absurd (no_place (long b) _ j none lo hi);
        places_g = λ j lo hi. absurd (no_place (long b) _ j none lo hi);
        total = g.total;
        messages = g.messages;
        ends = g.ends;
        last = g.last;
        claim = g.claim;
      }

  pub full_message : a.turn.next ≡ next.Message → is_full a.turn.mode ≡ true → AsLeft a l → (even cross odd : ℕ)
      → answered (reply.message even cross odd) ≡ (meant p T a.turn.challenges (round_message (length a.turn.challenges))).answer
      → Agrees p through its (with_buffers (goes_to a next.Challenge) l) (noted p call.Message past (answered (reply.message even cross odd)))
  full_message et f kept even cross odd e =
      let k = full_places a refl f (ap (waits next.Openings) et) in
      let lv : level_now a.start.rounds (length a.turn.challenges) 0 a.turn.next ≡ length a.turn.challenges = ap (level_now a.start.rounds (length a.turn.challenges) 0) et in
      record {
        gives = no_items-given T;
        places_f = λ j lo hi. subst (λ i. j < size a.start.rounds i → at l.f j ≡ fold p (at a.turn.challenges) i (vector_f p T) j) lv (λ hi. (kept j hi).0 ∙ g.places_f j (omega arith) hi) hi;
        places_g = λ j lo hi. subst (λ i. j < size a.start.rounds i → at l.g j ≡ fold p (at a.turn.challenges) i (vector_g p T) j) lv (λ hi. (kept j hi).1 ∙ g.places_g j (omega arith) hi) hi;
        total = λ plain _. g.total plain (ap (waits next.Total) et);
        messages = λ plain. message-kept plain et even cross odd e;
        ends = λ _ w. absurd (true≢false (sym w));
        last = λ _. message-meant even cross odd e;
        claim = λ _. message-claim et;
      }

  pub full_ends : a.turn.next ≡ next.Ends → is_full a.turn.mode ≡ true → (x y : ℕ) → answered (reply.ends x y) ≡ (meant p T a.turn.challenges ends).answer
      → Agrees p through its (with_buffers (goes_to a next.Openings) l) (noted p call.Ends past (answered (reply.ends x y)))
  full_ends et f x y e =
      let b : State = with_buffers (goes_to a next.Openings) l in
      let none = full_none b refl f refl in
      record {
        gives = no_items-given T;
        places_f = λ j lo hi. absurd (no_place (long b) _ j none lo hi);
        places_g = λ j lo hi. absurd (no_place (long b) _ j none lo hi);
        total = λ plain _. g.total plain (ap (waits next.Total) et);
        messages = λ plain. g.messages plain ∙ ap (λ t. messages_to p T a.turn.challenges (given_at (length a.turn.challenges) t)) et;
        ends = λ _ w. ends-kept x y e;
        last = λ w. absurd (true≢false (sym w));
        claim = λ w. absurd (true≢false (sym w));
      }

  -- A CHALLENGE
  challenge-messages : a.start.plain ≡ true → a.turn.next ≡ next.Challenge → (c : ℕ)
      → past.messages ≡ messages_to p T (a.turn.challenges ++ c ∷ []) (given_at (length (a.turn.challenges ++ c ∷ [])) (takes_challenge a c).turn.next)
  challenge-messages plain et c =
      let i : ℕ = length a.turn.challenges in
      let ds : List ℕ = a.turn.challenges ++ c ∷ [] in
      let up : length ds ≡ suc i = length-append a.turn.challenges (c ∷ []) ∙ add-one i in
      g.messages plain ∙ ap (λ t. messages_to p T a.turn.challenges (given_at i t)) et
      ∙ messages-before p T a.turn.challenges ds i (λ j less. sym (old_challenges a.turn.challenges c j less))
      ∙ ap (messages_to p T ds) (sym up ∙ sym (given_round (length ds) a.start.rounds).0)

  -- the message at its challenge is the scalar product of the next folds
  challenge-claim : a.turn.next ≡ next.Challenge → (c : ℕ) → next_claim p past.running.message c ≡ claim_of p T (a.turn.challenges ++ c ∷ []) (level (takes_challenge a c))
  challenge-claim et c =
      let cs : List ℕ = a.turn.challenges in
      let i : ℕ = length cs in
      let ds : List ℕ = cs ++ c ∷ [] in
      let same = g.last (ap (waits next.Challenge) et) ∙ message-before p T cs ds i (λ j less. sym (old_challenges cs c j less)) in
      ap₂ (next_claim p) same (sym (new_challenge cs c))
      ∙ message-next p a.start.rounds (at ds) (vector_f p T) (vector_g p T) i
      ∙ ap (claim_of p T ds) (sym (challenge-level p large through its a h g whole l et c))

  pub challenge-agrees : (c : ℕ) (o : Lent) (m : Mode) → a.turn.mode ≡ m → a.turn.next ≡ next.Challenge
      → (is_full m ≡ true → Written (fold_f p T (takes_challenge a c)) 0 (size a.start.rounds (suc (length a.turn.challenges))) l.f o.f
      × Written (fold_g p T (takes_challenge a c)) 0 (size a.start.rounds (suc (length a.turn.challenges))) l.g o.g)
      → Agrees p through its (buffers_in (is_full m) (takes_challenge a c) o) (noted p (call.Challenge c) past (answered reply.challenged))
  challenge-agrees c o Small em et w =
      let b : State = takes_challenge a c in
      let none = still-none b refl refl (ap is_small em) in
      record {
        gives = no_items-given T;
        places_f = λ j lo hi. absurd (no_place (long b) _ j none lo hi);
        places_g = λ j lo hi. absurd (no_place (long b) _ j none lo hi);
        total = λ plain _. g.total plain (ap (waits next.Total) et);
        messages = λ plain. challenge-messages plain et c;
        ends = λ _ z. absurd (true≢false (sym z ∙ (given_round (length (a.turn.challenges ++ c ∷ [])) a.start.rounds).1));
        last = λ z. absurd (true≢false (sym z ∙ (given_round (length (a.turn.challenges ++ c ∷ [])) a.start.rounds).2));
        claim = λ _. challenge-claim et c;
      }
  challenge-agrees c o Full em et w =
      let b : State = takes_challenge a c in
      let up : level b ≡ suc (length a.turn.challenges) = challenge-level p large through its a h g whole l et c in
      let sizes : long b ≡ size a.start.rounds (suc (length a.turn.challenges)) = ap (size a.start.rounds) up in
      record {
        gives = no_items-given T;
        places_f = λ j lo hi. (w refl).0.wrote j (omega arith) (omega (arith, sizes));
        places_g = λ j lo hi. (w refl).1.wrote j (omega arith) (omega (arith, sizes));
        total = λ plain _. g.total plain (ap (waits next.Total) et);
        messages = λ plain. challenge-messages plain et c;
        ends = λ _ z. absurd (true≢false (sym z ∙ (given_round (length (a.turn.challenges ++ c ∷ [])) a.start.rounds).1));
        last = λ z. absurd (true≢false (sym z ∙ (given_round (length (a.turn.challenges ++ c ∷ [])) a.start.rounds).2));
        claim = λ _. challenge-claim et c;
      }
