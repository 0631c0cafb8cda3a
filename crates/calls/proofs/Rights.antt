-- AN ANSWERED CALL of a list that brings the trip's items and keeps the buffers: its answer, its buffers, its file.
use mathlib.Core.Path.{◌≡◌, refl, sym, ap, subst, ◌∙◌}
use mathlib.Core.Bool.{Bool, true, false, cond, not, ◌&&◌, ◌||◌, true≢false}
use mathlib.Core.List.{List, [], ◌∷◌, ◌++◌}
use mathlib.Core.Option.{none}
use Prim.Native.Nat.{ℕ, suc, ◌-◌, ◌^◌, ◌<◌, ◌≤◌}
use native.Mathlib.Omega.{arith}
use lib.Dec.{eqb, leb, ltb}
use lib.ListN.{length, length-append, drop}
use native.Mathlib.Numerals.{add-one}
use borrow.Author.Tests.{leb-true, ltb-true, ltb-false, eqb-true}
use Rattle.refusal.specs.Limit.{max_weight}
use Rattle.refusal.specs.Outcome.{answered}
use Rattle.wire.specs.Proof.{proof_size}
use Rattle.vector.specs.Vector.{Vector, at}
use Rattle.vector.specs.Rounds.{size}
use Rattle.vector.specs.Fold.{fold, fold_with}
use Rattle.vector.specs.Slice.{is_nonzero}
use Rattle.vector.proofs.Rounds.{size-all}
use Rattle.vector.proofs.Padding.{padded-zero}
use Rattle.phase.proofs.Facts.{waits-for}
use Rattle.phase.specs.declared.Mode.{Mode}
use Rattle.phase.specs.declared.Mode.TheVariants.{Small, Full}
use Rattle.phase.specs.declared.Next.{Next}
use Rattle.phase.specs.declared.Next.TheVariants as next
use Rattle.phase.specs.declared.Kind.{Kind}
use Rattle.phase.specs.declared.Kind.TheVariants.{Shut, Asked, Change}
use Rattle.phase.specs.Cases.{waits, is_change, is_full, is_open}
use Rattle.phase.specs.Order.{round_or_ends, round_fits, kind_fits}
use Rattle.prover.specs.declared.Run.{Run}
use Rattle.pass.specs.declared.Pass.{Pass}
use Rattle.prover.specs.Reply as reply
use Rattle.pass.specs.Values.{no_values}
use Rattle.prover.specs.Records.{Out}
use Rattle.prover.specs.Take.{takes}
use Rattle.prover.specs.Full.{message_given, opening_turn}
use Rattle.prover.specs.Challenge.{challenge_turn, challenged_full}
use Rattle.prover.specs.Opening.{opening_given}
use Rattle.item.specs.declared.Given.{Given}
use Rattle.item.specs.Item.{contributes}
use Rattle.runs.specs.Trip.{Trip, trip_item, vector_f, vector_g}
use Rattle.runs.specs.Passes.{pass_after}
use Rattle.runs.specs.Buffers.{Written}
use Rattle.runs.proofs.PassRecord.{takes-answer, takes-values, after-kind}
use Rattle.runs.proofs.ChangeLaws.{asked-leaves}
use Rattle.calls.specs.declared.Call.{Call}
use Rattle.calls.specs.declared.Call.TheVariants as call
use Rattle.calls.specs.Step.{Lent, Result, leaving}
use Rattle.calls.specs.State.{State, in_pass, takes_given, takes_challenge, buffers_in, goes_on}
use Rattle.calls.specs.Table.{openings_next, change_waits, level_now, level, long, taken, completed, both_long, read_rows, table}
use Rattle.calls.specs.Meaning.{meaning, fold_f, fold_g, AsLeft, item_writes, challenge_writes}
use Rattle.calls.specs.Statement.{known, Right}
use Rattle.calls.proofs.Records.{Notes, run_of, pass_of}
use Rattle.calls.proofs.Arrays.{array_at}
use Rattle.calls.proofs.Guards.{challenge_does}
use Rattle.calls.proofs.Steps.{row-passed, close_step, does}
use Rattle.calls.proofs.Fits.{Fits, formed, kind-is}
use Rattle.calls.proofs.Turns.{both}
use Rattle.calls.proofs.ItemRows.{Admitted, item-admitted}
use Rattle.calls.proofs.Agrees.{trip_at, known_in, Agrees}
use Rattle.calls.proofs.KeptCalls.{ItemKept, KeptBy}
use Rattle.calls.proofs.Means.{replied, close-meant, message-meant, ends-meant, opening-meant, lent-full, file-meant}
use Rattle.calls.proofs.Effects.{nothing_written, padded-so, item-so, challenge-so}

-- one call alone writes a file
abbrev is_write : Call → Bool
is_write call.OpenPass = false
is_write (call.OpenAt b) = false
is_write call.ToFull = false
is_write call.ToSmall = false
is_write (call.Give x) = false
is_write call.Close = false
is_write call.Message = false
is_write (call.Challenge c) = false
is_write call.Ends = false
is_write (call.Opening b) = false
is_write call.WriteProof = true

not_write : (c : Call) → is_write c ≡ false → c ≡ call.WriteProof → ⊥
not_write c e h = true≢false (sym (ap is_write h) ∙ e)

-- the current fold after k challenges
pub round_level : (k n : ℕ) → k ≤ n → level_now n k 0 (round_or_ends k n) ≡ k
round_level k n l = by (ltb k n) refl
  where
    by : (b : Bool) → ltb k n ≡ b → level_now n k 0 (cond b next.Message next.Ends) ≡ k
    by true e = refl
    by false e = omega (arith, ltb-false k n e)

module _ (p : ℕ) (large : max_weight < p) (through : Bool) (its : List Given) (a : State) {past : Notes} (h : Fits p a past) (g : Agrees p through its a past)
    (whole : length its ≡ a.start.items) (l : Lent) where
  abbrev T : Trip
  T = trip_at its a

  abbrev R : Run
  R = run_of a past

  abbrev S : Pass
  S = pass_of p a past

  -- a call that writes nothing
  abbrev still : Call → Result → Type 0
  still c o = (o.answer ≡ (meaning p T a c).answer) × (o.values ≡ (meaning p T a c).values)

  both_long_lem : both_long a l ≡ true → (long a ≤ length l.f) × (long a ≤ length l.g)
  both_long_lem e =
      let q = both (leb (long a) (length l.f)) (leb (long a) (length l.g)) e in
      (leb-true _ _ q.0, leb-true _ _ q.1)

  to_full_right : table p a call.ToFull l ≡ none → Right p T a call.ToFull l (does p R S call.ToFull l)
  unfolding table
  to_full_right e =
      let b = both_long_lem (row-passed (both_long a l) 9 none (row-passed (change_waits a.turn.mode a.turn.next a.start.rounds) 10 _ e).1).0 in
      record {
        answer = refl;
        values = refl;
        f = padded-so p its a h (vector_f p T) (padded-zero p a.start.items _) l.f b.0;
        g = padded-so p its a h (vector_g p T) (padded-zero p a.start.items _) l.g b.1;
        proof = λ e. absurd (not_write _ refl e);
        file = λ other. refl;
      }

  -- AN ITEM
  same_fold : (v : Vector) (b : Bool) (c : State) (m : Lent) (i : ℕ) → fold p (at c.turn.challenges) (level c) v i ≡ fold p (at (buffers_in b c m).turn.challenges) (level (buffers_in b c m)) v i
  same_fold v true c m i = refl
  same_fold v false c m i = refl

  refolded : (v w : Vector) (from to : ℕ) (xs ys : List ℕ) → ((i : ℕ) → v i ≡ w i) → Written v from to xs ys → Written w from to xs ys
  refolded v w from to xs ys e r = record { size = r.size; wrote = λ j lo hi. r.wrote j lo hi ∙ e j; below = r.below; above = r.above }

  item-buffers : (x : Given) (k : Kind) → a.pass.kind ≡ k → is_open k ≡ true → length a.pass.items < a.start.items → kind_fits k a.turn.mode a.turn.next ≡ true
      → (not (is_change k) || both_long a l) ≡ true → x ≡ trip_item T (a.start.items - 1 - length a.pass.items)
      → (let o : Out = takes p R (pass_after p R k a.pass.point a.pass.items) (contributes p a.start x) l.f l.g in
      Written (fold_f p T a) (item_writes a k).0 (item_writes a k).1 l.f o.f × Written (fold_g p T a) (item_writes a k).0 (item_writes a k).1 l.g o.g)
  item-buffers x Shut ek op more fit there e = absurd (true≢false (sym op))
  item-buffers x Asked ek op more fit there e =
      let s : Pass = pass_after p R Asked a.pass.point a.pass.items in
      let q = asked-leaves p R s (contributes p a.start x) l.f l.g (ap is_change (after-kind p R Asked a.pass.point a.pass.items)) in (
        subst (Written (fold_f p T a) 0 0 l.f) (sym q.0) (nothing_written (fold_f p T a) l.f),
        subst (Written (fold_g p T a) 0 0 l.g) (sym q.1) (nothing_written (fold_g p T a) l.g),
      )
  item-buffers x Change ek op more fit there e =
      let b = both_long_lem there in
      item-so p its a h g.gives more ek (later a.turn.mode a.turn.next fit) x e l.f l.g b.0 b.1
    where
      later : (m : Mode) (t : Next) → kind_fits Change m t ≡ true → waits next.Total t ≡ false
      later Full t e = absurd (true≢false (sym e))
      later Small next.Total e = absurd (true≢false (sym e))
      later Small next.Message e = refl
      later Small next.Challenge e = refl
      later Small next.Ends e = refl
      later Small next.Openings e = refl

  pub item-written-so : (x : Given) → Admitted p a x l → x ≡ trip_item T (a.start.items - 1 - length a.pass.items)
      → (let o : Out = takes p R S (contributes p a.start x) l.f l.g in
      Written (fold_f p T a) (item_writes a a.pass.kind).0 (item_writes a a.pass.kind).1 l.f o.f
      × Written (fold_g p T a) (item_writes a a.pass.kind).0 (item_writes a a.pass.kind).1 l.g o.g)
  item-written-so x q e =
      item-buffers x a.pass.kind refl q.opened q.more h.pass.kind (row-passed (not (is_change a.pass.kind) || both_long a l) 9 none q.place).0 e

  -- an item's place in the fold of the state that follows
  take_so : (v : Vector) (x : Given) (m : Lent) (xs ys : List ℕ) → (let z : ℕ × ℕ = item_writes a a.pass.kind in
      let b : State = buffers_in (is_change a.pass.kind) (in_pass a a.pass.kind a.pass.point (x ∷ a.pass.items)) m in
      Written (fold p (at a.turn.challenges) (level a) v) z.0 z.1 xs ys → Written (fold p (at b.turn.challenges) (level b) v) z.0 z.1 xs ys)
  take_so v x m xs ys w =
      let z : ℕ × ℕ = item_writes a a.pass.kind in
      let b : State = buffers_in (is_change a.pass.kind) (in_pass a a.pass.kind a.pass.point (x ∷ a.pass.items)) m in
      refolded (fold p (at a.turn.challenges) (level a) v) (fold p (at b.turn.challenges) (level b) v) z.0 z.1 xs ys
      (same_fold v (is_change a.pass.kind) (in_pass a a.pass.kind a.pass.point (x ∷ a.pass.items)) m) w

  -- what a taken item answers and leaves
  item-leaves : (x : Given) → Admitted p a x l → ItemKept p T through a x l
      → (let o : Result = leaving l (takes p R S (contributes p a.start x) l.f l.g) in
      let z : ℕ × ℕ = item_writes a a.pass.kind in
      let b : State = takes_given a x o.lent in
      (o.answer ≡ answered reply.taken) × (o.values ≡ no_values) × Written (fold_f p T b) z.0 z.1 l.f o.lent.f × Written (fold_g p T b) z.0 z.1 l.g o.lent.g)
  item-leaves x q kept =
      let o : Result = leaving l (takes p R S (contributes p a.start x) l.f l.g) in
      let b = item-written-so x q kept.0 in (
        takes-answer p R S (contributes p a.start x) l.f l.g,
        takes-values p R S (contributes p a.start x) l.f l.g,
        take_so (vector_f p T) x o.lent l.f o.lent.f b.0,
        take_so (vector_g p T) x o.lent l.g o.lent.g b.1,
      )

  item-right : (x : Given) → table p a (call.Give x) l ≡ none → ItemKept p T through a x l → Right p T a (call.Give x) l (does p R S (call.Give x) l)
  item-right x e kept =
      let b = item-leaves x (item-admitted p a l x e) kept in
      record { answer = b.0; values = b.1; f = b.2; g = b.3; proof = λ e. absurd (not_write _ refl e); file = λ other. refl }

  -- THE CLOSE
  pub close-replied : table p a call.Close l ≡ none → replied (close_step p R S a.turn.next S.kind) ≡ meaning p T a call.Close
  unfolding table
  close-replied e =
      let q = row-passed (is_open a.pass.kind) 10 _ e in
      let u = row-passed (eqb (length a.pass.items) a.start.items) 8 _ q.1 in
      ap (λ k. replied (close_step p R S a.turn.next k)) (kind-is p a h)
      ∙ close-meant p large through its a h g.gives (eqb-true _ _ u.0) whole a.turn.next a.pass.kind refl refl q.0 h.pass.kind

  close-right : table p a call.Close l ≡ none → Right p T a call.Close l (does p R S call.Close l)
  close-right e =
      let q = close-replied e in
      record {
        answer = ap (λ r. r.answer) q;
        values = ap (λ r. r.values) q;
        f = nothing_written (fold_f p T (goes_on a call.Close l)) l.f;
        g = nothing_written (fold_g p T (goes_on a call.Close l)) l.g;
        proof = λ e. absurd (not_write _ refl e);
        file = λ other. refl;
      }

  -- THE CALLS OF FULL MODE: as left, the buffers hold the current fold
  abbrev HoldsFold : Type 0
  HoldsFold = (j : ℕ) → j < long a → (at l.f j ≡ fold_f p T a j) × (at l.g j ≡ fold_g p T a j)

  full_known : is_full a.turn.mode ≡ true → waits next.Openings a.turn.next ≡ false → known through a ≡ 0
  full_known f w = by a.turn.mode a.pass.kind f w
    where
      by : (m : Mode) (k : Kind) → is_full m ≡ true → waits next.Openings a.turn.next ≡ false
          → known_in (long a) (completed a (taken a)) m k (waits next.Openings a.turn.next) through ≡ 0
      by Small k e w = absurd (true≢false (sym e))
      by Full k e w = rw w

  as_left : is_full a.turn.mode ≡ true → waits next.Openings a.turn.next ≡ false → AsLeft a l → HoldsFold
  as_left f w kept j less =
      let k = full_known f w in
      ((kept j less).0 ∙ g.places_f j (omega arith) less, (kept j less).1 ∙ g.places_g j (omega arith) less)

  message-right : table p a call.Message l ≡ none → AsLeft a l → Right p T a call.Message l (does p R S call.Message l)
  unfolding table message_given
  message-right e kept =
      let r = row-passed (is_full a.turn.mode && waits next.Message a.turn.next) 10 _ e in
      let q = both (is_full a.turn.mode) (waits next.Message a.turn.next) r.0 in
      let et = waits-for next.Message a.turn.next q.1 in
      let m = message-meant p large through its a h l (as_left q.0 (ap (waits next.Openings) et) kept) r.1 e et q.0 in
      record {
        answer = ap (λ r. r.answer) m;
        values = ap (λ r. r.values) m;
        f = nothing_written (fold_f p T (goes_on a call.Message l)) l.f;
        g = nothing_written (fold_g p T (goes_on a call.Message l)) l.g;
        proof = λ e. absurd (not_write _ refl e);
        file = λ other. refl;
      }

  ends-right : table p a call.Ends l ≡ none → AsLeft a l → Right p T a call.Ends l (does p R S call.Ends l)
  unfolding table
  ends-right e kept =
      let r = row-passed (is_full a.turn.mode && waits next.Ends a.turn.next) 10 _ e in
      let q = both (is_full a.turn.mode) (waits next.Ends a.turn.next) r.0 in
      let et = waits-for next.Ends a.turn.next q.1 in
      let m = ends-meant p large through its a h l (as_left q.0 (ap (waits next.Openings) et) kept) r.1 e et q.0 in
      record {
        answer = ap (λ r. r.answer) m;
        values = ap (λ r. r.values) m;
        f = nothing_written (fold_f p T (goes_on a call.Ends l)) l.f;
        g = nothing_written (fold_g p T (goes_on a call.Ends l)) l.g;
        proof = λ e. absurd (not_write _ refl e);
        file = λ other. refl;
      }

  opening-right : (b : ℕ) → table p a (call.Opening b) l ≡ none → KeptBy p T through a (call.Opening b) l → Right p T a (call.Opening b) l (does p R S (call.Opening b) l)
  unfolding table opening_given fold_with
  opening-right b e kept =
      let r = row-passed (is_full a.turn.mode && openings_next a.turn.next a.start.rounds) 10 _ e in
      let q = both (is_full a.turn.mode) (openings_next a.turn.next a.start.rounds) r.0 in
      let w = both (waits next.Openings a.turn.next) (ltb 0 a.start.rounds) q.1 in
      let et = waits-for next.Openings a.turn.next w.0 in
      let v = row-passed (is_nonzero p b) 6 _ r.1 in
      let lv : level a ≡ 0 = ap (level_now a.start.rounds (length a.turn.challenges) 0) et in
      let lg : long a ≡ 2 ^ a.start.rounds = ap (size a.start.rounds) lv ∙ size-all a.start.rounds in
      let holds : HoldsFold = λ j less. ((kept j (omega arith)).0 ∙ ap (λ i. fold p (at a.turn.challenges) i (vector_f p T) j) (sym lv), (kept j (omega arith)).1 ∙ ap (λ i. fold p (at a.turn.challenges) i (vector_g p T) j) (sym lv)) in
      let full : length a.turn.challenges ≡ a.start.rounds = eqb-true _ _ (subst (λ t. round_fits t (length a.turn.challenges) a.start.rounds ≡ true) et h.run.round) in
      let turn : opening_turn p R S ≡ true = rw (formed p a h, q.0, et, w.1) in
      let m = opening-meant p large through its a h l holds v.1 b e turn v.0 (λ j less. array_at 15 a.turn.challenges j (omega arith)) in
      record {
        answer = refl;
        values = ap (λ r. r.values) m;
        f = nothing_written (fold_f p T (goes_on a (call.Opening b) l)) l.f;
        g = nothing_written (fold_g p T (goes_on a (call.Opening b) l)) l.g;
        proof = λ e. absurd (not_write _ refl e);
        file = λ other. refl;
      }

  -- A CHALLENGE leaves the next fold
  pub challenge-level : a.turn.next ≡ next.Challenge → (c : ℕ) → level (takes_challenge a c) ≡ suc (length a.turn.challenges)
  challenge-level et c =
      let k : ℕ = length (a.turn.challenges ++ c ∷ []) in
      let e : k ≡ suc (length a.turn.challenges) = length-append a.turn.challenges (c ∷ []) ∙ add-one (length a.turn.challenges) in
      let less : length a.turn.challenges < a.start.rounds = ltb-true _ _ (subst (λ t. round_fits t (length a.turn.challenges) a.start.rounds ≡ true) et h.run.round) in
      round_level k a.start.rounds (omega arith) ∙ e

  challenge-right : (c : ℕ) → table p a (call.Challenge c) l ≡ none → KeptBy p T through a (call.Challenge c) l → Right p T a (call.Challenge c) l (does p R S (call.Challenge c) l)
  unfolding table challenged_full
  challenge-right c e kept =
      let r = row-passed (waits next.Challenge a.turn.next) 10 _ e in
      let et = waits-for next.Challenge a.turn.next r.0 in
      let v = row-passed (is_nonzero p c) 6 _ r.1 in
      let b = by a.turn.mode refl et v.1 kept in
      record { answer = b.0; values = b.1; f = b.2; g = b.3; proof = λ e. absurd (not_write _ refl e); file = λ other. b.4 }
    where
      by : (m : Mode) → a.turn.mode ≡ m → a.turn.next ≡ next.Challenge → cond (is_full m) (read_rows p a l) none ≡ none → (is_full m ≡ true → AsLeft a l)
          → (let o : Result = leaving l (challenge_does p R S c l m) in
          let z : ℕ × ℕ = challenge_writes a m in
          let b : State = buffers_in (is_full m) (takes_challenge a c) o.lent in
          (o.answer ≡ answered reply.challenged) × (o.values ≡ no_values) × Written (fold_f p T b) z.0 z.1 l.f o.lent.f
          × Written (fold_g p T b) z.0 z.1 l.g o.lent.g × (o.lent.file ≡ l.file))
      by Small em et rows kept = (refl, refl, nothing_written (fold_f p T (takes_challenge a c)) l.f, nothing_written (fold_g p T (takes_challenge a c)) l.g, refl)
      by Full em et rows kept =
          let n : ℕ = a.start.rounds in
          let turn : challenge_turn p R S ≡ true = rw (formed p a h, et) in
          let lent = lent-full p large through its a h l (as_left (ap is_full em) (ap (waits next.Openings) et) (kept refl)) rows in
          let q = challenge-so p its a h l turn et c lent in
          let o : Out = challenged_full p R S c l.f l.g in
          let up : suc (length a.turn.challenges) ≡ level (takes_challenge a c) = sym (challenge-level et c) in (
            refl,
            refl,
            subst (λ i. Written (fold p (at (a.turn.challenges ++ c ∷ [])) i (vector_f p T)) 0 (size n (suc (length a.turn.challenges))) l.f o.f) up q.0,
            subst (λ i. Written (fold p (at (a.turn.challenges ++ c ∷ [])) i (vector_g p T)) 0 (size n (suc (length a.turn.challenges))) l.g o.g) up q.1,
            refl,
          )

  write_right : table p a call.WriteProof l ≡ none → Right p T a call.WriteProof l (does p R S call.WriteProof l)
  unfolding table
  write_right e =
      let q = both a.start.plain (waits next.Openings a.turn.next) (row-passed (a.start.plain && waits next.Openings a.turn.next) 10 _ e).0 in
      record {
        answer = refl;
        values = refl;
        f = nothing_written (fold_f p T a) l.f;
        g = nothing_written (fold_g p T a) l.g;
        proof = λ here. ap (λ f. f ++ drop (proof_size a.start.rounds) l.file) (file-meant p large through its a h g q.0 (waits-for next.Openings a.turn.next q.1));
        file = λ other. absurd (other refl);
      }

  -- EVERY CALL
  pub right : (c : Call) → table p a c l ≡ none → KeptBy p T through a c l → Right p T a c l (does p R S c l)
  right call.OpenPass e kept = record { answer = refl; values = refl; f = nothing_written _ l.f; g = nothing_written _ l.g; proof = λ e. absurd (not_write _ refl e); file = λ other. refl }
  right (call.OpenAt b) e kept = record { answer = refl; values = refl; f = nothing_written _ l.f; g = nothing_written _ l.g; proof = λ e. absurd (not_write _ refl e); file = λ other. refl }
  right call.ToFull e kept = to_full_right e
  right call.ToSmall e kept = record { answer = refl; values = refl; f = nothing_written _ l.f; g = nothing_written _ l.g; proof = λ e. absurd (not_write _ refl e); file = λ other. refl }
  right (call.Give x) e kept = item-right x e kept
  right call.Close e kept = close-right e
  right call.Message e kept = message-right e kept
  right (call.Challenge c) e kept = challenge-right c e kept
  right call.Ends e kept = ends-right e kept
  right (call.Opening b) e kept = opening-right b e kept
  right call.WriteProof e kept = write_right e
