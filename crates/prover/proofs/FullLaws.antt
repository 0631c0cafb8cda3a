-- FULL MODE over lent buffers that hold the current fold of two vectors: each answer is the vectors', and a challenge leaves the next fold.
use mathlib.Core.Path.{◌≡◌, refl, ap, ap₂, ◌∙◌}
use mathlib.Core.Bool.{Bool, true, false, cond}
use mathlib.Core.List.{List}
use Prim.Native.Nat.{ℕ, suc, ◌+◌, ◌*◌, ◌/◌, ◌≤◌, ◌<◌}
use native.Mathlib.Numerals.{add-one}
use native.Mathlib.Omega.{arith}
use borrow.Author.Tests.{le-leb, ltb-false, lt-ltb, eq-eqb}
use lib.Dec.{ltb}
use lib.ListN.{length}
use Rattle.refusal.specs.Number as number
use Rattle.refusal.specs.Outcome.{Outcome, answered, require, and_then}
use Rattle.vector.specs.Rounds.{size}
use Rattle.vector.specs.Vector.{Vector, at}
use Rattle.vector.specs.Fold.{fold, end_value}
use Rattle.vector.specs.Message.{Message, message}
use Rattle.vector.specs.Slice.{message_slice, is_nonzero}
use Rattle.vector.proofs.Overwrite.{fold-length, fold-kept}
use Rattle.vector.proofs.Agreement.{Holds, fold-holds, message-holds}
use Rattle.phase.specs.declared.Mode.TheVariants.{Full}
use Rattle.phase.specs.declared.Next.TheVariants as next
use Rattle.phase.specs.declared.Kind.TheVariants.{Shut}
use Rattle.phase.specs.Cases.{is_full}
use Rattle.phase.specs.Level.{level_at}
use Rattle.phase.specs.Order.{round_or_ends, round_fits}
use Rattle.phase.proofs.Facts.{full_kind, challenge_kind}
use Rattle.prover.specs.declared.Run.{Run}
use Rattle.pass.specs.declared.Pass.{Pass}
use Rattle.prover.specs.declared.Reply.TheVariants as answer
use Rattle.prover.specs.Records.{Out, out, answered_step}
use Rattle.prover.specs.Level.{level_of, fold_size}
use Rattle.prover.specs.WellFormed.{well_formed}
use Rattle.prover.specs.Calls.{both_long}
use Rattle.prover.specs.Full.{message_turn, ends_turn, opening_turn, both_reduced, lent_folds, kept_message, message_given, message_call, kept_ends, ends_call}
use Rattle.prover.specs.Challenge.{challenge_turn, kept_challenge, challenged_full, challenged, challenge_call}
use Rattle.pass.proofs.Facts.{size_32}
use Rattle.prover.proofs.Facts.{holds}
use Rattle.prover.proofs.FullFacts.{full_formed, tested, message-round, challenge-round, at-ends}

-- the buffers hold the current fold of f and of g, under the challenges c
pub record Lent (p : ℕ) (c : ℕ → ℕ) (f g : Vector) (r : Run) (fs gs : List ℕ) : Type 0 where
  pub first : Holds fs (fold_size r) (fold p c (level_of r Shut) f)
  pub second : Holds gs (fold_size r) (fold p c (level_of r Shut) g)

pub passed-row : {A : Type 0} (b : Bool) (k : ℕ) (rest : Outcome A) → b ≡ true → require b k rest ≡ rest
passed-row b k rest e = ap (λ t. require t k rest) e

pub lent_rows : (p : ℕ) (r : Run) (fs gs : List ℕ) (rest : Outcome Out) → both_long r (length fs) (length gs) ≡ true → both_reduced p r fs gs ≡ true
    → lent_folds p r fs gs rest ≡ rest
lent_rows p r fs gs rest l e =
    ap (λ o. and_then o (λ x. rest))
    (passed-row {A = Unit {0}} (both_long r (length fs) (length gs)) number.buffer _ l
    ∙ passed-row {A = Unit {0}} (both_reduced p r fs gs) number.vector (answered tt) e)

-- RECORDS: an answered call returns a well-formed record
module _ (p : ℕ) (r : Run) (s : Pass) where
  pub message-formed : (m : Message) → message_turn p r s ≡ true → well_formed p (kept_message r m) s ≡ true
  message-formed m e =
      let h = message-round p r s e in
      let t = h.tests in
      let full = (holds (well_formed p r s) (is_full r.mode) (holds (full_formed p r s) _ e).0).1 in
      tested p (kept_message r m) s
      (record {
        version = t.version;
        some = t.some;
        most = t.most;
        rounds = t.rounds;
        fits = lt-ltb r.round r.start.rounds h.less;
        total = t.total;
        kind = full_kind s.kind r.mode r.next next.Challenge full t.kind;
        rest = t.rest;
      })

  pub ends-formed : (a b : ℕ) → ends_turn p r s ≡ true → well_formed p (kept_ends r a b) s ≡ true
  ends-formed a b e =
      let h = at-ends p r s e in
      let t = h.tests in
      tested p (kept_ends r a b) s
      (record {
        version = t.version;
        some = t.some;
        most = t.most;
        rounds = t.rounds;
        fits = eq-eqb r.round r.start.rounds h.all;
        total = t.total;
        kind = full_kind s.kind r.mode r.next next.Openings h.full t.kind;
        rest = t.rest;
      })

  -- an opening returns the records that it got
  pub opening-formed : opening_turn p r s ≡ true → well_formed p r s ≡ true
  opening-formed e = (holds (well_formed p r s) (is_full r.mode) (holds (full_formed p r s) _ e).0).0

  next_fits : (i n : ℕ) → i < n → round_fits (round_or_ends (i + 1) n) (i + 1) n ≡ true
  next_fits i n h = go (ltb (i + 1) n) refl
    where
      go : (b : Bool) → ltb (i + 1) n ≡ b → round_fits (cond b next.Message next.Ends) (i + 1) n ≡ true
      go true e = e
      go false e = eq-eqb (i + 1) n (omega (arith, ltb-false (i + 1) n e))

  pub challenge-formed : (c : ℕ) → challenge_turn p r s ≡ true → well_formed p (kept_challenge p r c) s ≡ true
  challenge-formed c e =
      let h = challenge-round p r s e in
      let t = h.tests in
      tested p (kept_challenge p r c) s
      (record {
        version = t.version;
        some = t.some;
        most = t.most;
        rounds = t.rounds;
        fits = next_fits r.round r.start.rounds h.less;
        total = t.total;
        kind = challenge_kind s.kind r.mode r.next (round_or_ends (r.round + 1) r.start.rounds) (holds (well_formed p r s) _ e).1 t.kind;
        rest = t.rest;
      })

-- the level of the current fold after a challenge
next_level : (i n : ℕ) → i < n → level_at n (i + 1) (round_or_ends (i + 1) n) Shut ≡ suc i
next_level i n h = go (ltb (i + 1) n) refl
  where
    go : (b : Bool) → ltb (i + 1) n ≡ b → level_at n (i + 1) (cond b next.Message next.Ends) Shut ≡ suc i
    go true e = add-one i
    go false e = omega (arith, ltb-false (i + 1) n e)

module _ (p : ℕ) (c : ℕ → ℕ) (f g : Vector) (r : Run) (s : Pass) (fs gs : List ℕ) (l : Lent p c f g r fs gs) (reduced : both_reduced p r fs gs ≡ true) where
  pub both_long_lem : both_long r (length fs) (length gs) ≡ true
  both_long_lem = rw (le-leb (fold_size r) (length fs) l.first.long, le-leb (fold_size r) (length gs) l.second.long)

  -- "Message i, from fold i"
  pub message-law : message_turn p r s ≡ true
      → (let m : Message = message p r.start.rounds c f g r.round in
      message_call p r s fs gs ≡ answered (out (answered_step (kept_message r m) s (answer.Message m.even m.cross m.odd)) fs gs))
  unfolding message_call message_given
  message-law turn =
      let h = message-round p r s turn in
      let one : Holds fs (2 * size r.start.rounds (suc r.round)) (fold p c r.round f) = rw (h.halves, h.level) at l.first in
      let two : Holds gs (2 * size r.start.rounds (suc r.round)) (fold p c r.round g) = rw (h.halves, h.level) at l.second in
      let same : message_slice p (fold_size r / 2) fs gs ≡ message p r.start.rounds c f g r.round =
      ap (λ n. message_slice p n fs gs) h.half
      ∙ message-holds p fs gs (fold p c r.round f) (fold p c r.round g) (size r.start.rounds (suc r.round)) one two in
      passed-row (message_turn p r s) number.order _ turn
      ∙ lent_rows p r fs gs _ both_long_lem reduced
      ∙ ap (λ m. answered (out (answered_step (kept_message r m) s (answer.Message m.even m.cross m.odd)) fs gs)) same

  -- the ends are fold n
  pub ends-law : ends_turn p r s ≡ true
      → (let a : ℕ = end_value p c r.start.rounds f in
      let b : ℕ = end_value p c r.start.rounds g in
      ends_call p r s fs gs ≡ answered (out (answered_step (kept_ends r a b) s (answer.Ends a b)) fs gs))
  unfolding ends_call
  ends-law turn =
      let h = at-ends p r s turn in
      let one : at fs 0 ≡ end_value p c r.start.rounds f = l.first.same 0 (omega (arith, h.long)) ∙ ap (λ j. fold p c j f 0) h.level in
      let two : at gs 0 ≡ end_value p c r.start.rounds g = l.second.same 0 (omega (arith, h.long)) ∙ ap (λ j. fold p c j g 0) h.level in
      passed-row (ends_turn p r s) number.order _ turn
      ∙ lent_rows p r fs gs _ both_long_lem reduced
      ∙ ap₂ (λ a b. answered (out (answered_step (kept_ends r a b) s (answer.Ends a b)) fs gs)) one two

  -- A CHALLENGE in full mode is answered, leaves the next fold of each vector, and every other place as it was
  pub challenge-answered : (x : ℕ) → challenge_turn p r s ≡ true → is_nonzero p x ≡ true → r.mode ≡ Full
      → challenge_call p r s x fs gs ≡ answered (challenged_full p r s x fs gs)
  unfolding challenge_call
  challenge-answered x turn ok full =
      passed-row (challenge_turn p r s) number.order _ turn
      ∙ passed-row (is_nonzero p x) number.argument _ ok
      ∙ ap (challenged p r s x fs gs) full
      ∙ lent_rows p r fs gs _ both_long_lem reduced

  pub challenge-lent : (x : ℕ) → challenge_turn p r s ≡ true → c r.round ≡ x
      → (let o : Out = challenged_full p r s x fs gs in Lent p c f g o.run o.f o.g)
  unfolding challenged_full
  challenge-lent x turn same =
      let h = challenge-round p r s turn in
      let n : ℕ = r.start.rounds in
      let i : ℕ = r.round in
      let level : level_of (kept_challenge p r x) Shut ≡ suc i = next_level i n h.less in
      let long : fold_size (kept_challenge p r x) ≡ size n (suc i) = size_32 n (level_of (kept_challenge p r x) Shut) h.formed.few ∙ ap (size n) level in
      let one : Holds fs (2 * size n (suc i)) (fold p c i f) = rw (h.halves, h.level) at l.first in
      let two : Holds gs (2 * size n (suc i)) (fold p c i g) = rw (h.halves, h.level) at l.second in
      rw (← same, h.half)
      (record {
        first = rw (long, level) (fold-holds p c i (size n (suc i)) fs f one);
        second = rw (long, level) (fold-holds p c i (size n (suc i)) gs g two);
      })

-- whatever the buffers hold, a challenge writes no place past the new fold, and keeps their lengths
module _ (p : ℕ) (r : Run) (s : Pass) (x : ℕ) (fs gs : List ℕ) (turn : challenge_turn p r s ≡ true) where
  pub challenge-kept : (k : ℕ) → size r.start.rounds (suc r.round) ≤ k
      → (let o : Out = challenged_full p r s x fs gs in (at o.f k ≡ at fs k) × (at o.g k ≡ at gs k))
  unfolding challenged_full
  challenge-kept k h =
      let half = (challenge-round p r s turn).half in
      (fold-kept p x (fold_size r / 2) fs k (omega arith), fold-kept p x (fold_size r / 2) gs k (omega arith))

  pub challenge-lengths : (let o : Out = challenged_full p r s x fs gs in (length o.f ≡ length fs) × (length o.g ≡ length gs))
  unfolding challenged_full
  challenge-lengths = (fold-length p x (fold_size r / 2) fs, fold-length p x (fold_size r / 2) gs)
