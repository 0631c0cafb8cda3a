-- The verifier that stands for a state: what each of its fields says, whose turn it is, and that a fresh one stands for the fresh state.
use mathlib.Core.Path.{◌≡◌, refl, sym, ap, ◌∙◌}
use mathlib.Core.Bool.{Bool, true, false, cond, not, ◌&&◌, ◌||◌, and-false, true≢false}
use mathlib.Core.List.{List}
use Prim.Native.Nat.{ℕ, ◌≤◌, ◌<◌}
use native.Mathlib.Omega.{arith}
use lib.Dec.{eqb, ltb}
use lib.ListN.{length}
use borrow.Author.Tests.{eqb-true, le-leb, le-ltb}
use Rattle.vector.specs.Vector.{at}
use Rattle.vector.specs.Slice.{fifteen}
use Rattle.vector.proofs.Overwrite.{fifteen-at}
use Rattle.verifier.specs.declared.Verifier.{Verifier}
use Rattle.verifier.specs.Records.{no}
use Rattle.verifier.specs.WellFormed.{well_formed}
use Rattle.verifier.specs.Starts.{fresh_verifier, verifier_of}
use Rattle.verifier.specs.Claims.{finds}
use Rattle.verifier.specs.Calls.{message_turn, verdict_turn}
use Rattle.verifier.proofs.Invariant.{both}
use Rattle.verifier.proofs.Kept.{fresh-formed}
use Rattle.item.specs.declared.Start.{Start}
use Rattle.item.specs.Start.{count_fits}
use Rattle.calls.specs.QueryState.{VerifierState, fresh_verifier_state}
use Rattle.calls.specs.Starts.{Startable}
use Rattle.calls.proofs.Guards.{both_and}

-- what the start, the challenges and k answered items fix
pub record Carries (s : Start) (cs : List ℕ) (k : ℕ) (v : Verifier) : Type 0 where
  pub formed : well_formed v ≡ true
  pub start : v.start ≡ s
  pub challenges : v.challenges ≡ fifteen s.rounds cs
  pub taken : v.taken ≡ k

-- its challenge j
pub carried_challenge : {s : Start} {cs : List ℕ} {k : ℕ} {v : Verifier} → Carries s cs k v → s.rounds ≤ 15 → length cs ≡ s.rounds
    → (j : ℕ) → j < s.rounds → at v.challenges j ≡ at cs j
carried_challenge {s} {cs} c few listed j less = ap (λ xs. at xs j) c.challenges ∙ fifteen-at s.rounds cs few (omega (arith, listed)) j less

pub record Stands (p : ℕ) (a : VerifierState) (v : Verifier) : Type 0 where
  pub carries : Carries a.start a.challenges (length a.items) v
  pub closed : v.closed ≡ a.closed
  -- the messages that passed
  pub going : a.refuted ≡ false → (v.failed ≡ false) × (v.round ≡ a.round)
  -- after a no, also one that the verdict found, every verdict is that no
  pub over : a.refuted ≡ true → (verdict_turn v ≡ true) × (finds p v ≡ no a.round)

message-test : (c d f : Bool) (i j n m : ℕ) → c ≡ d → f ≡ false → i ≡ j → n ≡ m → cond c (cond f false (ltb i n)) false ≡ (d && ltb j m)
message-test c d f i j n m a b e h = rw (a, b, e, h) (both_and d (ltb j m))

verdict-test : (c d f : Bool) (i j n m : ℕ) → c ≡ d → f ≡ false → i ≡ j → n ≡ m → cond c (cond f true (eqb i n)) false ≡ (d && eqb j m)
verdict-test c d f i j n m a b e h = rw (a, b, e, h) (both_and d (eqb j m))

-- where a verdict is reached no message is next
pub spoken : (v : Verifier) → verdict_turn v ≡ true → message_turn v ≡ false
unfolding verdict_turn message_turn
spoken v = by v.closed v.failed
  where
    by : (c f : Bool) → cond c (cond f true (eqb v.round v.start.rounds)) false ≡ true
        → cond c (cond f false (ltb v.round v.start.rounds)) false ≡ false
    by false f h = refl
    by true true h = refl
    by true false h = let e = eqb-true v.round v.start.rounds h in le-ltb v.round v.start.rounds (omega arith)

pub verdict-closed : (v : Verifier) → verdict_turn v ≡ true → v.closed ≡ true
unfolding verdict_turn
verdict-closed v h = (both v.closed (cond v.failed true (eqb v.round v.start.rounds)) h).0

module _ (p : ℕ) (a : VerifierState) (v : Verifier) (s : Stands p a v) where
  pub message-turn : message_turn v ≡ (a.closed && (not a.refuted && ltb a.round a.start.rounds))
  unfolding message_turn
  message-turn = by a.refuted refl
    where
      by : (b : Bool) → a.refuted ≡ b → message_turn v ≡ (a.closed && (not b && ltb a.round a.start.rounds))
      by false e =
          let g = s.going e in
          message-test v.closed a.closed v.failed v.round a.round v.start.rounds a.start.rounds s.closed g.0 g.1
          (ap (λ s. s.rounds) s.carries.start)
      by true e = spoken v (s.over e).0 ∙ sym (and-false a.closed)

  pub verdict-turn : verdict_turn v ≡ (a.closed && (a.refuted || eqb a.round a.start.rounds))
  unfolding verdict_turn
  verdict-turn = by a.refuted refl
    where
      by : (b : Bool) → a.refuted ≡ b → verdict_turn v ≡ (a.closed && (b || eqb a.round a.start.rounds))
      by false e =
          let g = s.going e in
          verdict-test v.closed a.closed v.failed v.round a.round v.start.rounds a.start.rounds s.closed g.0 g.1
          (ap (λ s. s.rounds) s.carries.start)
      by true e =
          let t = (s.over e).0 in
          t ∙ ap (λ c. c && (true || eqb a.round a.start.rounds)) (sym (verdict-closed v t) ∙ s.closed)

in_count : (items : ℕ) → 1 ≤ items → items ≤ 32768 → count_fits items ≡ true
in_count items some most = rw (le-leb 1 items some, le-leb items 32768 most)

-- "starts from a fresh one for the run's L, twists and challenges"
module _ (s : Start) (h : Startable s) (cs : List ℕ) where
  start-formed : well_formed (verifier_of s cs) ≡ true
  start-formed = fresh-formed s (fifteen s.rounds cs) h.version (in_count s.items h.least h.most) h.rounds

  pub fresh-stands : (p : ℕ) → Stands p (fresh_verifier_state s cs) (verifier_of s cs)
  unfolding fresh_verifier
  fresh-stands p =
      record {
        carries = record { formed = start-formed; start = refl; challenges = refl; taken = refl };
        closed = refl;
        going = λ e. (refl, refl);
        over = λ e. absurd (true≢false (sym e));
      }
