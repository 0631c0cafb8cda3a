-- What the test of a record says, and what the steps of a call need of it.
use mathlib.Core.Path.{◌≡◌, refl, sym}
use mathlib.Core.Bool.{Bool, true, false, cond, not, true≢false}
use Prim.Native.Nat.{ℕ, ◌≤◌, ◌<◌}
use native.Mathlib.Omega.{arith}
use lib.Dec.{eqb, leb, ltb}
use borrow.Author.Tests.{eqb-true, le-leb, leb-true, ltb-true}
use Rattle.refusal.proofs.Outcome as tests
use Rattle.vector.specs.Rounds.{rounds_of}
use Rattle.vector.proofs.Rounds.{rounds-at-most}
use Rattle.item.specs.Start.{count_fits, version_kept}
use Rattle.verifier.specs.declared.Verifier.{Verifier}
use Rattle.verifier.specs.WellFormed.{turn_of, turn_fits, well_formed}
use Rattle.verifier.specs.Calls.{pass_open, message_turn, has_rounds}

pub both : (a b : Bool) → cond a b false ≡ true → (a ≡ true) × (b ≡ true)
both true b h = (refl, h)
both false b h = absurd (true≢false (sym h))

pub unless : (a b : Bool) → cond a false b ≡ true → (a ≡ false) × (b ≡ true)
unless true b h = absurd (true≢false (sym h))
unless false b h = (refl, h)

pub not_true : (b : Bool) → not b ≡ true → b ≡ false
not_true true h = absurd (true≢false (sym h))
not_true false h = refl

-- the parts of the test
pub record Parts (v : Verifier) : Type 0 where
  pub version : version_kept v.start.plain v.start.version ≡ true
  pub count : count_fits v.start.items ≡ true
  pub rounds : eqb v.start.rounds (rounds_of v.start.items) ≡ true
  pub turn : turn_fits v ≡ true

pub parts_of_lem : (v : Verifier) → well_formed v ≡ true → Parts v
unfolding well_formed
parts_of_lem v h =
    let known = both (version_kept v.start.plain v.start.version) _ h in
    let outer = both (count_fits v.start.items) (cond (eqb v.start.rounds (rounds_of v.start.items)) (turn_fits v) false) known.1 in
    let inner = both (eqb v.start.rounds (rounds_of v.start.items)) (turn_fits v) outer.1 in
    record { version = known.0; count = outer.0; rounds = inner.0; turn = inner.1 }

pub formed_of : (v : Verifier) → Parts v → well_formed v ≡ true
unfolding well_formed
formed_of v h = rw (h.version, h.count, h.rounds, h.turn)

pick_true : (a x y : Bool) → a ≡ true → cond a x y ≡ true → x ≡ true
pick_true true x y e h = h
pick_true false x y e h = absurd (true≢false (sym e))

pick_false : (a x y : Bool) → a ≡ false → cond a x y ≡ true → y ≡ true
pick_false true x y e h = absurd (true≢false e)
pick_false false x y e h = h

-- before the close
pub record Open (v : Verifier) : Type 0 where
  pub going : v.failed ≡ false
  pub first : v.round ≡ 0

pub open_turn : (v : Verifier) → turn_fits v ≡ true → v.closed ≡ false → Open v
unfolding turn_of
open_turn v h e =
    let a = unless v.failed (cond (eqb v.round 0) (leb v.taken v.start.items) false) (pick_false v.closed _ _ e h) in
    record { going = a.0; first = eqb-true v.round 0 (both (eqb v.round 0) (leb v.taken v.start.items) a.1).0 }

pub closed-taken : (v : Verifier) → turn_fits v ≡ true → v.closed ≡ true → eqb v.taken v.start.items ≡ true
unfolding turn_of
closed-taken v h e = (both (eqb v.taken v.start.items) (leb v.round v.start.rounds) (pick_true v.closed _ _ e h)).0

pub closed-turn : (v : Verifier) → v.closed ≡ true → eqb v.taken v.start.items ≡ true → v.round ≤ v.start.rounds → turn_fits v ≡ true
unfolding turn_of
closed-turn v a b c = rw (a, b, le-leb v.round v.start.rounds c)

pub record Formed (v : Verifier) : Type 0 where
  pub some : 1 ≤ v.start.items
  pub limit : v.start.items ≤ 32768
  pub rounds_of_lem : v.start.rounds ≡ rounds_of v.start.items
  pub few : v.start.rounds ≤ 15
  pub within : v.taken ≤ v.start.items
  pub turn : v.round ≤ v.start.rounds

turn-says : (v : Verifier) → turn_fits v ≡ true → (v.taken ≤ v.start.items) × (v.round ≤ v.start.rounds)
unfolding turn_of
turn-says v h = by v.closed h
  where
    by : (b : Bool)
        → cond b (cond (eqb v.taken v.start.items) (leb v.round v.start.rounds) false)
        (cond v.failed false (cond (eqb v.round 0) (leb v.taken v.start.items) false))
        ≡ true
        → (v.taken ≤ v.start.items) × (v.round ≤ v.start.rounds)
    by true h =
        let e = both (eqb v.taken v.start.items) (leb v.round v.start.rounds) h in
        let t = eqb-true v.taken v.start.items e.0 in
        let r = leb-true v.round v.start.rounds e.1 in
        (omega arith, r)
    by false h =
        let e = both (eqb v.round 0) (leb v.taken v.start.items) (unless v.failed _ h).1 in
        let z = eqb-true v.round 0 e.0 in
        (leb-true v.taken v.start.items e.1, omega arith)

pub formed_says : (v : Verifier) → well_formed v ≡ true → Formed v
formed_says v h =
    let parts = parts_of_lem v h in
    let count = tests.both (leb 1 v.start.items) (leb v.start.items 32768) parts.count in
    let most = leb-true v.start.items 32768 count.1 in
    let turn = turn-says v parts.turn in
    let rounds = eqb-true v.start.rounds (rounds_of v.start.items) parts.rounds in
    record {
      some = leb-true 1 v.start.items count.0;
      limit = most;
      rounds_of_lem = rounds;
      few = omega (arith, rounds-at-most v.start.items most);
      within = turn.0;
      turn = turn.1;
    }

pub open_says : (v : Verifier) → pass_open v ≡ true → Formed v × (v.closed ≡ false)
unfolding pass_open
open_says v h =
    let e = both (well_formed v) (not v.closed) h in
    (formed_says v e.0, not_true v.closed e.1)

pub hears-safe : (v : Verifier) → well_formed v ≡ true → message_turn v ≡ true → v.round < 15
unfolding message_turn
hears-safe v h t =
    let f = formed_says v h in
    let e = both v.closed (cond v.failed false (ltb v.round v.start.rounds)) t in
    let less = ltb-true v.round v.start.rounds (unless v.failed (ltb v.round v.start.rounds) e.1).1 in
    omega (arith, f.few)

pub opening-safe : (v : Verifier) → has_rounds v ≡ true → v.start.rounds ≤ 15
unfolding has_rounds
opening-safe v h = (formed_says v (both (well_formed v) (ltb 0 v.start.rounds) h).0).few

pub opening-some : (v : Verifier) → has_rounds v ≡ true → 1 ≤ v.start.rounds
unfolding has_rounds
opening-some v h = ltb-true 0 v.start.rounds (both (well_formed v) (ltb 0 v.start.rounds) h).1

-- the test of an open pass, as the code makes it
pub turn-plain : (closed failed : Bool) (round rounds taken items : ℕ) → closed ≡ false → failed ≡ false → round ≡ 0
    → leb taken items
    ≡ cond closed (cond (eqb taken items) (leb round rounds) false) (cond failed false (cond (eqb round 0) (leb taken items) false))
turn-plain closed failed round rounds taken items a b e = rw (a, b, e)

pub turn-open : (v : Verifier) → v.closed ≡ false → v.failed ≡ false → v.round ≡ 0 → leb v.taken v.start.items ≡ turn_fits v
unfolding turn_of
turn-open v = turn-plain v.closed v.failed v.round v.start.rounds v.taken v.start.items
