-- Whether a list of calls is as document 01 asks, as a test that computes.
use Prim.Native.Nat.{ℕ, ◌-◌, ◌^◌, ◌<◌}
use mathlib.Core.Path.{◌≡◌, sym, ap, ◌∙◌}
use mathlib.Core.Bool.{Bool, true, false, cond, true≢false}
use mathlib.Core.List.{List, [], ◌∷◌}
use lib.Dec.{eqb}
use lib.IntN.{ℤ, pos, negsuc}
use lib.ListN.{length}
use borrow.Author.Tests.{eqb-true}
use Rattle.phase.specs.Cases.{is_full}
use Rattle.vector.specs.Vector.{Vector, at}
use Rattle.vector.specs.Slice.{every}
use Rattle.vector.proofs.Every.{every-at}
use Rattle.prover.proofs.Facts.{holds}
use Rattle.item.specs.declared.Given.{Given}
use Rattle.item.specs.declared.Given.TheVariants.{Reading, Numbers}
use Rattle.runs.specs.Trip.{Trip, trip_item, vector_f, vector_g}
use Rattle.calls.specs.declared.Call.{Call}
use Rattle.calls.specs.declared.Call.TheVariants as call
use Rattle.calls.specs.Lists.{along, each}
use Rattle.calls.specs.Step.{Lent, is_answered}
use Rattle.calls.specs.State.{State}
use Rattle.calls.specs.World.{Made, World, came, onward}
use Rattle.calls.specs.Table.{long}
use Rattle.calls.specs.Meaning.{binds_item, AsLeft}
use Rattle.calls.specs.Demand3.{AllKept}
use Rattle.calls.proofs.KeptCalls.{ItemKept, KeptBy, by_kept}

abbrev pub same_integer : ℤ → ℤ → Bool
same_integer (pos m) (pos n) = eqb m n
same_integer (pos m) (negsuc n) = false
same_integer (negsuc m) (pos n) = false
same_integer (negsuc m) (negsuc n) = eqb m n

abbrev pub same_item : Given → Given → Bool
same_item (Reading z w) (Reading y v) = cond (same_integer z y) (eqb w v) false
same_item (Reading z w) (Numbers c d) = false
same_item (Numbers a b) (Reading y v) = false
same_item (Numbers a b) (Numbers c d) = cond (eqb a c) (eqb b d) false

-- the first places of two buffers are those of two vectors
abbrev pub same_places : ℕ → Lent → Vector → Vector → Bool
same_places m l f g = every m (λ j. cond (eqb (at l.f j) (f j)) (eqb (at l.g j) (g j)) false)

module _ (p : ℕ) (through : Bool) (T : Trip) where
  abbrev pub left_test : State → Lent → Bool
  left_test a l = same_places (long a) l (at a.buffers.f) (at a.buffers.g)

  abbrev pub item_test : State → Given → Lent → Bool
  item_test a x l =
      cond (same_item x (trip_item T (T.start.items - 1 - length a.pass.items))) (cond (binds_item through a) (left_test a l) true) false

  abbrev pub kept_test : State → Call → Lent → Bool
  kept_test a call.OpenPass l = true
  kept_test a (call.OpenAt b) l = true
  kept_test a call.ToFull l = true
  kept_test a call.ToSmall l = true
  kept_test a (call.Give x) l = item_test a x l
  kept_test a call.Close l = true
  kept_test a call.Message l = left_test a l
  kept_test a (call.Challenge c) l = cond (is_full a.turn.mode) (left_test a l) true
  kept_test a call.Ends l = left_test a l
  kept_test a (call.Opening b) l = same_places (2 ^ T.start.rounds) l (vector_f p T) (vector_g p T)
  kept_test a call.WriteProof l = true

  -- at a call of a list
  abbrev pub kept_at : World → Made → Bool
  kept_at w m = cond (is_answered (came p w m).answer) (kept_test w.state m.call m.lent) true

-- THE TESTS TELL
implied : (b x : Bool) → cond b x true ≡ true → b ≡ true → x ≡ true
implied true x e h = e
implied false x e h = absurd (true≢false (sym h))

same_integer_lem : (z y : ℤ) → same_integer z y ≡ true → z ≡ y
same_integer_lem (pos m) (pos n) e = ap pos (eqb-true m n e)
same_integer_lem (pos m) (negsuc n) e = absurd (true≢false (sym e))
same_integer_lem (negsuc m) (pos n) e = absurd (true≢false (sym e))
same_integer_lem (negsuc m) (negsuc n) e = ap negsuc (eqb-true m n e)

same_item_lem : (x y : Given) → same_item x y ≡ true → x ≡ y
same_item_lem (Reading z w) (Reading y v) e =
    let h = holds (same_integer z y) (eqb w v) e in
    ap (λ x. Reading x w) (same_integer_lem z y h.0) ∙ ap (Reading y) (eqb-true w v h.1)
same_item_lem (Reading z w) (Numbers c d) e = absurd (true≢false (sym e))
same_item_lem (Numbers a b) (Reading y v) e = absurd (true≢false (sym e))
same_item_lem (Numbers a b) (Numbers c d) e =
    let h = holds (eqb a c) (eqb b d) e in
    ap (λ x. Numbers x b) (eqb-true a c h.0) ∙ ap (Numbers c) (eqb-true b d h.1)

same_places_lem : (m : ℕ) (l : Lent) (f g : Vector) → same_places m l f g ≡ true → (j : ℕ) → j < m → (at l.f j ≡ f j) × (at l.g j ≡ g j)
same_places_lem m l f g e j h =
    let both = holds (eqb (at l.f j) (f j)) (eqb (at l.g j) (g j)) (every-at (λ k. cond (eqb (at l.f k) (f k)) (eqb (at l.g k) (g k)) false) m e j h) in
    (eqb-true (at l.f j) (f j) both.0, eqb-true (at l.g j) (g j) both.1)

unfoldable pub all_true : List Bool → Bool
all_true [] = true
all_true (b ∷ bs) = cond b (all_true bs) false

-- along a list
tested : {W M : Type 0} (next : W → M → W) (P : W → M → Type 0) (test : W → M → Bool) → ((w : W) (m : M) → test w m ≡ true → P w m) → (w : W) (ms : List M)
    → all_true (each next test w ms) ≡ true → along next P w ms
unfolding all_true each along
tested next P test tells w [] e = tt
tested next P test tells w (m ∷ ms) e =
    let h = holds (test w m) (all_true (each next test (next w m) ms)) e in
    (tells w m h.0, tested next P test tells (next w m) ms h.1)

module _ (p : ℕ) (through : Bool) (T : Trip) where
  left : (a : State) (l : Lent) → left_test p through T a l ≡ true → AsLeft a l
  left a l e = same_places_lem (long a) l (at a.buffers.f) (at a.buffers.g) e

  item : (a : State) (x : Given) (l : Lent) → item_test p through T a x l ≡ true → ItemKept p T through a x l
  item a x l e =
      let h = holds (same_item x (trip_item T (T.start.items - 1 - length a.pass.items))) (cond (binds_item through a) (left_test p through T a l) true) e in
      (same_item_lem x (trip_item T (T.start.items - 1 - length a.pass.items)) h.0, λ b. left a l (implied (binds_item through a) (left_test p through T a l) h.1 b))

  kept : (a : State) (c : Call) (l : Lent) → kept_test p through T a c l ≡ true → KeptBy p T through a c l
  kept a call.OpenPass l e = tt
  kept a (call.OpenAt b) l e = tt
  kept a call.ToFull l e = tt
  kept a call.ToSmall l e = tt
  kept a (call.Give x) l e = item a x l e
  kept a call.Close l e = tt
  kept a call.Message l e = left a l e
  kept a (call.Challenge c) l e = λ b. left a l (implied (is_full a.turn.mode) (left_test p through T a l) e b)
  kept a call.Ends l e = left a l e
  kept a (call.Opening b) l e = same_places_lem (2 ^ T.start.rounds) l (vector_f p T) (vector_g p T) e
  kept a call.WriteProof l e = tt

  pub all-kept : (w : World) (ms : List Made) → all_true (each (onward p) (kept_at p through T) w ms) ≡ true → AllKept p through T w ms
  all-kept w ms e =
      tested (onward p) _ (kept_at p through T)
      (λ w m h y. by_kept p T through w.state m.call m.lent (kept w.state m.call m.lent (implied (is_answered (came p w m).answer) (kept_test p through T w.state m.call m.lent) h y))) w ms e
