-- What a tool keeps, read as lists: a number that is pushed and a byte that is appended come last, a slot keeps to its own bytes, and none
-- has more of them than its room.
use mathlib.Core.Path.{◌≡◌, refl, ap, ◌∙◌}
use mathlib.Core.Bool.{Bool, true, false, ◌&&◌}
use mathlib.Core.List.{[], ◌∷◌, ◌++◌}
use Prim.Native.Nat.{ℕ, ◌+◌, ◌-◌, ◌*◌, ◌<◌, ◌≤◌}
use Rattle.std.specs.Prelude.{◌≢◌, cond, set}
use Rattle.std.specs.List.{All}
use native.Mathlib.Omega.{arith}
use native.Mathlib.Decide.{dec_lt}
use borrow.Author.Tests.{leb-true, ltb-true}
use lib.Dec.{leb, ltb, eqb}
use lib.ListN.{length, take, drop, get_or-eq_default}
use Rattle.std.proofs.lemmas.Bool.{cond_both}
use Rattle.std.proofs.lemmas.List.{drop-set-lt, drop-set-add, take_more_set, take-set-le, get_or-set_same, get_or-set_other, length-set, length-drop, length-take, length-take-le}
use Rattle.std.proofs.lemmas.List.Elements.{All-replicate, All-set, All-get_or}
use Rattle.records.specs.declared.Record.{Record}
use Rattle.records.specs.declared.lists.Lists.{Lists}
use Rattle.records.specs.declared.slots.Slots.{Slots}
use Rattle.records.specs.Lists.{places, room, numbers_in, emptied as emptied_list, pushed, lent, keeps}
use Rattle.records.specs.Slots.{slot_room, slot_in, size_of, no_slots, emptied, appended, fills}

pub numbers_in_pushed : (l : Lists) (a : ℕ) → l.held < length l.scratch → numbers_in (pushed l a) ≡ numbers_in l ++ a ∷ []
numbers_in_pushed l a fits = take_more_set l.scratch l.held a fits

-- what holds of what either of two answers keeps holds of the one taken
either : {A B : Type 0} (P : A → Type 0) (b : Bool) (x y : A × B) → (b ≡ true → P x.0) → (b ≡ false → P y.0) → P (cond b x y).0
either {A} {B} P b x y = cond_both b x y (λ (o : A × B). P o.0)

-- what holds of the list as it is, and as each op that is answered would leave it, holds after any op
pub keeps_case : (P : Lists → Type 0) (l : Lists) (r : Record) → P l → P (emptied_list l) → (l.held < room → P (pushed l r.a)) → P (lent l r.a r.b)
    → P (record { flent = l.flent; glent = l.glent; scratch = l.scratch; held = l.held; opened = r.a }) → P (keeps l r).0
keeps_case P l r h e a b o =
    either P (eqb r.op 1) _ _ (λ _. e)
    (λ _. either P (eqb r.op 2) _ _ (λ _. either P (ltb l.held room) _ _ (λ t. a (ltb-true l.held room t)) (λ _. h))
    (λ _. either P (eqb r.op 3) _ _ (λ _. either P (leb r.a places && leb r.b places) _ _ (λ _. b) (λ _. h))
    (λ _. either P (eqb r.op 4) _ _ (λ _. h) (λ _. either P (eqb r.op 41) _ _ (λ _. either P (leb r.a room) _ _ (λ _. o) (λ _. h)) (λ _. h)))))

-- the list has no more numbers than its room: no op gives it more
pub held_kept : (l : Lists) (r : Record) → l.held ≤ room → (keeps l r).0.held ≤ room
held_kept l r h = keeps_case (λ k. k.held ≤ room) l r h (omega arith) (λ t. omega (arith, t)) h h

-- an op keeps how many places there are
pub scratch_kept : (l : Lists) (r : Record) → length (keeps l r).0.scratch ≡ length l.scratch
scratch_kept l r = keeps_case (λ k. length k.scratch ≡ length l.scratch) l r refl refl (λ _. length-set l.scratch l.held r.a) refl refl

module _ (s : Slots) (k : ℕ) where
  pub slot_in_emptied : k < length s.sizes → slot_in k (emptied s k) ≡ []
  slot_in_emptied there = ap (λ n. take n (drop (k * slot_room) s.bytes)) (get_or-set_same s.sizes k 0 0 there)

  pub slot_in_emptied_other : (j : ℕ) → j ≢ k → slot_in j (emptied s k) ≡ slot_in j s
  slot_in_emptied_other j other = ap (λ n. take n (drop (j * slot_room) s.bytes)) (get_or-set_other s.sizes k j 0 0 other)

  pub slot_in_appended : (b : ℕ) → k < length s.sizes → k * slot_room + size_of s k < length s.bytes
      → slot_in k (appended s k b) ≡ slot_in k s ++ b ∷ []
  slot_in_appended b there fits =
      ap (λ n. take n (drop (k * slot_room) (set s.bytes (k * slot_room + size_of s k) b))) (get_or-set_same s.sizes k (size_of s k + 1) 0 there)
      ∙ ap (take (size_of s k + 1)) (drop-set-add (k * slot_room) s.bytes (size_of s k) b)
      ∙ take_more_set (drop (k * slot_room) s.bytes) (size_of s k) b (omega (arith, length-drop (k * slot_room) s.bytes))

  pub slot_in_appended_other : (b j : ℕ) → j ≢ k → size_of s j ≤ slot_room → size_of s k < slot_room → slot_in j (appended s k b) ≡ slot_in j s
  slot_in_appended_other b j other within fits =
      ap (λ n. take n (drop (j * slot_room) (set s.bytes (k * slot_room + size_of s k) b))) (get_or-set_other s.sizes k j (size_of s k + 1) 0 other)
      ∙ by (dec_lt j k)
    where
      by : Dec (j < k) → take (size_of s j) (drop (j * slot_room) (set s.bytes (k * slot_room + size_of s k) b)) ≡ slot_in j s
      by (yes l) =
          let i : ℕ = (k * slot_room + size_of s k) - j * slot_room in
          let at : k * slot_room + size_of s k ≡ j * slot_room + i = omega arith in
          ap (λ n. take (size_of s j) (drop (j * slot_room) (set s.bytes n b))) at
          ∙ ap (take (size_of s j)) (drop-set-add (j * slot_room) s.bytes i b)
          ∙ take-set-le (size_of s j) (drop (j * slot_room) s.bytes) i b (omega arith)
      by (no m) = ap (take (size_of s j)) (drop-set-lt (j * slot_room) s.bytes (k * slot_room + size_of s k) b (omega arith))

-- what holds of the slots, of them with one emptied where op 60 may and with a byte appended where op 61 may, holds after any op
pub fills_case : (P : Slots → Type 0) (s : Slots) (r : Record) → P s → (r.a ≤ 7 → P (emptied s r.a))
    → (r.a ≤ 7 → r.b ≤ 255 → size_of s r.a < slot_room → P (appended s r.a r.b)) → P (fills s r).0
fills_case P s r h e a =
    either P (leb r.a 7) _ _
    (λ t. either P (eqb r.op 60) _ _ (λ _. e (leb-true r.a 7 t))
    (λ _. either P (eqb r.op 61) _ _
    (λ _. either P (leb r.b 255) _ _ (λ u. either P (ltb (size_of s r.a) slot_room) _ _ (λ v. a (leb-true r.a 7 t) (leb-true r.b 255 u) (ltb-true (size_of s r.a) slot_room v)) (λ _. h)) (λ _. h))
    (λ _. h)))
    (λ _. h)

-- an op keeps how many places there are
pub sizes_kept : (s : Slots) (r : Record) → length (fills s r).0.sizes ≡ length s.sizes
sizes_kept s r =
    fills_case (λ t. length t.sizes ≡ length s.sizes) s r refl (λ _. length-set s.sizes r.a 0) (λ _ _ _. length-set s.sizes r.a (size_of s r.a + 1))

pub bytes_kept : (s : Slots) (r : Record) → length (fills s r).0.bytes ≡ length s.bytes
bytes_kept s r =
    fills_case (λ t. length t.bytes ≡ length s.bytes) s r refl (λ _. refl) (λ _ _ _. length-set s.bytes (r.a * slot_room + size_of s r.a) r.b)

-- no slot has more bytes than its room: at first, and after every op
abbrev pub Within : Slots → Type 0
Within s = All (λ n. n ≤ slot_room) s.sizes

pub within_no_slots : Within no_slots
within_no_slots = All-replicate (λ n. n ≤ slot_room) 8 0 (omega arith)

pub within_fills : (s : Slots) (r : Record) → Within s → Within (fills s r).0
within_fills s r h =
    fills_case Within s r h (λ _. All-set (λ n. n ≤ slot_room) s.sizes r.a 0 (omega arith) h)
    (λ _ _ l. All-set (λ n. n ≤ slot_room) s.sizes r.a (size_of s r.a + 1) (omega (arith, l)) h)

module _ (s : Slots) (h : Within s) (k : ℕ) where
  pub within_size : size_of s k ≤ slot_room
  within_size = by (dec_lt k (length s.sizes))
    where
      by : Dec (k < length s.sizes) → size_of s k ≤ slot_room
      by (yes l) = All-get_or (λ n. n ≤ slot_room) s.sizes k 0 l h
      by (no m) = omega (arith, get_or-eq_default s.sizes 0 {n = k} (omega arith))

  pub within_slot : length (slot_in k s) ≤ slot_room
  within_slot = omega (arith, length-take (size_of s k) (drop (k * slot_room) s.bytes), within_size)

  pub within_length : k * slot_room + slot_room ≤ length s.bytes → length (slot_in k s) ≡ size_of s k
  within_length there =
      length-take-le (size_of s k) (drop (k * slot_room) s.bytes) (omega (arith, length-drop (k * slot_room) s.bytes, within_size))
