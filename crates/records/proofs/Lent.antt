-- First places lent, and back: the part that a call left, before the places that were not lent.
use mathlib.Core.Path.{◌≡◌, refl, sym, ap, ◌∙◌}
use mathlib.Core.Bool.{Bool, true, false}
use mathlib.Core.List.{List, [], ◌∷◌, ◌++◌, append-nil}
use Prim.Native.Nat.{ℕ, zero, suc, ◌≤◌, ◌-◌}
use native.Mathlib.Omega.{arith}
use borrow.Author.Tests.{leb-true, leb-false}
use lib.Dec.{leb}
use lib.ListN.{length, take, drop, length-append, length-drop, take-append-drop}
use lib.Seq.{length-take-le, take_all, take_at, drop_at}
use Rattle.records.specs.Counts.{Counts}

drop_past : {A : Type 0} (n : ℕ) (l : List A) → length l ≤ n → drop n l ≡ []
drop_past zero [] h = refl
drop_past zero (x ∷ xs) h = absurd (omega arith)
drop_past (suc n) [] h = refl
drop_past (suc n) (x ∷ xs) h = drop_past n xs (omega arith)

-- what the buffer is afterwards: the part, where so many places are lent; the others, as they were
pub record Back {A : Type 0} (want n : ℕ) (xs part : List A) : Type 0 where
  pub part_left : take want (part ++ drop n xs) ≡ part
  pub rest : drop want (part ++ drop n xs) ≡ drop want xs
  pub lent : take n xs ≡ take want xs

pub lent_back : {A : Type 0} (want n : ℕ) (xs part : List A) → Counts want n xs → length (part ++ drop n xs) ≡ length xs → Back want n xs part
lent_back want n xs part c e = by (leb want (length xs)) refl
  where
    size : length part ≡ n
    size = omega (arith, length-append part (drop n xs), length-drop n xs, c.0)

    by : (b : Bool) → leb want (length xs) ≡ b → Back want n xs part
    by true t =
        let same : n ≡ want = c.2 ∙ length-take-le want xs (leb-true want (length xs) t) in
        record {
          part_left = take_at part (drop n xs) want (size ∙ same);
          rest = drop_at part (drop n xs) want (size ∙ same) ∙ ap (λ k. drop k xs) same;
          lent = ap (λ k. take k xs) same;
        }
    by false t =
        let long : length xs ≤ want = omega (arith, leb-false want (length xs) t) in
        let all : take want xs ≡ xs = take_all want xs long in
        let same : n ≡ length xs = c.2 ∙ ap length all in
        let none : drop n xs ≡ [] = drop_past n xs (omega arith) in
        let whole : part ++ drop n xs ≡ part = ap (λ r. part ++ r) none ∙ append-nil part in
        record {
          part_left = ap (take want) whole ∙ take_all want part (omega (arith, size));
          rest = ap (drop want) whole ∙ drop_past want part (omega (arith, size)) ∙ sym (drop_past want xs long);
          lent = take_all n xs (omega arith) ∙ sym all;
        }

-- the places that are lent
pub lent_same : {A : Type 0} (want n : ℕ) (xs : List A) → Counts want n xs → take n xs ≡ take want xs
lent_same want n xs c = (lent_back want n xs (take n xs) c (ap length (take-append-drop n xs))).lent

-- the places after them, as many as there are
pub rest_same : {A : Type 0} (want n : ℕ) (xs : List A) → Counts want n xs → take (length xs - n) (drop n xs) ≡ drop want xs
rest_same want n xs c = take_all (length xs - n) (drop n xs) (omega (arith, length-drop n xs)) ∙ by (leb want (length xs)) refl
  where
    by : (b : Bool) → leb want (length xs) ≡ b → drop n xs ≡ drop want xs
    by true t = ap (λ k. drop k xs) (c.2 ∙ length-take-le want xs (leb-true want (length xs) t))
    by false t =
        let long : length xs ≤ want = omega (arith, leb-false want (length xs) t) in
        let same : n ≡ length xs = c.2 ∙ ap length (take_all want xs long) in
        drop_past n xs (omega arith) ∙ sym (drop_past want xs long)
