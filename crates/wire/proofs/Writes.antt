-- The stores that write a proof are its file, before what the buffer had behind it.
use mathlib.Core.Path.{◌≡◌, refl, ap, sym, ◌∙◌}
use mathlib.Core.List.{List, [], ◌∷◌, ◌++◌, append_assoc, append-nil}
use Prim.Native.Nat.{ℕ, suc, ◌+◌, ◌*◌, ◌≤◌, ◌<◌}
use native.Mathlib.Nat.{add-zero, zero-add, add-suc, suc-add}
use native.Mathlib.Numerals.{add-one}
use native.Mathlib.Omega.{arith}
use lib.ListN.{length, get_or, take, drop, length-append}
use lib.Seq.{sets, sets-eq, take-suc, length-take-le}
use lib.IntN.{ℤ}
use Rattle.wire.specs.Number.{bytes}
use Rattle.wire.specs.Proof.{numbers, proof_header, proof_file, proof_size, proof_values}

-- one run of stores after another is one run
sets_append : (vs ws l : List ℕ) (i : ℕ) → sets (sets l i vs) (i + length vs) ws ≡ sets l i (vs ++ ws)
sets_append [] ws l i = simp add-zero
sets_append (v ∷ vs) ws l i = rw (add-suc i (length vs), ← suc-add i (length vs)) (sets_append vs ws _ (suc i))

pub length_numbers : (xs : List ℕ) → length (numbers xs) ≡ 4 * length xs
unfolding numbers bytes
length_numbers [] = refl
length_numbers (x ∷ xs) = simp length-append (omega (arith, length_numbers xs))

numbers-append : (xs ys : List ℕ) → numbers (xs ++ ys) ≡ numbers xs ++ numbers ys
unfolding numbers bytes
numbers-append [] ys = refl
numbers-append (x ∷ xs) ys = rw (numbers-append xs ys)

one : (x : ℕ) → numbers (x ∷ []) ≡ bytes 4 x
unfolding numbers
one x = append-nil (bytes 4 x)

pub put_none : (l : List ℕ) (at : ℕ) → l ≡ sets l at (numbers [])
unfolding numbers
put_none l at = refl

-- one number more
pub put_next : (l : List ℕ) (at : ℕ) (xs : List ℕ) (k : ℕ) → k < length xs
    → sets (sets l at (numbers (take k xs))) (at + 4 * k) (bytes 4 (get_or xs k 0)) ≡ sets l at (numbers (take (k + 1) xs))
put_next l at xs k h =
    let n : 4 * k ≡ length (numbers (take k xs)) = sym (length_numbers (take k xs) ∙ ap (λ m. 4 * m) (length-take-le k xs (omega arith))) in
    rw (add-one k, take-suc xs k 0 h, numbers-append, one, n)
    (sets_append (numbers (take k xs)) (bytes 4 (get_or xs k 0)) l at)

-- a run that starts where one from the first place on ends
run : (vs ws l : List ℕ) (j : ℕ) → length vs ≡ j → sets (sets l 0 vs) j ws ≡ sets l 0 (vs ++ ws)
run vs ws l j e = rw (← e, ← zero-add (length vs)) (sets_append vs ws l 0)

from_first : (vs l : List ℕ) (n : ℕ) → length vs ≡ n → n ≤ length l → sets l 0 vs ≡ vs ++ drop n l
from_first vs l n e h = sets-eq vs l 0 (omega arith) ∙ simp (zero-add, e)

pub length_header : (n : ℕ) (t : ℤ) → length (proof_header n t) ≡ 10
unfolding proof_header bytes
length_header n t = refl

pub length_file : (n : ℕ) (t : ℤ) (xs : List ℕ) → length xs ≡ 3 * n + 2 → length (proof_file n t xs) ≡ proof_size n
length_file n t xs e = simp (length-append, length_header, length_numbers, e) (omega arith)

module _ (n : ℕ) (t : ℤ) (ms : List ℕ) (f g : ℕ) (h : 3 * n ≤ length ms) where
  pub length_values : length (proof_values n ms f g) ≡ 3 * n + 2
  length_values = simp (length-append, length-take-le (3 * n) ms h) (omega arith)

  length_first : length (proof_header n t ++ numbers (take (3 * n) ms)) ≡ 10 + 12 * n
  length_first = simp (length-append, length_header, length_numbers, length-take-le (3 * n) ms h) (omega arith)

  length_second : length (proof_header n t ++ numbers (take (3 * n) ms) ++ bytes 4 f) ≡ 14 + 12 * n
  unfolding bytes
  length_second = simp (length-append, length_header, length_numbers, length-take-le (3 * n) ms h) (omega arith)

  whole : proof_header n t ++ numbers (take (3 * n) ms) ++ bytes 4 f ++ bytes 4 g ≡ proof_file n t (proof_values n ms f g)
  whole =
      let e : numbers (f ∷ g ∷ []) ≡ bytes 4 f ++ bytes 4 g = numbers-append (f ∷ []) (g ∷ []) ∙ simp one in
      simp (append_assoc, numbers-append, e)

  four_runs : (l : List ℕ) → proof_size n ≤ length l
      → sets (sets (sets (sets l 0 (proof_header n t)) 10 (numbers (take (3 * n) ms))) (10 + 12 * n) (bytes 4 f)) (14 + 12 * n) (bytes 4 g)
      ≡ proof_file n t (proof_values n ms f g) ++ drop (proof_size n) l
  four_runs l k =
      rw (run _ _ _ _ (length_header n t), run _ _ _ _ length_first, run _ _ _ _ length_second, whole)
      (from_first (proof_file n t (proof_values n ms f g)) l (proof_size n) (length_file n t (proof_values n ms f g) length_values) k)

  -- through the buffers in between, as the code has them
  pub written : (l a b c d : List ℕ) → proof_size n ≤ length l
      → a ≡ sets l 0 (proof_header n t) → b ≡ sets a 10 (numbers (take (3 * n) ms)) → c ≡ sets b (10 + 12 * n) (bytes 4 f) → d ≡ sets c (14 + 12 * n) (bytes 4 g)
      → d ≡ proof_file n t (proof_values n ms f g) ++ drop (proof_size n) l
  written l a b c d hl ea eb ec ed = rw (ed, ec, eb, ea) (four_runs l hl)
