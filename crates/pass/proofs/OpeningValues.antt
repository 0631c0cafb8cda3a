-- The stores that write an opening's values leave them in the first places, before zeros; and whose values they are.
use mathlib.Core.Path.{◌≡◌, refl, sym, ap, ap₂, ◌∙◌}
use mathlib.Core.Bool.{true}
use mathlib.Core.List.{List, [], ◌∷◌, ◌++◌}
use Prim.Native.Nat.{ℕ, zero, suc, ◌+◌, ◌-◌, ◌*◌, ◌^◌, ◌≤◌, ◌<◌}
use native.Mathlib.Nat.{add-zero, zero-add, add-suc, suc-add}
use native.Mathlib.Numerals.{add-one}
use native.Mathlib.Omega.{arith}
use borrow.Author.Tests.{le-ltb}
use lib.ListN.{length, get_or, set, drop, replicate, length-append, length-replicate, replicate-append-replicate}
use lib.Seq.{sets, sets-eq, drop_at}
use Rattle.algebra.specs.Mod.{neg_mod, mul_mod}
use Rattle.vector.specs.Vector.{Vector}
use Rattle.vector.specs.Opening.{Triple, triple, triple_values, opening}
use Rattle.kernel.specs.declared.Points.{Points}
use Rattle.kernel.specs.declared.Evals.{Evals}
use Rattle.kernel.specs.declared.Kernel.{Kernel}
use Rattle.kernel.proofs.KernelPass.{Taken}
use Rattle.kernel.proofs.KernelEnds.{taken-triples}
use Rattle.pass.specs.Values.{no_values, triple_in, opening_in, in_ninety, values_of}

-- one run of stores after another is one run
sets_append : (vs ws l : List ℕ) (i : ℕ) → sets (sets l i vs) (i + length vs) ws ≡ sets l i (vs ++ ws)
sets_append [] ws l i = simp add-zero
sets_append (v ∷ vs) ws l i = rw (add-suc i (length vs), ← suc-add i (length vs)) (sets_append vs ws _ (suc i))

abbrev three : Triple → List ℕ
three t = t.at_point ∷ t.at_minus ∷ t.at_square ∷ []

module _ (t : ℕ → Triple) where
  pub triples_length : (k m : ℕ) → length (triple_values t k m) ≡ 3 * m
  unfolding triple_values
  triples_length k zero = refl
  triples_length k (suc m) = omega (arith, triples_length (suc k) m)

  triples_last : (k m : ℕ) → triple_values t k (suc m) ≡ triple_values t k m ++ three (t (k + m))
  unfolding triple_values
  triples_last k zero = rw (add-zero k)
  triples_last k (suc m) =
      rw (add-suc k m, ← suc-add k m)
      (ap (λ rest. (t k).at_point ∷ (t k).at_minus ∷ (t k).at_square ∷ rest) (triples_last (suc k) m))

  -- one more triple stored
  pub triple_stored : (values : List ℕ) (from j : ℕ)
      → set (set (set (sets values from (triple_values t 0 j)) (from + 3 * j) (t j).at_point) (from + 3 * j + 1) (t j).at_minus) (from + 3 * j + 2) (t j).at_square
      ≡ sets values from (triple_values t 0 (j + 1))
  triple_stored values from j =
      let first : from + 3 * j ≡ from + length (triple_values t 0 j) = ap (λ n. from + n) (sym (triples_length 0 j)) in
      let second : from + 3 * j + 1 ≡ suc (from + length (triple_values t 0 j)) = omega arith in
      let third : from + 3 * j + 2 ≡ suc (suc (from + length (triple_values t 0 j))) = omega arith in
      rw (third, second, first)
      (sets_append (triple_values t 0 j) (three (t j)) values from
      ∙ ap (sets values from) (sym (triples_last 0 j ∙ ap (λ k. triple_values t 0 j ++ three (t k)) (zero-add j)) ∙ ap (triple_values t 0) (sym (add-one j))))

-- the triples of two vectors, one after the other, before zeros
pub both_stored : (s t : ℕ → Triple) (n : ℕ) → n ≤ 15
    → sets (sets no_values 0 (triple_values s 0 n)) (3 * n) (triple_values t 0 n) ≡ in_ninety n (triple_values s 0 n ++ triple_values t 0 n)
both_stored s t n few =
    let vs : List ℕ = triple_values s 0 n in
    let ws : List ℕ = triple_values t 0 n in
    let all : length (vs ++ ws) ≡ 6 * n = length-append vs ws ∙ omega (arith, triples_length s 0 n, triples_length t 0 n) in
    let from : 3 * n ≡ 0 + length vs = omega (arith, triples_length s 0 n) in
    let room : length no_values ≡ 90 = length-replicate {A = ℕ} 90 0 in
    let whole : 6 * n + (90 - 6 * n) ≡ 90 = omega arith in
    let rest : drop (6 * n) no_values ≡ replicate (90 - 6 * n) 0 =
    ap (λ m. drop (6 * n) (replicate m 0)) (sym whole)
    ∙ ap (drop (6 * n)) (sym (replicate-append-replicate {A = ℕ} (6 * n) (90 - 6 * n) 0))
    ∙ drop_at (replicate (6 * n) 0) (replicate (90 - 6 * n) 0) (6 * n) (length-replicate {A = ℕ} (6 * n) 0) in
    ap (λ at. sets (sets no_values 0 vs) at ws) from
    ∙ sets_append vs ws no_values 0
    ∙ sets-eq (vs ++ ws) no_values 0 (omega arith)
    ∙ ap (λ k. (vs ++ ws) ++ drop k no_values) (zero-add (length (vs ++ ws)) ∙ all)
    ∙ ap (λ r. (vs ++ ws) ++ r) rest

pub triples_same : (s t : ℕ → Triple) (k m : ℕ) → ((j : ℕ) → k ≤ j → j < k + m → s j ≡ t j) → triple_values s k m ≡ triple_values t k m
unfolding triple_values
triples_same s t k zero same = refl
triples_same s t k (suc m) same =
    rw (same k (omega arith) (omega arith), triples_same s t (suc k) m (λ j l h. same j (omega arith) (omega arith)))

next_level : (point minus square : List ℕ) (j : ℕ)
    → triple_in point minus square j ≡ record { at_point = get_or point j 0; at_minus = get_or minus j 0; at_square = get_or square (suc j) 0 }
next_level point minus square j = rw (add-one j)

-- A WHOLE OPENING PASS at b, to level n: the values are the opening at b.
module _ (p n : ℕ) (c : ℕ → ℕ) (at : Points) (f g : Vector) (k : Kernel) (b : ℕ) (on : at.on ≡ true) (point : at.point ≡ b)
    (minus : at.minus ≡ neg_mod p b) (square : at.square ≡ mul_mod p b b) (h : Taken p n c n at f g (2 ^ n) k) where
  pub taken-opening : opening_in k.evals n ≡ opening p n c f g b
  taken-opening =
      let each = taken-triples p n c at f g k b on point minus square n h in
      let e : Evals = k.evals in
      ap₂ ◌++◌
      (triples_same (triple_in e.fpoint e.fminus e.fsquare) (triple p n c f b) 0 n
      (λ j l m. next_level e.fpoint e.fminus e.fsquare j ∙ (each j (omega arith)).0))
      (triples_same (triple_in e.gpoint e.gminus e.gsquare) (triple p n c g b) 0 n
      (λ j l m. next_level e.gpoint e.gminus e.gsquare j ∙ (each j (omega arith)).1))

  pub taken-opened : n ≤ 15 → values_of k.evals n ≡ in_ninety n (opening p n c f g b)
  unfolding values_of
  taken-opened few = rw (le-ltb 15 n few, taken-opening)
