-- A trip whose items were answered: they are of the run's kind and within their limits, so that the exact total is the scalar product of
-- the vectors, and the verifier's running sums end at the end values.
use mathlib.Core.Path.{◌≡◌, refl, sym, ap, subst, ◌∙◌}
use mathlib.Core.Bool.{Bool, true, false, cond}
use mathlib.Core.List.{List, [], ◌∷◌}
use mathlib.Core.Logic.{⊎_elim}
use Prim.Native.Nat.{ℕ, suc, ◌*◌, ◌^◌, ◌≤◌, ◌<◌}
use native.Mathlib.Nat.{add_comm, eq-or-lt_of_le}
use native.Mathlib.Omega.{arith}
use lib.IntN.{ℤ, pos, ◌+ℤ◌, ◌*ℤ◌, +ℤ_comm}
use lib.ListN.{length, get_or}
use Rattle.algebra.specs.Mod.{residue, add_mod, mul_mod}
use Rattle.algebra.proofs.Congruence.{residue-small, residue-twice}
use Rattle.algebra.proofs.Laws.{add_commutes}
use Rattle.refusal.specs.Limit.{max_weight}
use Rattle.field.specs.Integer.{image}
use Rattle.field.proofs.Integers.{image-residue, image-step}
use Rattle.vector.specs.Vector.{Vector, at, sum, dot, weight}
use Rattle.vector.specs.Rounds.{size}
use Rattle.vector.specs.Fold.{combine, fold, end_value}
use Rattle.vector.specs.Slice.{fifteen}
use Rattle.vector.proofs.Sums.{sum_same, sum_first, running-product}
use Rattle.vector.proofs.Folds.{fold-challenges}
use Rattle.vector.proofs.Messages.{dot-padded}
use Rattle.vector.proofs.Overwrite.{fifteen-at}
use Rattle.vector.proofs.EndValues.{weighted, end_padded}
use Rattle.item.specs.declared.Start.{Start}
use Rattle.item.specs.declared.Given.{Given}
use Rattle.item.specs.declared.Given.TheVariants.{Reading, Numbers}
use Rattle.item.specs.Mark.{counts_as}
use Rattle.item.specs.Item.{contributes}
use Rattle.runs.specs.Trip.{Trip, trip_item, enters_as, vector_f, vector_g, worth, sum_of, total_of}

-- the claim before message i, and after the last: the scalar product of fold i
abbrev pub claim_of : ℕ → Trip → List ℕ → ℕ → ℕ
claim_of p T cs i =
    dot p (size T.start.rounds i) (fold p (at cs) i (vector_f p T)) (fold p (at cs) i (vector_g p T))

-- an item of the run's kind within its limits
abbrev pub Fine : ℕ → Bool → Given → Type 0
Fine p true (Reading z w) = w ≤ max_weight
Fine p true (Numbers x y) = ⊥
Fine p false (Reading z w) = ⊥
Fine p false (Numbers x y) = (x < p) × (y < p)

-- what holds below k and at k
pub below_suc : (P : ℕ → Type 0) (k : ℕ) → ((i : ℕ) → i < k → P i) → P k → (i : ℕ) → i < suc k → P i
below_suc P k below here i h = ⊎_elim (λ e. subst P (sym e) here) (below i) (eq-or-lt_of_le (at_most i k h))
  where
    at_most : (i k : ℕ) → i < suc k → i ≤ k
    at_most i k h = omega arith

-- the numbers that enter the sums
abbrev pub enters_f : ℕ → Trip → Vector
enters_f p T i = enters_as p T.start i (contributes p T.start (trip_item T i)).f

abbrev pub enters_g : ℕ → Trip → Vector
enters_g p T i = (contributes p T.start (trip_item T i)).g

module _ (p : ℕ) (large : max_weight < p) (s : Start) where
  fine-f : (kind : Bool) (k : ℕ) (x : Given) → Fine p kind x
      → residue p (cond kind (contributes p s x).f (mul_mod p (contributes p s x).f k)) ≡ cond kind (contributes p s x).f (mul_mod p (contributes p s x).f k)
  unfolding mul_mod
  fine-f true k (Reading z w) h = image-residue p (counts_as s.version z)
  fine-f true k (Numbers x y) h = absurd h
  fine-f false k x h = residue-twice p ((contributes p s x).f * k)

  fine-g : (kind : Bool) (x : Given) → Fine p kind x → residue p (contributes p s x).g ≡ (contributes p s x).g
  fine-g true (Reading z w) h = residue-small p w (omega arith)
  fine-g true (Numbers x y) h = absurd h
  fine-g false (Reading z w) h = absurd h
  fine-g false (Numbers x y) h = let less = h.1 in residue-small p y (omega arith)

  -- one item more
  worth-more : (x : Given) → Fine p true x → (t : ℤ) → image p (t +ℤ worth s x) ≡ add_mod p (image p t) (mul_mod p (contributes p s x).f (contributes p s x).g)
  worth-more (Reading z w) h t =
      let r = counts_as s.version z in
      ap (image p) (+ℤ_comm t (r *ℤ pos w)) ∙ image-step p r w t ∙ add_commutes p (mul_mod p (image p r) w) (image p t)
  worth-more (Numbers x y) h t = absurd h

  abbrev product : List Given → Vector
  product xs i = (contributes p s (get_or xs i (Numbers 0 0))).f * (contributes p s (get_or xs i (Numbers 0 0))).g

  sum-image : (xs : List Given) → ((i : ℕ) → i < length xs → Fine p true (get_or xs i (Numbers 0 0))) → image p (sum_of s xs) ≡ residue p (sum (length xs) (product xs))
  unfolding sum_of sum image
  sum-image [] h = refl
  sum-image (x ∷ xs) h =
      worth-more x (h 0 (omega arith)) (sum_of s xs)
      ∙ ap (λ t. add_mod p t (mul_mod p (contributes p s x).f (contributes p s x).g)) (sum-image xs (λ i l. h (suc i) (omega arith)))
      ∙ running-product p (sum (length xs) (product xs)) (contributes p s x).f (contributes p s x).g
      ∙ ap (residue p) (add_comm (sum (length xs) (product xs)) (product (x ∷ xs) 0) ∙ sym (sum_first (length xs) (product (x ∷ xs))))

module _ (p : ℕ) (large : max_weight < p) (T : Trip) (enough : T.start.items ≤ 2 ^ T.start.rounds)
    (fine : (i : ℕ) → i < T.start.items → Fine p T.start.plain (trip_item T i)) where
  abbrev L : ℕ
  L = T.start.items

  abbrev n : ℕ
  n = T.start.rounds

  -- THE TOTAL: "Its claim starts as the total"
  pub total-product : T.start.plain ≡ true → length T.items ≡ L → image p (total_of T) ≡ dot p (2 ^ n) (vector_f p T) (vector_g p T)
  total-product plain all =
      sum-image p large T.start T.items (λ i l. plain-fine i (omega arith))
      ∙ ap (λ k. residue p (sum k (product p large T.start T.items))) all
      ∙ ap (residue p)
      (sum_same L (product p large T.start T.items) (λ i. enters_f p T i * enters_g p T i) (λ i l. ap (λ x. x * enters_g p T i) (sym (untwisted i))))
      ∙ sym (dot-padded p L (2 ^ n) enough (enters_f p T) (enters_g p T))
    where
      plain-fine : (i : ℕ) → i < L → Fine p true (trip_item T i)
      plain-fine i l = rw plain at (fine i l)

      untwisted : (i : ℕ) → enters_f p T i ≡ (contributes p T.start (trip_item T i)).f
      untwisted i = ap (λ b. cond b (contributes p T.start (trip_item T i)).f (mul_mod p (contributes p T.start (trip_item T i)).f (weight p (at T.start.twists) n i))) plain

  -- THE SUMS ARE THE END VALUES
  module _ (few : n ≤ 15) (cs : List ℕ) (listed : length cs ≡ n) where
    agree : (k : ℕ) → k < n → at (fifteen n cs) k ≡ at cs k
    agree k l = fifteen-at n cs few (omega arith) k l

    pub end_f_lem : weighted p (at (fifteen n cs)) n (enters_f p T) L ≡ end_value p (at cs) n (vector_f p T)
    end_f_lem =
        sym (end_padded p (at (fifteen n cs)) n L (enters_f p T) enough
        (λ i l. fine-f p large T.start T.start.plain (weight p (at T.start.twists) n i) (trip_item T i) (fine i l)))
        ∙ fold-challenges (combine p) (at (fifteen n cs)) (at cs) (vector_f p T) n agree 0

    pub end_g_lem : weighted p (at (fifteen n cs)) n (enters_g p T) L ≡ end_value p (at cs) n (vector_g p T)
    end_g_lem =
        sym (end_padded p (at (fifteen n cs)) n L (enters_g p T) enough (λ i l. fine-g p large T.start T.start.plain (trip_item T i) (fine i l)))
        ∙ fold-challenges (combine p) (at (fifteen n cs)) (at cs) (vector_g p T) n agree 0
