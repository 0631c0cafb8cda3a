-- The evaluations of an opening pass: each of the six arrays takes a step of Horner's rule at each level that a pair comes to.
use mathlib.Core.Path.{◌≡◌, refl, sym, ap, ◌∙◌}
use mathlib.Core.Bool.{true, cond}
use mathlib.Core.List.{List}
use Prim.Native.Nat.{ℕ, suc, ◌/◌, ◌^◌, ◌<◌, ◌≤◌}
use native.Mathlib.Omega.{arith}
use lib.ListN.{length, get_or}
use lib.Seq.{get_or-set_same, get_or-set_other}
use Rattle.kernel.specs.declared.Points.{Points}
use Rattle.kernel.specs.declared.Evals.{Evals}
use Rattle.vector.specs.Rounds.{size}
use Rattle.vector.specs.Vector.{Vector}
use Rattle.vector.specs.Fold.{Pair, combine, combine_pair, beside, fold}
use Rattle.kernel.specs.Kernel.{horner_at, stepped, arrived}
use Rattle.kernel.specs.KernelView.{Sixteen}
use Rattle.vector.proofs.Machine.{gathered}
use Rattle.vector.proofs.Horner.{horner_step, horner, horner-step}
use Rattle.kernel.proofs.KernelMachine.{Gathered, arriving, meeting, arrived-sixteen}

module _ (p x : ℕ) (sums : List ℕ) (level item : ℕ) where
  other_level : (l : ℕ) → (level ≡ l → ⊥) → get_or (horner_at p x sums level item) l 0 ≡ get_or sums l 0
  unfolding horner_at
  other_level l ne = get_or-set_other sums level l _ 0 (λ e. ne (sym e))

  this_level : length sums ≡ 16 → level ≤ 15 → get_or (horner_at p x sums level item) level 0 ≡ horner_step p x (get_or sums level 0) item
  unfolding horner_at
  this_level e h = get_or-set_same sums level _ 0 (omega arith)

-- one of the six arrays: the values at x of the folds of one vector
module _ (p x : ℕ) (at : Points) (array : Evals → List ℕ) (image : Pair → ℕ)
    (respects : (c : ℕ) (even odd : Pair) → image (combine_pair p c even odd) ≡ combine p c (image even) (image odd))
    (sixteen : (e : Evals) → Sixteen e → length (array e) ≡ 16)
    (steps : (e : Evals) (level : ℕ) (a : Pair) → array (arrived p at e level a.0 a.1) ≡ horner_at p x (array e) level (image a)) where
  pub array_step : (c : ℕ → ℕ) (n : ℕ) (v : ℕ → Pair) (i l : ℕ) → l ≤ i → l ≤ 15 → (t : ℕ) → t < 2 ^ n → (m : Gathered) → Sixteen m.evals
      → get_or (array m.evals) l 0 ≡ horner p x (fold p c l (λ k. image (v k))) (size n l) (t / 2 ^ l)
      → get_or (array (gathered (combine_pair p) c n v (arriving p at) (meeting p) i 0 t m).evals) l 0
      ≡ horner p x (fold p c l (λ k. image (v k))) (size n l) (suc t / 2 ^ l)
  array_step c n v i l hi low t ht m s e =
      horner-step p x (combine_pair p) image respects c n v (arriving p at) (meeting p) (λ m. Sixteen m.evals) l (λ m. get_or (array m.evals) l 0)
      (λ k a m s. arrived-sixteen p at m.evals k a.0 a.1 s)
      (λ even odd m s. s)
      (λ k a m ne s. ap (λ xs. get_or xs l 0) (steps m.evals k a) ∙ other_level p x (array m.evals) k (image a) l ne)
      (λ even odd m s. refl)
      (λ a m s. ap (λ xs. get_or xs l 0) (steps m.evals l a) ∙ this_level p x (array m.evals) l (image a) (sixteen m.evals s) low)
      i hi t ht m s e

-- the six values at level l of the folds of f and g, after t of their N items
pub record Evaluated (p n : ℕ) (c : ℕ → ℕ) (at : Points) (f g : Vector) (t : ℕ) (e : Evals) (l : ℕ) : Type 0 where
  pub fpoint : get_or e.fpoint l 0 ≡ horner p at.point (fold p c l f) (size n l) (t / 2 ^ l)
  pub fminus : get_or e.fminus l 0 ≡ horner p at.minus (fold p c l f) (size n l) (t / 2 ^ l)
  pub fsquare : get_or e.fsquare l 0 ≡ horner p at.square (fold p c l f) (size n l) (t / 2 ^ l)
  pub gpoint : get_or e.gpoint l 0 ≡ horner p at.point (fold p c l g) (size n l) (t / 2 ^ l)
  pub gminus : get_or e.gminus l 0 ≡ horner p at.minus (fold p c l g) (size n l) (t / 2 ^ l)
  pub gsquare : get_or e.gsquare l 0 ≡ horner p at.square (fold p c l g) (size n l) (t / 2 ^ l)

-- a pass that evaluates
module _ (p : ℕ) (at : Points) (on : at.on ≡ true) where
  arrived-on : (e : Evals) (level : ℕ) (a : Pair) → arrived p at e level a.0 a.1 ≡ stepped p at e level a.0 a.1
  unfolding arrived
  arrived-on e level a = ap (λ b. cond b (stepped p at e level a.0 a.1) e) on

  pub evaluated-step : (c : ℕ → ℕ) (n : ℕ) (f g : Vector) (i l : ℕ) → l ≤ i → l ≤ 15 → (t : ℕ) → t < 2 ^ n → (m : Gathered) → Sixteen m.evals
      → Evaluated p n c at f g t m.evals l
      → Evaluated p n c at f g (suc t) (gathered (combine_pair p) c n (beside f g) (arriving p at) (meeting p) i 0 t m).evals l
  evaluated-step c n f g i l hi low t ht m s r =
      record {
        fpoint =
            array_step p at.point at (λ e. e.fpoint) (λ a. a.0) (λ c even odd. refl) (λ e s. s.fpoint) (λ e level a. ap (λ r. r.fpoint) (arrived-on e level a))
            c n (beside f g) i l hi low t ht m s r.fpoint;
        fminus =
            array_step p at.minus at (λ e. e.fminus) (λ a. a.0) (λ c even odd. refl) (λ e s. s.fminus) (λ e level a. ap (λ r. r.fminus) (arrived-on e level a))
            c n (beside f g) i l hi low t ht m s r.fminus;
        fsquare =
            array_step p at.square at (λ e. e.fsquare) (λ a. a.0) (λ c even odd. refl) (λ e s. s.fsquare) (λ e level a. ap (λ r. r.fsquare) (arrived-on e level a))
            c n (beside f g) i l hi low t ht m s r.fsquare;
        gpoint =
            array_step p at.point at (λ e. e.gpoint) (λ a. a.1) (λ c even odd. refl) (λ e s. s.gpoint) (λ e level a. ap (λ r. r.gpoint) (arrived-on e level a))
            c n (beside f g) i l hi low t ht m s r.gpoint;
        gminus =
            array_step p at.minus at (λ e. e.gminus) (λ a. a.1) (λ c even odd. refl) (λ e s. s.gminus) (λ e level a. ap (λ r. r.gminus) (arrived-on e level a))
            c n (beside f g) i l hi low t ht m s r.gminus;
        gsquare =
            array_step p at.square at (λ e. e.gsquare) (λ a. a.1) (λ c even odd. refl) (λ e s. s.gsquare) (λ e level a. ap (λ r. r.gsquare) (arrived-on e level a))
            c n (beside f g) i l hi low t ht m s r.gsquare;
      }
