-- What the kernel of a small pass has when all N items were taken: message i, the end values, or an opening's evaluations.
use mathlib.Core.Path.{◌≡◌, sym, ap, ◌∙◌}
use mathlib.Core.Bool.{true}
use mathlib.Core.List.{[], ◌∷◌}
use mathlib.Core.Logic.{◌⊎◌, inl, inr, ⊎_elim}
use Prim.Native.Nat.{ℕ, suc, ◌/◌, ◌^◌, ◌<◌, ◌≤◌}
use native.Mathlib.Nat.{eq-or-lt_of_le}
use native.Mathlib.Omega.{arith}
use lib.ListN.{length, get_or}
use Rattle.algebra.specs.Mod.{neg_mod, mul_mod}
use Rattle.kernel.specs.declared.Points.{Points}
use Rattle.kernel.specs.declared.Evals.{Evals}
use Rattle.kernel.specs.declared.Kernel.{Kernel}
use Rattle.vector.specs.Rounds.{size}
use Rattle.vector.specs.Vector.{Vector}
use Rattle.vector.specs.Fold.{Pair, combine_pair, beside, fold, end_value}
use Rattle.vector.specs.Message.{message}
use Rattle.vector.specs.Opening.{evaluate, Triple, triple}
use Rattle.vector.specs.Stack.{Stack}
use Rattle.kernel.specs.KernelView.{pairs_view, stack_pairs, sums_of}
use Rattle.vector.proofs.Folds.{fold-beside}
use Rattle.vector.proofs.StackLaw.{entries-empty, entries-end}
use Rattle.vector.proofs.Passes.{whole-message}
use Rattle.vector.proofs.Horner.{horner, horner-end}
use Rattle.kernel.proofs.KernelArrays.{pairs_count}
use Rattle.kernel.proofs.KernelPass.{Taken, taken-room}

abbrev first_pair : Stack Pair → Pair
first_pair [] = (0, 0)
first_pair (e ∷ rest) = e.1

-- the values of fold l of f and of g at b, -b and b squared
pub record Values (p n : ℕ) (c : ℕ → ℕ) (f g : Vector) (b : ℕ) (e : Evals) (l : ℕ) : Type 0 where
  pub fpoint : get_or e.fpoint l 0 ≡ evaluate p (size n l) (fold p c l f) b
  pub fminus : get_or e.fminus l 0 ≡ evaluate p (size n l) (fold p c l f) (neg_mod p b)
  pub fsquare : get_or e.fsquare l 0 ≡ evaluate p (size n l) (fold p c l f) (mul_mod p b b)
  pub gpoint : get_or e.gpoint l 0 ≡ evaluate p (size n l) (fold p c l g) b
  pub gminus : get_or e.gminus l 0 ≡ evaluate p (size n l) (fold p c l g) (neg_mod p b)
  pub gsquare : get_or e.gsquare l 0 ≡ evaluate p (size n l) (fold p c l g) (mul_mod p b b)

abbrev pub triple_f : Evals → ℕ → Triple
triple_f e j = record { at_point = get_or e.fpoint j 0; at_minus = get_or e.fminus j 0; at_square = get_or e.fsquare (suc j) 0 }

abbrev pub triple_g : Evals → ℕ → Triple
triple_g e j = record { at_point = get_or e.gpoint j 0; at_minus = get_or e.gminus j 0; at_square = get_or e.gsquare (suc j) 0 }

module _ (p n : ℕ) (c : ℕ → ℕ) (at : Points) (f g : Vector) (k : Kernel) where
  -- A PASS FOR ROUND i
  module _ (i : ℕ) (h : Taken p n c i at f g (2 ^ n) k) where
    pub taken-message : i < n → sums_of k ≡ message p n c f g i
    taken-message less = h.sums less ∙ whole-message p (fold p c i f) (fold p c i g) (size n (suc i))

    pub taken-empty : i < n → k.fcount ≡ 0
    taken-empty less =
        sym (pairs_count k.flevels k.fvalues k.gvalues k.fcount) ∙ ap length (h.stack ∙ entries-empty (combine_pair p) c n (beside f g) i less)

  -- A PASS FOR THE ENDS OR OPENINGS
  module _ (h : Taken p n c n at f g (2 ^ n) k) where
    -- exactly one entry: fold n
    pub taken-end : stack_pairs k ≡ (n, (end_value p c n f, end_value p c n g)) ∷ []
    taken-end =
        h.stack ∙ entries-end (combine_pair p) c n (beside f g) ∙ ap (λ v. (n, v 0) ∷ []) (fold-beside p c f g n)

    pub taken-one : k.fcount ≡ 1
    taken-one = sym (pairs_count k.flevels k.fvalues k.gvalues k.fcount) ∙ ap length taken-end

    end_values : ◌≡◌ {A = Pair} (get_or k.fvalues 0 0, get_or k.gvalues 0 0) (end_value p c n f, end_value p c n g)
    unfolding pairs_view
    end_values = ap (λ m. first_pair (pairs_view k.flevels k.fvalues k.gvalues m)) (sym taken-one) ∙ ap first_pair taken-end

    pub taken-end_first : get_or k.fvalues 0 0 ≡ end_value p c n f
    taken-end_first = ap (λ e. e.0) end_values

    pub taken-end_second : get_or k.gvalues 0 0 ≡ end_value p c n g
    taken-end_second = ap (λ e. e.1) end_values

  -- AN OPENING at b
  module _ (b : ℕ) (on : at.on ≡ true) (point : at.point ≡ b) (minus : at.minus ≡ neg_mod p b) (square : at.square ≡ mul_mod p b b)
      (i : ℕ) (h : Taken p n c i at f g (2 ^ n) k) where
    value : (v : Vector) (l x y z : ℕ) → x ≡ y → z ≡ horner p x (fold p c l v) (size n l) (2 ^ n / 2 ^ l) → z ≡ evaluate p (size n l) (fold p c l v) y
    value v l x y z e r = r ∙ horner-end p x (fold p c l v) (size n l) ∙ ap (evaluate p (size n l) (fold p c l v)) e

    pub taken-values : (l : ℕ) → l ≤ i → Values p n c f g b k.evals l
    taken-values l hl =
        let e = h.evals on l hl in
        record {
          fpoint = value f l at.point b (get_or k.evals.fpoint l 0) point e.fpoint;
          fminus = value f l at.minus (neg_mod p b) (get_or k.evals.fminus l 0) minus e.fminus;
          fsquare = value f l at.square (mul_mod p b b) (get_or k.evals.fsquare l 0) square e.fsquare;
          gpoint = value g l at.point b (get_or k.evals.gpoint l 0) point e.gpoint;
          gminus = value g l at.minus (neg_mod p b) (get_or k.evals.gminus l 0) minus e.gminus;
          gsquare = value g l at.square (mul_mod p b b) (get_or k.evals.gsquare l 0) square e.gsquare;
        }

    -- the three values of each vector that are handed out for the folds j and j + 1
    pub taken-triples : (j : ℕ) → suc j ≤ i → (triple_f k.evals j ≡ triple p n c f b j) × (triple_g k.evals j ≡ triple p n c g b j)
    taken-triples j hj =
        let here = taken-values j (omega arith) in
        let up = taken-values (suc j) hj in
        (rw (here.fpoint, here.fminus, up.fsquare), rw (here.gpoint, here.gminus, up.gsquare))

-- whenever t of the N items were taken, fifteen places are enough
pub taken-fits : (p n : ℕ) (c : ℕ → ℕ) (i : ℕ) (at : Points) (f g : Vector) → n ≤ 15 → i ≤ n → (t : ℕ) → t ≤ 2 ^ n → (k : Kernel) → Taken p n c i at f g t k → k.fcount ≤ 15
taken-fits p n c i at f g hn hi t ht k h =
    ⊎_elim (λ (e : t ≡ 2 ^ n). whole (rw e at h) (eq-or-lt_of_le hi)) (λ (l : t < 2 ^ n). taken-room p n c i at f g hn hi t k l h) (eq-or-lt_of_le ht)
  where
    whole : Taken p n c i at f g (2 ^ n) k → (i ≡ n) ⊎ (i < n) → k.fcount ≤ 15
    whole h (inl e) = let one = taken-one p n c at f g k (rw e at h) in omega arith
    whole h (inr l) = let none = taken-empty p n c at f g k i h l in omega arith
