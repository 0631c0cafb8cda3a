-- How a small pass opens: with nothing taken, or with its padding, zero pairs from item L on.
use mathlib.Core.Path.{◌≡◌, refl, sym, ap, ◌∙◌}
use Prim.Native.Nat.{ℕ, zero, suc, ◌+◌, ◌-◌, ◌*◌, ◌/◌, ◌^◌, ◌<◌, ◌≤◌}
use native.Mathlib.Nat.{le-div_iff_mul-le, zero-div}
use native.Mathlib.Omega.{arith}
use lib.ListN.{get_or, get_or-replicate}
use lib.Pow.{pow_pos, shr_mono}
use Rattle.kernel.specs.declared.Points.{Points}
use Rattle.kernel.specs.declared.Kernel.{Kernel}
use Rattle.vector.specs.Rounds.{size}
use Rattle.vector.specs.Vector.{Vector}
use Rattle.vector.specs.Fold.{combine, combine_pair, beside, fold}
use Rattle.vector.specs.Message.{Message}
use Rattle.kernel.specs.Kernel.{zeros, empty_kernel, padding_kernel}
use Rattle.vector.proofs.Rounds.{size-times}
use Rattle.vector.proofs.Folds.{fold-equal}
use Rattle.vector.proofs.StackLaw.{machine, gathered_all, stack_law}
use Rattle.vector.proofs.Passes.{no_message, add_pair, last_message, pass-sums}
use Rattle.vector.proofs.Padding.{zero-pair, no-pair, gathered-still}
use Rattle.vector.proofs.Horner.{horner, horner-zero}
use Rattle.kernel.proofs.KernelPadding.{empty_paired, empty_stack, padding-paired, padding-evals, padding-sums, padding-stack}
use Rattle.kernel.proofs.KernelEvals.{Evaluated}
use Rattle.kernel.proofs.KernelPass.{Taken}

-- Horner's rule over zeros
zeros-horner : (p x : ℕ) (v : Vector) (h q : ℕ) → ((j : ℕ) → j < q → v (h - suc j) ≡ 0) → horner p x v h q ≡ 0
unfolding horner
zeros-horner p x v h zero z = refl
zeros-horner p x v h (suc q) z = rw (zeros-horner p x v h q (λ j l. z j (omega arith)), z q (omega arith)) (horner-zero p x)

before-padding : (a d q t all items : ℕ) → a * (d + q) ≡ all → q * a ≤ t → t ≤ all - items → items ≤ all → items ≤ a * d
before-padding a d q t all items e l m fits = omega arith

-- the items of fold l that the padding completes are zero
pub padded-fold : (p : ℕ) (c : ℕ → ℕ) (n items : ℕ) (v : Vector) → items ≤ 2 ^ n → ((j : ℕ) → items ≤ j → v j ≡ 0)
    → (l : ℕ) → l ≤ n → (j : ℕ) → j < (2 ^ n - items) / 2 ^ l → fold p c l v (size n l - suc j) ≡ 0
padded-fold p c n items v fits z l hl j hj =
    let t : ℕ = 2 ^ n - items in
    let s : ℕ = size n l in
    let less : t / 2 ^ l ≤ s = shr_mono l (omega arith) in
    let e : (s - suc j) + suc j ≡ s = omega arith in
    let whole : 2 ^ l * ((s - suc j) + suc j) ≡ 2 ^ n = ap (λ x. 2 ^ l * x) e ∙ size-times n l hl in
    fold-equal (combine p) c 0 (λ x. ap (λ e. e.0) (zero-pair p x)) v items z l (s - suc j)
    (before-padding (2 ^ l) (s - suc j) (suc j) t (2 ^ n) items whole ((le-div_iff_mul-le (pow_pos l)).0 hj) (omega arith) fits)

module _ (p n : ℕ) (c : ℕ → ℕ) (i : ℕ) (at : Points) (f g : Vector) (hn : n ≤ 15) (hi : i ≤ n) where
  abbrev sums_at : ℕ → Message
  sums_at t = last_message p (fold p c i f) (fold p c i g) (size n (suc i)) (t / 2 ^ suc i)

  zero-evals : (t l : ℕ) → l ≤ 15 → (k : Kernel) → k.evals ≡ empty_kernel.evals
      → ((x : ℕ) → horner p x (fold p c l f) (size n l) (t / 2 ^ l) ≡ 0) → ((x : ℕ) → horner p x (fold p c l g) (size n l) (t / 2 ^ l) ≡ 0)
      → Evaluated p n c at f g t k.evals l
  zero-evals t l hl k e zf zg =
      let none : get_or zeros l 0 ≡ 0 = get_or-replicate 16 l 0 0 (omega arith) in
      rw e
      (record {
        fpoint = none ∙ sym (zf at.point);
        fminus = none ∙ sym (zf at.minus);
        fsquare = none ∙ sym (zf at.square);
        gpoint = none ∙ sym (zg at.point);
        gminus = none ∙ sym (zg at.minus);
        gsquare = none ∙ sym (zg at.square);
      })

  -- nothing taken
  none_horner : (v : Vector) (l x : ℕ) → horner p x (fold p c l v) (size n l) (0 / 2 ^ l) ≡ 0
  unfolding horner
  none_horner v l x = rw (zero-div (2 ^ l))

  none_sums : i < n → no_message ≡ sums_at 0
  unfolding gathered_all
  none_sums less =
      pass-sums p n c f g (λ k a m. m) (add_pair p) (λ m. m) (λ k a m. refl) (λ even odd m. refl) no_message refl i less 0 (omega arith)

  pub taken_none : Taken p n c i at f g 0 empty_kernel
  unfolding machine
  taken_none =
      record {
        paired = empty_paired;
        stack = empty_stack ∙ ap (λ r. r.0) (stack_law (combine_pair p) c n (beside f g) (λ k a m. m) (add_pair p) i hi no_message 0 (omega arith));
        sums = none_sums;
        evals = λ on l hl. zero-evals 0 l (omega arith) empty_kernel refl (none_horner f l) (none_horner g l);
      }

  -- the padding taken
  module _ (items : ℕ) (fits : items ≤ 2 ^ n) (zf : (j : ℕ) → items ≤ j → f j ≡ 0) (zg : (j : ℕ) → items ≤ j → g j ≡ 0) where
    zero-pairs : (j : ℕ) → items ≤ j → beside f g j ≡ (0, 0)
    zero-pairs j h = rw (zf j h, zg j h)

    padded-sums : i < n → no_message ≡ sums_at (2 ^ n - items)
    padded-sums less =
        sym
        (gathered-still (combine_pair p) c (0, 0) (zero-pair p) n (λ k a m. m) (add_pair p) i hi (beside f g) no_message (λ k. refl) (no-pair p)
        (2 ^ n - items) (omega arith) (λ j l. zero-pairs j (omega arith)))
        ∙ pass-sums p n c f g (λ k a m. m) (add_pair p) (λ m. m) (λ k a m. refl) (λ even odd m. refl) no_message refl i less (2 ^ n - items) (omega arith)

    pub taken-padding : Taken p n c i at f g (2 ^ n - items) (padding_kernel (2 ^ n - items) i)
    taken-padding =
        record {
          paired = padding-paired (2 ^ n - items) i (omega arith);
          stack = padding-stack p c n items (beside f g) hn fits zero-pairs i hi;
          sums = λ less. padding-sums (2 ^ n - items) i (omega arith) ∙ padded-sums less;
          evals = λ on l hl.
              zero-evals (2 ^ n - items) l (omega arith) (padding_kernel (2 ^ n - items) i) (padding-evals (2 ^ n - items) i (omega arith))
              (λ x. zeros-horner p x (fold p c l f) (size n l) ((2 ^ n - items) / 2 ^ l) (padded-fold p c n items f fits zf l (omega arith)))
              (λ x. zeros-horner p x (fold p c l g) (size n l) ((2 ^ n - items) / 2 ^ l) (padded-fold p c n items g fits zg l (omega arith)));
        }
