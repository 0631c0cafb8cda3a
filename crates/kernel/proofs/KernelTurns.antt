-- What one turn of a loop over pairs does, on local arrays.
use mathlib.Core.Path.{◌≡◌, refl, sym, ap, ap₂, ◌∙◌}
use mathlib.Core.Bool.{Bool, true, false, cond}
use mathlib.Core.List.{List}
use Prim.Native.Nat.{ℕ, zero, suc, ◌+◌, ◌-◌, ◌≤◌, ◌<◌}
use native.Mathlib.Numerals.{sub-one}
use native.Mathlib.Omega.{arith}
use lib.ListN.{get_or}
use Rattle.vector.specs.Vector.{Vector}
use Rattle.vector.specs.Fold.{combine}
use Rattle.kernel.specs.declared.Points.{Points}
use Rattle.kernel.specs.declared.Evals.{Evals}
use Rattle.kernel.specs.declared.Kernel.{Kernel}
use Rattle.vector.specs.declared.Message.{Message as Sums}
use Rattle.kernel.specs.declared.Climber.{Climber}
use Rattle.kernel.specs.Kernel.{StackArrays, stacks_in, sums_in, kernel_with, stepped, arrived, no_points, raised, may_rise, climb_from, evaluated_from, climber₀, climbed, evaluated, settled, sums_after, fits, climber_in, settled_in, sums_with, evals_in, entered, streamed}
use Rattle.kernel.specs.Change.{left, put_in, Placed, placed_of, placed_at, placed, placed_all}
use Rattle.kernel.proofs.KernelSteps.{stays, rises, evaluation_stays, evaluation_rises, fits-so}

-- a kernel with as many entries of g as of f is its parts
pub kernel_parts : (k : Kernel) → k.gcount ≡ k.fcount
    → kernel_with (stacks_in k.flevels k.fvalues k.glevels k.gvalues k.fcount) (sums_in k) k.evals ≡ k
kernel_parts k e =
    ap (λ n.
    record {
      flevels = k.flevels;
      fvalues = k.fvalues;
      fcount = k.fcount;
      glevels = k.glevels;
      gvalues = k.gvalues;
      gcount = n;
      even = k.even;
      cross = k.cross;
      odd = k.odd;
      evals = k.evals;
    })
    (sym e)

-- A PAIR goes up, or stops
module _ (p : ℕ) (cs : List ℕ) (last : ℕ) (at : Points) (ls fv gv : List ℕ) (count level a b : ℕ) (e e' : Evals)
    (step : e' ≡ arrived p at e level a b) where
  abbrev now : Climber
  now = record { count = count; level = level; f = a; g = b }

  pub goes_up : (a' b' : ℕ) → 0 < count → may_rise p cs last ls fv gv (record { count = count; level = level; f = a; g = b }) ≡ true
      → a' ≡ combine p (get_or cs level 0) a (get_or fv (count - 1) 0) → b' ≡ combine p (get_or cs level 0) b (get_or gv (count - 1) 0)
      → (let old : Climber = record { count = count; level = level; f = a; g = b } in
      let new : Climber = record { count = count - 1; level = level + 1; f = a'; g = b' } in
      (climb_from p cs last ls fv gv (count - 1) new ≡ climb_from p cs last ls fv gv count old)
      × (evaluated_from p cs last ls fv gv at (count - 1) new e' ≡ evaluated_from p cs last ls fv gv at count old e))
  goes_up a' b' some may ea eb =
      let same : ◌≡◌ {A = Climber} (record { count = count - 1; level = level + 1; f = a'; g = b' }) (raised p cs last ls fv gv now) =
      ap₂ (λ x y. record { count = count - 1; level = level + 1; f = x; g = y }) ea eb in (
        ap (climb_from p cs last ls fv gv (count - 1)) same ∙ sym (rises p cs last ls fv gv count now some may),
        ap₂ (evaluated_from p cs last ls fv gv at (count - 1)) same step ∙ sym (evaluation_rises p cs last ls fv gv at count now e some may),
      )

  pub comes_to_stop : may_rise p cs last ls fv gv (record { count = count; level = level; f = a; g = b }) ≡ false
      → (let old : Climber = record { count = count; level = level; f = a; g = b } in
      (old ≡ climb_from p cs last ls fv gv count old) × (e' ≡ evaluated_from p cs last ls fv gv at count old e))
  comes_to_stop stop = (
    sym (stays p cs last ls fv gv count now stop),
    step ∙ sym (evaluation_stays p cs last ls fv gv at count now e stop),
  )

-- A PASS THAT DOES NOT EVALUATE leaves the evaluations as they are
module _ (p : ℕ) (at : Points) (off : at.on ≡ false) where
  arrived-off : (e : Evals) (level f g : ℕ) → arrived p at e level f g ≡ e
  unfolding arrived
  arrived-off e level f g = ap (λ b. cond b (stepped p at e level f g) e) off

  module _ (cs : List ℕ) (last : ℕ) (ls fv gv : List ℕ) where
    same-off : (b : Bool) (x e : Evals) → x ≡ e → cond b x e ≡ e
    same-off true x e h = h
    same-off false x e h = refl

    from-off : (n : ℕ) (c : Climber) (e : Evals) → evaluated_from p cs last ls fv gv at n c e ≡ e
    unfolding evaluated_from
    from-off zero c e = arrived-off e c.level c.f c.g
    from-off (suc n) c e =
        let here = arrived-off e c.level c.f c.g in
        same-off (may_rise p cs last ls fv gv c) _ _ (from-off n (raised p cs last ls fv gv c) (arrived p at e c.level c.f c.g)) ∙ here

    pub evaluated-off : (count f g : ℕ) (e : Evals) → evaluated p cs last at ls fv gv count f g e ≡ e
    unfolding evaluated
    evaluated-off count f g e = from-off count (climber₀ count f g) e

  pub entered-off : (cs : List ℕ) (last : ℕ) (k : Kernel) (f g : ℕ) → (entered p cs last at k f g).evals ≡ k.evals
  unfolding entered
  entered-off cs last k f g = go (fits last k)
    where
      go : (b : Bool)
          → (cond b (kernel_with (settled_in last k (climber_in p cs last k f g)) (sums_with p last k (climber_in p cs last k f g)) (evals_in p cs last at k f g)) k).evals ≡ k.evals
      go true = evaluated-off cs last k.flevels k.fvalues k.gvalues k.fcount f g k.evals
      go false = refl

-- with whatever points
off_same : (p : ℕ) (at at' : Points) → at.on ≡ false → at'.on ≡ false → (cs : List ℕ) (last : ℕ) (k : Kernel) (f g : ℕ)
    → entered p cs last at k f g ≡ entered p cs last at' k f g
unfolding entered
off_same p at at' off off' cs last k f g =
    ap (λ e. cond (fits last k) (kernel_with (settled_in last k (climber_in p cs last k f g)) (sums_with p last k (climber_in p cs last k f g)) e) k)
    (evaluated-off p at off cs last k.flevels k.fvalues k.gvalues k.fcount f g k.evals
    ∙ sym (evaluated-off p at' off' cs last k.flevels k.fvalues k.gvalues k.fcount f g k.evals))

pub streamed-off : (p : ℕ) (at : Points) → at.on ≡ false → (cs : List ℕ) (last : ℕ) (f g : Vector) (m : ℕ) (k : Kernel)
    → streamed p cs last no_points f g m k ≡ streamed p cs last at f g m k
unfolding streamed
streamed-off p at off cs last f g zero k = refl
streamed-off p at off cs last f g (suc m) k =
    streamed-off p at off cs last f g m (entered p cs last no_points k (f m) (g m))
    ∙ ap (streamed p cs last at f g m) (off_same p no_points at refl off cs last k (f m) (g m))

-- WHERE NOTHING FITS nothing enters
module _ (p : ℕ) (cs : List ℕ) (last : ℕ) where
  pub entered-refused : (at : Points) (k : Kernel) (f g : ℕ) → fits last k ≡ false → entered p cs last at k f g ≡ k
  unfolding entered
  entered-refused at k f g e =
      ap (λ b. cond b (kernel_with (settled_in last k (climber_in p cs last k f g)) (sums_with p last k (climber_in p cs last k f g)) (evals_in p cs last at k f g)) k) e

  pub streamed-refused : (at : Points) (f g : Vector) (m : ℕ) (k : Kernel) → fits last k ≡ false → streamed p cs last at f g m k ≡ k
  unfolding streamed
  streamed-refused at f g zero k e = refl
  streamed-refused at f g (suc m) k e =
      ap (streamed p cs last at f g m) (entered-refused at k (f m) (g m) e) ∙ streamed-refused at f g m k e

  pub placed-refused : (size : ℕ) (a b : Vector) (m t : ℕ) (s : Placed) → fits last s.kernel ≡ false → placed_all p cs last size a b m t s ≡ s
  unfolding placed_all placed
  placed-refused size a b zero t s e = refl
  placed-refused size a b (suc m) t s e =
      ap (λ x. placed_all p cs last size a b m (t + 1) (cond x (placed_at last size t s (climber_in p cs last s.kernel (a m) (b m))) s)) e
      ∙ placed-refused size a b m (t + 1) s e

  -- WHERE IT FITS
  pub entered-fits : (at : Points) (k : Kernel) (f g : ℕ) → fits last k ≡ true
      → entered p cs last at k f g
      ≡ kernel_with (settled_in last k (climber_in p cs last k f g)) (sums_with p last k (climber_in p cs last k f g)) (evals_in p cs last at k f g)
  unfolding entered
  entered-fits at k f g e =
      ap (λ b. cond b (kernel_with (settled_in last k (climber_in p cs last k f g)) (sums_with p last k (climber_in p cs last k f g)) (evals_in p cs last at k f g)) k) e

  pub placed-fits : (size t : ℕ) (s : Placed) (f g : ℕ) → fits last s.kernel ≡ true
      → placed p cs last size t s f g ≡ placed_at last size t s (climber_in p cs last s.kernel f g)
  unfolding placed
  placed-fits size t s f g e = ap (λ b. cond b (placed_at last size t s (climber_in p cs last s.kernel f g)) s) e

  pub stream_end : (at : Points) (f g : Vector) (m : ℕ) (k : Kernel) → m ≡ 0 → k ≡ streamed p cs last at f g m k
  unfolding streamed
  stream_end at f g m k e = ap (λ m. streamed p cs last at f g m k) (sym e)

  pub place_end : (size : ℕ) (a b : Vector) (m t : ℕ) (s : Placed) → m ≡ 0 → s ≡ placed_all p cs last size a b m t s
  unfolding placed_all
  place_end size a b m t s e = ap (λ m. placed_all p cs last size a b m t s) (sym e)

  pub one-pair : (at : Points) (f g : Vector) (k : Kernel) (m : ℕ) → 0 < m
      → streamed p cs last at f g m k ≡ streamed p cs last at f g (m - 1) (entered p cs last at k (f (m - 1)) (g (m - 1)))
  unfolding streamed
  one-pair at f g k zero h = absurd (omega arith)
  one-pair at f g k (suc m) h = simp sub-one

  pub one_place : (size t : ℕ) (a b : Vector) (s : Placed) (m : ℕ) → 0 < m
      → placed_all p cs last size a b m t s ≡ placed_all p cs last size a b (m - 1) (t + 1) (placed p cs last size t s (a (m - 1)) (b (m - 1)))
  unfolding placed_all
  one_place size t a b s zero h = absurd (omega arith)
  one_place size t a b s (suc m) h = simp sub-one

  module _ (low : last ≤ 15) (fl fv gl gv : List ℕ) (count : ℕ) (room : count ≤ 16) (m : ℕ) (some : 0 < m) where
    -- the next pair of two slices
    pub next-pair : (at : Points) (f g : Vector) (sums : Sums) (evals : Evals) (c : Climber) (s : StackArrays) (sums' : Sums) (evals' : Evals)
        → c ≡ climbed p cs last fl fv gv count (f (m - 1)) (g (m - 1))
        → s ≡ settled fl fv gl gv last c
        → sums' ≡ sums_after p last fl fv gv sums c
        → evals' ≡ evaluated p cs last at fl fv gv count (f (m - 1)) (g (m - 1)) evals
        → streamed p cs last at f g (m - 1) (kernel_with s sums' evals')
        ≡ streamed p cs last at f g m (kernel_with (stacks_in fl fv gl gv count) sums evals)
    next-pair at f g sums evals c s sums' evals' ec es em ee =
        ap (streamed p cs last at f g (m - 1))
        (ap (λ s. kernel_with s sums' evals') (es ∙ ap (settled fl fv gl gv last) ec)
        ∙ ap₂ (kernel_with (settled fl fv gl gv last (climbed p cs last fl fv gv count (f (m - 1)) (g (m - 1)))))
        (em ∙ ap (sums_after p last fl fv gv sums) ec) ee
        ∙ sym (entered-fits at k (f (m - 1)) (g (m - 1)) (fits-so last count count low room refl)))
        ∙ sym (one-pair at f g k m some)
      where
        k : Kernel
        k = kernel_with (stacks_in fl fv gl gv count) sums evals

    -- the next pair of a change pass
    pub next_place : (size t : ℕ) (a b : Vector) (sums : Sums) (evals : Evals) (f g f' g' : List ℕ) (c : Climber) (s : StackArrays)
        → c ≡ climbed p cs last fl fv gv count (a (m - 1)) (b (m - 1))
        → s ≡ left last fl fv gl gv c
        → f' ≡ put_in size last t c.level c.f f
        → g' ≡ put_in size last t c.level c.g g
        → placed_all p cs last size a b (m - 1) (t + 1) (placed_of (kernel_with s sums evals) f' g')
        ≡ placed_all p cs last size a b m t (placed_of (kernel_with (stacks_in fl fv gl gv count) sums evals) f g)
    next_place size t a b sums evals f g f' g' c s ec es ef eg =
        ap (placed_all p cs last size a b (m - 1) (t + 1))
        (ap (λ s. placed_of (kernel_with s sums evals) f' g') es
        ∙ ap₂ (placed_of (kernel_with (left last fl fv gl gv c) sums evals)) ef eg
        ∙ ap (placed_at last size t here) ec
        ∙ sym (placed-fits size t here (a (m - 1)) (b (m - 1)) (fits-so last count count low room refl)))
        ∙ sym (one_place size t a b here m some)
      where
        here : Placed
        here = placed_of (kernel_with (stacks_in fl fv gl gv count) sums evals) f g
