-- THE LAW OF A CHANGE PASS: to level i + 1 it does on its arrays what the machine of a pass to level i does, where two pairs that meet arrive as one.
use mathlib.Core.Path.{◌≡◌, refl, sym, ap, subst, ◌∙◌}
use mathlib.Core.Bool.{Bool, true, false, cond}
use mathlib.Core.List.{List, ◌∷◌}
use Prim.Native.Nat.{ℕ, zero, suc, ◌≤◌}
use native.Mathlib.Omega.{arith}
use lib.Dec.{eqb, ltb}
use lib.ListN.{get_or}
use borrow.Author.Tests.{eqb-true, eqb-false, ltb-true, ltb-false, eq-eqb, ne_eqb}
use Rattle.vector.specs.Vector.{at as items}
use Rattle.vector.specs.Fold.{Pair, combine, combine_pair}
use Rattle.vector.specs.Stack.{Stack}
use Rattle.vector.proofs.Machine.{enter}
use Rattle.kernel.specs.declared.Kernel.{Kernel}
use Rattle.kernel.specs.declared.Climber.{Climber}
use Rattle.kernel.specs.Kernel.{sums_in, kernel_with, may_rise, climb_from, climbed, climber_in}
use Rattle.kernel.specs.Change.{left, left_in}
use Rattle.kernel.specs.KernelView.{pairs_view, stack_pairs, Paired}
use Rattle.kernel.proofs.KernelSteps.{stays, at_last}
use Rattle.kernel.proofs.KernelTurns.{kernel_parts}
use Rattle.kernel.proofs.KernelArrays.{climber, cut_paired, push_pairs, push_paired}
use Rattle.kernel.proofs.KernelMachine.{no_top, differs, rises_on, climb_up}

-- The last arrival: a level, and the pair there.
abbrev pub Arrival : Type 0
Arrival = ℕ × Pair

abbrev pub arrives_at : ℕ → Pair → Arrival → Arrival
arrives_at level a m = (level, a)

-- two pairs that met at level i arrive at the next one
abbrev pub joins : ℕ → (ℕ → ℕ) → ℕ → Pair → Pair → Arrival → Arrival
joins p c i even odd m = (suc i, combine_pair p (c i) even odd)

abbrev pub arrival_of : Climber → Arrival
arrival_of c = (c.level, (c.f, c.g))

-- the kernel after a climber left or was pushed
abbrev pub left_kernel : ℕ → Kernel → Climber → Kernel
left_kernel last k c = kernel_with (left_in last k c) (sums_in k) k.evals

neither : (b c : Bool) → c ≡ false → cond b c false ≡ false
neither true c e = e
neither false c e = refl

-- a change pass to level 0 keeps nothing
pub lowest_climber : (p : ℕ) (cs : List ℕ) (k : Kernel) (f g : ℕ) → climber_in p cs 0 k f g ≡ climber k.fcount 0 f g
unfolding climbed
lowest_climber p cs k f g =
    stays p cs 0 k.flevels k.fvalues k.gvalues k.fcount (climber k.fcount 0 f g)
    (at_last p cs 0 k.flevels k.fvalues k.gvalues (climber k.fcount 0 f g) (omega arith))

pub lowest_kept : (p : ℕ) (cs : List ℕ) (k : Kernel) (f g : ℕ) → Paired k → left_kernel 0 k (climber_in p cs 0 k f g) ≡ k
unfolding left
lowest_kept p cs k f g pr = ap (left_kernel 0 k) (lowest_climber p cs k f g) ∙ kernel_parts k pr.counts

module _ (p : ℕ) (cs : List ℕ) (i : ℕ) (k : Kernel) (pr : Paired k) (some : k.fcount ≤ 15) where
  abbrev below : ℕ → Stack Pair
  below n = pairs_view k.flevels k.fvalues k.gvalues n

  abbrev climbs : ℕ → Climber → Climber
  climbs n c = climb_from p cs (suc i) k.flevels k.fvalues k.gvalues n c

  abbrev Has : Climber → Stack Pair × Arrival → Type 0
  Has c r = (r ≡ (stack_pairs (left_kernel (suc i) k c), arrival_of c)) × Paired (left_kernel (suc i) k c)

  pushes : (n level f g : ℕ) → n ≤ k.fcount → level ≤ i → Has (climber n level f g) ((level, (f, g)) ∷ below n, (level, (f, g)))
  unfolding left
  pushes n level f g h l =
      rw (ne_eqb level (suc i) (λ e. omega arith)) (
        ap (λ st. (st, (level, (f, g)))) (sym (push_pairs k pr n (sums_in k) k.evals h pr.evals level f g (omega arith))),
        push_paired k pr n (sums_in k) k.evals h pr.evals level f g (omega arith),
      )

  goes : (n f g : ℕ) → n ≤ k.fcount → Has (climber n (suc i) f g) (below n, (suc i, (f, g)))
  unfolding left
  goes n f g h = rw (eq-eqb (suc i) (suc i) refl) (refl, cut_paired k pr n (sums_in k) k.evals h pr.evals)

  stops : (n level f g : ℕ) → may_rise p cs (suc i) k.flevels k.fvalues k.gvalues (climber n level f g) ≡ false
      → (r : Stack Pair × Arrival) → Has (climber n level f g) r → Has (climbs n (climber n level f g)) r
  stops n level f g e r has =
      subst (λ c. Has c r) (sym (stays p cs (suc i) k.flevels k.fvalues k.gvalues n (climber n level f g) e)) has

  abbrev enters : ℕ → Pair → Stack Pair → Arrival → Stack Pair × Arrival
  enters level a st m = enter (combine_pair p) arrives_at (joins p (items cs) i) (items cs) i level a st m

  climb_law : (n level f g : ℕ) (m : Arrival) → n ≤ k.fcount → level ≤ i → Has (climbs n (climber n level f g)) (enters level (f, g) (below n) m)
  unfolding enter pairs_view
  climb_law zero level f g m hn hl = stops zero level f g (neither (ltb level (suc i)) _ (no_top k.flevels level)) _ (pushes 0 level f g hn hl)
  climb_law (suc n) level f g m hn hl =
      go (eqb level (get_or k.flevels n 0)) refl (ltb level i) refl (λ l. climb_law n (suc level) f' g' (level, (f, g)) (omega arith) l)
    where
      f' : ℕ
      f' = combine p (get_or cs level 0) f (get_or k.fvalues n 0)

      g' : ℕ
      g' = combine p (get_or cs level 0) g (get_or k.gvalues n 0)

      top : Pair
      top = (get_or k.fvalues n 0, get_or k.gvalues n 0)

      rise : level ≡ get_or k.flevels n 0 → climbs (suc n) (climber (suc n) level f g) ≡ climbs n (climber n (suc level) f' g')
      rise e =
          climb_up p cs (suc i) k.flevels k.fvalues k.gvalues n level f g
          (rises_on p cs (suc i) k.flevels k.fvalues k.gvalues n level f g e (omega arith))

      go : (same : Bool) → eqb level (get_or k.flevels n 0) ≡ same → (less : Bool) → ltb level i ≡ less
          → (suc level ≤ i → Has (climbs n (climber n (suc level) f' g')) (enters (suc level) (f', g') (below n) (level, (f, g))))
          → Has (climbs (suc n) (climber (suc n) level f g))
          (cond same
          (cond less (enters (suc level) (f', g') (below n) (level, (f, g))) (below n, joins p (items cs) i (f, g) top (level, (f, g))))
          ((level, (f, g)) ∷ below (suc n), (level, (f, g))))
      go true es true el rest =
          subst (λ c. Has c (enters (suc level) (f', g') (below n) (level, (f, g)))) (sym (rise (eqb-true _ _ es))) (rest (ltb-true level i el))
      go true es false el rest =
          let end : level ≡ i = omega (arith, ltb-false level i el) in
          subst (λ c. Has c (below n, joins p (items cs) i (f, g) top (level, (f, g)))) (sym (rise (eqb-true _ _ es)))
          (subst (λ l. Has (climbs n (climber n (suc level) f' g')) (below n, (suc l, combine_pair p (items cs l) (f, g) top))) end
          (subst (λ l. Has (climbs n (climber n (suc l) f' g')) (below n, (suc l, (f', g')))) (sym end)
          (stops n (suc i) f' g' (at_last p cs (suc i) k.flevels k.fvalues k.gvalues (climber n (suc i) f' g') (omega arith)) _
          (goes n f' g' (omega arith)))))
      go false es less el rest =
          stops (suc n) level f g (differs p cs (suc i) k.flevels k.fvalues k.gvalues n level f g (eqb-false _ _ es)) _ (pushes (suc n) level f g hn hl)

  -- ONE MORE PAIR: the stack, and where it arrives
  left-law : (f g : ℕ) (m : Arrival)
      → (let c : Climber = climber_in p cs (suc i) k f g in Has c (enters 0 (f, g) (stack_pairs k) m))
  unfolding climbed
  left-law f g m = climb_law k.fcount 0 f g m (omega arith) (omega arith)

  pub left-enter : (f g : ℕ) (m : Arrival)
      → (let c : Climber = climber_in p cs (suc i) k f g in
      enter (combine_pair p) arrives_at (joins p (items cs) i) (items cs) i 0 (f, g) (stack_pairs k) m ≡ (stack_pairs (left_kernel (suc i) k c), arrival_of c))
  left-enter f g m = (left-law f g m).0

  pub left-paired : (f g : ℕ) → Paired (left_kernel (suc i) k (climber_in p cs (suc i) k f g))
  left-paired f g = (left-law f g (0, (0, 0))).1
