-- THE LAW OF THE KERNEL: on its arrays it does what the machine of a small pass does on lists of pairs.
use mathlib.Core.Path.{◌≡◌, refl, sym, ap, subst, ◌∙◌}
use mathlib.Core.Bool.{Bool, true, false, cond}
use mathlib.Core.List.{List, ◌∷◌}
use Prim.Native.Nat.{ℕ, zero, suc, ◌≤◌, ◌<◌}
use native.Mathlib.Numerals.{add-one, sub-one}
use native.Mathlib.Omega.{arith}
use lib.Dec.{eqb, ltb}
use lib.ListN.{length, get_or, length-set}
use borrow.Author.Tests.{eqb-true, eqb-false, ltb-true, ltb-false, eq-eqb, ne_eqb, le-ltb}
use Rattle.vector.specs.Vector.{at as items}
use Rattle.vector.specs.Fold.{Pair, combine, combine_pair}
use Rattle.vector.specs.Message.{Message}
use Rattle.vector.specs.Stack.{Stack}
use Rattle.vector.proofs.Machine.{enter}
use Rattle.vector.proofs.Passes.{add_pair}
use Rattle.kernel.specs.declared.Points.{Points}
use Rattle.kernel.specs.declared.Evals.{Evals}
use Rattle.kernel.specs.declared.Kernel.{Kernel}
use Rattle.kernel.specs.declared.Climber.{Climber}
use Rattle.kernel.specs.Kernel.{sums_in, kernel_with, horner_at, stepped, arrived, top_at, raised, may_rise, climb_from, climbed, evaluated_from, evaluated, meets_at, summed, settled, sums_after, settled_in, sums_with, entered}
use Rattle.kernel.specs.KernelView.{pairs_view, stack_pairs, sums_of, Sixteen, Paired}
use Rattle.kernel.proofs.KernelSteps.{fits-so, stays, evaluation_stays, at_last, by_top}
use Rattle.kernel.proofs.KernelTurns.{entered-fits}
use Rattle.kernel.proofs.KernelArrays.{climber, cut_paired, push_pairs, push_paired}

-- What the machine gathers: the sums of the pairs that met, and the evaluations.
pub record Gathered : Type 0 where
  pub sums : Message
  pub evals : Evals

abbrev pub arriving : ℕ → Points → ℕ → Pair → Gathered → Gathered
arriving p at level a m = record { sums = m.sums; evals = arrived p at m.evals level a.0 a.1 }

abbrev pub meeting : ℕ → Pair → Pair → Gathered → Gathered
meeting p even odd m = record { sums = add_pair p even odd m.sums; evals = m.evals }

abbrev pub gathering : Kernel → Gathered
gathering k = record { sums = sums_of k; evals = k.evals }

-- one step of Horner's rule keeps the sixteen places
horner-length : (p x : ℕ) (sums : List ℕ) (level item : ℕ) → length sums ≡ 16 → length (horner_at p x sums level item) ≡ 16
unfolding horner_at
horner-length p x sums level item e = length-set sums level _ ∙ e

pub arrived-sixteen : (p : ℕ) (at : Points) (e : Evals) (level f g : ℕ) → Sixteen e → Sixteen (arrived p at e level f g)
unfolding arrived
arrived-sixteen p at e level f g s = go at.on
  where
    go : (b : Bool) → Sixteen (cond b (stepped p at e level f g) e)
    go true =
        record {
          fpoint = horner-length p at.point e.fpoint level f s.fpoint;
          fminus = horner-length p at.minus e.fminus level f s.fminus;
          fsquare = horner-length p at.square e.fsquare level f s.fsquare;
          gpoint = horner-length p at.point e.gpoint level g s.gpoint;
          gminus = horner-length p at.minus e.gminus level g s.gminus;
          gsquare = horner-length p at.square e.gsquare level g s.gsquare;
        }
    go false = s

neither : (b c : Bool) → c ≡ false → cond b c false ≡ false
neither true c e = e
neither false c e = refl

-- whether a pair rises, meets or is pushed is told by the top's level
pub top_is : (levels : List ℕ) (n level : ℕ) → top_at levels (suc n) level ≡ eqb (get_or levels n 0) level
unfolding top_at
top_is levels n level = rw (sub-one (suc n), le-ltb (suc n) 1 (omega arith))

pub no_top : (levels : List ℕ) (level : ℕ) → top_at levels 0 level ≡ false
unfolding top_at
no_top levels level = refl

module _ (p : ℕ) (cs : List ℕ) (last : ℕ) (ls fv gv : List ℕ) where
  -- one pair up
  abbrev up_f : ℕ → ℕ → ℕ → ℕ
  up_f n level f = combine p (get_or cs level 0) f (get_or fv n 0)

  abbrev up_g : ℕ → ℕ → ℕ → ℕ
  up_g n level g = combine p (get_or cs level 0) g (get_or gv n 0)

  up : (n level f g : ℕ) → raised p cs last ls fv gv (climber (suc n) level f g) ≡ climber n (suc level) (up_f n level f) (up_g n level g)
  up n level f g = rw (sub-one (suc n), add-one level)

  pub differs : (n level f g : ℕ) → (level ≡ get_or ls n 0 → ⊥) → may_rise p cs last ls fv gv (climber (suc n) level f g) ≡ false
  differs n level f g ne = neither (ltb level last) _ (top_is ls n level ∙ ne_eqb _ level (λ e. ne (sym e)))

  pub rises_on : (n level f g : ℕ) → level ≡ get_or ls n 0 → level < last → may_rise p cs last ls fv gv (climber (suc n) level f g) ≡ true
  rises_on n level f g e l = by_top p cs last ls fv gv (climber (suc n) level f g) l ∙ top_is ls n level ∙ eq-eqb _ level (sym e)

  pub climb_up : (n level f g : ℕ) → may_rise p cs last ls fv gv (climber (suc n) level f g) ≡ true
      → climb_from p cs last ls fv gv (suc n) (climber (suc n) level f g)
      ≡ climb_from p cs last ls fv gv n (climber n (suc level) (combine p (get_or cs level 0) f (get_or fv n 0)) (combine p (get_or cs level 0) g (get_or gv n 0)))
  unfolding climb_from
  climb_up n level f g e =
      ap (λ b. cond b (climb_from p cs last ls fv gv n (raised p cs last ls fv gv (climber (suc n) level f g))) (climber (suc n) level f g)) e
      ∙ ap (climb_from p cs last ls fv gv n) (up n level f g)

  evaluation_up : (at : Points) (n level f g : ℕ) (e : Evals) → may_rise p cs last ls fv gv (climber (suc n) level f g) ≡ true
      → evaluated_from p cs last ls fv gv at (suc n) (climber (suc n) level f g) e
      ≡ evaluated_from p cs last ls fv gv at n (climber n (suc level) (up_f n level f) (up_g n level g)) (arrived p at e level f g)
  unfolding evaluated_from
  evaluation_up at n level f g e h =
      ap (λ b. cond b (evaluated_from p cs last ls fv gv at n (raised p cs last ls fv gv (climber (suc n) level f g)) (arrived p at e level f g)) (arrived p at e level f g)) h
      ∙ ap (λ c. evaluated_from p cs last ls fv gv at n c (arrived p at e level f g)) (up n level f g)

module _ (p : ℕ) (cs : List ℕ) (last : ℕ) (at : Points) (k : Kernel) (pr : Paired k) (some : k.fcount ≤ 15) (low : last ≤ 15) where
  abbrev below : ℕ → Stack Pair
  below n = pairs_view k.flevels k.fvalues k.gvalues n

  abbrev climbs : ℕ → Climber → Climber
  climbs n c = climb_from p cs last k.flevels k.fvalues k.gvalues n c

  abbrev evaluates : ℕ → Climber → Evals → Evals
  evaluates n c e = evaluated_from p cs last k.flevels k.fvalues k.gvalues at n c e

  -- the kernel after a climber settled
  abbrev after : Climber → Evals → Kernel
  after c e = kernel_with (settled_in last k c) (sums_with p last k c) e

  -- the machine has what it has
  abbrev Has : Climber → Evals → Stack Pair × Gathered → Type 0
  Has c e r = (r ≡ (stack_pairs (after c e), gathering (after c e))) × Paired (after c e)

  settles_pushed : (n level f g : ℕ) (e : Evals) → n ≤ k.fcount → Sixteen e → meets_at last k.flevels (climber n level f g) ≡ false
      → Has (climber n level f g) e ((level, (f, g)) ∷ below n, record { sums = sums_of k; evals = e })
  unfolding settled sums_after
  settles_pushed n level f g e h s m =
      rw m (
        ap (λ st. (st, record { sums = sums_of k; evals = e })) (sym (push_pairs k pr n (sums_in k) e h s level f g (omega arith))),
        push_paired k pr n (sums_in k) e h s level f g (omega arith),
      )

  settles_met : (n level f g : ℕ) (e : Evals) → suc n ≤ k.fcount → Sixteen e → meets_at last k.flevels (climber (suc n) level f g) ≡ true
      → Has (climber (suc n) level f g) e
      (below n, meeting p (f, g) (get_or k.fvalues n 0, get_or k.gvalues n 0) (record { sums = sums_of k; evals = e }))
  unfolding settled sums_after summed
  settles_met n level f g e h s m = rw (m, sub-one (suc n)) (refl, cut_paired k pr n _ e (omega arith) s)

  abbrev enters : ℕ → Pair → Stack Pair → Gathered → Stack Pair × Gathered
  enters level a st m = enter (combine_pair p) (arriving p at) (meeting p) (items cs) last level a st m

  not_met : (n level f g : ℕ) → (level ≡ get_or k.flevels n 0 → ⊥) → meets_at last k.flevels (climber (suc n) level f g) ≡ false
  unfolding meets_at
  not_met n level f g ne = go (eqb level last) refl
    where
      go : (b : Bool) → eqb level last ≡ b → cond b (top_at k.flevels (suc n) last) false ≡ false
      go true e = top_is k.flevels n last ∙ ne_eqb _ last (λ e'. ne (eqb-true level last e ∙ sym e'))
      go false e = refl

  alone : (level f g : ℕ) → meets_at last k.flevels (climber 0 level f g) ≡ false
  unfolding meets_at
  alone level f g = neither (eqb level last) _ (no_top k.flevels last)

  both-last : (n level f g : ℕ) → level ≡ get_or k.flevels n 0 → level ≡ last → meets_at last k.flevels (climber (suc n) level f g) ≡ true
  unfolding meets_at
  both-last n level f g e l = rw (eq-eqb level last l) (top_is k.flevels n last ∙ eq-eqb _ last (sym e ∙ l))

  stops : (n level f g : ℕ) (e : Evals) → may_rise p cs last k.flevels k.fvalues k.gvalues (climber n level f g) ≡ false
      → (r : Stack Pair × Gathered) → Has (climber n level f g) (arrived p at e level f g) r → Has (climbs n (climber n level f g)) (evaluates n (climber n level f g) e) r
  stops n level f g e h r has =
      subst (λ c. Has c (evaluates n (climber n level f g) e) r) (sym (stays p cs last k.flevels k.fvalues k.gvalues n (climber n level f g) h))
      (subst (λ x. Has (climber n level f g) x r) (sym (evaluation_stays p cs last k.flevels k.fvalues k.gvalues at n (climber n level f g) e h)) has)

  climb_law : (n level f g : ℕ) (e : Evals) (m : Gathered) → n ≤ k.fcount → level ≤ last → Sixteen e
      → m ≡ record { sums = sums_of k; evals = e }
      → Has (climbs n (climber n level f g)) (evaluates n (climber n level f g) e) (enters level (f, g) (below n) m)
  unfolding enter pairs_view
  climb_law zero level f g e m hn hl s em =
      stops zero level f g e (neither (ltb level last) _ (no_top k.flevels level)) _
      (rw em (settles_pushed 0 level f g (arrived p at e level f g) hn (arrived-sixteen p at e level f g s) (alone level f g)))
  climb_law (suc n) level f g e m hn hl s em =
      go (eqb level (get_or k.flevels n 0)) refl (ltb level last) refl
      (λ l. climb_law n (suc level) f' g' e' (arriving p at level (f, g) m) (omega arith) l (arrived-sixteen p at e level f g s) (ap (arriving p at level (f, g)) em))
    where
      f' : ℕ
      f' = combine p (get_or cs level 0) f (get_or k.fvalues n 0)

      g' : ℕ
      g' = combine p (get_or cs level 0) g (get_or k.gvalues n 0)

      e' : Evals
      e' = arrived p at e level f g

      here : Gathered
      here = record { sums = sums_of k; evals = e' }

      arrives : arriving p at level (f, g) m ≡ here
      arrives = ap (arriving p at level (f, g)) em

      go : (same : Bool) → eqb level (get_or k.flevels n 0) ≡ same → (less : Bool) → ltb level last ≡ less
          → (suc level ≤ last → Has (climbs n (climber n (suc level) f' g')) (evaluates n (climber n (suc level) f' g') e') (enters (suc level) (f', g') (below n) (arriving p at level (f, g) m)))
          → Has (climbs (suc n) (climber (suc n) level f g)) (evaluates (suc n) (climber (suc n) level f g) e)
          (cond same
          (cond less (enters (suc level) (f', g') (below n) (arriving p at level (f, g) m))
          (below n, meeting p (f, g) (get_or k.fvalues n 0, get_or k.gvalues n 0) (arriving p at level (f, g) m)))
          ((level, (f, g)) ∷ below (suc n), arriving p at level (f, g) m))
      go true es true el rest =
          let may = rises_on p cs last k.flevels k.fvalues k.gvalues n level f g (eqb-true _ _ es) (ltb-true _ _ el) in
          subst (λ c. Has c (evaluates (suc n) (climber (suc n) level f g) e) (enters (suc level) (f', g') (below n) (arriving p at level (f, g) m)))
          (sym (climb_up p cs last k.flevels k.fvalues k.gvalues n level f g may))
          (subst (λ x. Has (climbs n (climber n (suc level) f' g')) x (enters (suc level) (f', g') (below n) (arriving p at level (f, g) m)))
          (sym (evaluation_up p cs last k.flevels k.fvalues k.gvalues at n level f g e may))
          (rest (ltb-true level last el)))
      go true es false el rest =
          let end : level ≡ last = omega (arith, ltb-false level last el) in
          stops (suc n) level f g e (at_last p cs last k.flevels k.fvalues k.gvalues (climber (suc n) level f g) (ltb-false level last el)) _
          (subst (λ x. Has (climber (suc n) level f g) e' (below n, meeting p (f, g) (get_or k.fvalues n 0, get_or k.gvalues n 0) x)) (sym arrives)
          (settles_met n level f g e' hn (arrived-sixteen p at e level f g s) (both-last n level f g (eqb-true _ _ es) end)))
      go false es less el rest =
          stops (suc n) level f g e (differs p cs last k.flevels k.fvalues k.gvalues n level f g (eqb-false _ _ es)) _
          (subst (λ x. Has (climber (suc n) level f g) e' ((level, (f, g)) ∷ below (suc n), x)) (sym arrives)
          (settles_pushed (suc n) level f g e' hn (arrived-sixteen p at e level f g s) (not_met n level f g (eqb-false _ _ es))))

  is_after : (f g : ℕ) → entered p cs last at k f g ≡ after (climbs k.fcount (climber k.fcount 0 f g)) (evaluates k.fcount (climber k.fcount 0 f g) k.evals)
  unfolding climbed evaluated
  is_after f g = entered-fits p cs last at k f g (fits-so last k.fcount k.gcount low pr.room pr.counts)

  -- ONE MORE PAIR: the stack, the sums and the evaluations
  entered-law : (f g : ℕ)
      → (let q : Kernel = entered p cs last at k f g in (enters 0 (f, g) (stack_pairs k) (gathering k) ≡ (stack_pairs q, gathering q)) × Paired q)
  entered-law f g =
      subst (λ q. (enters 0 (f, g) (stack_pairs k) (gathering k) ≡ (stack_pairs q, gathering q)) × Paired q) (sym (is_after f g))
      (climb_law k.fcount 0 f g k.evals (gathering k) (omega arith) (omega arith) pr.evals refl)

  pub entered-enter : (f g : ℕ)
      → (let q : Kernel = entered p cs last at k f g in
      enter (combine_pair p) (arriving p at) (meeting p) (items cs) last 0 (f, g) (stack_pairs k) (gathering k) ≡ (stack_pairs q, gathering q))
  entered-enter f g = (entered-law f g).0

  pub entered-paired : (f g : ℕ) → Paired (entered p cs last at k f g)
  entered-paired f g = (entered-law f g).1
