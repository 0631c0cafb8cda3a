-- How a climb goes on and where it stops, and what a top that is there tells.
use mathlib.Core.Path.{◌≡◌, refl, sym, ap, ◌∙◌}
use mathlib.Core.Bool.{Bool, true, false, cond, true≢false}
use mathlib.Core.List.{List}
use Prim.Native.Nat.{ℕ, zero, suc, ◌-◌, ◌≤◌, ◌<◌}
use native.Mathlib.Numerals.{sub-one}
use native.Mathlib.Omega.{arith}
use lib.Dec.{eqb, ltb}
use borrow.Author.Tests.{eq-eqb, ne_eqb, eqb-true, ltb-false, lt-ltb, le-ltb}
use Rattle.vector.specs.Vector.{bit}
use Rattle.kernel.specs.declared.Points.{Points}
use Rattle.kernel.specs.declared.Evals.{Evals}
use Rattle.kernel.specs.declared.Kernel.{Kernel}
use Rattle.kernel.specs.declared.Climber.{Climber}
use Rattle.kernel.specs.Kernel.{StackArrays, arrived, top_at, meets_at, raised, may_rise, climb_from, climbed, climber₀, evaluated_from, pushed, settled, stacks_fit, pushed_zero, padding_from}
use Rattle.kernel.specs.Change.{left}

-- a guard that must be false for the answer true
guarded : (b x : Bool) → cond b false x ≡ true → (b ≡ false) × (x ≡ true)
guarded true x e = absurd (true≢false (sym e))
guarded false x e = (refl, e)

both : (b x : Bool) → cond b x false ≡ true → (b ≡ true) × (x ≡ true)
both true x e = (refl, e)
both false x e = absurd (true≢false (sym e))

-- a top that is there has a place
pub top_place : (levels : List ℕ) (count level : ℕ) → top_at levels count level ≡ true → 1 ≤ count
unfolding top_at
top_place levels count level e = ltb-false count 1 (guarded (ltb count 1) _ e).0

pub meet_place : (last : ℕ) (levels : List ℕ) (c : Climber) → meets_at last levels c ≡ true → 1 ≤ c.count
unfolding meets_at
meet_place last levels c e = top_place levels c.count last (both (eqb c.level last) _ e).1

-- what fits
pub fits-facts : (last fcount gcount : ℕ) → stacks_fit last fcount gcount ≡ true → (last ≤ 15) × (fcount ≤ 16) × (gcount ≡ fcount)
unfolding stacks_fit
fits-facts last fcount gcount e =
    let a = guarded (ltb 15 last) _ e in
    let b = guarded (ltb 16 fcount) _ a.1 in
    (ltb-false 15 last a.0, ltb-false 16 fcount b.0, eqb-true gcount fcount b.1)

pub fits-so : (last fcount gcount : ℕ) → last ≤ 15 → fcount ≤ 16 → gcount ≡ fcount → stacks_fit last fcount gcount ≡ true
unfolding stacks_fit
fits-so last fcount gcount l f e = simp (le-ltb 15 last l, le-ltb 16 fcount f, eq-eqb gcount fcount e)

module _ (p : ℕ) (cs : List ℕ) (last : ℕ) (ls fv gv : List ℕ) where
  pub stays : (n : ℕ) (c : Climber) → may_rise p cs last ls fv gv c ≡ false → climb_from p cs last ls fv gv n c ≡ c
  unfolding climb_from
  stays zero c h = refl
  stays (suc n) c h = ap (λ b. cond b (climb_from p cs last ls fv gv n (raised p cs last ls fv gv c)) c) h

  pub rises : (n : ℕ) (c : Climber) → 0 < n → may_rise p cs last ls fv gv c ≡ true
      → climb_from p cs last ls fv gv n c ≡ climb_from p cs last ls fv gv (n - 1) (raised p cs last ls fv gv c)
  unfolding climb_from
  rises zero c pos h = absurd (omega arith)
  rises (suc n) c pos h =
      ap (λ b. cond b (climb_from p cs last ls fv gv n (raised p cs last ls fv gv c)) c) h
      ∙ ap (λ m. climb_from p cs last ls fv gv m (raised p cs last ls fv gv c)) (sym (sub-one (suc n)))

  -- the evaluations go the same way
  pub evaluation_stays : (at : Points) (n : ℕ) (c : Climber) (e : Evals) → may_rise p cs last ls fv gv c ≡ false
      → evaluated_from p cs last ls fv gv at n c e ≡ arrived p at e c.level c.f c.g
  unfolding evaluated_from
  evaluation_stays at zero c e h = refl
  evaluation_stays at (suc n) c e h =
      ap (λ b.
      cond b (evaluated_from p cs last ls fv gv at n (raised p cs last ls fv gv c) (arrived p at e c.level c.f c.g)) (arrived p at e c.level c.f c.g)) h

  pub evaluation_rises : (at : Points) (n : ℕ) (c : Climber) (e : Evals) → 0 < n → may_rise p cs last ls fv gv c ≡ true
      → evaluated_from p cs last ls fv gv at n c e
      ≡ evaluated_from p cs last ls fv gv at (n - 1) (raised p cs last ls fv gv c) (arrived p at e c.level c.f c.g)
  unfolding evaluated_from
  evaluation_rises at zero c e pos h = absurd (omega arith)
  evaluation_rises at (suc n) c e pos h =
      ap (λ b.
      cond b (evaluated_from p cs last ls fv gv at n (raised p cs last ls fv gv c) (arrived p at e c.level c.f c.g)) (arrived p at e c.level c.f c.g)) h
      ∙ ap (λ m. evaluated_from p cs last ls fv gv at m (raised p cs last ls fv gv c) (arrived p at e c.level c.f c.g)) (sym (sub-one (suc n)))

  -- the two reasons to stop
  pub at_last : (c : Climber) → last ≤ c.level → may_rise p cs last ls fv gv c ≡ false
  at_last c h = simp (le-ltb _ _ h)

  pub by_top : (c : Climber) → c.level < last → may_rise p cs last ls fv gv c ≡ top_at ls c.count c.level
  by_top c l = simp (lt-ltb _ _ l)

by_case : (b : Bool) (x c : Climber) → x.count ≤ c.count → (cond b x c).count ≤ c.count
by_case true x c h = h
by_case false x c h = omega arith

-- no more entries below than there were
climbs_down : (p : ℕ) (cs : List ℕ) (last : ℕ) (ls fv gv : List ℕ) (n : ℕ) (c : Climber) → (climb_from p cs last ls fv gv n c).count ≤ c.count
unfolding climb_from
climbs_down p cs last ls fv gv zero c = omega arith
climbs_down p cs last ls fv gv (suc n) c =
    by_case (may_rise p cs last ls fv gv c) (climb_from p cs last ls fv gv n (raised p cs last ls fv gv c)) c
    (omega (arith, climbs_down p cs last ls fv gv n (raised p cs last ls fv gv c)))

pub climbed-down : (p : ℕ) (cs : List ℕ) (last : ℕ) (ls fv gv : List ℕ) (count f g : ℕ) → (climbed p cs last ls fv gv count f g).count ≤ count
unfolding climbed
climbed-down p cs last ls fv gv count f g = climbs_down p cs last ls fv gv count (climber₀ count f g)

pick : (b : Bool) (x y : StackArrays) → (b ≡ true → x.count ≤ 16) → (b ≡ false → y.count ≤ 16) → (cond b x y).count ≤ 16
pick true x y f g = f refl
pick false x y f g = g refl

pub pushes-in : (fl fv gl gv : List ℕ) (c : Climber) → c.count ≤ 16 → (pushed fl fv gl gv c).count ≤ 16
pushes-in fl fv gl gv c h = pick (ltb 15 c.count) _ _ (λ e. h) (λ e. omega (arith, ltb-false 15 c.count e))

pub settles_in : (last : ℕ) (fl fv gl gv : List ℕ) (c : Climber) → c.count ≤ 16 → (settled fl fv gl gv last c).count ≤ 16
unfolding settled
settles_in last fl fv gl gv c h = pick (meets_at last fl c) _ _ (λ e. omega arith) (λ e. pushes-in fl fv gl gv c h)

pub leaves_in : (last : ℕ) (fl fv gl gv : List ℕ) (c : Climber) → c.count ≤ 16 → (left last fl fv gl gv c).count ≤ 16
unfolding left
leaves_in last fl fv gl gv c h = pick (eqb c.level last) _ _ (λ e. h) (λ e. pushes-in fl fv gl gv c h)

module _ (t : ℕ) where
  pub pads_one : (m : ℕ) (k : Kernel) → 0 < m → bit (m - 1) t ≡ 1 → padding_from t m k ≡ padding_from t (m - 1) (pushed_zero k (m - 1))
  unfolding padding_from
  pads_one zero k pos e = absurd (omega arith)
  pads_one (suc m) k pos e = let e' : bit m t ≡ 1 = rw sub-one at e in simp (sub-one, eq-eqb _ _ e')

  pub pads_none : (m : ℕ) (k : Kernel) → 0 < m → (bit (m - 1) t ≡ 1 → ⊥) → padding_from t m k ≡ padding_from t (m - 1) k
  unfolding padding_from
  pads_none zero k pos e = absurd (omega arith)
  pads_none (suc m) k pos e = let e' : bit m t ≡ 1 → ⊥ = rw sub-one at e in simp (sub-one, ne_eqb _ _ e')
