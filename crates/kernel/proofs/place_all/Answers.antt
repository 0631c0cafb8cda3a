use Prim.Native.Nat.{◌≤◌, ◌+◌, ◌-◌}
use mathlib.Core.Path.{refl, sym, ap, ap₂, ◌∙◌}
use native.Mathlib.Omega.{arith}
use lib.ListN.{get_or}
use Rattle.vector.specs.Vector.{at as item}
use Rattle.kernel.specs.declared.Climber.{Climber}
use Rattle.kernel.specs.Kernel.{StackArrays, stacks_in, sums_in, kernel_with, no_points}
use Rattle.kernel.specs.Change.{placed_of, placed_all}
use Rattle.kernel.proofs.KernelSteps.{fits-facts, climbed-down, leaves_in}
use Rattle.kernel.proofs.KernelTurns.{kernel_parts, evaluated-off, placed-refused, place_end, next_place}
use Rattle.kernel.proofs.place_all.Goals as goal

pub returns-then-not-stacks_fit : goal.returns-then-not-stacks_fit
returns-then-not-stacks_fit c =
    let s = c.args in
    sym (placed-refused s.p s.challenges s.last s.size (item s.a.now) (item s.b.now) _ s.taken (placed_of s.k s.f.now s.g.now) (sym c.stacks_fit.ensures ∙ c.if-not-stacks_fit.true))

pub loop-i-init : goal.loop-i-init
loop-i-init c =
    let s = c.args in
    let h = fits-facts s.last s.k.fcount s.k.gcount (sym c.stacks_fit.ensures ∙ c.if-not-stacks_fit.false) in
    (h.1, omega (arith, c.pairs-i.ensures.0), refl, ap₂ (λ m k. placed_all s.p s.challenges s.last s.size (item s.a.now) (item s.b.now) m s.taken (placed_of k s.f.now s.g.now)) c.pairs-i.ensures.0 (kernel_parts s.k h.2))

pub climb-c-requires : goal.climb-c-requires
climb-c-requires c =
    let s = c.args in
    let h = fits-facts s.last s.k.fcount s.k.gcount (sym c.stacks_fit.ensures ∙ c.if-not-stacks_fit.false) in
    (h.0, c.loop-i.invariant.0, refl)

pub put-requires : goal.put-requires
put-requires c =
    let s = c.args in
    (fits-facts s.last s.k.fcount s.k.gcount (sym c.stacks_fit.ensures ∙ c.if-not-stacks_fit.false)).0

pub leave-count-requires : goal.leave-count-requires
leave-count-requires c =
    let l = c.loop-i in
    let s = c.args in
    omega (arith, l.invariant.0, ap (λ (x : Climber). x.count) c.climb-c.ensures.0, climbed-down s.p s.challenges s.last l.stacks.flevels l.stacks.fvalues l.stacks.gvalues l.count (get_or s.a.now (l.i - 1) 0) (get_or s.b.now (l.i - 1) 0))

pub loop-i-preserved : goal.loop-i-preserved
loop-i-preserved c =
    let l = c.loop-i in
    let s = c.args in
    let k = l.stacks in
    let x = c.climb-c.result in
    let h = fits-facts s.last s.k.fcount s.k.gcount (sym c.stacks_fit.ensures ∙ c.if-not-stacks_fit.false) in
    let low : x.count ≤ 16 = omega (arith, l.invariant.0, ap (λ (x : Climber). x.count) c.climb-c.ensures.0, climbed-down s.p s.challenges s.last k.flevels k.fvalues k.gvalues l.count (get_or s.a.now (l.i - 1) 0) (get_or s.b.now (l.i - 1) 0)) in
    let evals = c.climb-c.ensures.1 ∙ evaluated-off s.p no_points refl s.challenges s.last k.flevels k.fvalues k.gvalues l.count _ _ l.evals in (
      omega (arith, ap (λ (x : StackArrays). x.count) c.leave-count.ensures, leaves_in s.last k.flevels k.fvalues k.glevels k.gvalues x low),
      omega (arith, l.invariant.1),
      evals ∙ l.invariant.2,
      ap (λ e. placed_all s.p s.challenges s.last s.size (item s.a.now) (item s.b.now) (l.i - 1) (l.t + 1) (placed_of (kernel_with (stacks_in c.leave-count.new.k.flevels c.leave-count.new.k.fvalues c.leave-count.new.k.glevels c.leave-count.new.k.gvalues c.leave-count.result) (sums_in s.k) e) c.put.new.f c.put.new.g)) evals
          ∙ next_place s.p s.challenges s.last h.0 k.flevels k.fvalues k.glevels k.gvalues l.count l.invariant.0 l.i (omega arith)
          s.size l.t (item s.a.now) (item s.b.now) (sums_in s.k) l.evals l.f l.g _ _ x _ c.climb-c.ensures.0 c.leave-count.ensures c.put.ensures.0 c.put.ensures.1
          ∙ l.invariant.3,
    )

pub returns : goal.returns
returns c =
    let l = c.loop-i in
    let s = c.args in
    place_end s.p s.challenges s.last s.size (item s.a.now) (item s.b.now) l.i l.t (placed_of (kernel_with (stacks_in l.stacks.flevels l.stacks.fvalues l.stacks.glevels l.stacks.gvalues l.count) (sums_in s.k) l.evals) l.f l.g) (omega arith)
    ∙ l.invariant.3
