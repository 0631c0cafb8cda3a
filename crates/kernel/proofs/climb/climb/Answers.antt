use mathlib.Core.Path.{sym, ◌∙◌}
use native.Mathlib.Omega.{arith}
use Rattle.kernel.specs.declared.Climber.{Climber}
use mathlib.Core.Path.{◌≡◌}
use mathlib.Core.Bool.{false}
use Rattle.kernel.specs.Kernel.{may_rise, climbed, evaluated}
use Rattle.kernel.proofs.KernelSteps.{top_place, at_last, by_top}
use Rattle.kernel.proofs.KernelTurns.{goes_up, comes_to_stop}
use Rattle.kernel.proofs.climb.climb.Goals as goal
use Rattle.kernel.proofs.climb.climb.Goals.{then-level-last-via-then-level-last, then-level-last-via-else-level-last+then-not-top_at}

pub overflow_sub-count : goal.overflow_sub-count
overflow_sub-count g c = top_place _ _ _ (sym c.top_at.ensures ∙ c.if-not-top_at.false)

pub loop-level-smaller : goal.loop-level-smaller
loop-level-smaller g c = omega (arith, top_place _ _ _ (sym c.top_at.ensures ∙ c.if-not-top_at.false))

pub loop-level-preserved : goal.loop-level-preserved
loop-level-preserved g c =
    let l = c.loop-level in
    let s = c.args in
    let k = s.k.now in
    let now : Climber = record { count = l.count; level = l.level; f = l.a; g = l.b } in
    let top = sym c.top_at.ensures ∙ c.if-not-top_at.false in
    let may = by_top s.p s.challenges.now s.last k.flevels k.fvalues k.gvalues now c.if-level-last.false ∙ top in
    let up = goes_up s.p s.challenges.now s.last s.at k.flevels k.fvalues k.gvalues l.count l.level l.a l.b _ _ c.arrive.ensures _ _ (top_place _ _ _ top) may c.add_mul-a.ensures c.add_mul-b.ensures in
    (omega (arith, l.invariant.0), omega (arith, c.if-level-last.false), up.0 ∙ l.invariant.2, up.1 ∙ l.invariant.3)

pub returns : goal.returns
unfolding climbed evaluated
returns g c =
    let l = c.loop-level in
    let s = c.args in
    let k = s.k.now in
    let now : Climber = record { count = l.count; level = l.level; f = l.a; g = l.b } in
    let end : may_rise s.p s.challenges.now s.last k.flevels k.fvalues k.gvalues now ≡ false = elim c.then-level-last.branch [
      | then-level-last-via-then-level-last w ↦ at_last s.p s.challenges.now s.last k.flevels k.fvalues k.gvalues now w.if-level-last.true
      | then-level-last-via-else-level-last+then-not-top_at w ↦ by_top s.p s.challenges.now s.last k.flevels k.fvalues k.gvalues now w.if-level-last.false ∙ sym w.top_at.ensures ∙ w.if-not-top_at.true
    ] in
    let stop = comes_to_stop s.p s.challenges.now s.last s.at k.flevels k.fvalues k.gvalues l.count l.level l.a l.b _ _ c.arrive.ensures end in
    (stop.0 ∙ l.invariant.2, stop.1 ∙ l.invariant.3)
