use Prim.Native.Nat.{◌≤◌, ◌-◌}
use mathlib.Core.Path.{sym, ap, ap₂, ◌∙◌}
use native.Mathlib.Omega.{arith}
use lib.ListN.{get_or}
use Rattle.vector.specs.Vector.{at as item}
use Rattle.kernel.specs.declared.Climber.{Climber}
use Rattle.kernel.specs.Kernel.{StackArrays, stacks_in, kernel_with, streamed}
use Rattle.kernel.proofs.KernelSteps.{fits-facts, climbed-down, settles_in}
use Rattle.kernel.proofs.KernelTurns.{kernel_parts, streamed-refused, stream_end, next-pair}
use Rattle.kernel.proofs.enter.Goals as goal

pub returns-then-not-stacks_fit : goal.returns-then-not-stacks_fit
returns-then-not-stacks_fit g c =
    let s = c.args in
    sym (streamed-refused s.p s.challenges.now s.last s.at (item s.f.now) (item s.g.now) _ s.k (sym c.stacks_fit.ensures ∙ c.if-not-stacks_fit.true))

pub loop-i-init : goal.loop-i-init
loop-i-init g c =
    let s = c.args in
    let h = fits-facts s.last s.k.fcount s.k.gcount (sym c.stacks_fit.ensures ∙ c.if-not-stacks_fit.false) in
    (h.1, ap₂ (streamed s.p s.challenges.now s.last s.at (item s.f.now) (item s.g.now)) c.pairs-i.ensures.0 (kernel_parts s.k h.2))

pub climb-c-requires : goal.climb-c-requires
climb-c-requires g c =
    let s = c.args in
    let h = fits-facts s.last s.k.fcount s.k.gcount (sym c.stacks_fit.ensures ∙ c.if-not-stacks_fit.false) in
    (h.0, c.loop-i.invariant.0, c.requires)

pub settle-s-requires : goal.settle-s-requires
settle-s-requires g c =
    let l = c.loop-i in
    let s = c.args in
    omega (arith, l.invariant.0, ap (λ (x : Climber). x.count) c.climb-c.ensures.0, climbed-down s.p s.challenges.now s.last l.stacks.flevels l.stacks.fvalues l.stacks.gvalues l.count (get_or s.f.now (l.i - 1) 0) (get_or s.g.now (l.i - 1) 0))

pub loop-i-preserved : goal.loop-i-preserved
loop-i-preserved g c =
    let l = c.loop-i in
    let s = c.args in
    let k = l.stacks in
    let x = c.climb-c.result in
    let h = fits-facts s.last s.k.fcount s.k.gcount (sym c.stacks_fit.ensures ∙ c.if-not-stacks_fit.false) in
    let low : x.count ≤ 16 = omega (arith, l.invariant.0, ap (λ (x : Climber). x.count) c.climb-c.ensures.0, climbed-down s.p s.challenges.now s.last k.flevels k.fvalues k.gvalues l.count (get_or s.f.now (l.i - 1) 0) (get_or s.g.now (l.i - 1) 0)) in (
      omega (arith, ap (λ (x : StackArrays). x.count) c.settle-s.ensures.0, settles_in s.last k.flevels k.fvalues k.glevels k.gvalues x low),
      next-pair s.p s.challenges.now s.last h.0 k.flevels k.fvalues k.glevels k.gvalues l.count l.invariant.0 l.i (omega arith)
          s.at (item s.f.now) (item s.g.now) l.sums l.evals x _ _ _ c.climb-c.ensures.0 c.settle-s.ensures.0 c.settle-s.ensures.1 c.climb-c.ensures.1
          ∙ l.invariant.1,
    )

pub returns : goal.returns
returns g c =
    let l = c.loop-i in
    let s = c.args in
    stream_end s.p s.challenges.now s.last s.at (item s.f.now) (item s.g.now) l.i (kernel_with (stacks_in l.stacks.flevels l.stacks.fvalues l.stacks.glevels l.stacks.gvalues l.count) l.sums l.evals) (omega arith)
    ∙ l.invariant.1
