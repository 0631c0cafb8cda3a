use mathlib.Core.Path.{◌≡◌, sym, ap, ◌∙◌}
use Prim.Native.Nat.{◌+◌}
use Rattle.kernel.specs.Change.{placed_of, placed}
use Rattle.kernel.specs.Kernel.{entered}
use Rattle.pass.specs.Take.{enters_in, entered_in, placed_in, stacked_in}
use Rattle.pass.proofs.Facts.{total_is, change_is}
use Rattle.pass.proofs.Taking.{takes-sum, takes-enter, takes-place}
use Rattle.pass.proofs.items.take_fitting.Goals as goal

pub returns-then-eq : goal.returns-then-eq
unfolding enters_in
returns-then-eq c = rw (c.sum.ensures, c.enters_as-a.ensures.few c.requires.0) (sym (takes-sum _ _ _ _ _ _ (total_is _ c.eq.ensures ∙ c.if-eq.true)))

pub returns-then-eq-2 : goal.returns-then-eq-2
unfolding enters_in placed_in
returns-then-eq-2 c =
    let s = c.args in
    let same : placed s.p s.stage.challenges c.level_of-level.result c.fold_size-size.result (c.padding_of.result + s.pass.taken) (placed_of c.kernel_of-k.result s.f.now s.g.now) c.enters_as-a.result s.x.g
    ≡ placed_in s.p s.stage s.pass (enters_in s.p s.stage s.pass s.x) s.x.g s.f.now s.g.now =
    rw (c.level_of-level.ensures, c.fold_size-size.ensures, c.padding_of.ensures, c.kernel_of-k.ensures, c.enters_as-a.ensures.few c.requires.0) in
    rw (c.with_kernel.ensures, c.one_more.ensures)
    (ap (stacked_in s.pass) (c.place-after.ensures ∙ same)
    ∙ sym (takes-place s.p s.stage s.pass s.x s.f.now s.g.now (total_is _ c.eq.ensures ∙ c.if-eq.false) (sym (change_is _ c.eq-2.ensures) ∙ c.if-eq-2.true)))

pub returns : goal.returns
unfolding enters_in entered_in
returns c =
    let s = c.args in
    let same : entered s.p s.stage.challenges c.level_of-level.result s.pass.points c.kernel_of-k.result c.enters_as-a.result s.x.g
    ≡ entered_in s.p s.stage s.pass (enters_in s.p s.stage s.pass s.x) s.x.g =
    rw (c.level_of-level.ensures, c.kernel_of-k.ensures, c.enters_as-a.ensures.few c.requires.0) in
    rw (c.with_kernel-2.ensures, c.one_more-2.ensures)
    (ap (λ k. stacked_in s.pass (placed_of k s.f.now s.g.now)) (c.enter-after.ensures ∙ same)
    ∙ sym (takes-enter s.p s.stage s.pass s.x s.f.now s.g.now (total_is _ c.eq.ensures ∙ c.if-eq.false) (sym (change_is _ c.eq-2.ensures) ∙ c.if-eq-2.false)))
