use mathlib.Core.Path.{refl, ap, ◌∙◌}
use lib.ListN.{set}
use Rattle.trip.specs.Items.{f_at, g_at}
use Rattle.vector.proofs.Overwrite.{overwrite-next}
use Rattle.vector.specs.Slice.{overwrite}
use Rattle.trip.proofs.proving.lend.Goals as goal

pub loop-i-init : goal.loop-i-init
unfolding overwrite
loop-i-init c = (refl, refl)

pub loop-i-preserved : goal.loop-i-preserved
loop-i-preserved c = let l = c.loop-i in
    let s = c.args in (
      c.write.ensures ∙ ap (λ xs. set xs l.i c.item_at-item.result.f) l.invariant.0 ∙ ap (λ x. set (overwrite (f_at s.start s.log.now) l.i s.f.now) l.i x.f) c.item_at-item.ensures ∙ overwrite-next (f_at s.start s.log.now) s.f.now l.i,
      c.write-in-loop-i.ensures ∙ ap (λ xs. set xs l.i c.item_at-item.result.g) l.invariant.1 ∙ ap (λ x. set (overwrite (g_at s.start s.log.now) l.i s.g.now) l.i x.g) c.item_at-item.ensures ∙ overwrite-next (g_at s.start s.log.now) s.g.now l.i,
    )
