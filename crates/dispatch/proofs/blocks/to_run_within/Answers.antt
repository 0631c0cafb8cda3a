use Rattle.records.proofs.Lent.{lent_back}
use Rattle.dispatch.proofs.blocks.to_run_within.Goals as goal

pub returns : goal.returns
returns c =
    let s = c.args in
    let f = lent_back s.l.now.flent c.within-n.result s.f.now c.to_run.new.f c.within-n.ensures c.f-1.given.1 in
    let g = lent_back s.l.now.glent c.within-m.result s.g.now c.to_run.new.g c.within-m.ensures c.g-1.given.1 in
    (simp (f.part_left, g.part_left, ← f.lent, ← g.lent) c.to_run.ensures, f.rest, g.rest)
