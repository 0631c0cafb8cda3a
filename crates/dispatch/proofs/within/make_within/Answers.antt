use Rattle.records.proofs.Lent.{lent_back}
use Rattle.dispatch.proofs.within.make_within.Goals as goal

pub returns : goal.returns
returns c =
    let s = c.args in
    let f = lent_back s.flent c.within-n.result s.f.now c.make.new.f c.within-n.ensures c.f-1.given.1 in
    let g = lent_back s.glent c.within-m.result s.g.now c.make.new.g c.within-m.ensures c.g-1.given.1 in
    let k = lent_back s.size c.within-k.result s.file.now c.make.new.file c.within-k.ensures c.file-1.given.1 in
    (simp (f.part_left, g.part_left, k.part_left, ← f.lent, ← g.lent, ← k.lent) c.make.ensures, f.rest, g.rest, k.rest)
