use Rattle.pass.specs.Values.{triple_in}
use Rattle.pass.proofs.OpeningValues.{triple_stored}
use Rattle.pass.proofs.values.triples.Goals as goal

pub loop-j-preserved : goal.loop-j-preserved
loop-j-preserved c =
    let s = c.args in
    let l = c.loop-j in
    rw l.invariant (triple_stored (triple_in s.point s.minus s.square) s.values s.from l.j)
