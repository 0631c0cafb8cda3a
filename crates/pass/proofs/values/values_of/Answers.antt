use borrow.Author.Tests.{le-ltb}
use Rattle.pass.specs.Values.{values_of}
use Rattle.pass.proofs.OpeningValues.{both_stored}
use Rattle.pass.proofs.values.values_of.Goals as goal

pub returns : goal.returns
unfolding values_of
returns c =
    let few = c.if-rounds-gt-MAX_ROUNDS.false in
    rw (le-ltb _ _ few, c.triples.ensures, c.triples-half.ensures) (both_stored _ _ _ few)
