-- What the function that makes a call hands back, as the result of a step.
use Rattle.std.specs.Prelude.{ℕ, List, []}
use Rattle.prover.specs.Records.{Step, out}
use Rattle.calls.specs.Step.{Result, lending, keeping}

abbrev pub result_of : Step → List ℕ → List ℕ → List ℕ → Result
result_of s f g file = keeping (lending f g file) (out s [] [])
