-- The claim of a rule check: "the sum of (Cz)_i v^i", given to the verifier in place of the total.
use Rattle.std.specs.Prelude.{ℕ, ◌^◌, List, leb}
use Rattle.refusal.specs.Number as number
use Rattle.refusal.specs.Limit.{max_rounds}
use Rattle.refusal.specs.Outcome.{Outcome, answered, require}
use Rattle.vector.specs.Vector.{at}
use Rattle.vector.specs.Opening.{evaluate}
use Rattle.vector.specs.Slice.{is_nonzero}
use Rattle.r1cs.specs.Product.{rule_vector}

-- 3: "n above 15"; 6: v "outside 1..P-1"; 16
unfoldable pub claim_call : ℕ → List ℕ → ℕ → ℕ → Outcome ℕ
claim_call p cz rounds v =
    require (leb rounds max_rounds) number.count
    (require (is_nonzero p v) number.argument
    (require (rule_vector p (2 ^ rounds) cz) number.vector (answered (evaluate p (2 ^ rounds) (at cz) v))))
