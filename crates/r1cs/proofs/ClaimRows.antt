-- The rows of claim_call, one by one, as the code reaches them.
use mathlib.Core.Path.{◌≡◌}
use mathlib.Core.Bool.{true, false}
use mathlib.Core.List.{List}
use Prim.Native.Nat.{ℕ, ◌^◌}
use lib.Dec.{leb}
use Rattle.refusal.specs.Number as number
use Rattle.refusal.specs.Limit.{max_rounds}
use Rattle.refusal.specs.Outcome.{answered, refused}
use Rattle.vector.specs.Vector.{at}
use Rattle.vector.specs.Opening.{evaluate}
use Rattle.vector.specs.Slice.{is_nonzero}
use Rattle.r1cs.specs.Product.{rule_vector}
use Rattle.r1cs.specs.Claim.{claim_call}

module _ (p : ℕ) (cz : List ℕ) (n v : ℕ) where
  pub claim-count : leb n max_rounds ≡ false → refused number.count ≡ claim_call p cz n v
  unfolding claim_call
  claim-count a = rw a

  module _ (a : leb n max_rounds ≡ true) where
    pub claim-argument : is_nonzero p v ≡ false → refused number.argument ≡ claim_call p cz n v
    unfolding claim_call
    claim-argument b = rw (a, b)

    module _ (b : is_nonzero p v ≡ true) where
      pub claim-vector : rule_vector p (2 ^ n) cz ≡ false → refused number.vector ≡ claim_call p cz n v
      unfolding claim_call
      claim-vector d = rw (a, b, d)

      pub claim-answered : rule_vector p (2 ^ n) cz ≡ true → answered (evaluate p (2 ^ n) (at cz) v) ≡ claim_call p cz n v
      unfolding claim_call
      claim-answered d = rw (a, b, d)
