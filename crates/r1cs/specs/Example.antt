-- The matrix (0 11; 7 0), its 11 given as 5 and 6, times (3, 4).
use Rattle.std.specs.Prelude.{ℕ, ◌≡◌, refl, List, [], ◌∷◌, set}
use Rattle.algebra.specs.Mod.{residue}
use Rattle.refusal.specs.Outcome.{answered, refused, refused_at, require_all}
use Rattle.vector.specs.Vector.{sum}
use Rattle.vector.specs.Slice.{overwrite, every}
use Rattle.wire.specs.Number.{num, num_at}
use Rattle.wire.specs.Header.{marked}
use Rattle.wire.specs.Matrix.{in_order, read_matrix}
use Rattle.r1cs.specs.Product.{addend, matrix_in, rule_vector, after_shape, product_call, product_in}
use Rattle.r1cs.specs.Claim.{claim_call}

abbrev P : ℕ
P = 2147483647

abbrev file : List ℕ
file =
    82 ∷ 86 ∷ 77 ∷ 1 ∷ 0 ∷ 1 ∷ 3 ∷ 0 ∷ 0 ∷ 0 ∷ 1 ∷ 0 ∷ 5 ∷ 0 ∷ 0 ∷ 0 ∷ 0 ∷ 0 ∷ 1 ∷ 0 ∷ 6 ∷ 0 ∷ 0 ∷ 0 ∷ 1 ∷ 0 ∷ 0 ∷ 0 ∷ 7 ∷ 0 ∷ 0 ∷ 0 ∷ []

pub added : matrix_in file 0 1 ≡ 11
unfolding addend sum num_at num
added = refl

pub no_entry : matrix_in file 1 1 ≡ 0
unfolding addend sum num_at num
no_entry = refl

pub answers : product_call P file (3 ∷ 4 ∷ []) (9 ∷ 9 ∷ 9 ∷ []) ≡ answered 1
unfolding after_shape rule_vector every read_matrix marked num_at num require_all in_order
answers = refl

-- 11·4 and 7·3; the third place is kept
pub multiplies : product_in P file (3 ∷ 4 ∷ []) (9 ∷ 9 ∷ 9 ∷ []) (answered 1) ≡ 44 ∷ 21 ∷ 9 ∷ []
unfolding product_in overwrite addend sum residue num_at num
multiplies = refl

-- 1·(P - 1) and 6·(P - 1) are added modulo P: P - 7
pub reduces : product_in P (set file 12 1) (3 ∷ 2147483646 ∷ []) (9 ∷ 9 ∷ []) (answered 1) ≡ 2147483640 ∷ 21 ∷ []
unfolding product_in overwrite addend sum residue num_at num
reduces = refl

-- "value 0", "rule vector's length not 2^n", "a number P or more", a buffer "shorter than the .. product"
pub zero_value : product_call P (set file 20 0) (3 ∷ 4 ∷ []) (9 ∷ 9 ∷ []) ≡ refused_at 15 1
unfolding after_shape rule_vector every read_matrix marked num_at num require_all in_order
zero_value = refl

pub long-vector : product_call P file (3 ∷ 4 ∷ 5 ∷ []) (9 ∷ 9 ∷ []) ≡ refused 16
unfolding after_shape rule_vector every read_matrix marked num_at num require_all in_order
long-vector = refl

pub unreduced_vector : product_call P file (3 ∷ P ∷ []) (9 ∷ []) ≡ refused 16
unfolding after_shape rule_vector every read_matrix marked num_at num require_all in_order
unreduced_vector = refl

pub short-buffer : product_call P file (3 ∷ 4 ∷ []) (9 ∷ []) ≡ refused 9
unfolding after_shape rule_vector every read_matrix marked num_at num require_all in_order
short-buffer = refl

-- 44 + 21·10: the first item on power 0
pub claim : claim_call P (44 ∷ 21 ∷ []) 1 10 ≡ answered 254
unfolding claim_call rule_vector every sum residue
claim = refl

pub claim-zero_point : claim_call P (44 ∷ 21 ∷ []) 1 0 ≡ refused 6
unfolding claim_call
claim-zero_point = refl

pub claim-vector : claim_call P (44 ∷ 21 ∷ []) 2 10 ≡ refused 16
unfolding claim_call rule_vector every
claim-vector = refl
