use mathlib.Core.Path.{◌≡◌, sym, ap, ◌∙◌}
use mathlib.Core.Bool.{true}
use Prim.Native.Nat.{◌≤◌}
use native.Mathlib.Omega.{arith}
use lib.ListN.{length}
use Rattle.std.proofs.lemmas.Grind.{common_steps}
use Rattle.refusal.specs.Refusal.{outcome}
use Rattle.r1cs.specs.Product.{rule_vector}
use Rattle.r1cs.proofs.Vectors.{vector-of}
use Rattle.r1cs.proofs.ProductRows.{size-read, fits-of}
use Rattle.r1cs.proofs.product_in.Goals as goal

pub sum_rows-requires : goal.sum_rows-requires
sum_rows-requires c =
    let s = c.args in
    let shape = c.in_ok-shape.shape in
    let m = c.size_of-size.result in
    let read = sym c.read_matrix_in.ensures ∙ ap outcome c.in_ok-shape.was in
    let a : rule_vector s.p m s.z.now ≡ true = grind (arith, common_steps) in
    let b : m ≤ length s.out.now = grind (arith, common_steps) in
    fits-of s.p s.matrix.now shape read m s.z.now s.out.now (c.size_of-size.ensures ∙ size-read s.p s.matrix.now shape read)
    (vector-of s.p m s.z.now a).long b
