-- With twists of 1 a number enters f as it is.
use mathlib.Core.Path.{◌≡◌, refl, ap, ◌∙◌}
use mathlib.Core.Bool.{Bool, true, false, cond}
use Prim.Native.Nat.{ℕ, zero, suc, ◌≤◌}
use native.Mathlib.Nat.{mul-one}
use native.Mathlib.Omega.{arith}
use lib.Dec.{eqb}
use lib.ListN.{replicate, get_or-replicate}
use Rattle.algebra.specs.Mod.{residue, mul_mod}
use Rattle.algebra.proofs.Congruence.{cong_mul, cong_refl, cong_residue, residue-twice}
use Rattle.vector.specs.Vector.{at, bit, weight}
use Rattle.item.specs.Start.{untwisted_start}
use Rattle.item.specs.Item.{enters_as}

times-one : (p x : ℕ) → mul_mod p x (residue p 1) ≡ residue p x
unfolding mul_mod
times-one p x = (cong_mul (cong_refl x) (cong_residue 1)).residues ∙ ap (residue p) (mul-one x)

ones-weight : (p n i : ℕ) → n ≤ 15 → weight p (at (replicate 15 1)) n i ≡ residue p 1
unfolding weight mul_mod
ones-weight p zero i few = refl
ones-weight p (suc n) i few =
    rw (ones-weight p n i (omega arith), get_or-replicate {A = ℕ} 15 n 1 0 (omega arith), one-either (eqb (bit n i) 1), mul-one (residue p 1)) (residue-twice p 1)
  where
    one-either : (b : Bool) → ◌≡◌ {A = ℕ} (cond b 1 1) 1
    one-either true = refl
    one-either false = refl

pub enters_same : (p items i x : ℕ) → (untwisted_start items).rounds ≤ 15 → enters_as p (untwisted_start items) i x ≡ residue p x
enters_same p items i x few = ap (mul_mod p x) (ones-weight p (untwisted_start items).rounds i few) ∙ times-one p x
