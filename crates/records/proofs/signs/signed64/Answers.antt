use mathlib.Core.Bool.{Bool, true, false, cond}
use mathlib.Core.Path.{◌≡◌, refl, ap, ◌∙◌}
use Prim.Native.Nat.{ℕ, suc, ◌+◌, ◌*◌, ◌-◌}
use native.Mathlib.Omega.{arith}
use lib.Dec.{ltb}
use lib.IntN.{pos, negsuc}
use mir.Syntax.{w64}
use mir.Val.{sel, to_z, of_z}
use borrow.Author.Rules.{rules}
use Rattle.wire.specs.Number.{signed}
use Rattle.records.proofs.signs.signed64.Goals as goal

halves : (b : Bool) (v : ℕ) → sel b (pos v) (negsuc (18446744073709551616 - suc v)) ≡ cond b (pos v) (negsuc (18446744073709551615 - v))
halves true v = refl
halves false v = ap negsuc (omega arith)

pub returns : goal.returns
unfolding signed
returns c =
    let z = c.cast_signed.result in
    let v = c.args.high * 4294967296 + c.args.low in
    let t : to_z w64 (of_z w64 z) ≡ z = search rules in
    t ∙ c.cast_signed.ensures ∙ halves (ltb v 9223372036854775808) v
