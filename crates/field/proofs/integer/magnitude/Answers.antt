use mathlib.Core.Path.{◌≡◌}
use native.Mathlib.Numerals.{add-one}
use native.Mathlib.Omega.{arith}
use lib.IntN.{pos, negsuc}
use mir.Syntax.{w64}
use mir.Val.{SFits, to_z, of_z}
use mir.Facts.{to_z-of_z}
use Rattle.field.proofs.Signed.{from-minus-one, negative, nonnegative}
use Rattle.field.proofs.integer.magnitude.Goals as goal

pub overflow_sub-result : goal.overflow_sub-result
overflow_sub-result c =
    let z = c.args.x in
    let s : to_z w64 (of_z w64 z) ≡ z = to_z-of_z c.ranges.x in
    let b = negative z c.ranges.x (simp s at c.if-x-lt0.true) in
    let e : z ≡ negsuc b.0 = b.1 in
    rw (s, e, from-minus-one) (record { sfits = omega (arith, b.2) })

pub overflow_cast-result : goal.overflow_cast-result
overflow_cast-result c =
    let z = c.args.x in
    let s : to_z w64 (of_z w64 z) ≡ z = to_z-of_z c.ranges.x in
    let b = negative z c.ranges.x (simp s at c.if-x-lt0.true) in
    let e : z ≡ negsuc b.0 = b.1 in
    let f : SFits w64 (pos b.0) = record { sfits = omega (arith, b.2) } in
    rw (s, e, from-minus-one, to_z-of_z f) (tt, record { fits = omega (arith, b.2) })

pub overflow_add-result : goal.overflow_add-result
overflow_add-result c =
    let z = c.args.x in
    let s : to_z w64 (of_z w64 z) ≡ z = to_z-of_z c.ranges.x in
    let b = negative z c.ranges.x (simp s at c.if-x-lt0.true) in
    let e : z ≡ negsuc b.0 = b.1 in
    let f : SFits w64 (pos b.0) = record { sfits = omega (arith, b.2) } in
    rw (s, e, from-minus-one, to_z-of_z f) (record { fits = omega (arith, b.2) })

pub overflow_cast-result-else-x-lt0 : goal.overflow_cast-result-else-x-lt0
overflow_cast-result-else-x-lt0 c =
    let z = c.args.x in
    let s : to_z w64 (of_z w64 z) ≡ z = to_z-of_z c.ranges.x in
    let b = nonnegative z c.ranges.x (simp s at c.if-x-lt0.false) in
    let e : z ≡ pos b.0 = b.1 in
    rw (s, e) (tt, record { fits = omega (arith, b.2) })

pub returns-then-x-lt0 : goal.returns-then-x-lt0
returns-then-x-lt0 c =
    let z = c.args.x in
    let s : to_z w64 (of_z w64 z) ≡ z = to_z-of_z c.ranges.x in
    let b = negative z c.ranges.x (simp s at c.if-x-lt0.true) in
    let e : z ≡ negsuc b.0 = b.1 in
    let f : SFits w64 (pos b.0) = record { sfits = omega (arith, b.2) } in
    rw (s, e, from-minus-one, to_z-of_z f) (add-one b.0)
