use mathlib.Core.Path.{◌≡◌}
use Prim.Native.Nat.{◌≤◌, ◌^◌}
use native.Mathlib.Omega.{arith}
use lib.IntN.{nat_abs}
use borrow.Author.Tests.{le-leb, lt-leb}
use mir.Syntax.{w64}
use mir.Facts.{to_z-of_z}
use Rattle.field.specs.Total.{plus}
use Rattle.field.proofs.Signed.{sum_fits}
use Rattle.field.proofs.total.plus.Goals.{After-magnitude-2}
use Rattle.field.proofs.total.plus.Goals as goal

pub returns-then-magnitude-gt4611686018427387904 : goal.returns-then-magnitude-gt4611686018427387904
unfolding plus
returns-then-magnitude-gt4611686018427387904 c =
    let s = c.before.before in
    let m : c.magnitude.result ≡ nat_abs s.args.total = simp (to_z-of_z {w = w64} s.ranges.total) at c.magnitude.ensures in
    rw (to_z-of_z {w = w64} s.ranges.total, lt-leb (nat_abs s.args.total) (2 ^ 62) (omega (arith, m)))

-- the tests, in terms of the absolute values
total-small : (c : After-magnitude-2) → nat_abs c.args.total ≤ 2 ^ 62
total-small c =
    let s = c.before.before.before in
    let m : c.magnitude.result ≡ nat_abs s.args.total = simp (to_z-of_z {w = w64} s.ranges.total) at c.magnitude.ensures in
    omega (arith, m, c.if-magnitude-gt4611686018427387904.false)

worth-size : (c : After-magnitude-2) → c.magnitude-2.result ≡ nat_abs c.args.worth
worth-size c = simp (to_z-of_z {w = w64} c.ranges.worth) at c.magnitude-2.ensures

pub returns-then-magnitude-gt2305843009213693952 : goal.returns-then-magnitude-gt2305843009213693952
unfolding plus
returns-then-magnitude-gt2305843009213693952 c =
    let s = c.before.before.before.before in
    let m = worth-size c.before in
    rw (to_z-of_z {w = w64} s.ranges.total, le-leb (nat_abs s.args.total) (2 ^ 62) (total-small c.before), lt-leb (nat_abs s.args.worth) (2 ^ 61) (omega (arith, m)))

pub overflow_add-result : goal.overflow_add-result
overflow_add-result c =
    let s = c.before.before.before.before in
    let m = worth-size c.before in
    rw (to_z-of_z {w = w64} s.ranges.total, to_z-of_z {w = w64} s.ranges.worth)
    (sum_fits s.args.total s.args.worth (total-small c.before) (omega (arith, m)))

pub returns : goal.returns
unfolding plus
returns c =
    let s = c.before.before.before.before in
    let m = worth-size c.before in
    let small : nat_abs s.args.worth ≤ 2 ^ 61 = omega (arith, m) in
    rw (to_z-of_z {w = w64} s.ranges.total, to_z-of_z {w = w64} s.ranges.worth, to_z-of_z {w = w64} (sum_fits s.args.total s.args.worth (total-small c.before) small), le-leb (nat_abs s.args.total) (2 ^ 62) (total-small c.before), le-leb (nat_abs s.args.worth) (2 ^ 61) small)
