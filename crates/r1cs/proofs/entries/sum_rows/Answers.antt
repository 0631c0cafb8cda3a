use mathlib.Core.Path.{◌≡◌, refl, sym, ap, ◌∙◌}
use Prim.Native.Nat.{◌≤◌}
use native.Mathlib.Omega.{arith}
use lib.ListN.{length, length-set}
use Rattle.vector.specs.Vector.{at}
use Rattle.vector.proofs.Overwrite.{overwrite-length}
use Rattle.r1cs.proofs.RowSums.{entry-step, all-added, none_added}
use Rattle.r1cs.proofs.EntryFound.{entry_read, entry-not_missing, row_below, column_below}
use Rattle.r1cs.proofs.entries.sum_rows.Goals as goal

pub loop-k-init : goal.loop-k-init
loop-k-init c =
    let s = c.args in
    (refl, none_added s.p s.size s.matrix.now (at s.z.now) s.out.now c.clear.new.out c.clear.ensures)

pub shape_of-out-in_default : goal.shape_of-out-in_default
shape_of-out-in_default c = absurd (entry-not_missing c.args.matrix.now c.loop-k.k (omega (arith, c.requires.long)) (sym c.in_default.is ∙ c.matrix_entry.ensures))

pub returns-in_default : goal.returns-in_default
returns-in_default c = absurd (entry-not_missing c.args.matrix.now c.loop-k.k (omega (arith, c.requires.long)) (sym c.in_default.is ∙ c.matrix_entry.ensures))

pub add_entry-requires : goal.add_entry-requires
add_entry-requires c =
    let s = c.args in
    let l = c.loop-k in
    let h = c.requires in
    let e = entry_read s.matrix.now l.k (omega (arith, h.long)) (sym c.in-Some.is ∙ c.matrix_entry.ensures) in
    let long : s.size ≤ length l.out = omega (arith, h.buffer, l.invariant.0, ap length c.clear.ensures ∙ overwrite-length (λ i. 0) s.out.now s.size) in
    let across : s.size ≤ length s.z.now = omega (arith, h.vector) in
    let row = row_below {n = s.size} e (h.rows l.k c.loop-k-test.true) in
    let column = column_below {n = s.size} e (h.columns l.k c.loop-k-test.true) in
    (omega (arith, row, column, long, across), omega (arith, row, column, long, across))

pub loop-k-preserved : goal.loop-k-preserved
loop-k-preserved c =
    let s = c.args in
    let l = c.loop-k in
    let h = c.requires in
    let e = entry_read s.matrix.now l.k (omega (arith, h.long)) (sym c.in-Some.is ∙ c.matrix_entry.ensures) in
    let long : s.size ≤ length c.clear.new.out = omega (arith, h.buffer, ap length c.clear.ensures ∙ overwrite-length (λ i. 0) s.out.now s.size) in
    let row = row_below {n = s.size} e (h.rows l.k c.loop-k-test.true) in
    let column = column_below {n = s.size} e (h.columns l.k c.loop-k-test.true) in (
      ap length c.add_entry.ensures ∙ simp length-set l.invariant.0,
      entry-step s.p s.size s.matrix.now (at s.z.now) l.k _ c.clear.new.out l.out _ e long row column l.invariant.1 c.add_entry.ensures,
    )

pub shape_of-out : goal.shape_of-out
shape_of-out c =
    let s = c.args in
    c.loop-k.invariant.0 ∙ ap length c.clear.ensures ∙ overwrite-length (λ i. 0) s.out.now s.size

pub returns : goal.returns
returns c =
    let s = c.args in
    let l = c.loop-k in
    let all : l.k ≡ s.count = omega arith in
    all-added s.p s.size s.matrix.now (at s.z.now) l.k s.out.now c.clear.new.out l.out (all ∙ c.requires.counted) c.clear.ensures l.invariant.1
