use Prim.Native.Nat.{◌*◌, ◌≤◌}
use mathlib.Core.Path.{◌≡◌, sym, ap, ◌∙◌}
use native.Mathlib.Omega.{arith}
use borrow.Author.Tests.{leb-true}
use mir.Facts.{to_z-of_z}
use mir.Val.{to_z, of_z}
use mir.Syntax.{w64}
use lib.Dec.{leb}
use lib.ListN.{length}
use Rattle.refusal.specs.Limit.{max_rounds}
use Rattle.refusal.specs.Outcome.{answered}
use Rattle.refusal.proofs.Outcome.{passed}
use Rattle.field.specs.Total.{in_limits}
use Rattle.wire.specs.Proof.{proof_size, written_in}
use Rattle.wire.proofs.Writes.{written}
use Rattle.wire.proofs.WriteRows.{within_limit, row_written}
use Rattle.wire.proofs.proof.write_proof_in.Goals as goal

pub put_header-requires : goal.put_header-requires
put_header-requires c =
    let s = c.args in
    let z : to_z w64 (of_z w64 s.total) ≡ s.total = to_z-of_z c.ranges.total in
    let t2 = passed _ _ _ (sym c.require-2.ensures ∙ c.in_ok-require-2.was) in
    let t6 = passed _ _ _ (sym c.require-6.ensures ∙ c.in_ok-require-6.was) in
    (omega (arith, leb-true c.proof_size-size.result (length s.file.now) t6, c.proof_size-size.ensures), rw z (omega (arith, within_limit s.p s.total (sym (c.within.ensures ∙ ap (in_limits s.p) z) ∙ t2))))

pub returns : goal.returns
unfolding written_in
returns c =
    let s = c.args in
    let z : to_z w64 (of_z w64 s.total) ≡ s.total = to_z-of_z c.ranges.total in
    let t1 = passed _ _ _ (sym c.require.ensures ∙ c.in_ok-require.was) in
    let t2 = sym (c.within.ensures ∙ ap (in_limits s.p) z) ∙ passed _ _ _ (sym c.require-2.ensures ∙ c.in_ok-require-2.was) in
    let t3 = sym c.values_reduced.ensures ∙ passed _ _ _ (sym c.require-3.ensures ∙ c.in_ok-require-3.was) in
    let t4 = sym c.reduced.ensures ∙ passed _ _ _ (sym c.require-4.ensures ∙ c.in_ok-require-4.was) in
    let t5 = sym c.reduced-2.ensures ∙ passed _ _ _ (sym c.require-5.ensures ∙ c.in_ok-require-5.was) in
    let t6 = sym (ap (λ m. leb m (length s.file.now)) c.proof_size-size.ensures) ∙ passed _ _ _ (sym c.require-6.ensures ∙ c.in_ok-require-6.was) in
    let h : 3 * s.rounds ≤ length s.messages = omega (arith, leb-true s.rounds max_rounds t1, c.well_formed) in
    let o = row_written s.p s.rounds s.total s.messages s.f s.g s.file.now t1 t2 t3 t4 t5 t6 in (
      ap answered c.proof_size-size.ensures ∙ sym o,
      rw o
          (written s.rounds s.total s.messages s.f s.g h s.file.now c.put_header.new.file c.put_numbers.new.file c.put32.new.s c.put32-2.new.s
          (leb-true (proof_size s.rounds) (length s.file.now) t6)
          (rw z at c.put_header.ensures)
          c.put_numbers.ensures
          c.put32.ensures
          c.put32-2.ensures),
    )
