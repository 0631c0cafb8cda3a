use mathlib.Core.Path.{◌≡◌, sym, ap, ◌∙◌}
use native.Mathlib.Omega.{arith}
use borrow.Author.Rules.{rules}
use Rattle.std.specs.Prelude.{Err}
use Rattle.std.proofs.lemmas.Grind.{common_steps}
use Rattle.refusal.specs.Refusal.{outcome}
use Rattle.wire.specs.Matrix.{read_matrix}
use Rattle.wire.proofs.Entries.{entries_passed, entries_stopped}
use Rattle.wire.proofs.matrix.read_matrix_in.Goals as goal

pub returns-in_err-check_entries : goal.returns-in_err-check_entries
unfolding read_matrix
returns-in_err-check_entries c =
    let e = c.in_err-check_entries.field-0.0 in
    let r : c.from_residual-in_err-check_entries.result ≡ Err e = search rules in
    let h = sym c.check_entries.ensures ∙ ap outcome c.in_err-check_entries.was in
    rw r (grind (arith, common_steps, entries_stopped, h))

pub returns : goal.returns
unfolding read_matrix
returns c =
    let h = sym c.check_entries.ensures ∙ ap outcome c.in_ok-check_entries.was in
    grind (arith, common_steps, entries_passed, h)
