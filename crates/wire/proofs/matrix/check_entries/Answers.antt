use mathlib.Core.Path.{◌≡◌, sym, ap, ◌∙◌}
use borrow.Author.Rules.{rules}
use Rattle.std.specs.Prelude.{Err}
use Rattle.refusal.specs.Refusal.{outcome}
use Rattle.refusal.proofs.Outcome.{all_start, all-stop, all_pass, all_end, one_passed, one_stopped}
use Rattle.wire.specs.Matrix.{require_entry}
use Rattle.wire.proofs.Entries.{entry_alone}
use Rattle.wire.proofs.matrix.check_entries.Goals as goal

pub loop-k-init : goal.loop-k-init
loop-k-init c = all_start _ _ _

pub returns-in_err-check_entry : goal.returns-in_err-check_entry
returns-in_err-check_entry c =
    let s = c.args in
    let l = c.loop-k in
    let e = c.in_err-check_entry.field-0.0 in
    let r : c.from_residual.result ≡ Err e = search rules in
    ap outcome r ∙ all-stop _ l.k _ _ c.loop-k-test.true l.invariant (λ later. one_stopped (λ A. require_entry {A = A} s.p s.file.now) (λ A k. entry_alone s.p s.file.now k A) l.k e later (sym c.check_entry.ensures ∙ ap outcome c.in_err-check_entry.was))

pub loop-k-preserved : goal.loop-k-preserved
loop-k-preserved c =
    let s = c.args in
    let l = c.loop-k in
    all_pass _ l.k _ _ c.loop-k-test.true l.invariant (λ later. one_passed (λ A. require_entry {A = A} s.p s.file.now) (λ A k. entry_alone s.p s.file.now k A) l.k c.in_ok-check_entry.field-0 later (sym c.check_entry.ensures ∙ ap outcome c.in_ok-check_entry.was))

pub returns : goal.returns
returns c = sym (all_end _ _ _ _ c.loop-k-test.false) ∙ c.loop-k.invariant
