use mathlib.Core.Path.{◌≡◌}
use mathlib.Core.Bool.{true}
use borrow.Author.Rules.{rules}
use Rattle.prover.specs.Calls.{pass_open}
use Rattle.prover.proofs.Facts.{formed, holds}
use Rattle.prover.proofs.Run.close.Goals as goal

pub close_kind-requires : goal.close_kind-requires
close_kind-requires c =
    let s = c.args in
    let P = c.modulus_of-p.result in
    let turn : pass_open P s.self s.pass ≡ true = search rules in
    let h = formed P s.self s.pass (holds _ _ turn).0 in
    (h.fits, h.few)
