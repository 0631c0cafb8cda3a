use mathlib.Core.Path.{◌≡◌, ap, ◌∙◌}
use mathlib.Core.List.{◌++◌}
use native.Mathlib.Omega.{arith}
use lib.ListN.{length, take, drop, replicate}
use Rattle.std.proofs.lemmas.Grind.{common_steps}
use Rattle.r1cs.proofs.Overwritten.{overwrite-zeros}
use Rattle.r1cs.proofs.entries.clear.Goals as goal

pub returns : goal.returns
returns c =
    let s = c.args in
    let n : length (take s.size s.out.now) ≡ s.size = grind (arith, common_steps) in
    ap (λ xs. xs ++ drop s.size s.out.now) (c.fill.ensures.after (λ y e. e) ∙ ap (λ k. replicate k 0) n)
    ∙ overwrite-zeros s.size s.out.now c.requires
