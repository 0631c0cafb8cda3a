use lib.IntN.{pos, nat_abs}
use lib.Signed.{lt_z}
use mir.Syntax.{w64}
use mir.Facts.{to_z-of_z}
use mathlib.Core.Path.{◌≡◌, sym, ap, ◌∙◌}
use Rattle.algebra.specs.Mod.{residue, neg_mod}
use Rattle.field.proofs.Integers.{image-negative, image-positive}
use Rattle.field.proofs.integer.image.Goals as goal

pub returns-then-is_negative : goal.returns-then-is_negative
returns-then-is_negative c =
    let s = c.before.before.before.before.before in
    let m : c.magnitude.result ≡ nat_abs s.args.x = simp (to_z-of_z {w = w64} s.ranges.x) at c.magnitude.ensures in
    let n : c.is_negative.result ≡ lt_z s.args.x (pos 0) = simp (to_z-of_z {w = w64} s.ranges.x) at c.is_negative.ensures in
    c.neg.ensures
    ∙ ap (neg_mod s.args.p) (c.reduce-m.ensures ∙ ap (residue s.args.p) m)
    ∙ sym (image-negative s.args.p s.args.x (sym n ∙ c.if-is_negative.true))

pub returns-else-is_negative : goal.returns-else-is_negative
returns-else-is_negative c =
    let s = c.before.before.before.before in
    let m : c.magnitude.result ≡ nat_abs s.args.x = simp (to_z-of_z {w = w64} s.ranges.x) at c.magnitude.ensures in
    let n : c.is_negative.result ≡ lt_z s.args.x (pos 0) = simp (to_z-of_z {w = w64} s.ranges.x) at c.is_negative.ensures in
    c.reduce-m.ensures ∙ ap (residue s.args.p) m
    ∙ sym (image-positive s.args.p s.args.x (sym n ∙ c.if-is_negative.false))
