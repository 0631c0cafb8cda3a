use mathlib.Core.Path.{sym, ap, ◌∙◌}
use Rattle.algebra.specs.Mod.{add_mod}
use Rattle.algebra.proofs.Laws.{sub_is}
use Rattle.field.proofs.modular.sub.Goals as goal

pub returns : goal.returns
returns c = c.add.ensures ∙ ap (add_mod _ _) c.neg.ensures ∙ sym (sub_is _ _ _)
