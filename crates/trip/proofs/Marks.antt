-- Document 02, (d): where the log has the mark the program lends 0 for f.
use Rattle.std.specs.Prelude.{Some}
use mathlib.Core.Path.{◌≡◌, refl, ap, ◌∙◌}
use mathlib.Core.Bool.{Bool, true, false}
use mathlib.Core.List.{List}
use Prim.Native.Nat.{ℕ}
use lib.IntN.{pos}
use Rattle.refusal.specs.Number as number
use Rattle.refusal.specs.Outcome.{answered, require, require_at}
use Rattle.field.specs.Modulus.{modulus}
use Rattle.field.specs.Total as total
use Rattle.item.specs.declared.Start.{Start}
use Rattle.item.specs.Mark.{is_mark}
use Rattle.item.specs.Item.{is_light}
use Rattle.item.proofs.Marks.{marked-parts}
use Rattle.wire.specs.Log.{log_item}
use Rattle.trip.specs.Items.{or_zero, pair_of, pair_at, f_at}

pub mark_lent : (s : Start) (log : List ℕ) (i : ℕ) (x : total.Item) → log_item log i ≡ Some x → is_mark s.version x.reading ≡ true → f_at s log i ≡ 0
unfolding pair_at
mark_lent s log i x here m =
    ap (λ o. (pair_of modulus s i o).f) here
    ∙ ap (λ o. (or_zero o).f) (marked-parts modulus s x.reading x.weight i m)
    ∙ by s.plain (is_light x.weight)
  where
    by : (t u : Bool) → (or_zero (require t number.order (require_at u number.weight i (answered (record { f = 0; g = x.weight; worth = pos 0 }))))).f ≡ 0
    by true true = refl
    by true false = refl
    by false u = refl
