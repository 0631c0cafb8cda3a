-- ALIKE: the last call of two lists for the same trip.
use mathlib.Core.Path.{◌≡◌, refl, sym, ap, ap₂, ◌∙◌}
use mathlib.Core.Bool.{Bool, true, true≢false}
use mathlib.Core.List.{List, [], ◌∷◌, ◌++◌}
use mathlib.Core.Option.{Option, none, some}
use Prim.Native.Nat.{ℕ}
use Rattle.prover.specs.declared.Run.{Run}
use Rattle.pass.specs.declared.Pass.{Pass}
use Rattle.runs.specs.Trip.{Trip}
use Rattle.calls.specs.Lists.{after}
use Rattle.calls.specs.Step.{Lent, Result, is_answered}
use Rattle.calls.specs.World.{Made, World, came, onward}
use Rattle.calls.specs.Table.{Refusal, table}
use Rattle.calls.specs.Meaning.{meaning}
use Rattle.calls.specs.Statement.{Decides, Right}
use Rattle.calls.specs.Given.{reply_of}
use Rattle.calls.specs.Demand3.{AllDecided, AllRight}
use Rattle.calls.proofs.Refusals.{refused_with_lem}
use Rattle.calls.proofs.Longer.{last-along}

-- an answered call is one that the table has nothing against
pub answered_none : (r : Run) (s : Pass) (l : Lent) (t : Option Refusal) (o : Result) → Decides r s l t o → is_answered o.answer ≡ true → t ≡ none
answered_none r s l none o d e = refl
answered_none r s l (some k) o d e = absurd (true≢false (sym e ∙ ap (λ o. is_answered o.answer) d ∙ refused_with_lem _ k.0 k.1))

module _ (p : ℕ) (T : Trip) where
  -- what an answered call of a list replies
  pub means : (w : World) (m : Made) → Decides w.run w.pass m.lent (table p w.state m.call m.lent) (came p w m)
      → (table p w.state m.call m.lent ≡ none → Right p T w.state m.call m.lent (came p w m))
      → is_answered (came p w m).answer ≡ true → reply_of (came p w m) ≡ meaning p T w.state m.call
  means w m d h e =
      let r = h (answered_none w.run w.pass m.lent (table p w.state m.call m.lent) (came p w m) d e) in
      ap₂ (λ x y. record { answer = x; values = y }) r.answer r.values

  pub last-replies : (through : Bool) (w : World) (ms : List Made) (m : Made) → AllDecided p w (ms ++ m ∷ []) → AllRight p through T w (ms ++ m ∷ [])
      → (let x : World = after (onward p) w ms in is_answered (came p x m).answer ≡ true → reply_of (came p x m) ≡ meaning p T x.state m.call)
  last-replies through w ms m d h =
      means (after (onward p) w ms) m (last-along (onward p) _ w ms m d.0) (last-along (onward p) _ w ms m h.0)
