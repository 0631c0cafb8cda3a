-- One call of a proper list: the table has nothing against it, so it is answered, and the state goes on as the paper says.
use mathlib.Core.Path.{◌≡◌, ap}
use mathlib.Core.Bool.{Bool, true, cond}
use mathlib.Core.Option.{none}
use Prim.Native.Nat.{ℕ, ◌<◌}
use lib.ListN.{length}
use Rattle.refusal.specs.Limit.{max_weight}
use Rattle.runs.specs.Trip.{Trip}
use Rattle.calls.specs.Step.{is_answered}
use Rattle.calls.specs.State.{goes_on, follow}
use Rattle.calls.specs.World.{Made, World, came, onward}
use Rattle.calls.specs.Table.{table}
use Rattle.calls.specs.Meaning.{Kept}
use Rattle.calls.specs.Statement.{Right}
use Rattle.calls.proofs.Records.{Notes, noted}
use Rattle.calls.proofs.Answers.{Going, right-here, goes_on_lem}
use Rattle.calls.proofs.LiveTable.{free_answered}

module _ (p : ℕ) (large : max_weight < p) (through : Bool) (T : Trip) (whole : length T.items ≡ T.start.items) where
  -- an answered call, and where it leads
  pub record Moved (w : World) (past : Notes) (m : Made) : Type 0 where
    pub answered : is_answered (came p w m).answer ≡ true
    pub going : Going p large through T whole (onward p w m) (noted p m.call past (came p w m).answer)
    pub right : Right p T w.state m.call m.lent (came p w m)
    pub state : follow w.state m.call (came p w m) ≡ goes_on w.state m.call (came p w m).lent

  pub moved : (w : World) {past : Notes} → Going p large through T whole w past → (m : Made)
      → table p w.state m.call m.lent ≡ none → Kept p T through w.state m.call m.lent → Moved w past m
  moved w g m free kept =
      let yes = free_answered p large w.state w.run w.pass g.faithful m.call m.lent free in
      record {
        answered = yes;
        going = goes_on_lem p large through T whole w g m (λ y. kept);
        right = right-here p large through T whole w g m (λ y. kept) free;
        state = ap (λ y. cond y (goes_on w.state m.call (came p w m).lent) w.state) yes;
      }
