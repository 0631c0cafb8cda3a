-- A pass from its opening on: what the calls' own definitions make of the items taken, the newest first.
use Rattle.std.specs.Prelude.{ℕ, ◌+◌, ◌-◌, ◌<◌, ◌≡◌, cond, List, [], ◌∷◌, length, get_or}
use Rattle.phase.specs.declared.Next.TheVariants as next
use Rattle.phase.specs.declared.Kind.{Kind}
use Rattle.phase.specs.declared.Kind.TheVariants.{Shut, Asked, Change}
use Rattle.phase.specs.Cases.{waits}
use Rattle.prover.specs.declared.Run.{Run}
use Rattle.pass.specs.declared.Pass.{Pass}
use Rattle.pass.specs.Open.{new_pass, no_points, points_of}
use Rattle.prover.specs.Open.{padded_kernel, open_kernel}
use Rattle.prover.specs.Take.{takes}
use Rattle.prover.specs.Change.{change_pass}
use Rattle.prover.specs.Close.{shut_pass}
use Rattle.item.specs.declared.Given.{Given}
use Rattle.item.specs.declared.Given.TheVariants.{Numbers}
use Rattle.item.specs.Item.{contributes}
use Rattle.runs.specs.Trip.{Trip, trip_item}

-- the record that an answered opening of a pass hands back: for what is next, at a point for openings, or for a change
abbrev pub opened_pass : ℕ → Run → Kind → ℕ → Pass
opened_pass p r Shut b = shut_pass
opened_pass p r Asked b = cond (waits next.Openings r.next) (new_pass Asked (points_of p b) (padded_kernel r)) (new_pass Asked no_points (open_kernel r))
opened_pass p r Change b = change_pass r

-- and after the answered items
unfoldable pub pass_after : ℕ → Run → Kind → ℕ → List Given → Pass
pass_after p r k b [] = opened_pass p r k b
pass_after p r k b (x ∷ xs) = (takes p r (pass_after p r k b xs) (contributes p r.start x) [] []).pass

-- "A pass gives the trip's items if its answered items, in order, are items L-1, L-2 and so on"
abbrev pub Gives : Trip → List Given → Type 0
Gives T xs = (q : ℕ) → q < length xs → get_or xs q (Numbers 0 0) ≡ trip_item T (T.start.items - length xs + q)
