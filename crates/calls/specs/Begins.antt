-- WHERE A RUN'S LIST BEGINS: at the total of a fresh run, or, for a batch of document 02, (a), at the openings, its challenges handed in.
use Rattle.std.specs.Prelude.{ℕ, Bool, List}
use Rattle.phase.specs.declared.Mode.TheVariants.{Small}
use Rattle.phase.specs.declared.Next.TheVariants as next
use Rattle.prover.specs.Start.{openings_run, zero_pass}
use Rattle.item.specs.declared.Start.{Start}
use Rattle.runs.specs.Trip.{Trip}
use Rattle.calls.specs.State.{State, no_pass}
use Rattle.calls.specs.declared.Call.{Call}
use Rattle.calls.specs.Step.{Lent}
use Rattle.calls.specs.World.{Made, World, fresh_world}
use Rattle.calls.specs.Starts.{Startable, Opens}
use Rattle.calls.specs.Proper.{opening_calls, played}

abbrev pub at_openings : Start → List ℕ → List ℕ → List ℕ → State
at_openings s cs f g =
    record { start = s; turn = record { mode = Small; next = next.Openings; challenges = cs }; pass = no_pass; buffers = record { f = f; g = g } }

-- what an answered start of a batch gives
abbrev pub openings_world : Start → List ℕ → List ℕ → List ℕ → World
openings_world s cs f g = record { state = at_openings s cs f g; run = openings_run s cs; pass = zero_pass }

pub data Begin : Type 0 where
  total : Begin
  openings : List ℕ → Begin

abbrev pub CanBegin : Start → Begin → Type 0
CanBegin s total = Startable s
CanBegin s (openings cs) = Opens s cs

abbrev pub begun : Start → Begin → List ℕ → List ℕ → World
begun s total f g = fresh_world s f g
begun s (openings cs) f g = openings_world s cs f g

-- a batch's own list, from that on: an opening at each point, in any modes
abbrev pub batch_run : ℕ → Trip → (ℕ → Bool) → List ℕ → List ℕ → (Call → ℕ → Lent) → List ℕ → List ℕ → List Made
batch_run p T full cs bs idle f g = played p T idle (openings_world T.start cs f g) f g (opening_calls T full bs)
