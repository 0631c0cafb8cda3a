-- Document 02, (a): the trip of a batch is its combined vector, with zero for g.
use Rattle.std.specs.Prelude.{ℕ, List}
use Rattle.item.specs.declared.Given.TheVariants.{Reading, Numbers}
use Rattle.item.specs.Start.{plain_start, untwisted_start}
use Rattle.wire.specs.Header.{version_of}
use Rattle.wire.specs.Log.{log_count, reading_of, weight_of}
use Rattle.runs.specs.Trip.{Trip}
use Rattle.batch.specs.Batch.{combined, most_items}
use Rattle.calls.specs.RuleTrip.{items_from}

-- of m logs and the number z: as many items as the longest log
abbrev pub batch_trip : ℕ → ℕ → ℕ → List (List ℕ) → Trip
batch_trip p z m logs =
    record { start = untwisted_start (most_items logs m); items = items_from (λ i. Numbers (combined p z m logs i) 0) 0 (most_items logs m) }

-- the trip of one log in a plain run of its version: its items as they stand in the file
abbrev pub log_trip : List ℕ → Trip
log_trip log =
    record { start = plain_start (log_count log) (version_of log); items = items_from (λ i. Reading (reading_of log i) (weight_of log i)) 0 (log_count log) }
