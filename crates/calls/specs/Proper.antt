-- A whole run as document 01's "A run" tells it, of a trip within its limits: the list of its calls, with changes of mode where wanted,
-- and the host that makes them. A prover that refuses trips cannot answer such a list throughout.
use Rattle.std.specs.Prelude.{ℕ, zero, suc, ◌+◌, ◌^◌, ◌<◌, ◌≤◌, ◌≡◌, Bool, true, false, cond, ◌&&◌, ◌||◌, List, [], ◌∷◌, ◌++◌, ltb, length}
use Rattle.refusal.specs.Limit.{max_weight}
use Rattle.field.specs.Total.{in_limits}
use Rattle.vector.specs.Vector.{at}
use Rattle.vector.specs.Slice.{overwrite, is_nonzero}
use Rattle.phase.specs.declared.Next.TheVariants as next
use Rattle.phase.specs.Cases.{is_change, is_full, waits}
use Rattle.item.specs.declared.Start.{Start}
use Rattle.item.specs.declared.Given.{Given}
use Rattle.item.specs.declared.Given.TheVariants.{Reading, Numbers}
use Rattle.item.specs.Version.{in_range}
use Rattle.item.specs.Mark.{is_mark}
use Rattle.runs.specs.Trip.{Trip, trip_item, vector_f, vector_g, total_of}
use Rattle.calls.specs.declared.Call.{Call}
use Rattle.calls.specs.declared.Call.TheVariants as call
use Rattle.calls.specs.Lists.{each}
use Rattle.calls.specs.Step.{Lent, lending}
use Rattle.calls.specs.State.{State}
use Rattle.calls.specs.World.{Made, World, fresh_world, came, onward}
use Rattle.calls.specs.Starts.{Whole}

-- "An item of a plain run is a reading and a weight, of a twisted run two field numbers", within their limits; the mark for a broken wire is
-- within them
abbrev pub ItemFits : ℕ → Start → Given → Type 0
ItemFits p s (Reading r w) = (s.plain ≡ true) × ((is_mark s.version r || in_range s.version r) ≡ true) × (w ≤ max_weight)
ItemFits p s (Numbers a b) = (s.plain ≡ false) × (a < p) × (b < p)

-- a trip that a run takes whole
pub record Valid (p : ℕ) (T : Trip) : Type 0 where
  pub whole : Whole T
  pub items : (i : ℕ) → i < T.start.items → ItemFits p T.start (trip_item T i)
  pub total : T.start.plain ≡ true → in_limits p (total_of T) ≡ true

-- challenges and points: each "1 to P-1"
abbrev pub AllNonzero : ℕ → List ℕ → Type 0
AllNonzero p xs = (j : ℕ) → j < length xs → is_nonzero p (at xs j) ≡ true

-- THE CALLS OF A RUN
module _ (T : Trip) where
  -- "the L pairs from index L-1 down"
  unfoldable pub items_below : ℕ → List Call
  items_below zero = []
  items_below (suc i) = call.Give (trip_item T i) ∷ items_below i

  -- opened, given the trip's items, closed
  abbrev pub whole_pass : Call → List Call
  whole_pass opening = opening ∷ items_below T.start.items ++ call.Close ∷ []

  -- "In small mode each answer needs a pass"; in full mode it is one call
  abbrev pub answer_by : Bool → Call → Call → List Call
  answer_by full opening asking = cond full (asking ∷ []) (whole_pass opening)

  -- from one mode to another: a change is a pass, a return one call
  abbrev pub change_to : Bool → Bool → List Call
  change_to false true = whole_pass call.ToFull
  change_to true false = call.ToSmall ∷ []
  change_to false false = []
  change_to true true = []

  -- WHICH STEPS ARE MADE IN FULL MODE: step i is round i, step n the ends, step n + 1 + j the opening at point j
  module _ (full : ℕ → Bool) where
    -- the mode before step i: "The total always takes a small pass"
    abbrev pub before : ℕ → Bool
    before zero = false
    before (suc i) = full i

    abbrev pub change_before : ℕ → List Call
    change_before i = change_to (before i) (full i)

    unfoldable pub rounds_from : ℕ → List ℕ → List Call
    rounds_from i [] = []
    rounds_from i (c ∷ cs) =
        change_before i ++ answer_by (full i) call.OpenPass call.Message ++ call.Challenge c ∷ rounds_from (suc i) cs

    -- step n
    abbrev pub end_calls : List Call
    end_calls = change_before T.start.rounds ++ answer_by (full T.start.rounds) call.OpenPass call.Ends

    -- a change may come after the last point too
    unfoldable pub openings_from : ℕ → List ℕ → List Call
    openings_from i [] = change_before i
    openings_from i (b ∷ bs) = change_before i ++ answer_by (full i) (call.OpenAt b) (call.Opening b) ++ openings_from (suc i) bs

    -- from step n + 1 on: with n = 0 there are no openings
    abbrev pub opening_calls : List ℕ → List Call
    opening_calls bs = cond (ltb 0 T.start.rounds) (openings_from (suc T.start.rounds) bs) []

    -- "Total; then for i = 0 to n-1 message i and challenge i; then ends; then openings, for as many points as wanted"
    abbrev pub whole_run : List ℕ → List ℕ → List Call
    whole_run cs bs = whole_pass call.OpenPass ++ rounds_from 0 cs ++ end_calls ++ opening_calls bs

-- THE HOST, the number of calls that it has made, and the buffers and file as the last one left them
pub record Host : Type 0 where
  pub world : World
  pub count : ℕ
  pub lent : Lent

-- the run works on the buffers: in full mode, and in a change pass
abbrev pub in_use : State → Bool
in_use a = is_full a.turn.mode || is_change a.pass.kind

-- while the run works on them the host lends each call what the last one left, but after the ends, in full mode: "the openings are worked
-- from fold 0, which the host lends again"
module _ (p : ℕ) (T : Trip) where
  abbrev pub fold_zero : Lent → Lent
  fold_zero l =
      record {
        f = overwrite (vector_f p T) (2 ^ T.start.rounds) l.f;
        g = overwrite (vector_g p T) (2 ^ T.start.rounds) l.g;
        file = l.file;
      }

  abbrev pub working : State → Lent → Lent
  working a l = cond (is_full a.turn.mode && waits next.Openings a.turn.next) (fold_zero l) l

-- ELSE IT LENDS ANYTHING, `idle c j` to a call c that is its j-th. Document 02, (c), "lends its buffers to the route map": up to a change,
-- and from a return to the next change, they are free
module _ (p : ℕ) (T : Trip) (idle : Call → ℕ → Lent) where
  abbrev pub lends : Host → Call → Lent
  lends h c = cond (in_use h.world.state) (working p T h.world.state h.lent) (idle c h.count)

  abbrev pub makes : Host → Call → Made
  makes h c = record { call = c; lent = lends h c }

  abbrev pub host_on : Host → Call → Host
  host_on h c = record { world = onward p h.world (makes h c); count = suc h.count; lent = (came p h.world (makes h c)).lent }

  -- its list, from a world on
  abbrev pub played : World → List ℕ → List ℕ → List Call → List Made
  played w f g = each host_on makes (record { world = w; count = 0; lent = lending f g [] })

-- room for N numbers in both buffers
abbrev pub Room : Trip → Lent → Type 0
Room T l = (2 ^ T.start.rounds ≤ length l.f) × (2 ^ T.start.rounds ≤ length l.g)

-- what the host brings: n challenges and any number of points, and, where a step is made in full mode, room at the opening of a change
pub record Brings (p : ℕ) (T : Trip) (full : ℕ → Bool) (cs bs : List ℕ) (idle : Call → ℕ → Lent) : Type 0 where
  pub count : length cs ≡ T.start.rounds
  pub challenges : AllNonzero p cs
  pub points : AllNonzero p bs
  pub room : (i : ℕ) → i ≤ suc T.start.rounds + length bs → full i ≡ true → (j : ℕ) → Room T (idle call.ToFull j)

-- a whole run from a fresh one on: the calls with what they are lent
abbrev pub proper_run : ℕ → Trip → (ℕ → Bool) → List ℕ → List ℕ → (Call → ℕ → Lent) → List ℕ → List ℕ → List Made
proper_run p T full cs bs idle f g = played p T idle (fresh_world T.start f g) f g (whole_run T full cs bs)
