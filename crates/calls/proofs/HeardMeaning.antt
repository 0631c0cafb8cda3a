-- What an answered call of a verifier brings and says, of the trip alone.
use Prim.Native.Nat.{ℕ, ◌^◌}
use mathlib.Core.Path.{◌≡◌}
use mathlib.Core.Bool.{true}
use lib.ListN.{length}
use Rattle.field.specs.Total.{in_limits}
use Rattle.vector.specs.Vector.{dot}
use Rattle.verifier.specs.Reply as reply
use Rattle.verifier.specs.Records.{yes, holds}
use Rattle.runs.specs.Trip.{Trip, trip_item, vector_f, vector_g, total_of}
use Rattle.calls.specs.declared.query.Query.{Query}
use Rattle.calls.specs.declared.query.Query.TheVariants as query
use Rattle.calls.specs.Meaning.{message_at, proof_of_trip}
use Rattle.calls.specs.QueryStep.{Shown, Said, replies, finds, opens}
use Rattle.calls.specs.QueryState.{VerifierState}
use Rattle.calls.specs.Given.{agreed, OpensTrip}

-- "the trip's items first to last, the run's total, and the run's messages in order or its proof file"
abbrev pub BringsTrip : ℕ → Trip → VerifierState → Query → Shown → Type 0
BringsTrip p T a (query.Give x) l = x ≡ trip_item T (length a.items)
BringsTrip p T a (query.Close t) l = t ≡ total_of T
BringsTrip p T a (query.CloseClaim c) l = c ≡ dot p (2 ^ T.start.rounds) (vector_f p T) (vector_g p T)
BringsTrip p T a (query.Message even cross odd) l =
    record { even = even; cross = cross; odd = odd } ≡ message_at p T a.challenges a.round
BringsTrip p T a query.Verdict l = Unit {0}
-- there is a proof file where the run's total is within its limits
BringsTrip p T a query.Proof l = (l.file ≡ proof_of_trip p T a.challenges) × (in_limits p (total_of T) ≡ true)
BringsTrip p T a (query.CheckOpening b) l = Unit {0}
BringsTrip p T a (query.CheckBatch m z b) l = Unit {0}

-- every message passes, every verdict is yes, and an opening of the trip at the point opens
abbrev pub SaysTrip : ℕ → Trip → VerifierState → Query → Shown → Said → Type 0
SaysTrip p T a (query.Give x) l t = t ≡ replies reply.taken
SaysTrip p T a (query.Close z) l t = t ≡ replies reply.closed
SaysTrip p T a (query.CloseClaim c) l t = t ≡ replies reply.closed
SaysTrip p T a (query.Message even cross odd) l t = t ≡ replies reply.passed
SaysTrip p T a query.Verdict l t = t ≡ finds yes
SaysTrip p T a query.Proof l t = t ≡ finds yes
SaysTrip p T a (query.CheckOpening b) l t = OpensTrip p T a (query.CheckOpening b) l → t ≡ opens holds
SaysTrip p T a (query.CheckBatch m z b) l t = OpensTrip p T a (query.CheckBatch m z b) l → t ≡ finds yes

pub says-agreed : (p : ℕ) (T : Trip) (a : VerifierState) (q : Query) (l : Shown) (t : Said) → SaysTrip p T a q l t → OpensTrip p T a q l → t ≡ agreed q
says-agreed p T a (query.Give x) l t h o = h
says-agreed p T a (query.Close z) l t h o = h
says-agreed p T a (query.CloseClaim c) l t h o = h
says-agreed p T a (query.Message even cross odd) l t h o = h
says-agreed p T a query.Verdict l t h o = h
says-agreed p T a query.Proof l t h o = h
says-agreed p T a (query.CheckOpening b) l t h o = h o
says-agreed p T a (query.CheckBatch m z b) l t h o = h o
