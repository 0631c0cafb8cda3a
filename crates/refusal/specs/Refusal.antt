-- Why a call is refused, in the table's terms: the number of each refusal and its index, and what an answer of the code is as an outcome.
use Rattle.std.specs.Prelude.{ℕ, Option, Some, None, Result, Ok, Err, Bool, cond}
use Rattle.refusal.specs.declared.Refusal.{Refusal}
use Rattle.refusal.specs.declared.Refusal.TheVariants.{Header, Version, Count, Size, Weight, Argument, Total, Items, Buffer, Order, Number, Turn, Place, Sorted, Value, Vector, Logs, Reading}
use Rattle.refusal.specs.Number as number
use Rattle.refusal.specs.Outcome.{Outcome, answered, refused, refused_at}

abbrev pub number_of : Refusal → ℕ
number_of Header = number.header
number_of Version = number.version
number_of Count = number.count
number_of Size = number.size
number_of (Weight i) = number.weight
number_of Argument = number.argument
number_of Total = number.total
number_of Items = number.items
number_of Buffer = number.buffer
number_of Order = number.order
number_of Number = number.number
number_of Turn = number.turn
number_of (Place i) = number.place
number_of (Sorted i) = number.sorted
number_of (Value i) = number.value
number_of Vector = number.vector
number_of Logs = number.logs
number_of (Reading i) = number.reading

-- of the item, entry or reading that is at fault
abbrev pub index_of : Refusal → Option ℕ
index_of (Weight i) = Some i
index_of (Place i) = Some i
index_of (Sorted i) = Some i
index_of (Value i) = Some i
index_of (Reading i) = Some i
index_of Header = None
index_of Version = None
index_of Count = None
index_of Size = None
index_of Argument = None
index_of Total = None
index_of Items = None
index_of Buffer = None
index_of Order = None
index_of Number = None
index_of Turn = None
index_of Vector = None
index_of Logs = None

abbrev pub told : {A : Type 0} → ℕ → Option ℕ → Outcome A
told k None = refused k
told k (Some i) = refused_at k i

-- a refusal as an outcome
abbrev pub refused_by : {A : Type 0} → Refusal → Outcome A
refused_by e = told (number_of e) (index_of e)

-- an answer of the code as an outcome
abbrev pub outcome : {A : Type 0} → Result A Refusal → Outcome A
outcome (Ok x) = answered x
outcome (Err e) = refused_by e

-- the same, of an answer whose value the outcome has in another form
abbrev pub outcome_by : {A B : Type 0} → (A → B) → Result A Refusal → Outcome B
outcome_by form (Ok x) = answered (form x)
outcome_by form (Err e) = refused_by e

-- one check alone
abbrev pub required : Bool → Refusal → Result (Unit {0}) Refusal
required ok refusal = cond ok (Ok tt) (Err refusal)
