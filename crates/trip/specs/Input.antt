-- The program's files: document 01, "One trip, whole".
use Rattle.std.specs.Prelude.{ℕ, ◌+◌, ◌*◌, List, length, eqb, Result, Ok, Err}
use Rattle.refusal.specs.Number as number
use Rattle.refusal.specs.declared.Refusal.{Refusal}
use Rattle.refusal.specs.Refusal.{number_of}
use Rattle.refusal.specs.Outcome.{Outcome, answered, refused, refused_at, require}
use Rattle.field.specs.Modulus.{modulus}
use Rattle.vector.specs.Rounds.{rounds_of}
use Rattle.vector.specs.Slice.{every, is_nonzero}
use Rattle.wire.specs.Number.{num_at}
use Rattle.wire.specs.Log.{read_log_within}
use Rattle.wire.specs.declared.log.Head.{Head}

-- "program limit 4,096 items"
abbrev pub limit : ℕ
limit = 4096

-- the log as the program takes it: "over 4,096 items is 3", in the place of the format's own limit
abbrev pub read_limited : List ℕ → Outcome Head
read_limited file = read_log_within limit file

-- "n challenges, then one point, four bytes each": number k of trip.rvc
abbrev pub number_at : List ℕ → ℕ → ℕ
number_at file k = num_at 4 file (4 * k)

-- "trip.rvc of another length is 4, tested after the log, then its numbers (6)"
unfoldable pub read_numbers : Head → List ℕ → Outcome Head
read_numbers head file =
    require (eqb (length file) (4 * (rounds_of head.count + 1))) number.size
    (require (every (rounds_of head.count + 1) (λ k. is_nonzero modulus (number_at file k))) number.argument
    (answered head))

-- "A refused input prints only `refused` and the number"
abbrev pub read_trip : Outcome Head → List ℕ → Outcome Head
read_trip (answered head) numbers = read_numbers head numbers
read_trip (refused k) numbers = refused k
read_trip (refused_at k i) numbers = refused k

abbrev pub input_of : Result Head Refusal → Outcome Head
input_of (Ok head) = answered head
input_of (Err refusal) = refused (number_of refusal)
