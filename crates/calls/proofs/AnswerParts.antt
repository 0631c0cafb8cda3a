-- The numbers in an answer.
use Prim.Native.Nat.{ℕ}
use mathlib.Core.Bool.{Bool, true, false}
use mathlib.Core.List.{List, [], ◌∷◌}
use lib.IntN.{ℤ, pos}
use Rattle.refusal.specs.Outcome.{Outcome, answered, refused, refused_at}
use Rattle.vector.specs.Vector.{at}
use Rattle.vector.specs.Message.{Message}
use Rattle.prover.specs.Reply.{Reply}
use Rattle.prover.specs.Reply as reply

-- of an answered call, else another
abbrev in_reply : {A : Type 0} → A → (Reply → A) → Outcome Reply → A
in_reply other of (answered x) = of x
in_reply other of (refused k) = other
in_reply other of (refused_at k i) = other

-- of a message or the ends, in order
abbrev numbers_of : Reply → List ℕ
numbers_of reply.started = []
numbers_of reply.opened = []
numbers_of reply.taken = []
numbers_of (reply.total t) = []
numbers_of (reply.field_total t) = []
numbers_of (reply.message even cross odd) = even ∷ cross ∷ odd ∷ []
numbers_of reply.challenged = []
numbers_of (reply.ends f g) = f ∷ g ∷ []
numbers_of reply.opening = []
numbers_of reply.changed = []
numbers_of (reply.written size) = []

abbrev pub numbers_in : Outcome Reply → List ℕ
numbers_in = in_reply [] numbers_of

abbrev pub message_in : Outcome Reply → Message
message_in x = record { even = at (numbers_in x) 0; cross = at (numbers_in x) 1; odd = at (numbers_in x) 2 }

abbrev total_of : Reply → ℤ
total_of reply.started = pos 0
total_of reply.opened = pos 0
total_of reply.taken = pos 0
total_of (reply.total t) = t
total_of (reply.field_total t) = pos 0
total_of (reply.message even cross odd) = pos 0
total_of reply.challenged = pos 0
total_of (reply.ends f g) = pos 0
total_of reply.opening = pos 0
total_of reply.changed = pos 0
total_of (reply.written size) = pos 0

abbrev pub total_in : Outcome Reply → ℤ
total_in = in_reply (pos 0) total_of

-- the number in an answered total
abbrev field_total_of : Reply → ℕ
field_total_of reply.started = 0
field_total_of reply.opened = 0
field_total_of reply.taken = 0
field_total_of (reply.total t) = 0
field_total_of (reply.field_total t) = t
field_total_of (reply.message even cross odd) = 0
field_total_of reply.challenged = 0
field_total_of (reply.ends f g) = 0
field_total_of reply.opening = 0
field_total_of reply.changed = 0
field_total_of (reply.written size) = 0

abbrev pub field_total_in : Outcome Reply → ℕ
field_total_in = in_reply 0 field_total_of

abbrev is_total : Reply → Bool
is_total reply.started = false
is_total reply.opened = false
is_total reply.taken = false
is_total (reply.total t) = true
is_total (reply.field_total t) = false
is_total (reply.message even cross odd) = false
is_total reply.challenged = false
is_total (reply.ends f g) = false
is_total reply.opening = false
is_total reply.changed = false
is_total (reply.written size) = false

abbrev pub is_plain : Outcome Reply → Bool
is_plain = in_reply false is_total
