-- The claim, the messages and the verdict: document 01, "The gateway"; and the sum of a batch: document 02, (a).
use Rattle.std.specs.Prelude.{ℕ, Bool, cond, ◌&&◌, List, eqb, length, Option, Some, None}
use Rattle.algebra.specs.Mod.{mul_mod}
use Rattle.vector.specs.Vector.{at}
use Rattle.vector.specs.Opening.{evaluate}
use Rattle.vector.specs.Message.{Message, passes, next_claim}
use Rattle.claim.specs.declared.Finding.{Finding}
use Rattle.claim.specs.declared.Finding.TheVariants.{Yes, No}

abbrev pub message_of3 : ℕ → ℕ → ℕ → Message
message_of3 even cross odd = record { even = even; cross = cross; odd = odd }

-- "the claim becomes even + cross·c + odd·c²"
abbrev pub next_of : ℕ → ℕ → ℕ → ℕ → ℕ → ℕ
next_of p c even cross odd = next_claim p (message_of3 even cross odd) c

-- "A message passes if even + odd = claim": then the next claim
abbrev pub heard_of : ℕ → ℕ → ℕ → Message → Option ℕ
heard_of p claim c m = cond (eqb (passes p m) claim) (Some (next_claim p m c)) None

-- "End values in the proof file must equal its own"
abbrev pub own_ends : ℕ → ℕ → ℕ → ℕ → Bool
own_ends f g own_f own_g = eqb f own_f && eqb g own_g

-- "yes if the claim equals the product of its own end values. Otherwise no, with the first round that failed, or n"
abbrev pub found_of : ℕ → ℕ → Bool → ℕ → ℕ → ℕ → ℕ → Finding
found_of p rounds failed round claim f g = cond failed (No round) (cond (eqb claim (mul_mod p f g)) Yes (No rounds))

-- "the combined value at the point is the same sum of them": the sum of z^i times log i's value
abbrev pub sum_holds : ℕ → ℕ → ℕ → List ℕ → Bool
sum_holds p z value logs = eqb (evaluate p (length logs) (at logs) z) value
