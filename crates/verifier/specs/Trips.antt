-- Calls in a row, and what the verdict after them is.
use Rattle.std.specs.Prelude.{ℕ, zero, suc, ◌+◌, ◌*◌, Bool, cond, ◌&&◌, List, eqb, ltb, ℤ, pos, ◌+ℤ◌, ◌*ℤ◌}
use Rattle.algebra.specs.Mod.{mul_mod}
use Rattle.refusal.specs.Outcome.{Outcome}
use Rattle.field.specs.Integer.{image}
use Rattle.vector.specs.Vector.{Vector}
use Rattle.vector.specs.Message.{Message, passes, next_claim}
use Rattle.item.specs.declared.Given.{Given}
use Rattle.item.specs.declared.Given.TheVariants.{Reading, Numbers}
use Rattle.wire.specs.Proof.{proof_total, proof_number}
use Rattle.verifier.specs.declared.Verifier.{Verifier}
use Rattle.verifier.specs.Records.{Replied, leaves, Finding, yes, no}
use Rattle.verifier.specs.Openings.{first_fault}
use Rattle.verifier.specs.Calls.{give, message}
use Rattle.verifier.specs.ProofFile.{file_message}

-- the verifier after m calls, "each call given the record that the last returned"
unfoldable pub after_calls : (Verifier → ℕ → Outcome Replied) → Verifier → ℕ → Verifier
after_calls call v zero = v
after_calls call v (suc m) = (leaves (after_calls call v m) (call (after_calls call v m) m)).verifier

-- "first item to last"
abbrev pub given_items : ℕ → (ℕ → Given) → Verifier → ℕ → Outcome Replied
given_items p given v i = give p v (given i)

-- of a plain run and of a twisted run
abbrev pub reading_items : (ℕ → ℤ) → Vector → ℕ → Given
reading_items readings weights i = Reading (readings i) (weights i)

abbrev pub number_items : Vector → Vector → ℕ → Given
number_items f g i = Numbers (f i) (g i)

abbrev pub messages : ℕ → (ℕ → Message) → Verifier → ℕ → Outcome Replied
messages p m v i = message p v (m i).even (m i).cross (m i).odd

-- "Its claim starts as the total. .. the claim becomes even + cross·c + odd·c²": the claim that message i meets
unfoldable pub claim_at : ℕ → (ℕ → ℕ) → ℕ → (ℕ → Message) → ℕ → ℕ
claim_at p c claim m zero = claim
claim_at p c claim m (suc i) = next_claim p (m i) (c i)

-- "A message passes if even + odd = claim"
abbrev pub message_passes : ℕ → (ℕ → ℕ) → ℕ → (ℕ → Message) → ℕ → Bool
message_passes p c claim m i = eqb (passes p (m i)) (claim_at p c claim m i)

-- the first round whose message fails; n where none does
abbrev pub first_failed : ℕ → (ℕ → ℕ) → ℕ → ℕ → (ℕ → Message) → ℕ
first_failed p c n claim m = first_fault (message_passes p c claim m) 0 n

-- "After n messages the verdict is yes if the claim equals the product of its own end values. Otherwise no, with the first round that
-- failed, or n."
unfoldable pub verdict_of : ℕ → (ℕ → ℕ) → ℕ → ℕ → (ℕ → Message) → ℕ → Finding
verdict_of p c n claim m product =
    cond (ltb (first_failed p c n claim m) n) (no (first_failed p c n claim m))
    (cond (eqb (claim_at p c claim m n) product) yes (no n))

-- the same for a proof file and end values f and g: "End values in the proof file must equal its own, else no at n"
unfoldable pub file_verdict_of : ℕ → (ℕ → ℕ) → ℕ → List ℕ → ℕ → ℕ → Finding
file_verdict_of p c n file f g =
    cond (eqb (proof_number file (3 * n)) f && eqb (proof_number file (3 * n + 1)) g)
    (verdict_of p c n (image p (proof_total file)) (file_message file) (mul_mod p f g))
    (no (first_failed p c n (image p (proof_total file)) (file_message file)))

-- readings times minutes over the first m items
unfoldable pub trip_total : (ℕ → ℤ) → Vector → ℕ → ℤ
trip_total readings weights zero = pos 0
trip_total readings weights (suc m) = trip_total readings weights m +ℤ readings m *ℤ pos (weights m)
