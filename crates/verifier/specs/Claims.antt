-- The claim, the messages and the verdict: document 01, "The gateway".
use Rattle.std.specs.Prelude.{ℕ, ◌+◌, Bool, true, cond, eqb, Option, Some, None}
use Rattle.algebra.specs.Mod.{mul_mod}
use Rattle.field.specs.Number.{is_reduced}
use Rattle.vector.specs.Vector.{at}
use Rattle.vector.specs.declared.Message as code
use Rattle.vector.specs.Message.{Message, passes, next_claim}
pub use Rattle.claim.specs.Claim.{message_of3}
use Rattle.verifier.specs.declared.Verifier.{Verifier}
use Rattle.verifier.specs.Reply as reply
use Rattle.verifier.specs.Records.{Replied, Finding, yes, no}

-- the verifier with another claim and turn
abbrev pub verifier_with : Verifier → Bool → ℕ → ℕ → Bool → Verifier
verifier_with v closed claim round failed =
    record {
      start = v.start;
      challenges = v.challenges;
      closed = closed;
      taken = v.taken;
      fsum = v.fsum;
      gsum = v.gsum;
      claim = claim;
      round = round;
      failed = failed;
    }

-- "Its claim starts as the total"
unfoldable pub closed_with : Verifier → ℕ → Verifier
closed_with v claim = verifier_with v true claim v.round v.failed

abbrev pub closes : Verifier → ℕ → Replied
closes v claim = record { verifier = closed_with v claim; reply = reply.closed }

-- the code's message, where each of its numbers is a field number
abbrev pub reduced_message : ℕ → ℕ → ℕ → ℕ → Option code.Message
reduced_message p even cross odd =
    cond (is_reduced p even) (cond (is_reduced p cross) (cond (is_reduced p odd) (Some (record { even = even; cross = cross; odd = odd })) None) None) None

-- after a message that passed
unfoldable pub passed_with : ℕ → Verifier → Message → Verifier
passed_with p v m = verifier_with v v.closed (next_claim p m (at v.challenges v.round)) (v.round + 1) v.failed

-- "A no is not a refusal; it closes the run"
unfoldable pub failed_now : Verifier → Verifier
failed_now v = verifier_with v v.closed v.claim v.round true

-- "A message passes if even + odd = claim"
unfoldable pub hears : ℕ → Verifier → Message → Replied
hears p v m =
    cond (eqb (passes p m) v.claim) (record { verifier = passed_with p v m; reply = reply.passed })
    (record { verifier = failed_now v; reply = reply.no v.round })

-- "yes if the claim equals the product of its own end values. Otherwise no, with the first round that failed, or n"
unfoldable pub finds : ℕ → Verifier → Finding
finds p v = cond v.failed (no v.round) (cond (eqb v.claim (mul_mod p v.fsum v.gsum)) yes (no v.start.rounds))
