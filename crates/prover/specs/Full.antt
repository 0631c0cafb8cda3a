-- The calls of full mode: "In full mode both vectors lie in lent 32-bit buffers and are folded there".
use Rattle.std.specs.Prelude.{ℕ, ◌/◌, Bool, List}
use Rattle.refusal.specs.Number as number
use Rattle.refusal.specs.Outcome.{Outcome, answered, require, and_then}
use Rattle.vector.specs.Vector.{at}
use Rattle.vector.specs.Message.{Message}
use Rattle.vector.specs.Slice.{message_slice}
use Rattle.phase.specs.declared.Next.TheVariants as next
use Rattle.phase.specs.Turn as turn
use Rattle.pass.specs.Lent.{reduced_in, good_in}
use Rattle.prover.specs.declared.Run.{Run}
use Rattle.pass.specs.declared.Pass.{Pass}
use Rattle.prover.specs.declared.Reply.TheVariants as answer
use Rattle.prover.specs.Records.{Out, out, answered_step}
use Rattle.prover.specs.Level.{stage_of, fold_size}
use Rattle.prover.specs.WellFormed.{well_formed}
use Rattle.prover.specs.Close.{with_message, with_ends}

-- whose turn it is
abbrev pub message_turn : ℕ → Run → Pass → Bool
message_turn p r s = turn.full_turn (well_formed p r s) r.mode next.Message r.next

abbrev pub ends_turn : ℕ → Run → Pass → Bool
ends_turn p r s = turn.full_turn (well_formed p r s) r.mode next.Ends r.next

abbrev pub opening_turn : ℕ → Run → Pass → Bool
opening_turn p r s = turn.opening_turn (well_formed p r s) r.mode r.next r.start.rounds

abbrev pub both_reduced : ℕ → Run → List ℕ → List ℕ → Bool
both_reduced p r f g = reduced_in p (stage_of r) f g

-- "A full-mode call reads as many first places as the current fold is long": they are there (9) and are field numbers (16)
abbrev pub lent_folds : ℕ → Run → List ℕ → List ℕ → Outcome Out → Outcome Out
lent_folds p r f g rest = and_then (good_in p (stage_of r) f g) (λ x. rest)

-- the run keeps the message of its round, and waits for the challenge
abbrev pub kept_message : Run → Message → Run
kept_message r m = with_message r m.even m.cross m.odd

-- "Message i, from fold i", which the buffers hold: of the pairs of its places
unfoldable pub message_given : ℕ → Run → Pass → List ℕ → List ℕ → Out
message_given p r s f g =
    let m : Message = message_slice p (fold_size r / 2) f g in
    out (answered_step (kept_message r m) s (answer.Message m.even m.cross m.odd)) f g

unfoldable pub message_call : ℕ → Run → Pass → List ℕ → List ℕ → Outcome Out
message_call p r s f g = require (message_turn p r s) number.order (lent_folds p r f g (answered (message_given p r s f g)))

-- the run keeps the end values; openings are next
abbrev pub kept_ends : Run → ℕ → ℕ → Run
kept_ends r f g = with_ends r f g

-- "Fold n is one number, the end value"
abbrev pub ends_given : Run → Pass → List ℕ → List ℕ → Out
ends_given r s f g = out (answered_step (kept_ends r (at f 0) (at g 0)) s (answer.Ends (at f 0) (at g 0))) f g

unfoldable pub ends_call : ℕ → Run → Pass → List ℕ → List ℕ → Outcome Out
ends_call p r s f g = require (ends_turn p r s) number.order (lent_folds p r f g (answered (ends_given r s f g)))
