-- A challenge, in either mode: document 01, "A run".
use Rattle.std.specs.Prelude.{ℕ, ◌+◌, ◌*◌, ◌/◌, Bool, List, get_or, set}
use Rattle.refusal.specs.Number as number
use Rattle.refusal.specs.Outcome.{Outcome, answered, require}
use Rattle.field.specs.Number.{is_nonzero}
use Rattle.vector.specs.Slice.{fold_slice}
use Rattle.vector.specs.Message.{Message, next_claim}
use Rattle.claim.specs.Claim.{message_of3}
use Rattle.phase.specs.declared.Mode.{Mode}
use Rattle.phase.specs.declared.Mode.TheVariants.{Small, Full}
use Rattle.phase.specs.Turn as turn
use Rattle.phase.specs.Order.{round_or_ends}
use Rattle.prover.specs.declared.Run.{Run}
use Rattle.pass.specs.declared.Pass.{Pass}
use Rattle.prover.specs.declared.Reply.TheVariants as answer
use Rattle.prover.specs.Records.{Step, Out, out, answered_step}
use Rattle.prover.specs.Level.{fold_size}
use Rattle.prover.specs.WellFormed.{well_formed}
use Rattle.prover.specs.Full.{lent_folds}

abbrev pub challenge_turn : ℕ → Run → Pass → Bool
challenge_turn p r s = turn.challenge_turn (well_formed p r s) r.next

-- the message of round i among those that the run keeps, from place 3i on
abbrev pub kept_message : List ℕ → ℕ → Message
kept_message messages i = message_of3 (get_or messages (3 * i) 0) (get_or messages (3 * i + 1) 0) (get_or messages (3 * i + 2) 0)

-- the run keeps the challenge of its round, and its claim becomes "the value of the last message at its challenge"; the next message is
-- next, or the ends after the last round
abbrev pub kept_challenge : ℕ → Run → ℕ → Run
kept_challenge p r c =
    record {
      start = r.start;
      mode = r.mode;
      next = round_or_ends (r.round + 1) r.start.rounds;
      round = r.round + 1;
      challenges = set r.challenges r.round c;
      messages = r.messages;
      total = r.total;
      claim = next_claim p (kept_message r.messages r.round) c;
      fend = r.fend;
      gend = r.gend;
    }

abbrev pub challenged_small : ℕ → Run → Pass → ℕ → Step
challenged_small p r s c = answered_step (kept_challenge p r c) s answer.Challenged

-- "a challenge writes as many as the new fold is long; all other places stay"
unfoldable pub challenged_full : ℕ → Run → Pass → ℕ → List ℕ → List ℕ → Out
challenged_full p r s c f g =
    out (answered_step (kept_challenge p r c) s answer.Challenged) (fold_slice p c (fold_size r / 2) f) (fold_slice p c (fold_size r / 2) g)

-- in small mode the buffers are not looked at
abbrev pub challenged : ℕ → Run → Pass → ℕ → List ℕ → List ℕ → Mode → Outcome Out
challenged p r s c f g Small = answered (out (challenged_small p r s c) f g)
challenged p r s c f g Full = lent_folds p r f g (answered (challenged_full p r s c f g))

unfoldable pub challenge_call : ℕ → Run → Pass → ℕ → List ℕ → List ℕ → Outcome Out
challenge_call p r s c f g =
    require (challenge_turn p r s) number.order (require (is_nonzero p c) number.argument (challenged p r s c f g r.mode))
