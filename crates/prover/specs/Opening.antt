-- Openings in full mode: "worked from fold 0, which the host lends again; they only read it".
use Rattle.std.specs.Prelude.{ℕ, List}
use Rattle.refusal.specs.Number as number
use Rattle.refusal.specs.Outcome.{Outcome, answered, require}
use Rattle.vector.specs.Vector.{at}
use Rattle.field.specs.Number.{is_nonzero}
use Rattle.vector.specs.Opening.{opening}
use Rattle.prover.specs.declared.Run.{Run}
use Rattle.pass.specs.declared.Pass.{Pass}
use Rattle.prover.specs.Reply as reply
use Rattle.prover.specs.Records.{Out}
use Rattle.pass.specs.Values.{in_ninety}
use Rattle.prover.specs.Full.{opening_turn, lent_folds}

-- "Opening at point b", of fold 0 as the buffers hold it; nothing changes
unfoldable pub opening_given : ℕ → Run → Pass → ℕ → List ℕ → List ℕ → Out
opening_given p r s b f g =
    record {
      run = r;
      pass = s;
      answer = answered reply.opening;
      values = in_ninety r.start.rounds (opening p r.start.rounds (at r.challenges) (at f) (at g) b);
      f = f;
      g = g;
    }

unfoldable pub opening_call : ℕ → Run → Pass → ℕ → List ℕ → List ℕ → Outcome Out
opening_call p r s b f g =
    require (opening_turn p r s) number.order
    (require (is_nonzero p b) number.argument (lent_folds p r f g (answered (opening_given p r s b f g))))
