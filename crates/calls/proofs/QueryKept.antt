-- A verifier keeps its start and its challenges.
use mathlib.Core.Path.{◌≡◌, refl}
use Rattle.refusal.specs.Outcome.{Outcome, answered, refused, refused_at}
use Rattle.verifier.specs.Reply as reply
use Rattle.verifier.specs.Records.{yes, no}
use Rattle.calls.specs.declared.query.Query.{Query}
use Rattle.calls.specs.declared.query.Query.TheVariants as query
use Rattle.calls.specs.QueryStep.{Said, replies, finds, opens}
use Rattle.calls.specs.QueryState.{VerifierState, hearing, goes_on_heard, follow_heard}

heard_kept : (b : VerifierState) (t : Said) → ((hearing b t).start ≡ b.start) × ((hearing b t).challenges ≡ b.challenges)
heard_kept b (replies reply.started) = (refl, refl)
heard_kept b (replies reply.taken) = (refl, refl)
heard_kept b (replies reply.closed) = (refl, refl)
heard_kept b (replies reply.passed) = (refl, refl)
heard_kept b (replies (reply.no k)) = (refl, refl)
heard_kept b (finds yes) = (refl, refl)
heard_kept b (finds (no k)) = (refl, refl)
heard_kept b (opens x) = (refl, refl)

pub hears-kept : (b : VerifierState) (q : Query) (t : Said) → ((goes_on_heard b q t).start ≡ b.start) × ((goes_on_heard b q t).challenges ≡ b.challenges)
hears-kept b (query.Give x) t = (refl, refl)
hears-kept b (query.Close z) t = heard_kept b t
hears-kept b (query.CloseClaim c) t = heard_kept b t
hears-kept b (query.Message even cross odd) t = heard_kept b t
hears-kept b query.Verdict t = heard_kept b t
hears-kept b query.Proof t = heard_kept b t
hears-kept b (query.CheckOpening x) t = (refl, refl)
hears-kept b (query.CheckBatch m z x) t = (refl, refl)

pub follow-kept : (b : VerifierState) (q : Query) (o : Outcome Said) → ((follow_heard b q o).start ≡ b.start) × ((follow_heard b q o).challenges ≡ b.challenges)
follow-kept b q (answered t) = hears-kept b q t
follow-kept b q (refused k) = (refl, refl)
follow-kept b q (refused_at k i) = (refl, refl)
