-- What a verifier's call says, from what its method handed back: its reply, the verdict or the verdict on an opening, or a refusal.
use Rattle.refusal.specs.Outcome.{Outcome}
use Rattle.verifier.specs.Reply.{answer_in}
use Rattle.verifier.specs.Records.{verdict_in, opened_in}
use Rattle.calls.specs.QueryStep.{Said, replies, finds, opens, said_as, Spoken}
use Rattle.dispatch.specs.declared.query.Told.{Told}
use Rattle.dispatch.specs.declared.query.Told.TheVariants as told
use Rattle.dispatch.specs.declared.query.Heard.{Heard}

abbrev pub told_in : Told → Outcome Said
told_in (told.Answer answer) = said_as replies (answer_in answer)
told_in (told.Verdict verdict) = said_as finds (verdict_in verdict)
told_in (told.Opened opened) = said_as opens (opened_in opened)

abbrev pub heard_in : Heard → Spoken
heard_in h = record { verifier = h.verifier; told = told_in h.told }
