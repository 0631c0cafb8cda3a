-- A CALL IS THE TABLE'S: what it hands back where the table has nothing against it, and a refusal that changes nothing where it has.
use mathlib.Core.Path.{◌≡◌, refl, ap, ◌∙◌}
use mathlib.Core.Bool.{Bool, cond}
use mathlib.Core.Option.{Option, none, some}
use Prim.Native.Nat.{ℕ}
use Rattle.refusal.specs.Outcome.{Outcome, answered}
use Rattle.field.specs.Integer.{image}
use Rattle.wire.specs.Proof.{proof_total}
use Rattle.vector.specs.Message.{Message}
use Rattle.verifier.specs.declared.Verifier.{Verifier}
use Rattle.verifier.specs.Reply as reply
use Rattle.verifier.specs.Records.{Replied, leaves}
use Rattle.verifier.specs.Sums.{takes}
use Rattle.verifier.specs.Claims.{message_of3, closes, passed_with, failed_now, hears, finds}
use Rattle.verifier.specs.Openings.{opening_finds}
use Rattle.verifier.specs.Batch.{batch_finds}
use Rattle.verifier.specs.ProofFile.{after_file, Judgement, leaves_judged}
use Rattle.item.specs.Item.{contributes}
use Rattle.calls.specs.declared.query.Query.{Query}
use Rattle.calls.specs.declared.query.Query.TheVariants as query
use Rattle.calls.specs.QueryStep.{Shown, Said, replies, Spoken, saying, replying, ask}
use Rattle.calls.specs.QueryStep as said
use Rattle.calls.specs.QueryState.{VerifierState, verifier_table}
use Rattle.calls.specs.Table.{Refusal, refused_with, decided}
use Rattle.calls.proofs.QueryStands.{Stands}
use Rattle.calls.proofs.QueryGuards.{item-decided, close-decided, close-claim-decided, message-decided, verdict-decided, proof-decided, opening-decided, batch-decided}

-- what a message is answered, by whether it passes
abbrev pub heard_as : ℕ → Verifier → Message → Bool → Replied
heard_as p v m b =
    cond b (record { verifier = passed_with p v m; reply = reply.passed }) (record { verifier = failed_now v; reply = reply.no v.round })

-- an answered call: the verifier after it, and what it says
abbrev pub goes_to : ℕ → Verifier → Query → Shown → Verifier
goes_to p v (query.Give x) l = (takes p v (contributes p v.start x)).verifier
goes_to p v (query.Close t) l = (closes v (image p t)).verifier
goes_to p v (query.CloseClaim c) l = (closes v c).verifier
goes_to p v (query.Message even cross odd) l = (hears p v (message_of3 even cross odd)).verifier
goes_to p v query.Verdict l = v
goes_to p v query.Proof l = after_file p v (proof_total l.file) l.file
goes_to p v (query.CheckOpening b) l = v
goes_to p v (query.CheckBatch m z b) l = v

abbrev pub says_so : ℕ → Verifier → Query → Shown → Said
says_so p v (query.Give x) l = replies reply.taken
says_so p v (query.Close t) l = replies reply.closed
says_so p v (query.CloseClaim c) l = replies reply.closed
says_so p v (query.Message even cross odd) l = replies (hears p v (message_of3 even cross odd)).reply
says_so p v query.Verdict l = said.finds (finds p v)
says_so p v query.Proof l = said.finds (finds p (after_file p v (proof_total l.file) l.file))
says_so p v (query.CheckOpening b) l = said.opens (opening_finds p v b l.values)
says_so p v (query.CheckBatch m z b) l = said.finds (batch_finds p v z b l.values l.logs)

abbrev pub answers : ℕ → Verifier → Query → Shown → Spoken
answers p v c l = record { verifier = goes_to p v c l; told = answered (says_so p v c l) }

abbrev pub settled_heard : Verifier → Option Refusal → Spoken → Spoken
settled_heard v none o = o
settled_heard v (some k) o = record { verifier = v; told = refused_with k.0 k.1 }

pub step_so : (v : Verifier) (t : Option Refusal) (o : Replied)
    → replying (leaves v (decided t (answered o))) ≡ settled_heard v t (record { verifier = o.verifier; told = answered (replies o.reply) })
step_so v none o = refl
step_so v (some (k, none)) o = refl
step_so v (some (k, some i)) o = refl

said_so : {A : Type 0} (as_said : A → Said) (v : Verifier) (t : Option Refusal) (x : A)
    → saying as_said v (decided t (answered x)) ≡ settled_heard v t (record { verifier = v; told = answered (as_said x) })
said_so f v none x = refl
said_so f v (some (k, none)) x = refl
said_so f v (some (k, some i)) x = refl

abbrev judged_heard : Verifier → Outcome Judgement → Spoken
judged_heard v o = saying said.finds (leaves_judged v o).0 (leaves_judged v o).1

judged_so : (v : Verifier) (t : Option Refusal) (j : Judgement)
    → judged_heard v (decided t (answered j)) ≡ settled_heard v t (record { verifier = j.verifier; told = answered (said.finds j.finding) })
judged_so v none j = refl
judged_so v (some (k, none)) j = refl
judged_so v (some (k, some i)) j = refl

-- THE STEP
pub asks : (p : ℕ) (a : VerifierState) (v : Verifier) → Stands p a v → (c : Query) (l : Shown)
    → ask p v c l ≡ settled_heard v (verifier_table p a c l) (answers p v c l)
unfolding ask
asks p a v s (query.Give x) l =
    ap (λ o. replying (leaves v o)) (item-decided p a v s x l) ∙ step_so v (verifier_table p a (query.Give x) l) _
asks p a v s (query.Close t) l =
    ap (λ o. replying (leaves v o)) (close-decided p a v s t l) ∙ step_so v (verifier_table p a (query.Close t) l) _
asks p a v s (query.CloseClaim c) l =
    ap (λ o. replying (leaves v o)) (close-claim-decided p a v s c l) ∙ step_so v (verifier_table p a (query.CloseClaim c) l) _
asks p a v s (query.Message even cross odd) l =
    ap (λ o. replying (leaves v o)) (message-decided p a v s even cross odd l)
    ∙ step_so v (verifier_table p a (query.Message even cross odd) l) _
asks p a v s query.Verdict l = ap (saying said.finds v) (verdict-decided p a v s l) ∙ said_so said.finds v (verifier_table p a query.Verdict l) _
asks p a v s query.Proof l = ap (judged_heard v) (proof-decided p a v s l) ∙ judged_so v (verifier_table p a query.Proof l) _
asks p a v s (query.CheckOpening b) l =
    ap (saying said.opens v) (opening-decided p a v s b l) ∙ said_so said.opens v (verifier_table p a (query.CheckOpening b) l) _
asks p a v s (query.CheckBatch m z b) l =
    ap (saying said.finds v) (batch-decided p a v s m z b l) ∙ said_so said.finds v (verifier_table p a (query.CheckBatch m z b) l) _
