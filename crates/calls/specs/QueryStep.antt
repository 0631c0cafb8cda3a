-- A call of a verifier as data, and what it hands back: exactly the definitions that the methods' contracts cite.
use Rattle.std.specs.Prelude.{ℕ, List}
use Rattle.refusal.specs.Outcome.{Outcome, answered, refused, refused_at}
use Rattle.verifier.specs.declared.Verifier.{Verifier}
use Rattle.verifier.specs.Reply.{Reply}
use Rattle.verifier.specs.Records.{Handed, leaves, Finding, OpeningFinding}
use Rattle.verifier.specs.Calls.{give, close, close_claim, message, verdict, check_opening, check_batch}
use Rattle.verifier.specs.ProofFile.{proof, leaves_judged}
use Rattle.calls.specs.declared.query.Query.{Query}
use Rattle.calls.specs.declared.query.Query.TheVariants as query

-- the file, the opening values and, of a batch, each log's value that a call is lent; none of them is written
pub record Shown : Type 0 where
  pub file : List ℕ
  pub values : List ℕ
  pub logs : List ℕ

-- what an answered call says: a reply, the verdict, or the verdict on an opening
pub data Said : Type 0 where
  replies : Reply → Said
  finds : Finding → Said
  opens : OpeningFinding → Said

-- the verifier that a call hands back, and what it says or its refusal
pub record Spoken : Type 0 where
  pub verifier : Verifier
  pub told : Outcome Said

abbrev pub said_as : {A : Type 0} → (A → Said) → Outcome A → Outcome Said
said_as f (answered x) = answered (f x)
said_as f (refused k) = refused k
said_as f (refused_at k i) = refused_at k i

abbrev pub saying : {A : Type 0} → (A → Said) → Verifier → Outcome A → Spoken
saying f v o = record { verifier = v; told = said_as f o }

abbrev pub replying : Handed → Spoken
replying h = saying replies h.verifier h.outcome

unfoldable pub ask : ℕ → Verifier → Query → Shown → Spoken
ask p v (query.Give x) l = replying (leaves v (give p v x))
ask p v (query.Close t) l = replying (leaves v (close p v t))
ask p v (query.CloseClaim c) l = replying (leaves v (close_claim p v c))
ask p v (query.Message even cross odd) l = replying (leaves v (message p v even cross odd))
ask p v query.Verdict l = saying finds v (verdict p v)
ask p v query.Proof l = saying finds (leaves_judged v (proof p v l.file)).0 (leaves_judged v (proof p v l.file)).1
ask p v (query.CheckOpening b) l = saying opens v (check_opening p v b l.values)
ask p v (query.CheckBatch m z b) l = saying finds v (check_batch p v m z b l.values l.logs)
