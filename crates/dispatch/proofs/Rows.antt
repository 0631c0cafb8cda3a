-- Two arms of the dispatchers that docs/changes names: what is handed back, from what the call ensures.
use mathlib.Core.Path.{◌≡◌, sym, ap, ◌∙◌}
use mathlib.Core.List.{List, []}
use Prim.Native.Nat.{ℕ}
use Rattle.refusal.specs.Outcome.{Outcome}
use Rattle.prover.specs.declared.Run.{Run}
use Rattle.pass.specs.declared.Pass.{Pass}
use Rattle.prover.specs.Records.{Step, out, leaves}
use Rattle.prover.specs.Change.{to_small_call}
use Rattle.calls.specs.declared.Call.{Call}
use Rattle.calls.specs.declared.Call.TheVariants as call
use Rattle.calls.specs.Step.{lending, keeping, step}
use Rattle.dispatch.specs.Made.{result_of}
use Rattle.verifier.specs.declared.Verifier.{Verifier}
use Rattle.verifier.specs.Records.{Finding}
use Rattle.verifier.specs.Calls.{check_batch}
use Rattle.calls.specs.declared.query.Query.{Query}
use Rattle.calls.specs.declared.query.Query.TheVariants as query
use Rattle.calls.specs.QueryStep.{Shown, finds, Spoken, saying, ask}

module _ (p : ℕ) (r : Run) (s : Pass) (f g file : List ℕ) where
  -- at the call that is made
  at_call : (o : Step) (f' g' file' : List ℕ) (c k : Call) → c ≡ k → result_of o f' g' file' ≡ step p r s k (lending f g file) → result_of o f' g' file' ≡ step p r s c (lending f g file)
  at_call o f' g' file' c k e h = h ∙ sym (ap (λ x. step p r s x (lending f g file)) e)

  pub made-to_small : (o : Step) (c : Call) → c ≡ call.ToSmall → out o [] [] ≡ leaves r s [] [] (to_small_call p r s) → result_of o f g file ≡ step p r s c (lending f g file)
  unfolding step
  made-to_small o c e h = at_call o f g file c call.ToSmall e (ap (keeping (lending f g file)) h)

module _ (p : ℕ) (v : Verifier) (l : Shown) {q : Query} {r : Spoken} where
  pub batch-arm : (m z b : ℕ) {o : Outcome Finding} → q ≡ query.CheckBatch m z b → o ≡ check_batch p v m z b l.values l.logs
      → r ≡ saying finds v o → r ≡ ask p v q l
  unfolding ask
  batch-arm m z b e a h = h ∙ ap (saying finds v) a ∙ ap (λ q. ask p v q l) (sym e)
