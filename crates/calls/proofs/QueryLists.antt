-- Whatever the list of a verifier's calls: each is refused exactly when the table says, and then nothing changes.
use mathlib.Core.Path.{◌≡◌, refl, sym, ap, subst}
use mathlib.Core.List.{List, [], ◌∷◌}
use mathlib.Core.Option.{Option, none, some}
use Prim.Native.Nat.{ℕ}
use Rattle.verifier.specs.declared.Verifier.{Verifier}
use Rattle.item.specs.declared.Start.{Start}
use Rattle.calls.specs.declared.query.Query.{Query}
use Rattle.calls.specs.Step.{is_answered}
use Rattle.calls.specs.QueryStep.{Shown, Spoken, ask}
use Rattle.calls.specs.QueryState.{VerifierState, goes_on_heard, follow_heard, verifier_table, Posed, Hearing, fresh_hearing, hears_on, DecidesHeard}
use Rattle.calls.specs.Lists.{along}
use Rattle.calls.specs.Starts.{Startable}
use Rattle.calls.specs.Demand3.{AllDecidedHeard}
use Rattle.calls.specs.Table.{Refusal, refused_with}
use Rattle.calls.proofs.QueryStands.{Stands, fresh-stands}
use Rattle.calls.proofs.QuerySteps.{goes_to, says_so, answers, settled_heard, asks}
use Rattle.calls.proofs.QueryKeeps.{stands_after}

-- a refusal leaves the state
refused_state : (a : VerifierState) (c : Query) (k : ℕ) (i : Option ℕ) → follow_heard a c (refused_with k i) ≡ a
refused_state a c k none = refl
refused_state a c k (some i) = refl

module _ (p : ℕ) (a : VerifierState) (v : Verifier) (c : Query) (l : Shown) where
  decides : (t : Option Refusal) (x : Spoken) → x ≡ settled_heard v t (answers p v c l) → DecidesHeard v t x
  decides none x e = ap (λ (h : Spoken). is_answered h.told) e
  decides (some k) x e = e

  -- what holds of the state and the verifier after a call
  pub follows : (P : VerifierState → Verifier → Type 0) (t : Option Refusal) (x : Spoken) → x ≡ settled_heard v t (answers p v c l)
      → P a v → (t ≡ none → P (goes_on_heard a c (says_so p v c l)) (goes_to p v c l)) → P (follow_heard a c x.told) x.verifier
  follows P none x e before after = subst (λ (h : Spoken). P (follow_heard a c h.told) h.verifier) (sym e) (after refl)
  follows P (some k) x e before after =
      subst (λ (h : Spoken). P (follow_heard a c h.told) h.verifier) (sym e)
      (subst (λ b. P b v) (sym (refused_state a c k.0 k.1)) before)

module _ (p : ℕ) where
  pub stands-next : (a : VerifierState) (v : Verifier) → Stands p a v → (c : Query) (l : Shown)
      → Stands p (follow_heard a c (ask p v c l).told) (ask p v c l).verifier
  stands-next a v s c l = follows p a v c l (Stands p) (verifier_table p a c l) (ask p v c l) (asks p a v s c l) s (stands_after p a v s c l)

  all-decided : (qs : List Posed) (h : Hearing) → Stands p h.state h.verifier → AllDecidedHeard p h qs
  unfolding along
  all-decided [] h s = tt
  all-decided (q ∷ qs) h s = (
    decides p h.state h.verifier q.query q.shown (verifier_table p h.state q.query q.shown) _
        (asks p h.state h.verifier s q.query q.shown),
    all-decided qs (hears_on p h q) (stands-next h.state h.verifier s q.query q.shown),
  )

-- REFUSED EXACTLY WHEN, AND WITH THE NUMBER THAT, THE TABLE SAYS
pub every-query : (p : ℕ) (s : Start) → Startable s → (cs : List ℕ) (qs : List Posed) → AllDecidedHeard p (fresh_hearing s cs) qs
every-query p s h cs qs = all-decided p qs (fresh_hearing s cs) (fresh-stands s h cs p)
