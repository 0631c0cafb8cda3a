-- THE VERIFIER SAYS YES FOR EXACTLY THE MESSAGES THAT MEET ITS EQUATIONS, at every place of any list of its calls.
use mathlib.Core.Path.{◌≡◌, refl, sym, ap, subst, ◌∙◌}
use mathlib.Core.Bool.{true, true≢false}
use mathlib.Core.List.{List, [], ◌∷◌}
use mathlib.Core.Option.{Option, none, some}
use Prim.Native.Nat.{ℕ, ◌<◌}
use native.Mathlib.Omega.{arith}
use lib.ListN.{length}
use Rattle.algebra.proofs.Congruence.{residue-zero}
use Rattle.refusal.specs.Limit.{max_weight}
use Rattle.vector.specs.Vector.{sum}
use Rattle.verifier.specs.declared.Verifier.{Verifier}
use Rattle.verifier.specs.Starts.{fresh_verifier, verifier_of}
use Rattle.item.specs.declared.Start.{Start}
use Rattle.calls.specs.declared.query.Query.{Query}
use Rattle.calls.specs.Step.{is_answered}
use Rattle.calls.specs.QueryStep.{Shown, Spoken, ask}
use Rattle.calls.specs.Lists.{along}
use Rattle.calls.specs.QueryState.{VerifierState, fresh_verifier_state, follow_heard, verifier_table, Posed}
use Rattle.calls.specs.Starts.{Startable}
use Rattle.calls.specs.Table.{Refusal}
use Rattle.calls.specs.Verdict.{Brought, nothing, brought_with, brought_as, Judges, Account, fresh_account, account_on}
use Rattle.calls.specs.Demand3.{AllJudged}
use Rattle.calls.proofs.QueryStands.{fresh-stands}
use Rattle.calls.proofs.QuerySteps.{answers, settled_heard, asks}
use Rattle.calls.proofs.VerdictPhases.{unclosed, Bears}
use Rattle.calls.proofs.VerdictFollows.{answers-judged}

module _ (p : ℕ) (s : Start) (cs : List ℕ) (large : max_weight < p) (fits : Startable s) (listed : length cs ≡ s.rounds) where
  abbrev n : ℕ
  n = s.rounds

  module _ (b : Brought) (a : VerifierState) (v : Verifier) (h : Bears p s cs b a v) (c : Query) (l : Shown) where
    abbrev said : Spoken
    said = ask p v c l

    -- an answered call is one that the table has nothing against; a refused one changes nothing
    next : (t : Option Refusal) → verifier_table p a c l ≡ t → said ≡ settled_heard v t (answers p v c l)
        → (is_answered said.told ≡ true → Judges p s cs (brought_with p n b c l) c l said.told)
        × Bears p s cs (brought_as p n b c l said.told) (follow_heard a c said.told) said.verifier
    next none e same =
        let right = answers-judged p s cs large fits listed b a v h c l e in (
          λ told. subst (λ (o : Spoken). Judges p s cs (brought_with p n b c l) c l o.told) (sym same) right.0,
          subst (λ (o : Spoken). Bears p s cs (brought_as p n b c l o.told) (follow_heard a c o.told) o.verifier) (sym same) right.1,
        )
    next (some (k, none)) e same = (
      λ told. absurd (true≢false (sym told ∙ ap (λ (o : Spoken). is_answered o.told) same)),
      subst (λ (o : Spoken). Bears p s cs (brought_as p n b c l o.told) (follow_heard a c o.told) o.verifier) (sym same) h,
    )
    next (some (k, some i)) e same = (
      λ told. absurd (true≢false (sym told ∙ ap (λ (o : Spoken). is_answered o.told) same)),
      subst (λ (o : Spoken). Bears p s cs (brought_as p n b c l o.told) (follow_heard a c o.told) o.verifier) (sym same) h,
    )

    pub goes : (is_answered said.told ≡ true → Judges p s cs (brought_with p n b c l) c l said.told)
        × Bears p s cs (brought_as p n b c l said.told) (follow_heard a c said.told) said.verifier
    goes = next (verifier_table p a c l) refl (asks p a v h.stands c l)

  fresh-bears : Bears p s cs nothing (fresh_verifier_state s cs) (verifier_of s cs)
  unfolding fresh_verifier sum
  fresh-bears =
      record {
        stands = fresh-stands s fits cs p;
        start = refl;
        challenges = refl;
        phase =
            unclosed refl
            (record {
              messages = refl;
              ends = refl;
              sums = record { taken = refl; fine = λ i h. absurd (omega arith); fsum = sym (residue-zero p); gsum = sym (residue-zero p) };
            });
      }

  -- ALONG A LIST
  all-judged : (qs : List Posed) (w : Account) → Bears p s cs w.brought w.now.state w.now.verifier → AllJudged p s cs w qs
  unfolding along
  all-judged [] w h = tt
  all-judged (m ∷ qs) w h = let g = goes w.brought w.now.state w.now.verifier h m.query m.shown in (g.0, all-judged qs (account_on p n w m) g.1)

  pub every-verdict : (qs : List Posed) → AllJudged p s cs (fresh_account s cs) qs
  every-verdict qs = all-judged qs (fresh_account s cs) fresh-bears
