-- A call of a verifier's list whose answered calls bring the trip's: every message passes, every verdict is yes, and every opening of the
-- trip opens.
use mathlib.Core.Path.{◌≡◌, refl, sym, ap, ◌∙◌}
use mathlib.Core.Bool.{true, true≢false}
use mathlib.Core.List.{List}
use mathlib.Core.Option.{none}
use Prim.Native.Nat.{ℕ, ◌%◌, ◌^◌, ◌≤◌, ◌<◌}
use native.Mathlib.Omega.{arith}
use lib.ListN.{length}
use Rattle.algebra.specs.Prime.{Prime}
use Rattle.algebra.proofs.Congruence.{residue-zero}
use Rattle.refusal.specs.Limit.{max_weight}
use Rattle.refusal.specs.Outcome.{answered}
use Rattle.vector.specs.Vector.{sum}
use Rattle.verifier.specs.Starts.{fresh_verifier, verifier_of}
use Rattle.runs.specs.Trip.{Trip}
use Rattle.calls.specs.Step.{is_answered}
use Rattle.calls.specs.QueryStep.{Said, Spoken}
use Rattle.calls.specs.QueryState.{VerifierState, fresh_verifier_state, goes_on_heard, verifier_table, Posed, Hearing, heard, hears_on}
use Rattle.calls.specs.Starts.{Whole}
use Rattle.calls.proofs.HeardMeaning.{BringsTrip, SaysTrip}
use Rattle.calls.proofs.QueryStands.{fresh-stands}
use Rattle.calls.proofs.QuerySteps.{says_so, answers, settled_heard, asks}
use Rattle.calls.proofs.QueryLists.{follows}
use Rattle.calls.proofs.HeardFollows.{Follows}
use Rattle.calls.proofs.HeardAnswers.{answers-right}

module _ (p : ℕ) (large : max_weight < p) (prime : Prime p) (odd : p % 2 ≡ 1) (word : p ≤ 2 ^ 32) (T : Trip)
    (whole : Whole T) (cs : List ℕ) (listed : length cs ≡ T.start.rounds) where
  module _ (h : Hearing) (f : Follows p T cs h.state h.verifier) (q : Posed)
      (brings : is_answered (heard p h q).told ≡ true → BringsTrip p T h.state q.query q.shown) where
    abbrev a : VerifierState
    a = h.state

    abbrev did : Spoken
    did = answers p h.verifier q.query q.shown

    same : heard p h q ≡ settled_heard h.verifier (verifier_table p a q.query q.shown) did
    same = asks p a h.verifier f.stands q.query q.shown

    let_through : verifier_table p a q.query q.shown ≡ none → heard p h q ≡ did
    let_through e = same ∙ ap (λ t. settled_heard h.verifier t did) e

    abbrev said : Said
    said = says_so p h.verifier q.query q.shown

    -- an answered call brings the trip's
    right : verifier_table p a q.query q.shown ≡ none
        → SaysTrip p T a q.query q.shown said × Follows p T cs (goes_on_heard a q.query said) did.verifier
    right e =
        answers-right p large prime odd word T whole.start.most whole.start.rounds whole.items cs listed a h.verifier f q.query q.shown e
        (brings (ap (λ (o : Spoken). is_answered o.told) (let_through e)))

    pub says-trip : verifier_table p a q.query q.shown ≡ none → ((heard p h q).told ≡ answered said) × SaysTrip p T a q.query q.shown said
    says-trip e = (ap (λ (o : Spoken). o.told) (let_through e), (right e).0)

    pub follows_next : Follows p T cs (hears_on p h q).state (hears_on p h q).verifier
    follows_next =
        follows p a h.verifier q.query q.shown (Follows p T cs) (verifier_table p a q.query q.shown) (heard p h q) same f (λ e. (right e).1)

  pub fresh-follows : Follows p T cs (fresh_verifier_state T.start cs) (verifier_of T.start cs)
  unfolding fresh_verifier sum
  fresh-follows =
      record {
        stands = fresh-stands T.start whole.start cs p;
        start = refl;
        challenges = refl;
        fine = λ i h. absurd (omega arith);
        fsum = sym (residue-zero p);
        gsum = sym (residue-zero p);
        going = refl;
        claim = λ closed. absurd (true≢false (sym closed));
      }
