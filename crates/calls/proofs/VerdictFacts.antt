-- The equations of what was brought: at most one verdict answers to them, and what one message or a proof file more does to them.
use mathlib.Core.Path.{◌≡◌, refl, sym, ap, subst, ◌∙◌}
use mathlib.Core.Bool.{Bool, true, false}
use mathlib.Core.List.{List, [], ◌∷◌}
use mathlib.Core.Logic.{◌⊎◌, inl, inr}
use Prim.Native.Nat.{ℕ, zero, suc, ◌≤◌, ◌<◌}
use native.Mathlib.Numerals.{add-one}
use native.Mathlib.Omega.{arith}
use lib.Dec.{ltb}
use lib.ListN.{length, get_or, length-append, get_or-append}
use lib.Seq.{get_or-append_seam}
use borrow.Author.Tests.{ltb-true, ltb-false}
use Rattle.refusal.specs.Outcome.{Outcome, answered}
use Rattle.vector.specs.Vector.{at}
use Rattle.vector.specs.Message.{Message, passes}
use Rattle.verifier.specs.Reply as reply
use Rattle.verifier.specs.Records.{Finding, yes, no}
use Rattle.verifier.specs.Claims.{message_of3}
use Rattle.verifier.specs.ProofFile.{file_message}
use Rattle.verifier.specs.Trips.{claim_at}
use Rattle.verifier.proofs.Verdicts.{claim-of_same}
use Rattle.verifier.proofs.FileVerdicts.{FileSays, file_claim}
use Rattle.item.specs.declared.Start.{Start}
use Rattle.calls.specs.QueryStep.{Said, replies, finds}
use Rattle.calls.specs.Verdict.{Brought, message_brought, file_messages, file_brought, end_f, end_g, brought_message, claim_in, Passes, AllPass, Meets, FailsFirst, FailsLast, VerdictJudged, MessageJudged}
use Rattle.calls.proofs.HeardTrip.{below_suc}

-- what is said
abbrev judged_as : Finding → Outcome Said
judged_as d = answered (finds d)

abbrev heard_as : reply.Reply → Outcome Said
heard_as x = answered (replies x)

no_same : {j k : ℕ} → judged_as (no j) ≡ judged_as (no k) → j ≡ k
no_same e = cc

yes_no : {k : ℕ} → judged_as yes ≡ judged_as (no k) → ⊥
yes_no e = let z : ◌≡◌ {A = ℕ} 0 1 = cc in omega arith

failed_same : {j k : ℕ} → heard_as (reply.no j) ≡ heard_as (reply.no k) → j ≡ k
failed_same e = cc

passed-no : {k : ℕ} → heard_as reply.passed ≡ heard_as (reply.no k) → ⊥
passed-no e = let z : ◌≡◌ {A = ℕ} 0 1 = cc in omega arith

module _ (p : ℕ) (s : Start) (cs : List ℕ) (b : Brought) where
  abbrev pub Fails : ℕ → Type 0
  Fails k = FailsFirst p s cs b k ⊎ FailsLast p s cs b k

  -- what each verdict says
  abbrev pub Found : Finding → Type 0
  Found yes = Meets p s cs b
  Found (no k) = Fails k

  first-same : (k j : ℕ) → FailsFirst p s cs b k → FailsFirst p s cs b j → k ≡ j
  first-same k j f g = by (ltb k j) (ltb j k) refl refl
    where
      by : (x y : Bool) → ltb k j ≡ x → ltb j k ≡ y → k ≡ j
      by true y d e = absurd (f.fails (g.before k (ltb-true k j d)))
      by false true d e = absurd (g.fails (f.before j (ltb-true j k e)))
      by false false d e = let l = ltb-false k j d in let r = ltb-false j k e in omega arith

  fails-same : (k j : ℕ) → Fails k → Fails j → k ≡ j
  fails-same k j (inl f) (inl g) = first-same k j f g
  fails-same k j (inl f) (inr g) = absurd (f.fails (g.all k f.round))
  fails-same k j (inr f) (inl g) = absurd (g.fails (f.all j g.round))
  fails-same k j (inr f) (inr g) = f.last ∙ sym g.last

  meets_not : Meets p s cs b → (k : ℕ) → Fails k → ⊥
  meets_not h k (inl f) = f.fails (h.all k f.round)
  meets_not h k (inr f) = f.fails h.product h.ends

  pub judged : (d : Finding) → Found d → VerdictJudged p s cs b (answered (finds d))
  judged yes h =
      record {
        yes = (λ e. h, λ m. refl);
        no = λ k. (λ e. absurd (yes_no e), λ f. absurd (meets_not h k f));
        either = inl refl;
      }
  judged (no j) h =
      record {
        yes = (λ e. absurd (yes_no (sym e)), λ m. absurd (meets_not m j h));
        no = λ k. (λ e. subst Fails (no_same e) h, λ f. ap (λ k. judged_as (no k)) (fails-same j k h f));
        either = inr (j, refl);
      }

  pub answered-passed : AllPass p s cs b (length b.messages) → MessageJudged p s cs b (answered (replies reply.passed))
  answered-passed h =
      record {
        passed = (λ e. h, λ m. refl);
        no = λ k. (λ e. absurd (passed-no e), λ f. absurd (f.fails (h k f.given)));
        either = inl refl;
      }

  pub answered-no : (j : ℕ) → FailsFirst p s cs b j → MessageJudged p s cs b (answered (replies (reply.no j)))
  answered-no j h =
      record {
        passed = (λ e. absurd (passed-no (sym e)), λ m. absurd (h.fails (m j h.given)));
        no = λ k. (λ e. subst (FailsFirst p s cs b) (failed_same e) h, λ f. ap (λ k. heard_as (reply.no k)) (first-same j k h f));
        either = inr (j, refl);
      }

-- ONE MESSAGE MORE
module _ (p : ℕ) (s : Start) (cs : List ℕ) (b : Brought) (m : Message) where
  abbrev k : ℕ
  k = length b.messages

  abbrev more : Brought
  more = message_brought b m

  pub more-count : length more.messages ≡ suc k
  more-count = length-append b.messages (m ∷ []) ∙ add-one k

  earlier : (i : ℕ) → i < k → brought_message p s cs more i ≡ brought_message p s cs b i
  earlier i h = get_or-append b.messages (m ∷ []) (message_of3 0 0 0) i h

  pub newest : brought_message p s cs more k ≡ m
  newest = get_or-append_seam b.messages m [] (message_of3 0 0 0)

  claims : (i : ℕ) → i ≤ k → claim_in p s cs more i ≡ claim_in p s cs b i
  claims i h = claim-of_same p k (at cs) b.claim (brought_message p s cs more) (brought_message p s cs b) earlier i h

  kept : AllPass p s cs b k → AllPass p s cs more k
  kept all i h = ap (passes p) (earlier i h) ∙ all i h ∙ sym (claims i (omega arith))

  pub more-pass : AllPass p s cs b k → passes p m ≡ claim_in p s cs b k → AllPass p s cs more (length more.messages)
  more-pass all e =
      subst (AllPass p s cs more) (sym more-count)
      (below_suc (Passes p s cs more) k (kept all) (ap (passes p) newest ∙ e ∙ sym (claims k (omega arith))))

  pub more-fails : AllPass p s cs b k → k < s.rounds → (passes p m ≡ claim_in p s cs b k → ⊥) → FailsFirst p s cs more k
  more-fails all less bad =
      record {
        round = less;
        given = omega (arith, more-count);
        before = kept all;
        fails = λ e. bad (sym (ap (passes p) newest) ∙ e ∙ claims k (omega arith));
      }

-- A PROOF FILE
file-count : (file : List ℕ) (n : ℕ) → length (file_messages file n) ≡ n
unfolding file_messages
file-count file zero = refl
file-count file (suc n) =
    length-append (file_messages file n) (file_message file n ∷ []) ∙ add-one (length (file_messages file n)) ∙ ap suc (file-count file n)

file-at : (file : List ℕ) (d : Message) (n i : ℕ) → i < n → get_or (file_messages file n) i d ≡ file_message file i
unfolding file_messages
file-at file d zero i h = absurd (omega arith)
file-at file d (suc n) i h =
    below_suc (λ i. get_or (file_messages file (suc n)) i d ≡ file_message file i) n
    (λ i l. get_or-append (file_messages file n) (file_message file n ∷ []) d i (omega (arith, file-count file n)) ∙ file-at file d n i l)
    (ap (λ k. get_or (file_messages file (suc n)) k d) (sym (file-count file n)) ∙ get_or-append_seam (file_messages file n) (file_message file n) [] d)
    i h

module _ (p : ℕ) (s : Start) (cs : List ℕ) (b : Brought) (file : List ℕ) where
  abbrev n : ℕ
  n = s.rounds

  abbrev filed : Brought
  filed = file_brought p n b file

  own : (i : ℕ) → i < n → brought_message p s cs filed i ≡ file_message file i
  own i h = file-at file (message_of3 0 0 0) n i h

  file-claims : (i : ℕ) → i ≤ n → claim_in p s cs filed i ≡ claim_at p (at cs) (file_claim p file) (file_message file) i
  file-claims i h = claim-of_same p n (at cs) (file_claim p file) (brought_message p s cs filed) (file_message file) own i h

  pub found-file : (d : Finding) → FileSays p (at cs) file n (end_f p s cs b) (end_g p s cs b) d → Found p s cs filed d
  found-file yes h =
      record {
        count = file-count file n;
        all = λ i l. ap (passes p) (own i l) ∙ h.0 i l ∙ sym (file-claims i (omega arith));
        product = file-claims n (omega arith) ∙ h.1;
        ends = h.2;
      }
  found-file (no k) (inl f) =
      let less = f.below in
      inl
      (record {
        round = less;
        given = omega (arith, file-count file n);
        before = λ i l. ap (passes p) (own i (omega arith)) ∙ f.before i l ∙ sym (file-claims i (omega arith));
        fails = λ e. f.fails (sym (ap (passes p) (own k less)) ∙ e ∙ file-claims k (omega arith));
      })
  found-file (no k) (inr f) =
      inr
      (record {
        last = f.last;
        count = file-count file n;
        all = λ i l. ap (passes p) (own i l) ∙ f.all i l ∙ sym (file-claims i (omega arith));
        fails = λ e x. f.fails (sym (file-claims n (omega arith)) ∙ e) x;
      })
