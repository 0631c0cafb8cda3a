-- The verifier while its answered calls bring the trip's: its sums are those of the items so far, and its claim is the scalar product of
-- the current folds.
use mathlib.Core.Path.{◌≡◌, refl, sym, ap, ap₂, subst, ◌∙◌}
use mathlib.Core.Bool.{true, false, cond, true≢false}
use mathlib.Core.List.{List}
use Prim.Native.Nat.{ℕ, suc, ◌^◌, ◌≤◌, ◌<◌}
use native.Mathlib.Omega.{arith}
use lib.Dec.{eqb}
use lib.ListN.{length}
use borrow.Author.Tests.{eq-eqb, eqb-true}
use Rattle.algebra.specs.Mod.{add_mod, mul_mod}
use Rattle.refusal.specs.Limit.{max_weight}
use Rattle.vector.specs.Vector.{at, dot, weight}
use Rattle.vector.specs.Fold.{end_value}
use Rattle.vector.specs.Message.{Message, passes, next_claim}
use Rattle.vector.specs.Slice.{fifteen}
use Rattle.vector.proofs.Overwrite.{fifteen-at}
use Rattle.vector.proofs.EndValues.{weighted, weighted-step}
use Rattle.vector.proofs.Messages.{message-passes, message-next, first-claim, last-claim}
use Rattle.verifier.specs.declared.Verifier.{Verifier}
use Rattle.verifier.specs.Records.{Replied, yes, no}
use Rattle.verifier.specs.WellFormed.{well_formed}
use Rattle.verifier.specs.Sums.{entering, one_more}
use Rattle.verifier.specs.Claims.{closed_with, passed_with, hears, finds}
use Rattle.verifier.specs.Calls.{verdict_turn}
use Rattle.verifier.proofs.Invariant.{parts_of_lem, formed_of, open_turn, closed-taken, closed-turn}
use Rattle.item.specs.declared.Start.{Start}
use Rattle.item.specs.declared.Given.{Given}
use Rattle.item.specs.Item.{contributes}
use Rattle.runs.specs.Trip.{Trip, trip_item, enters_as, vector_f, vector_g}
use Rattle.calls.specs.Meaning.{message_at}
use Rattle.calls.specs.QueryStep.{replies}
use Rattle.calls.specs.QueryStep as said
use Rattle.calls.specs.QueryState.{VerifierState, takes_item, at_round, hearing, has_all}
use Rattle.calls.proofs.QueryStands.{Carries, Stands}
use Rattle.calls.proofs.QuerySteps.{heard_as}
use Rattle.calls.proofs.QueryKeeps.{close-stands, message-stands, verdict-stands}
use Rattle.calls.proofs.HeardTrip.{claim_of, Fine, enters_f, enters_g, below_suc, end_f_lem, end_g_lem}

-- the challenges as the verifier keeps them
abbrev kept : Trip → List ℕ → ℕ → ℕ
kept T cs = at (fifteen T.start.rounds cs)

pub record Follows (p : ℕ) (T : Trip) (cs : List ℕ) (a : VerifierState) (v : Verifier) : Type 0 where
  pub stands : Stands p a v
  pub start : a.start ≡ T.start
  pub challenges : a.challenges ≡ cs
  pub fine : (i : ℕ) → i < length a.items → Fine p T.start.plain (trip_item T i)
  pub fsum : v.fsum ≡ weighted p (kept T cs) T.start.rounds (enters_f p T) (length a.items)
  pub gsum : v.gsum ≡ weighted p (kept T cs) T.start.rounds (enters_g p T) (length a.items)
  pub going : a.refuted ≡ false
  pub claim : a.closed ≡ true → v.claim ≡ claim_of p T cs a.round

-- the sums with one item more, field by field
pub more_f : (p : ℕ) (s : Start) (cs : List ℕ) (k x sum now : ℕ) (start : Start) (challenges : List ℕ) (taken : ℕ)
    → sum ≡ now → start ≡ s → challenges ≡ fifteen s.rounds cs → taken ≡ k
    → add_mod p sum (mul_mod p (enters_as p start taken x) (weight p (at challenges) start.rounds taken))
    ≡ add_mod p now (mul_mod p (enters_as p s k x) (weight p (at (fifteen s.rounds cs)) s.rounds k))
more_f p s cs k x sum now start challenges taken a b c d = rw (a, b, c, d)

pub more_g : (p : ℕ) (s : Start) (cs : List ℕ) (k x sum now : ℕ) (start : Start) (challenges : List ℕ) (taken : ℕ)
    → sum ≡ now → start ≡ s → challenges ≡ fifteen s.rounds cs → taken ≡ k
    → add_mod p sum (mul_mod p x (weight p (at challenges) start.rounds taken))
    ≡ add_mod p now (mul_mod p x (weight p (at (fifteen s.rounds cs)) s.rounds k))
more_g p s cs k x sum now start challenges taken a b c d = rw (a, b, c, d)

closed-formed : (v : Verifier) (claim : ℕ) → well_formed v ≡ true → v.closed ≡ false → eqb v.taken v.start.items ≡ true
    → well_formed (closed_with v claim) ≡ true
unfolding closed_with
closed-formed v claim formed unclosed whole =
    let parts = parts_of_lem v formed in
    let first = (open_turn v parts.turn unclosed).first in
    formed_of (closed_with v claim)
    (record { version = parts.version; count = parts.count; rounds = parts.rounds; turn = closed-turn (closed_with v claim) refl whole (omega arith) })

passed-formed : (p : ℕ) (v : Verifier) (m : Message) → well_formed v ≡ true → v.closed ≡ true → v.round < v.start.rounds
    → well_formed (passed_with p v m) ≡ true
unfolding passed_with
passed-formed p v m formed closed less =
    let parts = parts_of_lem v formed in
    formed_of (passed_with p v m)
    (record {
      version = parts.version;
      count = parts.count;
      rounds = parts.rounds;
      turn = closed-turn (passed_with p v m) closed (closed-taken v parts.turn closed) (omega arith);
    })

passes-heard : (p : ℕ) (v : Verifier) (m : Message) → passes p m ≡ v.claim → hears p v m ≡ heard_as p v m true
unfolding hears
passes-heard p v m e = ap (heard_as p v m) (eq-eqb (passes p m) v.claim e)

finds-yes : (p : ℕ) (v : Verifier) → v.failed ≡ false → v.claim ≡ mul_mod p v.fsum v.gsum → finds p v ≡ yes
unfolding finds
finds-yes p v going e =
    ap (λ b. cond b (no v.round) (cond (eqb v.claim (mul_mod p v.fsum v.gsum)) yes (no v.start.rounds))) going
    ∙ ap (λ b. cond b yes (no v.start.rounds)) (eq-eqb v.claim (mul_mod p v.fsum v.gsum) e)

module _ (p : ℕ) (T : Trip) (cs : List ℕ) where
  abbrev n : ℕ
  n = T.start.rounds

  module _ (a : VerifierState) (v : Verifier) (f : Follows p T cs a v) where
    pub carries : Carries T.start cs (length a.items) v
    carries = rw (f.start, f.challenges) at f.stands.carries

    -- AN ITEM
    pub item-follows : (x : Given) → x ≡ trip_item T (length a.items) → Fine p T.start.plain x → a.closed ≡ false
        → Stands p (takes_item a x) (one_more p v (contributes p v.start x).f (contributes p v.start x).g)
        → Follows p T cs (takes_item a x) (one_more p v (contributes p v.start x).f (contributes p v.start x).g)
    unfolding one_more entering
    item-follows x e fits unclosed stands =
        let c = carries in
        let k = length a.items in
        record {
          stands = stands;
          start = f.start;
          challenges = f.challenges;
          fine = below_suc (λ i. Fine p T.start.plain (trip_item T i)) k f.fine (subst (Fine p T.start.plain) e fits);
          fsum =
              more_f p T.start cs k (contributes p v.start x).f v.fsum _ v.start v.challenges v.taken f.fsum c.start c.challenges c.taken
              ∙ ap₂ (λ st y. add_mod p (weighted p (kept T cs) n (enters_f p T) k) (mul_mod p (enters_as p T.start k (contributes p st y).f) (weight p (kept T cs) n k))) c.start e
              ∙ weighted-step p (kept T cs) n (enters_f p T) k;
          gsum =
              more_g p T.start cs k (contributes p v.start x).g v.gsum _ v.start v.challenges v.taken f.gsum c.start c.challenges c.taken
              ∙ ap₂ (λ st y. add_mod p (weighted p (kept T cs) n (enters_g p T) k) (mul_mod p (contributes p st y).g (weight p (kept T cs) n k))) c.start e
              ∙ weighted-step p (kept T cs) n (enters_g p T) k;
          going = f.going;
          claim = λ closed. absurd (true≢false (sym closed ∙ unclosed));
        }

    -- after a close, a message or a verdict
    follows_at : (w : Verifier) (i : ℕ) → Stands p (at_round a i false) w → w.fsum ≡ v.fsum → w.gsum ≡ v.gsum → w.claim ≡ claim_of p T cs i
        → Follows p T cs (at_round a i false) w
    follows_at w i stands sf sg claim =
        record {
          stands = stands;
          start = f.start;
          challenges = f.challenges;
          fine = f.fine;
          fsum = sf ∙ f.fsum;
          gsum = sg ∙ f.gsum;
          going = refl;
          claim = λ closed. claim;
        }

    -- before the close no message was heard
    pub no-message : a.closed ≡ false → a.round ≡ 0
    no-message unclosed =
        let s = f.stands in
        sym (s.going f.going).1 ∙ (open_turn v (parts_of_lem v s.carries.formed).turn (s.closed ∙ unclosed)).first

    -- A CLOSE with the run's total
    pub close_follows : (claim : ℕ) → claim ≡ dot p (2 ^ n) (vector_f p T) (vector_g p T) → a.closed ≡ false → has_all a ≡ true
        → Follows p T cs (at_round a 0 false) (closed_with v claim)
    unfolding closed_with
    close_follows claim e unclosed whole =
        let s = f.stands in
        let c = s.carries in
        let formed = closed-formed v claim c.formed (s.closed ∙ unclosed) (ap₂ eqb c.taken (ap (λ s. s.items) c.start) ∙ whole) in
        follows_at (closed_with v claim) 0
        (subst (λ b. Stands p (at_round a 0 b) (closed_with v claim)) f.going
        (subst (λ i. Stands p (at_round a i a.refuted) (closed_with v claim)) (no-message unclosed)
        (close-stands p a v f.stands claim unclosed formed)))
        refl refl (e ∙ sym (first-claim p n (at cs) (vector_f p T) (vector_g p T)))

    module _ (few : n ≤ 15) (listed : length cs ≡ n) where
      -- A MESSAGE of the run passes
      message-passed : (m : Message) → m ≡ message_at p T cs a.round → a.closed ≡ true → a.round < n → hears p v m ≡ heard_as p v m true
      message-passed m e closed less =
          passes-heard p v m
          (ap (passes p) e ∙ message-passes p n (at cs) (vector_f p T) (vector_g p T) a.round less ∙ sym (f.claim closed))

      pub message-follows : (m : Message) → m ≡ message_at p T cs a.round → a.closed ≡ true → a.round < n
          → (hears p v m ≡ heard_as p v m true) × Follows p T cs (at_round a (suc a.round) false) (passed_with p v m)
      unfolding passed_with
      message-follows m e closed less =
          let s = f.stands in
          let c = carries in
          let same = (s.going f.going).1 in
          let heard = message-passed m e closed less in
          let formed : well_formed (passed_with p v m) ≡ true = passed-formed p v m c.formed (s.closed ∙ closed) (omega (arith, same, ap (λ s. s.rounds) c.start)) in
          let stands : Stands p (hearing a (replies (hears p v m).reply)) (hears p v m).verifier =
          message-stands p a v s m closed f.going (subst (λ (x : Replied). well_formed x.verifier ≡ true) (sym heard) formed) in (
            heard,
            follows_at (passed_with p v m) (suc a.round)
                (subst (λ (x : Replied). Stands p (hearing a (replies x.reply)) x.verifier) heard stands) refl refl
                (ap₂ (next_claim p) e (ap₂ at c.challenges same ∙ fifteen-at n cs few (omega arith) a.round less)
                ∙ message-next p n (at cs) (vector_f p T) (vector_g p T) a.round),
          )

      -- A VERDICT after the last is yes
      module _ (large : max_weight < p) (enough : T.start.items ≤ 2 ^ n) where
        pub all_taken_lem : a.closed ≡ true → length a.items ≡ T.start.items
        all_taken_lem closed =
            let c = carries in
            sym c.taken ∙ eqb-true v.taken v.start.items (closed-taken v (parts_of_lem v c.formed).turn (f.stands.closed ∙ closed)) ∙ ap (λ s. s.items) c.start

        pub ends-own : length a.items ≡ T.start.items
            → (v.fsum ≡ end_value p (at cs) n (vector_f p T)) × (v.gsum ≡ end_value p (at cs) n (vector_g p T))
        ends-own all =
            let fine : (i : ℕ) → i < T.start.items → Fine p T.start.plain (trip_item T i) = λ i l. f.fine i (omega arith) in (
              f.fsum ∙ ap (weighted p (kept T cs) n (enters_f p T)) all ∙ end_f_lem p large T enough fine few cs listed,
              f.gsum ∙ ap (weighted p (kept T cs) n (enters_g p T)) all ∙ end_g_lem p large T enough fine few cs listed,
            )

        pub verdict-yes : a.closed ≡ true → a.round ≡ n → finds p v ≡ yes
        verdict-yes closed last =
            let ends = ends-own (all_taken_lem closed) in
            finds-yes p v (f.stands.going f.going).0
            (f.claim closed ∙ ap (claim_of p T cs) last ∙ last-claim p n (at cs) (vector_f p T) (vector_g p T)
            ∙ sym (ap₂ (mul_mod p) ends.0 ends.1))

        pub verdict-follows : a.closed ≡ true → a.round ≡ n → verdict_turn v ≡ true
            → Follows p T cs (hearing a (said.finds (finds p v))) v
        verdict-follows closed last turn =
            let yes-said = verdict-yes closed last in
            let stands = verdict-stands p a v f.stands.carries turn in
            subst (λ d. Follows p T cs (hearing a (said.finds d)) v) (sym yes-said)
            (follows_at v a.start.rounds (subst (λ d. Stands p (hearing a (said.finds d)) v) yes-said stands) refl refl
            (f.claim closed ∙ ap (claim_of p T cs) (last ∙ ap (λ s. s.rounds) (sym f.start))))
