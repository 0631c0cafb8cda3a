-- A fresh verifier is well formed, and every call hands back a well-formed one for a well-formed one (with a proof file: ProofFiles).
use mathlib.Core.Path.{◌≡◌, refl, sym, ◌∙◌}
use mathlib.Core.Bool.{Bool, true, false, cond, not}
use mathlib.Core.List.{List}
use Prim.Native.Nat.{ℕ, ◌+◌}
use native.Mathlib.Omega.{arith}
use lib.Dec.{eqb, ltb}
use lib.IntN.{ℤ}
use borrow.Author.Tests.{eq-eqb, le-leb, ltb-true}
use Rattle.refusal.specs.Outcome.{Outcome, answered, refused, refused_at, require}
use Rattle.refusal.specs.Number as number
use Rattle.refusal.proofs.Outcome.{require-says}
use Rattle.field.specs.Integer.{image}
use Rattle.field.specs.Number.{is_reduced}
use Rattle.field.specs.Total.{in_limits}
use Rattle.vector.specs.Rounds.{rounds_of}
use Rattle.vector.specs.Message.{Message, passes}
use Rattle.item.specs.declared.Given.{Given}
use Rattle.item.specs.declared.Item.{Item}
use Rattle.item.specs.declared.Start.{Start}
use Rattle.item.specs.Item.{parts_of}
use Rattle.item.specs.Start.{count_fits, version_kept}
use Rattle.verifier.specs.declared.Verifier.{Verifier}
use Rattle.verifier.specs.Reply as reply
use Rattle.verifier.specs.Records.{Replied, leaves, blank}
use Rattle.verifier.specs.WellFormed.{well_formed}
use Rattle.verifier.specs.Starts.{fresh_verifier}
use Rattle.verifier.specs.Sums.{one_more, takes}
use Rattle.verifier.specs.Claims.{message_of3, closed_with, closes, passed_with, failed_now, hears}
use Rattle.verifier.specs.Calls.{pass_open, with_parts, give, close, close_claim, message_turn, all_reduced3, message}
use Rattle.verifier.proofs.Invariant.{both, unless, not_true, turn-open, parts_of_lem, formed_of, open_turn, closed-taken, closed-turn}

pub fresh-formed : (start : Start) (challenges : List ℕ) → version_kept start.plain start.version ≡ true → count_fits start.items ≡ true
    → start.rounds ≡ rounds_of start.items → well_formed (fresh_verifier start challenges) ≡ true
unfolding fresh_verifier
fresh-formed start challenges known h own =
    formed_of (fresh_verifier start challenges)
    (record {
      version = known;
      count = h;
      rounds = eq-eqb start.rounds (rounds_of start.items) own;
      turn = sym (turn-open (fresh_verifier start challenges) refl refl refl) ∙ le-leb 0 start.items (omega arith);
    })

-- beside a refused start
pub blank-not_formed : well_formed blank ≡ false
unfolding well_formed
blank-not_formed = refl

-- what a call hands back is well formed
record Kept (v : Verifier) (o : Outcome Replied) : Type 0 where
  kept : well_formed (leaves v o).verifier ≡ true

module _ (p : ℕ) (v : Verifier) (formed : well_formed v ≡ true) where
  row : (ok : Bool) (k : ℕ) (rest : Outcome Replied) → (ok ≡ true → Kept v rest) → Kept v (require ok k rest)
  row ok k rest pass = require-says (Kept v) ok k rest (λ e. record { kept = formed }) pass

  parts_row : (o : Outcome Item) → ((x : Item) → Kept v (answered (takes p v x))) → Kept v (with_parts o (takes p v))
  parts_row (answered x) h = h x
  parts_row (refused k) h = record { kept = formed }
  parts_row (refused_at k i) h = record { kept = formed }

  was_open : pass_open v ≡ true → v.closed ≡ false
  unfolding pass_open
  was_open h = not_true v.closed (both (well_formed v) (not v.closed) h).1

  taken-kept : pass_open v ≡ true → ltb v.taken v.start.items ≡ true → (x : Item) → Kept v (answered (takes p v x))
  unfolding one_more
  taken-kept o l x =
      let a = parts_of_lem v formed in
      let e = open_turn v a.turn (was_open o) in
      let less = ltb-true v.taken v.start.items l in
      let w = one_more p v x.f x.g in
      record {
        kept =
            formed_of w
            (record {
              version = a.version;
              count = a.count;
              rounds = a.rounds;
              turn = sym (turn-open w (was_open o) e.going e.first) ∙ le-leb (v.taken + 1) v.start.items (omega arith);
            });
      }

  closes_kept : pass_open v ≡ true → eqb v.taken v.start.items ≡ true → (claim : ℕ) → Kept v (answered (closes v claim))
  unfolding closed_with
  closes_kept o t claim =
      let a = parts_of_lem v formed in
      let e = open_turn v a.turn (was_open o) in
      let z = e.first in
      let w = closed_with v claim in
      record { kept = formed_of w (record { version = a.version; count = a.count; rounds = a.rounds; turn = closed-turn w refl t (omega arith) }) }

  pub give_kept : (given : Given) → well_formed (leaves v (give p v given)).verifier ≡ true
  unfolding give
  give_kept given =
      (row (pass_open v) number.order _
      (λ o.
      row (ltb v.taken v.start.items) number.items _
      (λ l. parts_row (parts_of p v.start v.taken given) (taken-kept o l)))
      ).kept

  pub close-kept : (total : ℤ) → well_formed (leaves v (close p v total)).verifier ≡ true
  unfolding close
  close-kept total =
      (row (pass_open v) number.order _
      (λ o.
      row (eqb v.taken v.start.items) number.items _
      (λ t. row v.start.plain number.order _ (λ k. row (in_limits p total) number.total _ (λ l. closes_kept o t (image p total)))))
      ).kept

  pub close-claim-kept : (claim : ℕ) → well_formed (leaves v (close_claim p v claim)).verifier ≡ true
  unfolding close_claim
  close-claim-kept claim =
      (row (pass_open v) number.order _
      (λ o.
      row (eqb v.taken v.start.items) number.items _
      (λ t. row (not v.start.plain) number.order _ (λ k. row (is_reduced p claim) number.number _ (λ l. closes_kept o t claim))))
      ).kept

  heard_kept : message_turn v ≡ true → (m : Message) → Kept v (answered (hears p v m))
  unfolding message_turn hears passed_with failed_now
  heard_kept t m =
      let a = parts_of_lem v formed in
      let c = both v.closed (cond v.failed false (ltb v.round v.start.rounds)) t in
      let less = ltb-true v.round v.start.rounds (unless v.failed (ltb v.round v.start.rounds) c.1).1 in
      let all = closed-taken v a.turn c.0 in
      record {
        kept =
            by (eqb (passes p m) v.claim) (record { verifier = passed_with p v m; reply = reply.passed })
            (record { verifier = failed_now v; reply = reply.no v.round })
            (formed_of (passed_with p v m)
            (record { version = a.version; count = a.count; rounds = a.rounds; turn = closed-turn (passed_with p v m) c.0 all (omega arith) }))
            (formed_of (failed_now v) (record { version = a.version; count = a.count; rounds = a.rounds; turn = closed-turn (failed_now v) c.0 all (omega arith) }));
      }
    where
      by : (b : Bool) (s t : Replied) → well_formed s.verifier ≡ true → well_formed t.verifier ≡ true → well_formed (cond b s t).verifier ≡ true
      by true s t x y = x
      by false s t x y = y

  pub message-kept : (even cross odd : ℕ) → well_formed (leaves v (message p v even cross odd)).verifier ≡ true
  unfolding message
  message-kept even cross odd =
      (row (well_formed v) number.order _
      (λ w.
      row (message_turn v) number.turn _
      (λ t. row (all_reduced3 p even cross odd) number.number _ (λ r. heard_kept t (message_of3 even cross odd))))
      ).kept
