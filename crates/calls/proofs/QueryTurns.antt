-- What the rows that an answered call passed say.
use mathlib.Core.Path.{◌≡◌, sym, subst}
use mathlib.Core.Bool.{Bool, true, false, not, ◌&&◌, ◌||◌}
use mathlib.Core.Option.{Option, none}
use Prim.Native.Nat.{ℕ}
use lib.Dec.{eqb, leb, ltb}
use lib.IntN.{ℤ}
use lib.ListN.{length}
use borrow.Author.Tests.{leb-true, ltb-true}
use Rattle.refusal.specs.Limit.{max_weight}
use Rattle.refusal.proofs.Outcome.{both}
use Rattle.field.specs.Total.{in_limits}
use Rattle.vector.specs.Slice.{is_nonzero}
use Rattle.verifier.proofs.Invariant.{not_true}
use Rattle.item.specs.declared.Given.{Given}
use Rattle.item.specs.declared.Given.TheVariants.{Reading, Numbers}
use Rattle.calls.specs.declared.query.Query.TheVariants as query
use Rattle.calls.specs.QueryStep.{Shown}
use Rattle.calls.specs.QueryState.{VerifierState, close_rows, is_wanted, has_all, file_rows, verifier_table}
use Rattle.calls.specs.Table.{Refusal, row, given_rows}
use Rattle.calls.proofs.Steps.{row-passed}
use Rattle.calls.proofs.Turns.{row-at-passed}
use Rattle.calls.proofs.HeardTrip.{Fine}

-- a close while the pass is open, of all items and of the run's kind
pub record InPass (a : VerifierState) (kind : Bool) (rows : Option Refusal) : Type 0 where
  pub unclosed : a.closed ≡ false
  pub counted : has_all a ≡ true
  pub same : kind ≡ true
  pub rest : rows ≡ none

in_pass_lem : (a : VerifierState) (kind : Bool) (rest : Option Refusal) → close_rows a kind rest ≡ none → InPass a kind rest
in_pass_lem a kind rest e =
    let x = row-passed (not a.closed) 10 (row (has_all a) 8 (row kind 10 rest)) e in
    let y = row-passed (has_all a) 8 (row kind 10 rest) x.1 in
    let z = row-passed kind 10 rest y.1 in
    record { unclosed = not_true a.closed x.0; counted = y.0; same = z.0; rest = z.1 }

-- an item that the verifier takes
pub record Taken (p : ℕ) (a : VerifierState) (x : Given) : Type 0 where
  pub unclosed : a.closed ≡ false
  pub counted : is_wanted a ≡ true
  pub fine : Fine p a.start.plain x

module _ (p : ℕ) (a : VerifierState) (l : Shown) where
  own-rows : (x : Given) → given_rows p a.start (length a.items) x none ≡ none → Fine p a.start.plain x
  own-rows (Reading z w) e =
      let k = row-passed a.start.plain 10 _ e in
      subst (λ b. Fine p b (Reading z w)) (sym k.0) (leb-true w max_weight (row-at-passed (leb w max_weight) 5 (length a.items) _ k.1).0)
  own-rows (Numbers x y) e =
      let k = row-passed (not a.start.plain) 10 _ e in
      let q = both (ltb x p) (ltb y p) (row-passed (ltb x p && ltb y p) 16 none k.1).0 in
      subst (λ b. Fine p b (Numbers x y)) (sym (not_true a.start.plain k.0)) (ltb-true x p q.0, ltb-true y p q.1)

  pub item-rows : (x : Given) → verifier_table p a (query.Give x) l ≡ none → Taken p a x
  unfolding verifier_table
  item-rows x e =
      let y = row-passed (not a.closed) 10 _ e in
      let z = row-passed (is_wanted a) 8 _ y.1 in
      record { unclosed = not_true a.closed y.0; counted = z.0; fine = own-rows x z.1 }

  pub close-rows : (t : ℤ) → verifier_table p a (query.Close t) l ≡ none → InPass a a.start.plain (row (in_limits p t) 7 none)
  unfolding verifier_table
  close-rows t e = in_pass_lem a a.start.plain (row (in_limits p t) 7 none) e

  pub claim-rows : (c : ℕ) → verifier_table p a (query.CloseClaim c) l ≡ none → InPass a (not a.start.plain) (row (ltb c p) 11 none)
  unfolding verifier_table
  claim-rows c e = in_pass_lem a (not a.start.plain) (row (ltb c p) 11 none) e

  pub file-rows : verifier_table p a query.Proof l ≡ none → InPass a a.start.plain (file_rows p a.start.rounds l.file)
  unfolding verifier_table
  file-rows e = in_pass_lem a a.start.plain (file_rows p a.start.rounds l.file) e

  pub message-rows : (even cross odd : ℕ) → verifier_table p a (query.Message even cross odd) l ≡ none
      → (a.closed ≡ true) × (a.refuted ≡ false) × (ltb a.round a.start.rounds ≡ true)
  unfolding verifier_table
  message-rows even cross odd e =
      let t = (row-passed (a.closed && (not a.refuted && ltb a.round a.start.rounds)) 12 _ e).0 in
      let x = both a.closed (not a.refuted && ltb a.round a.start.rounds) t in
      let y = both (not a.refuted) (ltb a.round a.start.rounds) x.1 in
      (x.0, not_true a.refuted y.0, y.1)

  pub verdict-row : verifier_table p a query.Verdict l ≡ none → (a.closed && (a.refuted || eqb a.round a.start.rounds)) ≡ true
  unfolding verifier_table
  verdict-row e = (row-passed (a.closed && (a.refuted || eqb a.round a.start.rounds)) 12 none e).0

  pub opening-point : (b : ℕ) → verifier_table p a (query.CheckOpening b) l ≡ none → is_nonzero p b ≡ true
  unfolding verifier_table
  opening-point b e = (row-passed (is_nonzero p b) 6 _ (row-passed (ltb 0 a.start.rounds) 10 _ e).1).0

  pub batch-rows : (m z b : ℕ) → verifier_table p a (query.CheckBatch m z b) l ≡ none → (ltb 0 a.start.rounds ≡ true) × (is_nonzero p b ≡ true)
  unfolding verifier_table
  batch-rows m z b e =
      let x = row-passed (ltb 0 a.start.rounds) 10 _ (row-passed (leb 1 m && leb m 8) 17 _ e).1 in
      (x.0, (row-passed (is_nonzero p b) 6 _ (row-passed (is_nonzero p z) 6 _ x.1).1).0)
