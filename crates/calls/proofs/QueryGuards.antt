-- The checks of each of a verifier's calls are the rows of the table: over any verifier that stands for a state.
use mathlib.Core.Path.{◌≡◌, refl, ap, ap₂, ◌∙◌}
use mathlib.Core.Bool.{Bool, true, false, cond, not, ◌&&◌}
use mathlib.Core.List.{List}
use mathlib.Core.Option.{Option, none, some}
use Prim.Native.Nat.{ℕ, ◌+◌, ◌*◌, ◌≤◌}
use native.Mathlib.Omega.{arith}
use lib.Dec.{eqb, leb, ltb}
use lib.IntN.{ℤ}
use lib.ListN.{length}
use borrow.Author.Tests.{eqb-true, le-leb}
use Rattle.refusal.specs.Limit.{max_weight}
use Rattle.refusal.specs.Outcome.{Outcome, answered, require, require_at}
use Rattle.field.specs.Integer.{image}
use Rattle.field.specs.Total.{in_limits}
use Rattle.wire.specs.Header.{marked, version_of}
use Rattle.wire.specs.declared.proof.Head.{Head}
use Rattle.wire.specs.Proof.{proof_rounds, proof_total, proof_number, all_below, read_proof, read_proof_of, proof_size}
use Rattle.vector.specs.Slice.{is_nonzero, all_reduced}
use Rattle.verifier.specs.declared.Verifier.{Verifier}
use Rattle.verifier.specs.WellFormed.{well_formed}
use Rattle.verifier.specs.Sums.{takes}
use Rattle.verifier.specs.Claims.{message_of3, closes, hears, finds}
use Rattle.verifier.specs.Openings.{opening_finds}
use Rattle.verifier.specs.Batch.{batch_finds}
use Rattle.verifier.specs.Calls.{pass_open, with_parts, give, close, close_claim, all_reduced3, message, verdict, has_rounds, check_opening, check_batch}
use Rattle.verifier.specs.ProofFile.{Judgement, judges, read_total, proof}
use Rattle.verifier.proofs.Invariant.{formed_says}
use Rattle.item.specs.declared.Start.{Start}
use Rattle.item.specs.declared.Given.{Given}
use Rattle.item.specs.declared.Given.TheVariants.{Reading, Numbers}
use Rattle.item.specs.Mark.{reading_fits}
use Rattle.item.specs.Item.{contributes, parts_of}
use Rattle.calls.specs.declared.query.Query.TheVariants as query
use Rattle.calls.specs.QueryStep.{Shown}
use Rattle.calls.specs.QueryState.{VerifierState, close_rows, is_wanted, has_all, file_rows, verifier_table}
use Rattle.calls.specs.Table.{Refusal, decided, row, row_at, given_rows}
use Rattle.calls.proofs.Guards.{same_row, like_row}
use Rattle.calls.proofs.QueryStands.{Stands, message-turn, verdict-turn}

-- a check beside its row, where what follows may use that the check passed
row-if : {A : Type 0} (b : Bool) (k : ℕ) (rest : Outcome A) (t : Option Refusal) (o : Outcome A) → (b ≡ true → rest ≡ decided t o)
    → require b k rest ≡ decided (row b k t) o
row-if true k rest t o e = e refl
row-if false k rest t o e = refl

-- the file, for the verifier's own n
module _ (p n : ℕ) (few : n ≤ 15) (file : List ℕ) where
  abbrev head : ℕ → Head
  head r = record { rounds = r; total = proof_total file }

  -- 4, 7 and 11 for a file of r rounds
  abbrev rest : ℕ → Outcome Head
  rest r =
      require (eqb (length file) (proof_size r)) 4
      (require (in_limits p (proof_total file)) 7 (require (all_below p (proof_number file) (3 * r + 2)) 11 (answered (head r))))

  pub read_rows_lem : read_proof_of p n file ≡ decided (file_rows p n file) (answered (head n))
  unfolding read_proof_of read_proof
  read_rows_lem =
      row-if (marked 80 10 file) 1 _ _ _
      (λ m.
      row-if (eqb (version_of file) 1) 2 _ _ _
      (λ v.
      row-if (eqb (proof_rounds file) n) 3 _ _ _
      (λ own.
      let e = eqb-true (proof_rounds file) n own in
      ap (λ b. require b 1 (require (eqb (version_of file) 1) 2 (require (leb (proof_rounds file) 15) 3 (rest (proof_rounds file))))) m
      ∙ ap (λ b. require b 2 (require (leb (proof_rounds file) 15) 3 (rest (proof_rounds file)))) v
      ∙ ap (λ b. require b 3 (rest (proof_rounds file))) (le-leb (proof_rounds file) 15 (omega arith))
      ∙ ap rest e
      ∙ same_row (eqb (length file) (proof_size n)) 4 _ _ _
      (same_row (in_limits p (proof_total file)) 7 _ _ _ (same_row (all_below p (proof_number file) (3 * n + 2)) 11 _ none _ refl)))))

with_total_lem : (t : Option Refusal) (h : Head) (rest : ℤ → Judgement) → read_total (decided t (answered h)) rest ≡ decided t (answered (rest h.total))
with_total_lem none h rest = refl
with_total_lem (some (k, none)) h rest = refl
with_total_lem (some (k, some i)) h rest = refl

three-and : (x y z : Bool) → cond x (cond y z false) false ≡ (x && (y && z))
three-and false y z = refl
three-and true false z = refl
three-and true true z = refl

module _ (p : ℕ) (a : VerifierState) (v : Verifier) (s : Stands p a v) where
  formed_and : (x y : Bool) → x ≡ y → cond (well_formed v) x false ≡ y
  formed_and x y e = ap (λ b. cond b x false) s.carries.formed ∙ e

  -- a record that a call returned passes the test for one
  formed_row : {A : Type 0} (rest o : Outcome A) → rest ≡ o → require (well_formed v) 10 rest ≡ o
  formed_row rest o e = ap (λ b. require b 10 rest) s.carries.formed ∙ e

  pub open_test : pass_open v ≡ not a.closed
  unfolding pass_open
  open_test = formed_and _ _ (ap not s.closed)

  whole-test : eqb v.taken v.start.items ≡ has_all a
  whole-test = rw (s.carries.taken, s.carries.start)

  turn : {A : Type 0} (kind same : Bool) (rest : Outcome A) (t : Option Refusal) (o : Outcome A) → kind ≡ same
      → rest ≡ decided t o → require (pass_open v) 10 (require (eqb v.taken v.start.items) 8 (require kind 10 rest)) ≡ decided (close_rows a same t) o
  turn kind same rest t o k r =
      like_row _ _ 10 _ _ _ open_test (like_row _ _ 8 _ _ _ whole-test (like_row kind same 10 rest t o k r))

  wanted_test : ltb v.taken v.start.items ≡ is_wanted a
  wanted_test = rw (s.carries.taken, s.carries.start)

  plain-test : v.start.plain ≡ a.start.plain
  plain-test = ap (λ s. s.plain) s.carries.start

  twisted-test : not v.start.plain ≡ not a.start.plain
  twisted-test = ap not plain-test

  rows : (b : Start) (i : ℕ) (x : Given) → with_parts (parts_of p b i x) (takes p v) ≡ decided (given_rows p b i x none) (answered (takes p v (contributes p b x)))
  unfolding parts_of
  rows b i (Reading z w) = by b.plain (leb w max_weight) (reading_fits b.version z)
    where
      by : (plain fits ranged : Bool)
          → with_parts (require plain 10 (require_at fits 5 i (require_at ranged 18 i (answered (contributes p b (Reading z w)))))) (takes p v)
          ≡ decided (row plain 10 (row_at fits 5 i (row_at ranged 18 i none))) (answered (takes p v (contributes p b (Reading z w))))
      by false fits ranged = refl
      by true false ranged = refl
      by true true false = refl
      by true true true = refl
  rows b i (Numbers x y) = by (not b.plain) (ltb x p && ltb y p)
    where
      by : (twisted fine : Bool)
          → with_parts (require twisted 10 (require fine 16 (answered (contributes p b (Numbers x y))))) (takes p v)
          ≡ decided (row twisted 10 (row fine 16 none)) (answered (takes p v (contributes p b (Numbers x y))))
      by false fine = refl
      by true false = refl
      by true true = refl

  own-rows : (x : Given)
      → with_parts (parts_of p v.start v.taken x) (takes p v)
      ≡ decided (given_rows p a.start (length a.items) x none) (answered (takes p v (contributes p v.start x)))
  own-rows x =
      rows v.start v.taken x
      ∙ ap₂ (λ b i. decided (given_rows p b i x none) (answered (takes p v (contributes p v.start x)))) s.carries.start s.carries.taken

  pub item-decided : (x : Given) (l : Shown) → give p v x ≡ decided (verifier_table p a (query.Give x) l) (answered (takes p v (contributes p v.start x)))
  unfolding give verifier_table
  item-decided x l = like_row _ _ 10 _ _ _ open_test (like_row _ _ 8 _ _ _ wanted_test (own-rows x))

  pub close-decided : (t : ℤ) (l : Shown) → close p v t ≡ decided (verifier_table p a (query.Close t) l) (answered (closes v (image p t)))
  unfolding close verifier_table
  close-decided t l = turn _ _ _ _ _ plain-test (same_row (in_limits p t) 7 _ none _ refl)

  pub close-claim-decided : (c : ℕ) (l : Shown) → close_claim p v c ≡ decided (verifier_table p a (query.CloseClaim c) l) (answered (closes v c))
  unfolding close_claim verifier_table
  close-claim-decided c l = turn _ _ _ _ _ twisted-test (same_row (ltb c p) 11 _ none _ refl)

  pub message-decided : (even cross odd : ℕ) (l : Shown)
      → message p v even cross odd ≡ decided (verifier_table p a (query.Message even cross odd) l) (answered (hears p v (message_of3 even cross odd)))
  unfolding message all_reduced3 verifier_table
  message-decided even cross odd l =
      formed_row _ _
      (like_row _ _ 12 _ _ _ (message-turn p a v s)
      (like_row _ _ 11 _ none _ (three-and (ltb even p) (ltb cross p) (ltb odd p)) refl))

  pub verdict-decided : (l : Shown) → verdict p v ≡ decided (verifier_table p a query.Verdict l) (answered (finds p v))
  unfolding verdict verifier_table
  verdict-decided l = formed_row _ _ (like_row _ _ 12 _ none _ (verdict-turn p a v s) refl)

  file-rows : (file : List ℕ)
      → read_total (read_proof_of p v.start.rounds file) (λ total. judges p v total file)
      ≡ decided (file_rows p a.start.rounds file) (answered (judges p v (proof_total file) file))
  file-rows file =
      let few = (formed_says v s.carries.formed).few in
      ap (λ o. read_total o (λ total. judges p v total file)) (read_rows_lem p v.start.rounds few file)
      ∙ with_total_lem (file_rows p v.start.rounds file) (record { rounds = v.start.rounds; total = proof_total file }) (λ total. judges p v total file)
      ∙ ap (λ n. decided (file_rows p n file) (answered (judges p v (proof_total file) file))) (ap (λ s. s.rounds) s.carries.start)

  pub proof-decided : (l : Shown) → proof p v l.file ≡ decided (verifier_table p a query.Proof l) (answered (judges p v (proof_total l.file) l.file))
  unfolding proof verifier_table
  proof-decided l = turn _ _ _ _ _ plain-test (file-rows l.file)

  rounds-test : has_rounds v ≡ ltb 0 a.start.rounds
  unfolding has_rounds
  rounds-test = formed_and _ _ (ap (ltb 0) (ap (λ s. s.rounds) s.carries.start))

  pub opening-decided : (b : ℕ) (l : Shown)
      → check_opening p v b l.values ≡ decided (verifier_table p a (query.CheckOpening b) l) (answered (opening_finds p v b l.values))
  unfolding check_opening verifier_table
  opening-decided b l =
      like_row _ _ 10 _ _ _ rounds-test
      (same_row (is_nonzero p b) 6 _ _ _
      (like_row _ _ 6 _ _ _ (ap (λ n. eqb (length l.values) (6 * n)) (ap (λ s. s.rounds) s.carries.start))
      (same_row (all_reduced p (length l.values) l.values) 11 _ none _ refl)))

  pub batch-decided : (m z b : ℕ) (l : Shown)
      → check_batch p v m z b l.values l.logs ≡ decided (verifier_table p a (query.CheckBatch m z b) l) (answered (batch_finds p v z b l.values l.logs))
  unfolding check_batch verifier_table
  batch-decided m z b l =
      same_row (leb 1 m && leb m 8) 17 _ _ _
      (like_row _ _ 10 _ _ _ rounds-test
      (same_row (is_nonzero p z) 6 _ _ _
      (same_row (is_nonzero p b) 6 _ _ _
      (like_row _ _ 6 _ _ _ (ap (λ n. eqb (length l.values) (3 * n) && eqb (length l.logs) m) (ap (λ s. s.rounds) s.carries.start))
      (same_row (all_reduced p (length l.values) l.values) 11 _ _ _
      (same_row (all_reduced p (length l.logs) l.logs) 11 _ none _ refl))))))
