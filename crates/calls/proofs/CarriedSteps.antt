-- One call of the verifier that brings the trip's, as a run gave it, where it is next: the table has nothing against it, and the verifier
-- agrees.
use mathlib.Core.Path.{◌≡◌, refl, sym, ap, ap₂, subst, ◌∙◌}
use mathlib.Core.Bool.{Bool, true, false, cond, not, ◌&&◌, ◌||◌}
use mathlib.Core.List.{List, [], ◌∷◌, ◌++◌}
use mathlib.Core.Option.{Option, none}
use Prim.Native.Nat.{ℕ, suc, ◌+◌, ◌*◌, ◌%◌, ◌^◌, ◌<◌, ◌≤◌}
use native.Mathlib.Nat.{add-zero, add-suc, suc-add}
use native.Mathlib.Omega.{arith}
use lib.Dec.{ltb}
use lib.IntN.{ℤ}
use lib.ListN.{length, get_or}
use borrow.Author.Tests.{eq-eqb, le-leb, lt-ltb}
use Rattle.algebra.specs.Prime.{Prime}
use Rattle.refusal.specs.Limit.{max_weight}
use Rattle.refusal.specs.Outcome.{answered}
use Rattle.field.specs.Total.{in_limits}
use Rattle.wire.specs.Header.{version_of}
use Rattle.wire.specs.Proof.{proof_rounds, proof_number, proof_size}
use Rattle.wire.proofs.Marks.{mark_back}
use Rattle.wire.proofs.Below.{all_below_lem}
use Rattle.wire.proofs.ProofSays.{GoodProof}
use Rattle.vector.specs.Vector.{at, dot}
use Rattle.vector.specs.Message.{Message}
use Rattle.vector.specs.Opening.{opening}
use Rattle.vector.specs.Slice.{is_nonzero}
use Rattle.vector.proofs.Rounds.{rounds-at-most, rounds-enough}
use Rattle.prover.specs.Reply as reply
use Rattle.verifier.specs.declared.Verifier.{Verifier}
use Rattle.item.specs.declared.Start.{Start}
use Rattle.item.specs.declared.Given.{Given}
use Rattle.item.specs.declared.Given.TheVariants.{Reading, Numbers}
use Rattle.runs.specs.Trip.{Trip, trip_item, vector_f, vector_g, total_of}
use Rattle.runs.proofs.CloseLaws.{residue-below}
use Rattle.calls.specs.declared.query.Query.{Query}
use Rattle.calls.specs.declared.query.Query.TheVariants as query
use Rattle.calls.specs.Table.{Refusal, given_rows}
use Rattle.calls.specs.World.{Made, World}
use Rattle.calls.specs.Meaning.{total, round_message, says, message_at, proof_of_trip}
use Rattle.calls.specs.QueryStep.{Shown, Said, Spoken, ask}
use Rattle.calls.specs.Lists.{along}
use Rattle.calls.specs.QueryState.{VerifierState, goes_on_heard, follow_heard, close_rows, has_all, file_rows, verifier_table, Posed, plainly, Hearing, heard, hears_on}
use Rattle.calls.specs.Given.{Gave, Wrote, BringsRun, agreed}
use Rattle.calls.specs.Proper.{ItemFits, Valid}
use Rattle.calls.specs.Carried.{items_of, claims}
use Rattle.calls.specs.Demand3.{AllBringRun, AllAgreed}
use Rattle.calls.proofs.HeardMeaning.{BringsTrip, SaysTrip}
use Rattle.calls.proofs.QuerySteps.{goes_to, says_so, answers, settled_heard, asks}
use Rattle.calls.proofs.HeardFollows.{Follows, no-message}
use Rattle.calls.proofs.HeardFile.{file-good}
use Rattle.calls.proofs.HeardAnswers.{answers-right}
use Rattle.calls.proofs.OpeningChecks.{opening-free}
use Rattle.calls.proofs.LiveTable.{row-free, row-at-free}

-- the verifier agrees throughout, and every call brings what the run's list from w on gave
module _ (p : ℕ) (T : Trip) (w : World) (ms : List Made) where
  abbrev pub VerifierAgrees : VerifierState → Verifier → List Posed → Type 0
  VerifierAgrees b v =
      along (hears_on p) (λ h q. ((heard p h q).told ≡ answered (agreed q.query)) × BringsRun p T w ms h.state q.query q.shown) (record { state = b; verifier = v })

  pub agrees_along : (h : Hearing) (qs : List Posed) → VerifierAgrees h.state h.verifier qs → AllAgreed p h qs × AllBringRun p T w ms h qs
  unfolding along
  agrees_along h [] a = (tt, tt)
  agrees_along h (q ∷ qs) a = let later = agrees_along (hears_on p h q) qs a.1 in ((a.0.0, later.0), ((λ y. a.0.1), later.1))

-- 0 before the close, then one more than the messages that passed
abbrev pub place : VerifierState → ℕ
place b = cond b.closed (suc b.round) 0

place-open : (c : Bool) (i : ℕ) → cond c (suc i) 0 ≡ 0 → c ≡ false
place-open true i e = absurd (omega arith)
place-open false i e = refl

place-closed : (c : Bool) (i j : ℕ) → cond c (suc i) 0 ≡ suc j → (c ≡ true) × (i ≡ j)
place-closed true i j e = (refl, omega arith)
place-closed false i j e = absurd (omega arith)

below : (p : ℕ) {x y : ℕ} → x ≡ y → y < p → x < p
below p e h = subst (λ z. z < p) (sym e) h

-- THE ROWS
pass_free : (b : VerifierState) (kind : Bool) (rest : Option Refusal) → b.closed ≡ false → has_all b ≡ true → kind ≡ true → rest ≡ none → close_rows b kind rest ≡ none
pass_free b kind rest unclosed c k r = row-free _ 10 _ (ap not unclosed) (row-free _ 8 _ c (row-free kind 10 rest k r))

given_free : (p : ℕ) (s : Start) (i : ℕ) (x : Given) → ItemFits p s x → given_rows p s i x none ≡ none
given_free p s i (Reading r w) fits = row-free _ 10 _ fits.0 (row-at-free _ 5 _ _ (le-leb w max_weight fits.2) (row-at-free _ 18 _ none fits.1 refl))
given_free p s i (Numbers x y) fits =
    row-free _ 10 _ (ap not fits.0) (row-free _ 16 none (ap₂ ◌&&◌ (lt-ltb x p fits.1) (lt-ltb y p fits.2)) refl)

module _ (p : ℕ) (b : VerifierState) (l : Shown) where
  item-free : (x : Given) → b.closed ≡ false → length b.items < b.start.items → ItemFits p b.start x → verifier_table p b (query.Give x) l ≡ none
  unfolding verifier_table
  item-free x unclosed more fits = row-free _ 10 _ (ap not unclosed) (row-free _ 8 _ (lt-ltb _ _ more) (given_free p b.start _ x fits))

  close-free : (t : ℤ) → b.closed ≡ false → has_all b ≡ true → b.start.plain ≡ true → in_limits p t ≡ true → verifier_table p b (query.Close t) l ≡ none
  unfolding verifier_table
  close-free t unclosed whole plain fits = pass_free b _ _ unclosed whole plain (row-free _ 7 none fits refl)

  claim-free : (c : ℕ) → b.closed ≡ false → has_all b ≡ true → b.start.plain ≡ false → c < p → verifier_table p b (query.CloseClaim c) l ≡ none
  unfolding verifier_table
  claim-free c unclosed whole twisted fits = pass_free b _ _ unclosed whole (ap not twisted) (row-free _ 11 none (lt-ltb c p fits) refl)

  message-free : (even cross odd : ℕ) → b.closed ≡ true → b.refuted ≡ false → b.round < b.start.rounds → even < p → cross < p → odd < p
      → verifier_table p b (query.Message even cross odd) l ≡ none
  unfolding verifier_table
  message-free even cross odd closed going more e c o =
      row-free _ 12 _ (ap₂ ◌&&◌ closed (ap₂ ◌&&◌ (ap not going) (lt-ltb _ _ more)))
      (row-free _ 11 none (ap₂ ◌&&◌ (lt-ltb even p e) (ap₂ ◌&&◌ (lt-ltb cross p c) (lt-ltb odd p o))) refl)

  verdict-free : b.closed ≡ true → b.refuted ≡ false → b.round ≡ b.start.rounds → verifier_table p b query.Verdict l ≡ none
  unfolding verifier_table
  verdict-free closed going last = row-free _ 12 none (ap₂ ◌&&◌ closed (ap₂ ◌||◌ going (eq-eqb _ _ last))) refl

  proof-free : b.closed ≡ false → has_all b ≡ true → b.start.plain ≡ true → file_rows p b.start.rounds l.file ≡ none → verifier_table p b query.Proof l ≡ none
  unfolding verifier_table
  proof-free unclosed whole plain rows = pass_free b _ _ unclosed whole plain rows

good_rows : (p n : ℕ) (t : ℤ) (file : List ℕ) → GoodProof p file (record { rounds = n; total = t }) → in_limits p t ≡ true → file_rows p n file ≡ none
good_rows p n t file g fits =
    row-free _ 1 _ (mark_back 80 10 file g.frame.mark)
    (row-free _ 2 _ (eq-eqb (version_of file) 1 g.frame.version)
    (row-free _ 3 _ (eq-eqb (proof_rounds file) n g.rounds)
    (row-free _ 4 _ (eq-eqb (length file) (proof_size n) (g.frame.size ∙ ap proof_size g.rounds))
    (row-free _ 7 _ (ap (in_limits p) g.total ∙ fits)
    (row-free _ 11 none (all_below_lem p (proof_number file) (3 * n + 2) (λ k h. g.below k (omega (arith, g.rounds)))) refl)))))

module _ (p : ℕ) (large : max_weight < p) (prime : Prime p) (odd : p % 2 ≡ 1) (word : p ≤ 2 ^ 32) (T : Trip) (valid : Valid p T) (cs : List ℕ)
    (listed : length cs ≡ T.start.rounds) (w : World) (ms : List Made) where
  abbrev Agrees : VerifierState → Verifier → List Posed → Type 0
  Agrees = VerifierAgrees p T w ms

  abbrev n : ℕ
  n = T.start.rounds

  abbrev L : ℕ
  L = T.start.items

  abbrev F : VerifierState → Verifier → Type 0
  F b v = Follows p T cs b v

  -- an answered call
  one-agreed : (b : VerifierState) (v : Verifier) → F b v → (q : Query) (l : Shown) → verifier_table p b q l ≡ none → BringsTrip p T b q l → BringsRun p T w ms b q l
      → ((t : Said) → SaysTrip p T b q l t → t ≡ agreed q) → (qs : List Posed) → ((v : Verifier) → F (goes_on_heard b q (agreed q)) v → Agrees (goes_on_heard b q (agreed q)) v qs)
      → Agrees b v (record { query = q; shown = l } ∷ qs)
  unfolding along
  one-agreed b v f q l free brought given so qs on =
      let same : ask p v q l ≡ answers p v q l = asks p b v f.stands q l ∙ ap (λ t. settled_heard v t (answers p v q l)) free in
      let right = answers-right p large prime odd word T valid.whole.start.most valid.whole.start.rounds valid.whole.items cs listed b v f q l free brought in
      let said : says_so p v q l ≡ agreed q = so _ right.0 in
      let told : (ask p v q l).told ≡ answered (agreed q) = ap (λ (o : Spoken). o.told) same ∙ ap (λ t. answered t) said in (
        (told, given),
        subst (λ t. Agrees (follow_heard b q t) (ask p v q l).verifier qs) (sym told)
            (on _
            (subst (λ (o : Spoken). F (goes_on_heard b q (agreed q)) o.verifier) (sym same)
            (subst (λ t. F (goes_on_heard b q t) (goes_to p v q l)) said right.1))),
      )

  module _ (b : VerifierState) (v : Verifier) (f : F b v) where
    kind : {k : Bool} → T.start.plain ≡ k → b.start.plain ≡ k
    kind e = ap (λ s. s.plain) f.start ∙ e

    rounds-so : b.start.rounds ≡ n
    rounds-so = ap (λ s. s.rounds) f.start

    whole-so : length b.items ≡ L → has_all b ≡ true
    whole-so e = eq-eqb _ _ (e ∙ ap (λ s. s.items) (sym f.start))

    -- AN ITEM
    item-agreed : (x : Given) → x ≡ trip_item T (length b.items) → ItemFits p T.start x → b.closed ≡ false → length b.items < L → (qs : List Posed)
        → ((b' : VerifierState) (v : Verifier) → F b' v → b'.closed ≡ false → length b'.items ≡ suc (length b.items) → Agrees b' v qs)
        → Agrees b v (plainly (query.Give x) ∷ qs)
    item-agreed x e fits unclosed more qs on =
        one-agreed b v f (query.Give x) _
        (item-free p b _ x unclosed (omega (arith, ap (λ s. s.items) f.start)) (subst (λ s. ItemFits p s x) (sym f.start) fits)) e e (λ t h. h) qs
        (λ v f. on _ v f unclosed refl)

    -- THE TOTAL
    pub total-agreed : (plain : Bool) → T.start.plain ≡ plain
        → Gave p w ms total (says (cond plain (reply.total (total_of T)) (reply.field_total (dot p (2 ^ n) (vector_f p T) (vector_g p T))))) → length b.items ≡ L → place b ≡ 0 → (qs : List Posed)
        → ((b' : VerifierState) (v : Verifier) → F b' v → length b'.items ≡ L → place b' ≡ 1 → Agrees b' v qs)
        → Agrees b v ((claims (cond plain (reply.total (total_of T)) (reply.field_total (dot p (2 ^ n) (vector_f p T) (vector_g p T)))) ++ []) ++ qs)
    total-agreed true e gave whole at-start qs on =
        let unclosed = place-open b.closed b.round at-start in
        one-agreed b v f (query.Close (total_of T)) _ (close-free p b _ (total_of T) unclosed (whole-so whole) (kind e) (valid.total e)) refl gave (λ t h. h) qs
        (λ v' g. on _ v' g whole (ap suc (no-message p T cs b v f unclosed)))
    total-agreed false e gave whole at-start qs on =
        let unclosed = place-open b.closed b.round at-start in
        one-agreed b v f (query.CloseClaim _) _ (claim-free p b _ _ unclosed (whole-so whole) (kind e) (residue-below p (omega arith) _)) refl gave (λ t h. h) qs
        (λ v' g. on _ v' g whole (ap suc (no-message p T cs b v f unclosed)))

    -- A MESSAGE
    pub message-agreed : (i even cross odd : ℕ) → ◌≡◌ {A = Message} (record { even = even; cross = cross; odd = odd }) (message_at p T cs i)
        → Gave p w ms (round_message i) (says (reply.message even cross odd)) → i < n → length b.items ≡ L → place b ≡ suc i → (qs : List Posed)
        → ((b' : VerifierState) (v : Verifier) → F b' v → length b'.items ≡ L → place b' ≡ suc (suc i) → Agrees b' v qs)
        → Agrees b v (plainly (query.Message even cross odd) ∷ qs)
    message-agreed i even cross odd e gave less whole now qs on =
        let at_i = place-closed b.closed b.round i now in
        one-agreed b v f (query.Message even cross odd) _
        (message-free p b _ even cross odd at_i.0 f.going (omega (arith, at_i.1, rounds-so))
        (below p (ap (λ (m : Message). m.even) e) (residue-below p (omega arith) _))
        (below p (ap (λ (m : Message). m.cross) e) (residue-below p (omega arith) _))
        (below p (ap (λ (m : Message). m.odd) e) (residue-below p (omega arith) _)))
        (e ∙ ap₂ (message_at p T) (sym f.challenges) (sym at_i.1))
        (subst (λ i. Gave p w ms (round_message i) (says (reply.message even cross odd))) (sym at_i.1) gave) (λ t h. h) qs
        (λ v g. on _ v g whole (ap (λ i. suc (suc i)) at_i.1))

    -- THE VERDICT
    pub verdict-agreed : length b.items ≡ L → place b ≡ suc n → (qs : List Posed)
        → ((b' : VerifierState) (v : Verifier) → F b' v → length b'.items ≡ L → place b' ≡ suc n → Agrees b' v qs) → Agrees b v (plainly query.Verdict ∷ qs)
    verdict-agreed whole now qs on =
        let last = place-closed b.closed b.round n now in
        one-agreed b v f query.Verdict _ (verdict-free p b _ last.0 f.going (last.1 ∙ sym rounds-so)) tt tt (λ t h. h) qs
        (λ v g. on _ v g whole (ap suc rounds-so))

    -- AN OPENING
    pub check_agreed : (x : ℕ) (l : Shown) → is_nonzero p x ≡ true → ltb 0 n ≡ true → l.values ≡ opening p n (at cs) (vector_f p T) (vector_g p T) x → (qs : List Posed)
        → ((v : Verifier) → F b v → Agrees b v qs) → Agrees b v (record { query = query.CheckOpening x; shown = l } ∷ qs)
    check_agreed x l ok more so qs on =
        one-agreed b v f (query.CheckOpening x) l (opening-free p large T cs b f.start x ok more l so) tt tt
        (λ t h. h (so ∙ ap (λ ds. opening p n (at ds) (vector_f p T) (vector_g p T) x) (sym f.challenges))) qs on

    -- THE PROOF FILE
    pub proof-agreed : T.start.plain ≡ true → b.closed ≡ false → length b.items ≡ L → (l : Shown) → l.file ≡ proof_of_trip p T cs → Wrote p w ms l.file → (qs : List Posed)
        → ((b' : VerifierState) (v : Verifier) → F b' v → Agrees b' v qs) → Agrees b v (record { query = query.Proof; shown = l } ∷ qs)
    proof-agreed plain unclosed whole l so wrote qs on =
        let few : n ≤ 15 = omega (arith, valid.whole.start.rounds, rounds-at-most L valid.whole.start.most) in
        let enough : L ≤ 2 ^ n = rw valid.whole.start.rounds (rounds-enough L valid.whole.start.most) in
        let fits = valid.total plain in
        let good = file-good p T cs large word few enough listed (λ i h. f.fine i (omega (arith, whole))) fits in
        let rows : file_rows p b.start.rounds l.file ≡ none = ap₂ (file_rows p) rounds-so so ∙ good_rows p n (total_of T) (proof_of_trip p T cs) good fits in
        one-agreed b v f query.Proof l (proof-free p b l unclosed (whole-so whole) (kind plain) rows) (so ∙ ap (proof_of_trip p T) (sym f.challenges), fits) wrote (λ t h. h) qs
        (λ v g. on _ v g)

  -- THE ITEMS, first to last
  pub items-agreed : (xs : List Given) (k : ℕ) → k + length xs ≡ L → ((j : ℕ) → get_or xs j (Numbers 0 0) ≡ trip_item T (k + j)) → (b : VerifierState) (v : Verifier) → F b v
      → b.closed ≡ false → length b.items ≡ k → (qs : List Posed) → ((b : VerifierState) (v : Verifier) → F b v → b.closed ≡ false → length b.items ≡ L → Agrees b v qs)
      → Agrees b v (items_of xs ++ qs)
  items-agreed [] k all same b v f unclosed count qs on = on b v f unclosed (omega (arith, count, all))
  items-agreed (x ∷ xs) k all same b v f unclosed count qs on =
      let less : k < L = omega arith in
      let here : x ≡ trip_item T k = same 0 ∙ ap (trip_item T) (add-zero k) in
      item-agreed b v f x (here ∙ ap (trip_item T) (sym count)) (subst (ItemFits p T.start) (sym here) (valid.items k less)) unclosed (omega (arith, count)) (items_of xs ++ qs)
      (λ c v g still count'. items-agreed xs (suc k) (omega arith) (λ j. same (suc j) ∙ ap (trip_item T) (add-suc k j ∙ sym (suc-add k j))) c v g still (count' ∙ ap suc count) qs on)
