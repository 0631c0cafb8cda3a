-- Whatever the list of a verifier's calls, with blocks of items among them: a block is refused as a whole, or it stands for its single items.
use mathlib.Core.Path.{◌≡◌, refl, sym, ap, ap₂, subst, ◌∙◌}
use mathlib.Core.Logic.{◌⊎◌, inl, inr, ⊎_elim}
use mathlib.Core.Bool.{true, false, cond, not}
use mathlib.Core.List.{List, [], ◌∷◌, ◌++◌}
use mathlib.Core.Option.{Option, none, some}
use Prim.Native.Nat.{ℕ, zero, suc, ◌+◌, ◌-◌, ◌≤◌, ◌<◌}
use native.Mathlib.Nat.{add-zero, add-suc, eq-or-lt_of_le}
use native.Mathlib.Omega.{arith}
use lib.Dec.{leb, ltb}
use lib.ListN.{length}
use borrow.Author.Tests.{leb-true, ltb-true, le-leb, lt-ltb}
use Rattle.refusal.specs.Outcome.{answered}
use Rattle.verifier.specs.declared.Verifier.{Verifier}
use Rattle.verifier.specs.Reply as verifier
use Rattle.verifier.specs.Records.{Replied, leaves}
use Rattle.verifier.specs.Sums.{takes}
use Rattle.verifier.specs.Blocks.{takes_all, with_block, items}
use Rattle.item.specs.declared.Start.{Start}
use Rattle.item.specs.declared.Given.{Given}
use Rattle.item.specs.Item.{contributes}
use Rattle.block.specs.Block.{Block, count, item_at, is_whole}
use Rattle.calls.specs.declared.query.Query.{Query}
use Rattle.calls.specs.declared.query.Query.TheVariants as query
use Rattle.calls.specs.Lists.{after, along, somewhere}
use Rattle.calls.specs.Step.{is_answered}
use Rattle.calls.specs.QueryStep.{Said, Spoken, replies, replying}
use Rattle.calls.specs.QueryState.{VerifierState, follow_heard, verifier_table, Posed, plainly, Hearing, fresh_hearing, heard, hears_on, DecidesHeard}
use Rattle.calls.specs.Table.{Refusal, refused_with, decided, row, given_rows}
use Rattle.calls.specs.Blocks.{block_rows, verifier_block_table, up_to, takes_items, WidePosed, posed, handed, block_heard, wide_hears, singles_heard, own_singles_heard, StandsForHeard, BlockDecidedHeard, WideDecidedHeard, standing_heard, expanded_heard}
use Rattle.calls.specs.Starts.{Startable}
use Rattle.calls.proofs.Guards.{like_row}
use Rattle.calls.proofs.Steps.{row-passed}
use Rattle.calls.proofs.QueryStands.{Stands, fresh-stands}
use Rattle.calls.proofs.QueryGuards.{open_test}
use Rattle.calls.proofs.QuerySteps.{answers, settled_heard, step_so, asks}
use Rattle.calls.proofs.QueryKeeps.{stands_after}
use Rattle.calls.proofs.QueryLists.{stands-next}
use Rattle.calls.proofs.RowsOfBlocks.{Fine, fine-kind, rows-passed, passed-rows, checks-rows}
use Rattle.calls.proofs.JoinedLists.{after-joined, along-joined, somewhere-first, somewhere-then}

-- THE CALL: its checks are the rows of its table
with_block_lem : (t : Option Refusal) (n : ℕ) (rest : ℕ → Verifier)
    → with_block (decided t (answered n)) rest ≡ decided t (answered (record { verifier = rest n; reply = verifier.taken }))
with_block_lem none n rest = refl
with_block_lem (some (k, none)) n rest = refl
with_block_lem (some (k, some i)) n rest = refl

-- what an answered block of n items hands back
abbrev all_taken : ℕ → Verifier → Block → ℕ → Replied
all_taken p v b n = record { verifier = takes_all p b n v; reply = verifier.taken }

module _ (p : ℕ) (a : VerifierState) (v : Verifier) (s : Stands p a v) (b : Block) where
  abbrev rows_for : Start → ℕ → Option Refusal
  rows_for t k = row (leb (k + count t.version b) t.items) 8 (block_rows p t k b none)

  abbrev pub own_count : ℕ
  own_count = count a.start.version b

  pub block-decided : items p v b ≡ decided (verifier_block_table p a b) (answered (all_taken p v b own_count))
  unfolding items verifier_block_table
  block-decided =
      like_row _ _ 10 _ _ _ (open_test p a v s)
      (ap (λ o. with_block o (λ n. takes_all p b n v)) (checks-rows p v.start v.taken false b)
      ∙ with_block_lem (rows_for v.start v.taken) (count v.start.version b) (λ n. takes_all p b n v)
      ∙ ap₂ (λ t k. decided (rows_for t k) (answered (all_taken p v b (count t.version b)))) s.carries.start s.carries.taken)

  -- the call as the table has it
  pub block-asked : replying (leaves v (items p v b))
      ≡ settled_heard v (verifier_block_table p a b) (record { verifier = takes_all p b own_count v; told = answered (replies verifier.taken) })
  block-asked = ap (λ o. replying (leaves v o)) block-decided ∙ step_so v (verifier_block_table p a b) (all_taken p v b own_count)

-- THE SINGLE ITEMS
length_up : (v : ℕ) (b : Block) (m : ℕ) (xs : List Given) → length (up_to v b m xs) ≡ length xs + m
unfolding up_to
length_up v b zero xs = sym (add-zero (length xs))
length_up v b (suc m) xs = ap suc (length_up v b m xs) ∙ sym (add-suc (length xs) m)

abbrev one : ℕ → Block → ℕ → Posed
one v b j = plainly (query.Give (item_at v b j))

-- one more of them is the last
one_more_lem : (p v : ℕ) (b : Block) (n i k : ℕ) → k ≡ i + n → singles_heard p v b i (suc n) ≡ singles_heard p v b i n ++ one v b k ∷ []
unfolding singles_heard
one_more_lem p v b zero i k e = ap (λ j. one v b j ∷ []) (sym (e ∙ add-zero i))
one_more_lem p v b (suc n) i k e = ap (λ qs. one v b i ∷ qs) (one_more_lem p v b n (suc i) k (omega arith))

-- what holds below m and at m holds below the next
below_next : {m : ℕ} (t : ℕ → Option Refusal) → ((j : ℕ) → j < m → t j ≡ none) → t m ≡ none → (j : ℕ) → j < suc m → t j ≡ none
below_next {m} t below now j l = ⊎_elim (λ e. ap t e ∙ now) (λ k. below j k) (eq-or-lt_of_le (pred_le j m l))
  where
    pred_le : (j m : ℕ) → j < suc m → j ≤ m
    pred_le j m l = omega arith

refused_not : (k : ℕ) (i : Option ℕ) → is_answered {A = Said} (refused_with k i) ≡ false
refused_not k none = refl
refused_not k (some i) = refl

-- where what a call hands back leads
abbrev followed : VerifierState → Query → Spoken → Hearing
followed a c o = record { state = follow_heard a c o.told; verifier = o.verifier }

module _ (p : ℕ) (b : Block) (h : Hearing) where
  abbrev version : ℕ
  version = h.state.start.version

  -- with the items 0 to m - 1 taken
  abbrev up_state : ℕ → VerifierState
  up_state m =
      record {
        start = h.state.start;
        challenges = h.state.challenges;
        items = up_to version b m h.state.items;
        closed = h.state.closed;
        round = h.state.round;
        refuted = h.state.refuted;
      }

  abbrev up : ℕ → Hearing
  up m = record { state = up_state m; verifier = takes_all p b m h.verifier }

  abbrev table_at : ℕ → Option Refusal
  table_at m = verifier_table p (up_state m) (query.Give (item_at version b m)) (one version b m).shown

  abbrev is_taken : Hearing → Posed → Type 0
  is_taken h q = (heard p h q).told ≡ answered (replies verifier.taken)

  abbrev is_refused : Hearing → Posed → Type 0
  is_refused h q = is_answered (heard p h q).told ≡ false

  -- m of them were answered
  record Going (m : ℕ) : Type 0 where
    stands : Stands p (up_state m) (takes_all p b m h.verifier)
    tables : (j : ℕ) → j < m → table_at j ≡ none
    told : along (hears_on p) is_taken h (singles_heard p version b 0 m)
    same : after (hears_on p) h (singles_heard p version b 0 m) ≡ up m

  first-going : Stands p h.state h.verifier → Going 0
  unfolding takes_all up_to singles_heard along after
  first-going s = record { stands = s; tables = λ j l. absurd (omega arith); told = tt; same = refl }

  -- the next one, as its table has it
  module _ (m : ℕ) (g : Going m) where
    asked : (t : Option Refusal) → table_at m ≡ t
        → heard p (up m) (one version b m) ≡ settled_heard (up m).verifier t (answers p (up m).verifier (query.Give (item_at version b m)) (one version b m).shown)
    asked t e =
        asks p (up_state m) (up m).verifier g.stands (query.Give (item_at version b m)) (one version b m).shown
        ∙ ap (λ t. settled_heard (up m).verifier t (answers p (up m).verifier (query.Give (item_at version b m)) (one version b m).shown)) e

    last : singles_heard p version b 0 (suc m) ≡ singles_heard p version b 0 m ++ one version b m ∷ []
    last = one_more_lem p version b m 0 m (omega arith)

    next-going : table_at m ≡ none → Going (suc m)
    unfolding takes_all up_to along after
    next-going e =
        let q = asked none e in
        let u : Verifier = (up m).verifier in
        let step : (takes p u (contributes p u.start (item_at version b m))).verifier ≡ (up (suc m)).verifier =
        ap (λ n. (takes p u (contributes p u.start (item_at n b m))).verifier) (sym (ap (λ s. s.version) g.stands.carries.start)) in
        record {
          stands = subst (Stands p (up_state (suc m))) step (stands_after p (up_state m) u g.stands (query.Give (item_at version b m)) (one version b m).shown e);
          tables = below_next table_at g.tables e;
          told =
              subst (along (hears_on p) is_taken h) (sym last)
              (along-joined (hears_on p) is_taken h (singles_heard p version b 0 m) (one version b m ∷ []) g.told
              (subst (λ w. along (hears_on p) is_taken w (one version b m ∷ [])) (sym g.same) (ap (λ (o : Spoken). o.told) q, tt)));
          same =
              ap (after (hears_on p) h) last ∙ after-joined (hears_on p) h (singles_heard p version b 0 m) (one version b m ∷ [])
              ∙ ap (λ w. after (hears_on p) w (one version b m ∷ [])) g.same ∙ ap (followed (up_state m) (query.Give (item_at version b m))) q
              ∙ ap (λ v. (let w : Hearing = record { state = up_state (suc m); verifier = v } in w)) step;
        }

    stopped : (k : Refusal) → table_at m ≡ some k → somewhere (hears_on p) is_refused h (singles_heard p version b 0 (suc m))
    unfolding somewhere
    stopped k e =
        subst (somewhere (hears_on p) is_refused h) (sym last)
        (somewhere-then (hears_on p) is_refused h (singles_heard p version b 0 m) (one version b m ∷ [])
        (subst (λ w. somewhere (hears_on p) is_refused w (one version b m ∷ [])) (sym g.same)
        (inl (ap (λ (o : Spoken). is_answered o.told) (asked (some k) e) ∙ refused_not k.0 k.1))))

  -- one of the first m was refused, or all were answered
  goes : Stands p h.state h.verifier → (m : ℕ) → somewhere (hears_on p) is_refused h (singles_heard p version b 0 m) ⊎ Going m
  goes s zero = inr (first-going s)
  goes s (suc m) = ⊎_elim (λ r. inl (further r)) (λ g. by g (table_at m) refl) (goes s m)
    where
      further : somewhere (hears_on p) is_refused h (singles_heard p version b 0 m) → somewhere (hears_on p) is_refused h (singles_heard p version b 0 (suc m))
      further r =
          subst (somewhere (hears_on p) is_refused h) (sym (one_more_lem p version b m 0 m (omega arith)))
          (somewhere-first (hears_on p) is_refused h (singles_heard p version b 0 m) (one version b m ∷ []) r)

      by : Going m → (t : Option Refusal) → table_at m ≡ t → somewhere (hears_on p) is_refused h (singles_heard p version b 0 (suc m)) ⊎ Going (suc m)
      by g none e = inr (next-going m g e)
      by g (some k) e = inl (stopped m g k e)

  -- where no table has anything against them all are answered
  all_go : Stands p h.state h.verifier → (m : ℕ) → ((j : ℕ) → j < m → table_at j ≡ none) → Going m
  all_go s zero each = first-going s
  all_go s (suc m) each = next-going m (all_go s m (λ j l. each j (omega arith))) (each m (omega arith))

  abbrev taken : ℕ
  taken = length h.state.items

  -- what a single item's table has nothing against
  record Wanted (j : ℕ) : Type 0 where
    unclosed : not h.state.closed ≡ true
    more : taken + j < h.state.start.items
    fine : Fine p h.state.start taken b j

  single-table : (j : ℕ)
      → table_at j
      ≡ row (not h.state.closed) 10
      (row (ltb (taken + j) h.state.start.items) 8 (given_rows p h.state.start (taken + j) (item_at version b j) none))
  unfolding verifier_table
  single-table j =
      ap
      (λ n.
      row (not h.state.closed) 10 (row (ltb n h.state.start.items) 8 (given_rows p h.state.start n (item_at version b j) none)))
      (length_up version b j h.state.items)

  wanted : (j : ℕ) → table_at j ≡ none → Wanted j
  wanted j e =
      let x = row-passed (not h.state.closed) 10 _ (sym (single-table j) ∙ e) in
      let y = row-passed (ltb (taken + j) h.state.start.items) 8 _ x.1 in
      record { unclosed = x.0; more = ltb-true _ _ y.0; fine = y.1 }

  not_against : (j : ℕ) → Wanted j → table_at j ≡ none
  not_against j w =
      single-table j ∙ rw (w.unclosed, lt-ltb (taken + j) h.state.start.items w.more) w.fine

  -- A BLOCK'S TABLE IS ITS SINGLE ITEMS' TABLES
  table-singles : verifier_block_table p h.state b ≡ none → (j : ℕ) → j < count version b → table_at j ≡ none
  unfolding verifier_block_table
  table-singles e j below =
      let x = row-passed (not h.state.closed) 10 _ e in
      let y = row-passed (leb (taken + count version b) h.state.start.items) 8 _ x.1 in
      let most = leb-true (taken + count version b) h.state.start.items y.0 in
      not_against j (record { unclosed = x.0; more = omega arith; fine = (rows-passed p h.state.start taken b none y.1).each j below })

  singles-table : is_whole version b ≡ true → 0 < count version b → ((j : ℕ) → j < count version b → table_at j ≡ none) → verifier_block_table p h.state b ≡ none
  unfolding verifier_block_table
  singles-table whole some_item each =
      let first = wanted 0 (each 0 some_item) in
      let last = wanted (count version b - 1) (each (count version b - 1) (omega arith)) in
      let rows : block_rows p h.state.start taken b none ≡ none =
      passed-rows p h.state.start taken b none
      (record { kind = fine-kind p h.state.start taken b 0 first.fine; whole = whole; each = λ j below. (wanted j (each j below)).fine }) in
      rw (first.unclosed, le-leb (taken + count version b) h.state.start.items (omega arith)) rows

-- A BLOCK IS REFUSED AS A WHOLE, OR IT STANDS FOR ITS SINGLE ITEMS
module _ (p : ℕ) (h : Hearing) (s : Stands p h.state h.verifier) (b : Block) where
  -- the call by its table
  abbrev when_answered : Spoken
  when_answered = record { verifier = takes_all p b (count h.state.start.version b) h.verifier; told = answered (replies verifier.taken) }

  asked-so : (t : Option Refusal) → verifier_block_table p h.state b ≡ t → block_heard p h b ≡ settled_heard h.verifier t when_answered
  asked-so t e = block-asked p h.state h.verifier s b ∙ ap (λ t. settled_heard h.verifier t when_answered) e

  decides : (t : Option Refusal) → verifier_block_table p h.state b ≡ t → DecidesHeard h.verifier t (block_heard p h b)
  decides none e = ap (λ (o : Spoken). is_answered o.told) (asked-so none e)
  decides (some k) e = asked-so (some k) e

  -- where what a block hands back leads
  abbrev wide_on : Spoken → Hearing
  wide_on o = record { state = cond (is_answered o.told) (takes_items h.state b) h.state; verifier = o.verifier }

  stands-for : verifier_block_table p h.state b ≡ none → StandsForHeard p h b
  stands-for e =
      let g = all_go p b h s (count h.state.start.version b) (table-singles p b h e) in
      record {
        answer = ap (λ (o : Spoken). o.told) (asked-so none e);
        answers = g.told;
        same = ap wide_on (asked-so none e) ∙ sym g.same;
      }

  refused-for : (k : Refusal) → verifier_block_table p h.state b ≡ some k → is_whole h.state.start.version b ≡ true → 0 < count h.state.start.version b
      → somewhere (hears_on p) (λ h q. is_answered (heard p h q).told ≡ false) h (own_singles_heard p h b)
  refused-for k e whole some_item = ⊎_elim (λ r. r) (λ g. absurd (never (singles-table p b h whole some_item g.tables))) (goes p b h s (count h.state.start.version b))
    where
      never : verifier_block_table p h.state b ≡ none → ⊥
      never n = let z : ◌≡◌ {A = ℕ} 0 1 = cc in omega arith

  pub block-heard : BlockDecidedHeard p h b
  block-heard = record { decided = decides (verifier_block_table p h.state b) refl; stands = stands-for; refused = refused-for }

  -- either way it leads where the calls lead that it stands for, and what it leaves stands
  abbrev LeadsTo : Spoken → Type 0
  LeadsTo o =
      (wide_on o ≡ after (hears_on p) h (cond (is_answered o.told) (own_singles_heard p h b) [])) × Stands p (wide_on o).state (wide_on o).verifier

  block-leads : LeadsTo (block_heard p h b)
  unfolding after
  block-leads = by (verifier_block_table p h.state b) refl
    where
      so : (t : Option Refusal) → verifier_block_table p h.state b ≡ t → LeadsTo (settled_heard h.verifier t when_answered)
      so none e = let g = all_go p b h s (count h.state.start.version b) (table-singles p b h e) in (sym g.same, g.stands)
      so (some (k, none)) e = (refl, s)
      so (some (k, some i)) e = (refl, s)

      by : (t : Option Refusal) → verifier_block_table p h.state b ≡ t → LeadsTo (block_heard p h b)
      by t e = subst LeadsTo (sym (asked-so t e)) (so t e)

-- WHATEVER THE LIST
module _ (p : ℕ) where
  wide_decided : (h : Hearing) → Stands p h.state h.verifier → (x : WidePosed) → WideDecidedHeard p h x
  wide_decided h s (posed q) = tt
  wide_decided h s (handed b) = block-heard p h s b

  wide_leads : (h : Hearing) → Stands p h.state h.verifier → (x : WidePosed)
      → (wide_hears p h x ≡ after (hears_on p) h (standing_heard p h x)) × Stands p (wide_hears p h x).state (wide_hears p h x).verifier
  unfolding after
  wide_leads h s (posed q) = (refl, stands-next p h.state h.verifier s q.query q.shown)
  wide_leads h s (handed b) = block-leads p h s b

  pub all-heard-blocks : (h : Hearing) → Stands p h.state h.verifier → (xs : List WidePosed)
      → along (wide_hears p) (WideDecidedHeard p) h xs × (after (wide_hears p) h xs ≡ after (hears_on p) h (expanded_heard p h xs))
  unfolding after along expanded_heard
  all-heard-blocks h s [] = (tt, refl)
  all-heard-blocks h s (x ∷ xs) =
      let l = wide_leads h s x in
      let r = all-heard-blocks (wide_hears p h x) l.1 xs in
      let rest = expanded_heard p (wide_hears p h x) xs in (
        (wide_decided h s x, r.0),
        r.1 ∙ ap (λ w. after (hears_on p) w rest) l.0 ∙ sym (after-joined (hears_on p) h (standing_heard p h x) rest),
      )

-- from an answered start on
pub every-heard_block : (p : ℕ) (s : Start) → Startable s → (cs : List ℕ) (xs : List WidePosed)
    → along (wide_hears p) (WideDecidedHeard p) (fresh_hearing s cs) xs
    × (after (wide_hears p) (fresh_hearing s cs) xs ≡ after (hears_on p) (fresh_hearing s cs) (expanded_heard p (fresh_hearing s cs) xs))
every-heard_block p s h cs xs = all-heard-blocks p (fresh_hearing s cs) (fresh-stands s h cs p) xs
