-- THE CHECKS OF A RUN'S OPENINGS: the table has nothing against them, and each is yes, whatever the verifier was asked before.
use mathlib.Core.Path.{◌≡◌, refl, sym, ap, ◌∙◌}
use mathlib.Core.Bool.{Bool, true}
use mathlib.Core.List.{List, [], ◌∷◌, ◌++◌}
use mathlib.Core.Option.{none}
use Prim.Native.Nat.{ℕ, zero, suc, ◌*◌, ◌%◌, ◌^◌, ◌<◌, ◌≤◌}
use native.Mathlib.Omega.{arith}
use lib.Dec.{ltb}
use lib.ListN.{length, take}
use borrow.Author.Tests.{eq-eqb}
use Rattle.algebra.specs.Prime.{Prime}
use Rattle.refusal.specs.Limit.{max_weight}
use Rattle.vector.specs.Vector.{at}
use Rattle.vector.specs.Slice.{is_nonzero, all_reduced}
use Rattle.vector.specs.Opening.{Triple, triple, triple_values, opening_of, opening}
use Rattle.vector.proofs.Every.{reduced_all}
use Rattle.refusal.specs.Outcome.{answered}
use Rattle.verifier.specs.declared.Verifier.{Verifier}
use Rattle.verifier.specs.Records.{holds}
use Rattle.verifier.specs.Openings.{opening_finds}
use Rattle.item.specs.declared.Start.{Start}
use Rattle.runs.specs.Trip.{Trip, vector_f, vector_g}
use Rattle.runs.proofs.CloseLaws.{residue-below}
use Rattle.calls.specs.declared.query.Query.TheVariants as query
use Rattle.calls.specs.Lists.{after}
use Rattle.calls.specs.World.{Made, World}
use Rattle.calls.specs.QueryStep.{Shown, Spoken, opens, ask}
use Rattle.calls.specs.QueryState.{VerifierState, verifier_table, Posed, Hearing, fresh_hearing, heard, hears_on}
use Rattle.calls.specs.Given.{OpeningsChecked}
use Rattle.calls.specs.Starts.{Startable, Whole}
use Rattle.calls.specs.Begins.{Begin, CanBegin, begun}
use Rattle.calls.specs.Demand3.{AllKept, AllTake}
use Rattle.calls.proofs.Turns.{both}
use Rattle.calls.proofs.Begins.{begun-going}
use Rattle.calls.proofs.QueryStands.{Carries, Stands, fresh-stands}
use Rattle.calls.proofs.QuerySteps.{answers, settled_heard, asks}
use Rattle.calls.proofs.QueryLists.{stands-next}
use Rattle.calls.proofs.QueryKept.{follow-kept}
use Rattle.calls.proofs.HeardAnswers.{opening-holds}
use Rattle.calls.proofs.Hits.{hit_replies, hit_somewhere}
use Rattle.calls.proofs.Links.{opening-length, opening_of_lem}
use Rattle.calls.proofs.BatchTakes.{begun-pointed}

-- every value of an opening is a field number
module _ (p : ℕ) (some : 0 < p) where
  triples_below : (t : ℕ → Triple) → ((k : ℕ) → ((t k).at_point < p) × ((t k).at_minus < p) × ((t k).at_square < p)) → (k m j : ℕ) → at (triple_values t k m) j < p
  unfolding triple_values
  triples_below t h k zero j = some
  triples_below t h k (suc m) zero = (h k).0
  triples_below t h k (suc m) (suc zero) = (h k).1
  triples_below t h k (suc m) (suc (suc zero)) = (h k).2
  triples_below t h k (suc m) (suc (suc (suc j))) = triples_below t h (suc k) m j

  append_below : (xs ys : List ℕ) → ((j : ℕ) → at xs j < p) → ((j : ℕ) → at ys j < p) → (j : ℕ) → at (xs ++ ys) j < p
  append_below [] ys f g j = g j
  append_below (x ∷ xs) ys f g zero = f 0
  append_below (x ∷ xs) ys f g (suc j) = append_below xs ys (λ i. f (suc i)) g j

  pub values-below : (n : ℕ) (c v : ℕ → ℕ) (b j : ℕ) → at (opening_of p n c v b) j < p
  values-below n c v b = triples_below (triple p n c v b) (λ k. (residue-below p some _, residue-below p some _, residue-below p some _)) 0 n

  opening-below : (n : ℕ) (c f g : ℕ → ℕ) (b j : ℕ) → at (opening p n c f g b) j < p
  opening-below n c f g b = append_below (opening_of p n c f b) (opening_of p n c g b) (values-below n c f b) (values-below n c g b)

-- the table has nothing against it
check_free : (p : ℕ) (b : VerifierState) (x : ℕ) (l : Shown) → is_nonzero p x ≡ true → ltb 0 b.start.rounds ≡ true → length l.values ≡ 6 * b.start.rounds
    → all_reduced p (length l.values) l.values ≡ true → verifier_table p b (query.CheckOpening x) l ≡ none
unfolding verifier_table
check_free p b x l hx hn hl hr = rw (hn, hx, eq-eqb (length l.values) (6 * b.start.rounds) hl, hr)

module _ (p : ℕ) (large : max_weight < p) (T : Trip) (cs : List ℕ) where
  abbrev n : ℕ
  n = T.start.rounds

  pub opening-free : (b : VerifierState) → b.start ≡ T.start → (x : ℕ) → is_nonzero p x ≡ true → ltb 0 n ≡ true → (l : Shown)
      → l.values ≡ opening p n (at cs) (vector_f p T) (vector_g p T) x → verifier_table p b (query.CheckOpening x) l ≡ none
  opening-free b es x ok more l so =
      check_free p b x l ok (ap (λ st. ltb 0 st.rounds) es ∙ more)
      (ap length so ∙ opening-length p n (at cs) (vector_f p T) (vector_g p T) x ∙ ap (λ st. 6 * st.rounds) (sym es))
      (ap (λ xs. all_reduced p (length xs) xs) so
      ∙ sym (reduced_all p _ (opening p n (at cs) (vector_f p T) (vector_g p T) x) (λ k h. opening-below p (omega arith) n (at cs) (vector_f p T) (vector_g p T) x k)))

-- whatever a verifier was asked, it keeps its start and its challenges
module _ (p : ℕ) (s : Start) (cs : List ℕ) where
  stands-along : (qs : List Posed) (h : Hearing) → Stands p h.state h.verifier → h.state.start ≡ s → h.state.challenges ≡ cs
      → (let k : Hearing = after (hears_on p) h qs in Stands p k.state k.verifier × (k.state.start ≡ s) × (k.state.challenges ≡ cs))
  unfolding after
  stands-along [] h st es ec = (st, es, ec)
  stands-along (q ∷ qs) h st es ec =
      let k = follow-kept h.state q.query (heard p h q).told in
      stands-along qs (hears_on p h q) (stands-next p h.state h.verifier st q.query q.shown) (k.0 ∙ es) (k.1 ∙ ec)

  pub stands-still : Startable s → (qs : List Posed)
      → (let k : Hearing = after (hears_on p) (fresh_hearing s cs) qs in Stands p k.state k.verifier × (k.state.start ≡ s) × (k.state.challenges ≡ cs))
  stands-still h qs = stands-along qs (fresh_hearing s cs) (fresh-stands s h cs p) refl refl

module _ (p : ℕ) (large : max_weight < p) (prime : Prime p) (odd : p % 2 ≡ 1) (word : p ≤ 2 ^ 32) (T : Trip) (w : Whole T) (cs : List ℕ)
    (listed : length cs ≡ T.start.rounds) where
  abbrev rounds : ℕ
  rounds = T.start.rounds

  opening-yes : (b : VerifierState) (v : Verifier) → Stands p b v → b.start ≡ T.start → b.challenges ≡ cs → (x : ℕ) → is_nonzero p x ≡ true → ltb 0 rounds ≡ true
      → (l : Shown) → l.values ≡ opening p rounds (at cs) (vector_f p T) (vector_g p T) x → (ask p v (query.CheckOpening x) l).told ≡ answered (opens holds)
  opening-yes b v st es ec x ok more l so =
      let c : Carries T.start cs (length b.items) v = rw (es, ec) at st.carries in
      ap (λ (o : Spoken). o.told)
      (asks p b v st (query.CheckOpening x) l ∙ ap (λ t. settled_heard v t (answers p v (query.CheckOpening x) l)) (opening-free p large T cs b es x ok more l so))
      ∙ ap (λ xs. answered (opens (opening_finds p v x xs))) so
      ∙ ap (λ d. answered (opens d))
      (opening-holds p large prime odd word T w.start.most w.start.rounds w.items cs listed (length b.items) v c x ok)

  pub openings-checked : (through : Bool) (begin : Begin) → CanBegin T.start begin → (f g : List ℕ) (ms : List Made)
      → (let v : World = begun T.start begin f g in
      AllKept p through T v ms → AllTake p cs v ms → (qs : List Posed)
      → OpeningsChecked p T v ms (after (hears_on p) (fresh_hearing T.start cs) qs))
  openings-checked through begin can f g ms kept takes qs x values gave file logs =
      let going = begun-going p large through T w.items begin can f g in
      let hit = hit_somewhere p large through T w.items cs _ _ (begun T.start begin f g) going ms kept takes gave in
      let ok = both (is_nonzero p x) (ltb 0 rounds) (begun-pointed p large T.start begin can f g ms x _ gave) in
      let h = stands-still p T.start cs w.start qs in
      opening-yes _ _ h.0 h.1 h.2 x ok.0 ok.1 (record { file = file; values = take (6 * rounds) values; logs = logs })
      (opening_of_lem p large through T w.items cs x values hit.0 (sym hit.1 ∙ hit_replies p large through T w.items cs _ hit.0))
