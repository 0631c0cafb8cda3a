-- A BATCH'S OPENINGS ARE CHECKED: the table has nothing against the check of what its run opened and of the logs' values, and it is yes.
use mathlib.Core.Path.{◌≡◌, sym, ap, subst, ◌∙◌}
use mathlib.Core.Bool.{Bool, true, ◌&&◌}
use mathlib.Core.List.{List, ◌++◌}
use mathlib.Core.Option.{none}
use Prim.Native.Nat.{ℕ, ◌*◌, ◌%◌, ◌^◌, ◌≤◌, ◌<◌}
use native.Mathlib.Omega.{arith}
use lib.Dec.{leb, ltb}
use lib.ListN.{length, take}
use lib.Seq.{take-take, take-append_seam}
use borrow.Author.Tests.{eq-eqb, lt-ltb}
use Rattle.algebra.specs.Prime.{Prime}
use Rattle.refusal.specs.Limit.{max_weight}
use Rattle.refusal.specs.Outcome.{answered}
use Rattle.vector.specs.Vector.{Vector, at}
use Rattle.vector.specs.Slice.{is_nonzero, all_reduced}
use Rattle.vector.specs.Opening.{triple, evaluate, opening_of, opening}
use Rattle.vector.proofs.Every.{reduced_all}
use Rattle.vector.proofs.Rounds.{rounds-at-most}
use Rattle.item.specs.declared.Start.{Start}
use Rattle.verifier.specs.declared.Verifier.{Verifier}
use Rattle.verifier.specs.Records.{yes}
use Rattle.verifier.specs.Batch.{batch_finds}
use Rattle.runs.specs.Trip.{Trip, vector_f, vector_g}
use Rattle.runs.proofs.CloseLaws.{residue-below}
use Rattle.batch.specs.Batch.{most_items}
use Rattle.batch.proofs.Together.{own_value, own-sum}
use Rattle.calls.specs.declared.query.Query.TheVariants as query
use Rattle.calls.specs.Lists.{after}
use Rattle.calls.specs.World.{Made, World}
use Rattle.calls.specs.QueryStep.{Shown, Spoken, finds, ask}
use Rattle.calls.specs.QueryState.{VerifierState, verifier_table, Posed, fresh_hearing, hears_on}
use Rattle.calls.specs.Given.{BatchChecked}
use Rattle.calls.specs.Starts.{Startable, Whole, batch_rows}
use Rattle.calls.specs.Begins.{openings, openings_world}
use Rattle.calls.specs.BatchTrip.{batch_trip}
use Rattle.calls.specs.Demand3.{AllKept}
use Rattle.calls.proofs.Turns.{both}
use Rattle.calls.proofs.Begins.{opens-going}
use Rattle.calls.proofs.BatchTakes.{batch-takes, begun-pointed}
use Rattle.calls.proofs.BatchTrips.{batch-whole, batch-vector-f}
use Rattle.calls.proofs.BatchHeard.{batch-holds}
use Rattle.calls.proofs.QueryStands.{Carries, Stands}
use Rattle.calls.proofs.QuerySteps.{answers, settled_heard, asks}
use Rattle.calls.proofs.Hits.{hit_replies, hit_somewhere}
use Rattle.pass.proofs.OpeningValues.{triples_length}
use Rattle.calls.proofs.Links.{opening_of_lem}
use Rattle.calls.proofs.OpeningChecks.{values-below, stands-still}
use Rattle.calls.proofs.StartRows.{batch-free}

-- the table has nothing against the check
check_free : (p : ℕ) (b : VerifierState) (m z x : ℕ) (l : Shown) → (leb 1 m && leb m 8) ≡ true → ltb 0 b.start.rounds ≡ true → is_nonzero p z ≡ true
    → is_nonzero p x ≡ true → length l.values ≡ 3 * b.start.rounds → length l.logs ≡ m → all_reduced p (length l.values) l.values ≡ true
    → all_reduced p (length l.logs) l.logs ≡ true → verifier_table p b (query.CheckBatch m z x) l ≡ none
unfolding verifier_table
check_free p b m z x l hm hn hz hx hv hl rv rl =
    rw (hm, hn, hz, hx, eq-eqb (length l.values) (3 * b.start.rounds) hv, eq-eqb (length l.logs) m hl, rv, rl)

module _ (p : ℕ) (large : max_weight < p) (prime : Prime p) (odd : p % 2 ≡ 1) where
  -- a verifier of n rounds with these challenges, and values of a vector f with log values whose sum is f's value
  batch-told : (s : Start) → s.rounds ≤ 15 → 0 < s.rounds → (cs : List ℕ) → length cs ≡ s.rounds → (b : VerifierState) (v : Verifier) → Stands p b v
      → b.start ≡ s → b.challenges ≡ cs → (m z x : ℕ) → (leb 1 m && leb m 8) ≡ true → is_nonzero p z ≡ true → is_nonzero p x ≡ true → (f : Vector) (l : Shown)
      → l.values ≡ opening_of p s.rounds (at cs) f x → length l.logs ≡ m → ((k : ℕ) → k < m → at l.logs k < p)
      → evaluate p (length l.logs) (at l.logs) z ≡ evaluate p (2 ^ s.rounds) f x → (ask p v (query.CheckBatch m z x) l).told ≡ answered (finds yes)
  batch-told s few some cs listed b v st es ec m z x hm hz hx f l values own below sums =
      let c : Carries s cs (length b.items) v = rw (es, ec) at st.carries in
      let opened : List ℕ = opening_of p s.rounds (at cs) f x in
      ap (λ (o : Spoken). o.told)
      (asks p b v st (query.CheckBatch m z x) l
      ∙ ap (λ t. settled_heard v t (answers p v (query.CheckBatch m z x) l))
      (check_free p b m z x l hm (ap (λ st. ltb 0 st.rounds) es ∙ lt-ltb 0 s.rounds some) hz hx
      (ap length values ∙ triples_length (triple p s.rounds (at cs) f x) 0 s.rounds ∙ ap (λ st. 3 * st.rounds) (sym es)) own
      (ap (λ xs. all_reduced p (length xs) xs) values ∙ sym (reduced_all p _ opened (λ k h. values-below p (omega arith) s.rounds (at cs) f x k)))
      (sym (reduced_all p _ l.logs (λ k h. below k (omega (arith, own)))))))
      ∙ ap (λ xs. answered (finds (batch_finds p v z x xs l.logs))) values
      ∙ ap (λ d. answered (finds d)) (batch-holds p prime odd s few some cs listed (length b.items) v c z x hx f l.logs sums)

  module _ (m : ℕ) (logs : List (List ℕ)) (z : ℕ) (cs : List ℕ) (free : batch_rows p m logs z cs ≡ none) where
    abbrev T : Trip
    T = batch_trip p z m logs

    pub batch-checked : (through : Bool) (f g : List ℕ) (ms : List Made)
        → (let w : World = openings_world T.start cs f g in
        AllKept p through T w ms → (s : Start) → Startable s → s.rounds ≡ T.start.rounds → (qs : List Posed)
        → BatchChecked p T w ms z m logs (after (hears_on p) (fresh_hearing s cs) qs))
    batch-checked through f g ms kept s h same qs x values gave own listed each file =
        let b = batch-free p m logs z cs free in
        let o = b.opens in
        let n : ℕ = T.start.rounds in
        let whole : Whole T = batch-whole p z m logs o.start.least o.start.most in
        let w : World = openings_world T.start cs f g in
        let takes = batch-takes p large T.start cs o f g ms in
        let hit = hit_somewhere p large through T whole.items cs _ _ w (opens-going p large through T whole.items cs o f g) ms kept takes gave in
        let opened = opening_of_lem p large through T whole.items cs x values hit.0 (sym hit.1 ∙ hit_replies p large through T whole.items cs _ hit.0) in
        let ok = both (is_nonzero p x) (ltb 0 n) (begun-pointed p large T.start (openings cs) o f g ms x _ gave) in
        let st = stands-still p s cs h qs in
        let few : n ≤ 15 = omega (arith, o.start.rounds, rounds-at-most (most_items logs m) o.start.most) in
        batch-told s (omega (arith, few, same)) (subst (λ k. 0 < k) (sym same) o.rounds) cs (o.listed ∙ sym same) _ _ st.0 st.1 st.2 m z x b.counted b.base ok.0
        (vector_f p T) (record { file = file; values = take (3 * n) values; logs = own }) (first-half n values opened ∙ ap (λ k. opening_of p k (at cs) (vector_f p T) x) (sym same)) listed
        (λ k less. rw (own_value logs p z m x b.good b.same own listed each k less) (residue-below p (omega arith) _))
        (own-sum logs p z m x b.good b.same own listed each
        ∙ ap (λ v. evaluate p (2 ^ n) v x) (sym (batch-vector-f p z m logs o.start.least o.start.most))
        ∙ ap (λ k. evaluate p (2 ^ k) (vector_f p T) x) (sym same))
      where
        first-half : (n : ℕ) (xs : List ℕ) → take (6 * n) xs ≡ opening p n (at cs) (vector_f p T) (vector_g p T) x → take (3 * n) xs ≡ opening_of p n (at cs) (vector_f p T) x
        first-half n xs e =
            let fs : List ℕ = opening_of p n (at cs) (vector_f p T) x in
            sym (take-take (3 * n) (6 * n) xs (omega arith))
            ∙ ap (take (3 * n)) e
            ∙ ap (λ k. take k (fs ++ opening_of p n (at cs) (vector_g p T) x)) (sym (triples_length (triple p n (at cs) (vector_f p T) x) 0 n))
            ∙ take-append_seam fs _
