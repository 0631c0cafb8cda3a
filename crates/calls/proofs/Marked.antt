-- Document 02, (d): a marked item in the vectors, and "A log of nothing but marks has total 0 and is provable".
use mathlib.Core.Path.{◌≡◌, refl, ap, ap₂, ◌∙◌}
use mathlib.Core.Bool.{Bool, true, cond}
use mathlib.Core.List.{List, [], ◌∷◌, ◌++◌}
use Prim.Native.Nat.{ℕ, suc, ◌%◌, ◌^◌, ◌≤◌, ◌<◌}
use native.Mathlib.Omega.{arith}
use lib.IntN.{pos, ◌+ℤ◌}
use lib.ListN.{length, get_or, take}
use borrow.Author.Tests.{le-leb, lt-ltb}
use Rattle.refusal.specs.Limit.{max_weight}
use Rattle.refusal.specs.Outcome.{answered}
use Rattle.algebra.specs.Prime.{Prime}
use Rattle.algebra.specs.Mod.{mul_mod}
use Rattle.field.specs.Total.{limit, in_limits}
use Rattle.vector.specs.Vector.{at, weight}
use Rattle.wire.specs.Header.{version_of}
use Rattle.wire.specs.declared.log.Head.{Head}
use Rattle.wire.specs.Log.{log_count, reading_of, weight_of, read_log}
use Rattle.wire.specs.Proof.{proof_size}
use Rattle.item.specs.declared.Given.{Given}
use Rattle.item.specs.declared.Given.TheVariants.{Reading, Numbers}
use Rattle.item.specs.declared.Start.{Start}
use Rattle.item.specs.Mark.{is_mark}
use Rattle.item.specs.Item.{contributes}
use Rattle.item.proofs.Marks.{mark_fits, marked-contributes}
use Rattle.runs.specs.Trip.{Trip, trip_item, vector_f, sum_of, total_of}
use Rattle.batch.proofs.Laws.{log-good}
use Rattle.calls.specs.declared.Call.{Call}
use Rattle.calls.specs.Step.{Lent}
use Rattle.calls.specs.Lists.{after}
use Rattle.calls.specs.World.{Made, World, fresh_world, came, onward}
use Rattle.calls.specs.QueryState.{Hearing, fresh_hearing}
use Rattle.calls.specs.Starts.{Whole}
use Rattle.calls.specs.Proper.{ItemFits, Valid, Brings, proper_run}
use Rattle.calls.specs.Carried.{by_messages, by_file, writes_proof}
use Rattle.calls.specs.WholeList.{whole_by_messages, whole_by_file}
use Rattle.calls.specs.BatchTrip.{log_trip}
use Rattle.calls.specs.Demand3.{AllProper, AllAgreed}
use Rattle.calls.proofs.RuleTrips.{items-length, items_at}
use Rattle.calls.proofs.Demand3.{demand3}

-- a marked item within the limit of its weight
abbrev pub Marked : ℕ → Given → Type 0
Marked version (Reading r w) = (is_mark version r ≡ true) × (w ≤ max_weight)
Marked version (Numbers a b) = ⊥

contributes-nothing : (p : ℕ) (s : Start) (x : Given) → Marked s.version x → ((contributes p s x).f ≡ 0) × ((contributes p s x).worth ≡ pos 0)
contributes-nothing p s (Reading r w) m = let e = marked-contributes p s r w m.0 in (ap (λ y. y.f) e, ap (λ y. y.worth) e)
contributes-nothing p s (Numbers a b) m = absurd m

-- "Such an item enters f as 0": so is it in fold 0 that a host lends
pub mark_enters : (p : ℕ) (T : Trip) (i : ℕ) → T.start.plain ≡ true → i < T.start.items → Marked T.start.version (trip_item T i)
    → vector_f p T i ≡ 0
mark_enters p T i plain less m =
    let x = (contributes p T.start (trip_item T i)).f in
    ap₂ (λ b t. cond b (cond t x (mul_mod p x (weight p (at T.start.twists) T.start.rounds i))) 0) (lt-ltb i T.start.items less) plain
    ∙ (contributes-nothing p T.start (trip_item T i) m).0

-- A TRIP OF NOTHING BUT MARKS
pub record AllMarked (T : Trip) : Type 0 where
  pub whole : Whole T
  pub plain : T.start.plain ≡ true
  pub items : (i : ℕ) → i < T.start.items → Marked T.start.version (trip_item T i)

-- such as that of a good log whose readings are all the mark
pub log-marked : (log : List ℕ) (head : Head) → read_log log ≡ answered head
    → ((i : ℕ) → i < log_count log → is_mark (version_of log) (reading_of log i) ≡ true) → AllMarked (log_trip log)
log-marked log head good marks =
    let g = log-good log head good in
    let x : ℕ → Given = λ i. Reading (reading_of log i) (weight_of log i) in
    record {
      whole = record {
        start = record { version = g.frame.version; least = g.frame.least; most = g.frame.most; rounds = refl };
        items = items-length x 0 (log_count log);
      };
      plain = refl;
      items = λ i less. rw (items_at x (log_count log) i less) (marks i less, (g.items i less).light);
    }

sum-zero : (s : Start) (xs : List Given) → ((i : ℕ) → i < length xs → Marked s.version (get_or xs i (Numbers 0 0))) → sum_of s xs ≡ pos 0
unfolding sum_of
sum-zero s [] h = refl
sum-zero s (x ∷ xs) h =
    ap₂ ◌+ℤ◌ (sum-zero s xs (λ i l. h (suc i) (omega arith))) (contributes-nothing 0 s x (h 0 (omega arith))).1

module _ (T : Trip) (all : AllMarked T) where
  -- ITS TOTAL IS 0
  pub marked-total : total_of T ≡ pos 0
  marked-total = sum-zero T.start T.items (λ i l. all.items i (omega (arith, all.whole.items)))

  -- A RUN TAKES IT WHOLE
  pub marked-valid : (p : ℕ) → Valid p T
  unfolding in_limits
  marked-valid p =
      record {
        whole = all.whole;
        items = λ i less. fits (trip_item T i) (all.items i less);
        total = λ plain. ap (in_limits p) marked-total ∙ le-leb 0 (limit p) (omega arith);
      }
    where
      fits : (x : Given) → Marked T.start.version x → ItemFits p T.start x
      fits (Reading r w) m = (all.plain, mark_fits T.start.version r m.0, m.1)
      fits (Numbers a b) m = absurd m

  -- AND IT IS PROVABLE: its proper run is answered whichever of its steps are made in full mode, and its verifier says yes throughout, by
  -- messages and by the proof file
  module _ (p : ℕ) (large : max_weight < p) (prime : Prime p) (odd : p % 2 ≡ 1) (word : p ≤ 2 ^ 32) (full : ℕ → Bool) (cs bs : List ℕ)
      (idle : Call → ℕ → Lent) (brings : Brings p T full cs bs idle) (f g : List ℕ) where
    abbrev begin : World
    begin = fresh_world T.start f g

    abbrev run : List Made
    run = proper_run p T full cs bs idle f g

    abbrev listens : Hearing
    listens = fresh_hearing T.start cs

    pub marked-proper : AllProper p cs T begin run
    marked-proper = (demand3 p large prime odd word).proper T (marked-valid p) full cs bs idle brings f g

    pub marked-accepted : (by_messages p T begin run ≡ whole_by_messages p T cs bs) × AllAgreed p listens (by_messages p T begin run)
    marked-accepted = let v = (demand3 p large prime odd word).verifier_proper T (marked-valid p) full cs bs idle brings f g in (v.0, v.1)

    pub marked-file-accepted : (m : Lent) → proof_size T.start.rounds ≤ length m.file
        → (let file : List ℕ = take (proof_size T.start.rounds) (came p (after (onward p) begin run) (writes_proof m)).lent.file in
        AllProper p cs T begin (run ++ writes_proof m ∷ [])
        × (by_file p T begin run file ≡ whole_by_file p T cs bs)
        × AllAgreed p listens (by_file p T begin run file))
    marked-file-accepted m room =
        let v = ((demand3 p large prime odd word).verifier_proper T (marked-valid p) full cs bs idle brings f g).3 all.plain m room in
        (v.0, v.1, v.2)
