-- BATCHES: their trip is one that a run takes whole, their openings are the same in every mode, and a batch of one opens as its log does.
use mathlib.Core.Path.{◌≡◌, refl, sym, ap, ap₂, ◌∙◌}
use mathlib.Core.Bool.{Bool, true, true≢false}
use mathlib.Core.List.{List, [], ◌∷◌, ◌++◌}
use mathlib.Core.Option.{none}
use Prim.Native.Nat.{ℕ, ◌%◌, ◌^◌, ◌≤◌, ◌<◌, max}
use native.Mathlib.Omega.{arith}
use Rattle.algebra.specs.Prime.{Prime}
use Rattle.refusal.specs.Limit.{max_weight}
use Rattle.refusal.specs.Number as number
use Rattle.refusal.specs.Outcome.{answered, require}
use Rattle.field.specs.Number.{is_nonzero}
use Rattle.vector.specs.Vector.{padded}
use Rattle.vector.specs.Rounds.{rounds_of}
use Rattle.vector.specs.Opening.{evaluate, opening_of}
use Rattle.vector.proofs.Horner.{evaluate-same}
use Rattle.item.specs.declared.Given.TheVariants.{Reading}
use Rattle.item.specs.Item.{contributes, reading_number}
use Rattle.wire.specs.Header.{version_of}
use Rattle.wire.specs.declared.log.Head.{Head}
use Rattle.wire.specs.Log.{log_count, reading_of, weight_of, read_log}
use Rattle.wire.proofs.LogSays.{GoodLog, items-found}
use Rattle.runs.specs.Trip.{Trip, vector_f}
use Rattle.runs.proofs.CloseLaws.{residue-below}
use Rattle.r1cs.proofs.RuleTotals.{padded-same}
use Rattle.batch.specs.Batch.{number_of, readings_of, combined, most_items, log_value}
use Rattle.batch.proofs.Laws.{log-good, log-counted, reading-beyond, padded-self, combined-one, log-read}
use Rattle.calls.specs.Lists.{after}
use Rattle.calls.specs.Step.{is_answered}
use Rattle.calls.specs.World.{Made, World, came, onward}
use Rattle.calls.specs.Meaning.{question}
use Rattle.calls.specs.Given.{reply_of}
use Rattle.calls.specs.Proper.{Valid}
use Rattle.calls.specs.Starts.{Opens, batch_rows}
use Rattle.calls.specs.Begins.{openings, openings_world}
use Rattle.calls.specs.BatchTrip.{batch_trip, log_trip}
use Rattle.calls.specs.Demand3.{AllKept}
use Rattle.calls.proofs.RuleTrips.{items_at}
use Rattle.calls.proofs.BatchTrips.{batch-whole, batch-vector-f, item-at}
use Rattle.calls.proofs.BatchTakes.{batch-challenges}
use Rattle.calls.proofs.StartRows.{batch-free}
use Rattle.calls.proofs.Demand3.{demand3}

-- A TRIP THAT A RUN TAKES WHOLE: so `proper_batch` speaks of every batch whose start is answered
module _ (p : ℕ) (large : max_weight < p) (m : ℕ) (logs : List (List ℕ)) (z : ℕ) (cs : List ℕ) (free : batch_rows p m logs z cs ≡ none) where
  abbrev T : Trip
  T = batch_trip p z m logs

  opens : Opens T.start cs
  opens = (batch-free p m logs z cs free).opens

  combined-below : (i : ℕ) → combined p z m logs i < p
  unfolding combined
  combined-below i = residue-below p (omega arith) _

  pub batch-valid : Valid p T
  batch-valid =
      let o = opens in
      record {
        whole = batch-whole p z m logs o.start.least o.start.most;
        items = λ i less.
            rw (item-at p z m logs o.start.least o.start.most i less) (refl, combined-below i, (let some : 0 < p = omega arith in some));
        total = λ plain. absurd (true≢false (sym plain));
      }

  -- EQUAL OPENINGS, an instance of demand 3's `alike`: two lists of the batch, in any mode and with any change; where the same is asked,
  -- the same is answered
  pub batch-alike : Prime p → p % 2 ≡ 1 → p ≤ 2 ^ 32 → (th th' : Bool) (f g f' g' : List ℕ) (ms ns : List Made) (a b : Made)
      → (let w : World = openings_world T.start cs f g in
      let v : World = openings_world T.start cs f' g' in
      let x : World = after (onward p) w ms in
      let y : World = after (onward p) v ns in
      AllKept p th T w (ms ++ a ∷ []) → AllKept p th' T v (ns ++ b ∷ [])
      → question x.state a.call ≡ question y.state b.call → is_answered (came p x a).answer ≡ true
      → is_answered (came p y b).answer ≡ true → reply_of (came p x a) ≡ reply_of (came p y b))
  batch-alike prime odd word th th' f g f' g' ms ns a b kept kept' =
      (demand3 p large prime odd word).alike T batch-valid.whole (openings cs) (openings cs) opens opens th th' f g f' g' ms ns a b kept kept'
      (batch-challenges p large T.start cs opens f g ms a ∙ sym (batch-challenges p large T.start cs opens f' g' ns b))

-- A BATCH OF ONE, of a good log: its vector is f of the log's own plain run, and so are its values
module _ (p z : ℕ) (log : List ℕ) (rest : List (List ℕ)) (head : Head) (good : read_log log ≡ answered head) where
  abbrev logs : List (List ℕ)
  logs = log ∷ rest

  counted : GoodLog log head
  counted = log-good log head good

  one-most : most_items logs 1 ≡ log_count log
  unfolding most_items
  one-most = let e : max 0 (log_count log) ≡ log_count log = omega arith in e

  reading-at : (i : ℕ) → i < log_count log → readings_of p log i ≡ reading_number p (version_of log) (reading_of log i)
  reading-at i less = ap (number_of p (version_of log)) (items-found log head counted i less)

  one-vector : vector_f p (log_trip log) ≡ padded (log_count log) (readings_of p log)
  one-vector =
      padded-same (log_count log) _ (readings_of p log)
      (λ i less.
      ap (λ x. (contributes p (log_trip log).start x).f)
      (items_at (λ i. Reading (reading_of log i) (weight_of log i)) (log_count log) i less)
      ∙ sym (reading-at i less))

  one-combined : padded (most_items logs 1) (combined p z 1 logs) ≡ padded (log_count log) (readings_of p log)
  one-combined =
      ap (λ n. padded n (combined p z 1 logs)) one-most
      ∙ padded-same (log_count log) (combined p z 1 logs) (readings_of p log) (λ i less. combined-one p z log rest i)

  pub one_same : vector_f p (batch_trip p z 1 logs) ≡ vector_f p (log_trip log)
  one_same =
      let f = counted.frame in
      let e = one-most in
      batch-vector-f p z 1 logs (omega (arith, f.least)) (omega (arith, f.most)) ∙ one-combined ∙ sym one-vector

  one-rounds : rounds_of (most_items logs 1) ≡ rounds_of (log_count log)
  one-rounds = ap rounds_of one-most

  -- "A batch of one equals the single opening's values for f"
  pub batch-one : (c : ℕ → ℕ) (b : ℕ)
      → opening_of p (batch_trip p z 1 logs).start.rounds c (vector_f p (batch_trip p z 1 logs)) b
      ≡ opening_of p (log_trip log).start.rounds c (vector_f p (log_trip log)) b
  batch-one c b = ap₂ (λ n v. opening_of p n c v b) one-rounds one_same

  -- and the log's value is the first of them
  pub batch-one-value : (b : ℕ) → is_nonzero p b ≡ true
      → log_value p log b ≡ answered (evaluate p (2 ^ (log_trip log).start.rounds) (vector_f p (log_trip log)) b)
  batch-one-value b ok =
      log-read p log b head good
      ∙ ap (λ t. require t number.argument (answered (evaluate p (2 ^ rounds_of head.count) (readings_of p log) b))) ok
      ∙ ap (λ n. answered (evaluate p (2 ^ rounds_of n) (readings_of p log) b)) (sym (log-counted counted))
      ∙ ap answered (evaluate-same p _ (readings_of p log) (padded (log_count log) (readings_of p log)) b
      (λ i less. padded-self (log_count log) (readings_of p log) (λ i l. reading-beyond p log (log_count log) i counted.frame.size l) i))
      ∙ ap (λ v. answered (evaluate p (2 ^ rounds_of (log_count log)) v b)) (sym one-vector)
