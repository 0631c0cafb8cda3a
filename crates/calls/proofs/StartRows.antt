-- THE STARTS: the checks of each are the rows of its table, and an answered one gives a record that a list begins with.
use mathlib.Core.Path.{◌≡◌, refl, sym, ap, subst, ◌∙◌}
use mathlib.Core.Bool.{Bool, true, false, ◌&&◌, ◌||◌}
use mathlib.Core.List.{List}
use mathlib.Core.Logic.{⊎_elim}
use mathlib.Core.Option.{Option, none}
use Prim.Native.Nat.{ℕ, zero, suc, ◌+◌, ◌^◌, ◌≤◌, ◌<◌}
use native.Mathlib.Nat.{eq-or-lt_of_le}
use native.Mathlib.Omega.{arith}
use lib.Dec.{eqb, leb, ltb}
use lib.ListN.{length}
use lib.Pow.{pow_pos, pow_mono}
use borrow.Author.Tests.{leb-true, ltb-true, eqb-true}
use Rattle.refusal.specs.Outcome.{Outcome, answered, refused, refused_at, require, require_all, and_then}
use Rattle.wire.specs.declared.log.Head.{Head}
use Rattle.wire.specs.Log.{read_log}
use Rattle.vector.specs.Rounds.{rounds_of}
use Rattle.vector.specs.Slice.{is_nonzero, all_nonzero}
use Rattle.vector.proofs.Rounds.{rounds_power}
use Rattle.prover.specs.Start as prover
use Rattle.verifier.specs.Starts as verifier
use Rattle.item.specs.declared.Start.{Start}
use Rattle.item.specs.Start.{version_kept, plain_start, twisted_start, untwisted_start, rule_start}
use Rattle.batch.specs.Batch.{log_at, most_items, same_rounds, require_log, read_logs, begins, start_batch}
use Rattle.batch.proofs.Together.{IsGood, AllGood, most-counted}
use Rattle.calls.specs.Table.{Refusal, row}
use Rattle.calls.specs.Starts.{Startable, Opens, version_row, count_row, list_row, rule_rows, openings_rows, file_row, log_rows, batch_rows, Decided, StartsRun, StartsVerifier, StartsOpenings, Starts}
use Rattle.calls.proofs.Steps.{some_none}
use Rattle.calls.proofs.Turns.{both}

start-row : {A : Type 0} (x : A) (Holds : Type 0) (b : Bool) (k : ℕ) (rest : Outcome A) (t : Option Refusal) → (b ≡ true → Decided t x Holds rest)
    → Decided (row b k t) x Holds (require b k rest)
start-row x Holds true k rest t f = f refl
start-row x Holds false k rest t f = (refl, λ e. absurd (some_none e))

-- the files in order, then what follows where each is good
files_row : {A : Type 0} (y : A) (Holds : Type 0) (logs : List (List ℕ)) (x : ℕ × Bool) (f : ℕ × Bool → Outcome A) (t : Option Refusal) (m k : ℕ)
    → (((j : ℕ) → k ≤ j → j < k + m → IsGood logs j) → Decided t y Holds (f x))
    → Decided (log_rows logs k m t) y Holds (and_then (require_all (require_log logs) k m (answered x)) f)
unfolding log_rows require_all
files_row y Holds logs x f t zero k h = h (λ j a b. absurd (omega arith))
files_row {A} y Holds logs x f t (suc m) k h = by (read_log (log_at logs k)) refl (λ further. files_row y Holds logs x f t m (suc k) further)
  where
    by : (o : Outcome Head) → read_log (log_at logs k) ≡ o
        → ((((j : ℕ) → suc k ≤ j → j < suc k + m → IsGood logs j) → Decided t y Holds (f x))
        → Decided (log_rows logs (suc k) m t) y Holds (and_then (require_all (require_log logs) (suc k) m (answered x)) f))
        → Decided (file_row o (log_rows logs (suc k) m t)) y Holds
        (and_then (and_then o (λ head. require_all (require_log logs) (suc k) m (answered x))) f)
    by (answered n) e rest =
        rest
        (λ good.
        h (λ j a b.
        ⊎_elim {C = IsGood logs j} (λ (q : k ≡ j). subst (IsGood logs) q (n, e)) (λ (l : k < j). good j (omega arith) (omega arith)) (eq-or-lt_of_le a)))
    by (refused n) e rest = (refl, λ free. absurd (some_none free))
    by (refused_at n i) e rest = (refl, λ free. absurd (some_none free))

-- WHAT A START OF A BATCH THAT THE TABLE LETS THROUGH SAYS
pub record BatchFree (p m : ℕ) (logs : List (List ℕ)) (z : ℕ) (cs : List ℕ) : Type 0 where
  pub counted : (leb 1 m && leb m 8) ≡ true
  pub good : AllGood logs m
  pub same : same_rounds logs m ≡ true
  pub base : is_nonzero p z ≡ true
  pub opens : Opens (untwisted_start (most_items logs m)) cs

-- L in its limits, n of it, and the version
of_count : (items : ℕ) (s : Start) → version_kept s.plain s.version ≡ true → (leb 1 items && leb items 32768) ≡ true → s.items ≡ items
    → s.rounds ≡ rounds_of items → Startable s
of_count items s v e ei er =
    let q = both (leb 1 items) (leb items 32768) e in
    record { version = v; least = rw ei (leb-true 1 items q.0); most = rw ei (leb-true items 32768 q.1); rounds = er ∙ ap rounds_of (sym ei) }

of_rule : (p n v : ℕ) → leb n 15 ≡ true → Startable (rule_start p n v)
of_rule p n v e =
    let few = leb-true n 15 e in
    let most : 2 ^ n ≤ 2 ^ 15 = pow_mono few in
    record { version = refl; least = pow_pos n; most = most; rounds = sym (rounds_power n few) }

length_of : (p n : ℕ) (xs : List ℕ) → (eqb (length xs) n && all_nonzero p n xs) ≡ true → length xs ≡ n
length_of p n xs e = eqb-true (length xs) n (both (eqb (length xs) n) (all_nonzero p n xs) e).0

module _ (p : ℕ) where
  plain_rows : (items version : ℕ)
      → StartsRun (version_row version (count_row items none)) (plain_start items version) (prover.start_plain items version)
  unfolding prover.start_plain
  plain_rows items version =
      start-row _ _ (eqb version 1 || eqb version 2) 2 _ _ (λ known.
      start-row _ _ _ 3 _ none (λ e. (refl, λ free. of_count items (plain_start items version) known e refl refl)))

  twisted-rows : (items : ℕ) (twists : List ℕ) → StartsRun (count_row items (list_row p (rounds_of items) twists none)) (twisted_start items twists) (prover.start_twisted p items twists)
  unfolding prover.start_twisted
  twisted-rows items twists =
      start-row _ _ _ 3 _ _ (λ e.
      start-row _ _ (eqb (length twists) (rounds_of items) && all_nonzero p (rounds_of items) twists) 6 _ none (λ f. (refl, λ free. of_count items (twisted_start items twists) refl e refl refl)))

  rule-rows : (n v : ℕ) → StartsRun (rule_rows p n v none) (rule_start p n v) (prover.start_rule p n v)
  unfolding prover.start_rule
  rule-rows n v = start-row _ _ _ 3 _ _ (λ e. start-row _ _ (is_nonzero p v) 6 _ none (λ f. (refl, λ free. of_rule p n v e)))

  -- a batch's run, where its L is in its limits
  opened_rows : (items : ℕ) (cs : List ℕ) → (leb 1 items && leb items 32768) ≡ true → ltb 0 (rounds_of items) ≡ true
      → StartsOpenings (list_row p (rounds_of items) cs none) (untwisted_start items) cs
      (require (eqb (length cs) (rounds_of items) && all_nonzero p (rounds_of items) cs) 6 (answered (prover.started (prover.openings_run (untwisted_start items) cs))))
  opened_rows items cs e some =
      start-row _ _ (eqb (length cs) (rounds_of items) && all_nonzero p (rounds_of items) cs) 6 _ none
      (λ f. (
        refl,
        λ free. record {
          start = of_count items (untwisted_start items) refl e refl refl;
          numbers = refl;
          rounds = ltb-true 0 (rounds_of items) some;
          listed = length_of p (rounds_of items) cs f;
        },
      ))

  openings-rows : (items : ℕ) (cs : List ℕ) → StartsOpenings (openings_rows p items cs) (untwisted_start items) cs (prover.start_openings p items cs)
  unfolding prover.start_openings
  openings-rows items cs =
      start-row _ _ (leb 1 items && leb items 32768) 3 _ _ (λ e.
      start-row _ _ (ltb 0 (rounds_of items)) 10 _ _ (λ some. opened_rows items cs e some))

  -- of good logs 3 never comes
  batch-opened : (items : ℕ) (cs : List ℕ) → (leb 1 items && leb items 32768) ≡ true → ltb 0 (rounds_of items) ≡ true
      → StartsOpenings (list_row p (rounds_of items) cs none) (untwisted_start items) cs (prover.start_openings p items cs)
  unfolding prover.start_openings
  batch-opened items cs e some = rw (e, some) (opened_rows items cs e some)

  module _ (m : ℕ) (logs : List (List ℕ)) (z : ℕ) (cs : List ℕ) where
    abbrev most : ℕ
    most = most_items logs m

    batch-decided : Decided (batch_rows p m logs z cs) (prover.started (prover.openings_run (untwisted_start most) cs)) (BatchFree p m logs z cs) (start_batch p m logs z cs)
    unfolding start_batch read_logs
    batch-decided =
        start-row _ _ (leb 1 m && leb m 8) 17 _ _ (λ counted.
        files_row _ _ logs (most, same_rounds logs m) (λ all. begins p all.0 all.1 z cs) _ m 0 (λ good.
        start-row _ _ (same_rounds logs m) 17 _ _ (λ same.
        start-row _ _ (ltb 0 (rounds_of most)) 10 _ _ (λ some.
        start-row _ _ (is_nonzero p z) 6 _ _ (λ base.
        let all : AllGood logs m = λ k less. good k (omega arith) (omega arith) in
        let o = batch-opened most cs (most-counted logs m (leb-true 1 m (both (leb 1 m) (leb m 8) counted).0) all) some in
        (o.0, λ free. record { counted = counted; good = all; same = same; base = base; opens = o.1 free }))))))

    pub batch-free : batch_rows p m logs z cs ≡ none → BatchFree p m logs z cs
    batch-free = batch-decided.1

    batch-rows : StartsOpenings (batch_rows p m logs z cs) (untwisted_start most) cs (start_batch p m logs z cs)
    batch-rows = (batch-decided.0, λ free. (batch-free free).opens)

  verifier-plain : (items version : ℕ) (cs : List ℕ)
      → StartsVerifier (version_row version (count_row items (list_row p (rounds_of items) cs none))) (plain_start items version) cs (verifier.start_plain p items version cs)
  unfolding verifier.start_plain
  verifier-plain items version cs =
      start-row _ _ (eqb version 1 || eqb version 2) 2 _ _ (λ known.
      start-row _ _ _ 3 _ _ (λ e.
      start-row _ _ (eqb (length cs) (rounds_of items) && all_nonzero p (rounds_of items) cs) 6 _ none (λ f.
      (refl, λ free. (of_count items (plain_start items version) known e refl refl, length_of p (rounds_of items) cs f)))))

  verifier-twisted : (items : ℕ) (twists cs : List ℕ)
      → StartsVerifier (count_row items (list_row p (rounds_of items) twists (list_row p (rounds_of items) cs none))) (twisted_start items twists) cs (verifier.start_twisted p items twists cs)
  unfolding verifier.start_twisted
  verifier-twisted items twists cs =
      start-row _ _ _ 3 _ _ (λ e.
      start-row _ _ (eqb (length twists) (rounds_of items) && all_nonzero p (rounds_of items) twists) 6 _ _ (λ t.
      start-row _ _ (eqb (length cs) (rounds_of items) && all_nonzero p (rounds_of items) cs) 6 _ none (λ f.
      (refl, λ free. (of_count items (twisted_start items twists) refl e refl refl, length_of p (rounds_of items) cs f)))))

  verifier-rule : (n v : ℕ) (cs : List ℕ) → StartsVerifier (rule_rows p n v (list_row p n cs none)) (rule_start p n v) cs (verifier.start_rule p n v cs)
  unfolding verifier.start_rule
  verifier-rule n v cs =
      start-row _ _ (leb n 15) 3 _ _ (λ e.
      start-row _ _ (is_nonzero p v) 6 _ (list_row p n cs none) (λ o.
      start-row _ _ (eqb (length cs) n && all_nonzero p n cs) 6 _ none (λ f. (refl, λ free. (of_rule p n v e, length_of p n cs f)))))

  pub all-starts : Starts p
  all-starts =
      record {
        plain = plain_rows;
        twisted = twisted-rows;
        rule = rule-rows;
        openings = openings-rows;
        batch = batch-rows;
        verifier_plain = verifier-plain;
        verifier_twisted = verifier-twisted;
        verifier_rule = verifier-rule;
      }
