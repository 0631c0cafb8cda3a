-- The run's proof file reads as the run's total, messages and end values.
use mathlib.Core.Path.{◌≡◌, sym, ap, subst, ◌∙◌}
use mathlib.Core.Bool.{true}
use mathlib.Core.List.{List, [], ◌∷◌, ◌++◌}
use Prim.Native.Nat.{ℕ, zero, suc, ◌+◌, ◌*◌, ◌^◌, ◌≤◌, ◌<◌}
use native.Mathlib.Omega.{arith}
use lib.ListN.{length, get_or, get_or-append}
use lib.Seq.{take_all, get_or-append-add}
use borrow.Author.Tests.{leb-true}
use Rattle.algebra.specs.Mod.{residue}
use Rattle.refusal.specs.Limit.{max_weight}
use Rattle.field.specs.Total.{in_limits}
use Rattle.wire.specs.Proof.{proof_total, proof_number, proof_file}
use Rattle.wire.proofs.ProofSays.{GoodProof}
use Rattle.wire.proofs.RoundTrip.{thirds, Writable, ReadsAs, reads_back, good, messages-same, ends_same}
use Rattle.vector.specs.Vector.{at}
use Rattle.vector.specs.Fold.{end_value}
use Rattle.vector.specs.Message.{Message}
use Rattle.verifier.specs.Claims.{message_of3}
use Rattle.verifier.specs.ProofFile.{file_message}
use Rattle.verifier.proofs.PlainFiles.{Lists}
use Rattle.runs.specs.Trip.{Trip, trip_item, vector_f, vector_g, total_of}
use Rattle.runs.proofs.CloseLaws.{residue-below}
use Rattle.calls.specs.Meaning.{message_at, messages_of, messages_to, proof_of_trip}
use Rattle.calls.proofs.HeardTrip.{Fine, below_suc, end_f_lem, end_g_lem}
use Rattle.calls.proofs.Agrees.{length_messages}

pub record ReadsTrip (p : ℕ) (T : Trip) (cs file : List ℕ) : Type 0 where
  pub total : proof_total file ≡ total_of T
  pub messages : (i : ℕ) → i < T.start.rounds → file_message file i ≡ message_at p T cs i
  pub end_f_lem : proof_number file (3 * T.start.rounds) ≡ end_value p (at cs) T.start.rounds (vector_f p T)
  pub end_g_lem : proof_number file (3 * T.start.rounds + 1) ≡ end_value p (at cs) T.start.rounds (vector_g p T)

module _ (xs : List ℕ) (k : ℕ) (long : length xs ≡ 3 * k) (even cross odd : ℕ) where
  abbrev three : List ℕ
  three = even ∷ cross ∷ odd ∷ []

  earlier : (i : ℕ) → i < 3 * k → get_or (xs ++ three) i 0 ≡ get_or xs i 0
  earlier i h = get_or-append xs three 0 i (omega arith)

  added : (j : ℕ) → get_or (xs ++ three) (3 * k + j) 0 ≡ get_or three j 0
  added j = ap (λ n. get_or (xs ++ three) (n + j) 0) (sym long) ∙ get_or-append-add xs three j 0

  first-added : get_or (xs ++ three) (3 * k) 0 ≡ even
  first-added = let e : 3 * k ≡ 3 * k + 0 = omega arith in ap (λ n. get_or (xs ++ three) n 0) e ∙ added 0

same_message : {a b c : ℕ} {m : Message} → a ≡ m.even → b ≡ m.cross → c ≡ m.odd → message_of3 a b c ≡ m
same_message {m = m} x y z = rw (x, y, z)

module _ (p : ℕ) (T : Trip) (cs : List ℕ) where
  lists_messages : (k : ℕ) → Lists k (message_at p T cs) (messages_to p T cs k)
  unfolding messages_of
  lists_messages zero r h = absurd (omega arith)
  lists_messages (suc k) r h =
      let xs = messages_to p T cs k in
      let m = message_at p T cs k in
      let long = length_messages p T cs k in
      below_suc
      (λ r.
      (get_or (messages_to p T cs (suc k)) (3 * r) 0 ≡ (message_at p T cs r).even)
      × (get_or (messages_to p T cs (suc k)) (3 * r + 1) 0 ≡ (message_at p T cs r).cross)
      × (get_or (messages_to p T cs (suc k)) (3 * r + 2) 0 ≡ (message_at p T cs r).odd))
      k
      (λ r l. (
        earlier xs k long m.even m.cross m.odd (3 * r) (omega arith) ∙ (lists_messages k r l).0,
        earlier xs k long m.even m.cross m.odd (3 * r + 1) (omega arith) ∙ (lists_messages k r l).1,
        earlier xs k long m.even m.cross m.odd (3 * r + 2) (omega arith) ∙ (lists_messages k r l).2,
      )) (
        first-added xs k long m.even m.cross m.odd,
        added xs k long m.even m.cross m.odd 1,
        added xs k long m.even m.cross m.odd 2,
      )
      r h

  module _ (large : max_weight < p) (word : p ≤ 2 ^ 32) (few : T.start.rounds ≤ 15) (enough : T.start.items ≤ 2 ^ T.start.rounds)
      (listed : length cs ≡ T.start.rounds) (fine : (i : ℕ) → i < T.start.items → Fine p T.start.plain (trip_item T i))
      (limits : in_limits p (total_of T) ≡ true) where
    abbrev n : ℕ
    n = T.start.rounds

    abbrev ms : List ℕ
    ms = messages_to p T cs n

    abbrev end_f : ℕ
    end_f = end_value p (at cs) n (vector_f p T)

    abbrev end_g : ℕ
    end_g = end_value p (at cs) n (vector_g p T)

    below : (a : ℕ) → residue p a < p
    below = residue-below p (omega arith)

    numbers-below : (k : ℕ) → k < 3 * n → get_or ms k 0 < p
    numbers-below =
        thirds (λ k. get_or ms k 0 < p) n λ r h.
        let x = lists_messages n r h in
        (rw x.0 (below _), rw x.1 (below _), rw x.2 (below _))

    writable : Writable p n (total_of T) ms end_f end_g
    unfolding in_limits
    writable =
        record {
          fits = word;
          most = few;
          limits = leb-true _ _ limits;
          room = omega (arith, length_messages p T cs n);
          messages = numbers-below;
          end_f_lem = subst (λ x. x < p) (end_f_lem p large T enough fine few cs listed) (below _);
          end_g_lem = subst (λ x. x < p) (end_g_lem p large T enough fine few cs listed) (below _);
        }

    reads : ReadsAs p (proof_of_trip p T cs) n (total_of T) ms end_f end_g
    reads =
        subst (λ xs. ReadsAs p (proof_file n (total_of T) (xs ++ end_f ∷ end_g ∷ [])) n (total_of T) ms end_f end_g)
        (take_all (3 * n) ms (omega (arith, length_messages p T cs n))) (reads_back p n (total_of T) ms end_f end_g writable)

    pub file-good : GoodProof p (proof_of_trip p T cs) (record { rounds = n; total = total_of T })
    file-good = good p (proof_of_trip p T cs) n (total_of T) ms end_f end_g reads

    pub file-reads : ReadsTrip p T cs (proof_of_trip p T cs)
    file-reads =
        let file = proof_of_trip p T cs in
        let ends = ends_same p file n (total_of T) ms end_f end_g reads in
        record {
          total = file-good.total;
          messages = λ i h.
              let e = messages-same p file n (total_of T) ms end_f end_g reads i h in
              let x = lists_messages n i h in
              same_message (e.0 ∙ x.0) (e.1 ∙ x.1) (e.2 ∙ x.2);
          end_f_lem = ends.0;
          end_g_lem = ends.1;
        }
