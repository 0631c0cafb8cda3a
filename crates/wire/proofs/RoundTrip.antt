-- What is written reads back, and a file that reads well is the file written from what was read.
use Rattle.std.specs.Prelude.{Some}
use mathlib.Core.Path.{◌≡◌, refl, sym, ap, subst, ◌∙◌}
use mathlib.Core.Logic.{⊎_elim}
use mathlib.Core.List.{List, [], ◌∷◌, ◌++◌}
use Prim.Native.Nat.{ℕ, zero, suc, ◌+◌, ◌*◌, ◌/◌, ◌%◌, ◌^◌, ◌≤◌, ◌<◌}
use native.Mathlib.Nat.{add-zero, eq-or-lt_of_le}
use native.Mathlib.Numerals.{unary_clauses}
use native.Mathlib.Omega.{arith}
use lib.ListN.{length, get_or, take, drop, length-drop, get_or-append}
use lib.Seq.{drop-cons, drop-append-add, drop-drop, take_at, length-take-le, get_or-take, get_or-append-add}
use lib.IntN.{ℤ, nat_abs}
use borrow.Author.Tests.{le-leb, lt-ltb}
use Rattle.refusal.specs.Limit.{max_rounds}
use Rattle.refusal.specs.Outcome.{answered}
use Rattle.field.specs.Total.{limit, in_limits}
use Rattle.wire.specs.Number.{num, bytes, num_at, signed, bits}
use Rattle.wire.specs.Proof.{Message, Ends, proof_total, proof_number, proof_size, read_proof, proof_round, part_message, proof_ends, numbers, proof_header, proof_file, proof_values, write_proof, written_in}
use Rattle.wire.proofs.Codes.{Bytes, num-bytes, bytes_drop, part_small, parted, bits_small, signed-bits, bits-signed}
use Rattle.wire.proofs.Below.{all_below_lem}
use Rattle.wire.proofs.WriteRows.{row_written}
use Rattle.wire.proofs.Writes.{length_file, length_values}
use Rattle.wire.proofs.ProofSays.{ProofFrame, GoodProof, proof-said, proof-good}
use Rattle.wire.proofs.Parts.{round-message, end_values}

-- number k of a list of numbers
at-number : (xs : List ℕ) (k : ℕ) → k < length xs → get_or xs k 0 < 256 ^ 4 → num_at 4 (numbers xs) (4 * k) ≡ get_or xs k 0
unfolding num_at numbers bytes
at-number [] k h b = absurd (omega arith)
at-number (x ∷ xs) zero h b = num-bytes 4 x b
at-number (x ∷ xs) (suc k) h b = simp unary_clauses (at-number xs k (omega arith) b)

-- the places of a proof's numbers: three to a round, then the end values
pub thirds : (P : ℕ → Type 0) (n : ℕ) → ((r : ℕ) → r < n → P (3 * r) × P (3 * r + 1) × P (3 * r + 2)) → (k : ℕ) → k < 3 * n → P k
thirds P n h k l = go (k % 3) refl
  where
    three : P (3 * (k / 3)) × P (3 * (k / 3) + 1) × P (3 * (k / 3) + 2)
    three = h (k / 3) (omega arith)

    go : (i : ℕ) → k % 3 ≡ i → P k
    go zero e = subst P (omega arith) three.0
    go (suc zero) e = subst P (omega arith) three.1
    go (suc (suc zero)) e = subst P (omega arith) three.2
    go (suc (suc (suc i))) e = absurd (omega arith)

le_pred : (k m : ℕ) → k < suc m → k ≤ m
le_pred k m h = omega arith

and_two : (P : ℕ → Type 0) (m : ℕ) → ((k : ℕ) → k < m → P k) → P m → P (m + 1) → (k : ℕ) → k < m + 2 → P k
and_two P m h a b k l =
    ⊎_elim
    (λ e. subst P (sym e) b)
    (λ j. ⊎_elim (λ e. subst P (sym e) a) (h k) (eq-or-lt_of_le (le_pred k m (omega arith))))
    (eq-or-lt_of_le (le_pred k (m + 1) (omega arith)))

-- what a proof is: n, the total, messages of which 3n numbers count, and the end values
pub record Writable (p n : ℕ) (t : ℤ) (ms : List ℕ) (f g : ℕ) : Type 0 where
  pub fits : p ≤ 2 ^ 32
  pub most : n ≤ max_rounds
  pub limits : nat_abs t ≤ limit p
  pub room : 3 * n ≤ length ms
  pub messages : (k : ℕ) → k < 3 * n → get_or ms k 0 < p
  pub end_f_lem : f < p
  pub end_g_lem : g < p

-- a file that reads as this proof, whole
pub record ReadsAs (p : ℕ) (file : List ℕ) (n : ℕ) (t : ℤ) (ms : List ℕ) (f g : ℕ) : Type 0 where
  pub head : read_proof p file ≡ answered (record { rounds = n; total = t })
  pub rounds : (r : ℕ) → r < n
      → part_message (proof_round p file r)
      ≡ Some (record { even = get_or ms (3 * r) 0; cross = get_or ms (3 * r + 1) 0; odd = get_or ms (3 * r + 2) 0 })
  pub ends : proof_ends file ≡ Some (record { f = f; g = g })

module _ (n : ℕ) (ms : List ℕ) (f g : ℕ) (room : 3 * n ≤ length ms) where
  value-message : (k : ℕ) → k < 3 * n → get_or (proof_values n ms f g) k 0 ≡ get_or ms k 0
  value-message k h =
      get_or-append (take (3 * n) ms) (f ∷ g ∷ []) 0 k (omega (arith, length-take-le (3 * n) ms room))
      ∙ get_or-take (3 * n) ms k 0 h

  value-end : (j : ℕ) → get_or (proof_values n ms f g) (3 * n + j) 0 ≡ get_or (f ∷ g ∷ []) j 0
  value-end j =
      ap (λ m. get_or (proof_values n ms f g) (m + j) 0) (sym (length-take-le (3 * n) ms room))
      ∙ get_or-append-add (take (3 * n) ms) (f ∷ g ∷ []) j 0

  value-f : get_or (proof_values n ms f g) (3 * n) 0 ≡ f
  value-f = rw add-zero at (value-end 0)

  value-g : get_or (proof_values n ms f g) (3 * n + 1) 0 ≡ g
  value-g = value-end 1

module _ (p n : ℕ) (t : ℤ) (ms : List ℕ) (f g : ℕ) (w : Writable p n t ms f g) where
  values-below : (k : ℕ) → k < 3 * n + 2 → get_or (proof_values n ms f g) k 0 < p
  values-below =
      and_two (λ k. get_or (proof_values n ms f g) k 0 < p) (3 * n)
      (λ k l. rw (value-message n ms f g w.room k l) (w.messages k l))
      (rw (value-f n ms f g w.room) w.end_f_lem)
      (rw (value-g n ms f g w.room) w.end_g_lem)

  file-total : proof_total (proof_file n t (proof_values n ms f g)) ≡ t
  unfolding proof_header num_at bytes
  file-total =
      let l = w.limits in
      let s = w.fits in
      ap (signed 4) (num-bytes 4 (bits 4 t) (bits_small 4 t (omega arith))) ∙ signed-bits 4 t (omega arith)

  file-number : (k : ℕ) → k < 3 * n + 2 → proof_number (proof_file n t (proof_values n ms f g)) k ≡ get_or (proof_values n ms f g) k 0
  unfolding num_at proof_header bytes
  file-number k h =
      ap (λ s. num (take 4 s)) (drop-append-add (proof_header n t) (numbers (proof_values n ms f g)) (4 * k))
      ∙ at-number (proof_values n ms f g) k (omega (arith, length_values n t ms f g w.room)) (omega (arith, values-below k h, w.fits))

  file-frame : ProofFrame (proof_file n t (proof_values n ms f g))
  unfolding proof_header num_at num bytes
  file-frame =
      let l = length_file n t (proof_values n ms f g) (length_values n t ms f g w.room) in
      record {
        mark = record { long = omega (arith, l); first = refl; second = refl; third = refl };
        version = refl;
        most = w.most;
        size = l;
      }

  pub file-good : GoodProof p (proof_file n t (proof_values n ms f g)) (record { rounds = n; total = t })
  unfolding proof_header bytes
  file-good =
      record {
        frame = file-frame;
        rounds = refl;
        total = file-total;
        limits = rw file-total w.limits;
        below = λ k h. rw (file-number k h) (values-below k h);
      }

  file-message : (k : ℕ) → k < 3 * n → proof_number (proof_file n t (proof_values n ms f g)) k ≡ get_or ms k 0
  file-message k h = file-number k (omega arith) ∙ value-message n ms f g w.room k h

  file-f : proof_number (proof_file n t (proof_values n ms f g)) (3 * n) ≡ f
  file-f = file-number (3 * n) (omega arith) ∙ value-f n ms f g w.room

  file-g : proof_number (proof_file n t (proof_values n ms f g)) (3 * n + 1) ≡ g
  file-g = file-number (3 * n + 1) (omega arith) ∙ value-g n ms f g w.room

  -- what is written reads back as that proof
  pub reads_back : ReadsAs p (proof_file n t (proof_values n ms f g)) n t ms f g
  unfolding proof_header bytes
  reads_back =
      record {
        head = proof-said p _ _ file-good;
        rounds = λ r h.
            round-message p (proof_file n t (proof_values n ms f g)) _ file-good r h
            ∙ rw (file-message (3 * r) (omega arith), file-message (3 * r + 1) (omega arith), file-message (3 * r + 2) (omega arith));
        ends = end_values p (proof_file n t (proof_values n ms f g)) _ file-good ∙ rw (file-f, file-g);
      }

  -- so does what write_proof leaves in the first places of a buffer with room for it
  pub write_reads_back : (buffer : List ℕ) → proof_size n ≤ length buffer
      → (write_proof p n t ms f g buffer ≡ answered (proof_size n))
      × ReadsAs p (take (proof_size n) (written_in (write_proof p n t ms f g buffer) (proof_file n t (proof_values n ms f g)) buffer)) n t ms f g
  unfolding written_in in_limits
  write_reads_back buffer h =
      let o = row_written p n t ms f g buffer (le-leb _ _ w.most) (le-leb _ _ w.limits) (all_below_lem p (λ k. get_or ms k 0) (3 * n) w.messages) (lt-ltb _ _ w.end_f_lem) (lt-ltb _ _ w.end_g_lem) (le-leb _ _ h) in (
        o,
        rw (o, take_at (proof_file n t (proof_values n ms f g)) (drop (proof_size n) buffer) (proof_size n) (length_file n t (proof_values n ms f g) (length_values n t ms f g w.room)))
            reads_back,
      )

num-dropped : (k a b : ℕ) (s : List ℕ) → num_at k (drop a s) b ≡ num_at k s (a + b)
unfolding num_at
num-dropped k a b s = rw (drop-drop b a s)

-- bytes that read as given numbers are the bytes of these numbers
bytes_of : (xs s : List ℕ) → length s ≡ 4 * length xs → Bytes s → ((k : ℕ) → k < length xs → num_at 4 s (4 * k) ≡ get_or xs k 0)
    → s ≡ numbers xs
unfolding numbers
bytes_of [] [] l b h = refl
bytes_of [] (x ∷ s) l b h = absurd (omega arith)
bytes_of (x ∷ xs) s l b h =
    parted s b 4 0 (omega arith)
    ∙ rw (h 0 (omega arith), ← bytes_of xs (drop 4 s) (length-drop 4 s ∙ omega arith) (bytes_drop s 4 b) rest)
  where
    rest : (k : ℕ) → k < length xs → num_at 4 (drop 4 s) (4 * k) ≡ get_or xs k 0
    rest k l = num-dropped 4 4 (4 * k) s ∙ ap (num_at 4 s) (omega arith) ∙ h (suc k) (omega arith)

-- the first ten bytes of a good proof
header_of : (p : ℕ) (file : List ℕ) (n : ℕ) (t : ℤ) → Bytes file → GoodProof p file (record { rounds = n; total = t })
    → file ≡ proof_header n t ++ drop 10 file
unfolding proof_header bytes
header_of p file n t b g =
    let m = g.frame.mark in
    let l = m.long in
    let w : num_at 4 file 6 ≡ bits 4 t = sym (bits-signed 4 (num_at 4 file 6) (part_small file b 4 6 (omega arith))) ∙ ap (bits 4) g.total in
    drop-cons file 0 0 (omega arith)
    ∙ rw (drop-cons file 1 0 (omega arith), drop-cons file 2 0 (omega arith), parted file b 2 3 (omega arith), g.frame.version, drop-cons file 5 0 (omega arith), g.rounds, parted file b 4 6 (omega arith), w, m.first, m.second, m.third)

pub found_same : {A : Type 0} {x y : A} → Some x ≡ Some y → x ≡ y
found_same e = cc

-- the numbers of a file that reads as a proof
module _ (p : ℕ) (file : List ℕ) (n : ℕ) (t : ℤ) (ms : List ℕ) (f g : ℕ) (r : ReadsAs p file n t ms f g) where
  pub good : GoodProof p file (record { rounds = n; total = t })
  good = proof-good p file _ r.head

  pub messages-same : (q : ℕ) → q < n
      → (proof_number file (3 * q) ≡ get_or ms (3 * q) 0) × (proof_number file (3 * q + 1) ≡ get_or ms (3 * q + 1) 0) × (proof_number file (3 * q + 2) ≡ get_or ms (3 * q + 2) 0)
  messages-same q h =
      let e = found_same (sym (round-message p file _ good q (omega (arith, good.rounds))) ∙ r.rounds q h) in
      (ap (λ (m : Message). m.even) e, ap (λ (m : Message). m.cross) e, ap (λ (m : Message). m.odd) e)

  pub ends_same : (proof_number file (3 * n) ≡ f) × (proof_number file (3 * n + 1) ≡ g)
  ends_same =
      let e = found_same (rw good.rounds at (sym (end_values p file _ good) ∙ r.ends)) in
      (ap (λ (m : Ends). m.f) e, ap (λ (m : Ends). m.g) e)

-- it is the file written from that proof
module _ (p : ℕ) (file : List ℕ) (n : ℕ) (t : ℤ) (ms : List ℕ) (f g : ℕ) (b : Bytes file) (room : 3 * n ≤ length ms) (r : ReadsAs p file n t ms f g) where
  numbers-same : (k : ℕ) → k < 3 * n + 2 → proof_number file k ≡ get_or (proof_values n ms f g) k 0
  numbers-same =
      and_two (λ k. proof_number file k ≡ get_or (proof_values n ms f g) k 0) (3 * n)
      (λ k l. thirds (λ k. proof_number file k ≡ get_or ms k 0) n (messages-same p file n t ms f g r) k l ∙ sym (value-message n ms f g room k l))
      ((ends_same p file n t ms f g r).0 ∙ sym (value-f n ms f g room))
      ((ends_same p file n t ms f g r).1 ∙ sym (value-g n ms f g room))

  pub reads_only : file ≡ proof_file n t (proof_values n ms f g)
  reads_only =
      let v = length_values n t ms f g room in
      let whole = good p file n t ms f g r in
      let d : length (drop 10 file) ≡ 4 * length (proof_values n ms f g) = length-drop 10 file ∙ omega (arith, whole.frame.size, whole.rounds) in
      header_of p file n t b whole
      ∙ ap (λ s. proof_header n t ++ s)
      (bytes_of (proof_values n ms f g) (drop 10 file) d (bytes_drop file 10 b)
      (λ k l. num-dropped 4 10 (4 * k) file ∙ numbers-same k (omega arith)))

-- the first m values of a function
unfoldable tabulate : (ℕ → ℕ) → ℕ → List ℕ
tabulate h zero = []
tabulate h (suc m) = h 0 ∷ tabulate (λ k. h (suc k)) m

length_tabulate : (h : ℕ → ℕ) (m : ℕ) → length (tabulate h m) ≡ m
unfolding tabulate
length_tabulate h zero = refl
length_tabulate h (suc m) = ap suc (length_tabulate (λ k. h (suc k)) m)

at-tabulate : (h : ℕ → ℕ) (m k : ℕ) → k < m → get_or (tabulate h m) k 0 ≡ h k
unfolding tabulate
at-tabulate h zero k l = absurd (omega arith)
at-tabulate h (suc m) zero l = refl
at-tabulate h (suc m) (suc k) l = at-tabulate (λ k. h (suc k)) m k (omega arith)

-- what a proof file says, whole
pub record Contents (p : ℕ) (file : List ℕ) (n : ℕ) (t : ℤ) : Type 0 where
  pub messages : List ℕ
  pub f : ℕ
  pub g : ℕ
  pub writable : Writable p n t messages f g
  pub reads : ReadsAs p file n t messages f g

contents : (p : ℕ) (file : List ℕ) (n : ℕ) (t : ℤ) → p ≤ 2 ^ 32 → read_proof p file ≡ answered (record { rounds = n; total = t })
    → Contents p file n t
contents p file n t fits e =
    record {
      messages = tabulate (proof_number file) (3 * n);
      f = proof_number file (3 * n);
      g = proof_number file (3 * n + 1);
      writable =
          record {
            fits = fits;
            most = rw good.rounds at good.frame.most;
            limits = rw good.total at good.limits;
            room = omega (arith, length_tabulate (proof_number file) (3 * n));
            messages = λ k h. rw (number k h) (below k (omega arith));
            end_f_lem = below (3 * n) (omega arith);
            end_g_lem = below (3 * n + 1) (omega arith);
          };
      reads =
          record {
            head = e;
            rounds = λ r h.
                round-message p file _ good r (omega (arith, good.rounds))
                ∙ rw (number (3 * r) (omega arith), number (3 * r + 1) (omega arith), number (3 * r + 2) (omega arith));
            ends = rw good.rounds at (end_values p file _ good);
          };
    }
  where
    good : GoodProof p file (record { rounds = n; total = t })
    good = proof-good p file _ e

    number : (k : ℕ) → k < 3 * n → get_or (tabulate (proof_number file) (3 * n)) k 0 ≡ proof_number file k
    number k h = at-tabulate (proof_number file) (3 * n) k h

    below : (k : ℕ) → k < 3 * n + 2 → proof_number file k < p
    below = rw good.rounds at good.below

-- every file that reads well is the file written from what was read
pub written-from-read : (p : ℕ) (file : List ℕ) (n : ℕ) (t : ℤ) → p ≤ 2 ^ 32 → Bytes file
    → read_proof p file ≡ answered (record { rounds = n; total = t })
    → (c : Contents p file n t) × (file ≡ proof_file n t (proof_values n c.messages c.f c.g))
written-from-read p file n t fits b e =
    let c = contents p file n t fits e in
    (c, reads_only p file n t c.messages c.f c.g b c.writable.room c.reads)
