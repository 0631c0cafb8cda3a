-- What read_proof answers, in document 01's words and both ways: each outcome holds of exactly the files that it is given for.
use mathlib.Core.Path.{◌≡◌, refl, subst}
use mathlib.Core.List.{List}
use Prim.Native.Nat.{ℕ, ◌+◌, ◌*◌, ◌≤◌, ◌<◌}
use lib.ListN.{length}
use lib.IntN.{nat_abs}
use lib.Dec.{leb, eqb}
use borrow.Author.Tests.{le-leb, lt-leb, leb-true, leb-false, eq-eqb, ne_eqb, eqb-true, eqb-false}
use Rattle.refusal.specs.Number as number
use Rattle.refusal.specs.Limit.{max_rounds}
use Rattle.refusal.specs.Outcome.{Outcome, answered, refused, refused_at}
use Rattle.refusal.proofs.Outcome.{failed, fails, require-says}
use Rattle.field.specs.Total.{limit, in_limits}
use Rattle.wire.specs.Header.{marked, version_of}
use Rattle.wire.specs.Proof.{Head, proof_rounds, proof_total, proof_number, proof_size, all_below, read_proof}
use Rattle.wire.proofs.Marks.{Mark, mark_of, mark_back}
use Rattle.wire.proofs.Below.{below_all, all_below_lem, below_fails, not_all_below}

-- a file with the size of its n
pub record ProofFrame (file : List ℕ) : Type 0 where
  pub mark : Mark 80 10 file
  pub version : version_of file ≡ 1
  pub most : proof_rounds file ≤ max_rounds
  pub size : length file ≡ proof_size (proof_rounds file)

pub record GoodProof (p : ℕ) (file : List ℕ) (head : Head) : Type 0 where
  pub frame : ProofFrame file
  pub rounds : proof_rounds file ≡ head.rounds
  pub total : proof_total file ≡ head.total
  pub limits : nat_abs (proof_total file) ≤ limit p
  pub below : (k : ℕ) → k < 3 * proof_rounds file + 2 → proof_number file k < p

-- the rows, each after those above it
pub data ProofRefused (p : ℕ) (file : List ℕ) : ℕ → Type 0 where
  by_mark : (Mark 80 10 file → ⊥) → ProofRefused p file number.header
  by_version : Mark 80 10 file → (version_of file ≡ 1 → ⊥) → ProofRefused p file number.version
  by_count : Mark 80 10 file → version_of file ≡ 1 → max_rounds < proof_rounds file → ProofRefused p file number.count
  by_size : Mark 80 10 file → version_of file ≡ 1 → proof_rounds file ≤ max_rounds
      → (length file ≡ proof_size (proof_rounds file) → ⊥) → ProofRefused p file number.size
  by_total : ProofFrame file → limit p < nat_abs (proof_total file) → ProofRefused p file number.total
  by_number : ProofFrame file → nat_abs (proof_total file) ≤ limit p → (k : ℕ) → k < 3 * proof_rounds file + 2 → p ≤ proof_number file k
      → ProofRefused p file number.number

abbrev pub ProofSays : ℕ → List ℕ → Outcome Head → Type 0
ProofSays p file (answered head) = GoodProof p file head
ProofSays p file (refused k) = ProofRefused p file k
ProofSays p file (refused_at k i) = ⊥

pub proof-says : (p : ℕ) (file : List ℕ) → ProofSays p file (read_proof p file)
unfolding read_proof in_limits
proof-says p file =
    require-says (ProofSays p file) (marked 80 10 file) _ _ (λ bad. by_mark (λ m. failed bad (mark_back _ _ _ m))) λ marks.
    let m = mark_of 80 10 file marks in
    require-says (ProofSays p file) (eqb (version_of file) 1) _ _ (λ bad. by_version m (eqb-false _ _ bad)) λ versions.
    let v = eqb-true (version_of file) 1 versions in
    require-says (ProofSays p file) (leb (proof_rounds file) max_rounds) _ _ (λ bad. by_count m v (leb-false _ _ bad)) λ counts.
    let u = leb-true (proof_rounds file) max_rounds counts in
    require-says (ProofSays p file) (eqb (length file) (proof_size (proof_rounds file))) _ _ (λ bad. by_size m v u (eqb-false _ _ bad)) λ sizes.
    let frame : ProofFrame file =
    record { mark = m; version = v; most = u; size = eqb-true (length file) (proof_size (proof_rounds file)) sizes }
    in
    require-says (ProofSays p file) (leb (nat_abs (proof_total file)) (limit p)) _ _ (λ bad. by_total frame (leb-false _ _ bad)) λ totals.
    let t = leb-true (nat_abs (proof_total file)) (limit p) totals in
    require-says (ProofSays p file) (all_below p (proof_number file) (3 * proof_rounds file + 2)) _ _
    (λ bad. let w = not_all_below p (proof_number file) (3 * proof_rounds file + 2) bad in by_number frame t w.0 w.1 w.2) λ below.
    record {
      frame = frame;
      rounds = refl;
      total = refl;
      limits = t;
      below = below_all p (proof_number file) (3 * proof_rounds file + 2) below;
    }

pub proof-said : (p : ℕ) (file : List ℕ) (o : Outcome Head) → ProofSays p file o → read_proof p file ≡ o
unfolding read_proof in_limits
proof-said p file (answered head) g =
    let f = g.frame in
    simp
    (mark_back 80 10 file f.mark, eq-eqb (version_of file) 1 f.version, le-leb (proof_rounds file) max_rounds f.most, eq-eqb (length file) (proof_size (proof_rounds file)) f.size, le-leb (nat_abs (proof_total file)) (limit p) g.limits, all_below_lem p (proof_number file) (3 * proof_rounds file + 2) g.below)
    (rw (g.rounds, g.total))
proof-said p file (refused k) (by_mark bad) = simp (fails (marked 80 10 file) (λ e. bad (mark_of 80 10 file e)))
proof-said p file (refused k) (by_version m bad) = simp (mark_back 80 10 file m, ne_eqb (version_of file) 1 bad)
proof-said p file (refused k) (by_count m v bad) =
    simp (mark_back 80 10 file m, eq-eqb (version_of file) 1 v, lt-leb (proof_rounds file) max_rounds bad)
proof-said p file (refused k) (by_size m v u bad) =
    simp
    (mark_back 80 10 file m, eq-eqb (version_of file) 1 v, le-leb (proof_rounds file) max_rounds u, ne_eqb (length file) (proof_size (proof_rounds file)) bad)
proof-said p file (refused k) (by_total f bad) =
    simp
    (mark_back 80 10 file f.mark, eq-eqb (version_of file) 1 f.version, le-leb (proof_rounds file) max_rounds f.most, eq-eqb (length file) (proof_size (proof_rounds file)) f.size, lt-leb (nat_abs (proof_total file)) (limit p) bad)
proof-said p file (refused k) (by_number f t i h bad) =
    simp
    (mark_back 80 10 file f.mark, eq-eqb (version_of file) 1 f.version, le-leb (proof_rounds file) max_rounds f.most, eq-eqb (length file) (proof_size (proof_rounds file)) f.size, le-leb (nat_abs (proof_total file)) (limit p) t, ← below_fails p (proof_number file) (3 * proof_rounds file + 2) i h bad)
proof-said p file (refused_at k i) bad = absurd bad

pub proof-good : (p : ℕ) (file : List ℕ) (head : Head) → read_proof p file ≡ answered head → GoodProof p file head
proof-good p file head e = subst (ProofSays p file) e (proof-says p file)
