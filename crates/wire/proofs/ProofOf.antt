-- What read_proof_of answers: as read_proof, with "a proof's n not the gateway's" under 3. Both ways.
use mathlib.Core.Path.{◌≡◌, sym, subst, ◌∙◌}
use mathlib.Core.List.{List}
use Prim.Native.Nat.{ℕ}
use lib.Dec.{eqb}
use borrow.Author.Tests.{eq-eqb, ne_eqb, eqb-true, eqb-false}
use Rattle.refusal.specs.Number as number
use Rattle.refusal.specs.Outcome.{Outcome, answered, refused, refused_at}
use Rattle.refusal.proofs.Outcome.{failed, fails, require-says}
use Rattle.wire.specs.Header.{marked, version_of}
use Rattle.wire.specs.Proof.{Head, proof_rounds, read_proof_of}
use Rattle.wire.proofs.Marks.{Mark, mark_of, mark_back}
use Rattle.wire.proofs.ProofSays.{ProofSays, GoodProof, proof-says, proof-said}

-- the outcomes of a file for a verifier of n rounds; past the three rows above, those of any reader
pub data ProofOfSays (p n : ℕ) (file : List ℕ) : Outcome Head → Type 0 where
  by_mark : (Mark 80 10 file → ⊥) → ProofOfSays p n file (refused number.header)
  by_version : Mark 80 10 file → (version_of file ≡ 1 → ⊥) → ProofOfSays p n file (refused number.version)
  by_other : Mark 80 10 file → version_of file ≡ 1 → (proof_rounds file ≡ n → ⊥) → ProofOfSays p n file (refused number.count)
  by_own : {o : Outcome Head} → Mark 80 10 file → version_of file ≡ 1 → proof_rounds file ≡ n → ProofSays p file o → ProofOfSays p n file o

pub proof-of_says : (p n : ℕ) (file : List ℕ) → ProofOfSays p n file (read_proof_of p n file)
unfolding read_proof_of
proof-of_says p n file =
    require-says (ProofOfSays p n file) (marked 80 10 file) _ _ (λ bad. by_mark (λ m. failed bad (mark_back _ _ _ m))) λ marks.
    let m = mark_of 80 10 file marks in
    require-says (ProofOfSays p n file) (eqb (version_of file) 1) _ _ (λ bad. by_version m (eqb-false _ _ bad)) λ versions.
    let v = eqb-true (version_of file) 1 versions in
    require-says (ProofOfSays p n file) (eqb (proof_rounds file) n) _ _ (λ bad. by_other m v (eqb-false _ _ bad)) λ own.
    by_own m v (eqb-true (proof_rounds file) n own) (proof-says p file)

pub proof-of_said : (p n : ℕ) (file : List ℕ) (o : Outcome Head) → ProofOfSays p n file o → read_proof_of p n file ≡ o
unfolding read_proof_of
proof-of_said p n file o (by_mark bad) = simp (fails (marked 80 10 file) (λ e. bad (mark_of 80 10 file e)))
proof-of_said p n file o (by_version m bad) = simp (mark_back 80 10 file m, ne_eqb (version_of file) 1 bad)
proof-of_said p n file o (by_other m v bad) =
    simp (mark_back 80 10 file m, eq-eqb (version_of file) 1 v, ne_eqb (proof_rounds file) n bad)
proof-of_said p n file o (by_own m v e says) =
    simp (mark_back 80 10 file m, eq-eqb (version_of file) 1 v, eq-eqb (proof_rounds file) n e) (proof-said p file o says)

-- answered exactly where a reader that knows no n answers, with this n
pub own-file : (p n : ℕ) (file : List ℕ) (head : Head) → GoodProof p file head → head.rounds ≡ n → read_proof_of p n file ≡ answered head
own-file p n file head g e =
    proof-of_said p n file (answered head) (by_own g.frame.mark g.frame.version (g.rounds ∙ e) g)

pub own-good : (p n : ℕ) (file : List ℕ) (head : Head) → read_proof_of p n file ≡ answered head → GoodProof p file head × (head.rounds ≡ n)
own-good p n file head e = says (answered head) (subst (ProofOfSays p n file) e (proof-of_says p n file))
  where
    Said : Outcome Head → Type 0
    Said (answered h) = GoodProof p file h × (h.rounds ≡ n)
    Said (refused k) = Unit {0}
    Said (refused_at k i) = Unit {0}

    says : (o : Outcome Head) → ProofOfSays p n file o → Said o
    says o (by_mark bad) = tt
    says o (by_version m bad) = tt
    says o (by_other m v bad) = tt
    says (answered h) (by_own m v e g) = (g, sym g.rounds ∙ e)
    says (refused k) (by_own m v e g) = tt
    says (refused_at k i) (by_own m v e g) = tt
