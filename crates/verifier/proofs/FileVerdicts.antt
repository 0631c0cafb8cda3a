-- Demand 2 for a proof file, both ways: yes where every message passes, the last claim is the product of the end values and the file's
-- end values are these; otherwise no with the first round that failed, or n.
use mathlib.Core.Path.{◌≡◌, refl, ap₂, subst}
use mathlib.Core.Bool.{Bool, true, false, cond, ◌&&◌}
use mathlib.Core.List.{List}
use mathlib.Core.Logic.{◌↔◌, ◌⊎◌, inl, inr, ⊎_elim}
use Prim.Native.Nat.{ℕ, ◌+◌, ◌*◌, ◌<◌}
use lib.Dec.{eqb}
use borrow.Author.Tests.{eq-eqb, eqb-true}
use Rattle.algebra.specs.Mod.{mul_mod}
use Rattle.refusal.proofs.Outcome.{both, failed}
use Rattle.field.specs.Integer.{image}
use Rattle.wire.specs.Proof.{proof_total, proof_number}
use Rattle.verifier.specs.Records.{Finding, yes, no}
use Rattle.verifier.specs.ProofFile.{file_message}
use Rattle.verifier.specs.Trips.{claim_at, first_failed, verdict_of, file_verdict_of}
use Rattle.verifier.proofs.Verdicts.{AllPass, FirstNo, LastNo, VerdictSays, first_says, verdict-says, verdict-yes-if, verdict-same, failed_same}

-- the claim that the file starts with
abbrev pub file_claim : ℕ → List ℕ → ℕ
file_claim p file = image p (proof_total file)

-- the file's end values are f and g
abbrev pub EndsAre : List ℕ → ℕ → ℕ → ℕ → Type 0
EndsAre file n f g = (proof_number file (3 * n) ≡ f) × (proof_number file (3 * n + 1) ≡ g)

-- every message passes, and the last claim or the file's end values are wrong
pub record WrongEnd (p : ℕ) (c : ℕ → ℕ) (file : List ℕ) (n f g k : ℕ) : Type 0 where
  pub last : k ≡ n
  pub all : AllPass p c (file_claim p file) (file_message file) n
  pub fails : claim_at p c (file_claim p file) (file_message file) n ≡ mul_mod p f g → EndsAre file n f g → ⊥

-- what each verdict says
abbrev pub FileSays : ℕ → (ℕ → ℕ) → List ℕ → ℕ → ℕ → ℕ → Finding → Type 0
FileSays p c file n f g yes =
    AllPass p c (file_claim p file) (file_message file) n
    × (claim_at p c (file_claim p file) (file_message file) n ≡ mul_mod p f g)
    × EndsAre file n f g
FileSays p c file n f g (no k) = FirstNo p c (file_claim p file) (file_message file) n k ⊎ WrongEnd p c file n f g k

module _ (p : ℕ) (c : ℕ → ℕ) (file : List ℕ) (n f g : ℕ) where
  abbrev claim : ℕ
  claim = file_claim p file

  abbrev pub same : Bool
  same = eqb (proof_number file (3 * n)) f && eqb (proof_number file (3 * n + 1)) g

  pub same_ends : same ≡ true → EndsAre file n f g
  same_ends e =
      let b = both (eqb (proof_number file (3 * n)) f) (eqb (proof_number file (3 * n + 1)) g) e in
      (eqb-true (proof_number file (3 * n)) f b.0, eqb-true (proof_number file (3 * n + 1)) g b.1)

  pub ends_same : EndsAre file n f g → same ≡ true
  ends_same h = rw (eq-eqb (proof_number file (3 * n)) f h.0, eq-eqb (proof_number file (3 * n + 1)) g h.1)

  with_ends_lem : EndsAre file n f g → (d : Finding) → VerdictSays p c claim (file_message file) n (mul_mod p f g) d → FileSays p c file n f g d
  with_ends_lem h yes s = (s.0, s.1, h)
  with_ends_lem h (no k) s =
      ⊎_elim
      inl
      (λ (l : LastNo p c claim (file_message file) n (mul_mod p f g) k).
      inr (record { last = l.last; all = l.all; fails = λ e x. l.fails e }))
      s

  other_ends : (EndsAre file n f g → ⊥) → FileSays p c file n f g (no (first_failed p c n claim (file_message file)))
  other_ends h =
      ⊎_elim
      inl
      (λ (a : (first_failed p c n claim (file_message file) ≡ n) × AllPass p c claim (file_message file) n).
      inr (record { last = a.0; all = a.1; fails = λ e x. h x }))
      (first_says p c n claim (file_message file) (mul_mod p f g))

  pub file-verdict-says : FileSays p c file n f g (file_verdict_of p c n file f g)
  unfolding file_verdict_of
  file-verdict-says = by same refl
    where
      by : (b : Bool) → same ≡ b
          → FileSays p c file n f g
          (cond b (verdict_of p c n claim (file_message file) (mul_mod p f g)) (no (first_failed p c n claim (file_message file))))
      by true e =
          with_ends_lem (same_ends e) (verdict_of p c n claim (file_message file) (mul_mod p f g))
          (verdict-says p c n claim (file_message file) (mul_mod p f g))
      by false e = other_ends (λ h. failed e (ends_same h))

  pub file-verdict-yes : (file_verdict_of p c n file f g ≡ yes) ↔ FileSays p c file n f g yes
  unfolding file_verdict_of
  file-verdict-yes = ((λ e. subst (FileSays p c file n f g) e file-verdict-says), yes-if)
    where
      yes-if : FileSays p c file n f g yes → file_verdict_of p c n file f g ≡ yes
      yes-if h = rw (ends_same h.2) (verdict-yes-if p c n claim (file_message file) (mul_mod p f g) h.0 h.1)

-- only the challenges below n count
pub file-verdict-same : (p n : ℕ) (c d : ℕ → ℕ) → ((k : ℕ) → k < n → c k ≡ d k) → (file : List ℕ) (f g : ℕ)
    → file_verdict_of p c n file f g ≡ file_verdict_of p d n file f g
unfolding file_verdict_of
file-verdict-same p n c d agree file f g =
    ap₂ (λ x k. cond (eqb (proof_number file (3 * n)) f && eqb (proof_number file (3 * n + 1)) g) x (no k))
    (verdict-same p n c d agree (file_claim p file) (file_message file) (mul_mod p f g))
    (failed_same p n c d agree (file_claim p file) (file_message file))
