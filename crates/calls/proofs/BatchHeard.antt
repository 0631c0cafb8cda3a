-- A BATCH'S TRUE VALUES are accepted, whatever the verifier was asked before: it keeps its n and its challenges.
use mathlib.Core.Path.{◌≡◌, sym, ap, subst, ◌∙◌}
use mathlib.Core.Bool.{true}
use mathlib.Core.List.{List}
use Prim.Native.Nat.{ℕ, ◌%◌, ◌^◌, ◌≤◌, ◌<◌}
use native.Mathlib.Omega.{arith}
use lib.Dec.{ltb}
use lib.ListN.{length}
use borrow.Author.Tests.{ltb-true}
use Rattle.algebra.specs.Mod.{residue}
use Rattle.algebra.specs.Prime.{Prime}
use Rattle.algebra.proofs.Congruence.{residue-small}
use Rattle.refusal.proofs.Outcome.{both}
use Rattle.vector.specs.Vector.{Vector, at}
use Rattle.vector.specs.Slice.{is_nonzero}
use Rattle.vector.specs.Opening.{evaluate, opening_of}
use Rattle.verifier.specs.declared.Verifier.{Verifier}
use Rattle.verifier.specs.Records.{yes}
use Rattle.verifier.specs.Batch.{batch_finds}
use Rattle.verifier.proofs.BatchChecks.{true_batch_holds}
use Rattle.item.specs.declared.Start.{Start}
use Rattle.calls.proofs.QueryStands.{Carries, carried_challenge}

-- a point from 1 to p - 1 is not zero modulo p
pub nonzero : (p b : ℕ) → is_nonzero p b ≡ true → residue p b ≡ 0 → ⊥
nonzero p b ok e =
    let h = both (ltb 0 b) (ltb b p) ok in
    let least = ltb-true 0 b h.0 in
    let below = ltb-true b p h.1 in
    omega (arith, residue-small p b (omega arith))

module _ (p : ℕ) (prime : Prime p) (odd : p % 2 ≡ 1) (s : Start) (few : s.rounds ≤ 15) (some : 0 < s.rounds) (cs : List ℕ)
    (listed : length cs ≡ s.rounds) (k : ℕ) (v : Verifier) (c : Carries s cs k v) where
  pub batch-holds : (z b : ℕ) → is_nonzero p b ≡ true → (f : Vector) (logs : List ℕ)
      → evaluate p (length logs) (at logs) z ≡ evaluate p (2 ^ s.rounds) f b
      → batch_finds p v z b (opening_of p s.rounds (at cs) f b) logs ≡ yes
  batch-holds z b ok f logs sums =
      let r : v.start.rounds ≡ s.rounds = ap (λ s. s.rounds) c.start in
      ap (λ n. batch_finds p v z b (opening_of p n (at cs) f b) logs) (sym r)
      ∙ true_batch_holds prime odd z b (nonzero p b ok) v (at cs)
      (λ j h. carried_challenge c few listed j (omega (arith, r)))
      (subst (λ n. 0 < n) (sym r) some) f logs (sums ∙ ap (λ n. evaluate p (2 ^ n) f b) (sym r))
