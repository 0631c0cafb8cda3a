-- What claim_call answers, in document 01's words and both ways: each outcome holds of exactly the arguments that it is given for.
use mathlib.Core.Path.{◌≡◌, refl, sym, ap, ◌∙◌}
use mathlib.Core.Bool.{true}
use mathlib.Core.List.{List}
use Prim.Native.Nat.{ℕ, ◌^◌, ◌≤◌, ◌<◌}
use lib.Dec.{leb, ltb}
use borrow.Author.Tests.{le-leb, lt-leb, leb-true, leb-false, ltb-true, lt-ltb}
use Rattle.refusal.specs.Number as number
use Rattle.refusal.specs.Limit.{max_rounds}
use Rattle.refusal.specs.Outcome.{Outcome, answered, refused, refused_at}
use Rattle.refusal.proofs.Outcome.{both, failed, fails, require-says}
use Rattle.vector.specs.Vector.{at}
use Rattle.vector.specs.Slice.{is_nonzero}
use Rattle.r1cs.specs.Product.{rule_vector}
use Rattle.r1cs.specs.Claim.{claim_call}
use Rattle.r1cs.specs.Check.{rule_claim}
use Rattle.r1cs.proofs.Vectors.{RuleVector, vector-of, of_vector}
use Rattle.r1cs.proofs.ClaimRows.{claim-count, claim-argument, claim-vector, claim-answered}

-- "v from 1 to P-1"
pub record Point (p v : ℕ) : Type 0 where
  pub nonzero : 0 < v
  pub below : v < p

pub record Claims (p : ℕ) (cz : List ℕ) (n v claim : ℕ) : Type 0 where
  pub most : n ≤ max_rounds
  pub point : Point p v
  pub vector : RuleVector p (2 ^ n) cz
  pub value : claim ≡ rule_claim p v n (at cz)

pub data ClaimRefused (p : ℕ) (cz : List ℕ) (n v : ℕ) : ℕ → Type 0 where
  by_rounds : max_rounds < n → ClaimRefused p cz n v number.count
  by_point : n ≤ max_rounds → (Point p v → ⊥) → ClaimRefused p cz n v number.argument
  by_vector : n ≤ max_rounds → Point p v → (RuleVector p (2 ^ n) cz → ⊥) → ClaimRefused p cz n v number.vector

abbrev pub ClaimSays : ℕ → List ℕ → ℕ → ℕ → Outcome ℕ → Type 0
ClaimSays p cz n v (answered claim) = Claims p cz n v claim
ClaimSays p cz n v (refused k) = ClaimRefused p cz n v k
ClaimSays p cz n v (refused_at k i) = ⊥

module _ (p : ℕ) (cz : List ℕ) (n v : ℕ) where
  point-of : is_nonzero p v ≡ true → Point p v
  point-of h = let t = both (ltb 0 v) (ltb v p) h in record { nonzero = ltb-true 0 v t.0; below = ltb-true v p t.1 }

  of_point : Point p v → is_nonzero p v ≡ true
  of_point h = rw (lt-ltb 0 v h.nonzero, lt-ltb v p h.below)

  pub claim-says : ClaimSays p cz n v (claim_call p cz n v)
  unfolding claim_call
  claim-says =
      require-says (ClaimSays p cz n v) (leb n max_rounds) _ _ (λ bad. by_rounds (leb-false _ _ bad)) λ few.
      let most = leb-true n max_rounds few in
      require-says (ClaimSays p cz n v) (is_nonzero p v) _ _ (λ bad. by_point most (λ h. failed bad (of_point h))) λ inside.
      let point = point-of inside in
      require-says (ClaimSays p cz n v) (rule_vector p (2 ^ n) cz) _ _
      (λ bad. by_vector most point (λ h. failed bad (of_vector p (2 ^ n) cz h)))
      λ fits. record { most = most; point = point; vector = vector-of p (2 ^ n) cz fits; value = refl }

  pub claim-said : (o : Outcome ℕ) → ClaimSays p cz n v o → claim_call p cz n v ≡ o
  claim-said (answered claim) h =
      sym (claim-answered p cz n v (le-leb n max_rounds h.most) (of_point h.point) (of_vector p (2 ^ n) cz h.vector)) ∙ ap answered (sym h.value)
  claim-said (refused k) (by_rounds many) = sym (claim-count p cz n v (lt-leb n max_rounds many))
  claim-said (refused k) (by_point most bad) =
      sym (claim-argument p cz n v (le-leb n max_rounds most) (fails (is_nonzero p v) (λ e. bad (point-of e))))
  claim-said (refused k) (by_vector most point bad) =
      sym
      (claim-vector p cz n v (le-leb n max_rounds most) (of_point point) (fails (rule_vector p (2 ^ n) cz) (λ e. bad (vector-of p (2 ^ n) cz e))))
  claim-said (refused_at k i) bad = absurd bad
