-- The opening of the verifier's own vectors, at its challenges, passes the check.
use mathlib.Core.Path.{◌≡◌, refl, sym, ap, ap₂, ◌∙◌}
use mathlib.Core.List.{List, [], ◌++◌, append-nil}
use Prim.Native.Nat.{ℕ, zero, suc, ◌+◌, ◌-◌, ◌*◌, ◌%◌, ◌≤◌, ◌<◌}
use native.Mathlib.Nat.{add-zero, sub-zero}
use native.Mathlib.Omega.{arith}
use lib.ListN.{drop}
use lib.Seq.{get_or-drop, drop-drop}
use Rattle.algebra.specs.Mod.{residue}
use Rattle.algebra.specs.Prime.{Prime}
use Rattle.vector.specs.Vector.{Vector, at}
use Rattle.vector.specs.Opening.{Triple, triple, triple_values, opening}
use Rattle.vector.proofs.Openings.{true_opening}
use Rattle.verifier.specs.declared.Verifier.{Verifier}
use Rattle.verifier.specs.Records.{holds}
use Rattle.verifier.specs.Openings.{triple_at, opening_finds}
use Rattle.verifier.proofs.OpeningChecks.{opening-yes}

module _ (t : ℕ → Triple) (rest : List ℕ) where
  -- past k triples
  past : (n k from : ℕ) → k ≤ n → drop (3 * k) (triple_values t from n ++ rest) ≡ triple_values t (from + k) (n - k) ++ rest
  unfolding triple_values
  past n zero from h = rw (add-zero from, sub-zero n)
  past zero (suc k) from h = absurd (omega arith)
  past (suc n) (suc k) from h =
      let e : 3 * suc k ≡ suc (suc (suc (3 * k))) = omega arith in
      let f : from + suc k ≡ suc from + k = omega arith in
      let d : suc n - suc k ≡ n - k = omega arith in
      rw (e, f, d) (past n k (suc from) (omega arith))

  first : (m k : ℕ) → triple_at (triple_values t k (suc m) ++ rest) 0 ≡ t k
  unfolding triple_values
  first m k = refl

triple-dropped : (xs : List ℕ) (i : ℕ) → triple_at xs i ≡ triple_at (drop i xs) 0
triple-dropped xs i =
    let e : i ≡ i + 0 = omega arith in
    let a : at xs i ≡ at (drop i xs) 0 = ap (at xs) e ∙ sym (get_or-drop i xs 0 0) in
    let b : at xs (i + 1) ≡ at (drop i xs) 1 = sym (get_or-drop i xs 1 0) in
    let c : at xs (i + 2) ≡ at (drop i xs) 2 = sym (get_or-drop i xs 2 0) in
    same a b c
  where
    same : {x y z x' y' z' : ℕ} → x ≡ x' → y ≡ y' → z ≡ z'
        → ◌≡◌ {A = Triple} (record { at_point = x; at_minus = y; at_square = z }) (record { at_point = x'; at_minus = y'; at_square = z' })
    same a b c = cc

-- triple k of those that begin with a list
pub triple-of : (t : ℕ → Triple) (n : ℕ) (rest : List ℕ) (k : ℕ) → k < n → triple_at (triple_values t 0 n ++ rest) (3 * k) ≡ t k
triple-of t n rest k h =
    let m : n - k ≡ suc (n - suc k) = omega arith in
    let z : 0 + k ≡ k = omega arith in
    triple-dropped (triple_values t 0 n ++ rest) (3 * k)
    ∙ ap (λ xs. triple_at xs 0) (past t rest n k 0 (omega arith) ∙ ap₂ (λ i j. triple_values t i j ++ rest) z m)
    ∙ first t rest (n - suc k) k

module _ (f g : ℕ → Triple) (n : ℕ) where
  both_values : List ℕ
  both_values = triple_values f 0 n ++ triple_values g 0 n

  second-part : drop (3 * n) both_values ≡ triple_values g 0 n
  unfolding both_values triple_values
  second-part =
      let z : n - n ≡ 0 = omega arith in
      past f (triple_values g 0 n) n n 0 (omega arith) ∙ ap (λ m. triple_values f (0 + n) m ++ triple_values g 0 n) z

  triple-of_second : (k : ℕ) → k < n → triple_at both_values (3 * n + 3 * k) ≡ g k
  triple-of_second k h =
      triple-dropped both_values (3 * n + 3 * k)
      ∙ ap (λ xs. triple_at xs 0) (sym (drop-drop (3 * k) (3 * n) both_values) ∙ ap (drop (3 * k)) (second-part ∙ sym (append-nil (triple_values g 0 n))))
      ∙ sym (triple-dropped (triple_values g 0 n ++ []) (3 * k))
      ∙ triple-of g n [] k h

module _ {p : ℕ} (prime : Prime p) (odd : p % 2 ≡ 1) (b : ℕ) (nonzero : residue p b ≡ 0 → ⊥) (v : Verifier) (c : ℕ → ℕ)
    (agree : (k : ℕ) → k < v.start.rounds → at v.challenges k ≡ c k) (f g : Vector) where
  -- COMPLETENESS OF THE OPENING CHECK
  pub true_opening_holds : opening_finds p v b (opening p v.start.rounds c f g b) ≡ holds
  unfolding both_values
  true_opening_holds =
      let n = v.start.rounds in
      let tf = triple p n c f b in
      let tg = triple p n c g b in
      (opening-yes p v b (opening p n c f g b)).1 (
        (λ k h.
            let z : 0 + 3 * k ≡ 3 * k = omega arith in
            rw (z, agree k h, triple-of tf n (triple_values tg 0 n) k h) (true_opening prime odd b nonzero n c f k h)),
        λ k h. rw (agree k h, triple-of_second tf tg n k h) (true_opening prime odd b nonzero n c g k h),
      )
