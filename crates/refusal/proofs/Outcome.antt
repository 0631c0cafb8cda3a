-- Laws of checks in a row: what an outcome says of them, both ways, and the search for the lowest faulty index as a loop makes it.
use mathlib.Core.Path.{◌≡◌, refl, sym, ap, subst, ◌∙◌}
use mathlib.Core.Logic.{⊎_elim}
use mathlib.Core.Bool.{Bool, true, false, true≢false, ◌&&◌}
use Prim.Native.Nat.{ℕ, zero, suc, ◌+◌, ◌-◌, ◌≤◌, ◌<◌}
use native.Mathlib.Numerals.{add-one}
use native.Mathlib.Nat.{sub-zero, zero-add, eq-or-lt_of_le}
use native.Mathlib.Omega.{arith}
use Rattle.std.specs.Prelude.{Option, Some, None, Ok}
use Rattle.refusal.specs.declared.Refusal.{Refusal}
use Rattle.refusal.specs.Refusal.{number_of, index_of, told, refused_by, required}
use Rattle.refusal.specs.Outcome.{Outcome, answered, refused, refused_at, require, require_at, require_all, and_then}

-- both tests of a check passed
pub both : (a b : Bool) → (a && b) ≡ true → (a ≡ true) × (b ≡ true)
both true b h = (refl, h)
both false b h = absurd (true≢false (sym h))

-- one of them failed
pub not_both : (a b : Bool) → (a && b) ≡ false → a ≡ true → b ≡ true → ⊥
not_both true true h p q = true≢false h
not_both true false h p q = true≢false (sym q)
not_both false b h p q = true≢false (sym p)

pub failed : {ok : Bool} → ok ≡ false → ok ≡ true → ⊥
failed f t = true≢false (sym t ∙ f)

pub fails : (ok : Bool) → (ok ≡ true → ⊥) → ok ≡ false
fails true h = absurd (h refl)
fails false h = refl

pub fails_both : (a b : Bool) → (a ≡ true → b ≡ true → ⊥) → (a && b) ≡ false
fails_both true b h = fails b (h refl)
fails_both false b h = refl

-- what a check that was taken by `?` told
pub passed : (ok : Bool) (e : Refusal) (x : Unit {0}) → required ok e ≡ Ok x → ok ≡ true
passed true e x h = refl
passed false e x h = cc

-- what holds of a refusal where the check fails, and of the rest where it passes, holds of the whole
pub require-says : {A : Type 0} (P : Outcome A → Type 0) (ok : Bool) (k : ℕ) (rest : Outcome A)
    → (ok ≡ false → P (refused k)) → (ok ≡ true → P rest) → P (require ok k rest)
require-says P true k rest stop pass = pass refl
require-says P false k rest stop pass = stop refl

pub require_at-says : {A : Type 0} (P : Outcome A → Type 0) (ok : Bool) (k i : ℕ) (rest : Outcome A)
    → (ok ≡ false → P (refused_at k i)) → (ok ≡ true → P rest) → P (require_at ok k i rest)
require_at-says P true k i rest stop pass = pass refl
require_at-says P false k i rest stop pass = stop refl

pred_le : (j i : ℕ) → j < suc i → j ≤ i
pred_le j i h = omega arith

-- what holds below i and at i holds below the next
next : {i : ℕ} (Good : ℕ → Type 0) → ((j : ℕ) → j < i → Good j) → Good i → (j : ℕ) → j < suc i → Good j
next {i} Good below ok j h = ⊎_elim (λ e. subst Good (sym e) ok) (λ l. below j (omega arith)) (eq-or-lt_of_le (pred_le j i h))

module _ {A : Type 0} (checks : ℕ → Outcome A → Outcome A) where
  -- the same over m indices, from the lowest: those before k are Good where k is reached
  pub all-says : (P : Outcome A → Type 0) (Good : ℕ → Type 0) (m : ℕ) (rest : Outcome A)
      → ((k : ℕ) → k < m → ((j : ℕ) → j < k → Good j) → (later : Outcome A) → (Good k → P later) → P (checks k later))
      → (((k : ℕ) → k < m → Good k) → P rest) → P (require_all checks 0 m rest)
  unfolding require_all
  all-says P Good m rest one last = from m 0 (zero-add m) (λ j h. absurd (omega arith))
    where
      from : (n i : ℕ) → i + n ≡ m → ((j : ℕ) → j < i → Good j) → P (require_all checks i n rest)
      from zero i e below = last (λ k h. below k (omega arith))
      from (suc n) i e below =
          one i (omega arith) below (require_all checks (suc i) n rest)
          (λ ok. from n (suc i) (omega arith) (next Good below ok))

  -- each index passes
  pub all-passed : (n i : ℕ) (rest : Outcome A) → ((k : ℕ) → i ≤ k → k < i + n → (later : Outcome A) → checks k later ≡ later)
      → require_all checks i n rest ≡ rest
  unfolding require_all
  all-passed zero i rest h = refl
  all-passed (suc n) i rest h =
      h i (omega arith) (omega arith) _ ∙ all-passed n (suc i) rest (λ k a b. h k (omega arith) (omega arith))

  -- each index before k passes, and k does not
  pub all_first : (n i k : ℕ) (rest out : Outcome A) → i ≤ k → k < i + n
      → ((j : ℕ) → i ≤ j → j < k → (later : Outcome A) → checks j later ≡ later) → ((later : Outcome A) → checks k later ≡ out)
      → require_all checks i n rest ≡ out
  unfolding require_all
  all_first zero i k rest out l h pass stop = absurd (omega arith)
  all_first (suc n) i k rest out l h pass stop =
      ⊎_elim
      (λ e. rw e (stop _))
      (λ m.
      pass i (omega arith) m _
      ∙ all_first n (suc i) k rest out (omega arith) (omega arith) (λ j a b. pass j (omega arith) b) stop)
      (eq-or-lt_of_le l)

  -- as a loop makes it: at i, of the indices below n
  pub all_start : (n : ℕ) (rest : Outcome A) → require_all checks 0 (n - 0) rest ≡ require_all checks 0 n rest
  all_start n rest = simp sub-zero

  all-next : (i n : ℕ) (rest : Outcome A) → i < n
      → require_all checks i (n - i) rest ≡ checks i (require_all checks (i + 1) (n - (i + 1)) rest)
  unfolding require_all
  all-next i n rest h = rw (more i n h, add-one i)
    where
      more : (i n : ℕ) → i < n → n - i ≡ suc (n - (i + 1))
      more i n h = omega arith

  -- one turn of the loop: the check of i stops the search, or lets it go on
  pub all-stop : (i n : ℕ) (rest : Outcome A) {whole out : Outcome A} → i < n → require_all checks i (n - i) rest ≡ whole
      → ((later : Outcome A) → checks i later ≡ out) → out ≡ whole
  all-stop i n rest h e stop = sym (stop _) ∙ sym (all-next i n rest h) ∙ e

  pub all_pass : (i n : ℕ) (rest : Outcome A) {whole : Outcome A} → i < n → require_all checks i (n - i) rest ≡ whole
      → ((later : Outcome A) → checks i later ≡ later) → require_all checks (i + 1) (n - (i + 1)) rest ≡ whole
  all_pass i n rest h e pass = sym (pass _) ∙ sym (all-next i n rest h) ∙ e

  pub all_end : (i n : ℕ) (rest : Outcome A) → n ≤ i → require_all checks i (n - i) rest ≡ rest
  unfolding require_all
  all_end i n rest h = rw (none i n h)
    where
      none : (i n : ℕ) → n ≤ i → n - i ≡ 0
      none i n h = omega arith

-- a refusal stays, whatever would follow
told-stays : {A B : Type 0} (k : ℕ) (i : Option ℕ) (rest : A → Outcome B) → and_then (told k i) rest ≡ told k i
told-stays k None rest = refl
told-stays k (Some i) rest = refl

pub refused-stays : {A B : Type 0} (e : Refusal) (rest : A → Outcome B) → and_then (refused_by e) rest ≡ refused_by e
refused-stays e rest = told-stays (number_of e) (index_of e) rest

-- checks that refuse alone as they do before others
module _ (checks : (A : Type 0) → ℕ → Outcome A → Outcome A)
    (alone : (A : Type 0) (i : ℕ) (later : Outcome A) → checks A i later ≡ and_then (checks (Unit {0}) i (answered (tt {0}))) (λ y. later)) where
  pub one_passed : {A : Type 0} (i : ℕ) (x : Unit {0}) (later : Outcome A) → checks (Unit {0}) i (answered (tt {0})) ≡ answered x → checks A i later ≡ later
  one_passed {A} i x later h = alone A i later ∙ ap (λ s. and_then s (λ y. later)) h

  pub one_stopped : {A : Type 0} (i : ℕ) (e : Refusal) (later : Outcome A) → checks (Unit {0}) i (answered (tt {0})) ≡ refused_by e
      → checks A i later ≡ refused_by e
  one_stopped {A} i e later h = alone A i later ∙ ap (λ s. and_then s (λ y. later)) h ∙ refused-stays e (λ y. later)

  and-and : {A : Type 0} (s q : Outcome (Unit {0})) (later : Outcome A)
      → and_then s (λ y. and_then q (λ y. later)) ≡ and_then (and_then s (λ y. q)) (λ y. later)
  and-and (answered x) q later = refl
  and-and (refused k) q later = refl
  and-and (refused_at k i) q later = refl

  all-then : {A : Type 0} (n i : ℕ) (rest : Outcome A)
      → require_all (checks A) i n rest ≡ and_then (require_all (checks (Unit {0})) i n (answered (tt {0}))) (λ y. rest)
  unfolding require_all
  all-then {A} zero i rest = refl
  all-then {A} (suc n) i rest =
      alone A i _
      ∙ ap (λ r. and_then (checks (Unit {0}) i (answered (tt {0}))) (λ y. r)) (all-then n (suc i) rest)
      ∙ and-and (checks (Unit {0}) i (answered (tt {0}))) (require_all (checks (Unit {0})) (suc i) n (answered (tt {0}))) rest
      ∙ ap (λ s. and_then s (λ y. rest)) (sym (alone (Unit {0}) i _))

  pub each_passed : {A : Type 0} (n : ℕ) (x : Unit {0}) (rest : Outcome A) → require_all (checks (Unit {0})) 0 n (answered (tt {0})) ≡ answered x
      → require_all (checks A) 0 n rest ≡ rest
  each_passed n x rest h = all-then n 0 rest ∙ ap (λ s. and_then s (λ y. rest)) h

  pub each_stopped : {A : Type 0} (n : ℕ) (e : Refusal) (rest : Outcome A) → require_all (checks (Unit {0})) 0 n (answered (tt {0})) ≡ refused_by e
      → require_all (checks A) 0 n rest ≡ refused_by e
  each_stopped n e rest h = all-then n 0 rest ∙ ap (λ s. and_then s (λ y. rest)) h ∙ refused-stays e (λ y. rest)
