-- A list whose first places are the items of a vector: by equal items, with one place stored, and written over again.
use mathlib.Core.List.{List, ◌++◌}
use mathlib.Core.Logic.{⊎_elim}
use mathlib.Core.Path.{◌≡◌, refl, sym, ap, ap₂, ◌∙◌}
use Prim.Native.Nat.{ℕ, zero, suc, ◌≤◌, ◌<◌}
use native.Mathlib.Nat.{eq-or-lt_of_le}
use native.Mathlib.Numerals.{add-one}
use native.Mathlib.Omega.{arith}
use lib.ListN.{length, set, drop, replicate}
use Rattle.std.proofs.lemmas.List.Edits.{fill_more}
use lib.Seq.{set-set, set_comm}
use Rattle.vector.specs.Vector.{Vector}
use Rattle.vector.specs.Slice.{overwrite}

pub overwrite-same : (u v : Vector) (h : ℕ) (xs : List ℕ) → ((i : ℕ) → i < h → u i ≡ v i) → overwrite u h xs ≡ overwrite v h xs
unfolding overwrite
overwrite-same u v zero xs e = refl
overwrite-same u v (suc h) xs e =
    ap₂ (λ ys x. set ys h x) (overwrite-same u v h xs (λ i l. e i (omega arith))) (e h (omega arith))

-- one place stored: the items of v are those of u but for the one at r
pub overwrite-stored : (u v : Vector) (h r x : ℕ) (xs : List ℕ) → r < h → x ≡ v r → ((i : ℕ) → i < h → (i ≡ r → ⊥) → u i ≡ v i)
    → set (overwrite u h xs) r x ≡ overwrite v h xs
unfolding overwrite
overwrite-stored u v zero r x xs less here other = absurd (omega arith)
overwrite-stored u v (suc h) r x xs less here other =
    ⊎_elim
    (λ (last : r ≡ h).
    ap (λ k. set (set (overwrite u h xs) h (u h)) k x) last
    ∙ set-set (overwrite u h xs) h (u h) x
    ∙ ap₂ (λ ys y. set ys h y) (overwrite-same u v h xs (λ i l. other i (omega arith) (λ q. omega arith))) (here ∙ ap v last))
    (λ (below : r < h).
    set_comm (overwrite u h xs) h r (u h) x (λ q. omega arith)
    ∙ ap₂ (λ ys y. set ys h y)
    (overwrite-stored u v h r x xs below here (λ i l q. other i (omega arith) q))
    (other h (omega arith) (λ q. omega arith)))
    (eq-or-lt_of_le (omega arith))

-- a place past those that are written
overwrite-past : (u : Vector) (h k x : ℕ) (xs : List ℕ) → h ≤ k → overwrite u h (set xs k x) ≡ set (overwrite u h xs) k x
unfolding overwrite
overwrite-past u zero k x xs le = refl
overwrite-past u (suc h) k x xs le =
    ap (λ ys. set ys h (u h)) (overwrite-past u h k x xs (omega arith))
    ∙ set_comm (overwrite u h xs) k h x (u h) (λ q. omega arith)

pub overwrite-again : (u v : Vector) (h : ℕ) (xs : List ℕ) → overwrite v h (overwrite u h xs) ≡ overwrite v h xs
unfolding overwrite
overwrite-again u v zero xs = refl
overwrite-again u v (suc h) xs =
    ap (λ ys. set ys h (v h)) (overwrite-past v h h (u h) (overwrite u h xs) (omega arith))
    ∙ set-set (overwrite v h (overwrite u h xs)) h (u h) (v h)
    ∙ ap (λ ys. set ys h (v h)) (overwrite-again u v h xs)

-- zeros in the first places, as `fill` leaves them
pub overwrite-zeros : (h : ℕ) (xs : List ℕ) → h ≤ length xs → replicate h 0 ++ drop h xs ≡ overwrite (λ i. 0) h xs
unfolding overwrite
overwrite-zeros zero xs le = refl
overwrite-zeros (suc h) xs le =
    ap (λ k. replicate k 0 ++ drop k xs) (sym (add-one h))
    ∙ sym (fill_more h 0 xs (omega arith))
    ∙ ap (λ ys. set ys h 0) (overwrite-zeros h xs (omega arith))
