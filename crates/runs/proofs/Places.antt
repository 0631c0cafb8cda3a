-- Places of a buffer: none written, one written, some cleared, or one where a count says so.
use mathlib.Core.Path.{◌≡◌, refl, sym, ap, ◌∙◌}
use mathlib.Core.Bool.{cond}
use mathlib.Core.List.{List}
use mathlib.Core.Logic.{⊎_elim}
use Prim.Native.Nat.{ℕ, zero, suc, ◌+◌, ◌-◌, ◌*◌, ◌/◌, ◌%◌, ◌^◌, ◌<◌, ◌≤◌}
use native.Mathlib.Nat.{eq-or-lt_of_le, mod-lt}
use native.Mathlib.Decide.{dec_le}
use native.Mathlib.Omega.{arith}
use borrow.Author.Tests.{eq-eqb, ne_eqb}
use lib.Dec.{eqb}
use lib.ListN.{length, set, length-set}
use lib.Pow.{high, split, pow_pos}
use lib.Seq.{get_or-set_same, get_or-set_other}
use Rattle.algebra.proofs.Primes.{by_dec}
use Rattle.vector.specs.Vector.{Vector, at}
use Rattle.vector.proofs.Arrivals.{multiple_completes}
use Rattle.pass.specs.Lent.{cleared}
use Rattle.runs.specs.Buffers.{Unchanged, Written}

-- no item of level i is complete at any other count
count-stays : (i t : ℕ) → (suc t % 2 ^ i ≡ 0 → ⊥) → suc t / 2 ^ i ≡ t / 2 ^ i
count-stays i t ne =
    let q : ℕ = suc t / 2 ^ i in
    let low : suc t % 2 ^ i < 2 ^ i = mod-lt (suc t) (pow_pos i) in
    let rest : q * 2 ^ i + (suc t % 2 ^ i - 1) ≡ t = omega (arith, split (suc t) i, ne) in
    sym (high q i (omega arith)) ∙ ap (λ x. x / 2 ^ i) rest

-- what is written stays within its places
pub written-kept : (v : Vector) (from to : ℕ) (before after : List ℕ) → Written v from to before after → Unchanged from to before after
written-kept v from to before after w = record { size = w.size; below = w.below; above = w.above }

-- nothing written
none_written : (v : Vector) (from to : ℕ) (xs : List ℕ) → from ≡ to → Written v from to xs xs
none_written v from to xs e =
    record { size = refl; wrote = λ j l m. absurd (omega arith); below = λ j l. refl; above = λ j l. refl }

none_kept : (from to : ℕ) (xs : List ℕ) → Unchanged from to xs xs
none_kept from to xs = record { size = refl; below = λ j l. refl; above = λ j l. refl }

-- one place written
module _ (from to place x : ℕ) (xs : List ℕ) (first : place ≡ from) (next : to ≡ suc from) where
  one_kept : Unchanged from to xs (set xs place x)
  one_kept =
      record {
        size = length-set xs place x;
        below = λ j l. get_or-set_other xs place j x 0 (omega arith);
        above = λ j l. get_or-set_other xs place j x 0 (omega arith);
      }

  one_written : (v : Vector) → from < length xs → x ≡ v from → Written v from to xs (set xs place x)
  one_written v within e =
      record {
        size = one_kept.size;
        wrote = λ j l m.
            let here : j ≡ place = omega arith in
            let same : from ≡ j = omega arith in
            ap (at (set xs place x)) here ∙ get_or-set_same xs place x 0 (omega arith) ∙ e ∙ ap v same;
        below = one_kept.below;
        above = one_kept.above;
      }

-- k places from one on become zero
pub cleared-kept : (from k : ℕ) (xs : List ℕ) → Unchanged from (from + k) xs (cleared from k xs)
unfolding cleared
cleared-kept from zero xs = none_kept from (from + zero) xs
cleared-kept from (suc k) xs =
    let rest = cleared-kept from k xs in
    record {
      size = length-set (cleared from k xs) (from + k) 0 ∙ rest.size;
      below = λ j l. get_or-set_other (cleared from k xs) (from + k) j 0 0 (omega arith) ∙ rest.below j l;
      above = λ j l. get_or-set_other (cleared from k xs) (from + k) j 0 0 (omega arith) ∙ rest.above j (omega arith);
    }

pub cleared-zero : (from k : ℕ) (xs : List ℕ) → from + k ≤ length xs → (j : ℕ) → from ≤ j → j < from + k → at (cleared from k xs) j ≡ 0
unfolding cleared
cleared-zero from zero xs fits j l m = absurd (omega arith)
cleared-zero from (suc k) xs fits j l m =
    ⊎_elim
    (λ (e : j ≡ from + k).
    ap (at (set (cleared from k xs) (from + k) 0)) e
    ∙ get_or-set_same (cleared from k xs) (from + k) 0 0 (omega (arith, (cleared-kept from k xs).size)))
    (λ (less : j < from + k).
    get_or-set_other (cleared from k xs) (from + k) j 0 0 (omega arith) ∙ cleared-zero from k xs (omega arith) j l less)
    (eq-or-lt_of_le (omega arith))

-- the place S - 1 - t / 2^i, where a level is i, as it is just where t + 1 is a multiple of 2^i
module _ (i t S level place x : ℕ) (xs : List ℕ) (there : place ≡ S - 1 - t / 2 ^ i) (room : suc t / 2 ^ i ≤ S)
    (last : suc t % 2 ^ i ≡ 0 → level ≡ i) (before : (suc t % 2 ^ i ≡ 0 → ⊥) → level < i) where
  abbrev pub placed : List ℕ
  placed = cond (eqb level i) (set xs place x) xs

  by_count : (C : List ℕ → Type 0) → (suc t / 2 ^ i ≡ suc (t / 2 ^ i) → suc t % 2 ^ i ≡ 0 → C (set xs place x)) → (suc t / 2 ^ i ≡ t / 2 ^ i → C xs) → C placed
  by_count C done waits =
      by_dec (dec_le (suc t % 2 ^ i) 0)
      (λ l. let e : suc t % 2 ^ i ≡ 0 = omega arith in rw (eq-eqb level i (last e)) (done (multiple_completes i t e) e))
      (λ l. let ne : suc t % 2 ^ i ≡ 0 → ⊥ = λ e. l (omega arith) in rw (ne_eqb level i (λ e. omega (arith, before ne))) (waits (count-stays i t ne)))

  pub placed-kept : Unchanged (S - suc t / 2 ^ i) (S - t / 2 ^ i) xs placed
  placed-kept =
      by_count (Unchanged (S - suc t / 2 ^ i) (S - t / 2 ^ i) xs)
      (λ up e. one_kept (S - suc t / 2 ^ i) (S - t / 2 ^ i) place x xs (omega arith) (omega arith))
      (λ still. none_kept (S - suc t / 2 ^ i) (S - t / 2 ^ i) xs)

  pub placed-written : (v : Vector) → S ≤ length xs → (suc t % 2 ^ i ≡ 0 → x ≡ v (S - suc t / 2 ^ i)) → Written v (S - suc t / 2 ^ i) (S - t / 2 ^ i) xs placed
  placed-written v long value =
      by_count (Written v (S - suc t / 2 ^ i) (S - t / 2 ^ i) xs)
      (λ up e. one_written (S - suc t / 2 ^ i) (S - t / 2 ^ i) place x xs (omega arith) (omega arith) v (omega arith) (value e))
      (λ still. none_written v (S - suc t / 2 ^ i) (S - t / 2 ^ i) xs (omega arith))
