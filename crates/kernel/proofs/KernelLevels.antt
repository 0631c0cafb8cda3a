-- The levels of the stacks after t pairs, whatever the pairs: the binary ones of t.
use mathlib.Core.Path.{◌≡◌, refl, sym, ap, ◌∙◌}
use mathlib.Core.Bool.{Bool, true, false, cond}
use mathlib.Core.List.{List, [], ◌∷◌}
use Prim.Native.Nat.{ℕ, zero, suc, ◌^◌, ◌<◌, ◌≤◌}
use native.Mathlib.Numerals.{add-one}
use native.Mathlib.Omega.{arith}
use lib.Dec.{eqb}
use lib.ListN.{length}
use Rattle.kernel.specs.declared.Points.{Points}
use Rattle.kernel.specs.declared.Kernel.{Kernel}
use Rattle.vector.specs.Vector.{bit, at as items}
use Rattle.vector.specs.Fold.{Pair, combine_pair}
use Rattle.vector.specs.Stack.{Stack, entries, ones, ones_from, levels}
use Rattle.kernel.specs.Kernel.{entered, padding_below, padding_kernel}
use Rattle.kernel.specs.KernelView.{ones_below, stack_f, stack_g, stack_pairs, Paired}
use Rattle.vector.proofs.Machine.{enter}
use Rattle.vector.proofs.StackLaw.{enter-item}
use Rattle.vector.proofs.StackCount.{ones_below_lem, entries-count, entries-levels}
use Rattle.vector.proofs.StackImage.{map_values, enter-image}
use Rattle.vector.proofs.Padding.{equal_from}
use Rattle.kernel.proofs.KernelArrays.{pairs_count, first-stack, second-stack}
use Rattle.kernel.proofs.KernelMachine.{arriving, meeting, gathering, entered-enter, entered-paired}
use Rattle.kernel.proofs.KernelPadding.{zero_below, below-paired, below-pairs}

-- k has the levels below a height after t pairs
pub record LevelledBelow (height t : ℕ) (k : Kernel) : Type 0 where
  pub paired : Paired k
  pub places : levels (stack_pairs k) ≡ ones_below t height

-- those of a pass to level i
abbrev pub Levelled : ℕ → ℕ → Kernel → Type 0
Levelled i t k = LevelledBelow (suc i) t k

pub map_levels : {A B : Type 0} (h : A → B) (st : Stack A) → levels (map_values h st) ≡ levels st
unfolding levels map_values
map_levels h [] = refl
map_levels h (e ∷ rest) = ap (λ l. e.0 ∷ l) (map_levels h rest)

levels-count : {A : Type 0} (st : Stack A) → length (levels st) ≡ length st
unfolding levels
levels-count [] = refl
levels-count (e ∷ rest) = ap suc (levels-count rest)

-- a stack with its values left out is its levels
pub bare_of : List ℕ → Stack (Unit {0})
bare_of [] = []
bare_of (l ∷ ls) = (l, tt) ∷ bare_of ls

pub bare_levels : (st : Stack (Unit {0})) → bare_of (levels st) ≡ st
unfolding levels bare_of
bare_levels [] = refl
bare_levels (e ∷ rest) = ap (λ st. e ∷ st) (bare_levels rest)

abbrev pub still : ℕ → Unit {0} → Unit {0} → Unit {0}
still c even odd = tt

-- the stack of any vector with its values left out
abbrev pub bare_entries : (ℕ → ℕ) → ℕ → ℕ → ℕ → Stack (Unit {0})
bare_entries c n t i = entries still c n (λ j. tt) t i

pub ones-count : (t i : ℕ) → length (ones_from t 0 i) ≡ ones (suc i) t
ones-count t i =
    let c : ℕ → ℕ = λ j. 0 in
    ap length (sym (entries-levels still c 0 (λ j. tt) t i)) ∙ levels-count (bare_entries c 0 t i) ∙ entries-count still c 0 (λ j. tt) t i

below_length : (t height : ℕ) → length (ones_below t height) ≡ ones height t
unfolding ones
below_length t zero = refl
below_length t (suc i) = ones-count t i

module _ (height t : ℕ) (k : Kernel) (h : LevelledBelow height t k) where
  -- the stack of each vector: one entry for each binary one of t at a place below the height
  pub below-first : levels (stack_f k) ≡ ones_below t height
  below-first = ap levels (sym (first-stack k h.paired)) ∙ map_levels (λ (e : Pair). e.0) (stack_pairs k) ∙ h.places

  pub below-second : levels (stack_g k) ≡ ones_below t height
  below-second = ap levels (sym (second-stack k h.paired)) ∙ map_levels (λ (e : Pair). e.1) (stack_pairs k) ∙ h.places

  pub below-count : k.fcount ≡ ones height t
  below-count =
      sym (pairs_count k.flevels k.fvalues k.gvalues k.fcount) ∙ sym (levels-count (stack_pairs k)) ∙ ap length h.places ∙ below_length t height

module _ (i t : ℕ) (k : Kernel) (h : Levelled i t k) where
  pub levelled_first : levels (stack_f k) ≡ ones_from t 0 i
  levelled_first = below-first (suc i) t k h

  pub levelled_second : levels (stack_g k) ≡ ones_from t 0 i
  levelled_second = below-second (suc i) t k h

  pub levelled_count : k.fcount ≡ ones (suc i) t
  levelled_count = below-count (suc i) t k h

  -- one more pair, whatever it is
  pub levelled_item : (n : ℕ) → n ≤ 15 → i ≤ n → t < 2 ^ n → (p : ℕ) (cs : List ℕ) (at : Points) (f g : ℕ) → Levelled i (suc t) (entered p cs i at k f g)
  levelled_item n hn hi ht p cs at f g = record { paired = entered-paired p cs i at k h.paired room (omega arith) f g; places = places }
    where
      room : k.fcount ≤ 15
      room = rw levelled_count (omega (arith, ones_below_lem n (suc i) t ht))

      nothing : Unit {0}
      nothing = tt

      next : Kernel
      next = entered p cs i at k f g

      before : map_values (λ (a : Pair). tt) (stack_pairs k) ≡ bare_entries (items cs) n t i
      before =
          sym (bare_levels (map_values (λ (a : Pair). tt) (stack_pairs k)))
          ∙ ap bare_of (map_levels (λ (a : Pair). tt) (stack_pairs k) ∙ h.places ∙ sym (entries-levels still (items cs) n (λ j. tt) t i))
          ∙ bare_levels (bare_entries (items cs) n t i)

      after : map_values (λ (a : Pair). tt) (stack_pairs next) ≡ bare_entries (items cs) n (suc t) i
      after =
          ap (λ r. map_values (λ (a : Pair). tt) r.0) (sym (entered-enter p cs i at k h.paired room (omega arith) f g))
          ∙ enter-image (combine_pair p) still (λ a. tt) (λ c even odd. refl) (items cs) (arriving p at) (meeting p) (λ k a m. m) (λ even odd m. m) i 0 (f, g) (stack_pairs k) (gathering k) nothing
          ∙ ap (λ st. (enter still (λ k a m. m) (λ even odd m. m) (items cs) i 0 tt st nothing).0) before
          ∙ ap (λ r. r.0) (enter-item still (items cs) n (λ j. tt) (λ k a m. m) (λ even odd m. m) i hi t ht nothing)

      places : levels (stack_pairs next) ≡ ones_from (suc t) 0 i
      places = sym (map_levels (λ (a : Pair). tt) (stack_pairs next)) ∙ ap levels after ∙ entries-levels still (items cs) n (λ j. tt) (suc t) i

equal_levels : {A : Type 0} (z : A) (t k m : ℕ) → levels (equal_from z t k m) ≡ ones_from t k m
unfolding equal_from ones_from levels
equal_levels {A} z t k zero = by (eqb (bit k t) 1)
  where
    by : (b : Bool) → levels {A = A} (cond b ((k, z) ∷ []) []) ≡ cond b (k ∷ []) []
    by true = refl
    by false = refl
equal_levels {A} z t k (suc m) = by (eqb (bit k t) 1) (equal_levels z t (suc k) m)
  where
    by : (b : Bool) → levels (equal_from z t (suc k) m) ≡ ones_from t (suc k) m
        → levels (cond b ((k, z) ∷ equal_from z t (suc k) m) (equal_from z t (suc k) m)) ≡ cond b (k ∷ ones_from t (suc k) m) (ones_from t (suc k) m)
    by true e = ap (λ l. k ∷ l) e
    by false e = e

none : levels {A = Pair} [] ≡ []
unfolding levels
none = refl

-- the padding taken
pub padding-below : (t height : ℕ) → height ≤ 16 → LevelledBelow height t (padding_below t height)
padding-below t height h = record { paired = below-paired t height h; places = ap levels (below-pairs t height h) ∙ go height }
  where
    go : (height : ℕ) → levels (zero_below t height) ≡ ones_below t height
    go zero = none
    go (suc i) = equal_levels (0, 0) t 0 i

pub levelled_padding : (t i : ℕ) → i ≤ 15 → Levelled i t (padding_kernel t i)
levelled_padding t i h = rw (add-one i) (padding-below t (suc i) (omega arith))
