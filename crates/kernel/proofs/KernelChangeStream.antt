-- A change pass over a list of pairs, the newest first.
use mathlib.Core.Path.{◌≡◌, refl, sym, ap, subst, ◌∙◌}
use mathlib.Core.Bool.{Bool, true, false, cond}
use mathlib.Core.List.{List, [], ◌∷◌}
use Prim.Native.Nat.{ℕ, suc, ◌+◌, ◌-◌, ◌^◌, ◌<◌, ◌≤◌}
use native.Mathlib.Nat.{add-suc, add-zero}
use native.Mathlib.Omega.{arith}
use lib.ListN.{length, get_or}
use Rattle.vector.specs.Vector.{Vector, at as items}
use Rattle.vector.specs.Fold.{Pair, beside}
use Rattle.kernel.specs.declared.Kernel.{Kernel}
use Rattle.kernel.specs.Kernel.{fits, climber_in, padding_below}
use Rattle.kernel.specs.Change.{Placed, placed_at, placed_kernel, placed}
use Rattle.kernel.specs.KernelView.{Paired}
use Rattle.kernel.proofs.KernelSteps.{fits-so}
use Rattle.kernel.proofs.KernelLevels.{LevelledBelow, padding-below}
use Rattle.kernel.proofs.KernelChange.{left_kernel}
use Rattle.kernel.proofs.KernelChangePass.{Changing, changing-padding, changing-item, levelled_left}

-- the kernel of a change pass does not look at its buffers
pub placed-kernel : (p : ℕ) (cs : List ℕ) (last size t : ℕ) (s : Placed) (f g : ℕ) → (placed p cs last size t s f g).kernel ≡ placed_kernel p cs last s.kernel f g
unfolding placed
placed-kernel p cs last size t s f g = go (fits last s.kernel)
  where
    go : (b : Bool)
        → (cond b (placed_at last size t s (climber_in p cs last s.kernel f g)) s).kernel ≡ cond b (left_kernel last s.kernel (climber_in p cs last s.kernel f g)) s.kernel
    go true = refl
    go false = refl

pub kernel_left : (p : ℕ) (cs : List ℕ) (last : ℕ) (k : Kernel) (f g : ℕ) → last ≤ 15 → Paired k → placed_kernel p cs last k f g ≡ left_kernel last k (climber_in p cs last k f g)
kernel_left p cs last k f g low pr =
    ap (λ b. cond b (left_kernel last k (climber_in p cs last k f g)) k) (fits-so last k.fcount k.gcount low pr.room pr.counts)

module _ (p : ℕ) (cs : List ℕ) (last : ℕ) (start : Kernel) where
  unfoldable pub change_of : List Pair → Kernel
  change_of [] = start
  change_of (x ∷ xs) = placed_kernel p cs last (change_of xs) x.0 x.1

-- the levels after any pairs
pub levelled_change : (n i : ℕ) → n ≤ 15 → i ≤ n → (p : ℕ) (cs : List ℕ) (t : ℕ) (xs : List Pair) → t + length xs ≤ 2 ^ n
    → LevelledBelow i (t + length xs) (change_of p cs i (padding_below t i) xs)
unfolding change_of
levelled_change n i hn hi p cs t [] fits = rw (add-zero t) (padding-below t i (omega arith))
levelled_change n i hn hi p cs t (x ∷ xs) fits =
    let rest : LevelledBelow i (t + length xs) (change_of p cs i (padding_below t i) xs) = levelled_change n i hn hi p cs t xs (omega arith) in
    rw (add-suc t (length xs))
    (subst (LevelledBelow i (suc (t + length xs))) (sym (kernel_left p cs i (change_of p cs i (padding_below t i) xs) x.0 x.1 (omega arith) rest.paired))
    (levelled_left n hn (t + length xs) (omega arith) p cs x.0 x.1 i hi (change_of p cs i (padding_below t i) xs) rest))

module _ (p n : ℕ) (c : ℕ → ℕ) (i : ℕ) (f g : Vector) (hn : n ≤ 15) (hi : i ≤ n) (cs : List ℕ) (agree : (j : ℕ) → j < i → items cs j ≡ c j) where
  -- from a kernel that has taken t items, with the next ones
  pub changing-list : (t : ℕ) (k : Kernel) → Changing p n c i f g t k → (xs : List Pair) → t + length xs ≤ 2 ^ n
      → ((q : ℕ) → q < length xs → get_or xs q (0, 0) ≡ beside f g (2 ^ n - (t + length xs) + q))
      → Changing p n c i f g (t + length xs) (change_of p cs i k xs)
  unfolding change_of
  changing-list t k h [] fits same = rw (add-zero t) h
  changing-list t k h (x ∷ xs) fits same =
      let t' : ℕ = t + length xs in
      let q : Kernel = change_of p cs i k xs in
      let rest : Changing p n c i f g t' q =
      changing-list t k h xs (omega arith)
      (λ q l. same (suc q) (omega arith) ∙ ap (beside f g) (let e : 2 ^ n - (t + suc (length xs)) + suc q ≡ 2 ^ n - (t + length xs) + q = omega arith in e)) in
      let place : 2 ^ n - (t + suc (length xs)) + 0 ≡ 2 ^ n - 1 - t' = omega arith in
      let new : beside f g (2 ^ n - 1 - t') ≡ x = sym (same 0 (omega arith) ∙ ap (beside f g) place) in
      rw (add-suc t (length xs))
      (subst (Changing p n c i f g (suc t')) (sym (kernel_left p cs i q x.0 x.1 (omega arith) rest.paired))
      (subst (λ y. Changing p n c i f g (suc t') (left_kernel i q (climber_in p cs i q y.0 y.1))) new
      (changing-item p n c f g hn cs t' (omega arith) i hi agree q rest)))

  -- A CHANGE PASS: the padding and the last a of the L items
  pub changing-pass : (count : ℕ) → count ≤ 2 ^ n → ((j : ℕ) → count ≤ j → f j ≡ 0) → ((j : ℕ) → count ≤ j → g j ≡ 0)
      → (xs : List Pair) → length xs ≤ count → ((q : ℕ) → q < length xs → get_or xs q (0, 0) ≡ beside f g (count - length xs + q))
      → Changing p n c i f g (2 ^ n - count + length xs) (change_of p cs i (padding_below (2 ^ n - count) i) xs)
  changing-pass count fits zf zg xs within same =
      changing-list (2 ^ n - count) (padding_below (2 ^ n - count) i) (changing-padding p n c i f g hn hi count fits zf zg) xs (omega arith)
      (λ q l. same q l ∙ ap (beside f g) (let e : count - length xs + q ≡ 2 ^ n - (2 ^ n - count + length xs) + q = omega arith in e))
