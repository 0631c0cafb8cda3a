-- A small pass over a list of pairs, the newest first: a full list is the vectors in the order of the index.
use mathlib.Core.Path.{◌≡◌, sym, ap, subst, ◌∙◌}
use mathlib.Core.List.{List, [], ◌∷◌}
use Prim.Native.Nat.{ℕ, zero, suc, ◌+◌, ◌-◌, ◌^◌, ◌<◌, ◌≤◌}
use native.Mathlib.Nat.{add-suc, add-zero, zero-add}
use native.Mathlib.Omega.{arith}
use lib.ListN.{length, get_or}
use Rattle.kernel.specs.declared.Points.{Points}
use Rattle.kernel.specs.declared.Kernel.{Kernel}
use Rattle.vector.specs.Vector.{Vector, at as items}
use Rattle.vector.specs.Fold.{Pair, beside}
use Rattle.kernel.specs.Kernel.{entered, streamed, empty_kernel, padding_kernel}
use Rattle.kernel.proofs.KernelPass.{Taken, taken_item}
use Rattle.kernel.proofs.KernelOpen.{taken_none, taken-padding}
use Rattle.kernel.proofs.KernelLevels.{Levelled, levelled_item, levelled_padding}

module _ (p : ℕ) (cs : List ℕ) (last : ℕ) (at : Points) (start : Kernel) where
  unfoldable pub kernel_of : List Pair → Kernel
  kernel_of [] = start
  kernel_of (x ∷ xs) = entered p cs last at (kernel_of xs) x.0 x.1

module _ (p n : ℕ) (c : ℕ → ℕ) (i : ℕ) (at : Points) (f g : Vector) (hn : n ≤ 15) (hi : i ≤ n)
    (cs : List ℕ) (agree : (j : ℕ) → j < i → items cs j ≡ c j) where
  -- from a kernel that has taken t items, with the next ones
  pub taken-list : (t : ℕ) (k : Kernel) → Taken p n c i at f g t k → (xs : List Pair) → t + length xs ≤ 2 ^ n
      → ((q : ℕ) → q < length xs → get_or xs q (0, 0) ≡ beside f g (2 ^ n - (t + length xs) + q))
      → Taken p n c i at f g (t + length xs) (kernel_of p cs i at k xs)
  unfolding kernel_of
  taken-list t k h [] fits same = rw (add-zero t) h
  taken-list t k h (x ∷ xs) fits same =
      let t' : ℕ = t + length xs in
      let rest : Taken p n c i at f g t' (kernel_of p cs i at k xs) =
      taken-list t k h xs (omega arith)
      (λ q l. same (suc q) (omega arith) ∙ ap (beside f g) (let e : 2 ^ n - (t + suc (length xs)) + suc q ≡ 2 ^ n - (t + length xs) + q = omega arith in e)) in
      let place : 2 ^ n - (t + suc (length xs)) + 0 ≡ 2 ^ n - 1 - t' = omega arith in
      let new : beside f g (2 ^ n - 1 - t') ≡ x = sym (same 0 (omega arith) ∙ ap (beside f g) place) in
      rw (add-suc t (length xs))
      (subst (λ y. Taken p n c i at f g (suc t') (entered p cs i at (kernel_of p cs i at k xs) y.0 y.1)) new
      (taken_item p n c i at f g hn hi cs agree t' (omega arith) (kernel_of p cs i at k xs) rest))

  -- A PASS: the padding and the last a of the L items
  pub taken_pass : (count : ℕ) → count ≤ 2 ^ n → ((j : ℕ) → count ≤ j → f j ≡ 0) → ((j : ℕ) → count ≤ j → g j ≡ 0)
      → (xs : List Pair) → length xs ≤ count → ((q : ℕ) → q < length xs → get_or xs q (0, 0) ≡ beside f g (count - length xs + q))
      → Taken p n c i at f g (2 ^ n - count + length xs) (kernel_of p cs i at (padding_kernel (2 ^ n - count) i) xs)
  taken_pass count fits zf zg xs within same =
      taken-list (2 ^ n - count) (padding_kernel (2 ^ n - count) i) (taken-padding p n c i at f g hn hi count fits zf zg) xs (omega arith)
      (λ q l. same q l ∙ ap (beside f g) (let e : count - length xs + q ≡ 2 ^ n - (2 ^ n - count + length xs) + q = omega arith in e))

  -- all L of them: the list is f beside g
  pub taken-whole : (xs : List Pair) → length xs ≤ 2 ^ n → ((j : ℕ) → length xs ≤ j → f j ≡ 0) → ((j : ℕ) → length xs ≤ j → g j ≡ 0)
      → ((q : ℕ) → q < length xs → get_or xs q (0, 0) ≡ beside f g q)
      → Taken p n c i at f g (2 ^ n) (kernel_of p cs i at (padding_kernel (2 ^ n - length xs) i) xs)
  taken-whole xs fits zf zg same =
      let whole : 2 ^ n - length xs + length xs ≡ 2 ^ n = omega arith in
      subst (λ t. Taken p n c i at f g t (kernel_of p cs i at (padding_kernel (2 ^ n - length xs) i) xs)) whole
      (taken_pass (length xs) fits zf zg xs (omega arith)
      (λ q l. same q l ∙ ap (beside f g) (let e : q ≡ length xs - length xs + q = omega arith in e)))

-- the levels after any pairs
pub levelled_list : (n i : ℕ) → n ≤ 15 → i ≤ n → (p : ℕ) (cs : List ℕ) (at : Points) (t : ℕ) (xs : List Pair) → t + length xs ≤ 2 ^ n
    → Levelled i (t + length xs) (kernel_of p cs i at (padding_kernel t i) xs)
unfolding kernel_of
levelled_list n i hn hi p cs at t [] fits = rw (add-zero t) (levelled_padding t i (omega arith))
levelled_list n i hn hi p cs at t (x ∷ xs) fits =
    rw (add-suc t (length xs))
    (levelled_item i (t + length xs) (kernel_of p cs i at (padding_kernel t i) xs) (levelled_list n i hn hi p cs at t xs (omega arith))
    n hn hi (omega arith) p cs at x.0 x.1)

-- A PASS OVER TWO LISTS that hold f and g, from last item to first
module _ (p n : ℕ) (c : ℕ → ℕ) (i : ℕ) (at : Points) (f g : Vector) (hn : n ≤ 15) (hi : i ≤ n) (cs : List ℕ) (agree : (j : ℕ) → j < i → items cs j ≡ c j)
    (fs gs : List ℕ) (first : (k : ℕ) → k < 2 ^ n → items fs k ≡ f k) (second : (k : ℕ) → k < 2 ^ n → items gs k ≡ g k) where
  place-taken : (t m : ℕ) (k : Kernel) → t < 2 ^ n → 2 ^ n - 1 - t ≡ m → Taken p n c i at f g t k
      → Taken p n c i at f g (suc t) (entered p cs i at k (items fs m) (items gs m))
  place-taken t m k h place x =
      let less : m < 2 ^ n = omega arith in
      let one : f (2 ^ n - 1 - t) ≡ items fs m = ap f place ∙ sym (first m less) in
      let two : g (2 ^ n - 1 - t) ≡ items gs m = ap g place ∙ sym (second m less) in
      subst (λ y. Taken p n c i at f g (suc t) (entered p cs i at k (items fs m) y)) two
      (subst (λ y. Taken p n c i at f g (suc t) (entered p cs i at k y (g (2 ^ n - 1 - t)))) one (taken_item p n c i at f g hn hi cs agree t h k x))

  -- t places were taken and m are left
  pub streamed-taken : (m t : ℕ) → t + m ≡ 2 ^ n → (k : Kernel) → Taken p n c i at f g t k → Taken p n c i at f g (2 ^ n) (streamed p cs i at (items fs) (items gs) m k)
  unfolding streamed
  streamed-taken zero t e k x = subst (λ v. Taken p n c i at f g v k) (sym (add-zero t) ∙ e) x
  streamed-taken (suc m) t e k x =
      streamed-taken m (suc t) (omega arith) (entered p cs i at k (items fs m) (items gs m)) (place-taken t m k (omega arith) (omega arith) x)

  pub whole-stream : Taken p n c i at f g (2 ^ n) (streamed p cs i at (items fs) (items gs) (2 ^ n) empty_kernel)
  whole-stream = streamed-taken (2 ^ n) 0 (zero-add (2 ^ n)) empty_kernel (taken_none p n c i at f g hn hi)
