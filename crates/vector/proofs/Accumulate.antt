-- A running sum of products kept modulo p.
use mathlib.Core.Path.{◌≡◌, sym, ap, ap₂, ◌∙◌}
use Prim.Native.Nat.{ℕ, ◌+◌, ◌*◌}
use native.Mathlib.Numerals.{add-one}
use Rattle.algebra.specs.Mod.{residue, add_mod, mul_mod}
use Rattle.algebra.proofs.Congruence.{residue-zero, cong_residue, cong_add}
use Rattle.vector.specs.Vector.{Vector, sum}
use Rattle.vector.specs.Message.{even_sum, cross_sum, odd_sum}
use Rattle.vector.proofs.Sums.{sum-plus, running-product}

pub sum-next : (n : ℕ) (v : Vector) → sum n v + v n ≡ sum (n + 1) v
unfolding sum
sum-next n v = ap (λ k. sum k v) (sym (add-one n))

pub sum-none : (p : ℕ) (v : Vector) → 0 ≡ residue p (sum 0 v)
unfolding sum
sum-none p v = sym (residue-zero p)

pub add_product : (p s a b x : ℕ) → x ≡ residue p s → add_mod p x (mul_mod p a b) ≡ residue p (s + a * b)
add_product p s a b x e = ap (λ y. add_mod p y (mul_mod p a b)) e ∙ running-product p s a b

-- one more item of a scalar product
pub add_item : (p n : ℕ) (f g : Vector) (x : ℕ) → x ≡ residue p (sum n (λ i. f i * g i))
    → add_mod p x (mul_mod p (f n) (g n)) ≡ residue p (sum (n + 1) (λ i. f i * g i))
add_item p n f g x e =
    add_product p (sum n (λ i. f i * g i)) (f n) (g n) x e ∙ ap (residue p) (sum-next n (λ i. f i * g i))

-- one more pair of a message
module _ (p k : ℕ) (f g : Vector) (x : ℕ) where
  pub add_even : x ≡ residue p (even_sum k f g)
      → add_mod p x (mul_mod p (f (2 * k)) (g (2 * k))) ≡ residue p (even_sum (k + 1) f g)
  add_even e = add_item p k (λ i. f (2 * i)) (λ i. g (2 * i)) x e

  pub add_odd : x ≡ residue p (odd_sum k f g)
      → add_mod p x (mul_mod p (f (2 * k + 1)) (g (2 * k + 1))) ≡ residue p (odd_sum (k + 1) f g)
  add_odd e = add_item p k (λ i. f (2 * i + 1)) (λ i. g (2 * i + 1)) x e

  -- the two halves of the cross sum
  pub add_forth : x ≡ residue p (sum k (λ i. f (2 * i) * g (2 * i + 1)))
      → add_mod p x (mul_mod p (f (2 * k)) (g (2 * k + 1))) ≡ residue p (sum (k + 1) (λ i. f (2 * i) * g (2 * i + 1)))
  add_forth e = add_item p k (λ i. f (2 * i)) (λ i. g (2 * i + 1)) x e

  pub add_back : x ≡ residue p (sum k (λ i. f (2 * i + 1) * g (2 * i)))
      → add_mod p x (mul_mod p (f (2 * k + 1)) (g (2 * k))) ≡ residue p (sum (k + 1) (λ i. f (2 * i + 1) * g (2 * i)))
  add_back e = add_item p k (λ i. f (2 * i + 1)) (λ i. g (2 * i)) x e

pub add_cross : (p k : ℕ) (f g : Vector) (x y : ℕ) → x ≡ residue p (sum k (λ i. f (2 * i) * g (2 * i + 1)))
    → y ≡ residue p (sum k (λ i. f (2 * i + 1) * g (2 * i))) → add_mod p x y ≡ residue p (cross_sum k f g)
unfolding add_mod
add_cross p k f g x y ex ey =
    ap₂ (λ a b. residue p (a + b)) ex ey
    ∙ (cong_add (cong_residue (sum k (λ i. f (2 * i) * g (2 * i + 1)))) (cong_residue (sum k (λ i. f (2 * i + 1) * g (2 * i))))).residues
    ∙ ap (residue p) (sym (sum-plus k (λ i. f (2 * i) * g (2 * i + 1)) (λ i. f (2 * i + 1) * g (2 * i))))
