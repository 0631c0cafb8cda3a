-- The plain total of up to 32,768 items: the machine's sum is exact, and its image is the sum modulo p.
use mathlib.Core.Path.{◌≡◌, refl, sym, ap, ◌∙◌}
use mathlib.Core.Bool.{true}
use mathlib.Core.List.{List, [], ◌∷◌}
use Prim.Native.Nat.{ℕ, suc, ◌-◌, ◌*◌, ◌^◌, ◌≤◌, ◌<◌}
use native.Mathlib.Nat.{mul-le-mul}
use native.Mathlib.Omega.{arith}
use lib.Dec.{leb}
use lib.IntN.{ℤ, pos, negsuc, nat_abs, ◌+ℤ◌, +ℤ_comm}
use lib.ListN.{length}
use borrow.Author.Tests.{le-leb, leb-true}
use Rattle.algebra.specs.Mod.{base, residue, add_mod, neg_mod, mul_mod}
use Rattle.algebra.proofs.Congruence.{residue-small, residue-zero}
use Rattle.refusal.specs.Limit.{max_items, max_weight, max_fine, max_worth}
use Rattle.field.specs.Integer.{image}
use Rattle.field.specs.Total.{Item, product, plain_total, plus, limit, in_limits}
use Rattle.field.proofs.Integers.{image-step, neg_small}
use Rattle.field.proofs.Signed.{nat_abs_add, nat_abs_mul}

-- an item of a log that reads well, of either version
pub record Good (i : Item) : Type 0 where
  pub reading : nat_abs i.reading ≤ max_fine
  pub weight : i.weight ≤ max_weight

pub data AllGood : List Item → Type 0 where
  none : AllGood []
  more : {i : Item} {is : List Item} → Good i → AllGood is → AllGood (i ∷ is)

product-bound : (i : Item) → Good i → nat_abs (product i) ≤ max_worth
product-bound i g = rw (nat_abs_mul i.reading (pos i.weight)) (mul-le-mul g.reading g.weight)

pub total-bound : {is : List Item} → AllGood is → nat_abs (plain_total is) ≤ length is * max_worth
unfolding plain_total
total-bound none = omega arith
total-bound (more {i = i} {is = is} g gs) =
    omega (arith, total-bound gs, product-bound i g, nat_abs_add (plain_total is) (product i))

-- one more item, within the bound, is added exactly
pub plus-exact : (t z : ℤ) → nat_abs t ≤ 2 ^ 62 → nat_abs z ≤ 2 ^ 61 → plus t z ≡ t +ℤ z
unfolding plus
plus-exact t z h k = rw (le-leb (nat_abs t) (2 ^ 62) h, le-leb (nat_abs z) (2 ^ 61) k)

-- the sum that a loop of `plus` keeps
unfoldable pub summed : List Item → ℤ
summed [] = pos 0
summed (i ∷ is) = plus (summed is) (product i)

pub summed-exact : {is : List Item} → AllGood is → length is ≤ max_items → summed is ≡ plain_total is
unfolding summed plain_total
summed-exact none h = refl
summed-exact (more {i = i} {is = is} g gs) h =
    ap (λ t. plus t (product i)) (summed-exact gs (omega arith))
    ∙ plus-exact (plain_total is) (product i) (omega (arith, total-bound gs)) (omega (arith, product-bound i g))

-- the same sum, modulo p
unfoldable pub total_mod : ℕ → List Item → ℕ
total_mod p [] = 0
total_mod p (i ∷ is) = add_mod p (mul_mod p (image p i.reading) i.weight) (total_mod p is)

pub total-image : (p : ℕ) (is : List Item) → image p (plain_total is) ≡ total_mod p is
unfolding plain_total total_mod image
total-image p [] = residue-zero p
total-image p (i ∷ is) =
    ap (image p) (+ℤ_comm (plain_total is) (product i)) ∙ image-step p i.reading i.weight (plain_total is)
    ∙ ap (add_mod p (mul_mod p (image p i.reading) i.weight)) (total-image p is)

-- numbers of both signs within the limits have other residues
opposite : (p a b : ℕ) → leb a (limit p) ≡ true → leb (suc b) (limit p) ≡ true → residue p a ≡ neg_mod p (suc b) → ⊥
opposite p a b hs ht e =
    let ha = leb-true a (limit p) hs in
    let hb : suc b < p = omega (arith, leb-true (suc b) (limit p) ht) in
    let same : a ≡ p - suc b = sym (residue-small p a (omega arith)) ∙ e ∙ neg_small p b hb in
    omega (arith, leb-true (suc b) (limit p) ht)

-- Both limits are needed: within them the residue tells the total, so T and T + p are never both taken.
pub limits-apart : (p : ℕ) (s t : ℤ) → in_limits p s ≡ true → in_limits p t ≡ true → image p s ≡ image p t → s ≡ t
unfolding in_limits image
limits-apart p (pos a) (pos b) hs ht e =
    let ha : a < base p = omega (arith, leb-true a (limit p) hs) in
    let hb : b < base p = omega (arith, leb-true b (limit p) ht) in
    ap pos (sym (residue-small p a ha) ∙ e ∙ residue-small p b hb)
limits-apart p (pos a) (negsuc b) hs ht e = absurd (opposite p a b hs ht e)
limits-apart p (negsuc a) (pos b) hs ht e = absurd (opposite p b a ht hs (sym e))
limits-apart p (negsuc a) (negsuc b) hs ht e =
    let ha : suc a < p = omega (arith, leb-true (suc a) (limit p) hs) in
    let hb : suc b < p = omega (arith, leb-true (suc b) (limit p) ht) in
    let same : p - suc a ≡ p - suc b = sym (neg_small p a ha) ∙ e ∙ neg_small p b hb in
    ap negsuc (omega arith)
