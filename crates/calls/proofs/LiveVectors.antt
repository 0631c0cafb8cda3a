-- The two vectors of a trip within its limits are field numbers.
use mathlib.Core.Path.{◌≡◌, refl}
use mathlib.Core.Bool.{Bool, true, false, cond}
use Prim.Native.Nat.{ℕ, ◌<◌}
use native.Mathlib.Omega.{arith}
use lib.Dec.{ltb}
use borrow.Author.Tests.{ltb-true}
use Rattle.refusal.specs.Limit.{max_weight}
use Rattle.algebra.proofs.Congruence.{base-of}
use Rattle.field.proofs.Integers.{image-lt}
use Rattle.item.specs.declared.Given.{Given}
use Rattle.item.specs.declared.Given.TheVariants.{Reading, Numbers}
use Rattle.item.specs.Mark.{counts_as}
use Rattle.runs.specs.Trip.{Trip, trip_item, vector_f, vector_g}
use Rattle.calls.specs.Proper.{ItemFits, Valid}
use Rattle.calls.proofs.Follows.{positive}
use Rattle.calls.proofs.Fits.{Fine}
use Rattle.calls.proofs.Numbers.{enters_below}

module _ (p : ℕ) (large : max_weight < p) (T : Trip) (valid : Valid p T) where
  item-below : (x : Given) → ItemFits p T.start x → Fine p T.start x
  item-below (Reading r w) h = (omega (arith, image-lt p (counts_as T.start.version r), base-of p (positive p large)), omega (arith, h.2))
  item-below (Numbers a b) h = (h.1, h.2)

  padded-below : (j : ℕ) (b : Bool) (x : ℕ) → (b ≡ true → x < p) → cond b x 0 < p
  padded-below j true x h = h refl
  padded-below j false x h = positive p large

  fits-at : (j : ℕ) → ltb j T.start.items ≡ true → Fine p T.start (trip_item T j)
  fits-at j e = item-below (trip_item T j) (valid.items j (ltb-true j T.start.items e))

  pub f-below : (j : ℕ) → vector_f p T j < p
  f-below j = padded-below j (ltb j T.start.items) _ (λ e. enters_below p (positive p large) T.start j _ (fits-at j e).0)

  pub g-below : (j : ℕ) → vector_g p T j < p
  g-below j = padded-below j (ltb j T.start.items) _ (λ e. (fits-at j e).1)
