-- Two tests of lengths in a row.
use mathlib.Core.Bool.{true, ◌&&◌}
use mathlib.Core.Path.{◌≡◌, ap₂}
use Prim.Native.Nat.{ℕ, ◌≤◌}
use borrow.Author.Tests.{le-leb}
use lib.Dec.{leb}

module _ (n a b : ℕ) where
  pub both-have : n ≤ a → n ≤ b → (leb n a && leb n b) ≡ true
  both-have h k = ap₂ ◌&&◌ (le-leb n a h) (le-leb n b k)
