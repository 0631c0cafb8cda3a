-- Numbers and their bytes, signed numbers and their two's complement: each is the other's inverse.
use mathlib.Core.Path.{◌≡◌, refl, sym, ap, ◌∙◌}
use mathlib.Core.Bool.{Bool, true, false, cond}
use mathlib.Core.List.{List, [], ◌∷◌, ◌++◌}
use Prim.Native.Nat.{ℕ, zero, suc, ◌+◌, ◌-◌, ◌*◌, ◌/◌, ◌%◌, ◌^◌, ◌≤◌, ◌<◌}
use native.Mathlib.Nat.{div-lt_iff_lt-mul, pow-suc}
use native.Mathlib.Omega.{arith}
use lib.ListN.{length, get_or, take, drop, length-drop, take-append-drop}
use lib.Seq.{get_or-drop, drop-drop, length-take-le}
use lib.IntN.{ℤ, pos, negsuc, nat_abs}
use lib.Dec.{ltb}
use borrow.Author.Tests.{lt-ltb, le-ltb}
use Rattle.wire.specs.Number.{num, bytes, num_at, signed, bits}

pub num-bytes : (k v : ℕ) → v < 256 ^ k → num (bytes k v) ≡ v
unfolding num bytes
num-bytes zero v h = omega arith
num-bytes (suc k) v h =
    let i = num-bytes k (v / 256) ((div-lt_iff_lt-mul (omega arith)).1 (rw pow-suc at h)) in
    omega arith

-- each element is a byte
abbrev pub Bytes : List ℕ → Type 0
Bytes s = (k : ℕ) → get_or s k 0 < 256

bytes-num : (s : List ℕ) → Bytes s → bytes (length s) (num s) ≡ s
unfolding num bytes
bytes-num [] h = refl
bytes-num (b ∷ s) h =
    let hb = h 0 in
    let low : (b + 256 * num s) % 256 ≡ b = omega arith in
    let high : (b + 256 * num s) / 256 ≡ num s = omega arith in
    rw (low, high, bytes-num s (λ k. h (suc k)))

num-small : (s : List ℕ) → Bytes s → num s < 256 ^ length s
unfolding num
num-small [] h = omega arith
num-small (b ∷ s) h = rw (pow-suc 256 (length s)) (omega (arith, h 0, num-small s (λ k. h (suc k))))

pub bytes_drop : (s : List ℕ) (k : ℕ) → Bytes s → Bytes (drop k s)
bytes_drop s k h i = rw (get_or-drop k s i 0) (h (k + i))

bytes_take : (s : List ℕ) (k : ℕ) → Bytes s → Bytes (take k s)
bytes_take [] zero h i = h i
bytes_take [] (suc k) h i = h i
bytes_take (b ∷ s) zero h i = omega arith
bytes_take (b ∷ s) (suc k) h zero = h 0
bytes_take (b ∷ s) (suc k) h (suc i) = bytes_take s k (λ j. h (suc j)) i

module _ (file : List ℕ) (h : Bytes file) (k at : ℕ) (l : at + k ≤ length file) where
  part_length : length (take k (drop at file)) ≡ k
  part_length = length-take-le k (drop at file) (omega (arith, length-drop at file))

  part_bytes : Bytes (take k (drop at file))
  part_bytes = bytes_take (drop at file) k (bytes_drop file at h)

  pub part_small : num_at k file at < 256 ^ k
  unfolding num_at
  part_small = rw part_length at (num-small (take k (drop at file)) part_bytes)

  -- the k bytes at a place are those of their number
  pub parted : drop at file ≡ bytes k (num_at k file at) ++ drop (at + k) file
  unfolding num_at
  parted =
      sym (take-append-drop k (drop at file))
      ∙ rw (drop-drop k at file)
      (ap (λ s. s ++ drop (at + k) file) (sym (rw part_length at (bytes-num (take k (drop at file)) part_bytes))))

-- two's complement at every width
pub bits_small : (k : ℕ) (z : ℤ) → nat_abs z < 256 ^ k → bits k z < 256 ^ k
unfolding bits
bits_small k (pos n) h = h
bits_small k (negsuc n) h = omega arith

pub signed-bits : (k : ℕ) (z : ℤ) → nat_abs z < 256 ^ k / 2 → signed k (bits k z) ≡ z
unfolding signed bits
signed-bits k (pos n) h = rw (lt-ltb n (256 ^ k / 2) h)
signed-bits k (negsuc n) h =
    let e : 256 ^ k - 1 - (256 ^ k - 1 - n) ≡ n = omega arith in
    rw (le-ltb (256 ^ k - 1 - n) (256 ^ k / 2) (omega arith), e)

pub bits-signed : (k v : ℕ) → v < 256 ^ k → bits k (signed k v) ≡ v
unfolding signed bits
bits-signed k v h = go (ltb v (256 ^ k / 2))
  where
    go : (b : Bool) → bits k (cond b (pos v) (negsuc (256 ^ k - 1 - v))) ≡ v
    go true = refl
    go false = omega arith
