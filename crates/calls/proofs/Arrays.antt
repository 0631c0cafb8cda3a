-- Lists kept from the first place of an array on.
use mathlib.Core.Path.{◌≡◌, sym, ap, ◌∙◌}
use mathlib.Core.List.{List, [], ◌∷◌, ◌++◌, append_assoc}
use Prim.Native.Nat.{ℕ, suc, ◌+◌, ◌*◌, ◌-◌, ◌<◌, ◌≤◌}
use native.Mathlib.Omega.{arith}
use lib.ListN.{length, length-append, set, take, replicate, get_or-append}
use lib.Seq.{set-append_seam, take-append_seam, get_or-append_seam, get_or-append-add}
use Rattle.vector.specs.Vector.{at}
use Rattle.claim.specs.Claim.{message_of3}
use Rattle.prover.specs.Close.{messages_with}
use Rattle.prover.specs.Challenge.{kept_message}
use Rattle.calls.proofs.Records.{in_array}

-- one number more
pub array_next : (size : ℕ) (xs : List ℕ) (x : ℕ) → length xs < size → set (in_array size xs) (length xs) x ≡ in_array size (xs ++ x ∷ [])
array_next size xs x h =
    let m : ℕ = size - suc (length xs) in
    let room : size - length xs ≡ suc m = omega arith in
    let left : size - length (xs ++ x ∷ []) ≡ m = omega (arith, length-append xs (x ∷ [])) in
    ap (λ k. set (xs ++ replicate k 0) (length xs) x) room
    ∙ set-append_seam xs 0 (replicate m 0) x
    ∙ sym (append_assoc xs (x ∷ []) (replicate m 0))
    ∙ ap (λ k. (xs ++ x ∷ []) ++ replicate k 0) (sym left)

-- the three numbers of message i
pub message-next : (xs : List ℕ) (i even cross odd : ℕ) → length xs ≡ 3 * i → i < 15
    → messages_with (in_array 45 xs) i even cross odd ≡ in_array 45 (xs ++ even ∷ cross ∷ odd ∷ [])
message-next xs i even cross odd e h =
    let ys : List ℕ = xs ++ even ∷ [] in
    let zs : List ℕ = ys ++ cross ∷ [] in
    let lys : length ys ≡ 3 * i + 1 = omega (arith, length-append xs (even ∷ [])) in
    let lzs : length zs ≡ 3 * i + 2 = omega (arith, length-append ys (cross ∷ []), lys) in
    ap (λ k. set (set (set (in_array 45 xs) k even) (3 * i + 1) cross) (3 * i + 2) odd) (sym e)
    ∙ ap (λ a. set (set a (3 * i + 1) cross) (3 * i + 2) odd) (array_next 45 xs even (omega arith))
    ∙ ap (λ k. set (set (in_array 45 ys) k cross) (3 * i + 2) odd) (sym lys)
    ∙ ap (λ a. set a (3 * i + 2) odd) (array_next 45 ys cross (omega (arith, lys)))
    ∙ ap (λ k. set (in_array 45 zs) k odd) (sym lzs)
    ∙ array_next 45 zs odd (omega (arith, lzs))
    ∙ ap (in_array 45) (append_assoc ys (cross ∷ []) (odd ∷ []) ∙ append_assoc xs (even ∷ []) (cross ∷ odd ∷ []))

-- the list itself
pub array_at : (size : ℕ) (xs : List ℕ) (j : ℕ) → j < length xs → at (in_array size xs) j ≡ at xs j
array_at size xs j h = get_or-append xs (replicate (size - length xs) 0) 0 j h

pub array_take : (size : ℕ) (xs : List ℕ) (n : ℕ) → length xs ≡ n → take n (in_array size xs) ≡ xs
array_take size xs n e = ap (λ k. take k (in_array size xs)) (sym e) ∙ take-append_seam xs (replicate (size - length xs) 0)

-- a message is its three numbers
same_message : (a b c x y z : ℕ) → a ≡ x → b ≡ y → c ≡ z → message_of3 a b c ≡ message_of3 x y z
same_message a b c x y z e f g = rw (e, f, g)

-- message i of the list, in the array
pub message-at : (size : ℕ) (xs : List ℕ) (i : ℕ) → 3 * suc i ≤ length xs → kept_message (in_array size xs) i ≡ kept_message xs i
message-at size xs i h =
    same_message _ _ _ _ _ _ (array_at size xs (3 * i) (omega arith)) (array_at size xs (3 * i + 1) (omega arith)) (array_at size xs (3 * i + 2) (omega arith))

-- the newest message
pub message-newest : (xs : List ℕ) (i even cross odd : ℕ) → length xs ≡ 3 * i → kept_message (xs ++ even ∷ cross ∷ odd ∷ []) i ≡ message_of3 even cross odd
message-newest xs i even cross odd e =
    let ys : List ℕ = even ∷ cross ∷ odd ∷ [] in
    same_message _ _ _ _ _ _ (ap (at (xs ++ ys)) (sym e) ∙ get_or-append_seam xs even (cross ∷ odd ∷ []) 0)
    (ap (λ k. at (xs ++ ys) (k + 1)) (sym e) ∙ get_or-append-add xs ys 1 0) (ap (λ k. at (xs ++ ys) (k + 2)) (sym e) ∙ get_or-append-add xs ys 2 0)
