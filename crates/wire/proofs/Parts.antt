-- The messages and the end values of a good proof, by the numbers of its file.
use Rattle.std.specs.Prelude.{Some}
use mathlib.Core.Path.{◌≡◌, sym, ap, ◌∙◌}
use mathlib.Core.List.{List, [], ◌∷◌}
use Prim.Native.Nat.{ℕ, zero, suc, ◌+◌, ◌*◌, ◌≤◌, ◌<◌}
use native.Mathlib.Nat.{zero-add, suc-add}
use native.Mathlib.Omega.{arith}
use lib.ListN.{length, take, drop, length-drop}
use lib.Seq.{take-nil, take-take, drop-drop, length-take-le}
use borrow.Author.Tests.{lt-ltb, le-leb}
use Rattle.wire.specs.Number.{num, num_at}
use Rattle.wire.specs.Proof.{Head, proof_rounds, proof_number, proof_size, message_end, part_in, proof_round, part_message, proof_ends}
use Rattle.wire.proofs.ProofSays.{GoodProof, proof-said}
use Rattle.refusal.specs.Outcome.{answered}

drop_take : (j m : ℕ) (l : List ℕ) → drop j (take (j + m) l) ≡ take m (drop j l)
drop_take zero m l = rw (zero-add m)
drop_take (suc j) m [] = rw (suc-add j m) (sym (take-nil m))
drop_take (suc j) m (x ∷ l) = rw (suc-add j m) (drop_take j m l)

-- a number in a part
in_part : (file : List ℕ) (a j m : ℕ) → 4 ≤ m → num_at 4 (take (j + m) (drop a file)) j ≡ num_at 4 file (a + j)
unfolding num_at
in_part file a j m h = ap num (rw (drop_take j m (drop a file), take-take 4 m, drop-drop j a file))

message : (file : List ℕ) (r : ℕ) → message_end r ≤ length file
    → part_message (take 12 (drop (10 + 12 * r) file))
    ≡ Some (record { even = proof_number file (3 * r); cross = proof_number file (3 * r + 1); odd = proof_number file (3 * r + 2) })
unfolding part_message
message file r h =
    let l : length (take 12 (drop (10 + 12 * r) file)) ≡ 12 = length-take-le 12 (drop (10 + 12 * r) file) (omega (arith, length-drop (10 + 12 * r) file)) in
    let e₀ : 10 + 12 * r + 0 ≡ 10 + 4 * (3 * r) = omega arith in
    let e₁ : 10 + 12 * r + 4 ≡ 10 + 4 * (3 * r + 1) = omega arith in
    let e₂ : 10 + 12 * r + 8 ≡ 10 + 4 * (3 * r + 2) = omega arith in
    let n₀ : num_at 4 (take 12 (drop (10 + 12 * r) file)) 0 ≡ proof_number file (3 * r) = in_part file (10 + 12 * r) 0 12 (omega arith) ∙ ap (num_at 4 file) e₀ in
    let n₁ : num_at 4 (take 12 (drop (10 + 12 * r) file)) 4 ≡ proof_number file (3 * r + 1) = in_part file (10 + 12 * r) 4 8 (omega arith) ∙ ap (num_at 4 file) e₁ in
    let n₂ : num_at 4 (take 12 (drop (10 + 12 * r) file)) 8 ≡ proof_number file (3 * r + 2) = in_part file (10 + 12 * r) 8 4 (omega arith) ∙ ap (num_at 4 file) e₂ in
    rw (le-leb 12 (length (take 12 (drop (10 + 12 * r) file))) (omega arith), n₀, n₁, n₂)

module _ (p : ℕ) (file : List ℕ) (head : Head) (g : GoodProof p file head) where
  pub round-message : (r : ℕ) → r < proof_rounds file
      → part_message (proof_round p file r)
      ≡ Some (record { even = proof_number file (3 * r); cross = proof_number file (3 * r + 1); odd = proof_number file (3 * r + 2) })
  unfolding part_in
  round-message r h =
      rw (proof-said p file (answered head) g, ← g.rounds, lt-ltb r (proof_rounds file) h)
      (message file r (omega (arith, g.frame.size)))

  pub end_values : proof_ends file ≡ Some (record { f = proof_number file (3 * proof_rounds file); g = proof_number file (3 * proof_rounds file + 1) })
  unfolding proof_ends
  end_values =
      let e₀ : 10 + 12 * proof_rounds file ≡ 10 + 4 * (3 * proof_rounds file) = omega arith in
      let e₁ : 14 + 12 * proof_rounds file ≡ 10 + 4 * (3 * proof_rounds file + 1) = omega arith in
      rw (le-leb (proof_size (proof_rounds file)) (length file) (omega (arith, g.frame.size)), e₀, e₁)
