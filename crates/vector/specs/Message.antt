-- Round messages, and the verifier's claim: document 01, "A run" and "The gateway".
use Rattle.std.specs.Prelude.{ℕ, suc, ◌+◌, ◌*◌}
use Rattle.algebra.specs.Mod.{residue, add_mod, mul_mod}
use Rattle.vector.specs.Rounds.{size}
use Rattle.vector.specs.Vector.{Vector, sum}
use Rattle.vector.specs.Fold.{fold}

pub record Message : Type 0 where
  pub even : ℕ
  pub cross : ℕ
  pub odd : ℕ

-- "even = sum of f_2k g_2k; cross = sum of f_2k g_2k+1 + f_2k+1 g_2k; odd = sum of f_2k+1 g_2k+1", over h pairs
abbrev pub even_sum : ℕ → Vector → Vector → ℕ
even_sum h f g = sum h (λ k. f (2 * k) * g (2 * k))

abbrev pub cross_sum : ℕ → Vector → Vector → ℕ
cross_sum h f g = sum h (λ k. f (2 * k) * g (2 * k + 1) + f (2 * k + 1) * g (2 * k))

abbrev pub odd_sum : ℕ → Vector → Vector → ℕ
odd_sum h f g = sum h (λ k. f (2 * k + 1) * g (2 * k + 1))

abbrev pub message_of : ℕ → ℕ → Vector → Vector → Message
message_of p h f g =
    record { even = residue p (even_sum h f g); cross = residue p (cross_sum h f g); odd = residue p (odd_sum h f g) }

-- message i of two vectors of 2^n items under the challenges c: "Message i, from fold i"
abbrev pub message : ℕ → ℕ → (ℕ → ℕ) → Vector → Vector → ℕ → Message
message p n c f g i = message_of p (size n (suc i)) (fold p c i f) (fold p c i g)

-- "A message passes if even + odd = claim"
abbrev pub passes : ℕ → Message → ℕ
passes p m = add_mod p m.even m.odd

-- "the claim becomes even + cross·c + odd·c²"
abbrev pub next_claim : ℕ → Message → ℕ → ℕ
next_claim p m c = add_mod p (add_mod p m.even (mul_mod p m.cross c)) (mul_mod p m.odd (mul_mod p c c))
