-- Weights in tables: those of the lowest indices, and the twists of a rule check.
use Rattle.std.specs.Prelude.{ℕ, ◌+◌, ◌-◌, ◌^◌, min, cond, ltb, List, length, replicate}
use Rattle.algebra.specs.Mod.{pow_mod}
use Rattle.vector.specs.Vector.{Vector, at, weight}
use Rattle.vector.specs.Slice.{overwrite}

-- the weights of the indices 0 to 15
abbrev pub low_weights : ℕ → List ℕ → ℕ → List ℕ
low_weights p cs n = overwrite (weight p (at cs) (min n 15)) 16 (replicate 16 0)

-- the weights of the indices from one on over a whole list; nothing where they go past 32 bits
unfoldable pub weights_from : ℕ → List ℕ → ℕ → ℕ → List ℕ → List ℕ
weights_from p cs n first xs =
    cond (ltb (4294967295 - first) (length xs)) xs (overwrite (λ i. weight p (at cs) (min n 15) (first + i)) (length xs) xs)

-- "v_j = v^(2^j)"
abbrev pub twist_of : ℕ → ℕ → Vector
twist_of p v j = pow_mod p v (2 ^ j)

-- the first n of them in fifteen places, the rest zero; fifteen where n is above
abbrev pub twists_of : ℕ → ℕ → ℕ → List ℕ
twists_of p v n = overwrite (twist_of p v) (min n 15) (replicate 15 0)
