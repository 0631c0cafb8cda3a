-- The values of an opening as a call hands them out.
use Rattle.std.specs.Prelude.{ℕ, ◌+◌, ◌-◌, ◌*◌, cond, List, ◌++◌, ltb, get_or, replicate}
use Rattle.vector.specs.Opening.{Triple, triple_values}
use Rattle.kernel.specs.declared.Evals.{Evals}

-- no values beside an answer
abbrev pub no_values : List ℕ
no_values = replicate 90 0

-- the three values of a vector for the levels k and k + 1, from its evaluations at each level
abbrev pub triple_in : List ℕ → List ℕ → List ℕ → ℕ → Triple
triple_in point minus square k = record { at_point = get_or point k 0; at_minus = get_or minus k 0; at_square = get_or square (k + 1) 0 }

-- "for j = 1 to n and each vector": f, then g
abbrev pub opening_in : Evals → ℕ → List ℕ
opening_in e n =
    triple_values (triple_in e.fpoint e.fminus e.fsquare) 0 n ++ triple_values (triple_in e.gpoint e.gminus e.gsquare) 0 n

-- the 6n values of an opening in the first of ninety places, all others zero
abbrev pub in_ninety : ℕ → List ℕ → List ℕ
in_ninety n values = values ++ replicate (90 - 6 * n) 0

-- no run has more than 15 rounds
unfoldable pub values_of : Evals → ℕ → List ℕ
values_of e n = cond (ltb 15 n) no_values (in_ninety n (opening_in e n))
