-- "yes if the opening equation holds for every j in both vectors, else no with the first vector (f before g) and j that fail".
-- An opening's values are f's for j = 1 to n, three each, then g's.
use Rattle.std.specs.Prelude.{ℕ, zero, suc, ◌+◌, ◌*◌, Bool, cond, List, eqb, ltb, Option, Some, None}
use Rattle.algebra.specs.Mod.{add_mod, sub_mod, mul_mod, half_mod}
use Rattle.vector.specs.Vector.{at}
use Rattle.vector.specs.Opening.{Triple, opens}
use Rattle.verifier.specs.declared.Verifier.{Verifier}
use Rattle.verifier.specs.Records.{OpeningFinding, holds, fails_f, fails_g}

-- the first of m numbers from k on that fails a test; k + m where none does
unfoldable pub first_fault : (ℕ → Bool) → ℕ → ℕ → ℕ
first_fault test k zero = k
first_fault test k (suc m) = cond (test k) (first_fault test (suc k) m) k

-- the first of n numbers that fails a test, where one does
unfoldable pub found_fault : (ℕ → Bool) → ℕ → Option ℕ
found_fault test n = cond (ltb (first_fault test 0 n) n) (Some (first_fault test 0 n)) None

-- the opening equation, with the inverse of the point
unfoldable pub opens_by : ℕ → ℕ → ℕ → ℕ → ℕ → ℕ → Bool
opens_by p c inverse plus minus square =
    eqb square (add_mod p (half_mod p (add_mod p plus minus)) (mul_mod p c (mul_mod p (half_mod p (sub_mod p plus minus)) inverse)))

abbrev pub triple_at : List ℕ → ℕ → Triple
triple_at values i = record { at_point = at values i; at_minus = at values (i + 1); at_square = at values (i + 2) }

-- triple k of those from a place on
unfoldable pub triple_holds : ℕ → List ℕ → ℕ → List ℕ → ℕ → ℕ → Bool
triple_holds p challenges inverse values start k =
    let i : ℕ = start + 3 * k in
    opens_by p (at challenges k) inverse (at values i) (at values (i + 1)) (at values (i + 2))

-- the equation of triple k, for the vector whose triples start at a place
abbrev pub opens_at : ℕ → Verifier → ℕ → List ℕ → ℕ → ℕ → Bool
opens_at p v b values start k = opens p (at v.challenges k) b (triple_at values (start + 3 * k))

-- the first fault of f, which is j - 1, and of g; n where there is none
abbrev pub fault_f : ℕ → Verifier → ℕ → List ℕ → ℕ
fault_f p v b values = first_fault (opens_at p v b values 0) 0 v.start.rounds

abbrev pub fault_g : ℕ → Verifier → ℕ → List ℕ → ℕ
fault_g p v b values = first_fault (opens_at p v b values (3 * v.start.rounds)) 0 v.start.rounds

unfoldable pub opening_finds : ℕ → Verifier → ℕ → List ℕ → OpeningFinding
opening_finds p v b values =
    cond (ltb (fault_f p v b values) v.start.rounds) (fails_f (fault_f p v b values + 1))
    (cond (ltb (fault_g p v b values) v.start.rounds) (fails_g (fault_g p v b values + 1)) holds)
