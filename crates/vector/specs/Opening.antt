-- Openings: document 01, "Opening at point b" and the check of Lemma 5.4.
use Rattle.std.specs.Prelude.{ℕ, zero, suc, ◌*◌, ◌^◌, Bool, List, [], ◌∷◌, ◌++◌, eqb}
use Rattle.algebra.specs.Mod.{residue, add_mod, sub_mod, neg_mod, mul_mod, half_mod, div_mod}
use Rattle.vector.specs.Rounds.{size}
use Rattle.vector.specs.Vector.{Vector, sum}
use Rattle.vector.specs.Fold.{fold}

-- "as polynomials with item i on power i": the first h items, at x
abbrev pub evaluate : ℕ → ℕ → Vector → ℕ → ℕ
evaluate p h v x = residue p (sum h (λ i. v i * x ^ i))

pub record Triple : Type 0 where
  pub at_point : ℕ
  pub at_minus : ℕ
  pub at_square : ℕ

-- "fold j-1 at b, fold j-1 at -b, fold j at b squared"; here k is j - 1
abbrev pub triple : ℕ → ℕ → (ℕ → ℕ) → Vector → ℕ → ℕ → Triple
triple p n c v b k =
    record {
      at_point = evaluate p (size n k) (fold p c k v) b;
      at_minus = evaluate p (size n k) (fold p c k v) (neg_mod p b);
      at_square = evaluate p (size n (suc k)) (fold p c (suc k) v) (mul_mod p b b);
    }

-- the values for k from k₀ on, m of them, three numbers each
unfoldable pub triple_values : (ℕ → Triple) → ℕ → ℕ → List ℕ
triple_values t k zero = []
triple_values t k (suc m) = (t k).at_point ∷ (t k).at_minus ∷ (t k).at_square ∷ triple_values t (suc k) m

-- of one vector, "for j = 1 to n"
abbrev pub opening_of : ℕ → ℕ → (ℕ → ℕ) → Vector → ℕ → List ℕ
opening_of p n c v b = triple_values (triple p n c v b) 0 n

-- "for j = 1 to n and each vector": f, then g
abbrev pub opening : ℕ → ℕ → (ℕ → ℕ) → Vector → Vector → ℕ → List ℕ
opening p n c f g b = opening_of p n c f b ++ opening_of p n c g b

-- "the third equals half the sum of the first two plus c_{j-1} times half their difference divided by b"
abbrev pub opening_right : ℕ → ℕ → ℕ → Triple → ℕ
opening_right p c b t =
    add_mod p (half_mod p (add_mod p t.at_point t.at_minus))
    (mul_mod p c (div_mod p (half_mod p (sub_mod p t.at_point t.at_minus)) b))

unfoldable pub opens : ℕ → ℕ → ℕ → Triple → Bool
opens p c b t = eqb t.at_square (opening_right p c b t)
