-- Pairs that enter the stacks of a small pass, on the records of the code. The levels of f are the control; those of g are written alike.
use Rattle.std.specs.Prelude.{ℕ, zero, suc, ◌+◌, ◌-◌, min, Bool, false, cond, List, eqb, ltb, length, get_or, set, replicate}
use Rattle.algebra.specs.Mod.{add_mod, mul_mod}
use Rattle.vector.specs.Vector.{Vector, bit}
use Rattle.vector.specs.Fold.{combine}
use Rattle.kernel.specs.declared.Points.{Points}
use Rattle.kernel.specs.declared.Evals.{Evals}
use Rattle.kernel.specs.declared.Kernel.{Kernel}
use Rattle.vector.specs.declared.Message.{Message as Sums}
use Rattle.kernel.specs.declared.Climber.{Climber}

-- The two stacks, in arrays.
pub record StackArrays : Type 0 where
  pub flevels : List ℕ
  pub fvalues : List ℕ
  pub glevels : List ℕ
  pub gvalues : List ℕ
  pub count : ℕ

abbrev pub stacks_in : List ℕ → List ℕ → List ℕ → List ℕ → ℕ → StackArrays
stacks_in flevels fvalues glevels gvalues count =
    record { flevels = flevels; fvalues = fvalues; glevels = glevels; gvalues = gvalues; count = count }

abbrev pub sums_in : Kernel → Sums
sums_in k = record { even = k.even; cross = k.cross; odd = k.odd }

abbrev pub kernel_with : StackArrays → Sums → Evals → Kernel
kernel_with s sums evals =
    record {
      flevels = s.flevels;
      fvalues = s.fvalues;
      fcount = s.count;
      glevels = s.glevels;
      gvalues = s.gvalues;
      gcount = s.count;
      even = sums.even;
      cross = sums.cross;
      odd = sums.odd;
      evals = evals;
    }

abbrev pub evals_of : List ℕ → List ℕ → List ℕ → List ℕ → List ℕ → List ℕ → Evals
evals_of fpoint fminus fsquare gpoint gminus gsquare =
    record { fpoint = fpoint; fminus = fminus; fsquare = fsquare; gpoint = gpoint; gminus = gminus; gsquare = gsquare }

-- Horner's rule at a level: what was gathered times x, plus the item
unfoldable pub horner_at : ℕ → ℕ → List ℕ → ℕ → ℕ → List ℕ
horner_at p x sums level item = set sums level (add_mod p item (mul_mod p (get_or sums level 0) x))

abbrev pub stepped : ℕ → Points → Evals → ℕ → ℕ → ℕ → Evals
stepped p at e level f g =
    record {
      fpoint = horner_at p at.point e.fpoint level f;
      fminus = horner_at p at.minus e.fminus level f;
      fsquare = horner_at p at.square e.fsquare level f;
      gpoint = horner_at p at.point e.gpoint level g;
      gminus = horner_at p at.minus e.gminus level g;
      gsquare = horner_at p at.square e.gsquare level g;
    }

-- a pair comes to a level: an opening pass takes a step at each of its points
unfoldable pub arrived : ℕ → Points → Evals → ℕ → ℕ → ℕ → Evals
arrived p at e level f g = cond at.on (stepped p at e level f g) e

-- a pass that evaluates nothing
abbrev pub no_points : Points
no_points = record { on = false; point = 0; minus = 0; square = 0 }

-- the entry below a count has the level
unfoldable pub top_at : List ℕ → ℕ → ℕ → Bool
top_at levels count level = cond (ltb count 1) false (eqb (get_or levels (count - 1) 0) level)

module _ (p : ℕ) (challenges : List ℕ) (last : ℕ) (levels fvalues gvalues : List ℕ) where
  -- the pair takes in both tops, and goes up
  abbrev pub raised : Climber → Climber
  raised c =
      record {
        count = c.count - 1;
        level = c.level + 1;
        f = combine p (get_or challenges c.level 0) c.f (get_or fvalues (c.count - 1) 0);
        g = combine p (get_or challenges c.level 0) c.g (get_or gvalues (c.count - 1) 0);
      }

  -- the top has the pair's level, which is below the last
  abbrev pub may_rise : Climber → Bool
  may_rise c = cond (ltb c.level last) (top_at levels c.count c.level) false

  -- at most n times
  unfoldable pub climb_from : ℕ → Climber → Climber
  climb_from zero c = c
  climb_from (suc n) c = cond (may_rise c) (climb_from n (raised c)) c

  -- the evaluations, at each level that the pair comes to
  unfoldable pub evaluated_from : Points → ℕ → Climber → Evals → Evals
  evaluated_from at zero c e = arrived p at e c.level c.f c.g
  evaluated_from at (suc n) c e =
      cond (may_rise c) (evaluated_from at n (raised c) (arrived p at e c.level c.f c.g)) (arrived p at e c.level c.f c.g)

-- a pair from level 0 on
abbrev pub climber₀ : ℕ → ℕ → ℕ → Climber
climber₀ count f g = record { count = count; level = 0; f = f; g = g }

unfoldable pub climbed : ℕ → List ℕ → ℕ → List ℕ → List ℕ → List ℕ → ℕ → ℕ → ℕ → Climber
climbed p challenges last levels fvalues gvalues count f g = climb_from p challenges last levels fvalues gvalues count (climber₀ count f g)

unfoldable pub evaluated : ℕ → List ℕ → ℕ → Points → List ℕ → List ℕ → List ℕ → ℕ → ℕ → ℕ → Evals → Evals
evaluated p challenges last at levels fvalues gvalues count f g e =
    evaluated_from p challenges last levels fvalues gvalues at count (climber₀ count f g) e

-- the climber is at the last level and meets a pair there
unfoldable pub meets_at : ℕ → List ℕ → Climber → Bool
meets_at last levels c = cond (eqb c.level last) (top_at levels c.count last) false

-- two pairs have met: the climber is item 2i, f and g are item 2i + 1
unfoldable pub summed : ℕ → Sums → Climber → ℕ → ℕ → Sums
summed p s c f g =
    record {
      even = add_mod p s.even (mul_mod p c.f c.g);
      cross = add_mod p (add_mod p s.cross (mul_mod p c.f g)) (mul_mod p f c.g);
      odd = add_mod p s.odd (mul_mod p f g);
    }

module _ (flevels fvalues glevels gvalues : List ℕ) where
  -- no pass meets a full stack
  abbrev pub pushed : Climber → StackArrays
  pushed c =
      cond (ltb 15 c.count) (stacks_in flevels fvalues glevels gvalues c.count)
      (record {
        flevels = set flevels c.count c.level;
        fvalues = set fvalues c.count c.f;
        glevels = set glevels c.count c.level;
        gvalues = set gvalues c.count c.g;
        count = c.count + 1;
      })

  -- pairs that meet at the last level go; any other is pushed
  unfoldable pub settled : ℕ → Climber → StackArrays
  settled last c = cond (meets_at last flevels c) (stacks_in flevels fvalues glevels gvalues (c.count - 1)) (pushed c)

-- with their products
unfoldable pub sums_after : ℕ → ℕ → List ℕ → List ℕ → List ℕ → Sums → Climber → Sums
sums_after p last flevels fvalues gvalues s c =
    cond (meets_at last flevels c) (summed p s c (get_or fvalues (c.count - 1) 0) (get_or gvalues (c.count - 1) 0)) s

-- there are fifteen challenges and sixteen places, and as many entries of g as of f
unfoldable pub stacks_fit : ℕ → ℕ → ℕ → Bool
stacks_fit last fcount gcount = cond (ltb 15 last) false (cond (ltb 16 fcount) false (eqb gcount fcount))

abbrev pub fits : ℕ → Kernel → Bool
fits last k = stacks_fit last k.fcount k.gcount

-- how far a pair climbs
abbrev pub climber_in : ℕ → List ℕ → ℕ → Kernel → ℕ → ℕ → Climber
climber_in p challenges last k f g = climbed p challenges last k.flevels k.fvalues k.gvalues k.fcount f g

abbrev pub settled_in : ℕ → Kernel → Climber → StackArrays
settled_in last k c = settled k.flevels k.fvalues k.glevels k.gvalues last c

abbrev pub sums_with : ℕ → ℕ → Kernel → Climber → Sums
sums_with p last k c = sums_after p last k.flevels k.fvalues k.gvalues (sums_in k) c

abbrev pub evals_in : ℕ → List ℕ → ℕ → Points → Kernel → ℕ → ℕ → Evals
evals_in p challenges last at k f g = evaluated p challenges last at k.flevels k.fvalues k.gvalues k.fcount f g k.evals

-- ONE PAIR enters; where it does not fit, nothing does
unfoldable pub entered : ℕ → List ℕ → ℕ → Points → Kernel → ℕ → ℕ → Kernel
entered p challenges last at k f g =
    let c : Climber = climber_in p challenges last k f g in
    cond (fits last k) (kernel_with (settled_in last k c) (sums_with p last k c) (evals_in p challenges last at k f g)) k

-- as many pairs as both lists have items
abbrev pub pairs_in : List ℕ → List ℕ → ℕ
pairs_in f g = min (length f) (length g)

-- the pairs m - 1 down to 0 of f and g: "from last item to first"
unfoldable pub streamed : ℕ → List ℕ → ℕ → Points → Vector → Vector → ℕ → Kernel → Kernel
streamed p challenges last at f g zero k = k
streamed p challenges last at f g (suc m) k =
    streamed p challenges last at f g m (entered p challenges last at k (f m) (g m))

abbrev pub zeros : List ℕ
zeros = replicate 16 0

abbrev pub no_evals : Evals
no_evals = record { fpoint = zeros; fminus = zeros; fsquare = zeros; gpoint = zeros; gminus = zeros; gsquare = zeros }

abbrev pub empty_kernel : Kernel
empty_kernel =
    record {
      flevels = zeros;
      fvalues = zeros;
      fcount = 0;
      glevels = zeros;
      gvalues = zeros;
      gcount = 0;
      even = 0;
      cross = 0;
      odd = 0;
      evals = no_evals;
    }

-- a zero pair pushed at a level
abbrev pub pushed_zero : Kernel → ℕ → Kernel
pushed_zero k level =
    record {
      flevels = set k.flevels k.fcount level;
      fvalues = set k.fvalues k.fcount 0;
      fcount = k.fcount + 1;
      glevels = set k.glevels k.gcount level;
      gvalues = set k.gvalues k.gcount 0;
      gcount = k.gcount + 1;
      even = k.even;
      cross = k.cross;
      odd = k.odd;
      evals = k.evals;
    }

-- the places m - 1 down to 0
unfoldable pub padding_from : ℕ → ℕ → Kernel → Kernel
padding_from t zero k = k
padding_from t (suc m) k = padding_from t m (cond (eqb (bit m t) 1) (pushed_zero k m) k)

-- "A small pass takes the padding by itself": the stacks after t zero pairs, where they keep the levels below a height
unfoldable pub padding_below : ℕ → ℕ → Kernel
padding_below t height = cond (ltb 16 height) empty_kernel (padding_from t height empty_kernel)

-- in a pass that folds to a level they keep that level too
abbrev pub padding_kernel : ℕ → ℕ → Kernel
padding_kernel t last = padding_below t (last + 1)
