-- A change pass: "one pass writes the current folds .. to the first places of the two buffers".
use Rattle.std.specs.Prelude.{ℕ, zero, suc, ◌+◌, ◌-◌, ◌/◌, ◌^◌, cond, List, eqb, set}
use Rattle.vector.specs.Vector.{Vector}
use Rattle.kernel.specs.declared.Kernel.{Kernel}
use Rattle.kernel.specs.declared.Climber.{Climber}
use Rattle.kernel.specs.Kernel.{StackArrays, stacks_in, kernel_with, sums_in, pushed, fits, climber_in}

-- a pair that comes to the last level is an item of the current fold, and goes; any other is pushed:
-- "the change-over pass lies outside this count"
unfoldable pub left : ℕ → List ℕ → List ℕ → List ℕ → List ℕ → Climber → StackArrays
left last flevels fvalues glevels gvalues c =
    cond (eqb c.level last) (stacks_in flevels fvalues glevels gvalues c.count) (pushed flevels fvalues glevels gvalues c)

abbrev pub left_in : ℕ → Kernel → Climber → StackArrays
left_in last k c = left last k.flevels k.fvalues k.glevels k.gvalues c

-- the place of a fold of this size that a pair completes, where t pairs came before it
abbrev pub place_after : ℕ → ℕ → ℕ → ℕ
place_after size last t = size - 1 - t / 2 ^ last

-- "each place by the call that completes its value"
abbrev pub put_in : ℕ → ℕ → ℕ → ℕ → ℕ → List ℕ → List ℕ
put_in size last t level value buffer = cond (eqb level last) (set buffer (place_after size last t) value) buffer

-- the kernel and the two buffers
pub record Placed : Type 0 where
  pub kernel : Kernel
  pub f : List ℕ
  pub g : List ℕ

abbrev pub placed_of : Kernel → List ℕ → List ℕ → Placed
placed_of k f g = record { kernel = k; f = f; g = g }

abbrev pub placed_at : ℕ → ℕ → ℕ → Placed → Climber → Placed
placed_at last size t s c =
    record {
      kernel = kernel_with (left_in last s.kernel c) (sums_in s.kernel) s.kernel.evals;
      f = put_in size last t c.level c.f s.f;
      g = put_in size last t c.level c.g s.g;
    }

-- what a pair leaves of the kernel
abbrev pub placed_kernel : ℕ → List ℕ → ℕ → Kernel → ℕ → ℕ → Kernel
placed_kernel p challenges last k f g =
    cond (fits last k) (kernel_with (left_in last k (climber_in p challenges last k f g)) (sums_in k) k.evals) k

-- ONE PAIR of a change pass, where t came before it; where it does not fit, nothing happens
unfoldable pub placed : ℕ → List ℕ → ℕ → ℕ → ℕ → Placed → ℕ → ℕ → Placed
placed p challenges last size t s f g =
    cond (fits last s.kernel) (placed_at last size t s (climber_in p challenges last s.kernel f g)) s

-- the pairs m - 1 down to 0 of a and b: "from last item to first"
unfoldable pub placed_all : ℕ → List ℕ → ℕ → ℕ → Vector → Vector → ℕ → ℕ → Placed → Placed
placed_all p challenges last size a b zero t s = s
placed_all p challenges last size a b (suc m) t s =
    placed_all p challenges last size a b m (t + 1) (placed p challenges last size t s (a m) (b m))
