-- "The record that the call returns then holds, for each vector, a stack with its count": document 01, "Vectors and folds".
use Rattle.std.specs.Prelude.{ℕ, suc, ◌≤◌, ◌≡◌, cond}
use Rattle.vector.specs.Vector.{Vector}
use Rattle.vector.specs.Fold.{combine}
use Rattle.vector.specs.Stack.{entries}
use Rattle.kernel.specs.KernelView.{stack_f, stack_g}
use Rattle.phase.specs.declared.Kind.{Kind}
use Rattle.phase.specs.Cases.{is_change}
use Rattle.prover.specs.declared.Run.{Run}
use Rattle.pass.specs.declared.Pass.{Pass}
use Rattle.pass.specs.Pass.{kernel_of}
use Rattle.prover.specs.Level.{level_of}

-- of a pass that folds to level i and has taken t of the 2^n items of f and g, under the challenges c
pub record StacksOf (p n : ℕ) (c : ℕ → ℕ) (i : ℕ) (f g : Vector) (t : ℕ) (s : Pass) : Type 0 where
  pub first : stack_f (kernel_of s) ≡ entries (combine p) c n f t i
  pub second : stack_g (kernel_of s) ≡ entries (combine p) c n g t i
  -- at most one entry for each level 0 to i
  pub few_first : s.fcount ≤ suc i
  pub few_second : s.gcount ≤ suc i

-- the stacks of a change pass to level i keep the levels below i; those of any other, level i too
abbrev pub height_of : Run → Kind → ℕ
height_of r k = cond (is_change k) (level_of r k) (suc (level_of r k))
