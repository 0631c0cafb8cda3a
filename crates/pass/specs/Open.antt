-- A pass that has taken no item: "A small pass takes the padding by itself".
use Rattle.std.specs.Prelude.{ℕ, true, cond, pos}
use Rattle.algebra.specs.Mod.{neg_mod, mul_mod}
use Rattle.kernel.specs.declared.Kernel.{Kernel}
use Rattle.kernel.specs.declared.Points.{Points}
pub use Rattle.kernel.specs.Kernel.{no_points}
use Rattle.kernel.specs.Kernel.{empty_kernel, padding_kernel, padding_below}
use Rattle.phase.specs.declared.Next.TheVariants as next
use Rattle.phase.specs.declared.Kind.{Kind}
use Rattle.phase.specs.declared.Kind.TheVariants.{Asked, Change}
use Rattle.phase.specs.Cases.{waits}
use Rattle.pass.specs.declared.Pass.{Pass}
use Rattle.pass.specs.declared.Stage.{Stage}
use Rattle.pass.specs.Pass.{pass_with}
use Rattle.pass.specs.Stage.{level_in, padding_in}

abbrev pub new_pass : Kind → Points → Kernel → Pass
new_pass kind points k = pass_with kind 0 (pos 0) 0 points k

abbrev pub empty_pass : Kind → Pass
empty_pass kind = new_pass kind no_points empty_kernel

-- "Opening at point b": b, -b, b squared
abbrev pub points_of : ℕ → ℕ → Points
points_of p b = record { on = true; point = b; minus = neg_mod p b; square = mul_mod p b b }

-- the padding, folded to the level of what is next; a pass for the total has no stack
abbrev pub padded_in : Stage → Kernel
padded_in w = padding_kernel (padding_in w) (level_in w Asked)

abbrev pub open_in : Stage → Kernel
open_in w = cond (waits next.Total w.next) empty_kernel (padded_in w)

-- a pass for what is next, one for the openings at a point, and one that changes to full mode
abbrev pub asked_in : Stage → Pass
asked_in w = new_pass Asked no_points (open_in w)

abbrev pub asked_at : ℕ → Stage → ℕ → Pass
asked_at p w b = new_pass Asked (points_of p b) (padded_in w)

abbrev pub change_in : Stage → Pass
change_in w = new_pass Change no_points (padding_below (padding_in w) (level_in w Change))
