-- The record of a pass: the part that the kernel works on, and the rest.
use Rattle.std.specs.Prelude.{ℕ, ℤ}
use Rattle.kernel.specs.declared.Kernel.{Kernel}
use Rattle.kernel.specs.declared.Points.{Points}
use Rattle.phase.specs.declared.Kind.{Kind}
use Rattle.pass.specs.declared.Pass.{Pass}

abbrev pub kernel_of : Pass → Kernel
kernel_of s =
    record {
      flevels = s.flevels;
      fvalues = s.fvalues;
      fcount = s.fcount;
      glevels = s.glevels;
      gvalues = s.gvalues;
      gcount = s.gcount;
      even = s.even;
      cross = s.cross;
      odd = s.odd;
      evals = s.evals;
    }

-- a pass of these parts
abbrev pub pass_with : Kind → ℕ → ℤ → ℕ → Points → Kernel → Pass
pass_with kind taken total dot points k =
    record {
      kind = kind;
      taken = taken;
      total = total;
      dot = dot;
      points = points;
      flevels = k.flevels;
      fvalues = k.fvalues;
      fcount = k.fcount;
      glevels = k.glevels;
      gvalues = k.gvalues;
      gcount = k.gcount;
      even = k.even;
      cross = k.cross;
      odd = k.odd;
      evals = k.evals;
    }

abbrev pub with_kernel : Pass → Kernel → Pass
with_kernel s k = pass_with s.kind s.taken s.total s.dot s.points k

-- the count and the sums of a pass
abbrev pub counted : Pass → ℕ → ℤ → ℕ → Pass
counted s taken total dot = pass_with s.kind taken total dot s.points (kernel_of s)
