-- Which mode, which next, which kind.
use Rattle.std.specs.Prelude.{ℕ, Bool, true, false, not, eqb}
use Rattle.phase.specs.declared.Mode.{Mode}
use Rattle.phase.specs.declared.Mode.TheVariants.{Small, Full}
use Rattle.phase.specs.declared.Next.{Next}
use Rattle.phase.specs.declared.Next.TheVariants.{Total, Message, Challenge, Ends, Openings}
use Rattle.phase.specs.declared.Kind.{Kind}
use Rattle.phase.specs.declared.Kind.TheVariants.{Shut, Asked, Change}

abbrev pub is_full : Mode → Bool
is_full Small = false
is_full Full = true

abbrev pub is_small : Mode → Bool
is_small m = not (is_full m)

abbrev pub is_open : Kind → Bool
is_open Shut = false
is_open Asked = true
is_open Change = true

abbrev pub is_change : Kind → Bool
is_change Shut = false
is_change Asked = false
is_change Change = true

abbrev pub rank : Next → ℕ
rank Total = 0
rank Message = 1
rank Challenge = 2
rank Ends = 3
rank Openings = 4

-- what is wanted is next
abbrev pub waits : Next → Next → Bool
waits wanted next = eqb (rank wanted) (rank next)
