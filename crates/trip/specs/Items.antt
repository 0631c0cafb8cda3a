-- The two vectors of a log: fold 0, which the program lends again for the openings.
use Rattle.std.specs.Prelude.{ℕ, List, pos, Option, Some, None}
use Rattle.refusal.specs.Outcome.{Outcome, answered, refused, refused_at}
use Rattle.field.specs.Modulus.{modulus}
use Rattle.field.specs.Total as total
use Rattle.item.specs.declared.Given.TheVariants.{Reading}
use Rattle.item.specs.declared.Item.{Item}
use Rattle.item.specs.declared.Start.{Start}
use Rattle.item.specs.Item.{parts_of}
use Rattle.wire.specs.Log.{log_item}

-- "items L to N-1 are zero pairs"
abbrev pub zero_pair : Item
zero_pair = record { f = 0; g = 0; worth = pos 0 }

abbrev pub or_zero : Outcome Item → Item
or_zero (answered x) = x
or_zero (refused k) = zero_pair
or_zero (refused_at k i) = zero_pair

abbrev pub pair_of : ℕ → Start → ℕ → Option total.Item → Item
pair_of p s i (Some x) = or_zero (parts_of p s i (Reading x.reading x.weight))
pair_of p s i None = zero_pair

-- item i of both vectors: the log's, by its parts, and a zero pair past the log's end
unfoldable pub pair_at : ℕ → Start → List ℕ → ℕ → Item
pair_at p s log i = pair_of p s i (log_item log i)

abbrev pub f_at : Start → List ℕ → ℕ → ℕ
f_at s log i = (pair_at modulus s log i).f

abbrev pub g_at : Start → List ℕ → ℕ → ℕ
g_at s log i = (pair_at modulus s log i).g
