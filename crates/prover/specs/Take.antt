-- What an answered item does: what it does to the pass and the buffers, and the answer.
use Rattle.std.specs.Prelude.{ℕ, List}
use Rattle.item.specs.declared.Item.{Item}
pub use Rattle.item.specs.Item.{enters_as}
use Rattle.kernel.specs.declared.Kernel.{Kernel}
use Rattle.kernel.specs.Change.{Placed}
use Rattle.pass.specs.declared.Pass.{Pass}
use Rattle.pass.specs.Take.{Moved, index_in, enters_in, entered_in, placed_in, stacked_in, takes_in}
use Rattle.prover.specs.declared.Run.{Run}
use Rattle.prover.specs.declared.Reply.TheVariants as answer
use Rattle.prover.specs.Records.{Out, out, answered_step}
use Rattle.prover.specs.Level.{stage_of}

abbrev pub next_index : Run → Pass → ℕ
next_index r s = index_in (stage_of r) s

abbrev pub entering : ℕ → Run → Pass → Item → ℕ
entering p r s x = enters_in p (stage_of r) s x

abbrev pub entered_item : ℕ → Run → Pass → ℕ → ℕ → Kernel
entered_item p r s f g = entered_in p (stage_of r) s f g

abbrev pub placed_item : ℕ → Run → Pass → ℕ → ℕ → List ℕ → List ℕ → Placed
placed_item p r s a b f g = placed_in p (stage_of r) s a b f g

-- the run is as it was
abbrev pub handed : Run → Moved → Out
handed r m = out (answered_step r m.pass answer.Taken) m.f m.g

abbrev pub taken_item : Run → Pass → Placed → Out
taken_item r s k = handed r (stacked_in s k)

unfoldable pub takes : ℕ → Run → Pass → Item → List ℕ → List ℕ → Out
takes p r s x f g = handed r (takes_in p (stage_of r) s x f g)
