-- Document 01, "A run": the fold that a pass or a full-mode call works on.
use Rattle.std.specs.Prelude.{ℕ, ◌-◌}
use Rattle.vector.specs.Power.{size_in32}
use Rattle.phase.specs.declared.Next.{Next}
use Rattle.phase.specs.declared.Next.TheVariants.{Total, Message, Challenge, Ends, Openings}
use Rattle.phase.specs.declared.Kind.{Kind}
use Rattle.phase.specs.declared.Kind.TheVariants.{Shut, Asked, Change}

-- "For round i it folds to level i .. The passes for ends and openings use i = n"; a change writes the current folds, "for openings fold 0".
-- With no pass open, the level of the current fold.
abbrev pub level_at : ℕ → ℕ → Next → Kind → ℕ
level_at n i Total k = 0
level_at n i Message k = i
level_at n i Challenge k = i
level_at n i Ends k = n
level_at n i Openings Shut = 0
level_at n i Openings Asked = n
level_at n i Openings Change = 0

-- how long the current fold is
abbrev pub fold_at : ℕ → ℕ → Next → ℕ
fold_at n i next = size_in32 n (level_at n i next Shut)

-- the padding N - L, which a pass takes by itself
abbrev pub padding_of : ℕ → ℕ → ℕ
padding_of items n = size_in32 n 0 - items
