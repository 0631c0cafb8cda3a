-- The test for records that no call returns: what safety and the contracts need, in constant time. And the test of a total.
use Rattle.std.specs.Prelude.{ℕ, ◌*◌, Bool, true, false, cond, eqb, leb, ltb, ℤ, nat_abs}
use Rattle.refusal.specs.Limit.{max_items, max_rounds, max_worth}
use Rattle.field.specs.Total.{in_limits}
use Rattle.vector.specs.Rounds.{rounds_of}
use Rattle.item.specs.declared.Start.{Start}
use Rattle.item.specs.Start.{version_kept}
use Rattle.phase.specs.declared.Mode.{Mode}
use Rattle.phase.specs.declared.Next.{Next}
use Rattle.phase.specs.declared.Next.TheVariants.{Total}
use Rattle.phase.specs.Cases.{waits}
use Rattle.phase.specs.Order.{round_fits, kind_fits}
use Rattle.pass.specs.declared.Pass.{Pass}

-- of a run: what its start fixed, what is next, the round and the kept total
unfoldable pub turn_formed : ℕ → Start → Next → ℕ → ℤ → Bool
turn_formed p s next round total =
    cond (version_kept s.plain s.version)
    (cond (ltb s.items 1) false
    (cond (ltb max_items s.items) false
    (cond (eqb s.rounds (rounds_of s.items)) (cond (round_fits next round s.rounds) (in_limits p total) false) false)))
    false

-- of a pass, beside L, the mode and what is next of its run; its total is one that so many items can have
unfoldable pub pass_formed : ℕ → Mode → Next → Pass → Bool
pass_formed items mode next s =
    cond (kind_fits s.kind mode next)
    (cond (ltb items s.taken) false
    (cond (eqb s.fcount s.gcount) (cond (ltb max_rounds s.fcount) false (leb (nat_abs s.total) (s.taken * max_worth))) false))
    false

-- 7: a plain total within its limits
abbrev pub total_within : ℕ → Next → Bool → ℤ → Bool
total_within p next plain total = cond (waits Total next) (cond plain (in_limits p total) true) true
