-- The tests of what is next, as what they let in.
use mathlib.Core.Path.{◌≡◌, refl, sym}
use mathlib.Core.Bool.{Bool, true, false, not, ◌&&◌, ◌||◌, true≢false}
use mathlib.Core.Option.{Option, none}
use Prim.Native.Nat.{ℕ}
use Rattle.phase.specs.declared.Mode.{Mode}
use Rattle.phase.specs.declared.Mode.TheVariants.{Small, Full}
use Rattle.phase.specs.declared.Next.{Next}
use Rattle.phase.specs.declared.Next.TheVariants as next
use Rattle.phase.specs.declared.Kind.{Kind}
use Rattle.phase.specs.declared.Kind.TheVariants.{Shut, Asked, Change}
use Rattle.phase.specs.Cases.{waits, is_full, is_small}
use Rattle.phase.specs.Order.{kind_fits}
use Rattle.calls.specs.Table.{Refusal, row_at, openings_next}
use Rattle.calls.proofs.Steps.{some_none}

-- tests that hold
pub both : (x y : Bool) → (x && y) ≡ true → (x ≡ true) × (y ≡ true)
both true y e = (refl, e)
both false y e = absurd (true≢false (sym e))

pub not_so : (b : Bool) → not b ≡ true → b ≡ false
not_so true e = absurd (true≢false (sym e))
not_so false e = refl

pub row-at-passed : (b : Bool) (k i : ℕ) (t : Option Refusal) → row_at b k i t ≡ none → (b ≡ true) × (t ≡ none)
row-at-passed true k i t e = (refl, e)
row-at-passed false k i t e = absurd (some_none e)

-- a pass, openings, a change
pub pass_kind : (m : Mode) (t : Next) → (is_small m && (waits next.Total t || (waits next.Message t || waits next.Ends t))) ≡ true
    → (kind_fits Asked m t ≡ true) × (waits next.Openings t ≡ false)
pass_kind Full t e = absurd (true≢false (sym e))
pass_kind Small next.Total e = (refl, refl)
pass_kind Small next.Message e = (refl, refl)
pass_kind Small next.Challenge e = absurd (true≢false (sym e))
pass_kind Small next.Ends e = (refl, refl)
pass_kind Small next.Openings e = absurd (true≢false (sym e))

pub openings_kind : (m : Mode) (t : Next) (n : ℕ) → (is_small m && openings_next t n) ≡ true → (kind_fits Asked m t ≡ true) × (waits next.Openings t ≡ true)
openings_kind Full t n e = absurd (true≢false (sym e))
openings_kind Small next.Total n e = absurd (true≢false (sym e))
openings_kind Small next.Message n e = absurd (true≢false (sym e))
openings_kind Small next.Challenge n e = absurd (true≢false (sym e))
openings_kind Small next.Ends n e = absurd (true≢false (sym e))
openings_kind Small next.Openings n e = (refl, refl)

pub change_kind : (m : Mode) (t : Next) (n : ℕ) → (is_small m && (waits next.Message t || (waits next.Ends t || openings_next t n))) ≡ true → kind_fits Change m t ≡ true
change_kind Full t n e = absurd (true≢false (sym e))
change_kind Small next.Total n e = absurd (true≢false (sym e))
change_kind Small next.Message n e = refl
change_kind Small next.Challenge n e = absurd (true≢false (sym e))
change_kind Small next.Ends n e = refl
change_kind Small next.Openings n e = refl

-- IN FULL MODE no pass is open
pub full_shut : (k : Kind) (m : Mode) (t : Next) → is_full m ≡ true → kind_fits k m t ≡ true → k ≡ Shut
full_shut Shut m t f h = refl
full_shut Asked Small t f h = absurd (true≢false (sym f))
full_shut Asked Full t f h = absurd (true≢false (sym h))
full_shut Change Small t f h = absurd (true≢false (sym f))
full_shut Change Full t f h = absurd (true≢false (sym h))

pub challenge_shut : (k : Kind) (m : Mode) → kind_fits k m next.Challenge ≡ true → k ≡ Shut
challenge_shut Shut m h = refl
challenge_shut Asked Small h = absurd (true≢false (sym h))
challenge_shut Asked Full h = absurd (true≢false (sym h))
challenge_shut Change Small h = absurd (true≢false (sym h))
challenge_shut Change Full h = absurd (true≢false (sym h))
