-- What the tests say: of what is next, of the round and of the open pass; and a bound of the level.
use mathlib.Core.Path.{◌≡◌, refl, sym, subst, ap, ◌∙◌}
use mathlib.Core.Bool.{true, true≢false}
use Prim.Native.Nat.{ℕ, zero, suc, ◌≤◌}
use native.Mathlib.Nat.{le_refl}
use native.Mathlib.Omega.{arith}
use borrow.Author.Tests.{eqb-true, ltb-true}
use Rattle.phase.specs.declared.Mode.{Mode}
use Rattle.phase.specs.declared.Mode.TheVariants.{Small, Full}
use Rattle.phase.specs.declared.Next.{Next}
use Rattle.phase.specs.declared.Next.TheVariants.{Total, Message, Challenge, Ends, Openings}
use Rattle.phase.specs.declared.Kind.{Kind}
use Rattle.phase.specs.declared.Kind.TheVariants.{Shut, Asked, Change}
use Rattle.phase.specs.Cases.{is_full, rank, waits}
use Rattle.phase.specs.Level.{level_at}
use Rattle.phase.specs.Order.{round_fits, kind_fits}

unfoldable of_rank : ℕ → Next
of_rank zero = Total
of_rank (suc zero) = Message
of_rank (suc (suc zero)) = Challenge
of_rank (suc (suc (suc zero))) = Ends
of_rank (suc (suc (suc (suc k)))) = Openings

rank-of : (a : Next) → of_rank (rank a) ≡ a
unfolding of_rank
rank-of Total = refl
rank-of Message = refl
rank-of Challenge = refl
rank-of Ends = refl
rank-of Openings = refl

-- what waits is next
pub waits-for : (wanted next : Next) → waits wanted next ≡ true → next ≡ wanted
waits-for wanted next e = sym (rank-of next) ∙ ap of_rank (sym (eqb-true (rank wanted) (rank next) e)) ∙ rank-of wanted

pub round_at_most : (next : Next) (round rounds : ℕ) → round_fits next round rounds ≡ true → round ≤ rounds
round_at_most Total round rounds e = omega (arith, eqb-true round 0 e)
round_at_most Message round rounds e = omega (arith, ltb-true round rounds e)
round_at_most Challenge round rounds e = omega (arith, ltb-true round rounds e)
round_at_most Ends round rounds e = omega (arith, eqb-true round rounds e)
round_at_most Openings round rounds e = omega (arith, eqb-true round rounds e)

pub level-at-most : (n i : ℕ) (next : Next) (kind : Kind) → i ≤ n → level_at n i next kind ≤ n
level-at-most n i Total kind h = omega arith
level-at-most n i Message kind h = h
level-at-most n i Challenge kind h = h
level-at-most n i Ends kind h = le_refl n
level-at-most n i Openings Shut h = omega arith
level-at-most n i Openings Asked h = le_refl n
level-at-most n i Openings Change h = omega arith

-- in full mode no pass is open, whatever is next
pub full_kind : (kind : Kind) (mode : Mode) (a b : Next) → is_full mode ≡ true → kind_fits kind mode a ≡ true → kind_fits kind mode b ≡ true
full_kind Shut mode a b h e = refl
full_kind Asked Small a b h e = absurd (true≢false (sym h))
full_kind Asked Full a b h e = absurd (true≢false (sym e))
full_kind Change Small a b h e = absurd (true≢false (sym h))
full_kind Change Full a b h e = absurd (true≢false (sym e))

-- nor is one open where a challenge is next
pub challenge_kind : (kind : Kind) (mode : Mode) (a b : Next) → waits Challenge a ≡ true → kind_fits kind mode a ≡ true → kind_fits kind mode b ≡ true
challenge_kind kind mode a b h e = go kind mode (subst (λ n. kind_fits kind mode n ≡ true) (waits-for Challenge a h) e)
  where
    go : (kind : Kind) (mode : Mode) → kind_fits kind mode Challenge ≡ true → kind_fits kind mode b ≡ true
    go Shut mode e = refl
    go Asked Small e = absurd (true≢false (sym e))
    go Asked Full e = absurd (true≢false (sym e))
    go Change Small e = absurd (true≢false (sym e))
    go Change Full e = absurd (true≢false (sym e))
