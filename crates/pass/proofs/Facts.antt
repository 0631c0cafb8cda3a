-- Sizes as the code has them; bounds of the padding; what a count of items that fits tells.
use mathlib.Core.Path.{◌≡◌, sym, ap, ◌∙◌}
use mathlib.Core.Bool.{Bool, true, cond}
use denote.Enum.Bare.{sameb}
use Prim.Native.Nat.{ℕ, ◌+◌, ◌^◌, ◌≤◌}
use native.Mathlib.Omega.{arith}
use lib.Pow.{pow_mono}
use borrow.Author.Tests.{lt-ltb, leb-true, le-leb}
use Rattle.refusal.proofs.Outcome.{both}
use Rattle.vector.specs.Rounds.{size}
use Rattle.vector.specs.Power.{size_in32}
use Rattle.vector.proofs.Rounds.{size-all}
use Rattle.phase.specs.declared.Next.{Next}
use Rattle.phase.specs.declared.Next.TheVariants as next
use Rattle.phase.specs.declared.Kind.{Kind}
use Rattle.phase.specs.declared.Kind.TheVariants as kind
use Rattle.phase.specs.contracts.Next as next-contract
use Rattle.phase.specs.contracts.Kind as kind-contract
use Rattle.phase.specs.Cases.{is_change, waits}
use Rattle.phase.specs.Level.{padding_of}
use Rattle.pass.specs.declared.Stage.{Stage}
use Rattle.pass.specs.Take.{fits_in}

pub size_32 : (n j : ℕ) → n ≤ 15 → size_in32 n j ≡ size n j
unfolding size_in32
size_32 n j h = ap (λ b. cond b (size n j) 0) (lt-ltb n 32 (omega arith))

-- the padding and the items of a pass
pub padding_few : (items n t : ℕ) → n ≤ 15 → t ≤ items → items ≤ 32768 → padding_of items n + t ≤ 32768
padding_few items n t few within most =
    let e : size_in32 n 0 ≡ 2 ^ n = size_32 n 0 few ∙ size-all n in
    let b : 2 ^ n ≤ 2 ^ 15 = pow_mono few in
    omega arith

pub fitting : (w : Stage) (taken n : ℕ) → fits_in w taken n ≡ true → (w.start.rounds ≤ 15) × (w.start.items ≤ 32768) × (taken + n ≤ w.start.items)
unfolding fits_in
fitting w taken n e =
    let a = both _ _ e in
    let b = both _ _ a.1 in
    (leb-true _ _ a.0, leb-true _ _ b.0, leb-true _ _ b.1)

pub fits-so : (w : Stage) (taken n : ℕ) → w.start.rounds ≤ 15 → w.start.items ≤ 32768 → taken + n ≤ w.start.items → fits_in w taken n ≡ true
unfolding fits_in
fits-so w taken n few most wanted = simp (le-leb _ _ few, le-leb _ _ most, le-leb _ _ wanted)

-- what a test of the kind or of what is next tells
pub total_is : (a : Next) {r : Bool} → r ≡ sameb next-contract.the_type a next.Total → waits next.Total a ≡ r
total_is next.Total e = sym e
total_is next.Message e = sym e
total_is next.Challenge e = sym e
total_is next.Ends e = sym e
total_is next.Openings e = sym e

pub change_is : (k : Kind) {r : Bool} → r ≡ sameb kind-contract.the_type k kind.Change → r ≡ is_change k
change_is kind.Shut e = e
change_is kind.Asked e = e
change_is kind.Change e = e
