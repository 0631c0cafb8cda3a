-- The turns of the calls that open a pass.
use mathlib.Core.Path.{◌≡◌, refl, sym, ap}
use mathlib.Core.Bool.{Bool, true, false, cond, true≢false}
use Prim.Native.Nat.{ℕ, ◌<◌}
use lib.Dec.{ltb}
use borrow.Author.Tests.{lt-ltb, ltb-true}
use Rattle.phase.specs.declared.Mode.{Mode}
use Rattle.phase.specs.declared.Mode.TheVariants.{Small, Full}
use Rattle.phase.specs.declared.Next.{Next}
use Rattle.phase.specs.declared.Next.TheVariants.{Total, Message, Challenge, Ends, Openings}
use Rattle.phase.specs.Cases.{is_small, waits}
use Rattle.phase.specs.Order.{open_next, openings_at}
use Rattle.phase.proofs.Facts.{waits-for}
use Rattle.prover.specs.declared.Run.{Run}
use Rattle.pass.specs.declared.Pass.{Pass}
use Rattle.prover.specs.WellFormed.{well_formed}
use Rattle.prover.specs.Open.{may_open, may_open_at}
use Rattle.prover.proofs.Facts.{holds}
use Rattle.prover.proofs.Decides.{Decides}

-- where a pass of small mode may be opened: what is next takes one, and no point
pub data TakesPass : Next → Type 0 where
  total : TakesPass Total
  message : TakesPass Message
  ends : TakesPass Ends

-- open's turn
pub record OpenTurn (p : ℕ) (r : Run) (s : Pass) : Type 0 where
  pub formed : well_formed p r s ≡ true
  pub small : r.mode ≡ Small
  pub next : TakesPass r.next

-- open_at's turn
pub record OpenAtTurn (p : ℕ) (r : Run) (s : Pass) : Type 0 where
  pub formed : well_formed p r s ≡ true
  pub small : r.mode ≡ Small
  pub next : r.next ≡ Openings
  pub rounds : 0 < r.start.rounds

small_is : (m : Mode) → is_small m ≡ true → m ≡ Small
small_is Small e = refl
small_is Full e = absurd (true≢false (sym e))

takes-pass : (n : Next) → open_next n ≡ true → TakesPass n
takes-pass Total e = total
takes-pass Message e = message
takes-pass Challenge e = absurd (true≢false (sym e))
takes-pass Ends e = ends
takes-pass Openings e = absurd (true≢false (sym e))

pass_taken : (n : Next) → TakesPass n → open_next n ≡ true
pass_taken n total = refl
pass_taken n message = refl
pass_taken n ends = refl

-- tests one after the other, all true
pub both_true : (a b : Bool) → a ≡ true → b ≡ true → cond a b false ≡ true
both_true true b h e = e
both_true false b h e = absurd (true≢false (sym h))

-- a record that a call returned, of a run in small mode
abbrev small_formed : ℕ → Run → Pass → Bool
small_formed p r s = cond (well_formed p r s) (is_small r.mode) false

formed_small : (p : ℕ) (r : Run) (s : Pass) → well_formed p r s ≡ true → r.mode ≡ Small → small_formed p r s ≡ true
formed_small p r s formed small = both_true (well_formed p r s) (is_small r.mode) formed (ap is_small small)

pub open_turn : (p : ℕ) (r : Run) (s : Pass) → Decides (may_open p r s) (OpenTurn p r s)
open_turn p r s =
    record {
      so = λ h.
          let a = holds (small_formed p r s) (open_next r.next) h in
          let b = holds (well_formed p r s) (is_small r.mode) a.0 in
          record { formed = b.0; small = small_is r.mode b.1; next = takes-pass r.next a.1 };
      back = λ t. both_true (small_formed p r s) (open_next r.next) (formed_small p r s t.formed t.small) (pass_taken r.next t.next);
    }

pub open_at_turn : (p : ℕ) (r : Run) (s : Pass) → Decides (may_open_at p r s) (OpenAtTurn p r s)
open_at_turn p r s =
    let opens = openings_at r.next r.start.rounds in
    record {
      so = λ h.
          let a = holds (small_formed p r s) opens h in
          let b = holds (well_formed p r s) (is_small r.mode) a.0 in
          let c = holds (waits Openings r.next) (ltb 0 r.start.rounds) a.1 in
          record {
            formed = b.0;
            small = small_is r.mode b.1;
            next = waits-for Openings r.next c.0;
            rounds = ltb-true 0 r.start.rounds c.1;
          };
      back = λ t.
          both_true (small_formed p r s) opens (formed_small p r s t.formed t.small)
          (both_true (waits Openings r.next) (ltb 0 r.start.rounds) (ap (waits Openings) t.next) (lt-ltb 0 r.start.rounds t.rounds));
    }
