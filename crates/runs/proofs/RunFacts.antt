-- What a well-formed run tells, whatever its pass.
use mathlib.Core.Path.{◌≡◌, refl, sym, ap, subst, ◌∙◌}
use mathlib.Core.Bool.{true}
use Prim.Native.Nat.{ℕ, ◌-◌, ◌^◌, ◌≤◌}
use native.Mathlib.Omega.{arith}
use borrow.Author.Tests.{le-ltb}
use Rattle.vector.specs.Rounds.{size}
use Rattle.vector.proofs.Rounds.{rounds-enough}
use Rattle.phase.specs.declared.Next.{Next}
use Rattle.phase.specs.declared.Next.TheVariants.{Total, Message, Challenge, Ends, Openings}
use Rattle.phase.specs.declared.Kind.{Kind}
use Rattle.phase.specs.declared.Kind.TheVariants.{Shut, Change}
use Rattle.phase.specs.Level.{level_at}
use Rattle.phase.proofs.Facts.{level-at-most}
use Rattle.prover.specs.declared.Run.{Run}
use Rattle.prover.specs.Level.{level_of, fold_size, padding}
use Rattle.pass.specs.Formed.{pass_formed}
use Rattle.prover.specs.WellFormed.{run_formed, well_formed}
use Rattle.prover.specs.Close.{shut_pass}
use Rattle.pass.proofs.Facts.{size_32}
use Rattle.prover.proofs.Facts.{Formed, formed}
use Rattle.prover.proofs.NewPass.{padding-is}

-- a change writes the current fold
pub change_level : (n i : ℕ) (next : Next) → level_at n i next Shut ≡ level_at n i next Change
change_level n i Total = refl
change_level n i Message = refl
change_level n i Challenge = refl
change_level n i Ends = refl
change_level n i Openings = refl

pub shut_formed : (p : ℕ) (r : Run) → run_formed p r ≡ true → well_formed p r shut_pass ≡ true
unfolding well_formed pass_formed
shut_formed p r h = rw (h, le-ltb r.start.items 0 (omega arith))

module _ (p : ℕ) (r : Run) (ok : run_formed p r ≡ true) where
  -- its facts, with no pass open
  pub run-facts : Formed r shut_pass
  run-facts = formed p r shut_pass (shut_formed p r ok)

  pub run-level : (k : Kind) → level_of r k ≤ r.start.rounds
  run-level k = level-at-most r.start.rounds r.round r.next k run-facts.round

  pub run-items : r.start.items ≤ 2 ^ r.start.rounds
  run-items = subst (λ n. r.start.items ≤ 2 ^ n) (sym run-facts.rounds) (rounds-enough r.start.items run-facts.most)

  pub run-padding : padding r ≡ 2 ^ r.start.rounds - r.start.items
  run-padding = padding-is r shut_pass run-facts

  pub run-fold : fold_size r ≡ size r.start.rounds (level_of r Change)
  run-fold = size_32 r.start.rounds (level_of r Shut) run-facts.few ∙ ap (size r.start.rounds) (change_level r.start.rounds r.round r.next)

-- the same as one record
pub record Bounds (r : Run) : Type 0 where
  pub some : 1 ≤ r.start.items
  pub most : r.start.items ≤ 32768
  pub few : r.start.rounds ≤ 15
  pub enough : r.start.items ≤ 2 ^ r.start.rounds
  pub level : (k : Kind) → level_of r k ≤ r.start.rounds
  pub padding : padding r ≡ 2 ^ r.start.rounds - r.start.items

pub bounds : (p : ℕ) (r : Run) → run_formed p r ≡ true → Bounds r
bounds p r ok =
    let f = run-facts p r ok in
    record { some = f.some; most = f.most; few = f.few; enough = run-items p r ok; level = run-level p r ok; padding = run-padding p r ok }
