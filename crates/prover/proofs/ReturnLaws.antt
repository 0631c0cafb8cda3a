-- THE RETURN TO SMALL MODE: refused exactly where document 02, (c), says; otherwise the records are as they were but for the mode, and well
-- formed.
use mathlib.Core.Path.{◌≡◌, refl, sym, ap}
use mathlib.Core.Bool.{true, true≢false}
use Prim.Native.Nat.{ℕ, ◌<◌}
use borrow.Author.Tests.{lt-ltb, ltb-true}
use Rattle.refusal.specs.Number as number
use Rattle.refusal.specs.Outcome.{Outcome, answered, refused, refused_at}
use Rattle.refusal.proofs.Outcome.{require-says}
use Rattle.phase.specs.declared.Mode.{Mode}
use Rattle.phase.specs.declared.Mode.TheVariants.{Small, Full}
use Rattle.phase.specs.declared.Next.{Next}
use Rattle.phase.specs.declared.Next.TheVariants.{Total, Message, Challenge, Ends, Openings}
use Rattle.phase.specs.declared.Kind.{Kind}
use Rattle.phase.specs.declared.Kind.TheVariants.{Shut, Asked, Change}
use Rattle.phase.specs.Cases.{is_full}
use Rattle.phase.specs.Order.{kind_fits, change_at}
use Rattle.prover.specs.declared.Run.{Run}
use Rattle.pass.specs.declared.Pass.{Pass}
use Rattle.pass.specs.Formed.{pass_formed}
use Rattle.prover.specs.Reply as reply
use Rattle.prover.specs.Records.{Out}
use Rattle.prover.specs.WellFormed.{run_formed, well_formed}
use Rattle.prover.specs.Close.{in_mode}
use Rattle.prover.specs.Change.{may_return, to_small_call}
use Rattle.prover.proofs.Facts.{holds}
use Rattle.prover.proofs.Decides.{Decides, not_so}
use Rattle.prover.proofs.OpenTurns.{both_true}
use Rattle.prover.proofs.FullFacts.{full_formed}

-- where the mode may change, n being the number of rounds
pub data TakesChange (n : ℕ) : Next → Type 0 where
  message : TakesChange n Message
  ends : TakesChange n Ends
  openings : 0 < n → TakesChange n Openings

pub record ReturnTurn (p : ℕ) (r : Run) (s : Pass) : Type 0 where
  pub formed : well_formed p r s ≡ true
  pub full : r.mode ≡ Full
  pub next : TakesChange r.start.rounds r.next

pub full_is : (m : Mode) → is_full m ≡ true → m ≡ Full
full_is Full e = refl
full_is Small e = absurd (true≢false (sym e))

takes-change : (n : ℕ) (t : Next) → change_at t n ≡ true → TakesChange n t
takes-change n Total e = absurd (true≢false (sym e))
takes-change n Message e = message
takes-change n Challenge e = absurd (true≢false (sym e))
takes-change n Ends e = ends
takes-change n Openings e = openings (ltb-true 0 n e)

change_taken : (n : ℕ) (t : Next) → TakesChange n t → change_at t n ≡ true
change_taken n t message = refl
change_taken n t ends = refl
change_taken n t (openings h) = lt-ltb 0 n h

pub return_turn_lem : (p : ℕ) (r : Run) (s : Pass) → Decides (may_return p r s) (ReturnTurn p r s)
return_turn_lem p r s =
    record {
      so = λ h.
          let a = holds (full_formed p r s) (change_at r.next r.start.rounds) h in
          let b = holds (well_formed p r s) (is_full r.mode) a.0 in
          record { formed = b.0; full = full_is r.mode b.1; next = takes-change r.start.rounds r.next a.1 };
      back = λ t.
          both_true (full_formed p r s) (change_at r.next r.start.rounds)
          (both_true (well_formed p r s) (is_full r.mode) t.formed (ap is_full t.full)) (change_taken r.start.rounds r.next t.next);
    }

-- a full run has no pass open, so that a small one may have its record
shut_small : (k : Kind) (m : Mode) (t : Next) → is_full m ≡ true → kind_fits k m t ≡ true → kind_fits k Small t ≡ true
shut_small Shut m t f h = refl
shut_small Asked Full t f h = absurd (true≢false (sym h))
shut_small Asked Small t f h = absurd (true≢false (sym f))
shut_small Change Full t f h = absurd (true≢false (sym h))
shut_small Change Small t f h = absurd (true≢false (sym f))

returned_formed : (p : ℕ) (r : Run) (s : Pass) → ReturnTurn p r s → well_formed p (in_mode r Small) s ≡ true
unfolding well_formed pass_formed
returned_formed p r s t =
    let a = holds (run_formed p r) (pass_formed r.start.items r.mode r.next s) t.formed in
    let k = holds (kind_fits s.kind r.mode r.next) _ a.1 in
    both_true (run_formed p r) (pass_formed r.start.items Small r.next s) a.0
    (both_true (kind_fits s.kind Small r.next) _ (shut_small s.kind r.mode r.next (ap is_full t.full) k.0) k.1)

-- what an answered return hands back
pub record Returned (p : ℕ) (r : Run) (s : Pass) (o : Out) : Type 0 where
  pub run : o.run ≡ in_mode r Small
  pub pass : o.pass ≡ s
  pub answer : o.answer ≡ answered reply.changed
  pub formed : well_formed p o.run o.pass ≡ true

pub data ReturnRefused (p : ℕ) (r : Run) (s : Pass) : ℕ → Type 0 where
  by_order : (ReturnTurn p r s → ⊥) → ReturnRefused p r s number.order

abbrev pub ReturnSays : ℕ → Run → Pass → Outcome Out → Type 0
ReturnSays p r s (answered o) = ReturnTurn p r s × Returned p r s o
ReturnSays p r s (refused k) = ReturnRefused p r s k
ReturnSays p r s (refused_at k i) = ⊥

pub return_says : (p : ℕ) (r : Run) (s : Pass) → ReturnSays p r s (to_small_call p r s)
unfolding to_small_call
return_says p r s =
    let d = return_turn_lem p r s in
    require-says (ReturnSays p r s) (may_return p r s) _ _ (λ bad. by_order (not_so d bad))
    λ good. (d.so good, record { run = refl; pass = refl; answer = refl; formed = returned_formed p r s (d.so good) })
