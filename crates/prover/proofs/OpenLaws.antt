-- A PASS OPENED: refused exactly where document 01 says; otherwise a well-formed record whose pass has taken its padding and no item.
use mathlib.Core.Path.{◌≡◌, refl, sym, ap, subst, ◌∙◌}
use mathlib.Core.Bool.{true, cond}
use Prim.Native.Nat.{ℕ}
use lib.IntN.{pos}
use Rattle.refusal.specs.Number as number
use Rattle.refusal.specs.Outcome.{Outcome, answered, refused, refused_at}
use Rattle.refusal.proofs.Outcome.{require-says}
use Rattle.kernel.specs.declared.Kernel.{Kernel}
use Rattle.kernel.specs.declared.Points.{Points}
use Rattle.vector.specs.Slice.{is_nonzero}
use Rattle.kernel.specs.Kernel.{empty_kernel, padding_kernel}
use Rattle.phase.specs.declared.Mode.{Mode}
use Rattle.phase.specs.declared.Mode.TheVariants.{Small, Full}
use Rattle.phase.specs.declared.Next.{Next}
use Rattle.phase.specs.declared.Next.TheVariants.{Total, Message, Ends, Openings}
use Rattle.phase.specs.declared.Kind.TheVariants.{Asked}
use Rattle.phase.specs.Cases.{is_small, waits}
use Rattle.phase.specs.Level.{level_at}
use Rattle.phase.specs.Order.{kind_fits}
use Rattle.prover.specs.declared.Run.{Run}
use Rattle.pass.specs.declared.Pass.{Pass}
use Rattle.prover.specs.Reply as reply
use Rattle.pass.specs.Pass.{kernel_of}
use Rattle.prover.specs.Records.{Out}
use Rattle.prover.specs.Level.{padding}
use Rattle.prover.specs.WellFormed.{well_formed}
use Rattle.pass.specs.Open.{new_pass, no_points, points_of}
use Rattle.prover.specs.Open.{may_open, may_open_at, padded_kernel, open_kernel, opened, open_call, open_at_call}
use Rattle.prover.proofs.Facts.{formed}
use Rattle.prover.proofs.Decides.{Nonzero, nonzero, not_so}
use Rattle.prover.proofs.OpenFacts.{open_answered, open_at_answered}
use Rattle.prover.proofs.OpenTurns.{TakesPass, total, message, ends, OpenTurn, OpenAtTurn, open_turn, open_at_turn}
use Rattle.prover.proofs.NewPass.{new_formed, padded-counts, padded-room, open_counts}

-- what an answered opening hands back
pub record Opened (p : ℕ) (r : Run) (at : Points) (k : Kernel) (o : Out) : Type 0 where
  pub run : o.run ≡ r
  pub answer : o.answer ≡ answered reply.opened
  pub kind : o.pass.kind ≡ Asked
  pub taken : o.pass.taken ≡ 0
  pub total : o.pass.total ≡ pos 0
  pub dot : o.pass.dot ≡ 0
  pub points : o.pass.points ≡ at
  pub kernel : kernel_of o.pass ≡ k
  pub formed : well_formed p o.run o.pass ≡ true

opens : (p : ℕ) (r : Run) (points : Points) (k : Kernel) → well_formed p r (new_pass Asked points k) ≡ true → Opened p r points k (opened r points k)
opens p r points k h =
    record {
      run = refl;
      answer = refl;
      kind = refl;
      taken = refl;
      total = refl;
      dot = refl;
      points = refl;
      kernel = refl;
      formed = h;
    }

pub data OpenRefused (p : ℕ) (r : Run) (s : Pass) : ℕ → Type 0 where
  by_order : (OpenTurn p r s → ⊥) → OpenRefused p r s number.order

abbrev pub OpenSays : ℕ → Run → Pass → Outcome Out → Type 0
OpenSays p r s (answered o) = OpenTurn p r s × Opened p r no_points (open_kernel r) o
OpenSays p r s (refused k) = OpenRefused p r s k
OpenSays p r s (refused_at k i) = ⊥

kind_small : (m : Mode) (n : Next) → m ≡ Small → TakesPass n → kind_fits Asked m n ≡ true
kind_small Small n e total = refl
kind_small Small n e message = refl
kind_small Small n e ends = refl
kind_small Full n e t = ap is_small e

pub open_says : (p : ℕ) (r : Run) (s : Pass) → OpenSays p r s (open_call p r s)
unfolding open_call
open_says p r s =
    let d = open_turn p r s in
    require-says (OpenSays p r s) (may_open p r s) _ _ (λ bad. by_order (not_so d bad)) λ good.
    let t = d.so good in
    let q = open_counts r s (formed p r s t.formed) in (
      t,
      opens p r no_points (open_kernel r)
          (new_formed p r s Asked no_points (open_kernel r) t.formed (kind_small r.mode r.next t.small t.next) q.0 q.1),
    )

pub data OpenAtRefused (p : ℕ) (r : Run) (s : Pass) (b : ℕ) : ℕ → Type 0 where
  by_order : (OpenAtTurn p r s → ⊥) → OpenAtRefused p r s b number.order
  by_point : OpenAtTurn p r s → (Nonzero p b → ⊥) → OpenAtRefused p r s b number.argument

abbrev pub OpenAtSays : ℕ → Run → Pass → ℕ → Outcome Out → Type 0
OpenAtSays p r s b (answered o) = OpenAtTurn p r s × Nonzero p b × Opened p r (points_of p b) (padded_kernel r) o
OpenAtSays p r s b (refused k) = OpenAtRefused p r s b k
OpenAtSays p r s b (refused_at k i) = ⊥

kind_openings : (m : Mode) (n : Next) → m ≡ Small → n ≡ Openings → kind_fits Asked m n ≡ true
kind_openings m n e f = ap (λ m. kind_fits Asked m n) e ∙ ap (kind_fits Asked Small) f

pub open_at_says : (p : ℕ) (r : Run) (s : Pass) (b : ℕ) → OpenAtSays p r s b (open_at_call p r s b)
unfolding open_at_call
open_at_says p r s b =
    let d = open_at_turn p r s in
    let e = nonzero p b in
    require-says (OpenAtSays p r s b) (may_open_at p r s) _ _ (λ bad. by_order (not_so d bad)) λ good.
    require-says (OpenAtSays p r s b) (is_nonzero p b) _ _ (λ bad. by_point (d.so good) (not_so e bad)) λ fit.
    let t = d.so good in
    let w = formed p r s t.formed in (
      t,
      e.so fit,
      opens p r (points_of p b) (padded_kernel r)
          (new_formed p r s Asked (points_of p b) (padded_kernel r) t.formed (kind_openings r.mode r.next t.small t.next) (padded-counts r s w) (padded-room r s w)),
    )

-- what an answered call hands back
pub open_gives : (p : ℕ) (r : Run) (s : Pass) (o : Out) → open_call p r s ≡ answered o → Opened p r no_points (open_kernel r) o
open_gives p r s o e = (subst (OpenSays p r s) e (open_says p r s)).1

pub open_at_gives : (p : ℕ) (r : Run) (s : Pass) (b : ℕ) (o : Out) → open_at_call p r s b ≡ answered o → Opened p r (points_of p b) (padded_kernel r) o
open_at_gives p r s b o e = (subst (OpenAtSays p r s b) e (open_at_says p r s b)).2

-- a proper opening is answered
pub open_opens : (p : ℕ) (r : Run) (s : Pass) → OpenTurn p r s → open_call p r s ≡ answered (opened r no_points (open_kernel r))
open_opens p r s t = open_answered p r s ((open_turn p r s).back t)

pub open_at_opens : (p : ℕ) (r : Run) (s : Pass) (b : ℕ) → OpenAtTurn p r s → Nonzero p b
    → open_at_call p r s b ≡ answered (opened r (points_of p b) (padded_kernel r))
open_at_opens p r s b t e = open_at_answered p r s b ((open_at_turn p r s).back t) ((nonzero p b).back e)

-- "opening a pass anew drops the unfinished one": whatever the pass was
pub open_anew : (p : ℕ) (r : Run) (s unfinished : Pass) → OpenTurn p r s → OpenTurn p r unfinished → open_call p r unfinished ≡ open_call p r s
open_anew p r s unfinished t u = open_opens p r unfinished u ∙ sym (open_opens p r s t)

-- the kernel of the pass: nothing taken for the total, else the padding, folding to level i before message i and to level n after
pub total-kernel : (r : Run) → r.next ≡ Total → open_kernel r ≡ empty_kernel
total-kernel r e = ap (λ n. cond (waits Total n) empty_kernel (padded_kernel r)) e

pub message-kernel : (r : Run) → r.next ≡ Message → open_kernel r ≡ padding_kernel (padding r) r.round
message-kernel r e =
    ap (λ n. cond (waits Total n) empty_kernel (padded_kernel r)) e ∙ ap (λ n. padding_kernel (padding r) (level_at r.start.rounds r.round n Asked)) e

pub ends_kernel : (r : Run) → r.next ≡ Ends → open_kernel r ≡ padding_kernel (padding r) r.start.rounds
ends_kernel r e =
    ap (λ n. cond (waits Total n) empty_kernel (padded_kernel r)) e ∙ ap (λ n. padding_kernel (padding r) (level_at r.start.rounds r.round n Asked)) e

pub openings_kernel : (r : Run) → r.next ≡ Openings → padded_kernel r ≡ padding_kernel (padding r) r.start.rounds
openings_kernel r e = ap (λ n. padding_kernel (padding r) (level_at r.start.rounds r.round n Asked)) e
