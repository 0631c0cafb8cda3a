-- What is said of one call of a run's list, and of the list between two calls: to be read with State, Table and Meaning beside document 01.
use Rattle.std.specs.Prelude.{ℕ, suc, ◌-◌, ◌<◌, ◌≤◌, ◌≡◌, Bool, true, false, cond, ◌++◌, drop}
use Rattle.std.proofs.Math.Option.{Option, none, some}
use Rattle.wire.specs.Proof.{proof_size}
use Rattle.vector.specs.Vector.{at, dot}
use Rattle.vector.specs.Fold.{combine}
use Rattle.vector.specs.Stack.{entries, ones, ones_from, levels}
use Rattle.kernel.specs.declared.Kernel.{Kernel}
use Rattle.kernel.specs.KernelView.{stack_f, stack_g}
use Rattle.phase.specs.declared.Next.TheVariants as next
use Rattle.phase.specs.declared.Kind.TheVariants.{Asked}
use Rattle.phase.specs.Cases.{is_full, waits}
use Rattle.prover.specs.declared.Run.{Run}
use Rattle.pass.specs.declared.Pass.{Pass}
use Rattle.pass.specs.Pass.{kernel_of}
use Rattle.pass.specs.Values.{no_values}
use Rattle.runs.specs.Trip.{Trip, vector_f, vector_g}
use Rattle.runs.specs.Buffers.{Written}
use Rattle.calls.specs.declared.Call.{Call}
use Rattle.calls.specs.declared.Call.TheVariants as call
use Rattle.calls.specs.Step.{Lent, Result, is_answered}
use Rattle.calls.specs.State.{State, goes_on}
use Rattle.calls.specs.Table.{Refusal, refused_with, pass_level, long, taken, completed}
use Rattle.calls.specs.Claim.{amid_rounds}
use Rattle.calls.specs.Meaning.{meaning, proof_of_trip, fold_f, fold_g, binds_item, writes}

-- REFUSED EXACTLY WHEN, AND WITH THE NUMBER THAT, THE TABLE SAYS: then "state and buffers are unchanged"
abbrev pub Decides : Run → Pass → Lent → Option Refusal → Result → Type 0
Decides r s l none o = is_answered o.answer ≡ true
Decides r s l (some k) o = o ≡ record { run = r; pass = s; answer = refused_with k.0 k.1; values = no_values; lent = l }

-- THE STACKS of an open small pass for a round, the ends or openings
abbrev pub HasStacks : State → Type 0
HasStacks a = (a.pass.kind ≡ Asked) × (waits next.Total a.turn.next ≡ false)

-- "for each binary one in t modulo 2^(i+1), at place k (lowest 0), one level-k entry", whatever the items; so never over i + 1
pub record Counted (i t : ℕ) (k : Kernel) : Type 0 where
  pub f : levels (stack_f k) ≡ ones_from t 0 i
  pub g : levels (stack_g k) ≡ ones_from t 0 i
  pub fcount : k.fcount ≡ ones (suc i) t
  pub gcount : k.gcount ≡ ones (suc i) t
  pub few : ones (suc i) t ≤ suc i

abbrev pub CountsHold : State → Pass → Type 0
CountsHold a s = HasStacks a → Counted (pass_level a) (taken a) (kernel_of s)

-- "which is item N/2^k - q of fold k, q being t/2^k rounded down. The stack holds nothing else."
pub record Stacks (p : ℕ) (T : Trip) (a : State) (k : Kernel) : Type 0 where
  pub f : stack_f k ≡ entries (combine p) (at a.turn.challenges) T.start.rounds (vector_f p T) (taken a) (pass_level a)
  pub g : stack_g k ≡ entries (combine p) (at a.turn.challenges) T.start.rounds (vector_g p T) (taken a) (pass_level a)

-- THE BUFFERS: from which place on they hold the current fold: all of it in full mode up to the ends, what is completed in a change
-- pass (after the ends where the host kept them through), else nothing
abbrev pub known : Bool → State → ℕ
known through a =
    cond (is_full a.turn.mode) (cond (waits next.Openings a.turn.next) (long a) 0)
    (cond (binds_item through a) (long a - completed a (taken a)) (long a))

-- what holds between two calls of a list that brings the trip's items and keeps the buffers
pub record Holds (p : ℕ) (through : Bool) (T : Trip) (a : State) (r : Run) (s : Pass) : Type 0 where
  pub stacks : HasStacks a → Stacks p T a (kernel_of s)
  pub places_f : (j : ℕ) → known through a ≤ j → j < long a → at a.buffers.f j ≡ fold_f p T a j
  pub places_g : (j : ℕ) → known through a ≤ j → j < long a → at a.buffers.g j ≡ fold_g p T a j
  -- document 02, (e): "it equals before each round, and before the ends, the scalar product of the current folds"
  pub claim : amid_rounds a.turn.next ≡ true → r.claim ≡ dot p (long a) (fold_f p T a) (fold_g p T a)

-- an answered call answers what is meant, leaves the buffers with the places of the current fold that it is to write, and writes the
-- proof file, or no file
pub record Right (p : ℕ) (T : Trip) (a : State) (c : Call) (l : Lent) (o : Result) : Type 0 where
  pub answer : o.answer ≡ (meaning p T a c).answer
  pub values : o.values ≡ (meaning p T a c).values
  pub f : Written (fold_f p T (goes_on a c o.lent)) (writes a c).0 (writes a c).1 l.f o.lent.f
  pub g : Written (fold_g p T (goes_on a c o.lent)) (writes a c).0 (writes a c).1 l.g o.lent.g
  pub proof : c ≡ call.WriteProof → o.lent.file ≡ proof_of_trip p T a.turn.challenges ++ drop (proof_size T.start.rounds) l.file
  pub file : (c ≡ call.WriteProof → ⊥) → o.lent.file ≡ l.file
