-- A SMALL PASS and its close: the stacks while it is open, and each answer once all N items of f and g were taken.
use mathlib.Core.Path.{◌≡◌, sym, ap, ap₂, subst, ◌∙◌}
use mathlib.Core.Bool.{true}
use Prim.Native.Nat.{ℕ, suc, ◌^◌, ◌<◌}
use native.Mathlib.Omega.{arith}
use borrow.Author.Tests.{ltb-true}
use lib.ListN.{get_or}
use Rattle.std.specs.Prelude.{Ok}
use Rattle.refusal.specs.Outcome.{answered}
use Rattle.algebra.specs.Mod.{residue}
use Rattle.algebra.proofs.Congruence.{base-of, residue-lt, residue-small}
use Rattle.vector.specs.Vector.{Vector}
use Rattle.vector.specs.Fold.{fold, end_value}
use Rattle.vector.specs.Message.{Message as Numbers, message}
use Rattle.vector.specs.Opening.{opening}
use Rattle.kernel.specs.KernelView.{sums_of}
use Rattle.vector.proofs.Folds.{fold-reduced}
use Rattle.vector.specs.Stack.{ones}
use Rattle.kernel.proofs.KernelPass.{Taken, taken-first, taken-second, taken-count, taken-at-most}
use Rattle.kernel.proofs.KernelEnds.{taken-message, taken-end_first, taken-end_second}
use Rattle.phase.specs.declared.Next.TheVariants.{Message, Ends, Openings}
use Rattle.phase.specs.declared.Kind.TheVariants.{Asked}
use Rattle.phase.specs.Level.{level_at}
use Rattle.phase.specs.Order.{round_fits}
use Rattle.prover.specs.declared.Run.{Run}
use Rattle.pass.specs.declared.Pass.{Pass}
use Rattle.prover.specs.declared.Reply.TheVariants as answer
use Rattle.pass.specs.Pass.{kernel_of}
use Rattle.prover.specs.Records.{answered_step}
use Rattle.prover.specs.Level.{level_of}
use Rattle.prover.specs.WellFormed.{run_formed}
use Rattle.pass.specs.Open.{points_of}
use Rattle.pass.specs.Values.{in_ninety}
use Rattle.prover.specs.Close.{shut_pass, with_message, with_ends, finished}
use Rattle.pass.proofs.OpeningValues.{taken-opened}
use Rattle.runs.specs.Stacks.{StacksOf}
use Rattle.runs.proofs.RunFacts.{run-facts, run-level}

-- WHILE THE PASS IS OPEN, after t of the items
module _ (p : ℕ) (c : ℕ → ℕ) (f g : Vector) (r : Run) (s : Pass) (ok : run_formed p r ≡ true) (t : ℕ)
    (h : Taken p r.start.rounds c (level_of r s.kind) s.points f g t (kernel_of s)) where
  -- one entry for each binary one of t modulo 2^(i+1)
  pub stack_counts : (s.fcount ≡ ones (suc (level_of r s.kind)) t) × (s.gcount ≡ ones (suc (level_of r s.kind)) t)
  stack_counts =
      let few = (run-facts p r ok).few in
      let first = taken-count p r.start.rounds c (level_of r s.kind) s.points f g few (run-level p r ok s.kind) t (kernel_of s) h in
      (first, h.paired.counts ∙ first)

  pub stacks-taken : StacksOf p r.start.rounds c (level_of r s.kind) f g t s
  stacks-taken =
      let few = (run-facts p r ok).few in
      let level = run-level p r ok s.kind in
      let most = taken-at-most p r.start.rounds c (level_of r s.kind) s.points f g few level t (kernel_of s) h in
      let same = h.paired.counts in
      record {
        first = taken-first p r.start.rounds c (level_of r s.kind) s.points f g few level t (kernel_of s) h;
        second = taken-second p r.start.rounds c (level_of r s.kind) s.points f g few level t (kernel_of s) h;
        few_first = most;
        few_second = omega (arith, most, same);
      }

-- ALL ITEMS TAKEN
module _ (p : ℕ) (c : ℕ → ℕ) (f g : Vector) (r : Run) (s : Pass) (ok : run_formed p r ≡ true)
    (h : Taken p r.start.rounds c (level_of r s.kind) s.points f g (2 ^ r.start.rounds) (kernel_of s)) where
  abbrev At : ℕ → Type 0
  At i = Taken p r.start.rounds c i s.points f g (2 ^ r.start.rounds) (kernel_of s)

  -- "Message i, from fold i"
  pub closed-message : r.next ≡ Message
      → (let m : Numbers = message p r.start.rounds c f g r.round in
      finished p r s Message ≡ answered (answered_step (with_message r m.even m.cross m.odd) shut_pass (answer.Message m.even m.cross m.odd)))
  closed-message next =
      let level : level_of r s.kind ≡ r.round = ap (λ a. level_at r.start.rounds r.round a s.kind) next in
      let less : r.round < r.start.rounds = ltb-true r.round r.start.rounds (ap (λ a. round_fits a r.round r.start.rounds) (sym next) ∙ (run-facts p r ok).fits) in
      let sums : sums_of (kernel_of s) ≡ message p r.start.rounds c f g r.round =
      taken-message p r.start.rounds c s.points f g (kernel_of s) r.round (subst At level h) less in
      ap (λ (m : Numbers). answered (answered_step (with_message r m.even m.cross m.odd) shut_pass (answer.Message m.even m.cross m.odd))) sums

  -- the end values are fold n
  pub end_values : r.next ≡ Ends → (get_or s.fvalues 0 0 ≡ end_value p c r.start.rounds f) × (get_or s.gvalues 0 0 ≡ end_value p c r.start.rounds g)
  end_values next =
      let level : level_of r s.kind ≡ r.start.rounds = ap (λ a. level_at r.start.rounds r.round a s.kind) next in (
        taken-end_first p r.start.rounds c s.points f g (kernel_of s) (subst At level h),
        taken-end_second p r.start.rounds c s.points f g (kernel_of s) (subst At level h),
      )

  pub closed-ends : r.next ≡ Ends
      → (let a : ℕ = end_value p c r.start.rounds f in
      let b : ℕ = end_value p c r.start.rounds g in
      finished p r s Ends ≡ answered (answered_step (with_ends r a b) shut_pass (answer.Ends a b)))
  closed-ends next =
      let e = end_values next in
      ap₂ (λ (a b : ℕ). answered (answered_step (with_ends r a b) shut_pass (answer.Ends a b))) e.0 e.1

  -- "Opening at point b"
  pub closed-opening : r.next ≡ Openings → s.kind ≡ Asked → (b : ℕ) → s.points ≡ points_of p b
      → finished p r s Openings
      ≡ answered (record { run = r; pass = shut_pass; answer = Ok answer.Opening; values = in_ninety r.start.rounds (opening p r.start.rounds c f g b) })
  closed-opening next asked b points =
      let level : level_of r s.kind ≡ r.start.rounds = ap₂ (λ a k. level_at r.start.rounds r.round a k) next asked in
      ap (λ vs. answered (record { run = r; pass = shut_pass; answer = Ok answer.Opening; values = vs }))
      (taken-opened p r.start.rounds c s.points f g (kernel_of s) b (ap (λ a. a.on) points) (ap (λ a. a.point) points) (ap (λ a. a.minus) points)
      (ap (λ a. a.square) points) (subst At level h) (run-facts p r ok).few)

-- FIELD NUMBERS
module _ (p : ℕ) (some : 0 < p) where
  pub residue-below : (a : ℕ) → residue p a < p
  residue-below a = subst (λ q. residue p a < q) (base-of p some) (residue-lt p a)

  -- of field numbers every fold is one, so the end value is
  pub fold-below : (c : ℕ → ℕ) (v : Vector) → ((j : ℕ) → v j < p) → (i j : ℕ) → fold p c i v j < p
  fold-below c v h i j =
      let reduced : (j : ℕ) → residue p (v j) ≡ v j = λ j. residue-small p (v j) (subst (λ q. v j < q) (sym (base-of p some)) (h j)) in
      subst (λ x. x < p) (fold-reduced p c v reduced i j) (residue-below (fold p c i v j))

  pub end_below : (c : ℕ → ℕ) (n : ℕ) (v : Vector) → ((j : ℕ) → v j < p) → end_value p c n v < p
  end_below c n v h = fold-below c v h n 0

  -- a message has three of them
  pub message-below : (n : ℕ) (c : ℕ → ℕ) (f g : Vector) (i : ℕ)
      → (let m : Numbers = message p n c f g i in (m.even < p) × (m.cross < p) × (m.odd < p))
  message-below n c f g i = (residue-below _, residue-below _, residue-below _)
