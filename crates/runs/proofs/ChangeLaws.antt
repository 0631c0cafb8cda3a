-- A CHANGE PASS writes the current fold: its opening the places that the padding completes, each item the place that it completes.
use mathlib.Core.Path.{◌≡◌, refl, sym, ap, ap₂, subst, ◌∙◌}
use mathlib.Core.Bool.{Bool, true, false, cond}
use mathlib.Core.List.{List}
use Prim.Native.Nat.{ℕ, suc, ◌+◌, ◌-◌, ◌/◌, ◌%◌, ◌^◌, ◌<◌, ◌≤◌}
use native.Mathlib.Omega.{arith}
use lib.Dec.{eqb}
use lib.ListN.{length, set}
use lib.Pow.{shr_mono}
use Rattle.vector.specs.Rounds.{size}
use Rattle.vector.specs.Vector.{Vector, at}
use Rattle.vector.specs.Fold.{fold}
use Rattle.item.specs.declared.Item.{Item}
use Rattle.kernel.specs.declared.Climber.{Climber}
use Rattle.kernel.specs.Kernel.{climber_in}
use Rattle.kernel.specs.Change.{placed_of, placed_at, placed}
use Rattle.kernel.specs.KernelView.{Paired}
use Rattle.kernel.proofs.KernelSteps.{fits-so}
use Rattle.kernel.proofs.KernelTurns.{placed-fits}
use Rattle.kernel.proofs.KernelOpen.{padded-fold}
use Rattle.kernel.proofs.KernelLevels.{LevelledBelow}
use Rattle.kernel.proofs.KernelChangePass.{Changing, arrives_last, arrives_below, reaches_last, stops_before}
use Rattle.phase.specs.declared.Next.TheVariants as next
use Rattle.phase.specs.declared.Kind.TheVariants.{Change}
use Rattle.phase.specs.Cases.{is_change, waits}
use Rattle.prover.specs.declared.Run.{Run}
use Rattle.pass.specs.declared.Pass.{Pass}
use Rattle.pass.specs.Pass.{kernel_of}
use Rattle.prover.specs.Records.{Out}
use Rattle.prover.specs.Level.{level_of, fold_size, padding}
use Rattle.prover.specs.WellFormed.{run_formed}
use Rattle.pass.specs.Take.{placed_in}
use Rattle.prover.specs.Take.{entering, placed_item, taken_item, takes}
use Rattle.prover.proofs.Outcomes.{takes-sum, takes-enter, takes-place}
use Rattle.pass.specs.Lent.{cleared}
use Rattle.prover.specs.Change.{padded_buffer}
use Rattle.runs.specs.Buffers.{Unchanged, Written}
use Rattle.runs.proofs.RunFacts.{run-facts, run-level, run-items, run-padding, run-fold}
use Rattle.runs.proofs.Places.{cleared-kept, cleared-zero, placed-kept, placed-written}

-- THE OPENING: of a vector that is zero from L on, the last places of the fold
pub padded-written : (p : ℕ) (c : ℕ → ℕ) (f : Vector) (r : Run) (xs : List ℕ) → run_formed p r ≡ true → ((j : ℕ) → r.start.items ≤ j → f j ≡ 0)
    → size r.start.rounds (level_of r Change) ≤ length xs
    → (let i : ℕ = level_of r Change in
    Written (fold p c i f) (size r.start.rounds i - (2 ^ r.start.rounds - r.start.items) / 2 ^ i) (size r.start.rounds i) xs (padded_buffer r xs))
padded-written p c f r xs ok zeros long =
    let n : ℕ = r.start.rounds in
    let i : ℕ = level_of r Change in
    let s : ℕ = size n i in
    let q : ℕ = (2 ^ n - r.start.items) / 2 ^ i in
    let same : cleared (s - q) q xs ≡ padded_buffer r xs =
    ap₂ (λ a b. cleared (a - b) b xs) (sym (run-fold p r ok)) (ap (λ t. t / 2 ^ i) (sym (run-padding p r ok))) in
    let less : q ≤ s = shr_mono i (omega arith) in
    let whole : (s - q) + q ≡ s = omega arith in
    let kept = cleared-kept (s - q) q xs in
    subst (Written (fold p c i f) (s - q) s xs) same
    (record {
      size = kept.size;
      wrote = λ j l m.
          let back : s - suc (s - suc j) ≡ j = omega arith in
          cleared-zero (s - q) q xs (omega arith) j l (omega arith)
          ∙ sym (padded-fold p c n r.start.items f (run-items p r ok) zeros i (run-level p r ok Change) (s - suc j) (omega arith))
          ∙ ap (fold p c i f) back;
      below = kept.below;
      above = λ j l. kept.above j (omega arith);
    })

module _ (p : ℕ) (r : Run) (s : Pass) (x : Item) (fs gs : List ℕ) where
  -- NO OTHER PASS touches the buffers
  pub total-leaves : waits next.Total r.next ≡ true → (let o : Out = takes p r s x fs gs in (o.f ≡ fs) × (o.g ≡ gs))
  total-leaves e = (ap (λ o. o.f) (takes-sum p r s x fs gs e), ap (λ o. o.g) (takes-sum p r s x fs gs e))

  pub asked-leaves : is_change s.kind ≡ false → (let o : Out = takes p r s x fs gs in (o.f ≡ fs) × (o.g ≡ gs))
  asked-leaves e = by (waits next.Total r.next) refl
    where
      by : (b : Bool) → waits next.Total r.next ≡ b → (let o : Out = takes p r s x fs gs in (o.f ≡ fs) × (o.g ≡ gs))
      by true t = total-leaves t
      by false t = (ap (λ o. o.f) (takes-enter p r s x fs gs t e), ap (λ o. o.g) (takes-enter p r s x fs gs t e))

-- AN ITEM of a change pass
module _ (p : ℕ) (r : Run) (s : Pass) (x : Item) (fs gs : List ℕ) (ok : run_formed p r ≡ true) (change : s.kind ≡ Change) (later : waits next.Total r.next ≡ false)
    (t : ℕ) (count : 2 ^ r.start.rounds - r.start.items + s.taken ≡ t) (ht : t < 2 ^ r.start.rounds) where
  abbrev n : ℕ
  n = r.start.rounds

  abbrev i : ℕ
  i = level_of r Change

  abbrev place : ℕ
  place = fold_size r - 1 - (padding r + s.taken) / 2 ^ i

  abbrev pair : ℕ → ℕ → Climber
  pair a b = climber_in p r.challenges i (kernel_of s) a b

  -- a buffer after the pair, of which it gets one value
  abbrev after : (Climber → ℕ) → List ℕ → ℕ → ℕ → List ℕ
  after value xs a b = cond (eqb (pair a b).level i) (set xs place (value (pair a b))) xs

  in_change : (a b : ℕ) → Paired (kernel_of s)
      → placed_item p r s a b fs gs ≡ placed_at i (fold_size r) (padding r + s.taken) (placed_of (kernel_of s) fs gs) (pair a b)
  unfolding placed_in
  in_change a b pr =
      let few = (run-facts p r ok).few in
      let level = run-level p r ok Change in
      ap (λ k. placed p r.challenges (level_of r k) (fold_size r) (padding r + s.taken) (placed_of (kernel_of s) fs gs) a b) change
      ∙ placed-fits p r.challenges i (fold_size r) (padding r + s.taken) (placed_of (kernel_of s) fs gs) a b
      (fits-so i s.fcount s.gcount (omega (arith, few, level)) pr.room pr.counts)

  taken-after : Paired (kernel_of s)
      → takes p r s x fs gs ≡ taken_item r s (placed_at i (fold_size r) (padding r + s.taken) (placed_of (kernel_of s) fs gs) (pair (entering p r s x) x.g))
  taken-after pr = takes-place p r s x fs gs later (ap is_change change) ∙ ap (taken_item r s) (in_change (entering p r s x) x.g pr)

  first-after : Paired (kernel_of s) → (takes p r s x fs gs).f ≡ after (λ e. e.f) fs (entering p r s x) x.g
  first-after pr = ap (λ o. o.f) (taken-after pr)

  second-after : Paired (kernel_of s) → (takes p r s x fs gs).g ≡ after (λ e. e.g) gs (entering p r s x) x.g
  second-after pr = ap (λ o. o.g) (taken-after pr)

  there : place ≡ size n i - 1 - t / 2 ^ i
  there = ap₂ (λ a b. a - 1 - b / 2 ^ i) (run-fold p r ok) (ap (λ a. a + s.taken) (run-padding p r ok) ∙ count)

  room : suc t / 2 ^ i ≤ size n i
  room = shr_mono i ht

  -- ANY ITEM leaves every place but that one
  module _ (h : LevelledBelow (level_of r Change) t (kernel_of s)) where
    after_kept : (value : Climber → ℕ) (xs : List ℕ) (a b : ℕ) → Unchanged (size n i - suc t / 2 ^ i) (size n i - t / 2 ^ i) xs (after value xs a b)
    after_kept value xs a b =
        let few = (run-facts p r ok).few in
        let level = run-level p r ok Change in
        placed-kept i t (size n i) (pair a b).level place (value (pair a b)) xs there room
        (reaches_last n few t ht p r.challenges a b i level (kernel_of s) h)
        (stops_before n few t ht p r.challenges a b i level (kernel_of s) h)

    pub item-kept : (let i : ℕ = level_of r Change in
        let from : ℕ = size r.start.rounds i - suc t / 2 ^ i in
        let to : ℕ = size r.start.rounds i - t / 2 ^ i in
        let o : Out = takes p r s x fs gs in
        Unchanged from to fs o.f × Unchanged from to gs o.g)
    item-kept = (
      subst (Unchanged (size n i - suc t / 2 ^ i) (size n i - t / 2 ^ i) fs) (sym (first-after h.paired)) (after_kept (λ e. e.f) fs (entering p r s x) x.g),
      subst (Unchanged (size n i - suc t / 2 ^ i) (size n i - t / 2 ^ i) gs) (sym (second-after h.paired)) (after_kept (λ e. e.g) gs (entering p r s x) x.g),
    )

  -- THE NEXT ITEM of f and g writes the place that it completes
  module _ (c : ℕ → ℕ) (f g : Vector) (h : Changing p r.start.rounds c (level_of r Change) f g t (kernel_of s))
      (agree : (j : ℕ) → j < level_of r Change → at r.challenges j ≡ c j)
      (first : entering p r s x ≡ f (2 ^ r.start.rounds - 1 - t)) (second : x.g ≡ g (2 ^ r.start.rounds - 1 - t)) where
    after-written : (v : Vector) (value : Climber → ℕ) (xs : List ℕ) → size n i ≤ length xs
        → (suc t % 2 ^ i ≡ 0 → value (pair (f (2 ^ n - 1 - t)) (g (2 ^ n - 1 - t))) ≡ v (size n i - suc t / 2 ^ i))
        → Written v (size n i - suc t / 2 ^ i) (size n i - t / 2 ^ i) xs (after value xs (entering p r s x) x.g)
    after-written v value xs long right =
        let few = (run-facts p r ok).few in
        let level = run-level p r ok Change in
        let a : ℕ = f (2 ^ n - 1 - t) in
        let b : ℕ = g (2 ^ n - 1 - t) in
        subst (Written v (size n i - suc t / 2 ^ i) (size n i - t / 2 ^ i) xs) (ap₂ (after value xs) (sym first) (sym second))
        (placed-written i t (size n i) (pair a b).level place (value (pair a b)) xs there room
        (λ e. (arrives_last p n c f g few r.challenges t ht i level agree (kernel_of s) h e).0)
        (arrives_below p n c f g few r.challenges t ht i level (kernel_of s) h)
        v long right)

    pub item-written : size r.start.rounds (level_of r Change) ≤ length fs → size r.start.rounds (level_of r Change) ≤ length gs
        → (let i : ℕ = level_of r Change in
        let from : ℕ = size r.start.rounds i - suc t / 2 ^ i in
        let to : ℕ = size r.start.rounds i - t / 2 ^ i in
        let o : Out = takes p r s x fs gs in
        Written (fold p c i f) from to fs o.f × Written (fold p c i g) from to gs o.g)
    item-written flong glong =
        let few = (run-facts p r ok).few in
        let level = run-level p r ok Change in
        let last = arrives_last p n c f g few r.challenges t ht i level agree (kernel_of s) h in (
          subst (Written (fold p c i f) (size n i - suc t / 2 ^ i) (size n i - t / 2 ^ i) fs) (sym (first-after h.paired))
              (after-written (fold p c i f) (λ e. e.f) fs flong (λ e. (last e).1)),
          subst (Written (fold p c i g) (size n i - suc t / 2 ^ i) (size n i - t / 2 ^ i) gs) (sym (second-after h.paired))
              (after-written (fold p c i g) (λ e. e.g) gs glong (λ e. (last e).2)),
        )
