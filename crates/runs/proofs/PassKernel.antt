-- The stacks of a pass after any items: those of the stream of its pairs, so their levels follow from the count alone.
use mathlib.Core.Path.{◌≡◌, refl, sym, ap, ◌∙◌}
use mathlib.Core.Bool.{Bool, true, false, cond, true≢false}
use mathlib.Core.List.{List, [], ◌∷◌}
use mathlib.Core.Logic.{⊎_elim}
use Prim.Native.Nat.{ℕ, zero, suc, ◌+◌, ◌/◌, ◌^◌, ◌<◌, ◌≤◌}
use native.Mathlib.Nat.{eq-or-lt_of_le}
use native.Mathlib.Omega.{arith}
use lib.ListN.{length}
use Rattle.kernel.specs.declared.Points.{Points}
use Rattle.kernel.specs.declared.Kernel.{Kernel}
use Rattle.kernel.specs.Kernel.{entered, empty_kernel, padding_below, padding_kernel}
use Rattle.kernel.specs.Change.{placed_kernel}
use Rattle.vector.specs.Stack.{ones}
use Rattle.vector.proofs.StackCount.{ones_below_lem}
use Rattle.kernel.proofs.KernelLevels.{LevelledBelow, below-count}
use Rattle.kernel.proofs.KernelStream.{kernel_of as stream_of, levelled_list}
use Rattle.kernel.proofs.KernelChangeStream.{change_of, levelled_change}
use Rattle.phase.specs.declared.Next.TheVariants as next
use Rattle.phase.specs.declared.Kind.{Kind}
use Rattle.phase.specs.declared.Kind.TheVariants.{Shut, Asked, Change}
use Rattle.phase.specs.Cases.{is_open, is_change, waits}
use Rattle.prover.specs.declared.Run.{Run}
use Rattle.pass.specs.declared.Pass.{Pass}
use Rattle.pass.specs.Pass.{kernel_of}
use Rattle.prover.specs.Level.{level_of, padding}
use Rattle.prover.specs.WellFormed.{run_formed}
use Rattle.pass.specs.Open.{new_pass, no_points, points_of}
use Rattle.prover.specs.Open.{padded_kernel, open_kernel}
use Rattle.pass.specs.Take.{entered_in}
use Rattle.prover.specs.Take.{entering}
use Rattle.item.specs.declared.Given.{Given}
use Rattle.item.specs.Item.{contributes}
use Rattle.runs.specs.Passes.{opened_pass, pass_after}
use Rattle.runs.specs.Items.{pairs_of}
use Rattle.runs.specs.Stacks.{height_of}
use Rattle.runs.proofs.RunFacts.{Bounds, bounds}
use Rattle.runs.proofs.PassRecord.{takes-kernel, takes-change, after-kind, after-points, after-entering}

pub pairs_length : (p : ℕ) (r : Run) (xs : List Given) → length (pairs_of p r xs) ≡ length xs
unfolding pairs_of
pairs_length p r [] = refl
pairs_length p r (x ∷ xs) = ap suc (pairs_length p r xs)

-- one binary one in a power of two
ones_power : (n w : ℕ) → ones w (2 ^ n) ≤ 1
unfolding ones
ones_power n zero = omega arith
ones_power zero (suc w) = omega (arith, ones_below_lem 0 w 0 (omega arith))
ones_power (suc n) (suc w) =
    let half : 2 ^ suc n / 2 ≡ 2 ^ n = omega arith in
    rw half (omega (arith, ones_power n w))

-- after at most N items fifteen places are enough
pub ones-fit : (n w t : ℕ) → n ≤ 15 → t ≤ 2 ^ n → ones w t ≤ 15
ones-fit n w t hn ht =
    ⊎_elim (λ (e : t ≡ 2 ^ n). rw e (omega (arith, ones_power n w))) (λ (l : t < 2 ^ n). omega (arith, ones_below_lem n w t l)) (eq-or-lt_of_le ht)

module _ (p : ℕ) (r : Run) (b : ℕ) (other : waits next.Total r.next ≡ false) where
  -- "A small pass takes the padding by itself"
  opened-asked : kernel_of (opened_pass p r Asked b) ≡ padded_kernel r
  opened-asked = by (waits next.Openings r.next)
    where
      by : (t : Bool) → kernel_of (cond t (new_pass Asked (points_of p b) (padded_kernel r)) (new_pass Asked no_points (open_kernel r))) ≡ padded_kernel r
      by true = refl
      by false = ap (λ t. cond t empty_kernel (padded_kernel r)) other

  -- THE STACKS of a pass that was asked for, item by item
  pub after-kernel : (xs : List Given)
      → kernel_of (pass_after p r Asked b xs)
      ≡ stream_of p r.challenges (level_of r Asked) (opened_pass p r Asked b).points (padding_kernel (padding r) (level_of r Asked)) (pairs_of p r xs)
  unfolding pass_after pairs_of stream_of entered_in
  after-kernel [] = opened-asked
  after-kernel (x ∷ xs) =
      let s : Pass = pass_after p r Asked b xs in
      let i : ℕ = level_of r Asked in
      let on : Points = (opened_pass p r Asked b).points in
      let a : ℕ = entering p r s (contributes p r.start x) in
      let g : ℕ = (contributes p r.start x).g in
      let q : Kernel = stream_of p r.challenges i on (padding_kernel (padding r) i) (pairs_of p r xs) in
      takes-kernel p r s (contributes p r.start x) [] [] other (ap is_change (after-kind p r Asked b xs))
      ∙ ap (λ m. entered p r.challenges (level_of r m) s.points (kernel_of s) a g) (after-kind p r Asked b xs)
      ∙ ap (λ at. entered p r.challenges i at (kernel_of s) a g) (after-points p r Asked b xs)
      ∙ ap (λ m. entered p r.challenges i on m a g) (after-kernel xs)
      ∙ ap (λ f. entered p r.challenges i on q f g) (after-entering p r Asked b xs x)

  -- and of a change pass
  pub change-kernel : (xs : List Given)
      → kernel_of (pass_after p r Change b xs) ≡ change_of p r.challenges (level_of r Change) (padding_below (padding r) (level_of r Change)) (pairs_of p r xs)
  unfolding pass_after pairs_of change_of
  change-kernel [] = refl
  change-kernel (x ∷ xs) =
      let s : Pass = pass_after p r Change b xs in
      let i : ℕ = level_of r Change in
      let a : ℕ = entering p r s (contributes p r.start x) in
      let g : ℕ = (contributes p r.start x).g in
      let q : Kernel = change_of p r.challenges i (padding_below (padding r) i) (pairs_of p r xs) in
      takes-change p r s (contributes p r.start x) [] [] other (ap is_change (after-kind p r Change b xs))
      ∙ ap (λ m. placed_kernel p r.challenges (level_of r m) (kernel_of s) a g) (after-kind p r Change b xs)
      ∙ ap (λ m. placed_kernel p r.challenges i m a g) (change-kernel xs)
      ∙ ap (λ f. placed_kernel p r.challenges i q f g) (after-entering p r Change b xs x)

  module _ (k : Kind) (isopen : is_open k ≡ true) (formed : run_formed p r ≡ true) (xs : List Given) (within : length xs ≤ r.start.items) where
    -- their levels, whatever the items
    pub after-levels : LevelledBelow (height_of r k) (padding r + length xs) (kernel_of (pass_after p r k b xs))
    after-levels = by k isopen
      where
        h : Bounds r
        h = bounds p r formed

        fits : padding r + length (pairs_of p r xs) ≤ 2 ^ r.start.rounds
        fits = omega (arith, pairs_length p r xs, h.padding, h.enough)

        by : (k : Kind) → is_open k ≡ true → LevelledBelow (height_of r k) (padding r + length xs) (kernel_of (pass_after p r k b xs))
        by Shut o = absurd (true≢false (sym o))
        by Asked o =
            rw (after-kernel xs, ← pairs_length p r xs)
            (levelled_list r.start.rounds (level_of r Asked) h.few (h.level Asked) p r.challenges (opened_pass p r Asked b).points (padding r) (pairs_of p r xs) fits)
        by Change o =
            rw (change-kernel xs, ← pairs_length p r xs)
            (levelled_change r.start.rounds (level_of r Change) h.few (h.level Change) p r.challenges (padding r) (pairs_of p r xs) fits)

    pub after-counts : (pass_after p r k b xs).fcount ≡ (pass_after p r k b xs).gcount
    after-counts = sym after-levels.paired.counts

    pub after-room : (pass_after p r k b xs).fcount ≤ 15
    after-room =
        let h : Bounds r = bounds p r formed in
        let fits : padding r + length xs ≤ 2 ^ r.start.rounds = omega (arith, h.padding, h.enough) in
        omega (
          arith,
          below-count (height_of r k) (padding r + length xs) (kernel_of (pass_after p r k b xs)) after-levels,
          ones-fit r.start.rounds (height_of r k) (padding r + length xs) h.few fits,
        )
