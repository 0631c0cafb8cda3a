-- A pass that gives a trip's items has taken the items of the trip's vectors; and any items are those of a trip.
use mathlib.Core.Path.{◌≡◌, refl, sym, ap, ap₂, subst, ◌∙◌}
use mathlib.Core.Bool.{true, false, cond}
use mathlib.Core.List.{List, [], ◌∷◌, ◌++◌}
use Prim.Native.Nat.{ℕ, zero, suc, ◌+◌, ◌-◌, ◌*◌, ◌^◌, ◌<◌, ◌≤◌}
use native.Mathlib.Omega.{arith}
use lib.ListN.{length, get_or, replicate, length-append, length-replicate}
use lib.Seq.{ext_get_or, get_or-append-add}
use borrow.Author.Tests.{le-ltb, lt-ltb}
use Rattle.algebra.specs.Mod.{residue, add_mod, mul_mod}
use Rattle.algebra.proofs.Congruence.{residue-zero}
use Rattle.vector.specs.Vector.{Vector, at, dot, padded}
use Rattle.vector.specs.Fold.{beside}
use Rattle.kernel.specs.declared.Points.{Points}
use Rattle.kernel.specs.Kernel.{padding_below, padding_kernel}
use Rattle.vector.proofs.Sums.{last_sum, last_sum_lem, running-product}
use Rattle.vector.proofs.Messages.{dot-padded}
use Rattle.kernel.proofs.KernelPass.{Taken}
use Rattle.kernel.proofs.KernelStream.{kernel_of as stream_of, taken_pass}
use Rattle.kernel.proofs.KernelChangePass.{Changing}
use Rattle.kernel.proofs.KernelChangeStream.{change_of, changing-pass}
use Rattle.phase.specs.declared.Next.TheVariants as next
use Rattle.phase.specs.declared.Kind.{Kind}
use Rattle.phase.specs.declared.Kind.TheVariants.{Asked, Change}
use Rattle.phase.specs.Cases.{waits}
use Rattle.prover.specs.declared.Run.{Run}
use Rattle.pass.specs.Pass.{kernel_of}
use Rattle.prover.specs.Level.{level_of}
use Rattle.prover.specs.WellFormed.{run_formed}
use Rattle.item.specs.declared.Given.{Given}
use Rattle.item.specs.declared.Given.TheVariants.{Numbers}
use Rattle.item.specs.Item.{contributes}
use Rattle.runs.specs.Trip.{Trip, trip_item, enters_as, vector_f, vector_g, sum_of, total_of}
use Rattle.runs.specs.Passes.{opened_pass, pass_after, Gives}
use Rattle.runs.specs.Items.{pairs_of, AllWithin, own_trip}
use Rattle.runs.proofs.RunFacts.{Bounds, bounds}
use Rattle.runs.proofs.PassRecord.{takes-dot, opened-new, after-points, after-entering}
use Rattle.runs.proofs.PassKernel.{pairs_length, after-kernel, change-kernel}
use Rattle.runs.proofs.PassTotal.{after-total}

-- a trip of the run's start
abbrev trip_of : Run → List Given → Trip
trip_of r its = record { start = r.start; items = its }

trip-is : (r : Run) (T : Trip) → T.start ≡ r.start → T ≡ trip_of r T.items
trip-is r T e = ap (λ s. record { start = s; items = T.items }) e

-- the newest item, and those before it
pub gives_first : (T : Trip) (x : Given) (xs : List Given) → Gives T (x ∷ xs) → x ≡ trip_item T (T.start.items - suc (length xs))
gives_first T x xs h =
    let e : T.start.items - suc (length xs) + 0 ≡ T.start.items - suc (length xs) = omega arith in
    h 0 (omega arith) ∙ ap (trip_item T) e

pub gives_rest : (T : Trip) (x : Given) (xs : List Given) → suc (length xs) ≤ T.start.items → Gives T (x ∷ xs) → Gives T xs
gives_rest T x xs l h q less =
    let e : T.start.items - suc (length xs) + suc q ≡ T.start.items - length xs + q = omega arith in
    h (suc q) (omega arith) ∙ ap (trip_item T) e

first-place : (n m : ℕ) → n - 1 - m ≡ n - suc m + 0
first-place n m = omega arith

next_place : (n m : ℕ) → n - 1 - m ≡ n - suc m
next_place n m = omega arith

module _ (p : ℕ) (r : Run) (its : List Given) where
  abbrev item_f : Vector
  item_f i = enters_as p r.start i (contributes p r.start (trip_item (trip_of r its) i)).f

  abbrev item_g : Vector
  item_g i = (contributes p r.start (trip_item (trip_of r its) i)).g

  pairs_at : (xs : List Given) → length xs ≤ r.start.items → Gives (trip_of r its) xs → (q : ℕ) → q < length xs
      → get_or (pairs_of p r xs) q (0, 0) ≡ beside item_f item_g (r.start.items - length xs + q)
  unfolding pairs_of
  pairs_at [] l h q less = absurd (omega arith)
  pairs_at (x ∷ xs) l h zero less =
      ap (λ i. (enters_as p r.start i (contributes p r.start x).f, (contributes p r.start x).g)) (first-place r.start.items (length xs))
      ∙ ap (λ y. (enters_as p r.start (r.start.items - suc (length xs) + 0) (contributes p r.start y).f, (contributes p r.start y).g)) (h 0 less)
  pairs_at (x ∷ xs) l h (suc q) less =
      let e : r.start.items - length xs + q ≡ r.start.items - suc (length xs) + suc q = omega arith in
      pairs_at xs (omega arith) (gives_rest (trip_of r its) x xs l h) q (omega arith) ∙ ap (beside item_f item_g) e

  beyond : (v : Vector) (j : ℕ) → r.start.items ≤ j → padded r.start.items v j ≡ 0
  beyond v j h = ap (λ t. cond t (v j) 0) (le-ltb j r.start.items h)

  before : (v : Vector) (j : ℕ) → j < r.start.items → v j ≡ padded r.start.items v j
  before v j h = sym (ap (λ t. cond t (v j) 0) (lt-ltb j r.start.items h))

  -- the pairs of a pass are the last items of the trip's vectors
  vectors_at : (xs : List Given) → length xs ≤ r.start.items → Gives (trip_of r its) xs → (q : ℕ) → q < length (pairs_of p r xs)
      → get_or (pairs_of p r xs) q (0, 0) ≡ beside (vector_f p (trip_of r its)) (vector_g p (trip_of r its)) (r.start.items - length (pairs_of p r xs) + q)
  vectors_at xs l h q less =
      let m : length (pairs_of p r xs) ≡ length xs = pairs_length p r xs in
      let i : ℕ = r.start.items - length xs + q in
      let in-trip : i < r.start.items = omega arith in
      rw m
      (pairs_at xs l h q (omega arith) ∙ ap₂ (λ a b. (a, b)) (before item_f i in-trip) (before item_g i in-trip))

  -- the products of a pass for the total run from the last item down
  summed : (k : Kind) (b : ℕ) → waits next.Total r.next ≡ true → r.start.plain ≡ false → (xs : List Given) → length xs ≤ r.start.items → Gives (trip_of r its) xs
      → (pass_after p r k b xs).dot ≡ residue p (last_sum (λ i. item_f i * item_g i) r.start.items (length xs))
  unfolding pass_after last_sum
  summed k b e tw [] l h = opened-new p r b (λ s. s.dot) 0 k (λ points q. refl) ∙ sym (residue-zero p)
  summed k b e tw (x ∷ xs) l h =
      let t : ℕ = last_sum (λ i. item_f i * item_g i) r.start.items (length xs) in
      let i : ℕ = r.start.items - 1 - length xs in
      takes-dot p r (pass_after p r k b xs) (contributes p r.start x) [] [] e tw
      ∙ ap₂ (λ d a. add_mod p d (mul_mod p a (contributes p r.start x).g)) (summed k b e tw xs (omega arith) (gives_rest (trip_of r its) x xs l h)) (after-entering p r k b xs x)
      ∙ running-product p t (enters_as p r.start i (contributes p r.start x).f) (contributes p r.start x).g
      ∙ ap (λ j. residue p (t + enters_as p r.start j (contributes p r.start x).f * (contributes p r.start x).g)) (next_place r.start.items (length xs))
      ∙ ap (λ y. residue p (t + enters_as p r.start (r.start.items - suc (length xs)) (contributes p r.start y).f * (contributes p r.start y).g)) (gives_first (trip_of r its) x xs h)

-- what is said of a pass and the vectors of a trip, from the trip of the same items
of_trip : (r : Run) (T : Trip) (xs : List Given) (Says : Trip → Type 0) → T.start ≡ r.start → Gives T xs
    → ((its : List Given) → Gives (trip_of r its) xs → Says (trip_of r its)) → Says T
of_trip r T xs Says e h f =
    subst Says (sym (trip-is r T e)) (f T.items (subst (λ U. Gives U xs) (trip-is r T e) h))

-- A PASS WITH STACKS
module _ (p : ℕ) (r : Run) (b : ℕ) (xs : List Given) (formed : run_formed p r ≡ true) (within : length xs ≤ r.start.items) (other : waits next.Total r.next ≡ false) (c : ℕ → ℕ) where
  abbrev w : Bounds r
  w = bounds p r formed

  module _ (agree : (j : ℕ) → j < level_of r Asked → at r.challenges j ≡ c j) where
    given-taken : (its : List Given) → Gives (trip_of r its) xs
        → Taken p r.start.rounds c (level_of r Asked) (pass_after p r Asked b xs).points (vector_f p (trip_of r its)) (vector_g p (trip_of r its))
        (2 ^ r.start.rounds - r.start.items + length xs) (kernel_of (pass_after p r Asked b xs))
    given-taken its h =
        let f : Vector = vector_f p (trip_of r its) in
        let g : Vector = vector_g p (trip_of r its) in
        let i : ℕ = level_of r Asked in
        let on : Points = (opened_pass p r Asked b).points in
        let more : length (pairs_of p r xs) ≡ length xs = pairs_length p r xs in
        let kernel : kernel_of (pass_after p r Asked b xs) ≡ stream_of p r.challenges i on (padding_kernel (2 ^ r.start.rounds - r.start.items) i) (pairs_of p r xs) =
        after-kernel p r b other xs ∙ ap (λ t. stream_of p r.challenges i on (padding_kernel t i) (pairs_of p r xs)) w.padding in
        subst (λ on. Taken p r.start.rounds c i on f g (2 ^ r.start.rounds - r.start.items + length xs) (kernel_of (pass_after p r Asked b xs))) (sym (after-points p r Asked b xs))
        (subst (λ q. Taken p r.start.rounds c i on f g (2 ^ r.start.rounds - r.start.items + length xs) q) (sym kernel)
        (subst (λ m. Taken p r.start.rounds c i on f g (2 ^ r.start.rounds - r.start.items + m) (stream_of p r.challenges i on (padding_kernel (2 ^ r.start.rounds - r.start.items) i) (pairs_of p r xs))) more
        (taken_pass p r.start.rounds c i on f g w.few (w.level Asked) r.challenges agree r.start.items w.enough (beyond p r its (item_f p r its)) (beyond p r its (item_g p r its))
        (pairs_of p r xs) (omega arith) (vectors_at p r its xs within h))))

    -- the trip's items from L-1 down, with their padding
    pub after-given : (T : Trip) → T.start ≡ r.start → Gives T xs
        → Taken p r.start.rounds c (level_of r Asked) (pass_after p r Asked b xs).points (vector_f p T) (vector_g p T) (2 ^ r.start.rounds - r.start.items + length xs) (kernel_of (pass_after p r Asked b xs))
    after-given T e h =
        of_trip r T xs
        (λ U. Taken p r.start.rounds c (level_of r Asked) (pass_after p r Asked b xs).points (vector_f p U) (vector_g p U) (2 ^ r.start.rounds - r.start.items + length xs) (kernel_of (pass_after p r Asked b xs)))
        e h given-taken

  module _ (agree : (j : ℕ) → j < level_of r Change → at r.challenges j ≡ c j) where
    given-changing : (its : List Given) → Gives (trip_of r its) xs
        → Changing p r.start.rounds c (level_of r Change) (vector_f p (trip_of r its)) (vector_g p (trip_of r its))
        (2 ^ r.start.rounds - r.start.items + length xs) (kernel_of (pass_after p r Change b xs))
    given-changing its h =
        let f : Vector = vector_f p (trip_of r its) in
        let g : Vector = vector_g p (trip_of r its) in
        let i : ℕ = level_of r Change in
        let more : length (pairs_of p r xs) ≡ length xs = pairs_length p r xs in
        let kernel : kernel_of (pass_after p r Change b xs) ≡ change_of p r.challenges i (padding_below (2 ^ r.start.rounds - r.start.items) i) (pairs_of p r xs) =
        change-kernel p r b other xs ∙ ap (λ t. change_of p r.challenges i (padding_below t i) (pairs_of p r xs)) w.padding in
        subst (Changing p r.start.rounds c i f g (2 ^ r.start.rounds - r.start.items + length xs)) (sym kernel)
        (subst (λ m. Changing p r.start.rounds c i f g (2 ^ r.start.rounds - r.start.items + m) (change_of p r.challenges i (padding_below (2 ^ r.start.rounds - r.start.items) i) (pairs_of p r xs))) more
        (changing-pass p r.start.rounds c i f g w.few (w.level Change) r.challenges agree r.start.items w.enough (beyond p r its (item_f p r its)) (beyond p r its (item_g p r its))
        (pairs_of p r xs) (omega arith) (vectors_at p r its xs within h)))

    -- the same of a change pass
    pub after-changing : (T : Trip) → T.start ≡ r.start → Gives T xs
        → Changing p r.start.rounds c (level_of r Change) (vector_f p T) (vector_g p T) (2 ^ r.start.rounds - r.start.items + length xs) (kernel_of (pass_after p r Change b xs))
    after-changing T e h =
        of_trip r T xs
        (λ U. Changing p r.start.rounds c (level_of r Change) (vector_f p U) (vector_g p U) (2 ^ r.start.rounds - r.start.items + length xs) (kernel_of (pass_after p r Change b xs)))
        e h given-changing

module _ (p : ℕ) (r : Run) (k : Kind) (b : ℕ) (xs : List Given) (formed : run_formed p r ≡ true) where
  -- A PASS FOR THE TOTAL, all of its items taken
  module _ (e : waits next.Total r.next ≡ true) (tw : r.start.plain ≡ false) (all : length xs ≡ r.start.items) where
    given-dot : (its : List Given) → Gives (trip_of r its) xs
        → (pass_after p r k b xs).dot ≡ dot p (2 ^ r.start.rounds) (vector_f p (trip_of r its)) (vector_g p (trip_of r its))
    given-dot its h =
        let w : Bounds r = bounds p r formed in
        let v : Vector = λ i. item_f p r its i * item_g p r its i in
        summed p r its k b e tw xs (omega arith) h
        ∙ ap (λ m. residue p (last_sum v r.start.items m)) all
        ∙ ap (residue p) (last_sum_lem v r.start.items)
        ∙ sym (dot-padded p r.start.items (2 ^ r.start.rounds) w.enough (item_f p r its) (item_g p r its))

    -- a twisted run's total
    pub after-dot : (T : Trip) → T.start ≡ r.start → Gives T xs → (pass_after p r k b xs).dot ≡ dot p (2 ^ r.start.rounds) (vector_f p T) (vector_g p T)
    after-dot T same h = of_trip r T xs (λ U. (pass_after p r k b xs).dot ≡ dot p (2 ^ r.start.rounds) (vector_f p U) (vector_g p U)) same h given-dot

-- a whole pass gives the trip itself
pub gives_all : (T : Trip) (xs : List Given) → Gives T xs → length xs ≡ T.start.items → length T.items ≡ T.start.items → xs ≡ T.items
gives_all T xs h all count =
    ext_get_or (Numbers 0 0) xs T.items (all ∙ sym count)
    (λ q l. h q l ∙ ap (trip_item T) (let e : T.start.items - length xs + q ≡ q = omega arith in e))

-- and a plain run's total is the trip's
pub after_sum : (p : ℕ) (r : Run) (k : Kind) (b : ℕ) (xs : List Given) → run_formed p r ≡ true → waits next.Total r.next ≡ true → AllWithin r.start xs → length xs ≡ r.start.items
    → (T : Trip) → T.start ≡ r.start → Gives T xs → length T.items ≡ T.start.items → (pass_after p r k b xs).total ≡ total_of T
after_sum p r k b xs formed e good all T same h count =
    let whole : length xs ≡ T.start.items = all ∙ ap (λ s. s.items) (sym same) in
    after-total p r k b e xs good (omega (arith, (bounds p r formed).most)) ∙ ap₂ sum_of (sym same) (gives_all T xs h whole count)

-- ANY ITEMS are the last of a trip of their own
module _ (r : Run) (xs : List Given) (within : length xs ≤ r.start.items) where
  pub own-gives : Gives (own_trip r xs) xs
  own-gives q less =
      let pre : List Given = replicate (r.start.items - length xs) (Numbers 0 0) in
      sym (get_or-append-add pre xs q (Numbers 0 0))
      ∙ ap (λ m. get_or (pre ++ xs) (m + q) (Numbers 0 0)) (length-replicate (r.start.items - length xs) (Numbers 0 0))

  pub own-length : length (own_trip r xs).items ≡ r.start.items
  own-length =
      let pre : List Given = replicate (r.start.items - length xs) (Numbers 0 0) in
      omega (arith, length-append pre xs, length-replicate (r.start.items - length xs) (Numbers 0 0))

  pub own-items : length xs ≡ r.start.items → xs ≡ (own_trip r xs).items
  own-items all = gives_all (own_trip r xs) xs own-gives all own-length

-- so a pass has taken the items that it was given, whatever they are
module _ (p : ℕ) (r : Run) (k : Kind) (b : ℕ) (xs : List Given) (formed : run_formed p r ≡ true) where
  pub own-taken : length xs ≤ r.start.items → waits next.Total r.next ≡ false → (c : ℕ → ℕ) → ((j : ℕ) → j < level_of r Asked → at r.challenges j ≡ c j)
      → Taken p r.start.rounds c (level_of r Asked) (pass_after p r Asked b xs).points (vector_f p (own_trip r xs)) (vector_g p (own_trip r xs))
      (2 ^ r.start.rounds - r.start.items + length xs) (kernel_of (pass_after p r Asked b xs))
  own-taken within other c agree = after-given p r b xs formed within other c agree (own_trip r xs) refl (own-gives r xs within)

  pub own-changing : length xs ≤ r.start.items → waits next.Total r.next ≡ false → (c : ℕ → ℕ) → ((j : ℕ) → j < level_of r Change → at r.challenges j ≡ c j)
      → Changing p r.start.rounds c (level_of r Change) (vector_f p (own_trip r xs)) (vector_g p (own_trip r xs))
      (2 ^ r.start.rounds - r.start.items + length xs) (kernel_of (pass_after p r Change b xs))
  own-changing within other c agree = after-changing p r b xs formed within other c agree (own_trip r xs) refl (own-gives r xs within)

  pub own-dot : waits next.Total r.next ≡ true → r.start.plain ≡ false → length xs ≡ r.start.items
      → (pass_after p r k b xs).dot ≡ dot p (2 ^ r.start.rounds) (vector_f p (own_trip r xs)) (vector_g p (own_trip r xs))
  own-dot e tw all = after-dot p r k b xs formed e tw all (own_trip r xs) refl (own-gives r xs (omega arith))
