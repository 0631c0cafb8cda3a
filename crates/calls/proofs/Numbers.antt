-- What a run gives is field Numbers, whatever items its passes brought.
use mathlib.Core.Path.{◌≡◌, refl, sym, subst}
use mathlib.Core.Bool.{Bool, true, false, cond}
use mathlib.Core.List.{List, ◌++◌}
use Prim.Native.Nat.{ℕ, zero, suc, ◌+◌, ◌*◌, ◌-◌, ◌^◌, ◌<◌, ◌≤◌}
use native.Mathlib.Omega.{arith}
use lib.Dec.{ltb}
use lib.ListN.{length, get_or, replicate}
use Rattle.algebra.specs.Mod.{mul_mod}
use Rattle.algebra.proofs.Congruence.{base-of}
use Rattle.algebra.proofs.Laws.{mul_lt}
use Rattle.vector.specs.Vector.{Vector, at, weight}
use Rattle.vector.specs.Message.{Message, message_of, message}
use Rattle.vector.specs.Slice.{message_slice, both_have}
use Rattle.kernel.specs.KernelView.{sums_of}
use Rattle.kernel.proofs.KernelPass.{Taken}
use Rattle.kernel.proofs.KernelEnds.{taken-message}
use Rattle.phase.specs.declared.Next.TheVariants as next
use Rattle.phase.specs.declared.Kind.TheVariants.{Asked}
use Rattle.phase.specs.Cases.{waits}
use Rattle.prover.specs.declared.Run.{Run}
use Rattle.pass.specs.declared.Pass.{Pass}
use Rattle.pass.specs.Pass.{kernel_of}
use Rattle.prover.specs.Level.{level_of}
use Rattle.prover.specs.WellFormed.{run_formed}
use Rattle.item.specs.declared.Start.{Start}
use Rattle.item.specs.declared.Given.{Given}
use Rattle.item.specs.declared.Given.TheVariants.{Numbers}
use Rattle.item.specs.Item.{contributes}
use Rattle.runs.specs.Trip.{Trip, trip_item, enters_as, vector_f, vector_g}
use Rattle.runs.specs.Passes.{pass_after}
use Rattle.runs.specs.Items.{own_trip}
use Rattle.runs.proofs.PassRecord.{after-kind}
use Rattle.runs.proofs.PassTrip.{own-taken}
use Rattle.runs.proofs.CloseLaws.{residue-below, end_values, end_below, message-below}
use Rattle.calls.proofs.Fits.{Fine}

module _ (p : ℕ) (some : 0 < p) where
  -- the items of the trip that a pass makes of its own
  own-fine : (s : Start) (m : ℕ) (xs : List Given) → ((q : ℕ) → Fine p s (get_or xs q (Numbers 0 0))) → (j : ℕ) → Fine p s (get_or (replicate m (Numbers 0 0) ++ xs) j (Numbers 0 0))
  own-fine s zero xs h j = h j
  own-fine s (suc m) xs h zero = (some, some)
  own-fine s (suc m) xs h (suc j) = own-fine s m xs h j

  pub enters_below : (s : Start) (i x : ℕ) → x < p → enters_as p s i x < p
  enters_below s i x l = by s.plain
    where
      by : (b : Bool) → cond b x (mul_mod p x (weight p (at s.twists) s.rounds i)) < p
      by true = l
      by false = omega (arith, mul_lt p x (weight p (at s.twists) s.rounds i), base-of p some)

  padded-below : (m : ℕ) (v : Vector) → ((j : ℕ) → v j < p) → (j : ℕ) → cond (ltb j m) (v j) 0 < p
  padded-below m v h j = by (ltb j m)
    where
      by : (b : Bool) → cond b (v j) 0 < p
      by true = h j
      by false = some

  module _ (r : Run) (xs : List Given) (h : (q : ℕ) → Fine p r.start (get_or xs q (Numbers 0 0))) where
    abbrev T : Trip
    T = own_trip r xs

    item-fine : (j : ℕ) → Fine p r.start (trip_item T j)
    item-fine = own-fine r.start (r.start.items - length xs) xs h

    f-below : (j : ℕ) → vector_f p T j < p
    f-below = padded-below r.start.items _ (λ j. enters_below T.start j (contributes p r.start (trip_item T j)).f (item-fine j).0)

    g-below : (j : ℕ) → vector_g p T j < p
    g-below = padded-below r.start.items _ (λ j. (item-fine j).1)

    module _ (b : ℕ) (ok : run_formed p r ≡ true) (all : length xs ≡ r.start.items) (other : waits next.Total r.next ≡ false) (enough : r.start.items ≤ 2 ^ r.start.rounds) where
      abbrev s : Pass
      s = pass_after p r Asked b xs

      whole : Taken p r.start.rounds (at r.challenges) (level_of r Asked) s.points (vector_f p T) (vector_g p T) (2 ^ r.start.rounds) (kernel_of s)
      whole =
          let e : 2 ^ r.start.rounds - r.start.items + length xs ≡ 2 ^ r.start.rounds = omega arith in
          subst (λ t. Taken p r.start.rounds (at r.challenges) (level_of r Asked) s.points (vector_f p T) (vector_g p T) t (kernel_of s)) e
          (own-taken p r Asked b xs ok (omega arith) other (at r.challenges) (λ j l. refl))

      -- the message of a pass for a round
      pub own-message : (i : ℕ) → level_of r Asked ≡ i → i < r.start.rounds → (s.even < p) × (s.cross < p) × (s.odd < p)
      own-message i e less =
          let m : Message = message p r.start.rounds (at r.challenges) (vector_f p T) (vector_g p T) i in
          let t = subst (λ l. Taken p r.start.rounds (at r.challenges) l s.points (vector_f p T) (vector_g p T) (2 ^ r.start.rounds) (kernel_of s)) e whole in
          let q : sums_of (kernel_of s) ≡ m = taken-message p r.start.rounds (at r.challenges) s.points (vector_f p T) (vector_g p T) (kernel_of s) i t less in
          subst (λ z. (z.even < p) × (z.cross < p) × (z.odd < p)) (sym q)
          (message-below p some r.start.rounds (at r.challenges) (vector_f p T) (vector_g p T) i)

      -- the ends
      pub own-ends : r.next ≡ next.Ends → (get_or s.fvalues 0 0 < p) × (get_or s.gvalues 0 0 < p)
      own-ends e =
          let c : ℕ → ℕ = at r.challenges in
          let t = subst (λ k. Taken p r.start.rounds c (level_of r k) s.points (vector_f p T) (vector_g p T) (2 ^ r.start.rounds) (kernel_of s)) (sym (after-kind p r Asked b xs)) whole in
          let q = end_values p c (vector_f p T) (vector_g p T) r s ok t e in
          (rw q.0 (end_below p some c r.start.rounds (vector_f p T) f-below), rw q.1 (end_below p some c r.start.rounds (vector_g p T) g-below))

  -- in full mode
  pub slice_below : (h : ℕ) (fs gs : List ℕ) → (let m : Message = message_slice p h fs gs in (m.even < p) × (m.cross < p) × (m.odd < p))
  unfolding message_slice
  slice_below h fs gs = by (both_have (2 * h) fs gs)
    where
      by : (b : Bool) → (let m : Message = cond b (message_of p h (at fs) (at gs)) (record { even = 0; cross = 0; odd = 0 }) in (m.even < p) × (m.cross < p) × (m.odd < p))
      by true = (residue-below p some _, residue-below p some _, residue-below p some _)
      by false = (some, some, some)
