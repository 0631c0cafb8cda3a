-- The rows of write_proof, one by one, as the code reaches them.
use mathlib.Core.Path.{◌≡◌}
use mathlib.Core.Bool.{true, false}
use mathlib.Core.List.{List}
use Prim.Native.Nat.{ℕ, ◌*◌, ◌≤◌}
use lib.Dec.{ltb, leb}
use lib.ListN.{length, get_or}
use lib.IntN.{ℤ, nat_abs}
use borrow.Author.Tests.{leb-true}
use Rattle.refusal.specs.Number as number
use Rattle.refusal.specs.Limit.{max_rounds}
use Rattle.refusal.specs.Outcome.{answered, refused}
use Rattle.field.specs.Total.{limit, in_limits}
use Rattle.wire.specs.Proof.{all_below, proof_size, write_proof}

pub within_limit : (p : ℕ) (t : ℤ) → in_limits p t ≡ true → nat_abs t ≤ limit p
unfolding in_limits
within_limit p t h = leb-true _ _ h

module _ (p n : ℕ) (t : ℤ) (ms : List ℕ) (f g : ℕ) (buffer : List ℕ) where
  pub row_count : leb n max_rounds ≡ false → write_proof p n t ms f g buffer ≡ refused number.count
  unfolding write_proof
  row_count h = simp h

  module _ (h : leb n max_rounds ≡ true) where
    pub row-total : in_limits p t ≡ false → write_proof p n t ms f g buffer ≡ refused number.total
    unfolding write_proof
    row-total l = simp (h, l)

    module _ (l : in_limits p t ≡ true) where
      pub row-message : all_below p (λ k. get_or ms k 0) (3 * n) ≡ false → write_proof p n t ms f g buffer ≡ refused number.number
      unfolding write_proof
      row-message a = simp (h, l, a)

      module _ (a : all_below p (λ k. get_or ms k 0) (3 * n) ≡ true) where
        pub row-f : ltb f p ≡ false → write_proof p n t ms f g buffer ≡ refused number.number
        unfolding write_proof
        row-f b = simp (h, l, a, b)

        module _ (b : ltb f p ≡ true) where
          pub row-g : ltb g p ≡ false → write_proof p n t ms f g buffer ≡ refused number.number
          unfolding write_proof
          row-g d = simp (h, l, a, b, d)

          module _ (d : ltb g p ≡ true) where
            pub row-buffer : leb (proof_size n) (length buffer) ≡ false → write_proof p n t ms f g buffer ≡ refused number.buffer
            unfolding write_proof
            row-buffer e = simp (h, l, a, b, d, e)

            pub row_written : leb (proof_size n) (length buffer) ≡ true → write_proof p n t ms f g buffer ≡ answered (proof_size n)
            unfolding write_proof
            row_written e = simp (h, l, a, b, d, e)
