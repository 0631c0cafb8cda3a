-- After all L items of a trip, first to last, the running sums are the true end values of the padded and twisted vectors.
use mathlib.Core.Path.{◌≡◌, refl, sym, ap, ap₂, ◌∙◌}
use mathlib.Core.Bool.{true}
use mathlib.Core.List.{List}
use Prim.Native.Nat.{ℕ, zero, suc, ◌*◌, ◌^◌, ◌≤◌, ◌<◌}
use native.Mathlib.Numerals.{add-one}
use native.Mathlib.Omega.{arith}
use lib.Dec.{leb, ltb}
use borrow.Author.Tests.{eq-eqb, le-leb, leb-true, lt-ltb}
use Rattle.algebra.specs.Mod.{residue}
use Rattle.algebra.proofs.Congruence.{residue-zero}
use Rattle.refusal.specs.Outcome.{answered}
use Rattle.refusal.proofs.Outcome.{both}
use Rattle.vector.specs.Rounds.{rounds_of}
use Rattle.vector.specs.Vector.{Vector, at, sum, weight, padded}
use Rattle.vector.specs.Fold.{combine, end_value}
use Rattle.item.specs.declared.Given.{Given}
use Rattle.item.specs.declared.Item.{Item}
use Rattle.item.specs.declared.Start.{Start}
use Rattle.item.specs.Start.{count_fits, version_kept}
use Rattle.item.specs.Item.{contributes, parts_of}
use Rattle.vector.proofs.Rounds.{rounds-at-most, rounds-enough}
use Rattle.vector.proofs.Folds.{fold-challenges}
use Rattle.vector.proofs.Sums.{sum_same}
use Rattle.vector.proofs.EndValues.{weighted, weighted-step, end_padded}
use Rattle.verifier.specs.declared.Verifier.{Verifier}
use Rattle.verifier.specs.Records.{leaves}
use Rattle.verifier.specs.WellFormed.{turn_of, well_formed}
use Rattle.verifier.specs.Starts.{fresh_verifier}
use Rattle.verifier.specs.Sums.{entering, one_more, takes}
use Rattle.verifier.specs.Calls.{pass_open, give}
use Rattle.verifier.specs.Trips.{after_calls, given_items}

-- a verifier with other running sums
abbrev pub with_sums : Verifier → ℕ → ℕ → ℕ → Verifier
with_sums v taken fsum gsum =
    record {
      start = v.start;
      challenges = v.challenges;
      closed = v.closed;
      taken = taken;
      fsum = fsum;
      gsum = gsum;
      claim = v.claim;
      round = v.round;
      failed = v.failed;
    }

same_sums : (v : Verifier) {t t' a a' b b' : ℕ} → t ≡ t' → a ≡ a' → b ≡ b' → with_sums v t a b ≡ with_sums v t' a' b'
same_sums v {t' = t'} {a = a} {b = b} x y z = ap (λ k. with_sums v k a b) x ∙ ap₂ (λ i j. with_sums v t' i j) y z

-- the numbers that enter f's sum
abbrev pub entered : ℕ → Start → Vector → Vector
entered p s f i = entering p s i (f i)

-- the verifier after m items of f and g
abbrev pub passing : ℕ → Verifier → Vector → Vector → ℕ → Verifier
passing p v f g m =
    with_sums v m (weighted p (at v.challenges) v.start.rounds (entered p v.start f) m)
    (weighted p (at v.challenges) v.start.rounds g m)

one_more_lem : (p : ℕ) (v : Verifier) (f g : Vector) (m : ℕ) → one_more p (passing p v f g m) (f m) (g m) ≡ passing p v f g (suc m)
unfolding one_more
one_more_lem p v f g m =
    same_sums v (add-one m) (weighted-step p (at v.challenges) v.start.rounds (entered p v.start f) m)
    (weighted-step p (at v.challenges) v.start.rounds g m)

-- an item that is next is taken
pub give-taken : (p : ℕ) (w : Verifier) (given : Given) (x : Item) → pass_open w ≡ true → ltb w.taken w.start.items ≡ true
    → parts_of p w.start w.taken given ≡ answered x → give p w given ≡ answered (takes p w x)
unfolding give
give-taken p w given x a b c = rw (a, b, c)

-- what the items contribute to f and to g
module _ (p : ℕ) (start : Start) (given : ℕ → Given) where
  abbrev pub to_f : Vector
  to_f i = (contributes p start (given i)).f

  abbrev pub to_g : Vector
  to_g i = (contributes p start (given i)).g

  -- a fresh verifier that has taken m of them
  module _ (challenges : List ℕ) where
    unfoldable pub state : ℕ → Verifier
    state = passing p (fresh_verifier start challenges) to_f to_g

    module _ (known : version_kept start.plain start.version ≡ true) (count : count_fits start.items ≡ true)
        (own : start.rounds ≡ rounds_of start.items) where
      pub open_while : (m : ℕ) → m ≤ start.items → pass_open (state m) ≡ true
      unfolding pass_open well_formed turn_of fresh_verifier state
      open_while m h = rw (known, count, eq-eqb start.rounds (rounds_of start.items) own, le-leb m start.items h)

      -- where every item passes its checks, the sums are as above
      module _ (fits : (i : ℕ) → i < start.items → parts_of p start i (given i) ≡ answered (contributes p start (given i))) where
        taken : (m : ℕ) → m < start.items
            → given_items p given (state m) m ≡ answered (takes p (state m) (contributes p start (given m)))
        unfolding fresh_verifier state
        taken m h =
            give-taken p (state m) (given m) (contributes p start (given m)) (open_while m (omega arith)) (lt-ltb m start.items h)
            (fits m h)

        pub after_items : (m : ℕ) → m ≤ start.items → after_calls (given_items p given) (fresh_verifier start challenges) m ≡ state m
        unfolding after_calls fresh_verifier state sum
        after_items zero h = same_sums (fresh_verifier start challenges) refl (sym (residue-zero p)) (sym (residue-zero p))
        after_items (suc m) h =
            ap (λ w. (leaves w (given_items p given w m)).verifier) (after_items m (omega arith))
            ∙ ap (λ o. (leaves (state m) o).verifier) (taken m (omega arith))
            ∙ one_more_lem p (fresh_verifier start challenges) to_f to_g m

pub limit : (items : ℕ) → count_fits items ≡ true → items ≤ 32768
limit items count = leb-true items 32768 (both (leb 1 items) (leb items 32768) count).1

pub few : (items : ℕ) → count_fits items ≡ true → rounds_of items ≤ 15
few items count = rounds-at-most items (limit items count)

-- A sum that is the end value: of numbers that are U's below L, with challenges that are c's below n
pub end_of : (p items n : ℕ) → count_fits items ≡ true → n ≡ rounds_of items → (challenges : List ℕ) (c : ℕ → ℕ)
    → ((k : ℕ) → k < n → at challenges k ≡ c k) → (u U : Vector) → ((i : ℕ) → i < items → u i ≡ U i)
    → ((i : ℕ) → i < items → residue p (U i) ≡ U i)
    → weighted p (at challenges) n u items ≡ end_value p c n (padded items U)
end_of p items n count own challenges c agree u U same reduced =
    let enough : items ≤ 2 ^ n = rw own (rounds-enough items (limit items count)) in
    ap (residue p) (sum_same items _ _ (λ i h. ap (λ x. x * weight p (at challenges) n i) (same i h)))
    ∙ sym (end_padded p (at challenges) n items U enough reduced)
    ∙ fold-challenges (combine p) (at challenges) c (padded items U) n agree 0
