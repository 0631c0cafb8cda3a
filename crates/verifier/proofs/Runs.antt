-- A run from its start to its verdict, over any twists and any kind of items.
use mathlib.Core.Path.{◌≡◌, refl, ap, ap₂, ◌∙◌}
use mathlib.Core.Bool.{true, false}
use mathlib.Core.List.{List}
use Prim.Native.Nat.{ℕ, suc, ◌<◌}
use native.Mathlib.Omega.{arith}
use lib.Dec.{eqb, ltb}
use lib.IntN.{ℤ}
use lib.ListN.{length}
use borrow.Author.Tests.{eq-eqb, eqb-true, le-leb, lt-ltb}
use Rattle.algebra.specs.Mod.{residue, mul_mod}
use Rattle.algebra.proofs.Congruence.{base-of, residue-lt}
use Rattle.refusal.specs.Outcome.{answered}
use Rattle.refusal.proofs.Outcome.{both}
use Rattle.field.specs.Number.{is_reduced}
use Rattle.field.specs.Integer.{image}
use Rattle.field.specs.Total.{in_limits}
use Rattle.vector.specs.Rounds.{rounds_of, size}
use Rattle.vector.specs.Vector.{Vector, at, padded}
use Rattle.vector.specs.Fold.{fold, end_value}
use Rattle.vector.specs.Message.{Message}
use Rattle.vector.specs.Message as vector
use Rattle.vector.specs.Slice.{all_nonzero}
use Rattle.item.specs.declared.Given.{Given}
use Rattle.item.specs.declared.Start.{Start}
use Rattle.item.specs.Start.{count_fits, list_fits, version_kept}
use Rattle.item.specs.Item.{contributes, parts_of}
use Rattle.verifier.specs.declared.Verifier.{Verifier}
use Rattle.verifier.specs.WellFormed.{turn_of, well_formed}
use Rattle.verifier.specs.Starts.{fresh_verifier}
use Rattle.verifier.specs.Claims.{closed_with, closes}
use Rattle.verifier.specs.Calls.{pass_open, close, close_claim, all_reduced3, verdict}
use Rattle.verifier.specs.Trips.{after_calls, given_items, messages, verdict_of}
use Rattle.verifier.proofs.EndSums.{entered, to_f, to_g, state, open_while, after_items, end_of}
use Rattle.verifier.proofs.Verdicts.{Closed, verdict-after, verdict-same}

-- an answered start has n challenges
pub list_length : (p n : ℕ) (xs : List ℕ) → list_fits p n xs ≡ true → length xs ≡ n
list_length p n xs h = eqb-true (length xs) n (both (eqb (length xs) n) (all_nonzero p n xs) h).0

abbrev pub AllReduced : ℕ → ℕ → (ℕ → Message) → Type 0
AllReduced p n m = (i : ℕ) → i < n → all_reduced3 p (m i).even (m i).cross (m i).odd ≡ true

-- A run of items that pass their checks, where F enters the sum of f, and the first n challenges kept are c's
pub record Run (p : ℕ) : Type 0 where
  pub start : Start
  pub known : version_kept start.plain start.version ≡ true
  pub count : count_fits start.items ≡ true
  pub own : start.rounds ≡ rounds_of start.items
  pub challenges : List ℕ
  pub c : ℕ → ℕ
  pub agree : (k : ℕ) → k < start.rounds → at challenges k ≡ c k
  pub given : ℕ → Given
  pub fits : (i : ℕ) → i < start.items → parts_of p start i (given i) ≡ answered (contributes p start (given i))
  pub F : Vector
  pub same : (i : ℕ) → i < start.items → entered p start (to_f p start given) i ≡ F i
  pub reduced_f : (i : ℕ) → i < start.items → residue p (F i) ≡ F i
  pub reduced_g : (i : ℕ) → i < start.items → residue p (to_g p start given i) ≡ to_g p start given i

module _ (p : ℕ) (r : Run p) where
  abbrev L : ℕ
  L = r.start.items

  abbrev n : ℕ
  n = r.start.rounds

  abbrev G : Vector
  G = to_g p r.start r.given

  abbrev pub fresh : Verifier
  fresh = fresh_verifier r.start r.challenges

  abbrev pub ready : Verifier
  ready = state p r.start r.given r.challenges L

  abbrev pub done : Verifier
  done = after_calls (given_items p r.given) fresh L

  pub reaches : done ≡ ready
  reaches = after_items p r.start r.given r.challenges r.known r.count r.own r.fits L (omega arith)

  pub ready-open : pass_open ready ≡ true
  ready-open = open_while p r.start r.given r.challenges r.known r.count r.own L (omega arith)

  closed-start : (claim : ℕ) → Closed (closed_with ready claim)
  unfolding closed_with fresh_verifier state well_formed turn_of
  closed-start claim =
      record {
        formed = rw (r.known, r.count, eq-eqb n (rounds_of L) r.own, eq-eqb L L refl, le-leb 0 n (omega arith));
        closed = refl;
        going = refl;
        first = refl;
      }

  f-end : ready.fsum ≡ end_value p r.c n (padded L r.F)
  unfolding fresh_verifier state
  f-end =
      end_of p L n r.count r.own r.challenges r.c r.agree (entered p r.start (to_f p r.start r.given)) r.F r.same
      r.reduced_f

  g_end : ready.gsum ≡ end_value p r.c n (padded L G)
  unfolding fresh_verifier state
  g_end = end_of p L n r.count r.own r.challenges r.c r.agree G G (λ i h. refl) r.reduced_g

  -- the running sums after the items
  pub run_ends : (done.fsum ≡ end_value p r.c n (padded L r.F)) × (done.gsum ≡ end_value p r.c n (padded L G))
  run_ends = (ap (λ v. v.fsum) reaches ∙ f-end, ap (λ v. v.gsum) reaches ∙ g_end)

  -- the verdict after n messages
  pub run-verdict : (claim : ℕ) (m : ℕ → Message) → AllReduced p n m
      → verdict p (after_calls (messages p m) (closed_with ready claim) n)
      ≡ answered
      (verdict_of p r.c n claim m (mul_mod p (end_value p r.c n (padded L r.F)) (end_value p r.c n (padded L G))))
  unfolding closed_with fresh_verifier state
  run-verdict claim m reduced =
      verdict-after p (closed_with ready claim) (closed-start claim) m reduced
      ∙ ap answered
      (verdict-same p n (at r.challenges) r.c r.agree claim m _
      ∙ ap (verdict_of p r.c n claim m) (ap₂ (mul_mod p) f-end g_end))

-- the close that is next is answered
pub close-next : (p : ℕ) (v : Verifier) (total : ℤ) → pass_open v ≡ true → v.taken ≡ v.start.items → v.start.plain ≡ true → in_limits p total ≡ true
    → close p v total ≡ answered (closes v (image p total))
unfolding close
close-next p v total a b c d = rw (a, eq-eqb v.taken v.start.items b, c, d)

pub claim-next : (p : ℕ) (v : Verifier) (claim : ℕ) → pass_open v ≡ true → v.taken ≡ v.start.items → v.start.plain ≡ false → is_reduced p claim ≡ true
    → close_claim p v claim ≡ answered (closes v claim)
unfolding close_claim
claim-next p v claim a b c d = rw (a, eq-eqb v.taken v.start.items b, c, d)

-- a message of two vectors has field numbers
pub message-reduced : (p n : ℕ) (c : ℕ → ℕ) (f g : Vector) → 0 < p → AllReduced p n (vector.message p n c f g)
unfolding all_reduced3
message-reduced p n c f g positive i l =
    let e = base-of p positive in
    let below : (a : ℕ) → ltb (residue p a) p ≡ true = λ a. lt-ltb (residue p a) p (omega (arith, residue-lt p a)) in
    let h = size n (suc i) in
    let a = fold p c i f in
    let b = fold p c i g in
    rw (below (vector.even_sum h a b), below (vector.cross_sum h a b), below (vector.odd_sum h a b))
