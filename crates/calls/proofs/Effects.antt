-- BUFFERS: what an answered call leaves in the buffers that it was lent.
use mathlib.Core.Path.{◌≡◌, refl, sym, ap, subst, ◌∙◌}
use mathlib.Core.Bool.{true, false, cond}
use mathlib.Core.List.{List, [], ◌∷◌, ◌++◌}
use Prim.Native.Nat.{ℕ, suc, ◌+◌, ◌-◌, ◌/◌, ◌^◌, ◌<◌, ◌≤◌}
use native.Mathlib.Omega.{arith}
use lib.Dec.{ltb}
use lib.ListN.{length}
use borrow.Author.Tests.{lt-ltb}
use Rattle.vector.specs.Vector.{Vector, at}
use Rattle.vector.specs.Rounds.{size}
use Rattle.vector.specs.Fold.{combine, fold}
use Rattle.vector.proofs.Folds.{fold-challenges}
use Rattle.phase.specs.declared.Next.TheVariants as next
use Rattle.phase.specs.declared.Kind.TheVariants.{Shut, Change}
use Rattle.phase.specs.Cases.{waits}
use Rattle.phase.specs.Level.{level_at}
use Rattle.prover.specs.declared.Run.{Run}
use Rattle.pass.specs.declared.Pass.{Pass}
use Rattle.prover.specs.Records.{Out}
use Rattle.prover.specs.Level.{level_of}
use Rattle.prover.specs.Take.{entering, takes}
use Rattle.prover.specs.Change.{padded_buffer}
use Rattle.prover.specs.Challenge.{challenge_turn, challenged_full}
use Rattle.prover.proofs.FullLaws as full
use Rattle.item.specs.declared.Given.{Given}
use Rattle.item.specs.Item.{contributes}
use Rattle.runs.specs.Trip.{Trip, trip_item, enters_as, vector_f, vector_g}
use Rattle.runs.specs.Passes.{pass_after, Gives}
use Rattle.runs.specs.Buffers.{Written}
use Rattle.runs.proofs.RunFacts.{change_level}
use Rattle.runs.proofs.PassRecord.{after-kind, after-taken, after-entering}
use Rattle.runs.proofs.ChangeLaws.{padded-written, item-written}
use Rattle.runs.proofs.FullBuffers.{challenge-written}
use Rattle.calls.specs.Step.{Lent}
use Rattle.calls.specs.State.{State}
use Rattle.calls.specs.Table.{level, long, taken, completed}
use Rattle.calls.proofs.Records.{Notes, run_of, pass_of}
use Rattle.calls.proofs.Guards.{level-now}
use Rattle.calls.proofs.Fits.{Fits, run-formed}
use Rattle.calls.proofs.Agrees.{trip_at, old_challenges, new_challenge, agree_at, pass-changing, enough}

pub nothing_written : (v : Vector) (xs : List ℕ) → Written v 0 0 xs xs
nothing_written v xs = record { size = refl; wrote = λ j l h. absurd (omega arith); below = λ j h. refl; above = λ j h. refl }

module _ (p : ℕ) (its : List Given) (a : State) {past : Notes} (h : Fits p a past) where
  abbrev T : Trip
  T = trip_at its a

  abbrev R : Run
  R = run_of a past

  abbrev n : ℕ
  n = a.start.rounds

  abbrev cs : ℕ → ℕ
  cs = at a.turn.challenges

  pub change-at : level_of R Change ≡ level a
  change-at = sym (change_level n (length a.turn.challenges) a.turn.next) ∙ level-now n (length a.turn.challenges) a.turn.next

  -- THE OPENING OF A CHANGE
  pub padded-so : (f : Vector) → ((j : ℕ) → a.start.items ≤ j → f j ≡ 0) → (xs : List ℕ) → long a ≤ length xs
      → Written (fold p cs (level a) f) (long a - completed a (2 ^ n - a.start.items)) (long a) xs (padded_buffer R xs)
  padded-so f zero-from xs there =
      subst (λ i. size n i ≤ length xs → Written (fold p cs i f) (size n i - (2 ^ n - a.start.items) / 2 ^ i) (size n i) xs (padded_buffer R xs)) change-at
      (padded-written p cs f R xs (run-formed p a h) zero-from) there

  -- AN ITEM OF A CHANGE
  module _ (gives : Gives T a.pass.items) (more : length a.pass.items < a.start.items) (change : a.pass.kind ≡ Change) (later : waits next.Total a.turn.next ≡ false)
      (x : Given) (next-item : x ≡ trip_item T (a.start.items - 1 - length a.pass.items)) (fs gs : List ℕ) (lf : long a ≤ length fs) (lg : long a ≤ length gs) where
    abbrev S : Pass
    S = pass_after p R Change a.pass.point a.pass.items

    abbrev t : ℕ
    t = 2 ^ n - a.start.items + length a.pass.items

    room : t < 2 ^ n
    room = omega (arith, enough p its a h)

    index : 2 ^ n - 1 - t ≡ a.start.items - 1 - length a.pass.items
    index = omega (arith, enough p its a h)

    inside : ltb (a.start.items - 1 - length a.pass.items) a.start.items ≡ true
    inside = lt-ltb (a.start.items - 1 - length a.pass.items) a.start.items (omega arith)

    first : entering p R S (contributes p a.start x) ≡ vector_f p T (2 ^ n - 1 - t)
    first =
        after-entering p R Change a.pass.point a.pass.items x
        ∙ ap (λ y. enters_as p a.start (a.start.items - 1 - length a.pass.items) (contributes p a.start y).f) next-item
        ∙ sym (ap (vector_f p T) index ∙ ap (λ b. cond b (enters_as p a.start (a.start.items - 1 - length a.pass.items) (contributes p a.start (trip_item T (a.start.items - 1 - length a.pass.items))).f) 0) inside)

    second : (contributes p a.start x).g ≡ vector_g p T (2 ^ n - 1 - t)
    second =
        ap (λ y. (contributes p a.start y).g) next-item
        ∙ sym (ap (vector_g p T) index ∙ ap (λ b. cond b (contributes p a.start (trip_item T (a.start.items - 1 - length a.pass.items))).g 0) inside)

    count : 2 ^ n - a.start.items + S.taken ≡ t
    count = ap (λ k. 2 ^ n - a.start.items + k) (after-taken p R Change a.pass.point a.pass.items)

    pub item-so : (let o : Out = takes p R S (contributes p a.start x) fs gs in
        Written (fold p cs (level a) (vector_f p T)) (long a - completed a (suc (taken a))) (long a - completed a (taken a)) fs o.f
        × Written (fold p cs (level a) (vector_g p T)) (long a - completed a (suc (taken a))) (long a - completed a (taken a)) gs o.g)
    item-so =
        let o : Out = takes p R S (contributes p a.start x) fs gs in
        subst
        (λ i. size n i ≤ length fs → size n i ≤ length gs
        → Written (fold p cs i (vector_f p T)) (size n i - suc t / 2 ^ i) (size n i - t / 2 ^ i) fs o.f
        × Written (fold p cs i (vector_g p T)) (size n i - suc t / 2 ^ i) (size n i - t / 2 ^ i) gs o.g) change-at
        (item-written p R S (contributes p a.start x) fs gs (run-formed p a h) (after-kind p R Change a.pass.point a.pass.items) later t count room
        cs (vector_f p T) (vector_g p T) (pass-changing p its a h later gives) (agree_at p its a h Change) first second) lf lg

  -- A CHALLENGE in full mode
  module _ (l : Lent) (turn : challenge_turn p R (pass_of p a past) ≡ true) (waiting : a.turn.next ≡ next.Challenge) (c : ℕ)
      (lent : full.Lent p cs (vector_f p T) (vector_g p T) R l.f l.g) where
    abbrev ds : ℕ → ℕ
    ds = at (a.turn.challenges ++ c ∷ [])

    abbrev i : ℕ
    i = length a.turn.challenges

    level-is : level_of R Shut ≡ i
    level-is = ap (λ t. level_at n i t Shut) waiting

    refold : (v : Vector) (j : ℕ) → fold p cs (level_of R Shut) v j ≡ fold p ds (level_of R Shut) v j
    refold v j = fold-challenges (combine p) cs ds v (level_of R Shut) (λ k less. sym (old_challenges a.turn.challenges c k (omega (arith, level-is)))) j

    lent-new : full.Lent p ds (vector_f p T) (vector_g p T) R l.f l.g
    lent-new =
        record {
          first = record { long = lent.first.long; same = λ k less. lent.first.same k less ∙ refold (vector_f p T) k };
          second = record { long = lent.second.long; same = λ k less. lent.second.same k less ∙ refold (vector_g p T) k };
        }

    pub challenge-so : (let o : Out = challenged_full p R (pass_of p a past) c l.f l.g in
        Written (fold p ds (suc i) (vector_f p T)) 0 (size n (suc i)) l.f o.f × Written (fold p ds (suc i) (vector_g p T)) 0 (size n (suc i)) l.g o.g)
    challenge-so = challenge-written p R (pass_of p a past) c l.f l.g turn ds (vector_f p T) (vector_g p T) lent-new (new_challenge a.turn.challenges c)
