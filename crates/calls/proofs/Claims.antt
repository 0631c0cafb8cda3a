-- THE RUNNING CLAIM: of every list the one that the answers make; and the verifier that heard the run's messages holds the run's.
use mathlib.Core.Path.{◌≡◌, refl, sym, ap, ap₂, subst, ◌∙◌}
use mathlib.Core.Bool.{Bool, true, true≢false}
use mathlib.Core.List.{List, [], ◌∷◌}
use Prim.Native.Nat.{ℕ, ◌*◌, ◌<◌}
use lib.ListN.{length}
use borrow.Author.Tests.{eqb-true}
use Rattle.algebra.specs.Mod.{residue}
use Rattle.refusal.specs.Limit.{max_weight}
use Rattle.refusal.specs.Outcome.{Outcome, answered, refused, refused_at}
use Rattle.vector.specs.Rounds.{size}
use Rattle.vector.specs.Vector.{Vector, at, dot}
use Rattle.vector.specs.Fold.{combine, fold}
use Rattle.vector.proofs.Sums.{sum_same}
use Rattle.vector.proofs.Folds.{fold-challenges}
use Rattle.phase.specs.declared.Next.{Next}
use Rattle.phase.specs.declared.Next.TheVariants as next
use Rattle.phase.specs.Order.{round_fits}
use Rattle.prover.specs.declared.Run.{Run}
use Rattle.prover.specs.Reply.{Reply}
use Rattle.verifier.specs.declared.Verifier.{Verifier}
use Rattle.item.specs.declared.Start.{Start}
use Rattle.runs.specs.Trip.{Trip, vector_f, vector_g}
use Rattle.calls.specs.declared.Call.{Call}
use Rattle.calls.specs.Lists.{always}
use Rattle.calls.specs.World.{Made, World, came, onward}
use Rattle.calls.specs.Begins.{Begin, total, openings, CanBegin, begun}
use Rattle.calls.specs.Table.{level_now}
use Rattle.calls.specs.Claim.{after_outcome, claiming_on, ClaimHolds, AllClaimed, amid_rounds}
use Rattle.calls.specs.QueryState.{VerifierState}
use Rattle.calls.proofs.Records.{Notes, noted}
use Rattle.calls.proofs.Refusals.{Faithful, faithful_on}
use Rattle.calls.proofs.Begins.{begun-faithful}
use Rattle.calls.proofs.Answers.{Going, holds-here}
use Rattle.calls.proofs.Hits.{Prefix}
use Rattle.calls.proofs.HeardTrip.{claim_of}
use Rattle.calls.proofs.HeardFollows.{Follows}

-- what is noted of the claim
running-noted : (p : ℕ) (c : Call) (past : Notes) (o : Outcome Reply) → (noted p c past o).running ≡ after_outcome p past.running c o
running-noted p c past (answered x) = refl
running-noted p c past (refused k) = refl
running-noted p c past (refused_at k i) = refl

module _ (p : ℕ) (large : max_weight < p) where
  -- EVERY LIST
  claimed : (w : World) {past : Notes} → Faithful p large w past → ClaimHolds p (record { now = w; running = past.running })
  claimed w i =
      let e = ap (λ (r : Run). r.claim) i.run in
      (e, subst (λ x. x < p) (sym e) i.fits.run.claim)

  all-claimed : (w : World) {past : Notes} → Faithful p large w past → (ms : List Made)
      → always (claiming_on p) (ClaimHolds p) (record { now = w; running = past.running }) ms
  unfolding always
  all-claimed w i [] = claimed w i
  all-claimed w {past} i (m ∷ ms) = (
    claimed w i,
    subst (λ x. always (claiming_on p) (ClaimHolds p) (record { now = onward p w m; running = x }) ms)
        (running-noted p m.call past (came p w m).answer) (all-claimed (onward p w m) (faithful_on p large w i m) ms),
  )

  pub begun-claimed : (s : Start) (b : Begin) → CanBegin s b → (f g : List ℕ) (ms : List Made) → AllClaimed p (begun s b f g) ms
  begun-claimed s total h f g ms = all-claimed _ (begun-faithful p large s total h f g) ms
  begun-claimed s (openings cs) h f g ms = all-claimed _ (begun-faithful p large s (openings cs) h f g) ms

  -- amid the rounds the current fold is that of the challenges taken
  amid_level : (n i : ℕ) (t : Next) → round_fits t i n ≡ true → amid_rounds t ≡ true → level_now n i 0 t ≡ i
  amid_level n i next.Total fits e = absurd (true≢false (sym e))
  amid_level n i next.Message fits e = refl
  amid_level n i next.Challenge fits e = refl
  amid_level n i next.Ends fits e = sym (eqb-true i n fits)
  amid_level n i next.Openings fits e = absurd (true≢false (sym e))

  -- BESIDE A VERIFIER
  module _ (through : Bool) (T : Trip) (whole : length T.items ≡ T.start.items) (cs : List ℕ) where
    -- the scalar product of fold i depends on the challenges before it
    same-claim : (ds : List ℕ) → Prefix ds cs → claim_of p T ds (length ds) ≡ claim_of p T cs (length ds)
    same-claim ds same =
        let i : ℕ = length ds in
        let folds : (v : Vector) (k : ℕ) → fold p (at ds) i v k ≡ fold p (at cs) i v k = λ v. fold-challenges (combine p) (at ds) (at cs) v i same in
        ap (residue p) (sum_same (size T.start.rounds i) _ _ (λ k less. ap₂ ◌*◌ (folds (vector_f p T) k) (folds (vector_g p T) k)))

    pub claims-same : (x : World) {past : Notes} → Going p large through T whole x past → Prefix x.state.turn.challenges cs
        → (a : VerifierState) (v : Verifier) → Follows p T cs a v → amid_rounds x.state.turn.next ≡ true → a.closed ≡ true
        → a.round ≡ length x.state.turn.challenges → v.claim ≡ x.run.claim
    claims-same x going same a v f amid closed place =
        let ds : List ℕ = x.state.turn.challenges in
        let n : ℕ = x.state.start.rounds in
        let t : Next = x.state.turn.next in
        let level = amid_level n (length ds) t going.faithful.fits.run.round amid in
        let held : x.run.claim ≡ dot p (size n (level_now n (length ds) 0 t)) (fold p (at ds) (level_now n (length ds) 0 t) (vector_f p T)) (fold p (at ds) (level_now n (length ds) 0 t) (vector_g p T)) =
        (holds-here p large through T whole x going).claim amid in
        let run : x.run.claim ≡ claim_of p T ds (length ds) =
        held ∙ ap₂ (λ n i. dot p (size n i) (fold p (at ds) i (vector_f p T)) (fold p (at ds) i (vector_g p T))) (ap (λ (s : Start). s.rounds) going.start) level in
        f.claim closed ∙ ap (claim_of p T cs) place ∙ sym (run ∙ same-claim ds same)
