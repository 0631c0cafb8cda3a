-- A BATCH'S OWN LIST is answered throughout, whichever of its openings are made in full mode; it meets what is asked of a run's list, and
-- takes the challenges that it began with.
use mathlib.Core.Path.{◌≡◌, refl, sym, ap, subst, ◌∙◌}
use mathlib.Core.Bool.{Bool, true, false, cond, true≢false}
use mathlib.Core.List.{List, [], ◌++◌, append-nil}
use Prim.Native.Nat.{ℕ, suc, ◌+◌, ◌<◌}
use native.Mathlib.Omega.{arith}
use lib.ListN.{length}
use Rattle.refusal.specs.Limit.{max_weight}
use Rattle.phase.specs.declared.Mode.TheVariants.{Small, Full}
use Rattle.phase.specs.declared.Next.TheVariants as next
use Rattle.phase.specs.declared.Kind.TheVariants.{Shut}
use Rattle.runs.specs.Trip.{Trip}
use Rattle.calls.specs.declared.Call.{Call}
use Rattle.calls.specs.Step.{Lent, lending}
use Rattle.calls.specs.Proper.{Valid, Brings, Host, opening_calls}
use Rattle.calls.specs.Begins.{openings_world, batch_run}
use Rattle.calls.specs.Starts.{Opens}
use Rattle.calls.specs.Demand3.{AllAnswered, AllProper}
use Rattle.calls.proofs.LiveWorld.{Lives, lives_answered, lives_kept, Standing}
use Rattle.calls.proofs.LiveTakes.{last-quiet, all_take}
use Rattle.calls.proofs.Live.{after-ends}
use Rattle.calls.proofs.Begins.{opens_notes, opens-going}

module _ (p : ℕ) (large : max_weight < p) (T : Trip) (valid : Valid p T) (full : ℕ → Bool) (cs bs : List ℕ) (idle : Call → ℕ → Lent) (brings : Brings p T full cs bs idle)
    (o : Opens T.start cs) (small : full T.start.rounds ≡ false) (f g : List ℕ) where
  abbrev begin : Host
  begin = record { world = openings_world T.start cs f g; count = 0; lent = lending f g [] }

  lives : (through : Bool) → Lives p T idle through begin (opening_calls T full bs)
  lives through =
      after-ends p large through T idle valid full (suc T.start.rounds + length bs) brings.room bs brings.points (omega arith) begin
      (subst (λ b. Standing p large through T idle valid (cond b Full Small) next.Openings T.start.rounds Shut 0 begin) (sym small)
      (record {
        past = opens_notes p large T.start cs o;
        going = opens-going p large through T valid.whole.items cs o f g;
        mode = refl;
        next = refl;
        round = brings.count;
        kind = refl;
        taken = refl;
        room = λ held-so. absurd (true≢false (sym held-so));
        left = λ held-so. absurd (true≢false (sym held-so));
      }))

  answered : AllAnswered p begin.world (batch_run p T full cs bs idle f g)
  answered = lives_answered p T idle true begin (opening_calls T full bs) (lives true)

  pub batch-proper : AllProper p cs T begin.world (batch_run p T full cs bs idle f g)
  batch-proper = (
    answered,
    (λ through. lives_kept p T idle through begin (opening_calls T full bs) (lives through)),
    all_take p T idle cs (opening_calls T full bs) begin answered (ap (λ ds. cs ++ ds) (last-quiet T full bs) ∙ append-nil cs),
  )
