-- DEMAND 3, proved: for any odd prime modulus above the largest weight that fits 32 bits, and so for 2,147,483,647.
use mathlib.Core.Path.{◌≡◌, sym, ap, ap₂, ◌∙◌}
use mathlib.Core.Bool.{Bool, true}
use mathlib.Core.List.{List, [], ◌∷◌, ◌++◌}
use Prim.Native.Nat.{ℕ, ◌%◌, ◌^◌, ◌<◌, ◌≤◌}
use lib.ListN.{length}
use Rattle.algebra.specs.Prime.{Prime}
use Rattle.refusal.specs.Limit.{max_weight}
use Rattle.refusal.specs.Outcome.{answered}
use Rattle.field.specs.Modulus.{modulus}
use Rattle.field.proofs.ModulusLaws.{modulus-odd, modulus-prime, modulus-word, modulus-weights}
use Rattle.item.specs.declared.Start.{Start}
use Rattle.item.specs.Start.{modulus_of}
use Rattle.runs.specs.Trip.{Trip}
use Rattle.calls.specs.declared.query.Query.{Query}
use Rattle.calls.specs.declared.query.Query.TheVariants as query
use Rattle.calls.specs.Lists.{after, along}
use Rattle.calls.specs.Step.{is_answered}
use Rattle.calls.specs.World.{Made, World, came, onward}
use Rattle.calls.specs.Begins.{Begin, CanBegin, begun}
use Rattle.calls.specs.Meaning.{meant, meaning, message_at, proof_of_trip}
use Rattle.calls.specs.QueryStep.{Shown}
use Rattle.calls.specs.QueryState.{VerifierState, Posed, Hearing, fresh_hearing, heard, hears_on}
use Rattle.calls.specs.Given.{reply_of, BringsRun}
use Rattle.calls.specs.Starts.{Whole}
use Rattle.calls.specs.Demand3.{AllKept, AllTake, AllBringRun, AllSay, Demand3}
use Rattle.calls.proofs.BlockLists.{begun-blocks}
use Rattle.calls.proofs.HeardBlocks.{every-heard_block}
use Rattle.calls.proofs.Records.{Notes}
use Rattle.calls.proofs.Refusals.{all-decided}
use Rattle.calls.proofs.Begins.{begun-faithful, begun-going}
use Rattle.calls.proofs.BatchRuns.{batch-proper}
use Rattle.calls.proofs.BatchOpenings.{batch-checked}
use Rattle.calls.proofs.Answers.{Going, all_right}
use Rattle.calls.proofs.Alike.{last-replies}
use Rattle.calls.proofs.Hits.{hit_replies, hit_somewhere, going_after}
use Rattle.calls.proofs.Longer.{along-first, always-first}
use Rattle.calls.proofs.Claims.{begun-claimed, claims-same}
use Rattle.calls.proofs.Links.{total-of, claim-of, message-of, file-of}
use Rattle.calls.proofs.OpeningChecks.{openings-checked}
use Rattle.calls.proofs.Carried.{proper-run, proper-messages, proper-longer, proper-written, proper-file}
use Rattle.calls.proofs.CarriedWhole.{messages-list, file-list}
use Rattle.calls.proofs.QueryLists.{every-query}
use Rattle.calls.proofs.HeardMeaning.{BringsTrip, says-agreed}
use Rattle.calls.proofs.HeardFollows.{Follows}
use Rattle.calls.proofs.HeardLists.{says-trip, follows_next, fresh-follows}
use Rattle.calls.proofs.VerdictLists.{every-verdict}
use Rattle.calls.proofs.StartRows.{all-starts}
use Rattle.calls.proofs.Unbound.{unbound-kept, return_frees}

-- WHAT THE RUN GAVE IS THE TRIP'S
module _ (p : ℕ) (large : max_weight < p) (through : Bool) (T : Trip) (whole : Whole T) (cs : List ℕ) (w : World) {past : Notes}
    (going : Going p large through T whole.items w past) (ms : List Made) (kept : AllKept p through T w ms) (takes : AllTake p cs w ms) where
  brings : (b : VerifierState) → b.challenges ≡ cs → (q : Query) (l : Shown) → BringsRun p T w ms b q l → BringsTrip p T b q l
  brings b e (query.Give x) l h = h
  brings b e (query.Close t) l h =
      let g = hit_somewhere p large through T whole.items cs _ _ w going ms kept takes h in
      total-of p large through T whole.items cs t g.0 (sym g.1 ∙ hit_replies p large through T whole.items cs _ g.0)
  brings b e (query.CloseClaim c) l h =
      let g = hit_somewhere p large through T whole.items cs _ _ w going ms kept takes h in
      claim-of p large through T whole.items cs c g.0 (sym g.1 ∙ hit_replies p large through T whole.items cs _ g.0)
  brings b e (query.Message even cross odd) l h =
      let g = hit_somewhere p large through T whole.items cs _ _ w going ms kept takes h in
      message-of p large through T whole.items cs b.round even cross odd g.0 (sym g.1 ∙ hit_replies p large through T whole.items cs _ g.0)
      ∙ ap (λ ds. message_at p T ds b.round) (sym e)
  brings b e query.Verdict l h = tt
  brings b e query.Proof l h =
      let g = hit_somewhere p large through T whole.items cs _ _ w going ms kept takes h in
      let f = file-of p large through T whole.items cs l.file g.0 g.1 in
      (f.0 ∙ ap (proof_of_trip p T) (sym e), f.1)
  brings b e (query.CheckOpening x) l h = tt
  brings b e (query.CheckBatch m z x) l h = tt

  -- A VERIFIER'S LIST that brings what the run gave
  module _ (prime : Prime p) (odd : p % 2 ≡ 1) (word : p ≤ 2 ^ 32) (listed : length cs ≡ T.start.rounds) where
    all_say : (h : Hearing) → Follows p T cs h.state h.verifier → (qs : List Posed) → AllBringRun p T w ms h qs → AllSay p T h qs
    unfolding along
    all_say h f [] b = tt
    all_say h f (q ∷ qs) b =
        let brought : is_answered (heard p h q).told ≡ true → BringsTrip p T h.state q.query q.shown
        = λ y. brings h.state f.challenges q.query q.shown (b.0 y) in (
          λ e o.
              let s = says-trip p large prime odd word T whole cs listed h f q brought e in
              s.0 ∙ ap (λ t. answered t) (says-agreed p T h.state q.query q.shown _ s.1 o),
          all_say (hears_on p h q) (follows_next p large prime odd word T whole cs listed h f q brought) qs b.1,
        )

    -- and the verifier after it
    follows_after : (h : Hearing) → Follows p T cs h.state h.verifier → (qs : List Posed) → AllBringRun p T w ms h qs
        → (let k : Hearing = after (hears_on p) h qs in Follows p T cs k.state k.verifier)
    unfolding along after
    follows_after h f [] b = f
    follows_after h f (q ∷ qs) b =
        follows_after (hears_on p h q)
        (follows_next p large prime odd word T whole cs listed h f q (λ y. brings h.state f.challenges q.query q.shown (b.0 y))) qs b.1

module _ (p : ℕ) (large : max_weight < p) (prime : Prime p) (odd : p % 2 ≡ 1) (word : p ≤ 2 ^ 32) where
  -- the last call of a list replies what is meant
  replies : (through : Bool) (T : Trip) → Whole T → (b : Begin) → CanBegin T.start b → (f g : List ℕ) (ms : List Made) (m : Made)
      → (let w : World = begun T.start b f g in
      let x : World = after (onward p) w ms in
      AllKept p through T w (ms ++ m ∷ []) → is_answered (came p x m).answer ≡ true → reply_of (came p x m) ≡ meaning p T x.state m.call)
  replies through T whole b h f g ms m kept =
      let w : World = begun T.start b f g in
      let going = begun-going p large through T whole.items b h f g in
      last-replies p T through w ms m (all-decided p large w going.faithful (ms ++ m ∷ [])) (all_right p large through T whole.items w going (ms ++ m ∷ []) kept)

  -- DEMAND 3
  pub demand3 : Demand3 p
  demand3 =
      record {
        starts = all-starts p;
        refusals = λ s b h f g ms. all-decided p large (begun s b f g) (begun-faithful p large s b h f g) ms;
        claims = begun-claimed p large;
        answers = λ through T whole b h f g ms kept.
            all_right p large through T whole.items (begun T.start b f g) (begun-going p large through T whole.items b h f g) ms kept;
        freed = return_frees p;
        unbound = unbound-kept p;
        proper = proper-run p large prime odd word;
        proper_batch = batch-proper p large;
        alike = λ T whole b b' h h' th th' f g f' g' ms ns m n kept kept' challenges asked e e'.
            replies th T whole b h f g ms m kept e ∙ ap₂ (meant p T) challenges asked ∙ sym (replies th' T whole b' h' f' g' ns n kept' e');
        verifier_refusals = every-query p;
        verifier_answers = λ through T whole b h f g ms kept cs listed takes qs brought.
            all_say p large through T whole cs (begun T.start b f g) (begun-going p large through T whole.items b h f g) ms kept takes prime odd word listed
            (fresh_hearing T.start cs) (fresh-follows p large prime odd word T whole cs listed) qs brought;
        claims_alike = λ through T whole b h f g ms ns kept cs listed takes qs brought.
            let w : World = begun T.start b f g in
            let going = begun-going p large through T whole.items b h f g in
            let here = going_after p large through T whole.items cs w going ms (along-first (onward p) _ w ms ns kept) (always-first (onward p) _ w ms ns takes) in
            claims-same p large through T whole.items cs (after (onward p) w ms) here.1 here.2 _ _
            (follows_after p large through T whole cs w going (ms ++ ns) kept takes prime odd word listed (fresh_hearing T.start cs)
            (fresh-follows p large prime odd word T whole cs listed) qs brought);
        openings_checked = λ through T whole b h f g ms kept cs listed takes.
            openings-checked p large prime odd word T whole cs listed through b h f g ms kept takes;
        batch_checked = batch-checked p large prime odd;
        verifier_proper = λ T valid full cs bs idle brought f g.
            let told = proper-messages p large prime odd word T valid full cs bs idle brought f g in (
              messages-list p large T valid full cs bs idle brought f g,
              told.0,
              told.1,
              λ plain m room.
                  let file = proper-file p large prime odd word T valid full cs bs idle brought f g plain m room in (
                    proper-longer p large prime odd word T valid full cs bs idle brought f g plain m room,
                    file-list p large T valid full cs bs idle brought f g _ (proper-written p large prime odd word T valid full cs bs idle brought f g plain m room),
                    file.0,
                    file.1,
                  ),
            );
        verdicts = λ s h cs listed. every-verdict p s cs large h listed;
        blocks = begun-blocks p large;
        verifier_blocks = every-heard_block p;
      }

-- of the customer's modulus
pub demand3_31 : Demand3 2147483647
unfolding modulus
demand3_31 = demand3 _ modulus-weights modulus-prime modulus-odd modulus-word

-- at the modulus of a start's runs: what `make` and `ask` compute, whatever record they are handed
pub demand3_of : (s : Start) → Demand3 (modulus_of s)
unfolding modulus_of
demand3_of s = demand3 _ modulus-weights modulus-prime modulus-odd modulus-word
