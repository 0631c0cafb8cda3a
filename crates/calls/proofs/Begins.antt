-- Every run that a start gives is one that the lists go on from: its records stand for its state, and nothing is known of its buffers.
use mathlib.Core.Path.{◌≡◌, refl, sym, ap, ap₂, ◌∙◌}
use mathlib.Core.Bool.{Bool, true, true≢false}
use mathlib.Core.List.{List, [], ◌∷◌, ◌++◌}
use mathlib.Core.Logic.{⊎_elim}
use Prim.Native.Nat.{ℕ, zero, suc, ◌-◌, ◌*◌, ◌≤◌, ◌<◌}
use native.Mathlib.Nat.{sub-zero}
use native.Mathlib.Omega.{arith}
use borrow.Author.Tests.{le-leb, eq-eqb}
use lib.IntN.{pos}
use lib.ListN.{length, replicate, length-replicate, length-append, get_or-append}
use Rattle.refusal.specs.Limit.{max_weight}
use Rattle.field.specs.Total.{in_limits, limit}
use Rattle.vector.specs.Vector.{at}
use Rattle.vector.specs.Slice.{overwrite, fifteen}
use Rattle.vector.proofs.Overwrite.{overwrite-length, overwrite-kept, overwrite-written}
use Rattle.vector.proofs.Guards.{both-have}
use Rattle.vector.proofs.Rounds.{rounds-at-most}
use Rattle.phase.specs.declared.Mode.TheVariants.{Small}
use Rattle.phase.specs.declared.Next.TheVariants as next
use Rattle.phase.specs.declared.Kind.TheVariants.{Shut}
use Rattle.item.specs.declared.Start.{Start}
use Rattle.runs.specs.Trip.{Trip}
use Rattle.runs.specs.Passes.{pass_after}
use Rattle.calls.specs.Starts.{Opens}
use Rattle.calls.specs.Begins.{Begin, total, openings, CanBegin, begun, at_openings, openings_world}
use Rattle.calls.specs.Claim.{no_claim}
use Rattle.calls.proofs.Records.{Notes, no_notes, in_array}
use Rattle.calls.proofs.Fits.{lt_or_le, zeros-at, array_beyond}
use Rattle.calls.proofs.Follows.{positive, no_items}
use Rattle.calls.proofs.Refusals.{Faithful, fresh-faithful}
use Rattle.calls.proofs.Agrees.{Agrees}
use Rattle.calls.proofs.Answers.{Going, fresh-going}

-- lists that have the same places
same_list : (xs ys : List ℕ) → length xs ≡ length ys → ((k : ℕ) → k < length xs → at xs k ≡ at ys k) → xs ≡ ys
same_list [] [] e h = refl
same_list [] (y ∷ ys) e h = absurd (let z : 0 ≡ suc (length ys) = e in omega arith)
same_list (x ∷ xs) [] e h = absurd (let z : suc (length xs) ≡ 0 = e in omega arith)
same_list (x ∷ xs) (y ∷ ys) e h =
    let l : suc (length xs) ≡ suc (length ys) = e in
    ap₂ ◌∷◌ (h 0 (omega arith)) (same_list xs ys (omega arith) (λ k less. h (suc k) (omega arith)))

abbrev zeros : ℕ → List ℕ
zeros m = replicate m 0

zeros-more : (m n : ℕ) → m ≤ n → zeros n ≡ zeros m ++ zeros (n - m)
zeros-more zero n h = ap zeros (sym (sub-zero n))
zeros-more (suc m) zero h = absurd (omega arith)
zeros-more (suc m) (suc n) h =
    let e : suc n - suc m ≡ n - m = omega arith in
    ap (λ xs. 0 ∷ xs) (zeros-more m n (omega arith) ∙ ap (λ d. zeros m ++ zeros d) (sym e))

-- numbers kept in fifteen places
fifteen-array : (cs : List ℕ) → length cs ≤ 15 → fifteen (length cs) cs ≡ in_array 15 cs
unfolding fifteen
fifteen-array cs few =
    let n : ℕ = length cs in
    rw (both-have n 15 (length cs) few (omega arith))
    (same_list (overwrite (at cs) n (zeros 15)) (in_array 15 cs)
    (overwrite-length (at cs) (zeros 15) n ∙ sym (length-append cs (replicate (15 - n) 0) ∙ (let e = length-replicate {A = ℕ} (15 - n) 0 in omega arith)))
    (λ k less.
    ⊎_elim (λ (l : k < n). overwrite-written (at cs) (zeros 15) n k (omega arith) l ∙ sym (get_or-append cs (replicate (15 - n) 0) 0 k l))
    (λ (l : n ≤ k). overwrite-kept (at cs) (zeros 15) n k l ∙ zeros-at 15 k ∙ sym (array_beyond 15 cs k l)) (lt_or_le k n)))

module _ (p : ℕ) (large : max_weight < p) (s : Start) (cs : List ℕ) (o : Opens s cs) where
  few : s.rounds ≤ 15
  few = omega (arith, o.start.rounds, rounds-at-most s.items o.start.most)

  -- nothing was answered: the places of the messages are zero
  abbrev pub opens_notes : Notes
  opens_notes = record { running = no_claim; total = pos 0; messages = replicate (3 * s.rounds) 0; fend = 0; gend = 0 }

  pub opens-faithful : (f g : List ℕ) → Faithful p large (openings_world s cs f g) opens_notes
  unfolding pass_after in_limits
  opens-faithful f g =
      let n : ℕ = s.rounds in
      let within : length cs ≤ 15 = omega (arith, o.listed, few) in
      let long = length-replicate {A = ℕ} (3 * n) 0 in
      record {
        run =
            ap₂ (λ round challenges. record { start = s; mode = Small; next = next.Openings; round = round; challenges = challenges; messages = replicate 45 0; total = pos 0; claim = 0; fend = 0; gend = 0 })
            (sym o.listed) (ap (λ k. fifteen k cs) (sym o.listed) ∙ fifteen-array cs within)
            ∙ ap (λ messages. record { start = s; mode = Small; next = next.Openings; round = length cs; challenges = in_array 15 cs; messages = messages; total = pos 0; claim = 0; fend = 0; gend = 0 })
            (zeros-more (3 * n) 45 (omega (arith, few)) ∙ ap (λ k. replicate (3 * n) 0 ++ replicate (45 - k) 0) (sym long));
        pass = refl;
        fits = record {
          run = record {
            version = o.start.version;
            some = o.start.least;
            most = o.start.most;
            rounds = o.start.rounds;
            round = eq-eqb (length cs) n o.listed;
            total = le-leb 0 (limit p) (omega arith);
            given = long ∙ ap (λ k. 3 * k) (sym o.listed);
            last = λ e. absurd (true≢false (sym e));
            claim = positive p large;
            below = λ j. rw (zeros-at (3 * n) j) (positive p large);
            fend = positive p large;
            gend = positive p large;
          };
          pass = no_items p large s Small next.Openings Shut refl;
        };
      }

module _ (p : ℕ) (large : max_weight < p) (through : Bool) (T : Trip) (whole : length T.items ≡ T.start.items) (cs : List ℕ)
    (o : Opens T.start cs) where
  -- nothing is known of the buffers, and no proof file is written
  opens-agrees : (f g : List ℕ) → Agrees p through T.items (at_openings T.start cs f g) (opens_notes p large T.start cs o)
  opens-agrees f g =
      let never : T.start.plain ≡ true → ⊥ = λ plain. true≢false (sym plain ∙ o.numbers) in
      record {
        gives = λ q h. absurd (omega arith);
        places_f = λ j lo hi. absurd (omega arith);
        places_g = λ j lo hi. absurd (omega arith);
        total = λ plain w. absurd (never plain);
        messages = λ plain. absurd (never plain);
        ends = λ plain w. absurd (never plain);
        last = λ w. absurd (true≢false (sym w));
        claim = λ w. absurd (true≢false (sym w));
      }

  pub opens-going : (f g : List ℕ) → Going p large through T whole (openings_world T.start cs f g) (opens_notes p large T.start cs o)
  opens-going f g = record { faithful = opens-faithful p large T.start cs o f g; start = refl; agrees = opens-agrees f g }

-- WHEREVER A RUN BEGINS
module _ (p : ℕ) (large : max_weight < p) where
  abbrev pub begun_notes : (s : Start) (b : Begin) → CanBegin s b → Notes
  begun_notes s total h = no_notes
  begun_notes s (openings cs) h = opens_notes p large s cs h

  pub begun-faithful : (s : Start) (b : Begin) (h : CanBegin s b) (f g : List ℕ) → Faithful p large (begun s b f g) (begun_notes s b h)
  begun-faithful s total h f g = fresh-faithful p large s h f g
  begun-faithful s (openings cs) h f g = opens-faithful p large s cs h f g

  pub begun-going : (through : Bool) (T : Trip) (whole : length T.items ≡ T.start.items) (b : Begin) (h : CanBegin T.start b) (f g : List ℕ)
      → Going p large through T whole (begun T.start b f g) (begun_notes T.start b h)
  begun-going through T whole total h f g = fresh-going p large through T whole h f g
  begun-going through T whole (openings cs) h f g = opens-going p large through T whole cs h f g
