-- A WHOLE RUN IS ANSWERED: every call of a proper list, whichever of its steps are made in full mode.
use mathlib.Core.Path.{◌≡◌, refl, sym, ap, subst}
use mathlib.Core.Bool.{Bool, true, false, cond, true≢false}
use mathlib.Core.List.{List, [], ◌∷◌, ◌++◌, append_assoc, append-nil}
use Prim.Native.Nat.{ℕ, suc, ◌+◌, ◌<◌, ◌≤◌}
use native.Mathlib.Omega.{arith}
use lib.Dec.{ltb}
use lib.ListN.{length}
use borrow.Author.Tests.{lt-ltb, le-ltb}
use Rattle.refusal.specs.Limit.{max_weight}
use Rattle.vector.specs.Slice.{is_nonzero}
use Rattle.phase.specs.declared.Mode.{Mode}
use Rattle.phase.specs.declared.Mode.TheVariants.{Small, Full}
use Rattle.phase.specs.declared.Next.{Next}
use Rattle.phase.specs.declared.Next.TheVariants as next
use Rattle.phase.specs.declared.Kind.TheVariants.{Shut}
use Rattle.phase.specs.Cases.{waits}
use Rattle.phase.specs.Order.{round_or_ends}
use Rattle.runs.specs.Trip.{Trip}
use Rattle.calls.specs.declared.Call.{Call}
use Rattle.calls.specs.declared.Call.TheVariants as call
use Rattle.calls.specs.Step.{Lent, lending}
use Rattle.calls.specs.Table.{changes_next}
use Rattle.calls.specs.Lists.{after}
use Rattle.calls.specs.World.{World, fresh_world, onward}
use Rattle.calls.specs.Proper.{Valid, AllNonzero, whole_pass, answer_by, change_to, before, change_before, rounds_from, openings_from, end_calls, opening_calls, whole_run, Host, Room, Brings, proper_run}
use Rattle.calls.specs.Demand3.{AllAnswered, AllKept, AllRight}
use Rattle.calls.proofs.Records.{no_notes}
use Rattle.calls.proofs.Answers.{all_right, fresh-going}
use Rattle.calls.proofs.LiveWorld.{Lives, lives_answered, lives_kept, lives_ended, Standing}
use Rattle.calls.proofs.LivePass.{total-lives, message-lives, ends-lives, opening-lives, change-lives}
use Rattle.calls.proofs.LiveFull.{challenge-lives, full_message_lives, full_ends_lives, full_opening_lives, return_lives}

abbrev mode_if : Bool → Mode
mode_if full = cond full Full Small

module _ (p : ℕ) (large : max_weight < p) (through : Bool) (T : Trip) (idle : Call → ℕ → Lent) (valid : Valid p T) where
  abbrev n : ℕ
  n = T.start.rounds

  abbrev Roomy : Type 0
  Roomy = (j : ℕ) → Room T (idle call.ToFull j)

  -- between two steps
  abbrev Before : Bool → Next → ℕ → Host → Type 0
  Before full t i w = Standing p large through T idle valid (mode_if full) t i Shut 0 w

  module _ (ys : List Call) where
    abbrev Then : Bool → Next → ℕ → Type 0
    Then full t i = (w : Host) → Before full t i w → Lives p T idle through w ys

    -- FROM ONE MODE TO ANOTHER
    change-live : (was full : Bool) → (full ≡ true → Roomy) → (t : Next) → changes_next t n ≡ true → (i : ℕ) (w : Host) → Before was t i w → Then full t i
        → Lives p T idle through w (change_to T was full ++ ys)
    change-live false true room t turn i w st on = change-lives p large through T idle valid i w ys t turn (room refl) st on
    change-live true false room t turn i w st on = return_lives p large through T idle valid i w ys t turn st on
    change-live false false room t turn i w st on = on w st
    change-live true true room t turn i w st on = on w st

    -- THE ANSWERS, in either mode
    message-live : (full : Bool) (i : ℕ) (w : Host) → Before full next.Message i w → Then full next.Challenge i
        → Lives p T idle through w (answer_by T full call.OpenPass call.Message ++ ys)
    message-live true i w st on = full_message_lives p large through T idle valid i w ys st on
    message-live false i w st on = message-lives p large through T idle valid i w ys st on

    ends-live : (full : Bool) (i : ℕ) (w : Host) → Before full next.Ends i w → Then full next.Openings i
        → Lives p T idle through w (answer_by T full call.OpenPass call.Ends ++ ys)
    ends-live true i w st on = full_ends_lives p large through T idle valid i w ys st on
    ends-live false i w st on = ends-lives p large through T idle valid i w ys st on

    opening-live : (full : Bool) (b : ℕ) → is_nonzero p b ≡ true → ltb 0 n ≡ true → (i : ℕ) (w : Host) → Before full next.Openings i w → Then full next.Openings i
        → Lives p T idle through w (answer_by T full (call.OpenAt b) (call.Opening b) ++ ys)
    opening-live true b ok some i w st on = full_opening_lives p large through T idle valid i w ys b ok some st on
    opening-live false b ok some i w st on = opening-lives p large through T idle valid i w ys b ok some st on

  regroup : (w : Host) (xs ys zs : List Call) → Lives p T idle through w (xs ++ (ys ++ zs)) → Lives p T idle through w ((xs ++ ys) ++ zs)
  regroup w xs ys zs = subst (Lives p T idle through w) (sym (append_assoc xs ys zs))

  regroup_all : (w : Host) (us xs ys zs : List Call) → Lives p T idle through w (us ++ (xs ++ (ys ++ zs))) → Lives p T idle through w (((us ++ xs) ++ ys) ++ zs)
  regroup_all w us xs ys zs h = regroup w (us ++ xs) ys zs (regroup w us xs (ys ++ zs) h)

  -- WHICHEVER STEPS ARE MADE IN FULL MODE, up to the last that may come
  module _ (full : ℕ → Bool) (last : ℕ) (room : (i : ℕ) → i ≤ last → full i ≡ true → Roomy) where
    -- THE ROUNDS
    rounds-live : (cs : List ℕ) → AllNonzero p cs → (i : ℕ) → i + length cs ≡ n → n ≤ last → (ys : List Call) (w : Host) → Before (before T full i) (round_or_ends i n) i w
        → ((w : Host) → Before (before T full n) next.Ends n w → Lives p T idle through w ys) → Lives p T idle through w (rounds_from T full i cs ++ ys)
    unfolding rounds_from
    rounds-live [] ok i e most ys w st on =
        let all : i ≡ n = omega arith in
        on w (subst (λ t. Before (before T full n) t n w) (ap (λ b. cond b next.Message next.Ends) (le-ltb n n (omega arith))) (subst (λ i. Before (before T full i) (round_or_ends i n) i w) all st))
    rounds-live (c ∷ cs) ok i e most ys w st on =
        let more : round_or_ends i n ≡ next.Message = ap (λ b. cond b next.Message next.Ends) (lt-ltb i n (omega arith)) in
        let rest : List Call = rounds_from T full (suc i) cs in
        let asks : List Call = answer_by T (full i) call.OpenPass call.Message in
        regroup_all w (change_before T full i) asks (call.Challenge c ∷ rest) ys
        (change-live (asks ++ (call.Challenge c ∷ rest ++ ys)) (before T full i) (full i) (room i (omega arith)) next.Message refl i w (subst (λ t. Before (before T full i) t i w) more st)
        (λ w st. message-live (call.Challenge c ∷ rest ++ ys) (full i) i w st
        (λ w st. challenge-lives p large through T idle valid (mode_if (full i)) i w st c (ok 0 (omega arith)) (rest ++ ys)
        (λ w st. rounds-live cs (λ j l. ok (suc j) (omega arith)) (suc i) (omega arith) most ys w st on))))

    -- THE OPENINGS
    openings-live : ltb 0 n ≡ true → (bs : List ℕ) → AllNonzero p bs → (i : ℕ) → i + length bs ≤ last → (w : Host) → Before (before T full i) next.Openings n w
        → Lives p T idle through w (openings_from T full i bs)
    unfolding openings_from Lives
    openings-live some [] ok i most w st =
        subst (Lives p T idle through w) (append-nil (change_before T full i))
        (change-live [] (before T full i) (full i) (room i (omega arith)) next.Openings some n w st (λ w st. ap (waits next.Openings) st.next))
    openings-live some (b ∷ bs) ok i most w st =
        let asks : List Call = answer_by T (full i) (call.OpenAt b) (call.Opening b) in
        regroup w (change_before T full i) asks (openings_from T full (suc i) bs)
        (change-live (asks ++ openings_from T full (suc i) bs) (before T full i) (full i) (room i (omega arith)) next.Openings some n w st
        (λ w st. opening-live (openings_from T full (suc i) bs) (full i) b (ok 0 (omega arith)) some n w st
        (λ w st. openings-live some bs (λ j l. ok (suc j) (omega arith)) (suc i) (omega arith) w st)))

    pub after-ends : (bs : List ℕ) → AllNonzero p bs → suc n + length bs ≤ last → (w : Host) → Before (full n) next.Openings n w → Lives p T idle through w (opening_calls T full bs)
    unfolding Lives
    after-ends bs ok most w st = by (ltb 0 n) refl
      where
        by : (b : Bool) → ltb 0 n ≡ b → Lives p T idle through w (cond b (openings_from T full (suc n) bs) [])
        by true some = openings-live some bs ok (suc n) most w st
        by false none = ap (waits next.Openings) st.next

    run-lives : (cs bs : List ℕ) → length cs ≡ n → AllNonzero p cs → AllNonzero p bs → suc n + length bs ≤ last → (w : Host) → Before false next.Total 0 w
        → Lives p T idle through w (whole_run T full cs bs)
    run-lives cs bs count okc okb most w st =
        let asks : List Call = answer_by T (full n) call.OpenPass call.Ends in
        let last : List Call = opening_calls T full bs in
        regroup_all w (whole_pass T call.OpenPass) (rounds_from T full 0 cs) (end_calls T full) last
        (total-lives p large through T idle valid 0 w (rounds_from T full 0 cs ++ (end_calls T full ++ last)) st
        (λ w st. rounds-live cs okc 0 (omega arith) (omega arith) (end_calls T full ++ last) w st
        (λ w st. regroup w (change_before T full n) asks last
        (change-live (asks ++ last) (before T full n) (full n) (room n (omega arith)) next.Ends refl n w st
        (λ w st. ends-live last (full n) n w st (after-ends bs okb most))))))

-- THE THEOREM
module _ (p : ℕ) (large : max_weight < p) (T : Trip) (valid : Valid p T) (full : ℕ → Bool) (cs bs : List ℕ) (idle : Call → ℕ → Lent) (brings : Brings p T full cs bs idle)
    (f g : List ℕ) where
  abbrev fresh : World
  fresh = fresh_world T.start f g

  abbrev begin : Host
  begin = record { world = fresh; count = 0; lent = lending f g [] }

  lives : (through : Bool) → Lives p T idle through begin (whole_run T full cs bs)
  lives through =
      run-lives p large through T idle valid full (suc T.start.rounds + length bs) brings.room cs bs brings.count brings.challenges brings.points (omega arith) begin
      (record {
        past = no_notes;
        going = fresh-going p large through T valid.whole.items valid.whole.start f g;
        mode = refl;
        next = refl;
        round = refl;
        kind = refl;
        taken = refl;
        room = λ held-so. absurd (true≢false (sym held-so));
        left = λ held-so. absurd (true≢false (sym held-so));
      })

  pub proper-answered : AllAnswered p fresh (proper_run p T full cs bs idle f g)
  proper-answered = lives_answered p T idle true begin (whole_run T full cs bs) (lives true)

  -- it is a list of which the two layers speak
  pub proper-kept : (through : Bool) → AllKept p through T fresh (proper_run p T full cs bs idle f g)
  proper-kept through = lives_kept p T idle through begin (whole_run T full cs bs) (lives through)

  -- and it ends after the ends
  pub proper-ended : waits next.Openings (after (onward p) fresh (proper_run p T full cs bs idle f g)).state.turn.next ≡ true
  proper-ended = lives_ended p T idle true begin (whole_run T full cs bs) (lives true)

  -- so each of its answers is the meaning
  pub proper-right : (through : Bool) → AllRight p through T fresh (proper_run p T full cs bs idle f g)
  proper-right through =
      all_right p large through T valid.whole.items fresh (fresh-going p large through T valid.whole.items valid.whole.start f g)
      (proper_run p T full cs bs idle f g) (proper-kept through)
