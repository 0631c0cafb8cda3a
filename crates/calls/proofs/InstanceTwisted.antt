-- A twisted run that changes its mode in the middle, at the customer's modulus: its calls, its answers, its verifier's list, and demand 3 at it.
use mathlib.Core.Path.{◌≡◌, refl, sym, subst, ◌∙◌}
use mathlib.Core.Bool.{Bool, true, false, true≢false}
use mathlib.Core.List.{List, [], ◌∷◌, ◌++◌}
use Prim.Native.Nat.{ℕ, zero, suc, ◌+◌, ◌<◌}
use native.Mathlib.Omega.{arith}
use lib.ListN.{length, replicate}
use Rattle.algebra.specs.Mod.{residue, add_mod, sub_mod, neg_mod, mul_mod, half_one, half_mod, inverse_in, inverse_mod, div_mod}
use Rattle.refusal.specs.Outcome.{answered}
use Rattle.field.specs.Integer.{image}
use Rattle.field.specs.Total.{in_limits, plus}
use Rattle.vector.specs.Rounds.{rounds_of}
use Rattle.vector.specs.Power.{size_in32}
use Rattle.vector.specs.Vector.{weight, sum}
use Rattle.vector.specs.Fold.{fold_with}
use Rattle.vector.specs.Opening.{triple_values, opens}
use Rattle.vector.specs.Slice.{overwrite, fold_slice, message_slice, fifteen, every}
use Rattle.kernel.specs.Kernel.{horner_at, arrived, top_at, climb_from, evaluated_from, climbed, evaluated, meets_at, summed, settled, sums_after, stacks_fit, entered, streamed, padding_from, padding_below}
use Rattle.kernel.specs.Change.{left, placed, placed_all}
use Rattle.pass.specs.Checks.{item_checks}
use Rattle.prover.specs.Reply as reply
use Rattle.pass.specs.Formed.{pass_formed, turn_formed}
use Rattle.prover.specs.WellFormed.{well_formed}
use Rattle.pass.specs.Values.{in_ninety, values_of}
use Rattle.pass.specs.Take.{summed_item}
use Rattle.pass.specs.Take.{enters_in, entered_in, placed_in, takes_in}
use Rattle.prover.specs.Take.{takes}
use Rattle.prover.specs.Calls.{give_call}
use Rattle.prover.specs.Open.{open_call, open_at_call}
use Rattle.pass.specs.Lent.{cleared}
use Rattle.prover.specs.Change.{to_full_call, to_small_call}
use Rattle.prover.specs.Close.{close_call}
use Rattle.prover.specs.Full.{message_given, message_call, ends_call}
use Rattle.prover.specs.Challenge.{challenged_full, challenge_call}
use Rattle.prover.specs.Opening.{opening_given, opening_call}
use Rattle.prover.specs.Start.{started, fresh_run, start_twisted}
use Rattle.verifier.specs.Reply as heard
use Rattle.verifier.specs.Records.{yes, holds}
use Rattle.verifier.specs.WellFormed.{turn_of, well_formed as verifier_formed}
use Rattle.verifier.specs.Starts.{fresh_verifier}
use Rattle.verifier.specs.Sums.{entering as verifier_entering, one_more}
use Rattle.verifier.specs.Claims.{closed_with, passed_with, failed_now, hears, finds}
use Rattle.verifier.specs.Openings.{first_fault, opening_finds}
use Rattle.verifier.specs.Calls.{pass_open, give, close_claim, message_turn, all_reduced3, message, verdict_turn, verdict, has_rounds, check_opening}
use Rattle.item.specs.Version.{in_range}
use Rattle.item.specs.Mark.{is_mark}
use Rattle.item.specs.declared.Given.TheVariants.{Numbers}
use Rattle.item.specs.Item.{parts_of}
use Rattle.runs.specs.Trip.{Trip, trip_item}
use Rattle.calls.specs.declared.query.Query.TheVariants as query
use Rattle.calls.specs.Lists.{after, each}
use Rattle.calls.specs.declared.Call.{Call}
use Rattle.calls.specs.Step.{Lent, step}
use Rattle.calls.specs.Meaning.{Answer, says}
use Rattle.calls.specs.World.{Made, World, fresh_world, came, onward}
use Rattle.calls.specs.Begins.{total}
use Rattle.calls.specs.Claim.{amid_rounds}
use Rattle.calls.specs.QueryStep.{ask}
use Rattle.calls.specs.QueryStep as said
use Rattle.calls.specs.QueryState.{Posed, plainly, Hearing, fresh_hearing, hears_on}
use Rattle.calls.specs.Given.{OpeningsChecked}
use Rattle.calls.specs.Starts.{Whole}
use Rattle.calls.specs.Proper.{ItemFits, Valid, AllNonzero, items_below, rounds_from, openings_from, Brings, proper_run}
use Rattle.calls.specs.Carried.{by_messages}
use Rattle.calls.specs.WholeList.{messages_from, whole_by_messages}
use Rattle.calls.specs.Demand3.{AllKept, AllTake, AllRight, AllProper, AllBringRun, AllSay, AllAgreed}
use Rattle.calls.specs.Example.{replies_from}
use Rattle.calls.specs.QueryExample.{told_all}
use Rattle.calls.proofs.Longer.{along-first}
use Rattle.calls.proofs.Demand3.{demand3_31}

abbrev P : ℕ
P = 2147483647

-- A TWISTED RUN of the pairs (3, 4), (6, 7), (8, 9) with twists 5, 7: f is 3, 30, 56, 0; challenges 2, 3; point 3; it changes to full mode
-- before round 1
abbrev twisted : Trip
twisted =
    record {
      start = record { items = 3; rounds = 2; plain = false; version = 0; twists = 5 ∷ 7 ∷ replicate 13 0 };
      items = Numbers 3 4 ∷ Numbers 6 7 ∷ Numbers 8 9 ∷ [];
    }

pub twisted-starts : start_twisted P 3 (5 ∷ 7 ∷ []) ≡ answered (started (fresh_run twisted.start))
unfolding start_twisted rounds_of fifteen overwrite every
twisted-starts = refl

twisted-whole : Whole twisted
unfolding rounds_of
twisted-whole = record { start = record { version = refl; least = omega arith; most = omega arith; rounds = refl }; items = refl }

twisted-valid : Valid P twisted
unfolding rounds_of
twisted-valid = record { whole = twisted-whole; items = fits; total = λ e. absurd (true≢false (sym e)) }
  where
    fits : (i : ℕ) → i < 3 → ItemFits P twisted.start (trip_item twisted i)
    fits zero h = (refl, omega arith, omega arith)
    fits (suc zero) h = (refl, omega arith, omega arith)
    fits (suc (suc zero)) h = (refl, omega arith, omega arith)
    fits (suc (suc (suc i))) h = absurd (omega arith)

-- round 0 and the ends in full mode, round 1 and the openings in small mode
abbrev twisted_modes : ℕ → Bool
twisted_modes zero = true
twisted_modes (suc zero) = false
twisted_modes (suc (suc zero)) = true
twisted_modes (suc (suc (suc i))) = false

-- four places, which hold something else at each call
abbrev twisted_idle : Call → ℕ → Lent
twisted_idle c j = record { f = replicate 4 (P + j); g = replicate 4 (P + j); file = [] }

twisted-brings : Brings P twisted twisted_modes (2 ∷ 3 ∷ []) (3 ∷ []) twisted_idle
twisted-brings = record { count = refl; challenges = two; points = one; room = λ i most e j. (omega arith, omega arith) }
  where
    two : AllNonzero P (2 ∷ 3 ∷ [])
    two zero h = refl
    two (suc zero) h = refl
    two (suc (suc j)) h = absurd (omega arith)

    one : AllNonzero P (3 ∷ [])
    one zero h = refl
    one (suc j) h = absurd (omega arith)

abbrev twisted_world : World
twisted_world = fresh_world twisted.start [] []

abbrev twisted_run : List Made
twisted_run = proper_run P twisted twisted_modes (2 ∷ 3 ∷ []) (3 ∷ []) twisted_idle [] []

abbrev twisted_opening : List ℕ
twisted_opening = 597 ∷ 417 ∷ 567 ∷ 231 ∷ 2147483542 ∷ 231 ∷ 106 ∷ 64 ∷ 99 ∷ 45 ∷ 2147483638 ∷ 45 ∷ []

abbrev items3 : List Answer
items3 = says reply.opened ∷ says reply.taken ∷ says reply.taken ∷ says reply.taken ∷ []

-- its answers
pub twisted-replies :
    replies_from twisted_world twisted_run
    ≡ items3
    ++ (says (reply.field_total 726) ∷ [])
    ++ items3
    ++ (says reply.changed ∷ says (reply.message 516 141 210) ∷ says reply.challenged ∷ says reply.changed ∷ [])
    ++ items3
    ++ (says (reply.message 1134 1575 504) ∷ says reply.challenged ∷ [])
    ++ items3
    ++ (says reply.changed ∷ says (reply.ends 231 45) ∷ says reply.changed ∷ [])
    ++ items3
    ++ ((record { answer = answered reply.opening; values = in_ninety 2 twisted_opening }) ∷ [])
unfolding each items_below rounds_from openings_from step message_given message_call ends_call give_call item_checks open_call open_at_call close_call challenged_full challenge_call cleared to_full_call to_small_call opening_given opening_call well_formed turn_formed pass_formed rounds_of in_limits size_in32 parts_of takes takes_in enters_in weight summed_item entered_in plus image residue neg_mod add_mod mul_mod sum fold_with overwrite fold_slice message_slice values_of triple_values every horner_at arrived top_at climb_from evaluated_from climbed evaluated meets_at summed settled sums_after stacks_fit entered streamed padding_from padding_below left placed placed_all placed_in in_range is_mark
twisted-replies = refl

-- the claim after each call: 726; 516 + 141·2 + 210·4; 1134 + 1575·3 + 504·9, which is 231·45
pub twisted-claims : each (onward P) (λ w m. (came P w m).run.claim) twisted_world twisted_run ≡ replicate 4 0 ++ replicate 7 726 ++ replicate 7 1638 ++ replicate 13 10395
unfolding each items_below rounds_from openings_from step message_given message_call ends_call give_call item_checks open_call open_at_call close_call challenged_full challenge_call cleared to_full_call to_small_call opening_given opening_call well_formed turn_formed pass_formed rounds_of in_limits size_in32 parts_of takes takes_in enters_in weight summed_item entered_in plus image residue neg_mod add_mod mul_mod sum fold_with overwrite fold_slice message_slice values_of triple_values every horner_at arrived top_at climb_from evaluated_from climbed evaluated meets_at summed settled sums_after stacks_fit entered streamed padding_from padding_below left placed placed_all placed_in in_range is_mark
twisted-claims = refl

-- its verifier's own list: the items, the claim, two messages, the verdict and a check
abbrev twisted_list : List Posed
twisted_list =
    plainly (query.Give (Numbers 3 4))
    ∷ plainly (query.Give (Numbers 6 7))
    ∷ plainly (query.Give (Numbers 8 9))
    ∷ plainly (query.CloseClaim 726)
    ∷ plainly (query.Message 516 141 210)
    ∷ plainly (query.Message 1134 1575 504)
    ∷ plainly query.Verdict
    ∷ (record { query = query.CheckOpening 3; shown = record { file = []; values = twisted_opening; logs = [] } })
    ∷ []

pub twisted-list : whole_by_messages P twisted (2 ∷ 3 ∷ []) (3 ∷ []) ≡ twisted_list
unfolding messages_from triple_values rounds_of residue neg_mod add_mod mul_mod sum fold_with weight
twisted-list = refl

pub twisted-told :
    told_all (fresh_hearing twisted.start (2 ∷ 3 ∷ [])) twisted_list
    ≡ answered (said.replies heard.taken)
    ∷ answered (said.replies heard.taken)
    ∷ answered (said.replies heard.taken)
    ∷ answered (said.replies heard.closed)
    ∷ answered (said.replies heard.passed)
    ∷ answered (said.replies heard.passed)
    ∷ answered (said.finds yes)
    ∷ answered (said.opens holds)
    ∷ []
unfolding each ask give pass_open verifier_formed turn_of parts_of one_more verifier_entering fresh_verifier fifteen overwrite rounds_of weight image residue add_mod neg_mod mul_mod close_claim closed_with in_limits message message_turn all_reduced3 hears passed_with failed_now verdict verdict_turn finds check_opening has_rounds every opening_finds first_fault opens div_mod inverse_mod inverse_in half_mod half_one sub_mod in_range is_mark
twisted-told = refl

-- the verifier's claims
pub twisted-heard : each (hears_on P) (λ h q. (hears_on P h q).verifier.claim) (fresh_hearing twisted.start (2 ∷ 3 ∷ [])) twisted_list
    ≡ replicate 3 0 ++ 726 ∷ 1638 ∷ replicate 3 10395
unfolding each ask give pass_open verifier_formed turn_of parts_of one_more verifier_entering fresh_verifier fifteen overwrite rounds_of weight image residue add_mod neg_mod mul_mod close_claim closed_with in_limits message message_turn all_reduced3 hears passed_with failed_now verdict verdict_turn finds check_opening has_rounds every opening_finds first_fault opens div_mod inverse_mod inverse_in half_mod half_one sub_mod in_range is_mark
twisted-heard = refl

-- what demand 3 says of them
pub twisted-proper : AllProper P (2 ∷ 3 ∷ []) twisted twisted_world twisted_run
twisted-proper = demand3_31.proper twisted twisted-valid twisted_modes (2 ∷ 3 ∷ []) (3 ∷ []) twisted_idle twisted-brings [] []

pub twisted-right : AllRight P true twisted twisted_world twisted_run
twisted-right =
    demand3_31.answers true twisted twisted-whole total twisted-whole.start [] [] twisted_run (twisted-proper.1 true)

abbrev twisted_hearing : Hearing
twisted_hearing = fresh_hearing twisted.start (2 ∷ 3 ∷ [])

-- its verifier's own list is that one, agrees with all of it, and brings what the run gave
pub twisted-verifier : (by_messages P twisted twisted_world twisted_run ≡ twisted_list)
    × AllAgreed P twisted_hearing twisted_list
    × AllBringRun P twisted twisted_world twisted_run twisted_hearing twisted_list
twisted-verifier =
    let v = demand3_31.verifier_proper twisted twisted-valid twisted_modes (2 ∷ 3 ∷ []) (3 ∷ []) twisted_idle twisted-brings [] [] in
    let same = v.0 ∙ twisted-list in (same, subst (AllAgreed P twisted_hearing) same v.1, subst (AllBringRun P twisted twisted_world twisted_run twisted_hearing) same v.2)

-- so every message passes and the verdict is yes
pub twisted-says : AllSay P twisted twisted_hearing twisted_list
twisted-says =
    demand3_31.verifier_answers true twisted twisted-whole total twisted-whole.start [] [] twisted_run (twisted-proper.1 true) (2 ∷ 3 ∷ []) refl twisted-proper.2 twisted_list
    twisted-verifier.2

-- and every check of the run's openings is yes, before the list, after it or after any other
pub twisted-checked : (qs : List Posed) → OpeningsChecked P twisted twisted_world twisted_run (after (hears_on P) twisted_hearing qs)
twisted-checked =
    demand3_31.openings_checked true twisted twisted-whole total twisted-whole.start [] [] twisted_run (twisted-proper.1 true) (2 ∷ 3 ∷ []) refl twisted-proper.2

-- and verifier and run hold the same claim at the same place, wherever both lists are broken off
pub twisted-same : (ms ns : List Made) → ms ++ ns ≡ twisted_run → (qs rs : List Posed) → qs ++ rs ≡ twisted_list
    → (let x : World = after (onward P) twisted_world ms in
    let h : Hearing = after (hears_on P) twisted_hearing qs in
    amid_rounds x.state.turn.next ≡ true → h.state.closed ≡ true → h.state.round ≡ length x.state.turn.challenges
    → h.verifier.claim ≡ x.run.claim)
twisted-same ms ns e qs rs d =
    demand3_31.claims_alike true twisted twisted-whole total twisted-whole.start [] [] ms ns
    (subst (AllKept P true twisted twisted_world) (sym e) (twisted-proper.1 true)) (2 ∷ 3 ∷ []) refl
    (subst (AllTake P (2 ∷ 3 ∷ []) twisted_world) (sym e) twisted-proper.2) qs
    (subst (λ run. AllBringRun P twisted twisted_world run twisted_hearing qs) (sym e)
    (along-first (hears_on P) _ twisted_hearing qs rs (subst (AllBringRun P twisted twisted_world twisted_run twisted_hearing) (sym d) twisted-verifier.2)))
