-- A run of one item, at the customer's modulus: no messages and no openings; its answers, its verifier's two lists, and demand 3 at it.
use mathlib.Core.Path.{◌≡◌, refl, subst, ◌∙◌}
use mathlib.Core.Bool.{Bool, true, false}
use mathlib.Core.List.{List, [], ◌∷◌, ◌++◌}
use Prim.Native.Nat.{ℕ, zero, suc, ◌+◌, ◌<◌}
use native.Mathlib.Omega.{arith}
use lib.IntN.{negsuc}
use lib.ListN.{replicate, take}
use Rattle.algebra.specs.Mod.{residue, add_mod, neg_mod, mul_mod}
use Rattle.refusal.specs.Outcome.{answered}
use Rattle.field.specs.Integer.{image}
use Rattle.field.specs.Total.{in_limits, plus}
use Rattle.wire.specs.Number.{num, bytes, num_at, signed, bits}
use Rattle.wire.specs.Header.{marked}
use Rattle.wire.specs.Proof.{all_below, read_proof, read_proof_of, numbers as file_numbers, proof_header}
use Rattle.vector.specs.Rounds.{rounds_of}
use Rattle.vector.specs.Power.{size_in32}
use Rattle.vector.specs.Vector.{weight, sum}
use Rattle.vector.specs.Fold.{fold_with}
use Rattle.vector.specs.Slice.{overwrite, fifteen, every}
use Rattle.kernel.specs.Kernel.{horner_at, arrived, top_at, climb_from, evaluated_from, climbed, evaluated, meets_at, summed, settled, sums_after, stacks_fit, entered, streamed, padding_from, padding_below}
use Rattle.kernel.specs.Change.{left, placed, placed_all}
use Rattle.pass.specs.Checks.{item_checks}
use Rattle.prover.specs.Reply as reply
use Rattle.pass.specs.Formed.{pass_formed, turn_formed}
use Rattle.prover.specs.WellFormed.{well_formed}
use Rattle.pass.specs.Take.{summed_item}
use Rattle.pass.specs.Take.{enters_in, entered_in, placed_in, takes_in}
use Rattle.prover.specs.Take.{takes}
use Rattle.prover.specs.Calls.{give_call}
use Rattle.prover.specs.Open.{open_call}
use Rattle.pass.specs.Lent.{cleared}
use Rattle.prover.specs.Change.{to_full_call}
use Rattle.prover.specs.Close.{close_call}
use Rattle.prover.specs.Full.{ends_call}
use Rattle.prover.specs.Start.{started, fresh_run, start_plain}
use Rattle.verifier.specs.Reply as heard
use Rattle.verifier.specs.Records.{yes}
use Rattle.verifier.specs.WellFormed.{turn_of, well_formed as verifier_formed}
use Rattle.verifier.specs.Starts.{fresh_verifier}
use Rattle.verifier.specs.Sums.{entering as verifier_entering, one_more}
use Rattle.verifier.specs.Claims.{closed_with, passed_with, failed_now, hears, finds}
use Rattle.verifier.specs.Calls.{pass_open, give, close, verdict_turn, verdict}
use Rattle.verifier.specs.ProofFile.{hears_next, hears_first, ends_agree, compares, after_file, proof}
use Rattle.item.specs.Version.{in_range}
use Rattle.item.specs.Mark.{is_mark}
use Rattle.item.specs.declared.Given.TheVariants.{Reading}
use Rattle.item.specs.Item.{parts_of}
use Rattle.runs.specs.Trip.{Trip, trip_item, sum_of}
use Rattle.calls.specs.declared.query.Query.TheVariants as query
use Rattle.calls.specs.Lists.{after, each}
use Rattle.calls.specs.declared.Call.{Call}
use Rattle.calls.specs.Step.{Lent, step}
use Rattle.calls.specs.Meaning.{says, messages_of}
use Rattle.calls.specs.World.{Made, World, fresh_world, came, onward}
use Rattle.calls.specs.Begins.{total}
use Rattle.calls.specs.QueryStep.{ask}
use Rattle.calls.specs.QueryStep as said
use Rattle.calls.specs.QueryState.{Posed, plainly, Hearing, fresh_hearing, hears_on}
use Rattle.calls.specs.Given.{OpeningsChecked}
use Rattle.calls.specs.Starts.{Whole}
use Rattle.calls.specs.Proper.{ItemFits, Valid, AllNonzero, items_below, rounds_from, openings_from, Brings, proper_run}
use Rattle.calls.specs.Carried.{by_messages, by_file, writes_proof}
use Rattle.calls.specs.WholeList.{messages_from, whole_by_messages, whole_by_file}
use Rattle.calls.specs.Demand3.{AllRight, AllProper, AllBringRun, AllSay, AllAgreed}
use Rattle.calls.specs.Example.{replies_from}
use Rattle.calls.specs.QueryExample.{told_all}
use Rattle.calls.proofs.Demand3.{demand3_31}

abbrev P : ℕ
P = 2147483647

-- of version 2: the reading -18,000, which is -18.000 degrees, for 10 minutes
abbrev single : Trip
single = record { start = record { items = 1; rounds = 0; plain = true; version = 2; twists = replicate 15 0 }; items = Reading (negsuc 17999) 10 ∷ [] }

pub single-starts : start_plain 1 2 ≡ answered (started (fresh_run single.start))
unfolding start_plain rounds_of
single-starts = refl

single-whole : Whole single
unfolding rounds_of
single-whole = record { start = record { version = refl; least = omega arith; most = omega arith; rounds = refl }; items = refl }

single-valid : Valid P single
unfolding rounds_of in_limits sum_of in_range is_mark
single-valid = record { whole = single-whole; items = fits; total = λ e. refl }
  where
    fits : (i : ℕ) → i < 1 → ItemFits P single.start (trip_item single i)
    fits zero h = (refl, refl, omega arith)
    fits (suc i) h = absurd (omega arith)

-- one place, which holds something else at each call
abbrev single_idle : Call → ℕ → Lent
single_idle c j = record { f = (P + j) ∷ []; g = (P + j) ∷ []; file = [] }

-- no challenges, and a point at which nothing is asked
single-brings : (full : ℕ → Bool) → Brings P single full [] (2 ∷ []) single_idle
single-brings full = record { count = refl; challenges = none; points = one; room = λ i most e j. (omega arith, omega arith) }
  where
    none : AllNonzero P []
    none j h = absurd (omega arith)

    one : AllNonzero P (2 ∷ [])
    one zero h = refl
    one (suc j) h = absurd (omega arith)

abbrev single_world : World
single_world = fresh_world single.start (91 ∷ []) (81 ∷ [])

abbrev single_run : (ℕ → Bool) → List Made
single_run full = proper_run P single full [] (2 ∷ []) single_idle (91 ∷ []) (81 ∷ [])

-- its answers, in small mode
pub single-replies :
    replies_from single_world (single_run (λ i. false))
    ≡ says reply.opened
    ∷ says reply.taken
    ∷ says (reply.total (negsuc 179999))
    ∷ says reply.opened
    ∷ says reply.taken
    ∷ says (reply.ends 2147465647 10)
    ∷ []
unfolding each items_below rounds_from openings_from step ends_call give_call item_checks open_call close_call cleared to_full_call well_formed turn_formed pass_formed rounds_of in_limits size_in32 parts_of takes takes_in enters_in summed_item entered_in plus image residue neg_mod add_mod mul_mod sum fold_with overwrite every horner_at arrived top_at climb_from evaluated_from climbed evaluated meets_at summed settled sums_after stacks_fit entered streamed padding_from padding_below left placed placed_all placed_in in_range is_mark
single-replies = refl

-- and with a change before the ends
pub single-changed :
    replies_from single_world (single_run (λ i. true))
    ≡ says reply.opened
    ∷ says reply.taken
    ∷ says (reply.total (negsuc 179999))
    ∷ says reply.opened
    ∷ says reply.taken
    ∷ says reply.changed
    ∷ says (reply.ends 2147465647 10)
    ∷ []
unfolding each items_below rounds_from openings_from step ends_call give_call item_checks open_call close_call cleared to_full_call well_formed turn_formed pass_formed rounds_of in_limits size_in32 parts_of takes takes_in enters_in summed_item entered_in plus image residue neg_mod add_mod mul_mod sum fold_with overwrite every horner_at arrived top_at climb_from evaluated_from climbed evaluated meets_at summed settled sums_after stacks_fit entered streamed padding_from padding_below left placed placed_all placed_in in_range is_mark
single-changed = refl

-- its verifier's own list: the item, the close and the verdict; or the item and the file of 18 bytes
abbrev single_list : List Posed
single_list = plainly (query.Give (Reading (negsuc 17999) 10)) ∷ plainly (query.Close (negsuc 179999)) ∷ plainly query.Verdict ∷ []

abbrev single_file : List ℕ
single_file = 82 ∷ 86 ∷ 80 ∷ 1 ∷ 0 ∷ 0 ∷ 224 ∷ 64 ∷ 253 ∷ 255 ∷ 175 ∷ 185 ∷ 255 ∷ 127 ∷ 10 ∷ 0 ∷ 0 ∷ 0 ∷ []

abbrev single_by_file : List Posed
single_by_file =
    plainly (query.Give (Reading (negsuc 17999) 10)) ∷ (record { query = query.Proof; shown = record { file = single_file; values = []; logs = [] } }) ∷ []

pub single-list : whole_by_messages P single [] (2 ∷ []) ≡ single_list
unfolding messages_from sum_of is_mark
single-list = refl

pub single-file-list : whole_by_file P single [] (2 ∷ []) ≡ single_by_file
unfolding messages_of sum_of is_mark fold_with image residue neg_mod bytes bits file_numbers proof_header
single-file-list = refl

pub single-told :
    told_all (fresh_hearing single.start []) single_list
    ≡ answered (said.replies heard.taken) ∷ answered (said.replies heard.closed) ∷ answered (said.finds yes) ∷ []
unfolding each ask give pass_open verifier_formed turn_of parts_of one_more verifier_entering fresh_verifier fifteen overwrite rounds_of weight image residue add_mod neg_mod mul_mod close closed_with in_limits hears passed_with failed_now verdict verdict_turn finds in_range is_mark
single-told = refl

pub single-file-told : told_all (fresh_hearing single.start []) single_by_file ≡ answered (said.replies heard.taken) ∷ answered (said.finds yes) ∷ []
unfolding each ask give pass_open verifier_formed turn_of parts_of one_more verifier_entering fresh_verifier fifteen overwrite rounds_of weight image residue add_mod neg_mod mul_mod closed_with in_limits hears passed_with failed_now finds proof read_proof_of read_proof marked all_below num_at num bytes signed bits proof_header file_numbers hears_next hears_first ends_agree compares after_file in_range is_mark
single-file-told = refl

-- what demand 3 says of them, whatever the mode
abbrev single_hearing : Hearing
single_hearing = fresh_hearing single.start []

module _ (full : ℕ → Bool) where
  pub single-proper : AllProper P [] single single_world (single_run full)
  single-proper = demand3_31.proper single single-valid full [] (2 ∷ []) single_idle (single-brings full) (91 ∷ []) (81 ∷ [])

  pub single-right : AllRight P true single single_world (single_run full)
  single-right =
      demand3_31.answers true single single-whole total single-whole.start (91 ∷ []) (81 ∷ []) (single_run full) (single-proper.1 true)

  -- its verifier's own list is that one, agrees with all of it, and brings what the run gave; so the verdict is yes
  pub single-verifier : (by_messages P single single_world (single_run full) ≡ single_list)
      × AllAgreed P single_hearing single_list
      × AllBringRun P single single_world (single_run full) single_hearing single_list
  single-verifier =
      let v = demand3_31.verifier_proper single single-valid full [] (2 ∷ []) single_idle (single-brings full) (91 ∷ []) (81 ∷ []) in
      let same = v.0 ∙ single-list in
      (same, subst (AllAgreed P single_hearing) same v.1, subst (AllBringRun P single single_world (single_run full) single_hearing) same v.2)

  pub single-says : AllSay P single single_hearing single_list
  single-says =
      demand3_31.verifier_answers true single single-whole total single-whole.start (91 ∷ []) (81 ∷ []) (single_run full) (single-proper.1 true) [] refl single-proper.2 single_list
      single-verifier.2

  pub single-checked : (qs : List Posed) → OpeningsChecked P single single_world (single_run full) (after (hears_on P) single_hearing qs)
  single-checked =
      demand3_31.openings_checked true single single-whole total single-whole.start (91 ∷ []) (81 ∷ []) (single_run full) (single-proper.1 true) [] refl single-proper.2

  -- a file with room
  abbrev into : Lent
  into = record { f = []; g = []; file = replicate 18 0 }

  -- the run goes on to write it
  abbrev longer : List Made
  longer = single_run full ++ writes_proof into ∷ []

  abbrev wrote : List ℕ
  wrote = take 18 (came P (after (onward P) single_world (single_run full)) (writes_proof into)).lent.file

  pub single-filed : AllProper P [] single single_world longer
      × (by_file P single single_world (single_run full) wrote ≡ single_by_file)
      × AllAgreed P single_hearing single_by_file
      × AllBringRun P single single_world longer single_hearing single_by_file
  single-filed =
      let v = (demand3_31.verifier_proper single single-valid full [] (2 ∷ []) single_idle (single-brings full) (91 ∷ []) (81 ∷ [])).3 refl into (omega arith) in
      let same = v.1 ∙ single-file-list in
      (v.0, same, subst (AllAgreed P single_hearing) same v.2, subst (AllBringRun P single single_world longer single_hearing) same v.3)

  pub single-file-says : AllSay P single single_hearing single_by_file
  single-file-says =
      demand3_31.verifier_answers true single single-whole total single-whole.start (91 ∷ []) (81 ∷ []) longer (single-filed.0.1 true) [] refl single-filed.0.2 single_by_file
      single-filed.3
