-- Document 01, "One trip, whole", at the verifier: readings -180, -175, 40; weights 10, 20, 5; challenges 2, 3; point 2.
use Rattle.std.specs.Prelude.{ℕ, zero, suc, ◌≡◌, refl, List, [], ◌∷◌, ℤ, pos, negsuc, set}
use Rattle.algebra.specs.Mod.{residue, add_mod, sub_mod, neg_mod, mul_mod, half_one, half_mod, inverse_in, inverse_mod, div_mod}
use Rattle.refusal.specs.Outcome.{answered, refused, refused_at}
use Rattle.field.specs.Integer.{image}
use Rattle.field.specs.Total.{in_limits}
use Rattle.vector.specs.Rounds.{rounds_of}
use Rattle.vector.specs.Vector.{Vector, at, weight}
use Rattle.vector.specs.Message.{Message}
use Rattle.vector.specs.Opening.{opens}
use Rattle.vector.specs.Slice.{overwrite, fifteen, every}
use Rattle.item.specs.declared.Given.TheVariants.{Reading}
use Rattle.item.specs.Version.{in_range}
use Rattle.item.specs.Mark.{is_mark}
use Rattle.item.specs.Item.{parts_of}
use Rattle.wire.specs.Number.{num, bytes, num_at, signed, bits}
use Rattle.wire.specs.Header.{marked}
use Rattle.wire.specs.Proof.{read_proof, read_proof_of, all_below, numbers, proof_header, proof_file}
use Rattle.verifier.specs.declared.Verifier.{Verifier}
use Rattle.verifier.specs.Records.{leaves, yes, no, holds, fails_g}
use Rattle.verifier.specs.WellFormed.{turn_of, well_formed}
use Rattle.verifier.specs.Starts.{fresh_verifier, plain_verifier, started_with, start_plain}
use Rattle.verifier.specs.Sums.{entering, one_more}
use Rattle.verifier.specs.Claims.{closed_with, passed_with, failed_now, hears, finds}
use Rattle.verifier.specs.Openings.{first_fault, opening_finds}
use Rattle.verifier.specs.Calls.{pass_open, give, close, message_turn, all_reduced3, message, verdict_turn, verdict, has_rounds, check_opening}
use Rattle.verifier.specs.ProofFile.{hears_next, hears_first, ends_agree, compares, after_file, proof, leaves_judged}
use Rattle.verifier.specs.Trips.{after_calls, given_items, reading_items, messages}

abbrev P : ℕ
P = 2147483647

abbrev readings : ℕ → ℤ
readings zero = negsuc 179
readings (suc zero) = negsuc 174
readings (suc (suc i)) = pos 40

abbrev weights : Vector
weights = at (10 ∷ 20 ∷ 5 ∷ [])

abbrev challenges : List ℕ
challenges = 2 ∷ 3 ∷ []

pub trip-starts : start_plain P 3 1 challenges ≡ answered (started_with (plain_verifier 3 1 challenges))
unfolding start_plain every rounds_of
trip-starts = refl

abbrev after_trip : Verifier
after_trip = after_calls (given_items P (reading_items readings weights)) (plain_verifier 3 1 challenges) 3

pub trip-ends : ◌≡◌ {A = ℕ × ℕ} (after_trip.fsum, after_trip.gsum) (2147483237, 65)
unfolding after_calls give pass_open well_formed turn_of parts_of in_range is_mark one_more entering fresh_verifier fifteen overwrite rounds_of weight image residue add_mod neg_mod mul_mod
trip-ends = refl

-- with the total -5100 and the trip's messages, whose claims go -5100, -26300, -26650: accepted
abbrev first : Message
first = record { even = 2147482047; cross = 2147478297; odd = 2147480147 }

abbrev second : Message
second = record { even = 2147457147; cross = 2147482997; odd = 200 }

abbrev trip_messages : Message → ℕ → Message
trip_messages last zero = first
trip_messages last (suc i) = last

abbrev closed_trip : ℤ → Verifier
closed_trip total = (leaves after_trip (close P after_trip total)).verifier

abbrev after_messages : ℤ → Message → Verifier
after_messages total last = after_calls (messages P (trip_messages last)) (closed_trip total) 2

pub trip-claims : ◌≡◌ {A = ℕ × ℕ} ((closed_trip (negsuc 5099)).claim, (after_messages (negsuc 5099) second).claim) (image P (negsuc 5099), image P (negsuc 26649))
unfolding after_calls give pass_open well_formed turn_of parts_of in_range is_mark one_more entering fresh_verifier fifteen overwrite rounds_of weight image residue add_mod neg_mod mul_mod close closed_with in_limits message message_turn all_reduced3 hears passed_with failed_now
trip-claims = refl

pub trip-accepted : verdict P (after_messages (negsuc 5099) second) ≡ answered yes
unfolding after_calls give pass_open well_formed turn_of parts_of in_range is_mark one_more entering fresh_verifier fifteen overwrite rounds_of weight image residue add_mod neg_mod mul_mod close closed_with in_limits message message_turn all_reduced3 hears passed_with failed_now verdict verdict_turn finds
trip-accepted = refl

-- another total fails at round 0, another second message at round 1, and another cross number of it at n
pub other_total : verdict P (after_messages (negsuc 5098) second) ≡ answered (no 0)
unfolding after_calls give pass_open well_formed turn_of parts_of in_range is_mark one_more entering fresh_verifier fifteen overwrite rounds_of weight image residue add_mod neg_mod mul_mod close closed_with in_limits message message_turn all_reduced3 hears passed_with failed_now verdict verdict_turn finds
other_total = refl

pub other_message : verdict P (after_messages (negsuc 5099) (record { even = 2147457147; cross = 2147482997; odd = 201 })) ≡ answered (no 1)
unfolding after_calls give pass_open well_formed turn_of parts_of in_range is_mark one_more entering fresh_verifier fifteen overwrite rounds_of weight image residue add_mod neg_mod mul_mod close closed_with in_limits message message_turn all_reduced3 hears passed_with failed_now verdict verdict_turn finds
other_message = refl

pub other_cross : verdict P (after_messages (negsuc 5099) (record { even = 2147457147; cross = 2147482998; odd = 200 })) ≡ answered (no 2)
unfolding after_calls give pass_open well_formed turn_of parts_of in_range is_mark one_more entering fresh_verifier fifteen overwrite rounds_of weight image residue add_mod neg_mod mul_mod close closed_with in_limits message message_turn all_reduced3 hears passed_with failed_now verdict verdict_turn finds
other_cross = refl

-- the same in a proof file
abbrev file_with : ℕ → List ℕ
file_with end =
    proof_file 2 (negsuc 5099)
    (2147482047 ∷ 2147478297 ∷ 2147480147 ∷ 2147457147 ∷ 2147482997 ∷ 200 ∷ 2147483237 ∷ end ∷ [])

pub file-accepted : (leaves_judged after_trip (proof P after_trip (file_with 65))).1 ≡ answered yes
unfolding after_calls give pass_open well_formed turn_of parts_of in_range is_mark one_more entering fresh_verifier fifteen overwrite rounds_of weight image residue add_mod neg_mod mul_mod proof read_proof_of read_proof marked num_at num signed in_limits all_below proof_header numbers bytes bits after_file hears_first hears_next compares ends_agree closed_with hears passed_with failed_now finds
file-accepted = refl

-- another end value of g is no at n, though the last claim is the product of the verifier's own
pub other_end : (leaves_judged after_trip (proof P after_trip (file_with 66))).1 ≡ answered (no 2)
unfolding after_calls give pass_open well_formed turn_of parts_of in_range is_mark one_more entering fresh_verifier fifteen overwrite rounds_of weight image residue add_mod neg_mod mul_mod proof read_proof_of read_proof marked num_at num signed in_limits all_below proof_header numbers bytes bits after_file hears_first hears_next compares ends_agree closed_with hears passed_with failed_now finds
other_end = refl

-- a file for one round more, and too short for it: 3 before 4
pub other_rounds : proof P after_trip (set (file_with 65) 5 3) ≡ refused 3
unfolding after_calls give pass_open well_formed turn_of parts_of in_range is_mark one_more entering fresh_verifier fifteen overwrite rounds_of weight image residue add_mod neg_mod mul_mod proof read_proof_of read_proof marked num_at num signed in_limits all_below proof_header numbers bytes bits
other_rounds = refl

-- before the items, whatever the file
pub file-early : proof P (plain_verifier 3 1 challenges) [] ≡ refused 8
unfolding pass_open well_formed turn_of fresh_verifier rounds_of proof
file-early = refl

-- "total .. 1,073,741,824 refused", and the same below zero
pub total-over : close P after_trip (pos 1073741824) ≡ refused 7
unfolding after_calls give pass_open well_formed turn_of parts_of in_range is_mark one_more entering fresh_verifier fifteen overwrite rounds_of close in_limits
total-over = refl

pub total-under : close P after_trip (negsuc 1073741823) ≡ refused 7
unfolding after_calls give pass_open well_formed turn_of parts_of in_range is_mark one_more entering fresh_verifier fifteen overwrite rounds_of close in_limits
total-under = refl

-- "weight .. 1,441 refused", with the item's index
pub weight-over : give P (plain_verifier 3 1 challenges) (Reading (pos 0) 1441) ≡ refused_at 5 0
unfolding give pass_open well_formed turn_of parts_of in_range is_mark fresh_verifier rounds_of
weight-over = refl

-- the trip's opening at 2
abbrev opening_with : ℕ → List ℕ
opening_with last = 2147483277 ∷ 330 ∷ 2147483277 ∷ 2147483197 ∷ 2147483037 ∷ 2147483237 ∷ 70 ∷ 2147483637 ∷ 70 ∷ 60 ∷ 40 ∷ last ∷ []

pub trip-opening : check_opening P (plain_verifier 3 1 challenges) 2 (opening_with 65) ≡ answered holds
unfolding check_opening has_rounds well_formed turn_of fresh_verifier fifteen overwrite rounds_of every opening_finds first_fault opens div_mod inverse_mod inverse_in half_mod half_one residue add_mod sub_mod neg_mod mul_mod
trip-opening = refl

pub other_opening : check_opening P (plain_verifier 3 1 challenges) 2 (opening_with 66) ≡ answered (fails_g 2)
unfolding check_opening has_rounds well_formed turn_of fresh_verifier fifteen overwrite rounds_of every opening_finds first_fault opens div_mod inverse_mod inverse_in half_mod half_one residue add_mod sub_mod neg_mod mul_mod
other_opening = refl
