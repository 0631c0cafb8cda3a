-- What lists of a verifier's calls brought, and their verdicts: document 01's trip, and a twisted run of the pairs (1, 2), (3, 4) with
-- twist 3 and challenge 2, whose f is 1, 9.
use Rattle.std.specs.Prelude.{ℕ, ◌≡◌, refl, List, [], ◌∷◌, ◌++◌, pos, negsuc}
use Rattle.std.proofs.Math.Option.{none, some}
use Rattle.algebra.specs.Mod.{residue, add_mod, neg_mod, mul_mod}
use Rattle.field.specs.Integer.{image}
use Rattle.field.specs.Total.{in_limits}
use Rattle.wire.specs.Number.{num, bytes, num_at, signed, bits}
use Rattle.wire.specs.Header.{marked}
use Rattle.wire.specs.Proof.{all_below, read_proof, read_proof_of, numbers as file_numbers, proof_header, proof_file}
use Rattle.vector.specs.Rounds.{rounds_of}
use Rattle.vector.specs.Vector.{weight}
use Rattle.vector.specs.Slice.{overwrite, fifteen}
use Rattle.refusal.specs.Outcome.{Outcome, answered}
use Rattle.verifier.specs.Records.{yes, no}
use Rattle.verifier.specs.WellFormed.{turn_of, well_formed}
use Rattle.verifier.specs.Starts.{fresh_verifier}
use Rattle.verifier.specs.Sums.{entering, one_more}
use Rattle.verifier.specs.Claims.{message_of3, closed_with, passed_with, failed_now, hears, finds}
use Rattle.verifier.specs.Calls.{pass_open, give, close, close_claim, message_turn, all_reduced3, message, verdict_turn, verdict}
use Rattle.verifier.specs.ProofFile.{hears_next, hears_first, ends_agree, compares, after_file, proof}
use Rattle.item.specs.Version.{in_range}
use Rattle.item.specs.Mark.{is_mark}
use Rattle.item.specs.declared.Start.{Start}
use Rattle.item.specs.declared.Given.TheVariants.{Reading, Numbers}
use Rattle.item.specs.Start.{plain_start, twisted_start}
use Rattle.item.specs.Item.{parts_of}
use Rattle.calls.specs.declared.query.Query.TheVariants as query
use Rattle.calls.specs.QueryStep.{Said, ask}
use Rattle.calls.specs.QueryStep as said
use Rattle.calls.specs.Lists.{after}
use Rattle.calls.specs.QueryState.{Posed, plainly, fresh_hearing, heard, hears_on}
use Rattle.calls.specs.Verdict.{Brought, file_messages, fresh_account, account_on}

abbrev P : ℕ
P = 2147483647

-- what a list brought, and what one call more is told
abbrev brought_by : Start → List ℕ → List Posed → Brought
brought_by s cs qs = (after (account_on P s.rounds) (fresh_account s cs) qs).brought

abbrev told_next : Start → List ℕ → List Posed → Posed → Outcome Said
told_next s cs qs m = (heard P (after (hears_on P) (fresh_hearing s cs) qs) m).told

abbrev file : ℕ → Posed
file end =
    record {
      query = query.Proof;
      shown =
          record {
            file =
                proof_file 2 (negsuc 5099)
                (2147482047 ∷ 2147478297 ∷ 2147480147 ∷ 2147457147 ∷ 2147482997 ∷ 200 ∷ 2147483237 ∷ end ∷ []);
            values = [];
            logs = [];
          };
    }

-- a message too early, then the items, an item too many
abbrev trip_items : List Posed
trip_items =
    plainly (query.Message 1 2 3)
    ∷ plainly (query.Give (Reading (negsuc 179) 10))
    ∷ plainly (query.Give (Reading (negsuc 174) 20))
    ∷ plainly (query.Give (Reading (pos 40) 5))
    ∷ plainly (query.Give (Reading (pos 1) 1))
    ∷ []

abbrev trip_calls : ℕ → List Posed
trip_calls odd =
    trip_items
    ++ plainly (query.Close (negsuc 5099))
    ∷ plainly (query.Message 2147482047 2147478297 2147480147)
    ∷ plainly query.Verdict
    ∷ plainly (query.Message 2147457147 2147482997 odd)
    ∷ plainly (query.Message 1 2 3)
    ∷ []

pub trip-brought :
    brought_by (plain_start 3 1) (2 ∷ 3 ∷ []) (trip_calls 200)
    ≡ record {
      items = Reading (negsuc 179) 10 ∷ Reading (negsuc 174) 20 ∷ Reading (pos 40) 5 ∷ [];
      claim = 2147478547;
      messages = message_of3 2147482047 2147478297 2147480147 ∷ message_of3 2147457147 2147482997 200 ∷ [];
      ends = none;
    }
unfolding after ask give pass_open well_formed turn_of parts_of one_more entering fresh_verifier fifteen overwrite rounds_of weight image residue add_mod neg_mod mul_mod close closed_with in_limits message message_turn all_reduced3 hears passed_with failed_now verdict verdict_turn finds in_range is_mark
trip-brought = refl

pub trip-yes : told_next (plain_start 3 1) (2 ∷ 3 ∷ []) (trip_calls 200) (plainly query.Verdict) ≡ answered (said.finds yes)
unfolding after ask give pass_open well_formed turn_of parts_of one_more entering fresh_verifier fifteen overwrite rounds_of weight image residue add_mod neg_mod mul_mod close closed_with in_limits message message_turn all_reduced3 hears passed_with failed_now verdict verdict_turn finds in_range is_mark
trip-yes = refl

-- another last message does not pass
pub other_no : told_next (plain_start 3 1) (2 ∷ 3 ∷ []) (trip_calls 201) (plainly query.Verdict) ≡ answered (said.finds (no 1))
unfolding after ask give pass_open well_formed turn_of parts_of one_more entering fresh_verifier fifteen overwrite rounds_of weight image residue add_mod neg_mod mul_mod close closed_with in_limits message message_turn all_reduced3 hears passed_with failed_now verdict verdict_turn finds in_range is_mark
other_no = refl

-- the proof file brings the same, and its end values; others are no at n
pub file-brought :
    brought_by (plain_start 3 1) (2 ∷ 3 ∷ []) (trip_items ++ file 65 ∷ [])
    ≡ record {
      items = Reading (negsuc 179) 10 ∷ Reading (negsuc 174) 20 ∷ Reading (pos 40) 5 ∷ [];
      claim = 2147478547;
      messages = message_of3 2147482047 2147478297 2147480147 ∷ message_of3 2147457147 2147482997 200 ∷ [];
      ends = some (2147483237, 65);
    }
unfolding after file_messages ask give pass_open well_formed turn_of parts_of one_more entering fresh_verifier fifteen overwrite rounds_of weight image residue add_mod neg_mod mul_mod closed_with in_limits message message_turn all_reduced3 hears passed_with failed_now finds proof read_proof_of read_proof marked all_below num_at num bytes signed bits proof_header file_numbers hears_next hears_first ends_agree compares after_file in_range is_mark
file-brought = refl

pub file-no : told_next (plain_start 3 1) (2 ∷ 3 ∷ []) trip_items (file 66) ≡ answered (said.finds (no 2))
unfolding after ask give pass_open well_formed turn_of parts_of one_more entering fresh_verifier fifteen overwrite rounds_of weight image residue add_mod neg_mod mul_mod closed_with in_limits message message_turn all_reduced3 hears passed_with failed_now finds proof read_proof_of read_proof marked all_below num_at num bytes signed bits proof_header file_numbers hears_next hears_first ends_agree compares after_file in_range is_mark
file-no = refl

-- THE TWISTED RUN: its total 38, its message 2, 22, 36, its end values 19 and 10; a close of the other kind between
abbrev twisted_calls : ℕ → ℕ → List Posed
twisted_calls claim cross =
    plainly (query.Give (Numbers 1 2))
    ∷ plainly (query.Give (Numbers 3 4))
    ∷ plainly (query.Close (pos 38))
    ∷ plainly (query.CloseClaim claim)
    ∷ plainly (query.Message 2 cross 36)
    ∷ []

pub twisted-brought :
    brought_by (twisted_start 2 (3 ∷ [])) (2 ∷ []) (twisted_calls 38 22)
    ≡ record { items = Numbers 1 2 ∷ Numbers 3 4 ∷ []; claim = 38; messages = message_of3 2 22 36 ∷ []; ends = none }
unfolding after ask give pass_open well_formed turn_of parts_of one_more entering fresh_verifier fifteen overwrite rounds_of weight residue add_mod mul_mod close close_claim closed_with message message_turn all_reduced3 hears passed_with failed_now in_range is_mark
twisted-brought = refl

pub twisted-yes : told_next (twisted_start 2 (3 ∷ [])) (2 ∷ []) (twisted_calls 38 22) (plainly query.Verdict) ≡ answered (said.finds yes)
unfolding after ask give pass_open well_formed turn_of parts_of one_more entering fresh_verifier fifteen overwrite rounds_of weight residue add_mod mul_mod close close_claim closed_with message message_turn all_reduced3 hears passed_with failed_now verdict verdict_turn finds in_range is_mark
twisted-yes = refl

-- another claim fails at round 0, another cross number at n
pub twisted-no : told_next (twisted_start 2 (3 ∷ [])) (2 ∷ []) (twisted_calls 39 22) (plainly query.Verdict) ≡ answered (said.finds (no 0))
unfolding after ask give pass_open well_formed turn_of parts_of one_more entering fresh_verifier fifteen overwrite rounds_of weight residue add_mod mul_mod close close_claim closed_with message message_turn all_reduced3 hears passed_with failed_now verdict verdict_turn finds in_range is_mark
twisted-no = refl

pub twisted-last : told_next (twisted_start 2 (3 ∷ [])) (2 ∷ []) (twisted_calls 38 23) (plainly query.Verdict) ≡ answered (said.finds (no 1))
unfolding after ask give pass_open well_formed turn_of parts_of one_more entering fresh_verifier fifteen overwrite rounds_of weight residue add_mod mul_mod close close_claim closed_with message message_turn all_reduced3 hears passed_with failed_now verdict verdict_turn finds in_range is_mark
twisted-last = refl
