-- Document 01, "One trip, whole", as lists of a verifier's calls: readings -180, -175, 40; weights 10, 20, 5; challenges 2, 3; point 2.
use Rattle.std.specs.Prelude.{ℕ, ◌≡◌, refl, true, List, [], ◌∷◌, pos, negsuc, replicate}
use Rattle.algebra.specs.Mod.{residue, add_mod, sub_mod, neg_mod, mul_mod, half_one, half_mod, inverse_in, inverse_mod, div_mod}
use Rattle.field.specs.Integer.{image}
use Rattle.field.specs.Total.{in_limits}
use Rattle.wire.specs.Number.{num, bytes, num_at, signed, bits}
use Rattle.wire.specs.Header.{marked}
use Rattle.wire.specs.Proof.{all_below, read_proof, read_proof_of, numbers, proof_header, proof_file}
use Rattle.vector.specs.Rounds.{rounds_of}
use Rattle.vector.specs.Vector.{sum, weight}
use Rattle.vector.specs.Opening.{opens}
use Rattle.vector.specs.Slice.{overwrite, fifteen, every}
use Rattle.verifier.specs.WellFormed.{turn_of, well_formed}
use Rattle.verifier.specs.Starts.{fresh_verifier}
use Rattle.verifier.specs.Reply as reply
use Rattle.verifier.specs.Records.{yes, no, holds}
use Rattle.verifier.specs.Sums.{entering, one_more}
use Rattle.verifier.specs.Claims.{closed_with, passed_with, failed_now, hears, finds}
use Rattle.verifier.specs.Batch.{batch_finds}
use Rattle.verifier.specs.Openings.{first_fault, opening_finds}
use Rattle.verifier.specs.Calls.{pass_open, give, close, message_turn, all_reduced3, message, verdict_turn, verdict, has_rounds, check_opening, check_batch}
use Rattle.verifier.specs.ProofFile.{hears_next, hears_first, ends_agree, compares, after_file, proof}
use Rattle.item.specs.Version.{in_range}
use Rattle.item.specs.Mark.{is_mark}
use Rattle.item.specs.declared.Start.{Start}
use Rattle.item.specs.declared.Given.TheVariants.{Reading}
use Rattle.item.specs.Item.{parts_of}
use Rattle.calls.specs.declared.query.Query.TheVariants as query
use Rattle.refusal.specs.Outcome.{Outcome, answered, refused}
use Rattle.calls.specs.QueryStep.{Said, ask}
use Rattle.calls.specs.QueryStep as said
use Rattle.calls.specs.Lists.{each}
use Rattle.calls.specs.QueryState.{Posed, plainly, Hearing, fresh_hearing, heard, hears_on}

abbrev P : ℕ
P = 2147483647

-- what each call of a list is told
abbrev pub told_all : Hearing → List Posed → List (Outcome Said)
told_all = each (hears_on P) (λ h q. (heard P h q).told)

abbrev start : Start
start = record { items = 3; rounds = 2; plain = true; version = 1; twists = replicate 15 0 }

abbrev file : List ℕ
file = proof_file 2 (negsuc 5099) (2147482047 ∷ 2147478297 ∷ 2147480147 ∷ 2147457147 ∷ 2147482997 ∷ 200 ∷ 2147483237 ∷ 65 ∷ [])

abbrev with_file : Posed
with_file = record { query = query.Proof; shown = record { file = file; values = []; logs = [] } }

abbrev opening : Posed
opening =
    record {
      query = query.CheckOpening 2;
      shown =
          record {
            file = [];
            values = 2147483277 ∷ 330 ∷ 2147483277 ∷ 2147483197 ∷ 2147483037 ∷ 2147483237 ∷ 70 ∷ 2147483637 ∷ 70 ∷ 60 ∷ 40 ∷ 65 ∷ [];
            logs = [];
          };
    }

abbrev items : List Posed → List Posed
items rest = plainly (query.Give (Reading (negsuc 179) 10)) ∷ plainly (query.Give (Reading (negsuc 174) 20)) ∷ plainly (query.Give (Reading (pos 40) 5)) ∷ rest

-- call by call, with a message too early, an item too late and an opening between
pub trip-told :
    told_all (fresh_hearing start (2 ∷ 3 ∷ []))
    (plainly (query.Message 2147482047 2147478297 2147480147)
    ∷ items
    (plainly (query.Close (negsuc 5099))
    ∷ plainly (query.Give (Reading (pos 40) 5))
    ∷ plainly (query.Message 2147482047 2147478297 2147480147)
    ∷ opening
    ∷ plainly query.Verdict
    ∷ plainly (query.Message 2147457147 2147482997 200)
    ∷ plainly query.Verdict
    ∷ opening
    ∷ plainly query.Verdict
    ∷ []))
    ≡ refused 12
    ∷ answered (said.replies reply.taken)
    ∷ answered (said.replies reply.taken)
    ∷ answered (said.replies reply.taken)
    ∷ answered (said.replies reply.closed)
    ∷ refused 10
    ∷ answered (said.replies reply.passed)
    ∷ answered (said.opens holds)
    ∷ refused 12
    ∷ answered (said.replies reply.passed)
    ∷ answered (said.finds yes)
    ∷ answered (said.opens holds)
    ∷ answered (said.finds yes)
    ∷ []
unfolding each ask give pass_open well_formed turn_of parts_of one_more entering fresh_verifier fifteen overwrite rounds_of weight image residue add_mod neg_mod mul_mod close closed_with in_limits message message_turn all_reduced3 hears passed_with failed_now verdict verdict_turn finds check_opening has_rounds every opening_finds first_fault opens div_mod inverse_mod inverse_in half_mod half_one sub_mod in_range is_mark
trip-told = refl

-- with the proof file, given once
pub trip-file-told :
    told_all (fresh_hearing start (2 ∷ 3 ∷ [])) (items (with_file ∷ plainly query.Verdict ∷ with_file ∷ []))
    ≡ answered (said.replies reply.taken)
    ∷ answered (said.replies reply.taken)
    ∷ answered (said.replies reply.taken)
    ∷ answered (said.finds yes)
    ∷ answered (said.finds yes)
    ∷ refused 10
    ∷ []
unfolding each ask give pass_open well_formed turn_of parts_of one_more entering fresh_verifier fifteen overwrite rounds_of weight image residue add_mod neg_mod mul_mod closed_with in_limits hears passed_with failed_now verdict verdict_turn finds proof read_proof_of read_proof marked all_below num_at num bytes signed bits proof_header numbers hears_next hears_first ends_agree compares after_file in_range is_mark
trip-file-told = refl

-- document 02, (a): two logs, z = 3 and the point 2; the combined vector is -165, -154, 40, 0, and the logs' values are -370 and 19
abbrev batch : ℕ → List ℕ → List ℕ → Posed
batch m values logs = record { query = query.CheckBatch m 3 2; shown = record { file = []; values = values; logs = logs } }

abbrev opened : ℕ → ℕ → List ℕ
opened first fourth = first ∷ 303 ∷ 2147483334 ∷ fourth ∷ 2147483094 ∷ 2147483294 ∷ []

-- yes; no at 0 for another log value, or another value at the point; no at j 1 where the sum holds, and at j 2; then the refusals
pub batch-told :
    told_all (fresh_hearing start (2 ∷ 3 ∷ []))
    (batch 2 (opened 2147483334 2147483254) (2147483277 ∷ 19 ∷ [])
    ∷ batch 2 (opened 2147483334 2147483254) (2147483277 ∷ 20 ∷ [])
    ∷ batch 2 (opened 2147483335 2147483254) (2147483277 ∷ 19 ∷ [])
    ∷ batch 2 (opened 2147483335 2147483254) (2147483278 ∷ 19 ∷ [])
    ∷ batch 2 (opened 2147483334 2147483255) (2147483277 ∷ 19 ∷ [])
    ∷ batch 0 [] []
    ∷ batch 9 [] []
    ∷ batch 2 [] (2147483277 ∷ 19 ∷ [])
    ∷ batch 2 (opened 2147483334 2147483254) (2147483277 ∷ [])
    ∷ batch 2 (opened 2147483334 2147483254) (2147483277 ∷ P ∷ [])
    ∷ [])
    ≡ answered (said.finds yes)
    ∷ answered (said.finds (no 0))
    ∷ answered (said.finds (no 0))
    ∷ answered (said.finds (no 1))
    ∷ answered (said.finds (no 2))
    ∷ refused 17
    ∷ refused 17
    ∷ refused 6
    ∷ refused 6
    ∷ refused 11
    ∷ []
unfolding each ask well_formed turn_of fresh_verifier fifteen overwrite rounds_of residue add_mod neg_mod mul_mod has_rounds every check_batch batch_finds first_fault opens div_mod inverse_mod inverse_in half_mod half_one sub_mod sum
batch-told = refl
