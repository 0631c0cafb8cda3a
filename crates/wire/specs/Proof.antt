-- The proof file: document 01, "Files", and the rows 1 to 4, 7, 9 and 11 of its table. p is the modulus.
use Rattle.std.specs.Prelude.{ℕ, zero, suc, ◌+◌, ◌*◌, List, [], ◌∷◌, ◌++◌, Bool, true, cond, ◌&&◌, length, get_or, take, drop, ℤ, ltb, leb, eqb, Option}
use Rattle.refusal.specs.Number as number
use Rattle.refusal.specs.Limit.{max_rounds}
use Rattle.refusal.specs.Outcome.{Outcome, answered, refused, refused_at, require}
use Rattle.field.specs.Total.{in_limits}
use Rattle.wire.specs.Number.{bytes, num_at, signed, bits}
use Rattle.wire.specs.Found.{found_if}
use Rattle.wire.specs.Header.{require_header}
pub use Rattle.wire.specs.declared.proof.Head.{Head}
pub use Rattle.wire.specs.declared.proof.Ends.{Ends}
pub use Rattle.vector.specs.declared.Message.{Message}

-- "byte 5 n"
abbrev pub proof_rounds : List ℕ → ℕ
proof_rounds file = get_or file 5 0

-- "6-9 the total as signed 32-bit"
abbrev pub proof_total : List ℕ → ℤ
proof_total file = signed 4 (num_at 4 file 6)

-- "then n messages of twelve bytes (even, cross, odd, four bytes each); then the end values of f and g": number k of these 3n + 2
abbrev pub proof_number : List ℕ → ℕ → ℕ
proof_number file k = num_at 4 file (10 + 4 * k)

-- "Length 18 + 12n"
abbrev pub proof_size : ℕ → ℕ
proof_size n = 18 + 12 * n

-- the byte after the message of a round
abbrev pub message_end : ℕ → ℕ
message_end round = 22 + 12 * round

-- the first m of some numbers are field numbers
unfoldable pub all_below : ℕ → (ℕ → ℕ) → ℕ → Bool
all_below p numbers zero = true
all_below p numbers (suc m) = all_below p numbers m && ltb (numbers m) p

-- 1 and 2: RVP (80 is P), ten bytes; 3: "n above 15"; 4: "length not as computed"; 7: "plain total outside its limits";
-- 11: "field number P or more". A good proof answers n and the total.
unfoldable pub read_proof : ℕ → List ℕ → Outcome Head
read_proof p file =
    require_header 80 10 file
    (require (leb (proof_rounds file) max_rounds) number.count
    (require (eqb (length file) (proof_size (proof_rounds file))) number.size
    (require (in_limits p (proof_total file)) number.total
    (require (all_below p (proof_number file) (3 * proof_rounds file + 2)) number.number
    (answered (record { rounds = proof_rounds file; total = proof_total file }))))))

-- for a verifier of n rounds: 3 for "n above 15; a proof's n not the gateway's", before 4 and the rows below it
unfoldable pub read_proof_of : ℕ → ℕ → List ℕ → Outcome Head
read_proof_of p n file = require_header 80 10 file (require (eqb (proof_rounds file) n) number.count (read_proof p file))

-- "The twelve bytes of one round": the empty part "for a file that is refused, or a round n or more"
unfoldable pub part_in : Outcome Head → List ℕ → ℕ → List ℕ
part_in (answered head) file round = cond (ltb round head.rounds) (take 12 (drop (10 + 12 * round) file)) []
part_in (refused k) file round = []
part_in (refused_at k i) file round = []

abbrev pub proof_round : ℕ → List ℕ → ℕ → List ℕ
proof_round p file round = part_in (read_proof p file) file round

-- "even, cross, odd, four bytes each", where the part has them
unfoldable pub part_message : List ℕ → Option Message
part_message part =
    found_if (leb 12 (length part))
    (record { even = num_at 4 part 0; cross = num_at 4 part 4; odd = num_at 4 part 8 })

-- the message of a round, where the file has it
unfoldable pub proof_message : List ℕ → ℕ → Option Message
proof_message file round =
    found_if (leb (message_end round) (length file))
    (record {
      even = proof_number file (3 * round);
      cross = proof_number file (3 * round + 1);
      odd = proof_number file (3 * round + 2);
    })

-- the end values after n messages, where the file has them
unfoldable pub proof_ends : List ℕ → Option Ends
proof_ends file =
    found_if (leb (proof_size (proof_rounds file)) (length file))
    (record { f = num_at 4 file (10 + 12 * proof_rounds file); g = num_at 4 file (14 + 12 * proof_rounds file) })

-- numbers of four bytes each, one after the other
unfoldable pub numbers : List ℕ → List ℕ
numbers [] = []
numbers (x ∷ xs) = bytes 4 x ++ numbers xs

unfoldable pub proof_header : ℕ → ℤ → List ℕ
proof_header n total = 82 ∷ 86 ∷ 80 ∷ bytes 2 1 ++ n ∷ bytes 4 (bits 4 total)

-- the file of a proof: n, the total, and the 3n + 2 numbers
abbrev pub proof_file : ℕ → ℤ → List ℕ → List ℕ
proof_file n total values = proof_header n total ++ numbers values

-- the numbers of a proof in the order of its file: the first 3n of the messages', then the end values
abbrev pub proof_values : ℕ → List ℕ → ℕ → ℕ → List ℕ
proof_values n messages f g = take (3 * n) messages ++ f ∷ g ∷ []

-- 3, 7, 11, and 9: "shorter than the fold, or than the file or product to be written"; answers how many bytes the file has
unfoldable pub write_proof : ℕ → ℕ → ℤ → List ℕ → ℕ → ℕ → List ℕ → Outcome ℕ
write_proof p n total messages f g buffer =
    require (leb n max_rounds) number.count
    (require (in_limits p total) number.total
    (require (all_below p (λ k. get_or messages k 0) (3 * n) && (ltb f p && ltb g p)) number.number
    (require (leb (proof_size n) (length buffer)) number.buffer
    (answered (proof_size n)))))

-- the buffer after: the file from its first place on, every other byte kept; refused: "state and buffers are unchanged"
unfoldable pub written_in : Outcome ℕ → List ℕ → List ℕ → List ℕ
written_in (answered size) file buffer = file ++ drop size buffer
written_in (refused k) file buffer = buffer
written_in (refused_at k i) file buffer = buffer
