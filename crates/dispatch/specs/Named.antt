-- Ops 13 to 24, 33 to 40 and 42 of the replay tool: the call of the run, or of the verifier, that a record names.
use Rattle.std.specs.Prelude.{ℕ, ◌+◌, ◌*◌, cond, eqb, leb, Option, Some, None}
use Rattle.item.specs.declared.Given.TheVariants.{Numbers}
use Rattle.wire.specs.Number.{signed}
use Rattle.item.specs.declared.Given.{Given}
use Rattle.calls.specs.declared.Call.{Call}
use Rattle.calls.specs.declared.Call.TheVariants as call
use Rattle.calls.specs.declared.query.Query.{Query}
use Rattle.calls.specs.declared.query.Query.TheVariants as query
use Rattle.records.specs.declared.Record.{Record}
use Rattle.records.specs.Signs.{plain_item}

-- 15: "`tool bad` if a or b > 65,535"
abbrev pub item_named : Option Given → Option Call
item_named (Some given) = Some (call.Give given)
item_named None = None

-- 33: "verifier item as 15"
abbrev pub item_posed : Option Given → Option Query
item_posed (Some given) = Some (query.Give given)
item_posed None = None

-- 24: "write_proof into the first a bytes of the proof file (`tool bad` over 256)"
abbrev pub file_named : ℕ → Option Call
file_named size = cond (leb size 256) (Some call.WriteProof) None

-- ops 13 to 24
abbrev pub call_named : Record → Option Call
call_named r =
    -- 13: "open"
    cond (eqb r.op 13) (Some call.OpenPass)
    -- 14: "open_at point a"
    (cond (eqb r.op 14) (Some (call.OpenAt r.a))
    -- 15: "item: reading a, two's complement in 16 bits, weight b"
    (cond (eqb r.op 15) (item_named (plain_item r.a r.b))
    -- 16: "field_item a, b"
    (cond (eqb r.op 16) (Some (call.Give (Numbers r.a r.b)))
    -- 17: "close"
    (cond (eqb r.op 17) (Some call.Close)
    -- 18: "message"
    (cond (eqb r.op 18) (Some call.Message)
    -- 19: "challenge a"
    (cond (eqb r.op 19) (Some (call.Challenge r.a))
    -- 20: "ends"
    (cond (eqb r.op 20) (Some call.Ends)
    -- 21: "opening at a"
    (cond (eqb r.op 21) (Some (call.Opening r.a))
    -- 22: "to_full"
    (cond (eqb r.op 22) (Some call.ToFull)
    -- 23: "to_small"
    (cond (eqb r.op 23) (Some call.ToSmall)
    -- 24: "write_proof into the first a bytes of the proof file"
    (cond (eqb r.op 24) (file_named r.a) None)))))))))))

-- ops 33 to 40, and 42
abbrev pub query_posed : Record → Option Query
query_posed r =
    -- 33: "verifier item as 15"
    cond (eqb r.op 33) (item_posed (plain_item r.a r.b))
    -- 34: "field_item as 16"
    (cond (eqb r.op 34) (Some (query.Give (Numbers r.a r.b)))
    -- 35: "close with the total whose 64-bit two's complement has low word a and high word b"
    (cond (eqb r.op 35) (Some (query.Close (signed 8 (r.b * 4294967296 + r.a))))
    -- 36: "close_claim a"
    (cond (eqb r.op 36) (Some (query.CloseClaim r.a))
    -- 37: "message a b c"
    (cond (eqb r.op 37) (Some (query.Message r.a r.b r.c))
    -- 38: "verdict"
    (cond (eqb r.op 38) (Some query.Verdict)
    -- 39: "proof: the first (proof length) bytes"
    (cond (eqb r.op 39) (Some query.Proof)
    -- 40: "check_opening at point a of the scratch list"
    (cond (eqb r.op 40) (Some (query.CheckOpening r.a))
    -- 42: "check_batch: number of logs a, z = b, point c"
    (cond (eqb r.op 42) (Some (query.CheckBatch r.a r.b r.c)) None))))))))
