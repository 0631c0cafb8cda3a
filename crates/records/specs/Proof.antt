-- Ops 6 and 7 of the replay tool: the proof file.
use Rattle.std.specs.Prelude.{ℕ, cond, ◌&&◌, Result, Ok, Err, eqb, leb, ltb, replicate, set, ⊤}
use Rattle.records.specs.declared.Record.{Record}
use Rattle.records.specs.declared.Fault.{Fault}
use Rattle.records.specs.declared.Fault.TheVariants.{Bad}
use Rattle.records.specs.declared.proof.Proof.{Proof}

-- "a proof file of up to 256 bytes"
abbrev pub proof_room : ℕ
proof_room = 256

-- "(zero at first) with its length (0 at first)"
abbrev pub no_proof : Proof
no_proof = record { bytes = replicate proof_room 0; size = 0 }

-- what the tool keeps, and what it "prints"
abbrev pub Changed : Type 0
Changed = Proof × Result ⊤ Fault

abbrev pub saying : Proof → Result ⊤ Fault → Changed
saying p said = (p, said)

-- 6: "proof byte a becomes b"
abbrev pub written : Proof → ℕ → ℕ → Proof
written p at byte = record { bytes = set p.bytes at byte; size = p.size }

-- 6: "nothing; `tool bad` if a >= 256 or b > 255"
abbrev pub writes : Proof → ℕ → ℕ → Changed
writes p at byte = cond (ltb at proof_room && leb byte 255) (saying (written p at byte) (Ok tt)) (saying p (Err Bad))

-- 7: "proof length becomes a"
abbrev pub resized : Proof → ℕ → Proof
resized p size = record { bytes = p.bytes; size = size }

-- 7: "nothing; `tool bad` over 256"
abbrev pub resizes : Proof → ℕ → Changed
resizes p size = cond (leb size proof_room) (saying (resized p size) (Ok tt)) (saying p (Err Bad))

-- ops 6 and 7; "an unknown op `tool bad`"
abbrev pub changes : Proof → Record → Changed
changes p r = cond (eqb r.op 6) (writes p r.a r.b) (cond (eqb r.op 7) (resizes p r.a) (saying p (Err Bad)))
