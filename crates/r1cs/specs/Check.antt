-- The rule check: document 01, "Rules", on any vectors a, b and c of 2^n items. p is the modulus.
use Rattle.std.specs.Prelude.{ℕ, ◌^◌, ◌<◌, ◌≡◌, List, take}
use Rattle.algebra.specs.Mod.{residue, mul_mod}
use Rattle.refusal.specs.Outcome.{Outcome}
use Rattle.vector.specs.Vector.{Vector, dot, padded, twisted}
use Rattle.vector.specs.Message.{Message, message}
use Rattle.vector.specs.Opening.{evaluate}
use Rattle.vector.specs.Twist.{twists_of}
use Rattle.verifier.specs.declared.Verifier.{Verifier}
use Rattle.verifier.specs.Records.{leaves, Finding}
use Rattle.verifier.specs.Calls.{close_claim, verdict}
use Rattle.verifier.specs.Trips.{after_calls, given_items, number_items, messages}
use Rattle.r1cs.specs.Product.{product_of}

-- "v_j = v^(2^j)", for j below n
abbrev pub rule_twists : ℕ → ℕ → ℕ → List ℕ
rule_twists p v n = take n (twists_of p v n)

-- the two vectors of "a twisted run on Az and Bz, L = 2^n"
abbrev pub rule_first : ℕ → ℕ → ℕ → Vector → Vector
rule_first p v n a = twisted p (rule_twists p v n) (padded (2 ^ n) a)

abbrev pub rule_second : ℕ → Vector → Vector
rule_second n b = padded (2 ^ n) b

-- the run's total, and its messages under the challenges cs
abbrev pub rule_total : ℕ → ℕ → ℕ → Vector → Vector → ℕ
rule_total p v n a b = dot p (2 ^ n) (rule_first p v n a) (rule_second n b)

abbrev pub rule_message : ℕ → ℕ → ℕ → (ℕ → ℕ) → Vector → Vector → ℕ → Message
rule_message p v n cs a b = message p n cs (rule_first p v n a) (rule_second n b)

-- "its claim .. is the sum of (Cz)_i v^i"
abbrev pub rule_claim : ℕ → ℕ → ℕ → Vector → ℕ
rule_claim p v n c = evaluate p (2 ^ n) c v

-- "no row fails": in each row the product of (Az)_i and (Bz)_i is (Cz)_i (Gemini, Definition 1)
abbrev pub NoRowFails : ℕ → ℕ → Vector → Vector → Vector → Type 0
NoRowFails p n a b c = (i : ℕ) → i < 2 ^ n → mul_mod p (a i) (b i) ≡ residue p (c i)

-- the same of three matrix files and z
abbrev pub RulesHold : ℕ → ℕ → List ℕ → List ℕ → List ℕ → List ℕ → Type 0
RulesHold p n file_a file_b file_c z = NoRowFails p n (product_of p n file_a z) (product_of p n file_b z) (product_of p n file_c z)

-- a verifier given the items of a and b first to last, then a claim "in place of the total", then n messages; and its verdict
abbrev pub after_items : ℕ → ℕ → Verifier → Vector → Vector → Verifier
after_items p n w a b = after_calls (given_items p (number_items a b)) w (2 ^ n)

abbrev pub after_claim : ℕ → Verifier → ℕ → Verifier
after_claim p w claim = (leaves w (close_claim p w claim)).verifier

abbrev pub rule_verdict : ℕ → ℕ → Verifier → Vector → Vector → ℕ → (ℕ → Message) → Outcome Finding
rule_verdict p n w a b claim m = verdict p (after_calls (messages p m) (after_claim p (after_items p n w a b) claim) n)
