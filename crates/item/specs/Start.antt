-- What an answered start fixes: L, n, the kind of the run, the version of its readings, and its twists in fifteen places.
use Rattle.std.specs.Prelude.{ℕ, ◌^◌, Bool, true, false, cond, ◌&&◌, List, eqb, leb, length, replicate}
use Rattle.refusal.specs.Limit.{max_items, max_rounds, max_logs}
use Rattle.field.specs.Modulus.{modulus}
use Rattle.vector.specs.Rounds.{rounds_of}
use Rattle.vector.specs.Slice.{all_nonzero, fifteen}
use Rattle.vector.specs.Twist.{twists_of}
use Rattle.item.specs.Version.{version_fits}
use Rattle.item.specs.declared.Start.{Start}

-- the modulus of the runs that it begins
unfoldable pub modulus_of : Start → ℕ
modulus_of s = modulus

-- "L outside 1..32,768 .. at a run's start"
abbrev pub count_fits : ℕ → Bool
count_fits items = leb 1 items && leb items max_items

-- "n above 15"
abbrev pub rounds_fit : ℕ → Bool
rounds_fit n = leb n max_rounds

-- "a list of challenges, twists .. not as long as n asks", or one "outside 1..P-1"
abbrev pub list_fits : ℕ → ℕ → List ℕ → Bool
list_fits p n xs = eqb (length xs) n && all_nonzero p n xs

-- document 02, (a): "no logs or more than eight"
abbrev pub logs_fit : ℕ → Bool
logs_fit m = leb 1 m && leb m max_logs

-- a plain run, which is told the version and reads no twists; the others have no readings, and version 0
abbrev pub plain_start : ℕ → ℕ → Start
plain_start items version =
    record { items = items; rounds = rounds_of items; plain = true; version = version; twists = replicate 15 0 }

-- the version in a record that a start gave: of a plain run 1 or 2, of any other 0
abbrev pub version_kept : Bool → ℕ → Bool
version_kept plain version = cond plain (version_fits version) (eqb version 0)

abbrev pub twisted_start : ℕ → List ℕ → Start
twisted_start items twists = record { items = items; rounds = rounds_of items; plain = false; version = 0; twists = fifteen (rounds_of items) twists }

-- field numbers that enter as they are: the twists are 1
abbrev pub untwisted_start : ℕ → Start
untwisted_start items = record { items = items; rounds = rounds_of items; plain = false; version = 0; twists = replicate 15 1 }

-- "a twisted run .., L = 2^n, with v_j = v^(2^j), v from 1 to P-1"
abbrev pub rule_start : ℕ → ℕ → ℕ → Start
rule_start p n v = record { items = 2 ^ n; rounds = n; plain = false; version = 0; twists = twists_of p v n }

-- beside a refused start, and for a rule check of more rounds than there are: all zero
abbrev pub no_start : Start
no_start = record { items = 0; rounds = 0; plain = false; version = 0; twists = replicate 15 0 }

abbrev pub rule_or_none : ℕ → ℕ → ℕ → Start
rule_or_none p n v = cond (rounds_fit n) (rule_start p n v) no_start
