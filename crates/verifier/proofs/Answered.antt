-- What an answered start and an answered close say.
use mathlib.Core.Path.{◌≡◌, refl, sym, ap, ◌∙◌}
use mathlib.Core.Bool.{Bool, true, false}
use mathlib.Core.List.{List}
use Prim.Native.Nat.{ℕ}
use native.Mathlib.Omega.{arith}
use lib.Dec.{eqb}
use lib.IntN.{ℤ}
use Rattle.refusal.specs.Outcome.{Outcome, answered, require}
use Rattle.refusal.specs.Number as number
use Rattle.field.specs.Integer.{image}
use Rattle.field.specs.Total.{in_limits}
use Rattle.field.proofs.Totals.{limits-apart}
use Rattle.vector.specs.Rounds.{rounds_of}
use Rattle.field.specs.Number.{is_nonzero}
use Rattle.item.specs.Version.{version_fits}
use Rattle.item.specs.Start.{count_fits, rounds_fit, list_fits}
use Rattle.verifier.specs.declared.Verifier.{Verifier}
use Rattle.verifier.specs.Records.{Replied}
use Rattle.verifier.specs.Starts.{started_with, plain_verifier, twisted_verifier, rule_verifier, start_plain, start_twisted, start_rule}
use Rattle.verifier.specs.Claims.{closed_with}
use Rattle.verifier.specs.Calls.{pass_open, close}

pub require-answered : {A : Type 0} (ok : Bool) (k : ℕ) (rest : Outcome A) {x : A} → require ok k rest ≡ answered x → (ok ≡ true) × (rest ≡ answered x)
require-answered true k rest h = (refl, h)
require-answered false k rest h = absurd (let z : ◌≡◌ {A = ℕ} 0 1 = cc in omega arith)

pub answered_same : {A : Type 0} {x y : A} → answered x ≡ answered y → x ≡ y
answered_same e = cc

pub start-plain_says : (p items version : ℕ) (cs : List ℕ) {s : Replied} → start_plain p items version cs ≡ answered s
    → (version_fits version ≡ true)
    × (count_fits items ≡ true)
    × (list_fits p (rounds_of items) cs ≡ true)
    × (s ≡ started_with (plain_verifier items version cs))
unfolding start_plain
start-plain_says p items version cs h =
    let v = require-answered (version_fits version) number.version _ h in
    let a = require-answered (count_fits items) number.count _ v.1 in
    let b = require-answered (list_fits p (rounds_of items) cs) number.argument _ a.1 in
    (v.0, a.0, b.0, sym (answered_same b.1))

pub start-twisted-says : (p items : ℕ) (vs cs : List ℕ) {s : Replied} → start_twisted p items vs cs ≡ answered s
    → (count_fits items ≡ true)
    × (list_fits p (rounds_of items) vs ≡ true)
    × (list_fits p (rounds_of items) cs ≡ true)
    × (s ≡ started_with (twisted_verifier items vs cs))
unfolding start_twisted
start-twisted-says p items vs cs h =
    let a = require-answered (count_fits items) number.count _ h in
    let b = require-answered (list_fits p (rounds_of items) vs) number.argument _ a.1 in
    let c = require-answered (list_fits p (rounds_of items) cs) number.argument _ b.1 in
    (a.0, b.0, c.0, sym (answered_same c.1))

pub start-rule_says : (p rounds v : ℕ) (cs : List ℕ) {s : Replied} → start_rule p rounds v cs ≡ answered s
    → (rounds_fit rounds ≡ true) × (is_nonzero p v ≡ true) × (list_fits p rounds cs ≡ true) × (s ≡ started_with (rule_verifier p rounds v cs))
unfolding start_rule
start-rule_says p rounds v cs h =
    let a = require-answered (rounds_fit rounds) number.count _ h in
    let b = require-answered (is_nonzero p v) number.argument _ a.1 in
    let c = require-answered (list_fits p rounds cs) number.argument _ b.1 in
    (a.0, b.0, c.0, sym (answered_same c.1))

close-says : (p : ℕ) (v : Verifier) (total : ℤ) {x : Replied} → close p v total ≡ answered x → (in_limits p total ≡ true) × (x.verifier.claim ≡ image p total)
unfolding close closed_with
close-says p v total {x} h =
    let a = (require-answered (pass_open v) number.order _ h).1 in
    let b = (require-answered (eqb v.taken v.start.items) number.items _ a).1 in
    let c = (require-answered v.start.plain number.order _ b).1 in
    let d = require-answered (in_limits p total) number.total _ c in
    (d.0, ap (λ s. s.verifier.claim) (sym (answered_same d.1)))

-- A TOTAL IS NEVER TAKEN FOR ANOTHER: of two totals that the close answers alike, so that T and T + P never both pass
pub totals_apart : (p : ℕ) (v : Verifier) (s t : ℤ) {x : Replied} → close p v s ≡ answered x → close p v t ≡ answered x → s ≡ t
totals_apart p v s t a b =
    let x = close-says p v s a in
    let y = close-says p v t b in
    limits-apart p s t x.0 y.0 (sym x.1 ∙ y.1)
