-- THE STARTS: each is refused exactly by 3 and 6, in this order, with 10 between for a batch, and otherwise gives its run, which is well
-- formed.
use mathlib.Core.Path.{◌≡◌, refl, sym, ap, subst, ◌∙◌}
use mathlib.Core.Bool.{true}
use mathlib.Core.List.{List}
use Prim.Native.Nat.{ℕ, ◌^◌, ◌≤◌, ◌<◌}
use native.Mathlib.Omega.{arith}
use lib.Dec.{eqb, leb, ltb}
use lib.ListN.{length}
use lib.Pow.{pow_pos, pow_mono}
use borrow.Author.Tests.{le-leb, le-ltb, eq-eqb, eqb-true}
use Rattle.refusal.specs.Limit.{max_items, max_rounds}
use Rattle.refusal.specs.Number as number
use Rattle.refusal.specs.Outcome.{Outcome, answered, refused, refused_at}
use Rattle.refusal.proofs.Outcome.{require-says}
use Rattle.field.specs.Total.{limit, in_limits}
use Rattle.vector.specs.Rounds.{rounds_of}
use Rattle.vector.specs.Vector.{at}
use Rattle.vector.specs.Slice.{is_nonzero, all_nonzero}
use Rattle.vector.proofs.Rounds.{rounds_power}
use Rattle.vector.proofs.Every.{all-nonzero_iff}
use Rattle.prover.specs.declared.Run.{Run}
use Rattle.prover.specs.Records.{Out}
use Rattle.pass.specs.Formed.{pass_formed, turn_formed}
use Rattle.prover.specs.WellFormed.{well_formed}
use Rattle.item.specs.declared.Start.{Start}
use Rattle.item.specs.Version.{version_fits}
use Rattle.item.specs.Start.{count_fits, list_fits, version_kept, plain_start, twisted_start, rule_start}
use Rattle.prover.specs.Start.{fresh_run, zero_pass, started, start_plain, start_twisted, start_rule, start_openings}
use Rattle.prover.proofs.Decides.{Decides, decide_both, not_so, at_most, below, Nonzero, nonzero, IsVersion, version-fits}
use Rattle.prover.proofs.StartFacts.{plain_run, twisted_run, rule_run, opens_run, plain-answered, twisted-answered, rule-answered}

-- L from 1 to 32,768
abbrev pub InCount : ℕ → Type 0
InCount items = (1 ≤ items) × (items ≤ max_items)

-- as many twists as rounds, each from 1 to p - 1
abbrev pub Twists : ℕ → ℕ → List ℕ → Type 0
Twists p n twists = (length twists ≡ n) × ((k : ℕ) → k < n → Nonzero p (at twists k))

pub count_fits_lem : (items : ℕ) → Decides (count_fits items) (InCount items)
count_fits_lem items = decide_both (at_most 1 items) (at_most items max_items)

pub twists_fit : (p n : ℕ) (twists : List ℕ) → Decides (list_fits p n twists) (Twists p n twists)
twists_fit p n twists =
    decide_both {a = eqb (length twists) n} {b = all_nonzero p n twists}
    (record { so = eqb-true (length twists) n; back = eq-eqb (length twists) n })
    (record { so = (all-nonzero_iff p n twists).0; back = (all-nonzero_iff p n twists).1 })

-- the rows of a start, each after those above it: Count is what 3 asks, Argument what 6 asks
pub data StartRefused (Count Argument : Type 0) : ℕ → Type 0 where
  by_count : (Count → ⊥) → StartRefused Count Argument number.count
  by_argument : Count → (Argument → ⊥) → StartRefused Count Argument number.argument

abbrev pub StartSays : Type 0 → Type 0 → Run → Outcome Out → Type 0
StartSays Count Argument r (answered o) = Count × Argument × (o ≡ started r)
StartSays Count Argument r (refused k) = StartRefused Count Argument k
StartSays Count Argument r (refused_at k i) = ⊥

-- the rows of a plain start: 2, then 3
pub data PlainRefused (items version : ℕ) : ℕ → Type 0 where
  other_version : (IsVersion version → ⊥) → PlainRefused items version number.version
  other_count : IsVersion version → (InCount items → ⊥) → PlainRefused items version number.count

abbrev pub PlainSays : ℕ → ℕ → Outcome Out → Type 0
PlainSays items version (answered o) = IsVersion version × InCount items × (o ≡ started (plain_run items version))
PlainSays items version (refused k) = PlainRefused items version k
PlainSays items version (refused_at k i) = ⊥

pub plain_says : (items version : ℕ) → PlainSays items version (start_plain items version)
unfolding start_plain
plain_says items version =
    let v = version-fits version in
    let d = count_fits_lem items in
    let Says = PlainSays items version in
    require-says Says (version_fits version) _ _ (λ bad. other_version (not_so v bad)) λ known.
    require-says Says (count_fits items) _ _ (λ bad. other_count (v.so known) (not_so d bad)) λ good. (v.so known, d.so good, refl)

pub twisted-says : (p items : ℕ) (twists : List ℕ)
    → StartSays (InCount items) (Twists p (rounds_of items) twists) (twisted_run p items twists) (start_twisted p items twists)
unfolding start_twisted
twisted-says p items twists =
    let d = count_fits_lem items in
    let e = twists_fit p (rounds_of items) twists in
    let Says = StartSays (InCount items) (Twists p (rounds_of items) twists) (twisted_run p items twists) in
    require-says Says (count_fits items) _ _ (λ bad. by_count (not_so d bad)) λ good.
    require-says Says (list_fits p (rounds_of items) twists) _ _ (λ bad. by_argument (d.so good) (not_so e bad)) λ fit.
    (d.so good, e.so fit, refl)

pub rule_says : (p rounds v : ℕ) → StartSays (rounds ≤ max_rounds) (Nonzero p v) (rule_run p rounds v) (start_rule p rounds v)
unfolding start_rule
rule_says p rounds v =
    let d = at_most rounds max_rounds in
    let e = nonzero p v in
    let Says = StartSays (rounds ≤ max_rounds) (Nonzero p v) (rule_run p rounds v) in
    require-says Says (leb rounds max_rounds) _ _ (λ bad. by_count (not_so d bad)) λ good.
    require-says Says (is_nonzero p v) _ _ (λ bad. by_argument (d.so good) (not_so e bad)) λ fit.
    (d.so good, e.so fit, refl)

-- a batch's run: n is not 0, after 3 and before 6
pub data OpeningsRefused (Count Some Argument : Type 0) : ℕ → Type 0 where
  no_count : (Count → ⊥) → OpeningsRefused Count Some Argument number.count
  no_rounds : Count → (Some → ⊥) → OpeningsRefused Count Some Argument number.order
  no_list : Count → Some → (Argument → ⊥) → OpeningsRefused Count Some Argument number.argument

abbrev pub OpeningsSays : ℕ → ℕ → List ℕ → Outcome Out → Type 0
OpeningsSays p items cs (answered o) =
    InCount items × (0 < rounds_of items) × Twists p (rounds_of items) cs × (o ≡ started (opens_run p items cs))
OpeningsSays p items cs (refused k) = OpeningsRefused (InCount items) (0 < rounds_of items) (Twists p (rounds_of items) cs) k
OpeningsSays p items cs (refused_at k i) = ⊥

pub openings_says : (p items : ℕ) (cs : List ℕ) → OpeningsSays p items cs (start_openings p items cs)
unfolding start_openings
openings_says p items cs =
    let d = count_fits_lem items in
    let s = below 0 (rounds_of items) in
    let e = twists_fit p (rounds_of items) cs in
    let Says = OpeningsSays p items cs in
    require-says Says (count_fits items) _ _ (λ bad. no_count (not_so d bad)) λ good.
    require-says Says (ltb 0 (rounds_of items)) _ _ (λ bad. no_rounds (d.so good) (not_so s bad)) λ some.
    require-says Says (list_fits p (rounds_of items) cs) _ _ (λ bad. no_list (d.so good) (s.so some) (not_so e bad)) λ fit.
    (d.so good, s.so some, e.so fit, refl)

-- a proper start is answered
pub plain_starts : (items version : ℕ) → IsVersion version → InCount items → start_plain items version ≡ answered (started (plain_run items version))
plain_starts items version v h = plain-answered items version ((version-fits version).back v) ((count_fits_lem items).back h)

pub twisted-starts : (p items : ℕ) (twists : List ℕ) → InCount items → Twists p (rounds_of items) twists
    → start_twisted p items twists ≡ answered (started (twisted_run p items twists))
twisted-starts p items twists h e = twisted-answered p items twists ((count_fits_lem items).back h) ((twists_fit p (rounds_of items) twists).back e)

pub rule_starts : (p rounds v : ℕ) → rounds ≤ max_rounds → Nonzero p v → start_rule p rounds v ≡ answered (started (rule_run p rounds v))
rule_starts p rounds v h e = rule-answered p rounds v (le-leb rounds max_rounds h) ((nonzero p v).back e)

-- A fresh run with a closed pass is well formed.
pub fresh-formed : (p : ℕ) (start : Start) → version_kept start.plain start.version ≡ true → InCount start.items
    → start.rounds ≡ rounds_of start.items → well_formed p (fresh_run start) zero_pass ≡ true
unfolding well_formed turn_formed pass_formed in_limits
fresh-formed p start v h e =
    simp (
      v,
      le-ltb start.items 1 h.0,
      le-ltb max_items start.items h.1,
      eq-eqb start.rounds (rounds_of start.items) e,
      le-leb 0 (limit p) (omega arith),
      le-ltb start.items 0 (omega arith),
    )

-- and so is a run that begins at its openings
pub opens-formed : (p items : ℕ) (cs : List ℕ) → InCount items → well_formed p (opens_run p items cs) zero_pass ≡ true
unfolding well_formed turn_formed pass_formed in_limits
opens-formed p items cs h =
    simp (
      le-ltb items 1 h.0,
      le-ltb max_items items h.1,
      eq-eqb (rounds_of items) (rounds_of items) refl,
      le-leb 0 (limit p) (omega arith),
      le-ltb items 0 (omega arith),
    )

-- what a start says of an answer, of the one that it gives
of_answer : (Count Argument : Type 0) (r : Run) (got : Outcome Out) (o : Out) → StartSays Count Argument r got → got ≡ answered o
    → Count × (o ≡ started r)
of_answer Count Argument r got o says e = let h = subst (StartSays Count Argument r) e says in (h.0, h.2)

as_started : (p : ℕ) (o : Out) (r : Run) → o ≡ started r → well_formed p r zero_pass ≡ true → well_formed p o.run o.pass ≡ true
as_started p o r e h = ap (λ x. well_formed p x.run x.pass) e ∙ h

pub plain_formed : (p items version : ℕ) (o : Out) → start_plain items version ≡ answered o → well_formed p o.run o.pass ≡ true
plain_formed p items version o e =
    let h = subst (PlainSays items version) e (plain_says items version) in
    as_started p o (plain_run items version) h.2 (fresh-formed p (plain_start items version) ((version-fits version).back h.0) h.1 refl)

pub twisted-formed : (p items : ℕ) (twists : List ℕ) (o : Out) → start_twisted p items twists ≡ answered o → well_formed p o.run o.pass ≡ true
twisted-formed p items twists o e =
    let h =
    of_answer (InCount items) (Twists p (rounds_of items) twists) (twisted_run p items twists) (start_twisted p items twists) o (twisted-says p items twists) e
    in
    as_started p o (twisted_run p items twists) h.1 (fresh-formed p (twisted_start items twists) refl h.0 refl)

-- 2^n items need n rounds
pub rule_formed : (p rounds v : ℕ) (o : Out) → start_rule p rounds v ≡ answered o → well_formed p o.run o.pass ≡ true
rule_formed p rounds v o e =
    let h = of_answer (rounds ≤ max_rounds) (Nonzero p v) (rule_run p rounds v) (start_rule p rounds v) o (rule_says p rounds v) e in
    let most : 2 ^ rounds ≤ 2 ^ 15 = pow_mono h.0 in
    as_started p o (rule_run p rounds v) h.1
    (fresh-formed p (rule_start p rounds v) refl (pow_pos rounds, most) (sym (rounds_power rounds h.0)))

pub openings_formed : (p items : ℕ) (cs : List ℕ) (o : Out) → start_openings p items cs ≡ answered o → well_formed p o.run o.pass ≡ true
openings_formed p items cs o e =
    let h = subst (OpeningsSays p items cs) e (openings_says p items cs) in
    as_started p o (opens_run p items cs) h.3 (opens-formed p items cs h.0)
