-- What holds of every state that answered calls make, and so of the records that it stands for.
use mathlib.Core.Path.{◌≡◌, refl, ap, ◌∙◌}
use mathlib.Core.Bool.{Bool, true, false, cond}
use mathlib.Core.List.{List, []}
use mathlib.Core.Logic.{◌⊎◌, inl, inr, ⊎_elim}
use Prim.Native.Nat.{ℕ, zero, suc, ◌+◌, ◌*◌, ◌-◌, ◌<◌, ◌≤◌}
use native.Mathlib.Omega.{arith}
use lib.Dec.{ltb}
use lib.IntN.{ℤ}
use lib.ListN.{length, get_or, replicate, get_or-replicate, get_or-append, get_or-eq_default, length-replicate}
use lib.Seq.{get_or-append-add}
use borrow.Author.Tests.{le-ltb, eq-eqb, lt-ltb, ltb-true, ltb-false}
use Rattle.refusal.specs.Limit.{max_items}
use Rattle.field.specs.Total.{in_limits}
use Rattle.wire.specs.Proof.{all_below}
use Rattle.vector.specs.Vector.{at}
use Rattle.vector.specs.Rounds.{rounds_of}
use Rattle.vector.proofs.Rounds.{rounds-at-most}
use Rattle.phase.specs.declared.Mode.{Mode}
use Rattle.phase.specs.declared.Next.{Next}
use Rattle.phase.specs.declared.Next.TheVariants as next
use Rattle.phase.specs.declared.Kind.{Kind}
use Rattle.phase.specs.declared.Kind.TheVariants.{Shut}
use Rattle.phase.specs.Cases.{waits}
use Rattle.phase.specs.Order.{round_or_ends, round_fits, kind_fits}
use Rattle.pass.specs.Formed.{turn_formed}
use Rattle.prover.specs.WellFormed.{run_formed, well_formed}
use Rattle.prover.specs.Challenge.{kept_message}
use Rattle.item.specs.declared.Start.{Start}
use Rattle.item.specs.declared.Given.{Given}
use Rattle.item.specs.declared.Given.TheVariants.{Numbers}
use Rattle.item.specs.Item.{contributes}
use Rattle.item.specs.Start.{version_kept}
use Rattle.runs.specs.Trip.{sum_of}
use Rattle.runs.specs.Items.{AllWithin}
use Rattle.runs.proofs.PassRecord.{after-kind, after-taken}
use Rattle.runs.proofs.PassTotal.{after-total}
use Rattle.runs.proofs.PassFormed.{after-formed}
use Rattle.calls.specs.State.{State}
use Rattle.calls.specs.Claim.{Running}
use Rattle.calls.proofs.Records.{Notes, in_array, run_of, pass_of}
use Rattle.calls.proofs.HeardTrip as heard

-- how many messages were given
abbrev pub given_at : ℕ → Next → ℕ
given_at i next.Total = 0
given_at i next.Message = i
given_at i next.Challenge = suc i
given_at i next.Ends = i
given_at i next.Openings = i

-- after the total and after a challenge: a message or the ends
pub given_round : (i n : ℕ) → (given_at i (round_or_ends i n) ≡ i) × (waits next.Openings (round_or_ends i n) ≡ false) × (waits next.Challenge (round_or_ends i n) ≡ false)
given_round i n = by (ltb i n)
  where
    by : (b : Bool) → (given_at i (cond b next.Message next.Ends) ≡ i) × (waits next.Openings (cond b next.Message next.Ends) ≡ false)
        × (waits next.Challenge (cond b next.Message next.Ends) ≡ false)
    by true = (refl, refl, refl)
    by false = (refl, refl, refl)

-- both Numbers of an item are field Numbers
abbrev pub Fine : ℕ → Start → Given → Type 0
Fine p s x = ((contributes p s x).f < p) × ((contributes p s x).g < p)

pub record RunFits (p : ℕ) (s : Start) (t : Next) (cs : List ℕ) (z : ℤ) (ms : List ℕ) (x : Running) (a b : ℕ) : Type 0 where
  pub version : version_kept s.plain s.version ≡ true
  pub some : 1 ≤ s.items
  pub most : s.items ≤ 32768
  pub rounds : s.rounds ≡ rounds_of s.items
  pub round : round_fits t (length cs) s.rounds ≡ true
  pub total : in_limits p z ≡ true
  pub given : length ms ≡ 3 * given_at (length cs) t
  -- the next challenge is for the last message
  pub last : waits next.Challenge t ≡ true → kept_message ms (length cs) ≡ x.message
  pub claim : x.claim < p
  pub below : (j : ℕ) → at ms j < p
  pub fend : a < p
  pub gend : b < p

pub record PassFits (p : ℕ) (s : Start) (m : Mode) (t : Next) (k : Kind) (xs : List Given) : Type 0 where
  pub kind : kind_fits k m t ≡ true
  pub idle : k ≡ Shut → xs ≡ []
  pub count : length xs ≤ s.items
  pub within : AllWithin s xs
  -- of the run's kind, within their limits
  pub own : (q : ℕ) → q < length xs → heard.Fine p s.plain (get_or xs q (Numbers 0 0))

pub record Fits (p : ℕ) (a : State) (past : Notes) : Type 0 where
  pub run : RunFits p a.start a.turn.next a.turn.challenges past.total past.messages past.running past.fend past.gend
  pub pass : PassFits p a.start a.turn.mode a.turn.next a.pass.kind a.pass.items

pub lt_or_le : (j m : ℕ) → (j < m) ⊎ (m ≤ j)
lt_or_le j m = by (ltb j m) refl
  where
    by : (b : Bool) → ltb j m ≡ b → (j < m) ⊎ (m ≤ j)
    by true e = inl (ltb-true j m e)
    by false e = inr (ltb-false j m e)

-- a list of field Numbers in an array
pub zeros-at : (m j : ℕ) → at (replicate m 0) j ≡ 0
zeros-at m j =
    ⊎_elim (λ (l : j < m). get_or-replicate m j 0 0 l)
    (λ (l : m ≤ j). get_or-eq_default (replicate m 0) 0 {n = j} (omega (arith, length-replicate {A = ℕ} m 0))) (lt_or_le j m)

-- the places past its end are zero
pub array_beyond : (size : ℕ) (xs : List ℕ) (j : ℕ) → length xs ≤ j → at (in_array size xs) j ≡ 0
array_beyond size xs j l =
    let d : ℕ = j - length xs in
    let e : j ≡ length xs + d = omega arith in
    ap (at (in_array size xs)) e ∙ get_or-append-add xs (replicate (size - length xs) 0) d 0 ∙ zeros-at (size - length xs) d

pub array_below : (p size : ℕ) (xs : List ℕ) → 0 < p → ((j : ℕ) → at xs j < p) → (j : ℕ) → at (in_array size xs) j < p
array_below p size xs some h j =
    ⊎_elim (λ (l : j < length xs). rw (get_or-append xs (replicate (size - length xs) 0) 0 j l) (h j))
    (λ (l : length xs ≤ j). rw (array_beyond size xs j l) some) (lt_or_le j (length xs))

all_below_lem : (p : ℕ) (v : ℕ → ℕ) → ((j : ℕ) → v j < p) → (m : ℕ) → all_below p v m ≡ true
unfolding all_below
all_below_lem p v h zero = refl
all_below_lem p v h (suc m) = rw (all_below_lem p v h m, lt-ltb (v m) p (h m))

module _ (p : ℕ) (a : State) {past : Notes} (h : Fits p a past) where
  pub few : a.start.rounds ≤ 15
  few = omega (arith, h.run.rounds, rounds-at-most a.start.items h.run.most)

  pub run-formed : run_formed p (run_of a past) ≡ true
  unfolding turn_formed
  run-formed =
      rw (
        h.run.version,
        le-ltb a.start.items 1 h.run.some,
        le-ltb max_items a.start.items h.run.most,
        eq-eqb a.start.rounds (rounds_of a.start.items) h.run.rounds,
        h.run.round,
        h.run.total,
      )

  -- the records are well formed
  pub formed : well_formed p (run_of a past) (pass_of p a past) ≡ true
  formed =
      after-formed p (run_of a past) a.pass.point run-formed a.pass.kind a.pass.items h.pass.kind h.pass.within h.pass.count h.pass.idle

  pub kind-is : (pass_of p a past).kind ≡ a.pass.kind
  kind-is = after-kind p (run_of a past) a.pass.kind a.pass.point a.pass.items

  pub taken_is : (pass_of p a past).taken ≡ length a.pass.items
  taken_is = after-taken p (run_of a past) a.pass.kind a.pass.point a.pass.items

  pub sum_is : waits next.Total a.turn.next ≡ true → (pass_of p a past).total ≡ sum_of a.start a.pass.items
  sum_is e = after-total p (run_of a past) a.pass.kind a.pass.point e a.pass.items h.pass.within (omega (arith, h.pass.count, h.run.most))

  pub messages-below : 0 < p → all_below p (λ k. get_or (run_of a past).messages k 0) (3 * a.start.rounds) ≡ true
  messages-below some = all_below_lem p (λ k. get_or (run_of a past).messages k 0) (array_below p 45 past.messages some h.run.below) (3 * a.start.rounds)
