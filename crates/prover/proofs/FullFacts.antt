-- The tests of a well-formed record one by one, and what is next after a full-mode call or a challenge.
use mathlib.Core.Path.{◌≡◌, sym, ap, ◌∙◌}
use mathlib.Core.List.{List}
use mathlib.Core.Bool.{Bool, true, false, cond}
use Prim.Native.Nat.{ℕ, suc, ◌*◌, ◌/◌, ◌≤◌, ◌<◌}
use native.Mathlib.Omega.{arith}
use lib.Dec.{eqb, leb, ltb}
use lib.IntN.{nat_abs}
use lib.ListN.{length}
use borrow.Author.Tests.{eqb-true, leb-true, ltb-true}
use Rattle.refusal.specs.Limit.{max_worth}
use Rattle.field.specs.Total.{in_limits}
use Rattle.vector.specs.Rounds.{rounds_of, size}
use Rattle.vector.proofs.Rounds.{size-halves, size-last}
use Rattle.phase.specs.declared.Next.{Next}
use Rattle.phase.specs.declared.Next.TheVariants.{Message, Challenge, Ends, Openings}
use Rattle.phase.specs.declared.Kind.TheVariants.{Shut}
use Rattle.phase.specs.Cases.{is_full, waits}
use Rattle.phase.specs.Order.{round_fits, kind_fits}
use Rattle.phase.proofs.Facts.{waits-for}
use Rattle.item.specs.Start.{version_kept}
use Rattle.prover.specs.declared.Run.{Run}
use Rattle.pass.specs.declared.Pass.{Pass}
use Rattle.prover.specs.Level.{level_of, fold_size}
use Rattle.pass.specs.Formed.{pass_formed, turn_formed}
use Rattle.prover.specs.WellFormed.{run_formed, well_formed}
use Rattle.prover.specs.Calls.{both_long}
use Rattle.prover.specs.Full.{message_turn, ends_turn, opening_turn}
use Rattle.prover.specs.Challenge.{challenge_turn}
use Rattle.pass.proofs.Facts.{size_32}
use Rattle.prover.proofs.Facts.{holds, fails, Formed, formed}

-- a record that a call returned, of a run in full mode
abbrev pub full_formed : ℕ → Run → Pass → Bool
full_formed p r s = cond (well_formed p r s) (is_full r.mode) false

-- the tests, but those of the counts and sums of the pass
pub record Tests (p : ℕ) (r : Run) (s : Pass) : Type 0 where
  pub version : version_kept r.start.plain r.start.version ≡ true
  pub some : ltb r.start.items 1 ≡ false
  pub most : ltb 32768 r.start.items ≡ false
  pub rounds : eqb r.start.rounds (rounds_of r.start.items) ≡ true
  pub fits : round_fits r.next r.round r.start.rounds ≡ true
  pub total : in_limits p r.total ≡ true
  pub kind : kind_fits s.kind r.mode r.next ≡ true
  pub rest : cond (ltb r.start.items s.taken) false (cond (eqb s.fcount s.gcount) (cond (ltb 15 s.fcount) false (leb (nat_abs s.total) (s.taken * max_worth))) false) ≡ true

pub tests : (p : ℕ) (r : Run) (s : Pass) → well_formed p r s ≡ true → Tests p r s
unfolding well_formed turn_formed pass_formed
tests p r s e =
    let a = holds (run_formed p r) (pass_formed r.start.items r.mode r.next s) e in
    let v = holds (version_kept r.start.plain r.start.version) _ a.0 in
    let b = fails (ltb r.start.items 1) _ v.1 in
    let c = fails (ltb 32768 r.start.items) _ b.1 in
    let d = holds (eqb r.start.rounds (rounds_of r.start.items)) _ c.1 in
    let f = holds (round_fits r.next r.round r.start.rounds) _ d.1 in
    let k = holds (kind_fits s.kind r.mode r.next) _ a.1 in
    record { version = v.0; some = b.0; most = c.0; rounds = d.0; fits = f.0; total = f.1; kind = k.0; rest = k.1 }

pub tested : (p : ℕ) (r : Run) (s : Pass) → Tests p r s → well_formed p r s ≡ true
unfolding well_formed turn_formed pass_formed
tested p r s t = rw (t.version, t.some, t.most, t.rounds, t.fits, t.total, t.kind) t.rest

-- what a call whose turn it is knows of the run
module _ (p : ℕ) (r : Run) (s : Pass) where
  -- a round in which a message or a challenge is next
  pub record InRound (what : Next) : Type 0 where
    pub formed : Formed r s
    pub tests : Tests p r s
    pub next : r.next ≡ what
    pub less : r.round < r.start.rounds
    pub few : r.round < 15
    pub level : level_of r Shut ≡ r.round
    pub long : fold_size r ≡ size r.start.rounds r.round
    pub half : fold_size r / 2 ≡ size r.start.rounds (suc r.round)
    pub halves : fold_size r ≡ 2 * size r.start.rounds (suc r.round)

  in_round : (what : Next) → well_formed p r s ≡ true → r.next ≡ what → (round_fits what r.round r.start.rounds ≡ true → r.round < r.start.rounds)
      → (level_of r Shut ≡ r.round) → InRound what
  in_round what e same below level =
      let h = formed p r s e in
      let t = tests p r s e in
      let less : r.round < r.start.rounds = below (ap (λ a. round_fits a r.round r.start.rounds) (sym same) ∙ t.fits) in
      let few : r.start.rounds ≤ 15 = h.few in
      let long : fold_size r ≡ size r.start.rounds r.round = size_32 r.start.rounds (level_of r Shut) few ∙ ap (size r.start.rounds) level in
      let halves : fold_size r ≡ 2 * size r.start.rounds (suc r.round) = long ∙ size-halves r.start.rounds r.round less in
      record {
        formed = h;
        tests = t;
        next = same;
        less = less;
        few = omega arith;
        level = level;
        long = long;
        half = omega arith;
        halves = halves;
      }

  pub message-round : message_turn p r s ≡ true → InRound Message
  message-round e =
      let a = holds (full_formed p r s) (waits Message r.next) e in
      let same = waits-for Message r.next a.1 in
      in_round Message (holds (well_formed p r s) (is_full r.mode) a.0).0 same (λ t. ltb-true r.round r.start.rounds t) (rw same)

  pub challenge-round : challenge_turn p r s ≡ true → InRound Challenge
  challenge-round e =
      let a = holds (well_formed p r s) (waits Challenge r.next) e in
      let same = waits-for Challenge r.next a.1 in
      in_round Challenge a.0 same (λ t. ltb-true r.round r.start.rounds t) (rw same)

  -- the end values are next
  pub record AtEnds : Type 0 where
    pub formed : Formed r s
    pub tests : Tests p r s
    pub full : is_full r.mode ≡ true
    pub next : r.next ≡ Ends
    pub all : r.round ≡ r.start.rounds
    pub level : level_of r Shut ≡ r.start.rounds
    pub long : fold_size r ≡ 1

  pub at-ends : ends_turn p r s ≡ true → AtEnds
  at-ends e =
      let a = holds (full_formed p r s) (waits Ends r.next) e in
      let b = holds (well_formed p r s) (is_full r.mode) a.0 in
      let same = waits-for Ends r.next a.1 in
      let h = formed p r s b.0 in
      let t = tests p r s b.0 in
      let level : level_of r Shut ≡ r.start.rounds = rw same in
      record {
        formed = h;
        tests = t;
        full = b.1;
        next = same;
        all = eqb-true r.round r.start.rounds (ap (λ a. round_fits a r.round r.start.rounds) (sym same) ∙ t.fits);
        level = level;
        long = size_32 r.start.rounds (level_of r Shut) h.few ∙ ap (size r.start.rounds) level ∙ size-last r.start.rounds;
      }

  pub both-there : (f g : List ℕ) → ends_turn p r s ≡ true → both_long r (length f) (length g) ≡ true → (1 ≤ length f) × (1 ≤ length g)
  both-there f g e l =
      let one = (at-ends e).long in
      let a = holds (leb (fold_size r) (length f)) (leb (fold_size r) (length g)) l in
      (omega (arith, leb-true (fold_size r) (length f) a.0), omega (arith, leb-true (fold_size r) (length g) a.1))

  -- openings are next
  pub record AtOpenings : Type 0 where
    pub formed : Formed r s
    pub next : r.next ≡ Openings
    pub some : 0 < r.start.rounds
    pub level : level_of r Shut ≡ 0
    pub long : fold_size r ≡ size r.start.rounds 0

  pub at-openings : opening_turn p r s ≡ true → AtOpenings
  at-openings e =
      let a = holds (full_formed p r s) (cond (waits Openings r.next) (ltb 0 r.start.rounds) false) e in
      let b = holds (well_formed p r s) (is_full r.mode) a.0 in
      let d = holds (waits Openings r.next) (ltb 0 r.start.rounds) a.1 in
      let same = waits-for Openings r.next d.0 in
      let h = formed p r s b.0 in
      let level : level_of r Shut ≡ 0 = rw same in
      record {
        formed = h;
        next = same;
        some = ltb-true 0 r.start.rounds d.1;
        level = level;
        long = size_32 r.start.rounds (level_of r Shut) h.few ∙ ap (size r.start.rounds) level;
      }
