-- What a well-formed record tells.
use mathlib.Core.Path.{◌≡◌, refl, sym}
use mathlib.Core.Bool.{Bool, true, false, cond, true≢false}
use Prim.Native.Nat.{ℕ, ◌≤◌}
use native.Mathlib.Omega.{arith}
use lib.Dec.{eqb, ltb}
use borrow.Author.Tests.{eqb-true, ltb-false}
use Rattle.vector.specs.Rounds.{rounds_of}
use Rattle.vector.proofs.Rounds.{rounds-at-most}
use Rattle.phase.specs.Order.{round_fits, kind_fits}
use Rattle.phase.proofs.Facts.{round_at_most}
use Rattle.item.specs.Start.{version_kept}
use Rattle.prover.specs.declared.Run.{Run}
use Rattle.pass.specs.declared.Pass.{Pass}
use Rattle.pass.specs.Formed.{pass_formed, turn_formed}
use Rattle.prover.specs.WellFormed.{run_formed, well_formed}

-- a test that must hold, and one that must not
pub holds : (b x : Bool) → cond b x false ≡ true → (b ≡ true) × (x ≡ true)
holds true x e = (refl, e)
holds false x e = absurd (true≢false (sym e))

pub fails : (b x : Bool) → cond b false x ≡ true → (b ≡ false) × (x ≡ true)
fails true x e = absurd (true≢false (sym e))
fails false x e = (refl, e)

-- what safety needs of a record that a call returned
pub record Formed (r : Run) (s : Pass) : Type 0 where
  pub some : 1 ≤ r.start.items
  pub most : r.start.items ≤ 32768
  pub rounds : r.start.rounds ≡ rounds_of r.start.items
  pub few : r.start.rounds ≤ 15
  pub fits : round_fits r.next r.round r.start.rounds ≡ true
  pub round : r.round ≤ r.start.rounds
  pub taken : s.taken ≤ r.start.items
  pub counts : s.fcount ≡ s.gcount
  pub room : s.fcount ≤ 15

pub formed : (p : ℕ) (r : Run) (s : Pass) → well_formed p r s ≡ true → Formed r s
unfolding well_formed turn_formed pass_formed
formed p r s e =
    let a = holds (run_formed p r) (pass_formed r.start.items r.mode r.next s) e in
    let v = holds (version_kept r.start.plain r.start.version) _ a.0 in
    let b = fails (ltb r.start.items 1) _ v.1 in
    let c = fails (ltb 32768 r.start.items) _ b.1 in
    let d = holds (eqb r.start.rounds (rounds_of r.start.items)) _ c.1 in
    let f = holds (round_fits r.next r.round r.start.rounds) _ d.1 in
    let k = holds (kind_fits s.kind r.mode r.next) _ a.1 in
    let t = fails (ltb r.start.items s.taken) _ k.1 in
    let q = holds (eqb s.fcount s.gcount) _ t.1 in
    let w = fails (ltb 15 s.fcount) _ q.1 in
    let n = eqb-true _ _ d.0 in
    record {
      some = ltb-false _ _ b.0;
      most = ltb-false _ _ c.0;
      rounds = n;
      few = omega (arith, n, rounds-at-most r.start.items (ltb-false _ _ c.0));
      fits = f.0;
      round = round_at_most r.next r.round r.start.rounds f.0;
      taken = ltb-false _ _ t.0;
      counts = eqb-true _ _ q.0;
      room = ltb-false _ _ w.0;
    }
