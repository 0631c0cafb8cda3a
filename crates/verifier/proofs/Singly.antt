-- Messages heard in a row are the same calls given singly, and with the end values they lead to a verdict.
use mathlib.Core.Path.{◌≡◌, refl, sym, ap, ◌∙◌}
use mathlib.Core.Bool.{Bool, true, false, cond, true≢false}
use mathlib.Core.List.{List}
use Prim.Native.Nat.{ℕ, zero, suc, ◌≤◌, ◌<◌}
use native.Mathlib.Omega.{arith}
use lib.Dec.{eqb, ltb}
use borrow.Author.Tests.{eq-eqb, lt-ltb, le-ltb}
use Rattle.algebra.specs.Mod.{mul_mod}
use Rattle.vector.specs.Vector.{at}
use Rattle.vector.specs.Message.{Message, passes}
use Rattle.verifier.specs.declared.Verifier.{Verifier}
use Rattle.verifier.specs.Reply as reply
use Rattle.verifier.specs.Records.{Replied, leaves, no}
use Rattle.verifier.specs.WellFormed.{well_formed}
use Rattle.verifier.specs.Claims.{passed_with, failed_now, hears, finds}
use Rattle.verifier.specs.Calls.{message_turn, all_reduced3, message, verdict_turn, verdict}
use Rattle.verifier.specs.ProofFile.{file_message, hears_next, hears_first, ends_agree, compares}
use Rattle.verifier.specs.Trips.{after_calls, messages, claim_at, first_failed, verdict_of}
use Rattle.verifier.proofs.Invariant.{parts_of_lem, formed_of, formed_says, closed-taken, closed-turn}
use Rattle.verifier.proofs.Kept.{message-kept}
use Rattle.verifier.proofs.Answered.{answered_same}
use Rattle.verifier.proofs.Runs.{AllReduced}
use Rattle.verifier.proofs.Verdicts.{Closed, with_claim, ended, verdict-after, message-heard, message-refused, verdict-found}

-- the record after k messages heard in a row: it has met them all, or it has failed
pub record Going (v w : Verifier) (k : ℕ) : Type 0 where
  pub formed : well_formed w ≡ true
  pub closed : w.closed ≡ true
  pub rounds : w.start.rounds ≡ v.start.rounds
  pub place : w.failed ≡ false → w.round ≡ k

module _ (p : ℕ) (v : Verifier) where
  -- a message heard in a row is the call `message`
  next-call : (w : Verifier) (k : ℕ) (m : Message) → Going v w k → k < v.start.rounds → all_reduced3 p m.even m.cross m.odd ≡ true
      → hears_next p w m ≡ (leaves w (message p w m.even m.cross m.odd)).verifier
  unfolding hears_next message_turn
  next-call w k m g h r = by w.failed refl
    where
      by : (b : Bool) → w.failed ≡ b → cond b w (hears p w m).verifier ≡ (leaves w (message p w m.even m.cross m.odd)).verifier
      by true e = sym (ap (λ o. (leaves w o).verifier) (message-refused p w m g.formed (rw (g.closed, e))))
      by false e =
          let turn : message_turn w ≡ true = rw (g.closed, e, lt-ltb w.round w.start.rounds (omega (arith, g.place e, g.rounds))) in
          sym (ap (λ o. (leaves w o).verifier) (message-heard p w m g.formed turn r))

  next-going : (w : Verifier) (k : ℕ) (m : Message) → Going v w k → k < v.start.rounds → all_reduced3 p m.even m.cross m.odd ≡ true
      → Going v (hears_next p w m) (suc k)
  unfolding hears_next hears passed_with failed_now
  next-going w k m g h r =
      let keeps = step w.failed refl in
      record {
        formed = ap well_formed (next-call w k m g h r) ∙ message-kept p w g.formed m.even m.cross m.odd;
        closed = keeps.0;
        rounds = keeps.1;
        place = keeps.2;
      }
    where
      Keeps : Verifier → Type 0
      Keeps u = (u.closed ≡ true) × (u.start.rounds ≡ v.start.rounds) × (u.failed ≡ false → u.round ≡ suc k)

      heard : (b : Bool) → w.failed ≡ false
          → Keeps
          (cond {A = Replied} b (record { verifier = passed_with p w m; reply = reply.passed })
          (record { verifier = failed_now w; reply = reply.no w.round })
          ).verifier
      heard true e = (g.closed, g.rounds, λ x. omega (arith, g.place e))
      heard false e = (g.closed, g.rounds, λ x. absurd (true≢false x))

      step : (b : Bool) → w.failed ≡ b → Keeps (cond b w (hears p w m).verifier)
      step true e = (g.closed, g.rounds, λ x. absurd (true≢false (sym e ∙ x)))
      step false e = heard (eqb (passes p m) w.claim) e

  -- so are all of them
  module _ (start : Closed v) (m : ℕ → Message) (reduced : AllReduced p v.start.rounds m) where
    all-going : (k : ℕ) → k ≤ v.start.rounds → Going v (hears_first p v m k) k
    unfolding hears_first
    all-going zero h = record { formed = start.formed; closed = start.closed; rounds = refl; place = λ e. start.first }
    all-going (suc k) h =
        next-going (hears_first p v m k) k (m k) (all-going k (omega arith)) (omega arith) (reduced k (omega arith))

    pub singly : (k : ℕ) → k ≤ v.start.rounds → hears_first p v m k ≡ after_calls (messages p m) v k
    unfolding hears_first after_calls
    singly zero h = refl
    singly (suc k) h =
        next-call (hears_first p v m k) k (m k) (all-going k (omega arith)) (omega arith) (reduced k (omega arith))
        ∙ ap (λ w. (leaves w (messages p m w k)).verifier) (singly k (omega arith))

-- a record whose verdict is reached: it is given, and no message is next
pub record Done (w : Verifier) : Type 0 where
  pub formed : well_formed w ≡ true
  pub closed : w.closed ≡ true
  pub turn : verdict_turn w ≡ true
  pub over : message_turn w ≡ false

turn-done : (w : Verifier) → w.closed ≡ true → (w.failed ≡ false → w.round ≡ w.start.rounds) → (verdict_turn w ≡ true) × (message_turn w ≡ false)
unfolding verdict_turn message_turn
turn-done w c h = by w.failed refl
  where
    by : (b : Bool) → w.failed ≡ b
        → (cond w.closed (cond b true (eqb w.round w.start.rounds)) false ≡ true)
        × (cond w.closed (cond b false (ltb w.round w.start.rounds)) false ≡ false)
    by true e = (rw c, rw c)
    by false e =
        let last = h e in
        (rw (c, eq-eqb w.round w.start.rounds last), rw (c, le-ltb w.round w.start.rounds (omega arith)))

module _ (v w : Verifier) (g : Going v w v.start.rounds) where
  done-heard : Done w
  done-heard =
      let t = turn-done w g.closed (λ e. g.place e ∙ sym g.rounds) in
      record { formed = g.formed; closed = g.closed; turn = t.0; over = t.1 }

  failed_formed : well_formed (failed_now w) ≡ true
  unfolding failed_now
  failed_formed =
      let a = parts_of_lem w g.formed in
      let f = formed_says w g.formed in
      formed_of (failed_now w)
      (record {
        version = a.version;
        count = a.count;
        rounds = a.rounds;
        turn = closed-turn (failed_now w) g.closed (closed-taken w a.turn g.closed) f.turn;
      })

  done-failed : Done (failed_now w)
  unfolding failed_now
  done-failed =
      let t = turn-done (failed_now w) g.closed (λ e. absurd (true≢false e)) in
      record { formed = failed_formed; closed = g.closed; turn = t.0; over = t.1 }

  pub done-compared : (file : List ℕ) → Done (compares w file)
  unfolding compares
  done-compared file = by (ends_agree w file)
    where
      by : (b : Bool) → Done (cond b w (failed_now w))
      by true = done-heard
      by false = done-failed

failed_finds : (p : ℕ) (w : Verifier) → finds p (failed_now w) ≡ no w.round
unfolding finds failed_now
failed_finds p w = refl

-- the verdict after the messages and the end values, from a closed verifier
module _ (p : ℕ) (v : Verifier) (start : Closed v) (file : List ℕ) (reduced : AllReduced p v.start.rounds (file_message file)) where
  abbrev heard : Verifier
  heard = hears_first p v (file_message file) v.start.rounds

  abbrev failing : ℕ
  failing = first_failed p (at v.challenges) v.start.rounds v.claim (file_message file)

  pub heard-going : Going v heard v.start.rounds
  heard-going = all-going p v start (file_message file) reduced v.start.rounds (omega arith)

  heard-ended : heard ≡ with_claim v (claim_at p (at v.challenges) v.claim (file_message file) failing) failing (ltb failing v.start.rounds)
  heard-ended = singly p v start (file_message file) reduced v.start.rounds (omega arith) ∙ ended p v start (file_message file) reduced

  heard-finds : finds p heard ≡ verdict_of p (at v.challenges) v.start.rounds v.claim (file_message file) (mul_mod p v.fsum v.gsum)
  heard-finds =
      let d = done-heard v heard heard-going in
      answered_same
      (sym (verdict-found p heard d.formed d.turn)
      ∙ ap (verdict p) (singly p v start (file_message file) reduced v.start.rounds (omega arith))
      ∙ verdict-after p v start (file_message file) reduced)

  pub agree_same : ends_agree heard file ≡ ends_agree v file
  unfolding ends_agree
  agree_same = ap (λ w. ends_agree w file) heard-ended

  -- as if the end values had been compared after the verdict: no at the first round that failed, or n
  pub compared_finds :
      finds p (compares heard file)
      ≡ cond (ends_agree v file)
      (verdict_of p (at v.challenges) v.start.rounds v.claim (file_message file) (mul_mod p v.fsum v.gsum))
      (no failing)
  unfolding compares
  compared_finds = ap (λ b. finds p (cond b heard (failed_now heard))) agree_same ∙ by (ends_agree v file)
    where
      by : (b : Bool)
          → finds p (cond b heard (failed_now heard))
          ≡ cond b (verdict_of p (at v.challenges) v.start.rounds v.claim (file_message file) (mul_mod p v.fsum v.gsum)) (no failing)
      by true = heard-finds
      by false = failed_finds p heard ∙ ap (λ w. no w.round) heard-ended
