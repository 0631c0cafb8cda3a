-- What the code of the proof file needs: the records while its messages are heard, and the numbers that it reads.
use mathlib.Core.Path.{◌≡◌, refl, sym, ap, ap₂, subst, ◌∙◌}
use mathlib.Core.Bool.{Bool, true, false, cond, not}
use mathlib.Core.List.{List}
use Prim.Native.Nat.{ℕ, zero, suc, ◌+◌, ◌*◌, ◌≤◌}
use native.Mathlib.Numerals.{add-one}
use native.Mathlib.Omega.{arith}
use lib.Dec.{eqb}
use lib.IntN.{ℤ}
use lib.ListN.{length}
use borrow.Author.Tests.{le-leb}
use Rattle.refusal.specs.Number as number
use Rattle.refusal.specs.declared.Refusal.{Refusal}
use Rattle.refusal.specs.Refusal.{number_of, index_of, told, refused_by}
use Rattle.refusal.specs.Outcome.{Outcome, answered, refused, refused_at}
use Rattle.field.specs.Integer.{image}
use Rattle.vector.specs.Message.{Message, passes}
use Rattle.std.specs.Prelude.{Option, Some, None}
use Rattle.vector.specs.declared.Message as code
use Rattle.vector.specs.Slice.{message_in}
use Rattle.wire.specs.declared.proof.Head.{Head}
use Rattle.wire.specs.declared.proof.Ends.{Ends}
use Rattle.wire.specs.Proof.{proof_rounds, proof_number, proof_size, message_end, proof_message, proof_ends, read_proof_of}
use Rattle.wire.proofs.ProofOf.{ProofOfSays, by_mark, by_version, by_other, by_own, proof-of_says, own-good}
use Rattle.wire.proofs.RoundTrip.{found_same}
use Rattle.claim.specs.Claim.{own_ends}
use Rattle.verifier.specs.declared.Verifier.{Verifier}
use Rattle.verifier.specs.Records.{Replied, Finding}
use Rattle.verifier.specs.WellFormed.{well_formed}
use Rattle.verifier.specs.Claims.{closed_with, passed_with, failed_now, hears, finds}
use Rattle.verifier.specs.Calls.{pass_open}
use Rattle.verifier.specs.ProofFile.{file_message, hears_next, hears_first, ends_agree, compares, after_file, judges, read_total, proof, leaves_judged}
use Rattle.verifier.proofs.Invariant.{both, not_true, parts_of_lem, open_turn, open_says}

-- an open pass has met no message
open_first : (v : Verifier) → pass_open v ≡ true → v.round ≡ 0
unfolding pass_open
open_first v h =
    let e = both (well_formed v) (not v.closed) h in
    (open_turn v (parts_of_lem v e.0).turn (not_true v.closed e.1)).first

either : {A : Type 0} (P : A → Type 0) (b : Bool) (x y : A) → P x → P y → P (cond b x y)
either P true x y a b = a
either P false x y a b = b

-- what a message keeps of the verifier, and how far the round goes
pub record Hearing (v w : Verifier) (k : ℕ) : Type 0 where
  pub rounds : w.start.rounds ≡ v.start.rounds
  pub most : w.round ≤ v.round + k

-- a refusal with no index is its number
abbrev Indexless : {A : Type 0} → Outcome A → Type 0
Indexless (answered x) = Unit {0}
Indexless (refused k) = Unit {0}
Indexless (refused_at k i) = ⊥

plainly_refused : (A : Type 0) {B : Type 0} (e : Refusal) → Indexless {A = A} (refused_by e) → ◌≡◌ {A = Outcome B} (refused_by e) (refused (number_of e))
plainly_refused A {B} e h = by (number_of e) (index_of e) h
  where
    by : (k : ℕ) (i : Option ℕ) → Indexless {A = A} (told k i) → ◌≡◌ {A = Outcome B} (told k i) (refused k)
    by k None h = refl
    by k (Some i) h = absurd h

module _ (p : ℕ) where
  heard-step : (v : Verifier) (m : Message) → Hearing v (hears_next p v m) 1
  unfolding hears_next hears passed_with failed_now
  heard-step v m =
      either (λ w. Hearing v w 1) v.failed v _ (record { rounds = refl; most = omega arith })
      (either (λ (s : Replied). Hearing v s.verifier 1) (eqb (passes p m) v.claim) _ _ (record { rounds = refl; most = omega arith })
      (record { rounds = refl; most = omega arith }))

  pub heard-first : (v : Verifier) (m : ℕ → Message) (k : ℕ) → Hearing v (hears_first p v m k) k
  unfolding hears_first
  heard-first v m zero = record { rounds = refl; most = omega arith }
  heard-first v m (suc k) =
      let a = heard-first v m k in
      let b = heard-step (hears_first p v m k) (m k) in
      record { rounds = b.rounds ∙ a.rounds; most = omega (arith, a.most, b.most) }

  pub none_heard : (v : Verifier) (m : ℕ → Message) → v ≡ hears_first p v m 0
  unfolding hears_first
  none_heard v m = refl

  pub one-heard : (v : Verifier) (m : ℕ → Message) (k : ℕ) {w u : Verifier} → w ≡ hears_first p v m k → u ≡ hears_next p w (m k)
      → u ≡ hears_first p v m (k + 1)
  unfolding hears_first
  one-heard v m k e s = rw (add-one k) (s ∙ ap (λ w. hears_next p w (m k)) e)

  pub heard-next : (v : Verifier) {m l : Message} {u : Verifier} → v.failed ≡ false → m ≡ l → u ≡ (hears p v m).verifier → u ≡ hears_next p v l
  unfolding hears_next
  heard-next v {m} {l} h same e =
      e ∙ ap (λ x. (hears p v x).verifier) same ∙ sym (ap (λ b. cond b v (hears p v l).verifier) h)

pub not_nothing : {A : Type 0} {x : A} → None ≡ Some x → ⊥
not_nothing e = let z : ◌≡◌ {A = ℕ} 0 1 = cc in omega arith

-- the message of a round that the file has
pub message-there : (file : List ℕ) (k : ℕ) → message_end k ≤ length file
    → proof_message file k ≡ Some (record { even = (file_message file k).even; cross = (file_message file k).cross; odd = (file_message file k).odd })
unfolding proof_message
message-there file k h = rw (le-leb (message_end k) (length file) h)

pub message-read : (file : List ℕ) (k : ℕ) {m : code.Message} → message_end k ≤ length file → Some m ≡ proof_message file k
    → message_in m ≡ file_message file k
message-read file k h e = ap message_in (found_same (e ∙ message-there file k h))

-- the end values of a file for this verifier
module _ (v : Verifier) (file : List ℕ) (own : proof_rounds file ≡ v.start.rounds) (long : proof_size v.start.rounds ≤ length file) where
  pub ends_there : proof_ends file ≡ Some (record { f = proof_number file (3 * v.start.rounds); g = proof_number file (3 * v.start.rounds + 1) })
  unfolding proof_ends
  ends_there =
      let e₀ : 10 + 12 * v.start.rounds ≡ 10 + 4 * (3 * v.start.rounds) = omega arith in
      let e₁ : 14 + 12 * v.start.rounds ≡ 10 + 4 * (3 * v.start.rounds + 1) = omega arith in
      rw (own, le-leb (proof_size v.start.rounds) (length file) long, e₀, e₁)

  pub compared : {ends : Ends} → Some ends ≡ proof_ends file → {b : Bool} → b ≡ own_ends ends.f ends.g v.fsum v.gsum
      → compares v file ≡ cond b v (failed_now v)
  unfolding compares ends_agree
  compared {ends} read e =
      let same = found_same (read ∙ ends_there) in
      rw (← ap (λ (x : Ends). x.f) same, ← ap (λ (x : Ends). x.g) same, ← e)

module _ (p : ℕ) (v : Verifier) (file : List ℕ) where
  pub close-keeps : (claim : ℕ) {u : Verifier} → u ≡ closed_with v claim → (u.round ≡ v.round) × (u.start.rounds ≡ v.start.rounds)
  unfolding closed_with
  close-keeps claim e = (ap (λ u. u.round) e, ap (λ u. u.start.rounds) e)

  -- one step after the other, as the code takes them
  pub judged : (total : ℤ) (claim : ℕ) {u heard w : Verifier} {o : Outcome Finding} → claim ≡ image p total → u ≡ closed_with v claim
      → heard ≡ hears_first p u (file_message file) u.start.rounds → w ≡ compares heard file
      → o ≡ answered (finds p w)
      → ◌≡◌ {A = Verifier × Outcome Finding} (w, o) (leaves_judged v (answered (judges p v total file)))
  unfolding after_file closed_with
  judged total claim {w = w} a b h e d =
      let all : w ≡ after_file p v total file =
      e
      ∙ ap (λ u. compares u file)
      (h ∙ ap (λ x. hears_first p x (file_message file) x.start.rounds) (b ∙ ap (closed_with v) a))
      in
      ap₂ (λ x y. (x, y)) all (d ∙ ap (λ u. answered (finds p u)) all)

  -- the rows of the call, one by one
  pub row_open : pass_open v ≡ false → refused number.order ≡ proof p v file
  unfolding proof
  row_open a = rw a

  pub row-file : pass_open v ≡ true → eqb v.taken v.start.items ≡ true → v.start.plain ≡ true → {o : Outcome Head} → o ≡ read_proof_of p v.start.rounds file
      → read_total o (λ total. judges p v total file) ≡ proof p v file
  unfolding proof
  row-file a b e f = rw (a, b, e, f)

  -- the same where the file is refused
  pub row-unread : pass_open v ≡ true → eqb v.taken v.start.items ≡ true → v.start.plain ≡ true → (e : Refusal) → refused_by e ≡ read_proof_of p v.start.rounds file
      → refused (number_of e) ≡ proof p v file
  row-unread a b d e read =
      let plainly = plainly_refused Head e (subst Indexless (sym read) (file-indexless (read_proof_of p v.start.rounds file) (proof-of_says p v.start.rounds file))) in
      row-file a b d (sym plainly ∙ read)
    where
      file-indexless : (o : Outcome Head) → ProofOfSays p v.start.rounds file o → Indexless o
      file-indexless o (by_mark bad) = tt
      file-indexless o (by_version m bad) = tt
      file-indexless o (by_other m s bad) = tt
      file-indexless (answered h) (by_own m s e g) = tt
      file-indexless (refused k) (by_own m s e g) = tt
      file-indexless (refused_at k i) (by_own m s e g) = absurd g

  -- what a file that reads well has
  pub record Ready : Type 0 where
    pub first : v.round ≡ 0
    pub few : v.start.rounds ≤ 15
    pub own : proof_rounds file ≡ v.start.rounds
    pub long : proof_size v.start.rounds ≤ length file

  pub file-ready : pass_open v ≡ true → {head : Head} → answered head ≡ read_proof_of p v.start.rounds file → Ready
  file-ready o {head} e =
      let a = own-good p v.start.rounds file head (sym e) in
      let f = open_says v o in
      let own = a.0.rounds ∙ a.1 in
      record {
        first = open_first v o;
        few = f.0.few;
        own = own;
        long = omega (arith, a.0.frame.size, own);
      }
