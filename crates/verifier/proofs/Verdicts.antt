-- The verdict after n messages: demand 2, and that the messages of the vectors are accepted.
use mathlib.Core.Path.{◌≡◌, refl, sym, ap, ap₂, ◌∙◌}
use mathlib.Core.Bool.{Bool, true, false, cond}
use mathlib.Core.Logic.{◌↔◌, ◌⊎◌, inl, inr, ⊎_elim}
use Prim.Native.Nat.{ℕ, zero, suc, ◌+◌, ◌-◌, ◌^◌, ◌≤◌, ◌<◌}
use native.Mathlib.Numerals.{add-one}
use native.Mathlib.Omega.{arith}
use lib.Dec.{eqb, ltb}
use borrow.Author.Tests.{eq-eqb, eqb-true, eqb-false, lt-ltb, le-ltb, ltb-false}
use Rattle.algebra.specs.Mod.{mul_mod}
use Rattle.refusal.specs.Outcome.{answered, refused}
use Rattle.refusal.specs.Number as number
use Rattle.vector.specs.Rounds.{size}
use Rattle.vector.specs.Vector.{Vector, at, dot}
use Rattle.vector.specs.Fold.{fold, end_value}
use Rattle.vector.specs.Message.{Message, passes, next_claim}
use Rattle.vector.specs.Message as vector
use Rattle.vector.proofs.Messages.{message-passes, message-next, first-claim, last-claim}
use Rattle.verifier.specs.declared.Verifier.{Verifier}
use Rattle.verifier.specs.Records.{leaves, Finding, yes, no}
use Rattle.verifier.specs.WellFormed.{well_formed}
use Rattle.verifier.specs.Claims.{passed_with, failed_now, hears, finds}
use Rattle.verifier.specs.Openings.{first_fault}
use Rattle.verifier.specs.Calls.{message_turn, all_reduced3, message, verdict_turn, verdict}
use Rattle.verifier.specs.Trips.{after_calls, messages, claim_at, message_passes, first_failed, verdict_of}
use Rattle.verifier.proofs.Invariant.{parts_of_lem, formed_of, closed-taken, closed-turn}
use Rattle.verifier.proofs.Faults.{Passes, Fails, fault_cases, fault_most, fault_same, passes-all}

-- a verifier with another claim, round and failure
abbrev pub with_claim : Verifier → ℕ → ℕ → Bool → Verifier
with_claim v claim round failed =
    record {
      start = v.start;
      challenges = v.challenges;
      closed = v.closed;
      taken = v.taken;
      fsum = v.fsum;
      gsum = v.gsum;
      claim = claim;
      round = round;
      failed = failed;
    }

formed_with : (v : Verifier) → well_formed v ≡ true → v.closed ≡ true → (claim round : ℕ) (failed : Bool) → round ≤ v.start.rounds
    → well_formed (with_claim v claim round failed) ≡ true
formed_with v h closed claim round failed le =
    let parts = parts_of_lem v h in
    let w = with_claim v claim round failed in
    formed_of w
    (record {
      version = parts.version;
      count = parts.count;
      rounds = parts.rounds;
      turn = closed-turn w closed (closed-taken v parts.turn closed) le;
    })

-- a call that is next is answered; one that is not changes nothing
pub message-heard : (p : ℕ) (w : Verifier) (m : Message) → well_formed w ≡ true → message_turn w ≡ true
    → all_reduced3 p m.even m.cross m.odd ≡ true → message p w m.even m.cross m.odd ≡ answered (hears p w m)
unfolding message
message-heard p w m a b c = rw (a, b, c)

pub message-refused : (p : ℕ) (w : Verifier) (m : Message) → well_formed w ≡ true → message_turn w ≡ false
    → message p w m.even m.cross m.odd ≡ refused number.turn
unfolding message
message-refused p w m a b = rw (a, b)

pub verdict-found : (p : ℕ) (w : Verifier) → well_formed w ≡ true → verdict_turn w ≡ true → verdict p w ≡ answered (finds p w)
unfolding verdict
verdict-found p w a b = rw (a, b)

-- a closed verifier before its first message
pub record Closed (v : Verifier) : Type 0 where
  pub formed : well_formed v ≡ true
  pub closed : v.closed ≡ true
  pub going : v.failed ≡ false
  pub first : v.round ≡ 0

module _ (p : ℕ) (v : Verifier) (start : Closed v) (m : ℕ → Message)
    (reduced : (i : ℕ) → i < v.start.rounds → all_reduced3 p (m i).even (m i).cross (m i).odd ≡ true) where
  abbrev n : ℕ
  n = v.start.rounds

  abbrev claims : ℕ → ℕ
  claims i = claim_at p (at v.challenges) v.claim m i

  abbrev test : ℕ → Bool
  test i = message_passes p (at v.challenges) v.claim m i

  abbrev heard : ℕ → Verifier
  heard k = with_claim v (claims k) k false

  abbrev stopped : ℕ → Verifier
  stopped k = with_claim v (claims k) k true

  abbrev after : ℕ → Verifier
  after k = after_calls (messages p m) v k

  formed : (claim round : ℕ) (failed : Bool) → round ≤ n → well_formed (with_claim v claim round failed) ≡ true
  formed = formed_with v start.formed start.closed

  turn-of : (k : ℕ) → k < n → message_turn (heard k) ≡ true
  unfolding message_turn
  turn-of k h = rw (start.closed, lt-ltb k n h)

  no-turn : (k : ℕ) → message_turn (stopped k) ≡ false
  unfolding message_turn
  no-turn k = rw start.closed

  call-of : (k : ℕ) → k < n → messages p m (heard k) k ≡ answered (hears p (heard k) (m k))
  call-of k h = message-heard p (heard k) (m k) (formed (claims k) k false (omega arith)) (turn-of k h) (reduced k h)

  passed-step : (k : ℕ) → k < n → test k ≡ true → (leaves (heard k) (messages p m (heard k) k)).verifier ≡ heard (suc k)
  unfolding hears passed_with claim_at
  passed-step k h t = rw (call-of k h, t, add-one k)

  failed_step : (k : ℕ) → k < n → test k ≡ false → (leaves (heard k) (messages p m (heard k) k)).verifier ≡ stopped k
  unfolding hears failed_now
  failed_step k h t = rw (call-of k h, t)

  stays : (j k : ℕ) → j ≤ n → (leaves (stopped j) (messages p m (stopped j) k)).verifier ≡ stopped j
  stays j k h = rw (message-refused p (stopped j) (m k) (formed (claims j) j true h) (no-turn j))

  begins : v ≡ heard 0
  unfolding claim_at
  begins = ap₂ (λ k b. with_claim v v.claim k b) start.first start.going

  next : (k : ℕ) {w u : Verifier} → after k ≡ w → (leaves w (messages p m w k)).verifier ≡ u → after (suc k) ≡ u
  unfolding after_calls
  next k e s = ap (λ w. (leaves w (messages p m w k)).verifier) e ∙ s

  -- after k messages that passed
  all-heard : (k : ℕ) → k ≤ n → ((i : ℕ) → i < k → test i ≡ true) → after k ≡ heard k
  unfolding after_calls
  all-heard zero h t = begins
  all-heard (suc k) h t = next k (all-heard k (omega arith) (λ i l. t i (omega arith))) (passed-step k (omega arith) (t k (omega arith)))

  -- after message j, which failed, and d more
  after-no : (j : ℕ) → j < n → ((i : ℕ) → i < j → test i ≡ true) → test j ≡ false → (d : ℕ) → after (suc (j + d)) ≡ stopped j
  after-no j h t e zero =
      let z : j + 0 ≡ j = omega arith in
      rw z (next j (all-heard j (omega arith) t) (failed_step j h e))
  after-no j h t e (suc d) =
      let z : j + suc d ≡ suc (j + d) = omega arith in
      rw z (next (suc (j + d)) (after-no j h t e d) (stays j (suc (j + d)) (omega arith)))

  product : ℕ
  product = mul_mod p v.fsum v.gsum

  found : verdict p (heard n) ≡ answered (cond (eqb (claims n) product) yes (no n))
  unfolding verdict_turn finds product
  found = verdict-found p (heard n) (formed (claims n) n false (omega arith)) (rw (start.closed, eq-eqb n n refl))

  found-no : (j : ℕ) → j ≤ n → verdict p (stopped j) ≡ answered (no j)
  unfolding verdict_turn finds
  found-no j h = verdict-found p (stopped j) (formed (claims j) j true h) (rw start.closed)

  -- the record after n messages: stopped at the first that failed, if any
  pub ended : after n ≡ with_claim v (claims (first_fault test 0 n)) (first_fault test 0 n) (ltb (first_fault test 0 n) n)
  ended =
      ⊎_elim
      (λ (a : Passes test 0 n).
      let end : first_fault test 0 n ≡ n = a.end ∙ omega arith in
      all-heard n (omega arith) (λ i h. a.all i (omega arith) (omega arith)) ∙ (rw (end, le-ltb n n (omega arith))))
      (λ (a : Fails test 0 n).
      let j : ℕ = first_fault test 0 n in
      let less : first_fault test 0 n < n = omega (arith, a.below) in
      let same : n ≡ suc (first_fault test 0 n + (n - suc (first_fault test 0 n))) = omega arith in
      ap after same
      ∙ after-no j less (λ i h. a.before i (omega arith) h) a.fails (n - suc j)
      ∙ (rw (lt-ltb (first_fault test 0 n) n less)))
      (fault_cases test n 0)

  -- DEMAND 2, THE VERDICT
  pub verdict-after : verdict p (after n) ≡ answered (verdict_of p (at v.challenges) n v.claim m (mul_mod p v.fsum v.gsum))
  unfolding verdict_of product
  verdict-after = ap (verdict p) ended ∙ by (first_fault test 0 n) (fault_most test n) (ltb (first_fault test 0 n) n) refl
    where
      by : (j : ℕ) → j ≤ n → (b : Bool) → ltb j n ≡ b
          → verdict p (with_claim v (claims j) j b) ≡ answered (cond b (no j) (cond (eqb (claims n) product) yes (no n)))
      by j h true e = found-no j h
      by j h false e =
          let last : j ≡ n = (let le = ltb-false j n e in omega arith) in
          ap (λ k. verdict p (with_claim v (claims k) k false)) last ∙ found

-- each message meets its equation
abbrev pub AllPass : ℕ → (ℕ → ℕ) → ℕ → (ℕ → Message) → ℕ → Type 0
AllPass p c claim m n = (i : ℕ) → i < n → passes p (m i) ≡ claim_at p c claim m i

-- round k is the first whose message does not
pub record FirstNo (p : ℕ) (c : ℕ → ℕ) (claim : ℕ) (m : ℕ → Message) (n k : ℕ) : Type 0 where
  pub below : k < n
  pub before : AllPass p c claim m k
  pub fails : passes p (m k) ≡ claim_at p c claim m k → ⊥

-- every message passes, and the last claim is not the product
pub record LastNo (p : ℕ) (c : ℕ → ℕ) (claim : ℕ) (m : ℕ → Message) (n product k : ℕ) : Type 0 where
  pub last : k ≡ n
  pub all : AllPass p c claim m n
  pub fails : claim_at p c claim m n ≡ product → ⊥

-- what each verdict says
abbrev pub VerdictSays : ℕ → (ℕ → ℕ) → ℕ → (ℕ → Message) → ℕ → ℕ → Finding → Type 0
VerdictSays p c claim m n product yes = AllPass p c claim m n × (claim_at p c claim m n ≡ product)
VerdictSays p c claim m n product (no k) = FirstNo p c claim m n k ⊎ LastNo p c claim m n product k

module _ (p : ℕ) (c : ℕ → ℕ) (n claim : ℕ) (m : ℕ → Message) (product : ℕ) where
  equation : (i : ℕ) → message_passes p c claim m i ≡ true → passes p (m i) ≡ claim_at p c claim m i
  equation i e = eqb-true (passes p (m i)) (claim_at p c claim m i) e

  unequal : (i : ℕ) → message_passes p c claim m i ≡ false → passes p (m i) ≡ claim_at p c claim m i → ⊥
  unequal i e = eqb-false (passes p (m i)) (claim_at p c claim m i) e

  -- the first round whose message fails; n where every one passes
  pub first_says : FirstNo p c claim m n (first_failed p c n claim m) ⊎ ((first_failed p c n claim m ≡ n) × AllPass p c claim m n)
  first_says =
      ⊎_elim
      (λ (a : Passes (message_passes p c claim m) 0 n).
      inr (a.end ∙ omega arith, λ i h. equation i (a.all i (omega arith) (omega arith))))
      (λ (a : Fails (message_passes p c claim m) 0 n).
      inl
      (record {
        below = omega (arith, a.below);
        before = λ i h. equation i (a.before i (omega arith) h);
        fails = unequal (first_failed p c n claim m) a.fails;
      }))
      (fault_cases (message_passes p c claim m) n 0)

  -- DEMAND 2, BOTH WAYS: yes where every message meets its equation and the last claim is the product, else the first round that failed,
  -- or n
  pub verdict-says : VerdictSays p c claim m n product (verdict_of p c n claim m product)
  unfolding verdict_of
  verdict-says =
      ⊎_elim
      (λ (a : FirstNo p c claim m n (first_failed p c n claim m)). rw (lt-ltb (first_failed p c n claim m) n a.below) (inl a))
      (λ (a : (first_failed p c n claim m ≡ n) × AllPass p c claim m n).
      rw (le-ltb (first_failed p c n claim m) n (omega (arith, a.0))) (by (eqb (claim_at p c claim m n) product) refl a.1))
      first_says
    where
      by : (b : Bool) → eqb (claim_at p c claim m n) product ≡ b → AllPass p c claim m n → VerdictSays p c claim m n product (cond b yes (no n))
      by true e all = (all, eqb-true (claim_at p c claim m n) product e)
      by false e all = inr (record { last = refl; all = all; fails = eqb-false (claim_at p c claim m n) product e })

  pub verdict-yes-if : AllPass p c claim m n → claim_at p c claim m n ≡ product → verdict_of p c n claim m product ≡ yes
  unfolding verdict_of
  verdict-yes-if all last =
      let ends = passes-all (message_passes p c claim m) n (λ i h. eq-eqb (passes p (m i)) (claim_at p c claim m i) (all i h)) in
      rw (le-ltb (first_failed p c n claim m) n (omega (arith, ends)), eq-eqb (claim_at p c claim m n) product last)

  pub verdict-yes : (verdict_of p c n claim m product ≡ yes) ↔ (AllPass p c claim m n × (claim_at p c claim m n ≡ product))
  verdict-yes = ((λ e. rw e at verdict-says), λ h. verdict-yes-if h.0 h.1)

-- the claims that the messages of two vectors lead to are the scalar products of their folds
claim-of : (p n : ℕ) (c : ℕ → ℕ) (f g : Vector) (i : ℕ)
    → claim_at p c (dot p (2 ^ n) f g) (vector.message p n c f g) i ≡ dot p (size n i) (fold p c i f) (fold p c i g)
unfolding claim_at
claim-of p n c f g zero = sym (first-claim p n c f g)
claim-of p n c f g (suc i) = message-next p n c f g i

-- COMPLETENESS: the true total with the true messages is accepted
pub true_messages : (p n : ℕ) (c : ℕ → ℕ) (f g : Vector)
    → verdict_of p c n (dot p (2 ^ n) f g) (vector.message p n c f g) (mul_mod p (end_value p c n f) (end_value p c n g)) ≡ yes
true_messages p n c f g =
    verdict-yes-if p c n (dot p (2 ^ n) f g) (vector.message p n c f g) (mul_mod p (end_value p c n f) (end_value p c n g))
    (λ i h. message-passes p n c f g i h ∙ sym (claim-of p n c f g i))
    (claim-of p n c f g n ∙ last-claim p n c f g)

-- only the messages below n count
pub claim-of_same : (p n : ℕ) (c : ℕ → ℕ) (claim : ℕ) (m l : ℕ → Message) → ((i : ℕ) → i < n → m i ≡ l i) → (i : ℕ) → i ≤ n
    → claim_at p c claim m i ≡ claim_at p c claim l i
unfolding claim_at
claim-of_same p n c claim m l same zero h = refl
claim-of_same p n c claim m l same (suc i) h = ap (λ x. next_claim p x (c i)) (same i (omega arith))

-- only the challenges below n count
module _ (p n : ℕ) (c d : ℕ → ℕ) (agree : (k : ℕ) → k < n → c k ≡ d k) (claim : ℕ) (m : ℕ → Message) where
  claim-same : (i : ℕ) → i ≤ n → claim_at p c claim m i ≡ claim_at p d claim m i
  unfolding claim_at
  claim-same zero h = refl
  claim-same (suc i) h = ap (next_claim p (m i)) (agree i (omega arith))

  pub failed_same : first_failed p c n claim m ≡ first_failed p d n claim m
  failed_same =
      fault_same (message_passes p c claim m) (message_passes p d claim m) n 0
      (λ i l h. ap (eqb (passes p (m i))) (claim-same i (omega arith)))

  pub verdict-same : (product : ℕ) → verdict_of p c n claim m product ≡ verdict_of p d n claim m product
  unfolding verdict_of
  verdict-same product =
      ap₂ (λ k x. cond (ltb k n) (no k) (cond (eqb x product) yes (no n))) failed_same (claim-same n (omega arith))
