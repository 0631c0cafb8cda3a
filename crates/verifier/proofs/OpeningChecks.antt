-- The opening check: yes exactly where the opening equation holds for every j in both vectors, else the first vector and j that fail.
use mathlib.Core.Path.{◌≡◌, refl}
use mathlib.Core.Bool.{Bool, true, false, cond}
use mathlib.Core.List.{List}
use mathlib.Core.Logic.{◌↔◌, ⊎_elim}
use Prim.Native.Nat.{ℕ, ◌+◌, ◌*◌, ◌<◌}
use native.Mathlib.Omega.{arith}
use lib.Dec.{ltb}
use borrow.Author.Tests.{lt-ltb, le-ltb}
use Rattle.verifier.specs.declared.Verifier.{Verifier}
use Rattle.verifier.specs.Records.{OpeningFinding, holds, fails_f, fails_g}
use Rattle.verifier.specs.Openings.{first_fault, opens_at, opening_finds}
use Rattle.verifier.proofs.Faults.{Passes, Fails, fault_cases, passes-all}

-- the equation holds for j = 1 to n; k is j - 1
abbrev pub AllHold : (ℕ → Bool) → ℕ → Type 0
AllHold test n = (k : ℕ) → k < n → test k ≡ true

-- j, from 1 to n, is the first that fails
pub record FirstFails (test : ℕ → Bool) (n j : ℕ) : Type 0 where
  pub place : ℕ
  pub next : j ≡ place + 1
  pub below : place < n
  pub before : (k : ℕ) → k < place → test k ≡ true
  pub fails : test place ≡ false

-- what each answer says of the tests of f and of g
abbrev pub OpeningSays : (ℕ → Bool) → (ℕ → Bool) → ℕ → OpeningFinding → Type 0
OpeningSays f g n holds = AllHold f n × AllHold g n
OpeningSays f g n (fails_f j) = FirstFails f n j
OpeningSays f g n (fails_g j) = AllHold f n × FirstFails g n j

pick : (f g : ℕ → Bool) (n : ℕ) → OpeningFinding
pick f g n =
    cond (ltb (first_fault f 0 n) n) (fails_f (first_fault f 0 n + 1))
    (cond (ltb (first_fault g 0 n) n) (fails_g (first_fault g 0 n + 1)) holds)

module _ (f g : ℕ → Bool) (n : ℕ) where
  all_of : (test : ℕ → Bool) → Passes test 0 n → AllHold test n
  all_of test a k h = a.all k (omega arith) (omega arith)

  first_of : (test : ℕ → Bool) → Fails test 0 n → FirstFails test n (first_fault test 0 n + 1)
  first_of test a =
      record {
        place = first_fault test 0 n;
        next = refl;
        below = omega (arith, a.below);
        before = λ k h. a.before k (omega arith) h;
        fails = a.fails;
      }

  none_of : (test : ℕ → Bool) → Passes test 0 n → ltb (first_fault test 0 n) n ≡ false
  none_of test a = le-ltb (first_fault test 0 n) n (omega (arith, a.end))

  one_of : (test : ℕ → Bool) → Fails test 0 n → ltb (first_fault test 0 n) n ≡ true
  one_of test a = lt-ltb (first_fault test 0 n) n (omega (arith, a.below))

  pick_says : OpeningSays f g n (pick f g n)
  unfolding pick
  pick_says =
      ⊎_elim
      (λ (a : Passes f 0 n).
      ⊎_elim (λ (b : Passes g 0 n). rw (none_of f a, none_of g b) (all_of f a, all_of g b))
      (λ (b : Fails g 0 n). rw (none_of f a, one_of g b) (all_of f a, first_of g b))
      (fault_cases g n 0))
      (λ (a : Fails f 0 n). rw (one_of f a) (first_of f a))
      (fault_cases f n 0)

  pick_holds : AllHold f n → AllHold g n → pick f g n ≡ holds
  unfolding pick
  pick_holds a b =
      rw (le-ltb (first_fault f 0 n) n (omega (arith, passes-all f n a)), le-ltb (first_fault g 0 n) n (omega (arith, passes-all g n b)))

module _ (p : ℕ) (v : Verifier) (b : ℕ) (values : List ℕ) where
  abbrev F : ℕ → Bool
  F k = opens_at p v b values 0 k

  abbrev G : ℕ → Bool
  G k = opens_at p v b values (3 * v.start.rounds) k

  -- DEMAND 2, THE OPENING CHECK
  pub opening-says : OpeningSays F G v.start.rounds (opening_finds p v b values)
  unfolding opening_finds pick
  opening-says = pick_says F G v.start.rounds

  pub opening-yes : (opening_finds p v b values ≡ holds) ↔ (AllHold F v.start.rounds × AllHold G v.start.rounds)
  unfolding opening_finds pick
  opening-yes = (
    (λ e. rw e at opening-says),
    λ h. pick_holds F G v.start.rounds h.0 h.1,
  )
