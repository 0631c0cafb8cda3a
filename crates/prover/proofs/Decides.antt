-- What a test says: a statement, both ways.
use mathlib.Core.Path.{◌≡◌, refl, sym, subst, ap₂}
use mathlib.Core.Bool.{Bool, true, false, ◌&&◌, ◌||◌}
use Prim.Native.Nat.{ℕ, ◌≤◌, ◌<◌}
use lib.Dec.{leb, ltb, eqb}
use borrow.Author.Tests.{le-leb, leb-true, lt-ltb, ltb-true, eqb-true}
use Rattle.refusal.proofs.Outcome.{both, failed}
use Rattle.vector.specs.Slice.{is_nonzero}
use Rattle.item.specs.Version.{version_fits}

pub record Decides (test : Bool) (A : Type 0) : Type 0 where
  pub so : test ≡ true → A
  pub back : A → test ≡ true

pub decide_both : {a b : Bool} {A B : Type 0} → Decides a A → Decides b B → Decides (a && b) (A × B)
decide_both {a} {b} p q =
    record {
      so = λ h. let e = both a b h in (p.so e.0, q.so e.1);
      back = λ h. ap₂ ◌&&◌ (p.back h.0) (q.back h.1);
    }

-- the test failed, so what it asks does not hold
pub not_so : {test : Bool} {A : Type 0} → Decides test A → test ≡ false → A → ⊥
not_so d bad h = failed bad (d.back h)

pub at_most : (a b : ℕ) → Decides (leb a b) (a ≤ b)
at_most a b = record { so = leb-true a b; back = le-leb a b }

pub below : (a b : ℕ) → Decides (ltb a b) (a < b)
below a b = record { so = ltb-true a b; back = lt-ltb a b }

-- from 1 to p - 1
abbrev pub Nonzero : ℕ → ℕ → Type 0
Nonzero p x = (0 < x) × (x < p)

pub nonzero : (p x : ℕ) → Decides (is_nonzero p x) (Nonzero p x)
nonzero p x = decide_both (below 0 x) (below x p)

-- version 1 or 2
pub data IsVersion : ℕ → Type 0 where
  one : IsVersion 1
  two : IsVersion 2

pub version-fits : (version : ℕ) → Decides (version_fits version) (IsVersion version)
version-fits version = record { so = by (eqb version 1) refl; back = back version }
  where
    by : (t : Bool) → eqb version 1 ≡ t → (t || eqb version 2) ≡ true → IsVersion version
    by true e h = subst IsVersion (sym (eqb-true version 1 e)) one
    by false e h = subst IsVersion (sym (eqb-true version 2 h)) two

    back : (v : ℕ) → IsVersion v → version_fits v ≡ true
    back v one = refl
    back v two = refl
