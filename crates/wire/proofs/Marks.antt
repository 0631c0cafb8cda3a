-- What a mark says of its file.
use mathlib.Core.Path.{◌≡◌}
use mathlib.Core.Bool.{true}
use mathlib.Core.List.{List}
use Prim.Native.Nat.{ℕ, ◌≤◌}
use lib.ListN.{length, get_or}
use lib.Dec.{leb, eqb}
use borrow.Author.Tests.{leb-true, eqb-true, le-leb, eq-eqb}
use Rattle.refusal.proofs.Outcome.{both}
use Rattle.wire.specs.Header.{marked}

-- the mark in words
pub record Mark (letter least : ℕ) (file : List ℕ) : Type 0 where
  pub long : least ≤ length file
  pub first : get_or file 0 0 ≡ 82
  pub second : get_or file 1 0 ≡ 86
  pub third : get_or file 2 0 ≡ letter

pub mark_of : (letter least : ℕ) (file : List ℕ) → marked letter least file ≡ true → Mark letter least file
unfolding marked
mark_of letter least file h =
    let a = both (leb least (length file)) _ h in
    let b = both (eqb (get_or file 0 0) 82) _ a.1 in
    let c = both (eqb (get_or file 1 0) 86) _ b.1 in
    record {
      long = leb-true _ _ a.0;
      first = eqb-true _ _ b.0;
      second = eqb-true _ _ c.0;
      third = eqb-true _ _ c.1;
    }

pub mark_back : (letter least : ℕ) (file : List ℕ) → Mark letter least file → marked letter least file ≡ true
unfolding marked
mark_back letter least file m =
    rw (le-leb least (length file) m.long, eq-eqb (get_or file 0 0) 82 m.first, eq-eqb (get_or file 1 0) 86 m.second, eq-eqb (get_or file 2 0) letter m.third)
