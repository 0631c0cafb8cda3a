-- What the rows that an answered item passed say.
use mathlib.Core.Path.{◌≡◌, sym, subst}
use mathlib.Core.Bool.{true, not, ◌&&◌}
use mathlib.Core.Option.{none}
use Prim.Native.Nat.{ℕ, ◌-◌, ◌<◌, ◌≤◌}
use lib.Dec.{leb, ltb}
use lib.IntN.{nat_abs}
use lib.ListN.{length}
use borrow.Author.Tests.{leb-true, ltb-true}
use Rattle.phase.specs.Cases.{is_open}
use Rattle.refusal.specs.Limit.{max_weight, max_fine}
use Rattle.item.specs.Mark.{counts_as, reading_fits}
use Rattle.item.proofs.Marks.{counts-bound}
use Rattle.item.specs.declared.Start.{Start}
use Rattle.item.specs.declared.Given.{Given}
use Rattle.item.specs.declared.Given.TheVariants.{Reading, Numbers}
use Rattle.calls.specs.declared.Call.TheVariants as call
use Rattle.calls.specs.Step.{Lent}
use Rattle.calls.specs.State.{State}
use Rattle.calls.specs.Table.{given_rows, place_row, table}
use Rattle.calls.proofs.Steps.{row-passed}
use Rattle.calls.proofs.Turns.{both, not_so, row-at-passed}
use Rattle.calls.proofs.HeardTrip.{Fine}

-- an item within its limits, of either version
abbrev pub Limits : ℕ → Start → Given → Type 0
Limits p s (Reading z w) = (nat_abs (counts_as s.version z) ≤ max_fine) × (w ≤ max_weight)
Limits p s (Numbers x y) = (x < p) × (y < p)

pub record Admitted (p : ℕ) (a : State) (x : Given) (l : Lent) : Type 0 where
  pub opened : is_open a.pass.kind ≡ true
  pub more : length a.pass.items < a.start.items
  pub limits : Limits p a.start x
  pub own : Fine p a.start.plain x
  pub place : place_row a l ≡ none

module _ (p : ℕ) (a : State) (l : Lent) where
  own-rows : (x : Given) → given_rows p a.start (a.start.items - 1 - length a.pass.items) x (place_row a l) ≡ none → Limits p a.start x × Fine p a.start.plain x × (place_row a l ≡ none)
  own-rows (Reading z w) e =
      let v = row-passed a.start.plain 10 _ e in
      let i : ℕ = a.start.items - 1 - length a.pass.items in
      let x = row-at-passed (leb w max_weight) 5 i _ v.1 in
      let y = row-at-passed (reading_fits a.start.version z) 18 i _ x.1 in
      let light : w ≤ max_weight = leb-true w max_weight x.0 in
      ((counts-bound a.start.version z y.0, light), subst (λ b. Fine p b (Reading z w)) (sym v.0) light, y.1)
  own-rows (Numbers x y) e =
      let v = row-passed (not a.start.plain) 10 _ e in
      let z = row-passed (ltb x p && ltb y p) 16 _ v.1 in
      let below = both (ltb x p) (ltb y p) z.0 in
      let fits : (x < p) × (y < p) = (ltb-true x p below.0, ltb-true y p below.1) in
      (fits, subst (λ b. Fine p b (Numbers x y)) (sym (not_so a.start.plain v.0)) fits, z.1)

  pub item-admitted : (x : Given) → table p a (call.Give x) l ≡ none → Admitted p a x l
  unfolding table
  item-admitted x e =
      let q = row-passed (is_open a.pass.kind) 10 _ e in
      let u = row-passed (ltb (length a.pass.items) a.start.items) 8 _ q.1 in
      let v = own-rows x u.1 in
      record { opened = q.0; more = ltb-true _ _ u.0; limits = v.0; own = v.1; place = v.2 }
