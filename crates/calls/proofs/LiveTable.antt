-- The table, the other way round: a call that is next, with numbers in their limits and buffers that fit, is answered.
use mathlib.Core.Path.{◌≡◌, refl, sym, ap, ap₂, subst}
use mathlib.Core.Bool.{Bool, true, false, cond, not, ◌&&◌, ◌||◌}
use mathlib.Core.Option.{Option, none}
use Prim.Native.Nat.{ℕ, ◌-◌, ◌<◌, ◌≤◌}
use lib.ListN.{length}
use borrow.Author.Tests.{le-leb, lt-ltb, eq-eqb}
use Rattle.refusal.specs.Limit.{max_weight}
use Rattle.wire.specs.Proof.{proof_size}
use Rattle.vector.specs.Vector.{at}
use Rattle.vector.specs.Slice.{is_nonzero}
use Rattle.vector.proofs.Every.{reduced_all}
use Rattle.phase.specs.declared.Next.TheVariants as next
use Rattle.phase.specs.Cases.{is_change, is_full, is_open, is_small, waits}
use Rattle.prover.specs.declared.Run.{Run}
use Rattle.pass.specs.declared.Pass.{Pass}
use Rattle.calls.specs.declared.Call.{Call}
use Rattle.calls.specs.declared.Call.TheVariants as call
use Rattle.calls.specs.Step.{Lent, is_answered, step}
use Rattle.calls.specs.State.{State}
use Rattle.item.specs.declared.Given.{Given}
use Rattle.item.specs.declared.Given.TheVariants.{Reading, Numbers}
use Rattle.calls.specs.Proper.{ItemFits}
use Rattle.calls.specs.Table.{Refusal, row, row_at, pass_waits, openings_next, change_waits, return_waits, long, both_long, read_rows, given_rows, place_row, total_fits, table}
use Rattle.calls.specs.Statement.{Decides}
use Rattle.calls.proofs.Records.{Notes}
use Rattle.calls.proofs.Refusals.{Inv, decide_step}

pub row-free : (b : Bool) (k : ℕ) (t : Option Refusal) → b ≡ true → t ≡ none → row b k t ≡ none
row-free b k t e f = rw e f

pub row-at-free : (b : Bool) (k i : ℕ) (t : Option Refusal) → b ≡ true → t ≡ none → row_at b k i t ≡ none
row-at-free b k i t e f = rw e f

module _ (p : ℕ) (a : State) (l : Lent) where
  -- buffers as long as the current fold
  pub long-enough : long a ≤ length l.f → long a ≤ length l.g → both_long a l ≡ true
  long-enough f g = ap₂ ◌&&◌ (le-leb _ _ f) (le-leb _ _ g)

  -- and field numbers in the places read
  pub reads_free : long a ≤ length l.f → long a ≤ length l.g → ((j : ℕ) → j < long a → (at l.f j < p) × (at l.g j < p)) → read_rows p a l ≡ none
  reads_free f g below =
      row-free _ 9 _ (long-enough f g)
      (row-free _ 16 none (ap₂ ◌&&◌ (sym (reduced_all p (long a) l.f (λ j h. (below j h).0))) (sym (reduced_all p (long a) l.g (λ j h. (below j h).1)))) refl)

  pub open_free : pass_waits a.turn.mode a.turn.next ≡ true → table p a call.OpenPass l ≡ none
  unfolding table
  open_free turn = row-free _ 10 none turn refl

  pub open_at_free : (b : ℕ) → is_small a.turn.mode ≡ true → openings_next a.turn.next a.start.rounds ≡ true → is_nonzero p b ≡ true → table p a (call.OpenAt b) l ≡ none
  unfolding table
  open_at_free b small turn ok = row-free _ 10 _ (ap₂ ◌&&◌ small turn) (row-free _ 6 none ok refl)

  pub to_full_free : change_waits a.turn.mode a.turn.next a.start.rounds ≡ true → both_long a l ≡ true → table p a call.ToFull l ≡ none
  unfolding table
  to_full_free turn long = row-free _ 10 _ turn (row-free _ 9 none long refl)

  pub to_small_free : return_waits a.turn.mode a.turn.next a.start.rounds ≡ true → table p a call.ToSmall l ≡ none
  unfolding table
  to_small_free turn = row-free _ 10 none turn refl

  place-free : (is_change a.pass.kind ≡ true → both_long a l ≡ true) → place_row a l ≡ none
  place-free long = row-free _ 9 none (by (is_change a.pass.kind) long) refl
    where
      by : (b : Bool) → (b ≡ true → both_long a l ≡ true) → (not b || both_long a l) ≡ true
      by true h = h refl
      by false h = refl

  own-free : (x : Given) → ItemFits p a.start x → place_row a l ≡ none
      → given_rows p a.start (a.start.items - 1 - length a.pass.items) x (place_row a l) ≡ none
  own-free (Reading r w) fits place = row-free _ 10 _ fits.0 (row-at-free _ 5 _ _ (le-leb w max_weight fits.2) (row-at-free _ 18 _ _ fits.1 place))
  own-free (Numbers x y) fits place = row-free _ 10 _ (ap not fits.0) (row-free _ 16 _ (ap₂ ◌&&◌ (lt-ltb x p fits.1) (lt-ltb y p fits.2)) place)

  pub item-free : (x : Given) → is_open a.pass.kind ≡ true → length a.pass.items < a.start.items → ItemFits p a.start x
      → (is_change a.pass.kind ≡ true → both_long a l ≡ true) → table p a (call.Give x) l ≡ none
  unfolding table
  item-free x op more fits long = row-free _ 10 _ op (row-free _ 8 _ (lt-ltb _ _ more) (own-free x fits (place-free long)))

  pub close-free : is_open a.pass.kind ≡ true → length a.pass.items ≡ a.start.items → total_fits p a ≡ true → table p a call.Close l ≡ none
  unfolding table
  close-free op all fits = row-free _ 10 _ op (row-free _ 8 _ (eq-eqb _ _ all) (row-free _ 7 none fits refl))

  pub message-free : is_full a.turn.mode ≡ true → waits next.Message a.turn.next ≡ true → read_rows p a l ≡ none → table p a call.Message l ≡ none
  unfolding table
  message-free full turn reads = row-free _ 10 _ (ap₂ ◌&&◌ full turn) reads

  pub challenge-free : (c : ℕ) → waits next.Challenge a.turn.next ≡ true → is_nonzero p c ≡ true → (is_full a.turn.mode ≡ true → read_rows p a l ≡ none)
      → table p a (call.Challenge c) l ≡ none
  unfolding table
  challenge-free c turn ok reads = row-free _ 10 _ turn (row-free _ 6 _ ok (by (is_full a.turn.mode) reads))
    where
      by : (b : Bool) → (b ≡ true → read_rows p a l ≡ none) → ◌≡◌ {A = Option Refusal} (cond b (read_rows p a l) none) none
      by true h = h refl
      by false h = refl

  pub ends-free : is_full a.turn.mode ≡ true → waits next.Ends a.turn.next ≡ true → read_rows p a l ≡ none → table p a call.Ends l ≡ none
  unfolding table
  ends-free full turn reads = row-free _ 10 _ (ap₂ ◌&&◌ full turn) reads

  pub opening-free : (b : ℕ) → is_full a.turn.mode ≡ true → openings_next a.turn.next a.start.rounds ≡ true → is_nonzero p b ≡ true → read_rows p a l ≡ none
      → table p a (call.Opening b) l ≡ none
  unfolding table
  opening-free b full turn ok reads = row-free _ 10 _ (ap₂ ◌&&◌ full turn) (row-free _ 6 _ ok reads)

  pub write_free : a.start.plain ≡ true → waits next.Openings a.turn.next ≡ true → proof_size a.start.rounds ≤ length l.file → table p a call.WriteProof l ≡ none
  unfolding table
  write_free plain turn long = row-free _ 10 _ (ap₂ ◌&&◌ plain turn) (row-free _ 9 none (le-leb _ _ long) refl)

-- such a call is answered
pub free_answered : (p : ℕ) (large : max_weight < p) (a : State) {past : Notes} (r : Run) (s : Pass) → Inv p large a past r s → (c : Call) → (l : Lent) → table p a c l ≡ none
    → is_answered (step p r s c l).answer ≡ true
free_answered p large a r s i c l free = subst (λ t. Decides r s l t (step p r s c l)) free (decide_step p large a r s i c l)
