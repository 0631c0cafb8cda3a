-- The checks of each call are the rows of the table: over any records that stand for a state.
use mathlib.Core.Path.{◌≡◌, refl, ap, ap₂, ◌∙◌}
use mathlib.Core.Bool.{Bool, true, false, cond, not, ◌&&◌, ◌||◌}
use mathlib.Core.Option.{Option, none}
use Prim.Native.Nat.{ℕ, ◌-◌, ◌≤◌}
use lib.Dec.{eqb, leb, ltb}
use lib.ListN.{length}
use Rattle.refusal.specs.Limit.{max_weight}
use Rattle.refusal.specs.Outcome.{Outcome, answered, refused_at, require, require_at, and_then}
use Rattle.field.specs.Total.{in_limits}
use Rattle.vector.specs.Rounds.{size}
use Rattle.vector.specs.Slice.{all_reduced, is_nonzero}
use Rattle.item.specs.declared.Item.{Item}
use Rattle.item.specs.declared.Given.{Given}
use Rattle.phase.specs.declared.Mode.{Mode}
use Rattle.phase.specs.declared.Mode.TheVariants.{Small, Full}
use Rattle.phase.specs.declared.Next.{Next}
use Rattle.phase.specs.declared.Next.TheVariants as next
use Rattle.phase.specs.declared.Kind.TheVariants.{Shut}
use Rattle.phase.specs.Cases.{waits, is_change, is_full, is_open, is_small}
use Rattle.phase.specs.Level.{level_at}
use Rattle.phase.specs.Order.{open_next, change_at, openings_at}
use Rattle.prover.specs.declared.Run.{Run}
use Rattle.pass.specs.declared.Pass.{Pass}
use Rattle.prover.specs.Records.{Out, out}
use Rattle.prover.specs.Level.{fold_size}
use Rattle.prover.specs.WellFormed.{well_formed}
use Rattle.pass.specs.Open.{no_points, points_of}
use Rattle.prover.specs.Open.{opened, open_kernel, padded_kernel, open_call, open_at_call}
use Rattle.prover.specs.Take.{takes}
use Rattle.prover.specs.Calls as calls
use Rattle.prover.specs.Calls.{places_there, give_call}
use Rattle.prover.proofs.Outcomes.{item_places, give-rows}
use Rattle.prover.proofs.FullOutcomes.{lent-by_rows}
use Rattle.prover.specs.Change.{changes, to_full_call, returns, to_small_call}
use Rattle.prover.specs.Close as close
use Rattle.prover.specs.Close.{closing, close_call}
use Rattle.prover.specs.Full.{both_reduced, lent_folds, message_given, message_call, ends_given, ends_call}
use Rattle.prover.specs.Challenge.{challenged_small, challenged_full, challenged, challenge_call}
use Rattle.prover.specs.Opening.{opening_given, opening_call}
use Rattle.pass.proofs.Facts.{size_32}
use Rattle.item.specs.declared.Given.TheVariants.{Reading, Numbers}
use Rattle.item.specs.Mark.{reading_fits}
use Rattle.item.specs.Item.{contributes, parts_of}
use Rattle.runs.specs.Trip.{sum_of}
use Rattle.calls.specs.Step.{Lent}
use Rattle.calls.specs.State.{State}
use Rattle.calls.specs.Table.{Refusal, decided, row, row_at, pass_waits, openings_next, changes_next, level_now, long, both_long, read_rows, given_rows, place_row, total_fits, table}
use Rattle.calls.specs.declared.Call.TheVariants as call
use Rattle.calls.proofs.Records.{Notes, run_of}

-- in full mode a challenge has the buffers
abbrev pub challenge_does : ℕ → Run → Pass → ℕ → Lent → Mode → Out
challenge_does p r s c l Small = out (challenged_small p r s c) l.f l.g
challenge_does p r s c l Full = challenged_full p r s c l.f l.g

-- a check beside a row with the same test
pub same_row : {A : Type 0} (b : Bool) (k : ℕ) (rest : Outcome A) (t : Option Refusal) (o : Outcome A) → rest ≡ decided t o
    → require b k rest ≡ decided (row b k t) o
same_row true k rest t o e = e
same_row false k rest t o e = refl

pub like_row : {A : Type 0} (b c : Bool) (k : ℕ) (rest : Outcome A) (t : Option Refusal) (o : Outcome A) → b ≡ c → rest ≡ decided t o
    → require b k rest ≡ decided (row c k t) o
like_row b c k rest t o e r = ap (λ x. require x k rest) e ∙ same_row c k rest t o r

pub both_and : (x y : Bool) → cond x y false ≡ (x && y)
both_and false y = refl
both_and true y = refl

-- the tests of what is next, one against the other
pass_next_lem : (m : Mode) (t : Next) → cond (is_small m) (open_next t) false ≡ pass_waits m t
pass_next_lem Full t = refl
pass_next_lem Small next.Total = refl
pass_next_lem Small next.Message = refl
pass_next_lem Small next.Challenge = refl
pass_next_lem Small next.Ends = refl
pass_next_lem Small next.Openings = refl

openings_next_lem : (m : Bool) (t : Next) (n : ℕ) → cond m (openings_at t n) false ≡ (m && openings_next t n)
openings_next_lem m t n = ap (λ b. cond m b false) (both_and (waits next.Openings t) (ltb 0 n)) ∙ both_and m (openings_next t n)

-- in the mode that a change, or a return, leaves
changes-next : (m : Bool) (t : Next) (n : ℕ) → cond m (change_at t n) false ≡ (m && changes_next t n)
changes-next false t n = refl
changes-next true next.Total n = refl
changes-next true next.Message n = refl
changes-next true next.Challenge n = refl
changes-next true next.Ends n = refl
changes-next true next.Openings n = refl

pub level-now : (n i : ℕ) (t : Next) → level_at n i t Shut ≡ level_now n i 0 t
level-now n i next.Total = refl
level-now n i next.Message = refl
level-now n i next.Challenge = refl
level-now n i next.Ends = refl
level-now n i next.Openings = refl

place-test : (changes here : Bool) → cond changes here true ≡ (not changes || here)
place-test false here = refl
place-test true here = refl

fits-test : (first plain inside : Bool) → cond first (cond plain inside true) true ≡ (not (first && plain) || inside)
fits-test false plain inside = refl
fits-test true false inside = refl
fits-test true true inside = refl

module _ (p : ℕ) (a : State) (past : Notes) (few : a.start.rounds ≤ 15) where
  abbrev R : Run
  R = run_of a past

  pub fold-long : fold_size R ≡ long a
  fold-long = size_32 a.start.rounds _ few ∙ ap (size a.start.rounds) (level-now a.start.rounds (length a.turn.challenges) a.turn.next)

  long-test : (l : Lent) → calls.both_long R (length l.f) (length l.g) ≡ both_long a l
  long-test l =
      ap (λ n. cond (leb n (length l.f)) (leb n (length l.g)) false) fold-long
      ∙ both_and (leb (long a) (length l.f)) (leb (long a) (length l.g))

  reduced_test : (l : Lent) → both_reduced p R l.f l.g ≡ (all_reduced p (long a) l.f && all_reduced p (long a) l.g)
  reduced_test l =
      ap (λ n. cond (all_reduced p n l.f) (all_reduced p n l.g) false) fold-long
      ∙ both_and (all_reduced p (long a) l.f) (all_reduced p (long a) l.g)

  -- 9 and 16 of a full-mode call
  reads : (l : Lent) (o : Out) → lent_folds p R l.f l.g (answered o) ≡ decided (read_rows p a l) (answered o)
  reads l o = lent-by_rows p R l.f l.g (answered o) ∙ like_row _ _ 9 _ _ _ (long-test l) (like_row _ _ 16 _ none _ (reduced_test l) refl)

  module _ (s : Pass) (wf : well_formed p R s ≡ true) where
    formed_and : (x y : Bool) → x ≡ y → cond (well_formed p R s) x false ≡ y
    formed_and x y e = ap (λ b. cond b x false) wf ∙ e

    turn-and : (m x y : Bool) → cond m x false ≡ y → cond (cond (well_formed p R s) m false) x false ≡ y
    turn-and m x y e = ap (λ b. cond b x false) (formed_and m m refl) ∙ e

    pub open_decided : (l : Lent) → open_call p R s ≡ decided (table p a call.OpenPass l) (answered (opened R no_points (open_kernel R)))
    unfolding open_call table
    open_decided l = like_row _ _ 10 _ none _ (turn-and _ _ _ (pass_next_lem a.turn.mode a.turn.next)) refl

    pub open_at_decided : (b : ℕ) (l : Lent) → open_at_call p R s b ≡ decided (table p a (call.OpenAt b) l) (answered (opened R (points_of p b) (padded_kernel R)))
    unfolding open_at_call table
    open_at_decided b l =
        like_row _ _ 10 _ _ _
        (turn-and _ _ _ (openings_next_lem (is_small a.turn.mode) a.turn.next a.start.rounds))
        (same_row (is_nonzero p b) 6 _ none _ refl)

    pub to_full_decided : (l : Lent) → to_full_call p R s l.f l.g ≡ decided (table p a call.ToFull l) (answered (changes R l.f l.g))
    unfolding to_full_call table
    to_full_decided l =
        like_row _ _ 10 _ _ _ (turn-and _ _ _ (changes-next (is_small a.turn.mode) a.turn.next a.start.rounds))
        (like_row _ _ 9 _ none _ (long-test l) refl)

    pub to_small_decided : (l : Lent) → to_small_call p R s ≡ decided (table p a call.ToSmall l) (answered (returns R s))
    unfolding to_small_call table
    to_small_decided l = like_row _ _ 10 _ none _ (turn-and _ _ _ (changes-next (is_full a.turn.mode) a.turn.next a.start.rounds)) refl

    pub message-decided : (l : Lent) → message_call p R s l.f l.g ≡ decided (table p a call.Message l) (answered (message_given p R s l.f l.g))
    unfolding message_call table
    message-decided l =
        like_row _ _ 10 _ _ _ (turn-and _ _ _ (both_and (is_full a.turn.mode) (waits next.Message a.turn.next))) (reads l (message_given p R s l.f l.g))

    pub ends_decided : (l : Lent) → ends_call p R s l.f l.g ≡ decided (table p a call.Ends l) (answered (ends_given R s l.f l.g))
    unfolding ends_call table
    ends_decided l =
        like_row _ _ 10 _ _ _ (turn-and _ _ _ (both_and (is_full a.turn.mode) (waits next.Ends a.turn.next))) (reads l (ends_given R s l.f l.g))

    pub opening-decided : (b : ℕ) (l : Lent) → opening_call p R s b l.f l.g ≡ decided (table p a (call.Opening b) l) (answered (opening_given p R s b l.f l.g))
    unfolding opening_call table
    opening-decided b l =
        like_row _ _ 10 _ _ _ (turn-and _ _ _ (openings_next_lem (is_full a.turn.mode) a.turn.next a.start.rounds))
        (same_row (is_nonzero p b) 6 _ _ _ (reads l (opening_given p R s b l.f l.g)))

    challenge-mode : (c : ℕ) (l : Lent) (m : Mode)
        → challenged p R s c l.f l.g m ≡ decided (cond (is_full m) (read_rows p a l) none) (answered (challenge_does p R s c l m))
    challenge-mode c l Small = refl
    challenge-mode c l Full = reads l (challenged_full p R s c l.f l.g)

    pub challenge-decided : (c : ℕ) (l : Lent)
        → challenge_call p R s c l.f l.g ≡ decided (table p a (call.Challenge c) l) (answered (challenge_does p R s c l a.turn.mode))
    unfolding challenge_call table
    challenge-decided c l =
        like_row _ _ 10 _ _ _ (formed_and _ _ refl)
        (same_row (is_nonzero p c) 6 _ _ _ (challenge-mode c l a.turn.mode))

    -- the open pass is the state's
    module _ (kind : s.kind ≡ a.pass.kind) (count : s.taken ≡ length a.pass.items) where
      pub open_test : cond (well_formed p R s) (is_open s.kind) false ≡ is_open a.pass.kind
      open_test = formed_and _ _ (ap is_open kind)

      wanted_test : ltb s.taken a.start.items ≡ ltb (length a.pass.items) a.start.items
      wanted_test = ap (λ n. ltb n a.start.items) count

      pub place-there : (l : Lent) → places_there R s (length l.f) (length l.g) ≡ (not (is_change a.pass.kind) || both_long a l)
      place-there l =
          ap₂ (λ b here. cond b here true) (ap is_change kind) (long-test l)
          ∙ place-test (is_change a.pass.kind) (both_long a l)

      places : (l : Lent) (x : Item) → item_places p R s l.f l.g x ≡ decided (place_row a l) (answered (takes p R s x l.f l.g))
      places l x = like_row _ _ 9 _ none _ (place-there l) refl

      own-rows : (x : Given) (l : Lent)
          → and_then (parts_of p a.start (a.start.items - 1 - s.taken) x) (item_places p R s l.f l.g)
          ≡ decided (given_rows p a.start (a.start.items - 1 - length a.pass.items) x (place_row a l)) (answered (takes p R s (contributes p a.start x) l.f l.g))
      unfolding parts_of
      own-rows (Reading z w) l = by a.start.plain (leb w max_weight) (reading_fits a.start.version z)
        where
          at : ℕ → ℕ
          at n = a.start.items - 1 - n

          by : (plain fits ranged : Bool)
              → and_then (require plain 10 (require_at fits 5 (at s.taken) (require_at ranged 18 (at s.taken) (answered (contributes p a.start (Reading z w)))))) (item_places p R s l.f l.g)
              ≡ decided (row plain 10 (row_at fits 5 (at (length a.pass.items)) (row_at ranged 18 (at (length a.pass.items)) (place_row a l)))) (answered (takes p R s (contributes p a.start (Reading z w)) l.f l.g))
          by false fits ranged = refl
          by true false ranged = ap (λ n. refused_at 5 (at n)) count
          by true true false = ap (λ n. refused_at 18 (at n)) count
          by true true true = places l (contributes p a.start (Reading z w))
      own-rows (Numbers x y) l = by (not a.start.plain) (ltb x p && ltb y p)
        where
          by : (twisted fine : Bool)
              → and_then (require twisted 10 (require fine 16 (answered (contributes p a.start (Numbers x y))))) (item_places p R s l.f l.g)
              ≡ decided (row twisted 10 (row fine 16 (place_row a l))) (answered (takes p R s (contributes p a.start (Numbers x y)) l.f l.g))
          by false fine = refl
          by true false = refl
          by true true = places l (contributes p a.start (Numbers x y))

      pub item-decided : (x : Given) (l : Lent)
          → give_call p R s x l.f l.g ≡ decided (table p a (call.Give x) l) (answered (takes p R s (contributes p a.start x) l.f l.g))
      unfolding table
      item-decided x l = give-rows p R s x l.f l.g ∙ like_row _ _ 10 _ _ _ open_test (like_row _ _ 8 _ _ _ wanted_test (own-rows x l))

      total-test : (waits next.Total a.turn.next ≡ true → s.total ≡ sum_of a.start a.pass.items) → close.total_fits p R s ≡ total_fits p a
      total-test sums = by (waits next.Total a.turn.next) refl refl
        where
          by : (first : Bool) → waits next.Total a.turn.next ≡ first → first ≡ waits next.Total a.turn.next
              → cond first (cond a.start.plain (in_limits p s.total) true) true ≡ total_fits p a
          by true e w =
              ap (λ z. cond a.start.plain (in_limits p z) true) (sums e)
              ∙ fits-test true a.start.plain (in_limits p (sum_of a.start a.pass.items))
              ∙ ap (λ first. not (first && a.start.plain) || in_limits p (sum_of a.start a.pass.items)) w
          by false e w = ap (λ first. not (first && a.start.plain) || in_limits p (sum_of a.start a.pass.items)) w

      pub close-decided : (waits next.Total a.turn.next ≡ true → s.total ≡ sum_of a.start a.pass.items) → (l : Lent)
          → close_call p R s ≡ decided (table p a call.Close l) (closing p R s s.kind)
      unfolding close_call table
      close-decided sums l =
          like_row _ _ 10 _ _ _ open_test
          (like_row _ _ 8 _ _ _ (ap (λ n. eqb n a.start.items) count) (like_row _ _ 7 _ none _ (total-test sums) refl))
