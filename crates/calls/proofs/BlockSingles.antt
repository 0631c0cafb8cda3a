-- The items of a block as single calls: where the block's rows let them through, each is answered, and they leave what the block leaves;
-- and where each is answered, the rows let them through.
use mathlib.Core.Path.{◌≡◌, refl, sym, ap, ap₂, subst, ◌∙◌}
use mathlib.Core.Bool.{Bool, true, false, cond, not, ◌&&◌, ◌||◌, true≢false}
use mathlib.Core.List.{List, ◌∷◌}
use mathlib.Core.Logic.{⊎_elim}
use mathlib.Core.Option.{Option, none, some}
use Prim.Native.Nat.{ℕ, zero, suc, ◌+◌, ◌-◌, ◌≤◌, ◌<◌}
use native.Mathlib.Nat.{eq-or-lt_of_le}
use native.Mathlib.Omega.{arith}
use lib.Dec.{eqb, leb, ltb}
use lib.ListN.{length, set, length-set}
use borrow.Author.Tests.{lt-ltb}
use Rattle.refusal.specs.Limit.{max_weight}
use Rattle.refusal.specs.Outcome.{answered}
use Rattle.vector.specs.Rounds.{size}
use Rattle.kernel.specs.declared.Climber.{Climber}
use Rattle.kernel.specs.Kernel.{fits, climber_in}
use Rattle.kernel.specs.Change.{Placed, placed_of, place_after, put_in, placed_at, placed}
use Rattle.phase.specs.declared.Next.TheVariants as next
use Rattle.phase.specs.Cases as cases
use Rattle.phase.specs.Cases.{waits, is_change, is_open}
use Rattle.item.specs.declared.Item.{Item}
use Rattle.item.specs.declared.Start.{Start}
use Rattle.item.specs.declared.Given.{Given}
use Rattle.item.specs.Item.{contributes}
use Rattle.block.specs.Block.{Block, item_at}
use Rattle.prover.specs.declared.Run.{Run}
use Rattle.pass.specs.declared.Pass.{Pass}
use Rattle.prover.specs.Reply as reply
use Rattle.pass.specs.Pass.{kernel_of}
use Rattle.prover.specs.Records.{Out}
use Rattle.prover.specs.Level.{level_of, fold_size, padding}
use Rattle.pass.specs.Take.{moved, summed_item, placed_in, stacked_in, takes_in}
use Rattle.pass.specs.Blocks.{takes_all_in}
use Rattle.prover.specs.Take.{handed, entering, entered_item, takes}
use Rattle.prover.specs.Blocks.{takes_all}
use Rattle.runs.proofs.PassRecord.{takes_run, takes-answer}
use Rattle.calls.specs.declared.Call.TheVariants as call
use Rattle.calls.specs.Lists.{after, along}
use Rattle.calls.specs.Step.{Lent, Result, is_answered, leaving, step}
use Rattle.calls.specs.State.{State, Turn, Taking, in_pass, with_buffers, buffers_in, takes_given, follow}
use Rattle.calls.specs.Table.{Refusal, level_now, row, place_row, table}
use Rattle.calls.specs.World.{Made, World, came, onward}
use Rattle.calls.specs.Statement.{Decides}
use Rattle.calls.specs.Demand3.{AllAnswered}
use Rattle.calls.specs.Blocks.{onto, with_items, single, singles, left_by}
use Rattle.calls.proofs.Records.{Notes, noted, run_of, pass_of}
use Rattle.calls.proofs.Steps.{does, settled, row-passed}
use Rattle.calls.proofs.Refusals.{Faithful, faithful_on, decide_step, step_is, refused_with_lem}
use Rattle.calls.proofs.LiveTable.{row-free}
use Rattle.calls.proofs.BlockRows.{Passes, given-passes, Admits}

-- AN ITEM keeps the buffers' lengths
put_length : (size last t level value : ℕ) (l : List ℕ) → length (put_in size last t level value l) ≡ length l
put_length size last t level value l = by (eqb level last)
  where
    by : (b : Bool) → length (cond b (set l (place_after size last t) value) l) ≡ length l
    by true = simp length-set
    by false = refl

module _ (p : ℕ) (r : Run) (s : Pass) (y : Item) (f g : List ℕ) where
  abbrev climber : Climber
  climber = climber_in p r.challenges (level_of r s.kind) (kernel_of s) (entering p r s y) y.g

  abbrev put : Bool → Placed
  put b =
      cond b (placed_at (level_of r s.kind) (fold_size r) (padding r + s.taken) (placed_of (kernel_of s) f g) climber) (placed_of (kernel_of s) f g)

  abbrev taking : Bool → Bool → Bool → Out
  taking sums change fit =
      handed r
      (cond sums (moved (summed_item p r.start.plain s y (entering p r s y)) f g)
      (stacked_in s (cond change (put fit) (placed_of (entered_item p r s (entering p r s y) y.g) f g))))

  takes-long : (length (takes p r s y f g).f ≡ length f) × (length (takes p r s y f g).g ≡ length g)
  unfolding takes takes_in placed_in placed
  takes-long = by (waits next.Total r.next) (cases.is_change s.kind) (fits (level_of r s.kind) (kernel_of s))
    where
      by : (sums change fit : Bool) → (length (taking sums change fit).f ≡ length f) × (length (taking sums change fit).g ≡ length g)
      by true change fit = (refl, refl)
      by false false fit = (refl, refl)
      by false true false = (refl, refl)
      by false true true = (
        put_length (fold_size r) (level_of r s.kind) (padding r + s.taken) climber.level climber.f f,
        put_length (fold_size r) (level_of r s.kind) (padding r + s.taken) climber.level climber.g g,
      )

-- WHAT A BLOCK LEAVES
module _ (p : ℕ) (r : Run) (b : Block) where
  pub all-run : (m : ℕ) (s : Pass) (f g : List ℕ) → (takes_all p r b m s f g).run ≡ r
  unfolding takes_all
  all-run m s f g = refl

  pub all-answer : (m : ℕ) (s : Pass) (f g : List ℕ) → (takes_all p r b m s f g).answer ≡ answered reply.taken
  unfolding takes_all
  all-answer m s f g = refl

-- with the buffers or without
abbrev Held : (Start → Turn → Taking → Type 0) → State → Type 0
Held P a = P a.start a.turn a.pass

in_buffers : (P : Start → Turn → Taking → Type 0) (c : Bool) (a : State) (l : Lent) → Held P a → Held P (buffers_in c a l)
in_buffers P true a l h = h
in_buffers P false a l h = h

out-of_buffers : (P : Start → Turn → Taking → Type 0) (c : Bool) (a : State) (l : Lent) → Held P (buffers_in c a l) → Held P a
out-of_buffers P true a l h = h
out-of_buffers P false a l h = h

abbrev place_in : Start → Turn → Taking → ℕ → ℕ → Option Refusal
place_in s t q m n =
    let long : ℕ = size s.rounds (level_now s.rounds (length t.challenges) 0 t.next) in
    row (not (is_change q.kind) || (leb long m && leb long n)) 9 none

-- one more item, and m of a block
more_items : (a : State) (b : Block) (m : ℕ) (l k : Lent) → (m ≡ 0 → k ≡ l)
    → with_items (takes_given a (item_at a.start.version b m) l) b m k ≡ with_items a b (suc m) k
unfolding onto
more_items a b zero l k h = ap (takes_given a (item_at a.start.version b 0)) (sym (h refl))
more_items a b (suc m) l k h = by (is_change a.pass.kind) refl
  where
    version : ℕ
    version = a.start.version

    one : State
    one = in_pass a a.pass.kind a.pass.point (item_at version b (suc m) ∷ a.pass.items)

    all : List Given
    all = onto version b (suc (suc m)) a.pass.items

    by : (c : Bool) → is_change a.pass.kind ≡ c
        → with_items (buffers_in c one l) b (suc m) k ≡ buffers_in (is_change a.pass.kind) (in_pass a a.pass.kind a.pass.point all) k
    by true e =
        ap (λ c. buffers_in c (in_pass (with_buffers one l) a.pass.kind a.pass.point all) k) e
        ∙ sym (ap (λ c. buffers_in c (in_pass a a.pass.kind a.pass.point all) k) e)
    by false e = refl

-- the last item of a block first, read by any number that is the run's version
last_first : (p : ℕ) (r : Run) (b : Block) (m : ℕ) (s : Pass) (f g : List ℕ) (v : ℕ) → v ≡ r.start.version
    → (let o : Out = takes p r s (contributes p r.start (item_at v b m)) f g in
    takes_all p r b m o.pass o.f o.g ≡ takes_all p r b (suc m) s f g)
unfolding takes_all takes_all_in takes
last_first p r b m s f g v e =
    ap (λ v. (let o : Out = takes p r s (contributes p r.start (item_at v b m)) f g in takes_all p r b m o.pass o.f o.g)) e

module _ (p : ℕ) (large : max_weight < p) where
  -- AN ANSWERED ITEM
  module _ (w : World) {past : Notes} (i : Faithful p large w past) (x : Given) (l : Lent) (free : table p w.state (call.Give x) l ≡ none) where
    abbrev gives : Made
    gives = record { call = call.Give x; lent = l }

    abbrev gave : Out
    gave = takes p w.run w.pass (contributes p w.run.start x) l.f l.g

    abbrev left : Lent
    left = record { f = gave.f; g = gave.g; file = l.file }

    abbrev onward_with : World
    onward_with = record { state = takes_given w.state x left; run = w.run; pass = gave.pass }

    came-is : came p w gives ≡ leaving l gave
    came-is =
        let a : State = w.state in
        let here : step p (run_of a past) (pass_of p a past) (call.Give x) l ≡ does p (run_of a past) (pass_of p a past) (call.Give x) l =
        step_is p large a i.fits (call.Give x) l ∙ ap (λ t. settled (run_of a past) (pass_of p a past) l t (does p (run_of a past) (pass_of p a past) (call.Give x) l)) free in
        subst (λ r. step p r w.pass (call.Give x) l ≡ does p r w.pass (call.Give x) l) (sym i.run)
        (subst (λ s. step p (run_of a past) s (call.Give x) l ≡ does p (run_of a past) s (call.Give x) l) (sym i.pass) here)

    moves : ◌≡◌ {A = World × Lent} (onward p w gives, (came p w gives).lent) (onward_with, left)
    moves =
        ap (λ (o : Result). (let v : World = record { state = follow w.state (call.Give x) o; run = o.run; pass = o.pass } in (v, o.lent))) came-is
        ∙ ap₂ (λ (c : Bool) (r : Run). (let v : World = record { state = cond c (takes_given w.state x left) w.state; run = r; pass = gave.pass } in (v, left)))
        (ap is_answered (takes-answer p w.run w.pass (contributes p w.run.start x) l.f l.g))
        (takes_run p w.run w.pass (contributes p w.run.start x) l.f l.g)

  -- THE ITEMS OF A BLOCK
  module _ (v : ℕ) (b : Block) where
    abbrev AdmitsHere : State → ℕ → Type 0
    AdmitsHere a m = Admits p a.start a.pass.kind (length a.pass.items) v b m

    abbrev pub block : World → ℕ → Lent → Out
    block w m l = takes_all p w.run b m w.pass l.f l.g

    abbrev pub block_left : World → ℕ → Lent → Lent
    block_left w m l = record { f = (block w m l).f; g = (block w m l).g; file = l.file }

    abbrev pub block_world : World → ℕ → Lent → World
    block_world w m l = record { state = with_items w.state b m (block_left w m l); run = w.run; pass = (block w m l).pass }

    pub record Singly (w : World) (m : ℕ) (l : Lent) : Type 0 where
      pub answers : along (onward p) (λ w m. (came p w m).answer ≡ answered reply.taken) w (singles p v w b m l)
      pub world : after (onward p) w (singles p v w b m l) ≡ block_world w m l
      pub buffers : left_by p v w b m l ≡ block_left w m l

    nothing_left : (w : World) (m : ℕ) (l : Lent) → m ≡ 0 → block_left w m l ≡ l
    unfolding takes_all takes_all_in
    nothing_left w zero l e = refl
    nothing_left w (suc m) l e = absurd (omega arith)

    item-free : (a : State) (m : ℕ) (l : Lent) → AdmitsHere a (suc m) → place_row a l ≡ none → table p a (call.Give (item_at v b m)) l ≡ none
    unfolding table
    item-free a m l h place =
        let less : length a.pass.items < a.start.items = omega (arith, h.wanted) in
        row-free _ 10 _ h.opened (row-free _ 8 _ (lt-ltb _ _ less) (h.each m (omega arith) _ _ ∙ place))

    still-admits : (a : State) (m : ℕ) (l : Lent) → AdmitsHere a (suc m) → AdmitsHere (takes_given a (item_at v b m) l) m
    still-admits a m l h =
        in_buffers (λ s t q. Admits p s q.kind (length q.items) v b m) (is_change a.pass.kind)
        (in_pass a a.pass.kind a.pass.point (item_at v b m ∷ a.pass.items)) l
        (record { opened = h.opened; wanted = omega (arith, h.wanted); each = λ j u. h.each j (omega arith) })

    still-place : (a : State) (x : Given) (l k : Lent) → length k.f ≡ length l.f → length k.g ≡ length l.g → place_row a l ≡ none → place_row (takes_given a x k) k ≡ none
    still-place a x l k ef eg place =
        in_buffers (λ s t q. place_in s t q (length k.f) (length k.g) ≡ none) (is_change a.pass.kind) (in_pass a a.pass.kind a.pass.point (x ∷ a.pass.items)) k
        (ap₂ (λ m n. place_in a.start a.turn a.pass m n) ef eg ∙ place)

    pub singly : (m : ℕ) (w : World) {past : Notes} → Faithful p large w past → v ≡ w.state.start.version → (l : Lent) → AdmitsHere w.state m
        → place_row w.state l ≡ none → Singly w m l
    unfolding along after singles left_by takes_all takes_all_in takes
    singly zero w i own l h place = record { answers = tt; world = refl; buffers = refl }
    singly (suc m) w {past} i own l h place =
        let x : Given = item_at v b m in
        let free = item-free w.state m l h place in
        let e = moves w i x l free in
        let u : World = onward_with w i x l free in
        let k : Lent = left w i x l free in
        let lengths = takes-long p w.run w.pass (contributes p w.run.start x) l.f l.g in
        let later : Notes = noted p (single p v b m l).call past (came p w (single p v b m l)).answer in
        let faithful : Faithful p large u later = subst (λ (q : World × Lent). Faithful p large q.0 later) e (faithful_on p large w i (single p v b m l)) in
        let still : v ≡ u.state.start.version =
        in_buffers (λ s t q. v ≡ s.version) (is_change w.state.pass.kind) (in_pass w.state w.state.pass.kind w.state.pass.point (x ∷ w.state.pass.items)) k own in
        let rest : Singly u m k =
        singly m u {past = later} faithful still k (still-admits w.state m k h) (still-place w.state x l k lengths.0 lengths.1 place) in
        let all : block u m k ≡ block w (suc m) l =
        last_first p w.run b m w.pass l.f l.g v (own ∙ sym (ap (λ r. r.start.version) i.run)) in
        let grown : with_items (takes_given w.state x k) b m (block_left u m k) ≡ with_items w.state b (suc m) (block_left u m k) =
        ap (λ v. with_items (takes_given w.state (item_at v b m) k) b m (block_left u m k)) own ∙ more_items w.state b m k (block_left u m k) (nothing_left u m k) in
        record {
          answers = (
            ap (λ (o : Result). o.answer) (came-is w i x l free) ∙ takes-answer p w.run w.pass (contributes p w.run.start x) l.f l.g,
            subst (λ (q : World × Lent). along (onward p) (λ w m. (came p w m).answer ≡ answered reply.taken) q.0 (singles p v q.0 b m q.1)) (sym e) rest.answers,
          );
          world =
              ap (λ (q : World × Lent). after (onward p) q.0 (singles p v q.0 b m q.1)) e
              ∙ rest.world
              ∙ ap (λ s. (let z : World = record { state = s; run = w.run; pass = (block u m k).pass } in z)) grown
              ∙ ap (λ (o : Out). (let z : World = record { state = with_items w.state b (suc m) (record { f = o.f; g = o.g; file = l.file }); run = w.run; pass = o.pass } in z)) all;
          buffers =
              ap (λ (q : World × Lent). left_by p v q.0 b m q.1) e ∙ rest.buffers
              ∙ ap (λ (o : Out). (let z : Lent = record { f = o.f; g = o.g; file = l.file } in z)) all;
        }

    -- AN ITEM THAT WAS ANSWERED
    was_free : (w : World) {past : Notes} → Faithful p large w past → (x : Given) → (l : Lent)
        → is_answered (came p w (record { call = call.Give x; lent = l })).answer ≡ true → table p w.state (call.Give x) l ≡ none
    was_free w i x l e = by (table p w.state (call.Give x) l) (decide_step p large w.state w.run w.pass i (call.Give x) l)
      where
        by : (t : Option Refusal) → Decides w.run w.pass l t (step p w.run w.pass (call.Give x) l) → t ≡ none
        by none d = refl
        by (some k) d = absurd (true≢false (sym e ∙ ap (λ (o : Result). is_answered o.answer) d ∙ refused_with_lem _ k.0 k.1))

    item-rows : (a : State) (x : Given) (l : Lent) → table p a (call.Give x) l ≡ none
        → (is_open a.pass.kind ≡ true) × Passes p a.start x × (place_row a l ≡ none)
    unfolding table
    item-rows a x l e =
        let q = row-passed (is_open a.pass.kind) 10 _ e in
        let u = row-passed (ltb (length a.pass.items) a.start.items) 8 _ q.1 in
        let v = given-passes p a.start x (a.start.items - 1 - length a.pass.items) (place_row a l) u.1 in
        (q.0, v.0, v.1)

    -- a pass with n items taken lets m more through
    abbrev Let : ℕ → Start → Turn → Taking → Type 0
    Let m s t q = (length q.items + m ≤ s.items) × ((j : ℕ) → j < m → Passes p s (item_at v b j))

    let_through : (m : ℕ) (w : World) {past : Notes} → Faithful p large w past → (l : Lent)
        → AllAnswered p w (singles p v w b m l) → Held (Let m) w.state
    unfolding along singles
    let_through zero w i l e = (omega (arith, i.fits.pass.count), λ j u. absurd (omega arith))
    let_through (suc m) w i l e =
        let a : State = w.state in
        let k : Lent = (came p w (single p v b m l)).lent in
        let here = item-rows a (item_at v b m) l (was_free w i (item_at v b m) l e.0) in
        let there = let_through m (onward p w (single p v b m l)) (faithful_on p large w i (single p v b m l)) k e.1 in
        let next = out-of_buffers (Let m) (is_change a.pass.kind) (in_pass a a.pass.kind a.pass.point (item_at v b m ∷ a.pass.items)) k
        (subst (λ c. Held (Let m) (cond c (takes_given a (item_at v b m) k) a)) e.0 there) in
        (omega (arith, next.0), λ j u. ⊎_elim (λ (q : j ≡ m). rw q here.1) (λ (q : j < m). next.1 j q) (eq-or-lt_of_le (at_most j m u)))
      where
        at_most : (j m : ℕ) → j < suc m → j ≤ m
        at_most j m h = omega arith

    -- where every one of its items was answered, its rows let it through
    pub admitted : (m : ℕ) → 0 < m → (w : World) {past : Notes} → Faithful p large w past → (l : Lent)
        → AllAnswered p w (singles p v w b m l) → AdmitsHere w.state m × (place_row w.state l ≡ none)
    unfolding along singles
    admitted zero more w i l e = absurd (omega arith)
    admitted (suc m) more w i l e =
        let here = item-rows w.state (item_at v b m) l (was_free w i (item_at v b m) l e.0) in
        let all = let_through (suc m) w i l e in
        (record { opened = here.0; wanted = all.0; each = all.1 }, here.2)
