-- LISTS WITH BLOCKS: whatever the list, each block is refused exactly by its rows and else stands for its single items, so that the list
-- leads where the list with each answered block as its items does.
use mathlib.Core.Path.{◌≡◌, refl, sym, ap, ap₂, subst, ◌∙◌}
use mathlib.Core.Bool.{Bool, true, false, cond}
use mathlib.Core.List.{List, [], ◌∷◌, ◌++◌}
use mathlib.Core.Logic.{◌⊎◌, inl, inr, ⊎_elim}
use mathlib.Core.Option.{Option, none, some}
use Prim.Native.Nat.{ℕ, ◌<◌}
use Rattle.refusal.specs.Limit.{max_weight}
use Rattle.refusal.specs.Outcome.{Outcome, answered}
use Rattle.item.specs.declared.Start.{Start}
use Rattle.block.specs.Block.{Block, count, is_whole}
use Rattle.prover.specs.declared.Run.{Run}
use Rattle.pass.specs.declared.Pass.{Pass}
use Rattle.prover.specs.Reply as reply
use Rattle.prover.specs.Reply.{Reply}
use Rattle.prover.specs.Records.{leaves}
use Rattle.prover.specs.Blocks.{takes_all, items_call}
use Rattle.calls.specs.Lists.{after, along, somewhere}
use Rattle.calls.specs.Step.{Lent, Result, is_answered, leaving}
use Rattle.calls.specs.State.{State}
use Rattle.calls.specs.Table.{Refusal, refused_with}
use Rattle.calls.specs.World.{Made, World, came, onward}
use Rattle.calls.specs.Statement.{Decides}
use Rattle.calls.specs.Begins.{Begin, CanBegin, begun}
use Rattle.calls.specs.Demand3.{AllAnswered}
use Rattle.calls.specs.Blocks.{block_table, with_items, Wide, made, given, block_came, wide_on, own_singles, StandsFor, BlockDecided, WideDecided, standing, expanded}
use Rattle.calls.proofs.Records.{Notes, noted, run_of, pass_of}
use Rattle.calls.proofs.Steps.{some_none, settled, refused_result, leaving-so}
use Rattle.calls.proofs.Fits.{few, formed, kind-is, taken_is}
use Rattle.calls.proofs.Refusals.{Faithful, faithful_on, refused_with_lem}
use Rattle.calls.proofs.Begins.{begun-faithful}
use Rattle.calls.proofs.BlockRows.{block-admits, block-free, block-decided}
use Rattle.calls.proofs.BlockSingles.{all-run, all-answer, block, Singly, singly, admitted}

module _ {W M : Type 0} (next : W → M → W) where
  after_both : (w : W) (xs ys : List M) → after next w (xs ++ ys) ≡ after next (after next w xs) ys
  unfolding after
  after_both w [] ys = refl
  after_both w (x ∷ xs) ys = after_both (next w x) xs ys

  along-both : (P : W → M → Type 0) (w : W) (xs ys : List M) → along next P w xs → along next P (after next w xs) ys → along next P w (xs ++ ys)
  unfolding after along
  along-both P w [] ys h k = k
  along-both P w (x ∷ xs) ys h k = (h.0, along-both P (next w x) xs ys h.1 k)

  -- a test that holds at every call, or fails at some
  all-or_some : (t : W → M → Bool) (w : W) (xs : List M) → along next (λ w m. t w m ≡ true) w xs ⊎ somewhere next (λ w m. t w m ≡ false) w xs
  unfolding along somewhere
  all-or_some t w [] = inl tt
  all-or_some t w (x ∷ xs) = by (t w x) refl (all-or_some t (next w x) xs)
    where
      by : (b : Bool) → t w x ≡ b → along next (λ w m. t w m ≡ true) (next w x) xs ⊎ somewhere next (λ w m. t w m ≡ false) (next w x) xs
          → ((t w x ≡ true) × along next (λ w m. t w m ≡ true) (next w x) xs) ⊎ ((t w x ≡ false) ⊎ somewhere next (λ w m. t w m ≡ false) (next w x) xs)
      by true e (inl h) = inl (e, h)
      by true e (inr h) = inr (inr h)
      by false e h = inr (inl e)

module _ (p : ℕ) (large : max_weight < p) where
  -- ONE BLOCK
  module _ (w : World) {past : Notes} (i : Faithful p large w past) (b : Block) (l : Lent) where
    abbrev did : Result
    did = leaving l (block p large w.state.start.version b w (count w.state.start.version b) l)

    came-so : block_came p w b l ≡ settled w.run w.pass l (block_table p w.state b l) did
    came-so =
        let a : State = w.state in
        let h = i.fits in
        let So : Run → Pass → Type 0 =
        λ r s. leaving l (leaves r s l.f l.g (items_call p r s b l.f l.g)) ≡ settled r s l (block_table p a b l) (leaving l (takes_all p r b (count a.start.version b) s l.f l.g)) in
        let here : So (run_of a past) (pass_of p a past) =
        ap (λ o. leaving l (leaves (run_of a past) (pass_of p a past) l.f l.g o))
        (block-decided p a past (few p a h) (pass_of p a past) (formed p a h) (kind-is p a h) (taken_is p a h) b l)
        ∙ leaving-so (run_of a past) (pass_of p a past) l (block_table p a b l) _ in
        subst (λ r. So r w.pass) (sym i.run) (subst (λ s. So (run_of a past) s) (sym i.pass) here)

    did-answer : did.answer ≡ answered reply.taken
    did-answer = all-answer p w.run b (count w.state.start.version b) w.pass l.f l.g

    decided-so : (t : Option Refusal) → Decides w.run w.pass l t (settled w.run w.pass l t did)
    decided-so none = ap is_answered did-answer
    decided-so (some k) = refl

    block-singly : block_table p w.state b l ≡ none → Singly p large w.state.start.version b w (count w.state.start.version b) l
    block-singly e =
        let h = block-admits p w.state b l e in
        singly p large w.state.start.version b (count w.state.start.version b) w i refl l h.0 h.1

    stands-for : block_table p w.state b l ≡ none → StandsFor p w b l
    stands-for e =
        let o : block_came p w b l ≡ did = came-so ∙ ap (λ t. settled w.run w.pass l t did) e in
        let h = block-singly e in
        record {
          answer = ap (λ (o : Result). o.answer) o ∙ did-answer;
          answers = h.answers;
          same =
              ap (λ (o : Result). (let v : World = record { state = cond (is_answered o.answer) (with_items w.state b (count w.state.start.version b) o.lent) w.state; run = o.run; pass = o.pass } in v)) o
              ∙ ap₂ (λ (c : Bool) (r : Run). (let v : World = record { state = cond c (with_items w.state b (count w.state.start.version b) did.lent) w.state; run = r; pass = did.pass } in v))
              (ap is_answered did-answer) (all-run p w.run b (count w.state.start.version b) w.pass l.f l.g)
              ∙ sym h.world;
          buffers = ap (λ (o : Result). o.lent) o ∙ sym h.buffers;
        }

    refused-so : (k : Refusal) → block_table p w.state b l ≡ some k → is_whole w.state.start.version b ≡ true → 0 < count w.state.start.version b
        → somewhere (onward p) (λ w m. is_answered (came p w m).answer ≡ false) w (own_singles p w b l)
    refused-so k e whole more =
        ⊎_elim {C = somewhere (onward p) (λ w m. is_answered (came p w m).answer ≡ false) w (own_singles p w b l)}
        (λ (all : AllAnswered p w (own_singles p w b l)).
        let h = admitted p large w.state.start.version b (count w.state.start.version b) more w i l all in
        absurd (some_none (sym e ∙ block-free p w.state b l h.0 more whole h.1)))
        (λ h. h) (all-or_some (onward p) (λ w m. is_answered (came p w m).answer) w (own_singles p w b l))

    block-is : BlockDecided p w b l
    block-is =
        record {
          decided = subst (Decides w.run w.pass l (block_table p w.state b l)) (sym came-so) (decided-so (block_table p w.state b l));
          stands = stands-for;
          refused = refused-so;
        }

  -- THE ENTRIES OF A LIST
  pub record Moved (w : World) (x : Wide) : Type 0 where
    pub notes : Notes
    pub faithful : Faithful p large (wide_on p w x) notes
    pub decided : WideDecided p w x
    pub same : wide_on p w x ≡ after (onward p) w (standing p w x)

  faithful_after : (w : World) {past : Notes} → Faithful p large w past → (ms : List Made) → (n : Notes) × Faithful p large (after (onward p) w ms) n
  unfolding after along
  faithful_after w {past} i [] = (past, i)
  faithful_after w i (m ∷ ms) = faithful_after (onward p w m) (faithful_on p large w i m) ms

  block-moved : (w : World) {past : Notes} → Faithful p large w past → (b : Block) → (l : Lent) → Moved w (given b l)
  unfolding after along
  block-moved w {past} i b l = by (block_table p w.state b l) refl
    where
      is : BlockDecided p w b l
      is = block-is w i b l

      ms : List Made
      ms = own_singles p w b l

      by : (t : Option Refusal) → block_table p w.state b l ≡ t → Moved w (given b l)
      by none e =
          let h = is.stands e in
          let so : standing p w (given b l) ≡ ms = ap (λ (o : Outcome Reply). cond (is_answered o) ms []) h.answer in
          let f = faithful_after w i ms in
          record {
            notes = f.0;
            faithful = subst (λ v. Faithful p large v f.0) (sym h.same) f.1;
            decided = is;
            same = h.same ∙ ap (after (onward p) w) (sym so);
          }
      by (some k) e =
          let o : block_came p w b l ≡ refused_result w.run w.pass l k = subst (λ t. Decides w.run w.pass l t (block_came p w b l)) e is.decided in
          let no : is_answered (refused_with {A = Reply} k.0 k.1) ≡ false = refused_with_lem Reply k.0 k.1 in
          let so : standing p w (given b l) ≡ [] = ap (λ (o : Result). cond (is_answered o.answer) ms []) o ∙ ap (λ c. cond c ms []) no in
          let still : wide_on p w (given b l) ≡ w =
          ap (λ (o : Result). (let v : World = record { state = cond (is_answered o.answer) (with_items w.state b (count w.state.start.version b) o.lent) w.state; run = o.run; pass = o.pass } in v)) o
          ∙ ap (λ (c : Bool). (let v : World = record { state = cond c (with_items w.state b (count w.state.start.version b) l) w.state; run = w.run; pass = w.pass } in v)) no in
          record {
            notes = past;
            faithful = subst (λ v. Faithful p large v past) (sym still) i;
            decided = is;
            same = still ∙ ap (after (onward p) w) (sym so);
          }

  moved : (w : World) {past : Notes} → Faithful p large w past → (x : Wide) → Moved w x
  unfolding after along
  moved w {past} i (made m) = record { notes = noted p m.call past (came p w m).answer; faithful = faithful_on p large w i m; decided = tt; same = refl }
  moved w i (given b l) = block-moved w i b l

  -- EVERY LIST
  pub all_blocks : (w : World) {past : Notes} → Faithful p large w past → (xs : List Wide)
      → along (wide_on p) (WideDecided p) w xs × (after (wide_on p) w xs ≡ after (onward p) w (expanded p w xs))
  unfolding along after expanded
  all_blocks w i [] = (tt, refl)
  all_blocks w i (x ∷ xs) =
      let m = moved w i x in
      let rest = all_blocks (wide_on p w x) m.faithful xs in (
        (m.decided, rest.0),
        rest.1 ∙ ap (λ v. after (onward p) v (expanded p (wide_on p w x) xs)) m.same ∙ sym (after_both (onward p) w (standing p w x) (expanded p (wide_on p w x) xs)),
      )

  -- wherever the run begins
  pub begun-blocks : (s : Start) (b : Begin) → CanBegin s b → (f g : List ℕ) (xs : List Wide)
      → (let w : World = begun s b f g in
      along (wide_on p) (WideDecided p) w xs × (after (wide_on p) w xs ≡ after (onward p) w (expanded p w xs)))
  begun-blocks s b h f g xs = all_blocks (begun s b f g) (begun-faithful p large s b h f g) xs
