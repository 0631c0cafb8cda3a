-- AN OPENING in full mode, over lent buffers that hold fold 0.
use mathlib.Core.Path.{◌≡◌, ap, ◌∙◌}
use mathlib.Core.Bool.{true}
use mathlib.Core.List.{List}
use Prim.Native.Nat.{ℕ, ◌^◌, ◌≤◌, ◌<◌}
use native.Mathlib.Omega.{arith}
use borrow.Author.Tests.{leb-true}
use lib.Dec.{leb}
use lib.ListN.{length}
use Rattle.refusal.specs.Number as number
use Rattle.refusal.specs.Outcome.{answered}
use Rattle.vector.specs.Vector.{Vector, at as items}
use Rattle.vector.specs.Fold.{fold, fold_with}
use Rattle.vector.specs.Slice.{is_nonzero}
use Rattle.vector.specs.Opening.{opening}
use Rattle.vector.proofs.Rounds.{size-all}
use Rattle.prover.specs.declared.Run.{Run}
use Rattle.pass.specs.declared.Pass.{Pass}
use Rattle.prover.specs.Reply as reply
use Rattle.prover.specs.Level.{fold_size}
use Rattle.pass.specs.Values.{in_ninety}
use Rattle.prover.specs.Calls.{both_long}
use Rattle.prover.specs.Full.{opening_turn, both_reduced}
use Rattle.prover.specs.Opening.{opening_given, opening_call}
use Rattle.prover.proofs.Facts.{holds}
use Rattle.prover.proofs.FullFacts.{at-openings}
use Rattle.prover.proofs.FullLaws.{Lent, passed-row, lent_rows, both_long_lem}
use Rattle.pass.proofs.LentOpening.{opening-same}

-- the first 2^n places are there
pub fold-there : (p : ℕ) (r : Run) (s : Pass) (fs gs : List ℕ) → opening_turn p r s ≡ true → both_long r (length fs) (length gs) ≡ true
    → (r.start.rounds ≤ 15) × (2 ^ r.start.rounds ≤ length fs) × (2 ^ r.start.rounds ≤ length gs)
fold-there p r s fs gs turn l =
    let h = at-openings p r s turn in
    let long : fold_size r ≡ 2 ^ r.start.rounds = h.long ∙ size-all r.start.rounds in
    let a = holds (leb (fold_size r) (length fs)) (leb (fold_size r) (length gs)) l in
    (h.formed.few, omega (arith, leb-true (fold_size r) (length fs) a.0), omega (arith, leb-true (fold_size r) (length gs) a.1))

-- THE LAW: in full mode an opening is answered by the opening of the vectors at the point
pub opening-law : (p : ℕ) (c : ℕ → ℕ) (f g : Vector) (r : Run) (s : Pass) (fs gs : List ℕ) → Lent p c f g r fs gs → both_reduced p r fs gs ≡ true
    → ((j : ℕ) → j < r.start.rounds → items r.challenges j ≡ c j) → (b : ℕ) → opening_turn p r s ≡ true → is_nonzero p b ≡ true
    → opening_call p r s b fs gs
    ≡ answered (record { run = r; pass = s; answer = answered reply.opening; values = in_ninety r.start.rounds (opening p r.start.rounds c f g b); f = fs; g = gs })
unfolding opening_call opening_given fold_with
opening-law p c f g r s fs gs l reduced agree b turn ok =
    let h = at-openings p r s turn in
    let long : fold_size r ≡ 2 ^ r.start.rounds = h.long ∙ size-all r.start.rounds in
    passed-row (opening_turn p r s) number.order _ turn
    ∙ passed-row (is_nonzero p b) number.argument _ ok
    ∙ lent_rows p r fs gs _ (both_long_lem p c f g r s fs gs l reduced) reduced
    ∙ ap (λ v. answered (record { run = r; pass = s; answer = answered reply.opening; values = in_ninety r.start.rounds v; f = fs; g = gs }))
    (opening-same p r.start.rounds c f g b r.challenges fs gs h.formed.few agree
    (λ k less. l.first.same k (omega arith) ∙ ap (λ j. fold p c j f k) h.level)
    (λ k less. l.second.same k (omega arith) ∙ ap (λ j. fold p c j g k) h.level))
