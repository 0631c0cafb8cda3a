-- A STEP IS THE TABLE'S: what a call does where the table has nothing against it, and a refusal that changes nothing where it has.
use mathlib.Core.Path.{◌≡◌, refl, sym, ap, subst, ◌∙◌}
use mathlib.Core.Bool.{Bool, true, false, cond, ◌&&◌, true≢false}
use mathlib.Core.List.{List, [], ◌++◌}
use mathlib.Core.Option.{Option, none, some}
use Prim.Native.Nat.{ℕ, ◌*◌, ◌≤◌, ◌<◌}
use lib.Dec.{leb}
use lib.ListN.{length, get_or, drop}
use borrow.Author.Tests.{le-leb, lt-ltb}
use Rattle.refusal.specs.Limit.{max_rounds}
use Rattle.refusal.specs.Outcome.{Outcome, answered}
use Rattle.field.specs.Total.{in_limits}
use Rattle.wire.specs.Proof.{all_below, proof_size, write_proof, written_in}
use Rattle.phase.specs.declared.Mode.{Mode}
use Rattle.phase.specs.declared.Mode.TheVariants.{Small, Full}
use Rattle.phase.specs.declared.Next.{Next}
use Rattle.phase.specs.declared.Next.TheVariants as next
use Rattle.phase.specs.declared.Kind.{Kind}
use Rattle.phase.specs.declared.Kind.TheVariants.{Shut, Asked, Change}
use Rattle.phase.specs.Cases.{waits, is_open}
use Rattle.phase.specs.Order.{kind_fits}
use Rattle.prover.specs.declared.Run.{Run}
use Rattle.pass.specs.declared.Pass.{Pass}
use Rattle.prover.specs.Reply as reply
use Rattle.pass.specs.Values.{no_values}
use Rattle.prover.specs.Records.{Step, Out, out, leaves}
use Rattle.prover.specs.WellFormed.{well_formed}
use Rattle.pass.specs.Open.{no_points, points_of}
use Rattle.prover.specs.Open.{opened, open_kernel, padded_kernel}
use Rattle.prover.specs.Take.{takes}
use Rattle.prover.specs.Change.{changes, returns}
use Rattle.prover.specs.Close.{total_step, message_step, ends_step, opening_step, changed_step, finished, closing, leaves_step}
use Rattle.prover.specs.Full.{message_given, ends_given}
use Rattle.prover.specs.Opening.{opening_given}
use Rattle.prover.specs.Written.{may_write, write_call, written_step, run_proof}
use Rattle.item.specs.Item.{contributes}
use Rattle.runs.specs.Trip.{sum_of}
use Rattle.calls.specs.declared.Call.{Call}
use Rattle.calls.specs.declared.Call.TheVariants as call
use Rattle.calls.specs.Step.{Lent, Result, keeping, leaving, step}
use Rattle.calls.specs.State.{State}
use Rattle.calls.specs.Table.{Refusal, refused_with, decided, row, table}
use Rattle.calls.proofs.Records.{Notes, run_of}
use Rattle.calls.proofs.Guards.{challenge_does, same_row, like_row, both_and, open_decided, open_at_decided, to_full_decided, to_small_decided, message-decided, ends_decided, opening-decided, challenge-decided, item-decided, close-decided}

-- what the close of a pass comes to; the first and the fourth line are met by no list
abbrev pub close_step : ℕ → Run → Pass → Next → Kind → Step
close_step p r s t Shut = changed_step r
close_step p r s next.Total Asked = total_step p r s
close_step p r s next.Message Asked = message_step r s
close_step p r s next.Challenge Asked = changed_step r
close_step p r s next.Ends Asked = ends_step r s
close_step p r s next.Openings Asked = opening_step r s
close_step p r s t Change = changed_step r

-- a call with no buffers
abbrev pub keeping_step : Lent → Step → Result
keeping_step l s = keeping l (out s [] [])

-- an answered call
abbrev pub does : ℕ → Run → Pass → Call → Lent → Result
does p r s call.OpenPass l = keeping l (opened r no_points (open_kernel r))
does p r s (call.OpenAt b) l = keeping l (opened r (points_of p b) (padded_kernel r))
does p r s call.ToFull l = leaving l (changes r l.f l.g)
does p r s call.ToSmall l = keeping l (returns r s)
does p r s (call.Give x) l = leaving l (takes p r s (contributes p r.start x) l.f l.g)
does p r s call.Close l = keeping_step l (close_step p r s r.next s.kind)
does p r s call.Message l = leaving l (message_given p r s l.f l.g)
does p r s (call.Challenge c) l = leaving l (challenge_does p r s c l r.mode)
does p r s call.Ends l = leaving l (ends_given r s l.f l.g)
does p r s (call.Opening b) l = leaving l (opening_given p r s b l.f l.g)
does p r s call.WriteProof l =
    record {
      run = r;
      pass = s;
      answer = answered (reply.written (proof_size r.start.rounds));
      values = no_values;
      lent = record { f = l.f; g = l.g; file = run_proof r ++ drop (proof_size r.start.rounds) l.file };
    }

abbrev pub refused_result : Run → Pass → Lent → Refusal → Result
refused_result r s l k = record { run = r; pass = s; answer = refused_with k.0 k.1; values = no_values; lent = l }

abbrev pub settled : Run → Pass → Lent → Option Refusal → Result → Result
settled r s l none o = o
settled r s l (some k) o = refused_result r s l k

pub some_none : {A : Type 0} {x : A} → ◌≡◌ {A = Option A} (some x) none → ⊥
some_none {A} {x} e = true≢false (ap there e)
  where
    there : Option A → Bool
    there none = false
    there (some y) = true

keeps : (r : Run) (s : Pass) (l : Lent) (t : Option Refusal) (o : Out) → keeping l (leaves r s [] [] (decided t (answered o))) ≡ settled r s l t (keeping l o)
keeps r s l none o = refl
keeps r s l (some (k, none)) o = refl
keeps r s l (some (k, some i)) o = refl

pub leaving-so : (r : Run) (s : Pass) (l : Lent) (t : Option Refusal) (o : Out) → leaving l (leaves r s l.f l.g (decided t (answered o))) ≡ settled r s l t (leaving l o)
leaving-so r s l none o = refl
leaving-so r s l (some (k, none)) o = refl
leaving-so r s l (some (k, some i)) o = refl

-- the rows that an answered call passed
pub row-passed : (b : Bool) (k : ℕ) (t : Option Refusal) → row b k t ≡ none → (b ≡ true) × (t ≡ none)
row-passed true k t e = (refl, e)
row-passed false k t e = (let z : ◌≡◌ {A = Option Refusal} (some (k, none)) none = e in absurd (some_none z))

-- the pass that a state has open gives an answer
finishes : (p : ℕ) (r : Run) (s : Pass) (m : Mode) (t : Next) (k : Kind) → kind_fits k m t ≡ true → is_open k ≡ true → r.next ≡ t → closing p r s k ≡ answered (close_step p r s t k)
finishes p r s m t Shut h o e = absurd (true≢false (sym o))
finishes p r s Small next.Total Asked h o e = ap (finished p r s) e
finishes p r s Small next.Message Asked h o e = ap (finished p r s) e
finishes p r s Small next.Challenge Asked h o e = absurd (true≢false (sym h))
finishes p r s Small next.Ends Asked h o e = ap (finished p r s) e
finishes p r s Small next.Openings Asked h o e = ap (finished p r s) e
finishes p r s Full t Asked h o e = absurd (true≢false (sym h))
finishes p r s m t Change h o e = refl

module _ (p : ℕ) (a : State) (past : Notes) (few : a.start.rounds ≤ 15) (s : Pass) (wf : well_formed p (run_of a past) s ≡ true) (kind : s.kind ≡ a.pass.kind)
    (count : s.taken ≡ length a.pass.items) (sums : waits next.Total a.turn.next ≡ true → s.total ≡ sum_of a.start a.pass.items)
    (fits : kind_fits a.pass.kind a.turn.mode a.turn.next ≡ true) where
  abbrev R : Run
  R = run_of a past

  close-so : (l : Lent) (t : Option Refusal) → table p a call.Close l ≡ t
      → keeping l (leaves_step R s (decided t (closing p R s s.kind))) ≡ settled R s l t (keeping_step l (close_step p R s a.turn.next s.kind))
  unfolding table
  close-so l none e =
      let q = (row-passed (is_open a.pass.kind) 10 _ e).0 in
      ap (λ o. keeping l (leaves_step R s o))
      (finishes p R s a.turn.mode a.turn.next s.kind (subst (λ k. kind_fits k a.turn.mode a.turn.next ≡ true) (sym kind) fits)
      (ap is_open kind ∙ q) refl)
  close-so l (some (k, none)) e = refl
  close-so l (some (k, some i)) e = refl

  -- the Numbers that a plain run has given
  module _ (total : in_limits p past.total ≡ true) (messages : all_below p (λ k. get_or R.messages k 0) (3 * a.start.rounds) ≡ true)
      (fend : past.fend < p) (gend : past.gend < p) where
    file-rows : (file : List ℕ) → write_proof p a.start.rounds past.total R.messages past.fend past.gend file
        ≡ decided (row (leb (proof_size a.start.rounds) (length file)) 9 none) (answered (proof_size a.start.rounds))
    unfolding write_proof
    file-rows file =
        rw (le-leb a.start.rounds max_rounds few, total, messages, lt-ltb past.fend p fend, lt-ltb past.gend p gend)
        (same_row (leb (proof_size a.start.rounds) (length file)) 9 _ none _ refl)

    write_turn : may_write p R s ≡ (a.start.plain && waits next.Openings a.turn.next)
    write_turn = ap (λ b. cond b (cond a.start.plain (waits next.Openings a.turn.next) false) false) wf ∙ both_and a.start.plain (waits next.Openings a.turn.next)

    write_so : (l : Lent) → write_call p R s l.file ≡ decided (table p a call.WriteProof l) (answered (proof_size a.start.rounds))
    unfolding write_call table
    write_so l = like_row _ _ 10 _ _ _ write_turn (file-rows l.file)

    write_settled : (l : Lent) (t : Option Refusal) (o : Outcome ℕ) → o ≡ decided t (answered (proof_size a.start.rounds))
        → keeping (record { f = l.f; g = l.g; file = written_in o (run_proof R) l.file }) (written_step R s o)
        ≡ settled R s l t (does p R s call.WriteProof l)
    unfolding written_in
    write_settled l none o e = rw e
    write_settled l (some (k, none)) o e = rw e
    write_settled l (some (k, some i)) o e = rw e

    -- THE STEP
    pub steps : (c : Call) (l : Lent) → step p R s c l ≡ settled R s l (table p a c l) (does p R s c l)
    unfolding step
    steps call.OpenPass l = ap (λ o. keeping l (leaves R s [] [] o)) (open_decided p a past few s wf l) ∙ keeps R s l (table p a call.OpenPass l) _
    steps (call.OpenAt b) l = ap (λ o. keeping l (leaves R s [] [] o)) (open_at_decided p a past few s wf b l) ∙ keeps R s l (table p a (call.OpenAt b) l) _
    steps call.ToFull l = ap (λ o. leaving l (leaves R s l.f l.g o)) (to_full_decided p a past few s wf l) ∙ leaving-so R s l (table p a call.ToFull l) _
    steps call.ToSmall l = ap (λ o. keeping l (leaves R s [] [] o)) (to_small_decided p a past few s wf l) ∙ keeps R s l (table p a call.ToSmall l) _
    steps (call.Give x) l = ap (λ o. leaving l (leaves R s l.f l.g o)) (item-decided p a past few s wf kind count x l) ∙ leaving-so R s l (table p a (call.Give x) l) _
    steps call.Close l = ap (λ o. keeping l (leaves_step R s o)) (close-decided p a past few s wf kind count sums l) ∙ close-so l (table p a call.Close l) refl
    steps call.Message l = ap (λ o. leaving l (leaves R s l.f l.g o)) (message-decided p a past few s wf l) ∙ leaving-so R s l (table p a call.Message l) _
    steps (call.Challenge c) l = ap (λ o. leaving l (leaves R s l.f l.g o)) (challenge-decided p a past few s wf c l) ∙ leaving-so R s l (table p a (call.Challenge c) l) _
    steps call.Ends l = ap (λ o. leaving l (leaves R s l.f l.g o)) (ends_decided p a past few s wf l) ∙ leaving-so R s l (table p a call.Ends l) _
    steps (call.Opening b) l = ap (λ o. leaving l (leaves R s l.f l.g o)) (opening-decided p a past few s wf b l) ∙ leaving-so R s l (table p a (call.Opening b) l) _
    steps call.WriteProof l = write_settled l (table p a call.WriteProof l) _ (write_so l)
