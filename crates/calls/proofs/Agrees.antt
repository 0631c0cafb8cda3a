-- What holds of a state whose answered calls brought the trip's items and kept the buffers.
use mathlib.Core.Path.{◌≡◌, refl, sym, ap, ap₂, subst, ◌∙◌}
use mathlib.Core.Bool.{Bool, true, false, cond, not, ◌&&◌, ◌||◌}
use mathlib.Core.List.{List, [], ◌∷◌, ◌++◌}
use Prim.Native.Nat.{ℕ, zero, suc, ◌+◌, ◌*◌, ◌-◌, ◌^◌, ◌<◌, ◌≤◌}
use native.Mathlib.Omega.{arith}
use lib.ListN.{length, length-append, get_or-append}
use lib.Seq.{get_or-append_seam}
use borrow.Author.Tests.{ltb-true, eqb-true}
use Rattle.vector.specs.Vector.{at, dot}
use Rattle.vector.specs.Rounds.{size}
use Rattle.vector.specs.Fold.{combine, fold, end_value}
use Rattle.vector.proofs.Rounds.{rounds-enough}
use Rattle.vector.proofs.Folds.{fold-challenges}
use Rattle.vector.proofs.Messages.{message-same}
use Rattle.kernel.proofs.KernelPass.{Taken}
use Rattle.kernel.proofs.KernelChangePass.{Changing}
use Rattle.phase.specs.declared.Mode.{Mode}
use Rattle.phase.specs.declared.Next.{Next}
use Rattle.phase.specs.declared.Next.TheVariants as next
use Rattle.phase.specs.declared.Kind.{Kind}
use Rattle.phase.specs.declared.Kind.TheVariants.{Shut, Asked, Change}
use Rattle.phase.specs.Cases.{waits, is_change, is_full}
use Rattle.phase.specs.Level.{level_at}
use Rattle.phase.specs.Order.{round_fits}
use Rattle.pass.specs.declared.Pass.{Pass}
use Rattle.pass.specs.Pass.{kernel_of}
use Rattle.prover.specs.Level.{level_of}
use Rattle.item.specs.declared.Given.{Given}
use Rattle.runs.specs.Trip.{Trip, vector_f, vector_g, total_of}
use Rattle.runs.specs.Passes.{pass_after, Gives}
use Rattle.runs.proofs.PassTrip.{after-given, after-changing}
use Rattle.calls.specs.State.{State}
use Rattle.calls.specs.Table.{long}
use Rattle.calls.specs.Claim.{amid_rounds}
use Rattle.calls.specs.Meaning.{message_at, messages_of, messages_to, fold_f, fold_g}
use Rattle.calls.specs.Statement.{known}
use Rattle.calls.proofs.Records.{Notes, run_of}
use Rattle.calls.proofs.Arrays.{array_at}
use Rattle.calls.proofs.Fits.{given_at, Fits, run-formed}

-- the trip of a state's start
abbrev pub trip_at : List Given → State → Trip
trip_at its a = record { start = a.start; items = its }

-- from which place on the buffers hold the current fold, by mode and pass
abbrev pub known_in : ℕ → ℕ → Mode → Kind → Bool → Bool → ℕ
known_in h q m k openings through = cond (is_full m) (cond openings h 0) (cond (is_change k && (through || not openings)) (h - q) h)

pub record Agrees (p : ℕ) (through : Bool) (its : List Given) (a : State) (past : Notes) : Type 0 where
  pub gives : Gives (trip_at its a) a.pass.items
  pub places_f : (j : ℕ) → known through a ≤ j → j < long a → at a.buffers.f j ≡ fold_f p (trip_at its a) a j
  pub places_g : (j : ℕ) → known through a ≤ j → j < long a → at a.buffers.g j ≡ fold_g p (trip_at its a) a j
  pub total : a.start.plain ≡ true → waits next.Total a.turn.next ≡ false → past.total ≡ total_of (trip_at its a)
  -- only a plain run writes its messages and ends into a file
  pub messages : a.start.plain ≡ true
      → past.messages ≡ messages_to p (trip_at its a) a.turn.challenges (given_at (length a.turn.challenges) a.turn.next)
  pub ends : a.start.plain ≡ true → waits next.Openings a.turn.next ≡ true
      → (past.fend ≡ end_value p (at a.turn.challenges) a.start.rounds (vector_f p (trip_at its a)))
      × (past.gend ≡ end_value p (at a.turn.challenges) a.start.rounds (vector_g p (trip_at its a)))
  -- the message that the next challenge is for
  pub last : waits next.Challenge a.turn.next ≡ true → past.running.message ≡ message_at p (trip_at its a) a.turn.challenges (length a.turn.challenges)
  pub claim : amid_rounds a.turn.next ≡ true → past.running.claim ≡ dot p (long a) (fold_f p (trip_at its a) a) (fold_g p (trip_at its a) a)

-- A MESSAGE DEPENDS ON THE CHALLENGES BEFORE IT
pub message-before : (p : ℕ) (T : Trip) (cs ds : List ℕ) (i : ℕ) → ((j : ℕ) → j < i → at cs j ≡ at ds j) → message_at p T cs i ≡ message_at p T ds i
message-before p T cs ds i same =
    message-same p (size T.start.rounds (suc i)) (fold p (at cs) i (vector_f p T)) (fold p (at ds) i (vector_f p T)) (fold p (at cs) i (vector_g p T)) (fold p (at ds) i (vector_g p T))
    (λ k l. fold-challenges (combine p) (at cs) (at ds) (vector_f p T) i same k) (λ k l. fold-challenges (combine p) (at cs) (at ds) (vector_g p T) i same k)

pub messages-before : (p : ℕ) (T : Trip) (cs ds : List ℕ) (i : ℕ) → ((j : ℕ) → j < i → at cs j ≡ at ds j) → messages_to p T cs (suc i) ≡ messages_to p T ds (suc i)
unfolding messages_of
messages-before p T cs ds zero same = ap (λ m. [] ++ m.even ∷ m.cross ∷ m.odd ∷ []) (message-before p T cs ds zero same)
messages-before p T cs ds (suc i) same =
    ap₂ (λ ms m. ms ++ m.even ∷ m.cross ∷ m.odd ∷ []) (messages-before p T cs ds i (λ j l. same j (omega arith))) (message-before p T cs ds (suc i) same)

-- one challenge more
pub old_challenges : (cs : List ℕ) (c j : ℕ) → j < length cs → at (cs ++ c ∷ []) j ≡ at cs j
old_challenges cs c j l = get_or-append cs (c ∷ []) 0 j l

pub new_challenge : (cs : List ℕ) (c : ℕ) → at (cs ++ c ∷ []) (length cs) ≡ c
new_challenge cs c = get_or-append_seam cs c [] 0

-- three numbers a message
pub length_messages : (p : ℕ) (T : Trip) (cs : List ℕ) (k : ℕ) → length (messages_to p T cs k) ≡ 3 * k
unfolding messages_of
length_messages p T cs zero = refl
length_messages p T cs (suc k) =
    length-append (messages_to p T cs k) ((message_at p T cs k).even ∷ (message_at p T cs k).cross ∷ (message_at p T cs k).odd ∷ [])
    ∙ omega (arith, length_messages p T cs k)

module _ (p : ℕ) (its : List Given) (a : State) {past : Notes} (h : Fits p a past) where
  abbrev T : Trip
  T = trip_at its a

  pub round-most : length a.turn.challenges ≤ a.start.rounds
  round-most = by a.turn.next h.run.round
    where
      by : (t : Next) → round_fits t (length a.turn.challenges) a.start.rounds ≡ true → length a.turn.challenges ≤ a.start.rounds
      by next.Total e = omega (arith, eqb-true (length a.turn.challenges) 0 e)
      by next.Message e = omega (arith, ltb-true (length a.turn.challenges) a.start.rounds e)
      by next.Challenge e = omega (arith, ltb-true (length a.turn.challenges) a.start.rounds e)
      by next.Ends e = omega (arith, eqb-true (length a.turn.challenges) a.start.rounds e)
      by next.Openings e = omega (arith, eqb-true (length a.turn.challenges) a.start.rounds e)

  -- the level of a pass uses challenges that were taken
  level-taken : (k : Kind) → level_of (run_of a past) k ≤ length a.turn.challenges
  level-taken k = by a.turn.next k h.run.round
    where
      by : (t : Next) (k : Kind) → round_fits t (length a.turn.challenges) a.start.rounds ≡ true → level_at a.start.rounds (length a.turn.challenges) t k ≤ length a.turn.challenges
      by next.Total k e = omega arith
      by next.Message k e = omega arith
      by next.Challenge k e = omega arith
      by next.Ends k e = omega (arith, eqb-true (length a.turn.challenges) a.start.rounds e)
      by next.Openings Shut e = omega arith
      by next.Openings Asked e = omega (arith, eqb-true (length a.turn.challenges) a.start.rounds e)
      by next.Openings Change e = omega arith

  pub agree_at : (k : Kind) (j : ℕ) → j < level_of (run_of a past) k → at (run_of a past).challenges j ≡ at a.turn.challenges j
  agree_at k j l = array_at 15 a.turn.challenges j (omega (arith, level-taken k))

  -- THE OPEN PASS has taken the trip's items, asked for or for a change
  pub pass_taken : waits next.Total a.turn.next ≡ false → Gives T a.pass.items
      → (let s : Pass = pass_after p (run_of a past) Asked a.pass.point a.pass.items in
      Taken p a.start.rounds (at a.turn.challenges) (level_of (run_of a past) Asked) s.points (vector_f p T) (vector_g p T) (2 ^ a.start.rounds - a.start.items + length a.pass.items) (kernel_of s))
  pass_taken other gives =
      after-given p (run_of a past) a.pass.point a.pass.items (run-formed p a h) h.pass.count other (at a.turn.challenges) (agree_at Asked) T refl gives

  pub pass-changing : waits next.Total a.turn.next ≡ false → Gives T a.pass.items
      → (let s : Pass = pass_after p (run_of a past) Change a.pass.point a.pass.items in
      Changing p a.start.rounds (at a.turn.challenges) (level_of (run_of a past) Change) (vector_f p T) (vector_g p T) (2 ^ a.start.rounds - a.start.items + length a.pass.items) (kernel_of s))
  pass-changing other gives =
      after-changing p (run_of a past) a.pass.point a.pass.items (run-formed p a h) h.pass.count other (at a.turn.challenges) (agree_at Change) T refl gives

  pub enough : a.start.items ≤ 2 ^ a.start.rounds
  enough = subst (λ n. a.start.items ≤ 2 ^ n) (sym h.run.rounds) (rounds-enough a.start.items h.run.most)

  -- a whole one
  pub pass-whole : waits next.Total a.turn.next ≡ false → Gives T a.pass.items → length a.pass.items ≡ a.start.items
      → (let s : Pass = pass_after p (run_of a past) Asked a.pass.point a.pass.items in
      Taken p a.start.rounds (at a.turn.challenges) (level_of (run_of a past) Asked) s.points (vector_f p T) (vector_g p T) (2 ^ a.start.rounds) (kernel_of s))
  pass-whole other gives all =
      let s : Pass = pass_after p (run_of a past) Asked a.pass.point a.pass.items in
      let t : 2 ^ a.start.rounds - a.start.items + length a.pass.items ≡ 2 ^ a.start.rounds = omega (arith, enough) in
      subst (λ t. Taken p a.start.rounds (at a.turn.challenges) (level_of (run_of a past) Asked) s.points (vector_f p T) (vector_g p T) t (kernel_of s)) t
      (pass_taken other gives)
