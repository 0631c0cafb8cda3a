-- A call returns the start that it was given, whatever the records: so along a list every call of `make` and of `ask` is at the modulus
-- of the start that the list begins with.
use mathlib.Core.Path.{◌≡◌, refl, ap, ◌∙◌}
use mathlib.Core.Bool.{Bool, true, false, cond, not}
use mathlib.Core.List.{List, [], ◌∷◌}
use Prim.Native.Nat.{ℕ, zero, suc}
use lib.Dec.{eqb, ltb}
use lib.ListN.{length}
use Rattle.refusal.specs.Outcome.{Outcome, answered, refused, refused_at, require, and_then}
use Rattle.field.specs.Integer.{image}
use Rattle.field.specs.Number.{is_reduced, is_nonzero}
use Rattle.field.specs.Total.{in_limits}
use Rattle.vector.specs.Message.{Message, passes}
use Rattle.item.specs.declared.Start.{Start}
use Rattle.item.specs.declared.Item.{Item}
use Rattle.item.specs.Start.{modulus_of}
use Rattle.item.specs.Item.{parts_of}
use Rattle.phase.specs.declared.Mode.{Mode}
use Rattle.phase.specs.declared.Mode.TheVariants.{Small, Full}
use Rattle.phase.specs.declared.Next.{Next}
use Rattle.phase.specs.declared.Next.TheVariants as next
use Rattle.phase.specs.declared.Kind.{Kind}
use Rattle.phase.specs.declared.Kind.TheVariants.{Shut, Asked, Change}
use Rattle.prover.specs.declared.Run.{Run}
use Rattle.pass.specs.declared.Pass.{Pass}
use Rattle.prover.specs.declared.Reply.TheVariants as answer
use Rattle.prover.specs.Records.{Step, Out, out, leaves, answered_step}
use Rattle.pass.specs.Open.{no_points, points_of}
use Rattle.prover.specs.Open.{may_open, may_open_at, opened, open_kernel, padded_kernel, open_call, open_at_call}
use Rattle.prover.specs.Take as item
use Rattle.prover.specs.Level.{stage_of}
use Rattle.prover.specs.WellFormed as run
use Rattle.prover.specs.Calls.{both_long, pass_open, give_call}
use Rattle.pass.specs.Lent.{good_in}
use Rattle.pass.specs.Checks.{item_checks}
use Rattle.prover.specs.Change.{may_change, changes, to_full_call, may_return, returns, to_small_call}
use Rattle.prover.specs.Close.{with_total, with_field_total, shut_pass, total_fits, finished, closing, close_call, leaves_step}
use Rattle.prover.specs.Full.{message_turn, ends_turn, opening_turn, lent_folds, message_given, message_call, ends_given, ends_call}
use Rattle.prover.specs.Challenge.{challenge_turn, challenged_small, challenged_full, challenged, challenge_call}
use Rattle.prover.specs.Opening.{opening_given, opening_call}
use Rattle.prover.specs.Written.{write_call, written_step}
use Rattle.runs.proofs.PassRecord.{takes_run}
use Rattle.verifier.specs.declared.Verifier.{Verifier}
use Rattle.verifier.specs.Records as verifier
use Rattle.verifier.specs.Records.{Replied}
use Rattle.verifier.specs.Starts.{fresh_verifier}
use Rattle.verifier.specs.Sums.{one_more, takes}
use Rattle.verifier.specs.Claims.{message_of3, closed_with, closes, passed_with, failed_now, hears}
use Rattle.verifier.specs.WellFormed.{well_formed}
use Rattle.verifier.specs.Calls as calls
use Rattle.verifier.specs.Calls.{with_parts, give, close, close_claim, all_reduced3, message}
use Rattle.verifier.specs.ProofFile.{file_message, hears_next, hears_first, ends_agree, compares, after_file, Judgement, judges, read_total, proof, leaves_judged}
use Rattle.wire.specs.declared.proof.Head.{Head}
use Rattle.wire.specs.Proof.{read_proof_of}
use lib.IntN.{ℤ}
use Rattle.calls.specs.declared.Call.{Call}
use Rattle.calls.specs.declared.Call.TheVariants as call
use Rattle.calls.specs.declared.query.Query.{Query}
use Rattle.calls.specs.declared.query.Query.TheVariants as query
use Rattle.calls.specs.Lists.{always}
use Rattle.calls.specs.Step.{Lent, step}
use Rattle.calls.specs.World.{Made, World, onward}
use Rattle.calls.specs.Begins.{Begin, total, openings, begun}
use Rattle.calls.specs.QueryStep.{Shown, ask}
use Rattle.calls.specs.QueryState.{Posed, Hearing, fresh_hearing, hears_on}
use Rattle.calls.proofs.QuerySteps.{heard_as}

-- OF A RUN
module _ (p : ℕ) (r : Run) (s : Pass) where
  record Keeps (f g : List ℕ) (o : Outcome Out) : Type 0 where
    so : (leaves r s f g o).run.start ≡ r.start

  kept : (f g : List ℕ) (o : Outcome Out) → Keeps f g o → (leaves r s f g o).run.start ≡ r.start
  kept f g o h = h.so

  same : (f g : List ℕ) (o : Out) → o.run.start ≡ r.start → Keeps f g (answered o)
  same f g o e = record { so = e }

  -- what follows a check
  checked : (b : Bool) (k : ℕ) (f g : List ℕ) (rest : Outcome Out) → Keeps f g rest → Keeps f g (require b k rest)
  checked true k f g rest h = h
  checked false k f g rest h = record { so = refl }

  read : (f g : List ℕ) (rest : Outcome Out) → Keeps f g rest → Keeps f g (lent_folds p r f g rest)
  read f g rest h = by (good_in p (stage_of r) f g)
    where
      by : (o : Outcome (Unit {0})) → Keeps f g (and_then o (λ x. rest))
      by (answered x) = h
      by (refused k) = record { so = refl }
      by (refused_at k i) = record { so = refl }

  given : (f g : List ℕ) (o : Outcome Item) → Keeps f g (and_then o (λ x. answered (item.takes p r s x f g)))
  given f g (answered x) = same f g (item.takes p r s x f g) (ap (λ r. r.start) (takes_run p r s x f g))
  given f g (refused k) = record { so = refl }
  given f g (refused_at k i) = record { so = refl }

  took-challenge : (c : ℕ) (f g : List ℕ) (m : Mode) → Keeps f g (challenged p r s c f g m)
  unfolding challenged_full
  took-challenge c f g Small = same f g (out (challenged_small p r s c) f g) refl
  took-challenge c f g Full = read f g _ (same f g (challenged_full p r s c f g) refl)

  record Closes (o : Outcome Step) : Type 0 where
    so_closed : (leaves_step r s o).run.start ≡ r.start

  kept-closed : (o : Outcome Step) → Closes o → (leaves_step r s o).run.start ≡ r.start
  kept-closed o h = h.so_closed

  closed-check : (b : Bool) (k : ℕ) (rest : Outcome Step) → Closes rest → Closes (require b k rest)
  closed-check true k rest h = h
  closed-check false k rest h = record { so_closed = refl }

  gave-total : (plain : Bool)
      → (cond plain (answered_step (with_total p r s.total) shut_pass (answer.Total s.total))
      (answered_step (with_field_total r s.dot) shut_pass (answer.FieldTotal s.dot))).run.start
      ≡ r.start
  gave-total true = refl
  gave-total false = refl

  gave : (t : Next) → Closes (finished p r s t)
  gave next.Total = record { so_closed = gave-total r.start.plain }
  gave next.Message = record { so_closed = refl }
  gave next.Challenge = record { so_closed = refl }
  gave next.Ends = record { so_closed = refl }
  gave next.Openings = record { so_closed = refl }

  closed : (k : Kind) → Closes (closing p r s k)
  closed Shut = record { so_closed = refl }
  closed Asked = gave r.next
  closed Change = record { so_closed = refl }

  wrote : (o : Outcome ℕ) → (written_step r s o).run.start ≡ r.start
  wrote (answered size) = refl
  wrote (refused k) = refl
  wrote (refused_at k i) = refl

  -- A CALL RETURNS THE START THAT IT WAS GIVEN
  pub step_start : (c : Call) (l : Lent) → (step p r s c l).run.start ≡ r.start
  unfolding step open_call open_at_call to_full_call to_small_call give_call close_call message_call message_given challenge_call ends_call opening_call opening_given
  step_start call.OpenPass l = kept [] [] (open_call p r s) (checked (may_open p r s) 10 [] [] _ (same [] [] (opened r no_points (open_kernel r)) refl))
  step_start (call.OpenAt b) l =
      kept [] [] (open_at_call p r s b)
      (checked (may_open_at p r s) 10 [] [] _ (checked (is_nonzero p b) 6 [] [] _ (same [] [] (opened r (points_of p b) (padded_kernel r)) refl)))
  step_start call.ToFull l =
      kept l.f l.g (to_full_call p r s l.f l.g)
      (checked (may_change p r s) 10 l.f l.g _
      (checked (both_long r (length l.f) (length l.g)) 9 l.f l.g _ (same l.f l.g (changes r l.f l.g) refl)))
  step_start call.ToSmall l = kept [] [] (to_small_call p r s) (checked (may_return p r s) 10 [] [] _ (same [] [] (returns r s) refl))
  step_start (call.Give x) l =
      kept l.f l.g (give_call p r s x l.f l.g)
      (given l.f l.g (item_checks p (stage_of r) (run.well_formed p r s) s.kind s.taken x (length l.f) (length l.g)))
  step_start call.Close l =
      kept-closed (close_call p r s)
      (closed-check (pass_open p r s) 10 _
      (closed-check (eqb s.taken r.start.items) 8 _ (closed-check (total_fits p r s) 7 _ (closed s.kind))))
  step_start call.Message l =
      kept l.f l.g (message_call p r s l.f l.g)
      (checked (message_turn p r s) 10 l.f l.g _ (read l.f l.g _ (same l.f l.g (message_given p r s l.f l.g) refl)))
  step_start (call.Challenge c) l =
      kept l.f l.g (challenge_call p r s c l.f l.g)
      (checked (challenge_turn p r s) 10 l.f l.g _
      (checked (is_nonzero p c) 6 l.f l.g _ (took-challenge c l.f l.g r.mode)))
  step_start call.Ends l =
      kept l.f l.g (ends_call p r s l.f l.g)
      (checked (ends_turn p r s) 10 l.f l.g _ (read l.f l.g _ (same l.f l.g (ends_given r s l.f l.g) refl)))
  step_start (call.Opening b) l =
      kept l.f l.g (opening_call p r s b l.f l.g)
      (checked (opening_turn p r s) 10 l.f l.g _
      (checked (is_nonzero p b) 6 l.f l.g _ (read l.f l.g _ (same l.f l.g (opening_given p r s b l.f l.g) refl))))
  step_start call.WriteProof l = wrote (write_call p r s l.file)

-- OF A VERIFIER
module _ (p : ℕ) where
  heard-start : (v : Verifier) (m : Message) → (hears p v m).verifier.start ≡ v.start
  unfolding hears passed_with failed_now
  heard-start v m = by (eqb (passes p m) v.claim)
    where
      by : (b : Bool) → (heard_as p v m b).verifier.start ≡ v.start
      by true = refl
      by false = refl

  next_start : (v : Verifier) (m : Message) → (hears_next p v m).start ≡ v.start
  unfolding hears_next
  next_start v m = by v.failed
    where
      by : (b : Bool) → (cond b v (hears p v m).verifier).start ≡ v.start
      by true = refl
      by false = heard-start v m

  first-start : (v : Verifier) (m : ℕ → Message) (k : ℕ) → (hears_first p v m k).start ≡ v.start
  unfolding hears_first
  first-start v m zero = refl
  first-start v m (suc k) = next_start (hears_first p v m k) (m k) ∙ first-start v m k

  compared_start : (v : Verifier) (file : List ℕ) → (compares v file).start ≡ v.start
  unfolding compares failed_now
  compared_start v file = by (ends_agree v file)
    where
      by : (b : Bool) → (cond b v (failed_now v)).start ≡ v.start
      by true = refl
      by false = refl

  file-start : (v : Verifier) (z : ℤ) (file : List ℕ) → (after_file p v z file).start ≡ v.start
  unfolding after_file closed_with
  file-start v z file =
      compared_start (hears_first p (closed_with v (image p z)) (file_message file) v.start.rounds) file
      ∙ first-start (closed_with v (image p z)) (file_message file) v.start.rounds

module _ (p : ℕ) (v : Verifier) where
  record Leaves (o : Outcome Replied) : Type 0 where
    so_left : (verifier.leaves v o).verifier.start ≡ v.start

  left : (o : Outcome Replied) → Leaves o → (verifier.leaves v o).verifier.start ≡ v.start
  left o h = h.so_left

  replied : (o : Replied) → o.verifier.start ≡ v.start → Leaves (answered o)
  replied o e = record { so_left = e }

  asked-check : (b : Bool) (k : ℕ) (rest : Outcome Replied) → Leaves rest → Leaves (require b k rest)
  asked-check true k rest h = h
  asked-check false k rest h = record { so_left = refl }

  took : (o : Outcome Item) → Leaves (with_parts o (takes p v))
  unfolding one_more
  took (answered x) = record { so_left = refl }
  took (refused k) = record { so_left = refl }
  took (refused_at k i) = record { so_left = refl }

  record Judges (o : Outcome Judgement) : Type 0 where
    so_judged : (leaves_judged v o).0.start ≡ v.start

  left-judged : (o : Outcome Judgement) → Judges o → (leaves_judged v o).0.start ≡ v.start
  left-judged o h = h.so_judged

  judged_check : (b : Bool) (k : ℕ) (rest : Outcome Judgement) → Judges rest → Judges (require b k rest)
  judged_check true k rest h = h
  judged_check false k rest h = record { so_judged = refl }

  judged : (o : Outcome Head) (file : List ℕ) → Judges (read_total o (λ total. judges p v total file))
  judged (answered x) file = record { so_judged = file-start p v x.total file }
  judged (refused k) file = record { so_judged = refl }
  judged (refused_at k i) file = record { so_judged = refl }

  pub ask-start : (c : Query) (l : Shown) → (ask p v c l).verifier.start ≡ v.start
  unfolding ask give close close_claim closed_with message proof
  ask-start (query.Give x) l =
      left (give p v x)
      (asked-check (calls.pass_open v) 10 _ (asked-check (ltb v.taken v.start.items) 8 _ (took (parts_of p v.start v.taken x))))
  ask-start (query.Close t) l =
      left (close p v t)
      (asked-check (calls.pass_open v) 10 _
      (asked-check (eqb v.taken v.start.items) 8 _
      (asked-check v.start.plain 10 _ (asked-check (in_limits p t) 7 _ (replied (closes v (image p t)) refl)))))
  ask-start (query.CloseClaim c) l =
      left (close_claim p v c)
      (asked-check (calls.pass_open v) 10 _
      (asked-check (eqb v.taken v.start.items) 8 _
      (asked-check (not v.start.plain) 10 _ (asked-check (is_reduced p c) 11 _ (replied (closes v c) refl)))))
  ask-start (query.Message even cross odd) l =
      left (message p v even cross odd)
      (asked-check (well_formed v) 10 _
      (asked-check (calls.message_turn v) 12 _
      (asked-check (all_reduced3 p even cross odd) 11 _ (replied (hears p v (message_of3 even cross odd)) (heard-start p v (message_of3 even cross odd))))))
  ask-start query.Verdict l = refl
  ask-start query.Proof l =
      left-judged (proof p v l.file)
      (judged_check (calls.pass_open v) 10 _
      (judged_check (eqb v.taken v.start.items) 8 _
      (judged_check v.start.plain 10 _ (judged (read_proof_of p v.start.rounds l.file) l.file))))
  ask-start (query.CheckOpening b) l = refl
  ask-start (query.CheckBatch m z b) l = refl

-- ALONG A LIST the modulus is that of its start
module _ (s : Start) where
  runs_stay : (ms : List Made) (w : World) → w.run.start ≡ s → always (onward (modulus_of s)) (λ w. modulus_of w.run.start ≡ modulus_of s) w ms
  unfolding always
  runs_stay [] w e = ap modulus_of e
  runs_stay (m ∷ ms) w e =
      (ap modulus_of e, runs_stay ms (onward (modulus_of s) w m) (step_start (modulus_of s) w.run w.pass m.call m.lent ∙ e))

  pub run-modulus : (b : Begin) (f g : List ℕ) (ms : List Made)
      → always (onward (modulus_of s)) (λ w. modulus_of w.run.start ≡ modulus_of s) (begun s b f g) ms
  run-modulus total f g ms = runs_stay ms (begun s total f g) refl
  run-modulus (openings cs) f g ms = runs_stay ms (begun s (openings cs) f g) refl

  verifiers_stay : (qs : List Posed) (h : Hearing) → h.verifier.start ≡ s
      → always (hears_on (modulus_of s)) (λ h. modulus_of h.verifier.start ≡ modulus_of s) h qs
  unfolding always
  verifiers_stay [] h e = ap modulus_of e
  verifiers_stay (q ∷ qs) h e =
      (ap modulus_of e, verifiers_stay qs (hears_on (modulus_of s) h q) (ask-start (modulus_of s) h.verifier q.query q.shown ∙ e))

  pub verifier-modulus : (cs : List ℕ) (qs : List Posed)
      → always (hears_on (modulus_of s)) (λ h. modulus_of h.verifier.start ≡ modulus_of s) (fresh_hearing s cs) qs
  unfolding fresh_verifier
  verifier-modulus cs qs = verifiers_stay qs (fresh_hearing s cs) refl
