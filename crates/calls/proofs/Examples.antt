-- "One trip, whole", in small mode, in full mode, with a change, and there and back: the lists are answered as written, by computation.
use Prim.Native.Nat.{ℕ}
use mathlib.Core.Path.{refl}
use mathlib.Core.Bool.{true}
use mathlib.Core.List.{List}
use Rattle.algebra.specs.Mod.{residue, add_mod, neg_mod, mul_mod}
use Rattle.field.specs.Integer.{image}
use Rattle.field.specs.Total.{in_limits, plus}
use Rattle.vector.specs.Fold.{fold_with}
use Rattle.kernel.specs.Kernel.{horner_at, arrived, top_at, climb_from, evaluated_from, climbed, evaluated, meets_at, summed, settled, sums_after, stacks_fit, entered, streamed, padding_from, padding_below}
use Rattle.kernel.specs.Change.{left, placed, placed_all}
use Rattle.vector.specs.Opening.{triple_values}
use Rattle.vector.specs.Power.{size_in32}
use Rattle.vector.specs.Rounds.{rounds_of}
use Rattle.vector.specs.Slice.{overwrite, fold_slice, message_slice, every}
use Rattle.vector.specs.Vector.{sum}
use Rattle.wire.specs.Number.{bytes, bits}
use Rattle.wire.specs.Proof.{all_below, numbers, proof_header, write_proof, written_in}
use Rattle.pass.specs.Checks.{item_checks}
use Rattle.prover.specs.Calls.{give_call}
use Rattle.prover.specs.Challenge.{challenge_call, challenged_full}
use Rattle.pass.specs.Lent.{cleared}
use Rattle.prover.specs.Change.{to_full_call, to_small_call}
use Rattle.prover.specs.Close.{close_call}
use Rattle.prover.specs.Full.{message_call, message_given, ends_call}
use Rattle.prover.specs.Open.{open_call, open_at_call}
use Rattle.prover.specs.Opening.{opening_given, opening_call}
use Rattle.pass.specs.Take.{summed_item}
use Rattle.pass.specs.Take.{enters_in, entered_in, placed_in, takes_in}
use Rattle.prover.specs.Take.{takes}
use Rattle.pass.specs.Values.{values_of}
use Rattle.pass.specs.Formed.{pass_formed, turn_formed}
use Rattle.prover.specs.WellFormed.{well_formed}
use Rattle.prover.specs.Written.{write_call}
use Rattle.item.specs.Version.{in_range}
use Rattle.item.specs.Mark.{is_mark}
use Rattle.item.specs.Item.{parts_of}
use Rattle.runs.specs.Trip.{sum_of}
use Rattle.calls.specs.Lists.{each}
use Rattle.calls.specs.Step.{step}
use Rattle.calls.specs.World.{fresh_world}
use Rattle.calls.specs.Table.{table}
use Rattle.calls.specs.Example.{P, trip_start, trip, calls_of, answers_of, refusals_of, last_of, claims_go, TripList}
use Rattle.calls.specs.ExampleSmall.{small_calls}
use Rattle.calls.specs.ExampleFull.{full_calls}
use Rattle.calls.specs.ExampleChange.{changing}
use Rattle.calls.specs.ExampleReturn.{returning}
use Rattle.calls.proofs.ExampleKept.{all_true, all-kept}

module _ (f g : List ℕ) where
  pub small_run : TripList small_calls (claims_go 11 9 7 17) (fresh_world trip_start f g)
  unfolding each all_true last_of calls_of answers_of refusals_of table sum_of step message_call give_call item_checks open_call open_at_call close_call challenge_call to_full_call write_call well_formed turn_formed pass_formed rounds_of in_limits size_in32 parts_of takes takes_in enters_in summed_item entered_in plus image residue neg_mod add_mod mul_mod values_of triple_values bytes bits all_below numbers proof_header write_proof written_in horner_at arrived top_at climb_from evaluated_from climbed evaluated meets_at summed settled sums_after stacks_fit entered streamed padding_from padding_below left placed placed_all placed_in in_range is_mark
  small_run =
      record {
        kept = all-kept P true trip (fresh_world trip_start f g) (calls_of small_calls) refl;
        replies = refl;
        refusals = refl;
        shown = refl;
        file = refl;
      }

  pub full_run : TripList full_calls (claims_go 4 18 3 8) (fresh_world trip_start f g)
  unfolding each all_true last_of calls_of answers_of refusals_of every table sum_of step message_given message_call ends_call give_call item_checks open_call close_call challenged_full challenge_call cleared to_full_call opening_given opening_call write_call well_formed turn_formed pass_formed rounds_of in_limits size_in32 parts_of takes takes_in enters_in summed_item entered_in plus image residue neg_mod add_mod mul_mod sum fold_with overwrite fold_slice message_slice triple_values bytes bits all_below numbers proof_header write_proof written_in horner_at arrived top_at climb_from evaluated_from climbed evaluated meets_at summed settled sums_after stacks_fit entered streamed padding_from padding_below left placed placed_all placed_in in_range is_mark
  full_run =
      record {
        kept = all-kept P true trip (fresh_world trip_start f g) (calls_of full_calls) refl;
        replies = refl;
        refusals = refl;
        shown = refl;
        file = refl;
      }

  pub changing-run : TripList changing (claims_go 5 7 14 7) (fresh_world trip_start f g)
  unfolding each all_true last_of calls_of answers_of refusals_of every table sum_of step message_given message_call ends_call give_call item_checks open_call open_at_call close_call challenged_full challenge_call cleared to_full_call opening_given opening_call write_call well_formed turn_formed pass_formed rounds_of in_limits size_in32 parts_of takes takes_in enters_in summed_item entered_in plus image residue neg_mod add_mod mul_mod sum fold_with overwrite fold_slice message_slice triple_values bytes bits all_below numbers proof_header write_proof written_in horner_at arrived top_at climb_from evaluated_from climbed evaluated meets_at summed settled sums_after stacks_fit entered streamed padding_from padding_below left placed placed_all placed_in in_range is_mark
  changing-run =
      record {
        kept = all-kept P true trip (fresh_world trip_start f g) (calls_of changing) refl;
        replies = refl;
        refusals = refl;
        shown = refl;
        file = refl;
      }

  pub returning-run : TripList returning (claims_go 4 10 8 15) (fresh_world trip_start f g)
  unfolding each all_true last_of calls_of answers_of refusals_of every table sum_of step message_given message_call ends_call give_call item_checks open_call open_at_call close_call challenged_full challenge_call cleared to_full_call to_small_call opening_given opening_call write_call well_formed turn_formed pass_formed rounds_of in_limits size_in32 parts_of takes takes_in enters_in summed_item entered_in plus image residue neg_mod add_mod mul_mod sum fold_with overwrite fold_slice message_slice values_of triple_values bytes bits all_below numbers proof_header write_proof written_in horner_at arrived top_at climb_from evaluated_from climbed evaluated meets_at summed settled sums_after stacks_fit entered streamed padding_from padding_below left placed placed_all placed_in in_range is_mark
  returning-run =
      record {
        kept = all-kept P true trip (fresh_world trip_start f g) (calls_of returning) refl;
        replies = refl;
        refusals = refl;
        shown = refl;
        file = refl;
      }
