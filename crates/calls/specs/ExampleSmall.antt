-- The trip in small mode.
use Rattle.std.specs.Prelude.{List, [], ◌∷◌, ◌++◌, pos, negsuc}
use Rattle.refusal.specs.Outcome.{refused_at}
use Rattle.item.specs.declared.Given.TheVariants.{Reading, Numbers}
use Rattle.prover.specs.Reply as reply
use Rattle.pass.specs.Values.{no_values}
use Rattle.calls.specs.declared.Call.TheVariants as call
use Rattle.calls.specs.Meaning.{says}
use Rattle.calls.specs.Example.{P, item0, item1, item2, alone, proof_into, Exchange, refuses, answered_pass, total_given, round0, round1, trip_ends, trip_opening}

abbrev pub small_calls : List Exchange
small_calls =
    (alone call.Message, refuses 10)
    ∷ (alone item2, refuses 10)
    ∷ (alone call.OpenPass, says reply.opened)
    ∷ (alone item2, says reply.taken)
    ∷ (alone (call.Give (Reading (negsuc 174) 1441)), record { answer = refused_at 5 1; values = no_values })
    ∷ (alone (call.Give (Reading (pos 40000) 20)), record { answer = refused_at 18 1; values = no_values })
    ∷ (alone (call.Give (Numbers 1 1)), refuses 10)
    ∷ (alone item1, says reply.taken)
    ∷ (alone call.Close, refuses 8)
    ∷ (alone item0, says reply.taken)
    ∷ (alone item0, refuses 8)
    ∷ (alone call.Close, total_given)
    ∷ answered_pass call.OpenPass round0
    ++ (alone call.OpenPass, refuses 10)
    ∷ (alone call.ToFull, refuses 10)
    ∷ (alone (call.Challenge 0), refuses 6)
    ∷ (alone (call.Challenge 2), says reply.challenged)
    ∷ (alone (call.Challenge 3), refuses 10)
    ∷ answered_pass call.OpenPass round1
    ++ (alone (call.Challenge 3), says reply.challenged)
    ∷ (proof_into 50, refuses 10)
    ∷ (alone call.OpenPass, says reply.opened)
    ∷ (alone item2, says reply.taken)
    ∷ answered_pass call.OpenPass trip_ends
    ++ (alone (call.OpenAt P), refuses 6)
    ∷ answered_pass (call.OpenAt 2) trip_opening
    ++ (proof_into 41, refuses 9)
    ∷ (proof_into 50, says (reply.written 42))
    ∷ []
