-- The trip with the change before round 1: fold 1 is two places long, of three in each buffer.
use Rattle.std.specs.Prelude.{List, [], ◌∷◌, ◌++◌}
use Rattle.prover.specs.Reply as reply
use Rattle.calls.specs.declared.Call.TheVariants as call
use Rattle.calls.specs.Meaning.{says}
use Rattle.calls.specs.Example.{item0, item1, item2, alone, lent, proof_into, Exchange, refuses, answered_pass, total_given, round0, round1, trip_ends, trip_opening}

abbrev pub changing : List Exchange
changing =
    (lent call.ToFull (91 ∷ 92 ∷ 93 ∷ []) (81 ∷ 82 ∷ 83 ∷ []), refuses 10)
    ∷ answered_pass call.OpenPass total_given
    ++ answered_pass call.OpenPass round0
    ++ (lent call.ToFull (91 ∷ 92 ∷ 93 ∷ []) (81 ∷ 82 ∷ 83 ∷ []), refuses 10)
    ∷ (alone (call.Challenge 2), says reply.challenged)
    ∷ (alone (call.Challenge 2), refuses 10)
    ∷ (alone call.OpenPass, says reply.opened)
    ∷ (alone item2, says reply.taken)
    ∷ (lent call.ToFull (1 ∷ []) (81 ∷ 82 ∷ 83 ∷ []), refuses 9)
    ∷ (lent call.ToFull (91 ∷ 92 ∷ 93 ∷ []) (81 ∷ 82 ∷ 83 ∷ []), says reply.opened)
    ∷ (lent item2 (91 ∷ 92 ∷ 93 ∷ []) (81 ∷ 82 ∷ 83 ∷ []), says reply.taken)
    ∷ (lent item1 (91 ∷ 40 ∷ 93 ∷ []) (81 ∷ 5 ∷ 83 ∷ []), says reply.taken)
    ∷ (alone call.Close, refuses 8)
    ∷ (lent item0 (91 ∷ 40 ∷ 93 ∷ []) (81 ∷ 5 ∷ 83 ∷ []), says reply.taken)
    ∷ (lent item0 (2147483117 ∷ 40 ∷ 93 ∷ []) (50 ∷ 5 ∷ 83 ∷ []), refuses 8)
    ∷ (alone call.Close, says reply.changed)
    ∷ (lent call.Message (2147483117 ∷ 40 ∷ 93 ∷ []) (50 ∷ 5 ∷ 83 ∷ []), round1)
    ∷ (lent (call.Challenge 3) (2147483117 ∷ 40 ∷ 93 ∷ []) (50 ∷ 2147483647 ∷ 83 ∷ []), refuses 16)
    ∷ (lent (call.Challenge 3) (2147483117 ∷ 40 ∷ 93 ∷ []) (50 ∷ 5 ∷ 83 ∷ []), says reply.challenged)
    ∷ (lent call.Message (2147483237 ∷ 40 ∷ 93 ∷ []) (65 ∷ 5 ∷ 83 ∷ []), refuses 10)
    ∷ (lent call.Ends (2147483237 ∷ 40 ∷ 93 ∷ []) (65 ∷ 5 ∷ 83 ∷ []), trip_ends)
    ∷ (alone (call.OpenAt 2), refuses 10)
    ∷ (lent (call.Opening 2) (2147483237 ∷ 40 ∷ 93 ∷ []) (65 ∷ 5 ∷ 83 ∷ []), refuses 9)
    ∷ (lent (call.Opening 2) (2147483467 ∷ 2147483472 ∷ 40 ∷ 0 ∷ []) (10 ∷ 20 ∷ 5 ∷ 0 ∷ []), trip_opening)
    ∷ (proof_into 50, says (reply.written 42))
    ∷ []
