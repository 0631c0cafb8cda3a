-- The trip in full mode: the run changes right after the total. Each answered call is lent the buffers as they were left, five places each.
use Rattle.std.specs.Prelude.{List, [], ◌∷◌, ◌++◌}
use Rattle.prover.specs.Reply as reply
use Rattle.calls.specs.declared.Call.TheVariants as call
use Rattle.calls.specs.Meaning.{says}
use Rattle.calls.specs.Example.{P, item0, item1, item2, alone, lent, proof_into, Exchange, refuses, answered_pass, total_given, round0, round1, trip_ends, trip_opening}

abbrev pub full_calls : List Exchange
full_calls =
    answered_pass call.OpenPass total_given
    ++ (lent call.Ends (1 ∷ 2 ∷ 3 ∷ []) (1 ∷ 2 ∷ 3 ∷ []), refuses 10)
    ∷ (lent call.ToFull (91 ∷ 92 ∷ 93 ∷ 94 ∷ 95 ∷ []) (1 ∷ 2 ∷ 3 ∷ []), refuses 9)
    ∷ (lent call.ToFull (91 ∷ 92 ∷ 93 ∷ 94 ∷ 95 ∷ []) (81 ∷ 82 ∷ 83 ∷ 84 ∷ 85 ∷ []), says reply.opened)
    ∷ (lent item2 (91 ∷ 92 ∷ 93 ∷ 0 ∷ 95 ∷ []) (81 ∷ 82 ∷ 83 ∷ 0 ∷ 85 ∷ []), says reply.taken)
    ∷ (lent item1 (1 ∷ 2 ∷ 3 ∷ []) (81 ∷ 82 ∷ 5 ∷ 0 ∷ 85 ∷ []), refuses 9)
    ∷ (lent item1 (91 ∷ 92 ∷ 40 ∷ 0 ∷ 95 ∷ []) (81 ∷ 82 ∷ 5 ∷ 0 ∷ 85 ∷ []), says reply.taken)
    ∷ (lent item0 (91 ∷ 2147483472 ∷ 40 ∷ 0 ∷ 95 ∷ []) (81 ∷ 20 ∷ 5 ∷ 0 ∷ 85 ∷ []), says reply.taken)
    ∷ (lent item0 (2147483467 ∷ 2147483472 ∷ 40 ∷ 0 ∷ 95 ∷ []) (10 ∷ 20 ∷ 5 ∷ 0 ∷ 85 ∷ []), refuses 8)
    ∷ (alone call.Close, says reply.changed)
    ∷ (alone call.OpenPass, refuses 10)
    ∷ (alone item2, refuses 10)
    ∷ (lent (call.Challenge 2) (2147483467 ∷ 2147483472 ∷ 40 ∷ 0 ∷ 95 ∷ []) (10 ∷ 20 ∷ 5 ∷ 0 ∷ 85 ∷ []), refuses 10)
    ∷ (lent call.Message (2147483467 ∷ 2147483472 ∷ 40 ∷ 0 ∷ 95 ∷ []) (10 ∷ 20 ∷ 2147483647 ∷ 0 ∷ 85 ∷ []), refuses 16)
    ∷ (lent call.Message (2147483467 ∷ 2147483472 ∷ 40 ∷ 0 ∷ 95 ∷ []) (10 ∷ 20 ∷ 5 ∷ 0 ∷ 85 ∷ []), round0)
    ∷ (lent call.Message (2147483467 ∷ 2147483472 ∷ 40 ∷ 0 ∷ 95 ∷ []) (10 ∷ 20 ∷ 5 ∷ 0 ∷ 85 ∷ []), refuses 10)
    ∷ (lent (call.Challenge P) (2147483467 ∷ 2147483472 ∷ 40 ∷ 0 ∷ 95 ∷ []) (10 ∷ 20 ∷ 5 ∷ 0 ∷ 85 ∷ []), refuses 6)
    ∷ (lent (call.Challenge 2) (2147483467 ∷ 2147483472 ∷ 40 ∷ 0 ∷ 95 ∷ []) (1 ∷ 2 ∷ 3 ∷ []), refuses 9)
    ∷ (lent (call.Challenge 2) (2147483467 ∷ 2147483472 ∷ 40 ∷ 0 ∷ 95 ∷ []) (10 ∷ 20 ∷ 5 ∷ 0 ∷ 85 ∷ []), says reply.challenged)
    ∷ (lent (call.Challenge 3) (2147483117 ∷ 40 ∷ 40 ∷ 0 ∷ 95 ∷ []) (50 ∷ 5 ∷ 5 ∷ 0 ∷ 85 ∷ []), refuses 10)
    ∷ (lent call.Message (2147483117 ∷ 40 ∷ 40 ∷ 0 ∷ 95 ∷ []) (50 ∷ 5 ∷ 5 ∷ 0 ∷ 85 ∷ []), round1)
    ∷ (lent (call.Challenge 3) (2147483117 ∷ 40 ∷ 40 ∷ 0 ∷ 95 ∷ []) (50 ∷ 5 ∷ 5 ∷ 0 ∷ 85 ∷ []), says reply.challenged)
    ∷ (lent (call.Opening 2) (2147483237 ∷ 40 ∷ 40 ∷ 0 ∷ 95 ∷ []) (65 ∷ 5 ∷ 5 ∷ 0 ∷ 85 ∷ []), refuses 10)
    ∷ (lent call.Ends (2147483237 ∷ 40 ∷ 40 ∷ 0 ∷ 95 ∷ []) (65 ∷ 5 ∷ 5 ∷ 0 ∷ 85 ∷ []), trip_ends)
    ∷ (lent call.ToFull (2147483237 ∷ 40 ∷ 40 ∷ 0 ∷ 95 ∷ []) (65 ∷ 5 ∷ 5 ∷ 0 ∷ 85 ∷ []), refuses 10)
    ∷ (lent (call.Opening 0) (2147483467 ∷ 2147483472 ∷ 40 ∷ 0 ∷ []) (10 ∷ 20 ∷ 5 ∷ 0 ∷ []), refuses 6)
    ∷ (lent (call.Opening 2) (2147483467 ∷ 2147483472 ∷ 40 ∷ 0 ∷ []) (10 ∷ 20 ∷ 5 ∷ 0 ∷ []), trip_opening)
    ∷ (proof_into 41, refuses 9)
    ∷ (proof_into 50, says (reply.written 42))
    ∷ []
