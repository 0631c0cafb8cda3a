-- The trip there and back, document 02, (c): round 0 in full mode, round 1 in small mode, the ends in full mode, in other buffers, and the
-- opening in small mode.
use Rattle.std.specs.Prelude.{List, [], ◌∷◌, ◌++◌}
use Rattle.prover.specs.Reply as reply
use Rattle.calls.specs.declared.Call.TheVariants as call
use Rattle.calls.specs.Meaning.{says}
use Rattle.calls.specs.Example.{item0, item1, item2, alone, lent, proof_into, Exchange, refuses, answered_pass, total_given, round0, round1, trip_ends, trip_opening}

abbrev pub returning : List Exchange
returning =
    answered_pass call.OpenPass total_given
    ++ (alone call.ToSmall, refuses 10)
    ∷ (lent call.ToFull (91 ∷ 92 ∷ 93 ∷ 94 ∷ []) (81 ∷ 82 ∷ 83 ∷ 84 ∷ []), says reply.opened)
    ∷ (lent item2 (91 ∷ 92 ∷ 93 ∷ 0 ∷ []) (81 ∷ 82 ∷ 83 ∷ 0 ∷ []), says reply.taken)
    ∷ (alone call.ToSmall, refuses 10)
    ∷ (lent item1 (91 ∷ 92 ∷ 40 ∷ 0 ∷ []) (81 ∷ 82 ∷ 5 ∷ 0 ∷ []), says reply.taken)
    ∷ (lent item0 (91 ∷ 2147483472 ∷ 40 ∷ 0 ∷ []) (81 ∷ 20 ∷ 5 ∷ 0 ∷ []), says reply.taken)
    ∷ (alone call.Close, says reply.changed)
    ∷ (lent call.Message (2147483467 ∷ 2147483472 ∷ 40 ∷ 0 ∷ []) (10 ∷ 20 ∷ 5 ∷ 0 ∷ []), round0)
    ∷ (alone call.ToSmall, refuses 10)
    ∷ (lent (call.Challenge 2) (2147483467 ∷ 2147483472 ∷ 40 ∷ 0 ∷ []) (10 ∷ 20 ∷ 5 ∷ 0 ∷ []), says reply.challenged)
    ∷ (alone call.ToSmall, says reply.changed)
    ∷ (lent call.Message (2147483117 ∷ 40 ∷ 40 ∷ 0 ∷ []) (50 ∷ 5 ∷ 5 ∷ 0 ∷ []), refuses 10)
    ∷ answered_pass call.OpenPass round1
    ++ (alone (call.Challenge 3), says reply.challenged)
    ∷ (lent call.ToFull (7 ∷ []) (8 ∷ []), says reply.opened)
    ∷ (lent item2 (7 ∷ []) (8 ∷ []), says reply.taken)
    ∷ (lent item1 (7 ∷ []) (8 ∷ []), says reply.taken)
    ∷ (lent item0 (7 ∷ []) (8 ∷ []), says reply.taken)
    ∷ (alone call.Close, says reply.changed)
    ∷ (lent call.Ends (2147483237 ∷ []) (65 ∷ []), trip_ends)
    ∷ (alone call.ToSmall, says reply.changed)
    ∷ (alone call.ToSmall, refuses 10)
    ∷ answered_pass (call.OpenAt 2) trip_opening
    ++ (proof_into 50, says (reply.written 42))
    ∷ []
