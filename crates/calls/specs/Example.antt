-- Document 01, "One trip, whole", as lists of calls: readings -180, -175, 40; weights 10, 20, 5; challenges 2, 3; point 2.
use Rattle.std.specs.Prelude.{ℕ, ◌≡◌, refl, true, List, [], ◌∷◌, ◌++◌, pos, negsuc, replicate}
use Rattle.std.proofs.Math.Option.{Option, none, some}
use Rattle.refusal.specs.Outcome.{Outcome, answered, refused, refused_at}
use Rattle.vector.specs.Rounds.{rounds_of}
use Rattle.item.specs.declared.Start.{Start}
use Rattle.item.specs.declared.Given.TheVariants.{Reading}
use Rattle.prover.specs.Reply as reply
use Rattle.pass.specs.Values.{no_values}
use Rattle.pass.specs.Values.{in_ninety}
use Rattle.prover.specs.Start.{started, fresh_run, start_plain}
use Rattle.runs.specs.Trip.{Trip}
use Rattle.calls.specs.Step.{lending}
use Rattle.calls.specs.declared.Call.{Call}
use Rattle.calls.specs.declared.Call.TheVariants as call
use Rattle.calls.specs.Table.{Refusal, table}
use Rattle.calls.specs.Meaning.{Answer, says}
use Rattle.calls.specs.Lists.{each}
use Rattle.calls.specs.World.{Made, World, came, onward}
use Rattle.calls.specs.Given.{reply_of}
use Rattle.calls.specs.Demand3.{AllKept}

abbrev pub P : ℕ
P = 2147483647

abbrev pub trip_start : Start
trip_start = record { items = 3; rounds = 2; plain = true; version = 1; twists = replicate 15 0 }

-- the start is answered so
pub trip-starts : start_plain 3 1 ≡ answered (started (fresh_run trip_start))
unfolding start_plain rounds_of
trip-starts = refl

abbrev pub trip : Trip
trip = record { start = trip_start; items = Reading (negsuc 179) 10 ∷ Reading (negsuc 174) 20 ∷ Reading (pos 40) 5 ∷ [] }

-- the trip's items as calls
abbrev pub item0 : Call
item0 = call.Give (Reading (negsuc 179) 10)

abbrev pub item1 : Call
item1 = call.Give (Reading (negsuc 174) 20)

abbrev pub item2 : Call
item2 = call.Give (Reading (pos 40) 5)

-- a call that is lent nothing, one that is lent the two buffers, and one that is lent a file of so many bytes
abbrev pub alone : Call → Made
alone c = record { call = c; lent = lending [] [] [] }

abbrev pub lent : Call → List ℕ → List ℕ → Made
lent c f g = record { call = c; lent = lending f g [] }

abbrev pub proof_into : ℕ → Made
proof_into size = record { call = call.WriteProof; lent = lending [] [] (replicate size 255) }

-- what each call of a list replies
abbrev pub replies_from : World → List Made → List Answer
replies_from = each (onward P) (λ w m. reply_of (came P w m))

-- a call and its answer
abbrev pub Exchange : Type 0
Exchange = Made × Answer

abbrev pub refuses : ℕ → Answer
refuses k = record { answer = refused k; values = no_values }

unfoldable pub calls_of : List Exchange → List Made
calls_of [] = []
calls_of (x ∷ xs) = x.0 ∷ calls_of xs

unfoldable pub answers_of : List Exchange → List Answer
answers_of [] = []
answers_of (x ∷ xs) = x.1 ∷ answers_of xs

-- the refusals among the answers
abbrev pub refusal_in : {A : Type 0} → Outcome A → Option Refusal
refusal_in (answered x) = none
refusal_in (refused k) = some (k, none)
refusal_in (refused_at k i) = some (k, some i)

unfoldable pub refusals_of : List Exchange → List (Option Refusal)
refusals_of [] = []
refusals_of (x ∷ xs) = refusal_in x.1.answer ∷ refusals_of xs

-- a pass of small mode that is whole, its close answered so
abbrev pub answered_pass : Call → Answer → List Exchange
answered_pass opens closes =
    (alone opens, says reply.opened)
    ∷ (alone item2, says reply.taken)
    ∷ (alone item1, says reply.taken)
    ∷ (alone item0, says reply.taken)
    ∷ (alone call.Close, closes)
    ∷ []

-- the lines of the output
abbrev pub total_given : Answer
total_given = says (reply.total (negsuc 5099))

abbrev pub round0 : Answer
round0 = says (reply.message 2147482047 2147478297 2147480147)

abbrev pub round1 : Answer
round1 = says (reply.message 2147457147 2147482997 200)

abbrev pub trip_ends : Answer
trip_ends = says (reply.ends 2147483237 65)

abbrev pub open_f : List ℕ
open_f = 2147483277 ∷ 330 ∷ 2147483277 ∷ 2147483197 ∷ 2147483037 ∷ 2147483237 ∷ []

abbrev pub open_g : List ℕ
open_g = 70 ∷ 2147483637 ∷ 70 ∷ 60 ∷ 40 ∷ 65 ∷ []

abbrev pub trip_opening : Answer
trip_opening = record { answer = answered reply.opening; values = in_ninety 2 (open_f ++ open_g) }

-- RVP, version 1, n and the total; two messages; the end values; then eight bytes that were there before
abbrev pub trip_file : List ℕ
trip_file =
    (82 ∷ 86 ∷ 80 ∷ 1 ∷ 0 ∷ 2 ∷ 20 ∷ 236 ∷ 255 ∷ 255 ∷ [])
    ++ (191 ∷ 249 ∷ 255 ∷ 127 ∷ 25 ∷ 235 ∷ 255 ∷ 127 ∷ 83 ∷ 242 ∷ 255 ∷ 127 ∷ [])
    ++ (123 ∷ 152 ∷ 255 ∷ 127 ∷ 117 ∷ 253 ∷ 255 ∷ 127 ∷ 200 ∷ 0 ∷ 0 ∷ 0 ∷ [])
    ++ (101 ∷ 254 ∷ 255 ∷ 127 ∷ 65 ∷ 0 ∷ 0 ∷ 0 ∷ [])
    ++ replicate 8 255

-- the last of some files
unfoldable pub last_of : List ℕ → List (List ℕ) → List ℕ
last_of file [] = file
last_of file (x ∷ xs) = last_of x xs

-- "Claims go -5100, -26300, -26650", after so many calls each
abbrev pub claims_go : ℕ → ℕ → ℕ → ℕ → List ℕ
claims_go before first second third = replicate before 0 ++ replicate first 2147478547 ++ replicate second 2147457347 ++ replicate third 2147456997

-- a list of calls that brings the trip and keeps the buffers is answered so, its refusals are the table's, the run has these claims after
-- each call, and it leaves the trip's proof file
pub record TripList (xs : List Exchange) (claims : List ℕ) (w : World) : Type 0 where
  pub kept : AllKept P true trip w (calls_of xs)
  pub replies : replies_from w (calls_of xs) ≡ answers_of xs
  pub refusals : each (onward P) (λ w m. table P w.state m.call m.lent) w (calls_of xs) ≡ refusals_of xs
  pub shown : each (onward P) (λ w m. (came P w m).run.claim) w (calls_of xs) ≡ claims
  pub file : last_of [] (each (onward P) (λ w m. (came P w m).lent.file) w (calls_of xs)) ≡ trip_file
