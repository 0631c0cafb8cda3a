-- Lists with blocks of items among the calls: a block is refused as a whole, or it stands for its single items.
use Rattle.std.specs.Prelude.{ℕ, zero, suc, ◌+◌, ◌-◌, ◌%◌, ◌<◌, ◌≡◌, true, false, cond, not, List, [], ◌∷◌, ◌++◌, eqb, leb, length}
use Rattle.std.proofs.Math.Option.{Option, none, some}
use Rattle.phase.specs.Cases.{is_change, is_open}
use Rattle.refusal.specs.Outcome.{answered}
use Rattle.item.specs.declared.Start.{Start}
use Rattle.item.specs.declared.Given.{Given}
use Rattle.item.specs.Version.{item_size}
use Rattle.block.specs.Block.{Block, count, item_at, is_whole}
use Rattle.prover.specs.Reply as reply
use Rattle.prover.specs.Records.{leaves}
use Rattle.prover.specs.Blocks.{items_call}
use Rattle.verifier.specs.Reply as verifier
use Rattle.verifier.specs.Records as records
use Rattle.verifier.specs.Blocks as blocks
use Rattle.calls.specs.declared.Call.TheVariants as call
use Rattle.calls.specs.declared.query.Query.TheVariants as query
use Rattle.calls.specs.Lists.{after, along, somewhere}
use Rattle.calls.specs.Step.{Lent, Result, is_answered, leaving}
use Rattle.calls.specs.QueryStep.{Spoken, replies, replying}
use Rattle.calls.specs.State.{State, in_pass, buffers_in}
use Rattle.calls.specs.Table.{Refusal, row, given_rows, place_row}
use Rattle.calls.specs.World.{Made, World, came, onward}
use Rattle.calls.specs.Statement.{Decides}
use Rattle.calls.specs.QueryState.{VerifierState, Posed, Hearing, plainly, heard, hears_on, DecidesHeard}

-- THE ROWS of a block, in the order of a single item's: each item's own, from the lowest index on
unfoldable pub item_rows : ℕ → Start → ℕ → Block → ℕ → ℕ → Option Refusal → Option Refusal
item_rows p s first b i zero rest = rest
item_rows p s first b i (suc n) rest = given_rows p s (first + i) (item_at s.version b i) (item_rows p s first b (suc i) n rest)

-- bytes that are no whole number of items (4), slices of unequal length (16)
abbrev pub whole_row : ℕ → Block → Option Refusal → Option Refusal
whole_row version b rest =
    cond b.plain (row (eqb (length b.bytes % item_size version) 0) 4 rest) (row (eqb (length b.first) (length b.second)) 16 rest)

-- the other kind of run (10), no whole items, then the items', the first of which has this index
abbrev pub block_rows : ℕ → Start → ℕ → Block → Option Refusal → Option Refusal
block_rows p s first b rest =
    row (cond b.plain s.plain (not s.plain)) 10 (whole_row s.version b (item_rows p s first b 0 (count s.version b) rest))

-- no pass open (10), more items than are wanted (8), those, and the buffers of a change pass (9)
unfoldable pub block_table : ℕ → State → Block → Lent → Option Refusal
block_table p a b l =
    row (is_open a.pass.kind) 10
    (row (leb (length a.pass.items + count a.start.version b) a.start.items) 8
    (block_rows p a.start (a.start.items - length a.pass.items - count a.start.version b) b (place_row a l)))

-- the items of a block as a pass of a run takes them, last to first; the newest stands first
unfoldable pub onto : ℕ → Block → ℕ → List Given → List Given
onto version b zero xs = xs
onto version b (suc m) xs = onto version b m (item_at version b m ∷ xs)

-- a block of no items changes nothing; with items it has the buffers of a change pass, as a single item has
abbrev pub with_items : State → Block → ℕ → Lent → State
with_items a b zero l = a
with_items a b (suc m) l =
    buffers_in (is_change a.pass.kind) (in_pass a a.pass.kind a.pass.point (onto a.start.version b (suc m) a.pass.items)) l

-- A RUN'S LIST
pub data Wide : Type 0 where
  made : Made → Wide
  given : Block → Lent → Wide

module _ (p : ℕ) where
  -- exactly the definition that the contracts of `items` and `field_items` cite
  abbrev pub block_came : World → Block → Lent → Result
  block_came w b l = leaving l (leaves w.run w.pass l.f l.g (items_call p w.run w.pass b l.f l.g))

  abbrev pub wide_on : World → Wide → World
  wide_on w (made m) = onward p w m
  wide_on w (given b l) =
      record {
        state = cond (is_answered (block_came w b l).answer) (with_items w.state b (count w.state.start.version b) (block_came w b l).lent) w.state;
        run = (block_came w b l).run;
        pass = (block_came w b l).pass;
      }

  -- its items m - 1 down to 0 as single calls, each lent what the one before left, and what the last leaves
  abbrev pub single : ℕ → Block → ℕ → Lent → Made
  single version b j l = record { call = call.Give (item_at version b j); lent = l }

  unfoldable pub singles : ℕ → World → Block → ℕ → Lent → List Made
  singles version w b zero l = []
  singles version w b (suc m) l =
      single version b m l ∷ singles version (onward p w (single version b m l)) b m (came p w (single version b m l)).lent

  unfoldable pub left_by : ℕ → World → Block → ℕ → Lent → Lent
  left_by version w b zero l = l
  left_by version w b (suc m) l = left_by version (onward p w (single version b m l)) b m (came p w (single version b m l)).lent

  -- those of the whole block, read by the run's version
  abbrev pub own_singles : World → Block → Lent → List Made
  own_singles w b l = singles w.state.start.version w b (count w.state.start.version b) l

  -- AN ANSWERED BLOCK stands for its single items: all of them are answered, and what they leave it leaves
  pub record StandsFor (w : World) (b : Block) (l : Lent) : Type 0 where
    pub answer : (block_came w b l).answer ≡ answered reply.taken
    pub answers : along (onward p) (λ w m. (came p w m).answer ≡ answered reply.taken) w (own_singles w b l)
    pub same : wide_on w (given b l) ≡ after (onward p) w (own_singles w b l)
    pub buffers : (block_came w b l).lent ≡ left_by w.state.start.version w b (count w.state.start.version b) l

  -- a block is refused exactly when its rows say so; one of whole items has then an item that is refused as a single one too
  pub record BlockDecided (w : World) (b : Block) (l : Lent) : Type 0 where
    pub decided : Decides w.run w.pass l (block_table p w.state b l) (block_came w b l)
    pub stands : block_table p w.state b l ≡ none → StandsFor w b l
    pub refused : (k : Refusal) → block_table p w.state b l ≡ some k → is_whole w.state.start.version b ≡ true
        → 0 < count w.state.start.version b → somewhere (onward p) (λ w m. is_answered (came p w m).answer ≡ false) w (own_singles w b l)

  abbrev pub WideDecided : World → Wide → Type 0
  WideDecided w (made m) = Unit {0}
  WideDecided w (given b l) = BlockDecided w b l

  -- the list in which each answered block stands as its single items
  abbrev pub standing : World → Wide → List Made
  standing w (made m) = m ∷ []
  standing w (given b l) = cond (is_answered (block_came w b l).answer) (own_singles w b l) []

  unfoldable pub expanded : World → List Wide → List Made
  expanded w [] = []
  expanded w (x ∷ xs) = standing w x ++ expanded (wide_on w x) xs

-- A VERIFIER'S LIST
pub data WidePosed : Type 0 where
  posed : Posed → WidePosed
  handed : Block → WidePosed

-- the pass is closed (10), more items than are wanted (8), and the block's own rows
unfoldable pub verifier_block_table : ℕ → VerifierState → Block → Option Refusal
verifier_block_table p a b =
    row (not a.closed) 10
    (row (leb (length a.items + count a.start.version b) a.start.items) 8 (block_rows p a.start (length a.items) b none))

-- the items of a block as a verifier takes them, first to last
unfoldable pub up_to : ℕ → Block → ℕ → List Given → List Given
up_to version b zero xs = xs
up_to version b (suc m) xs = item_at version b m ∷ up_to version b m xs

abbrev pub takes_items : VerifierState → Block → VerifierState
takes_items a b =
    record {
      start = a.start;
      challenges = a.challenges;
      items = up_to a.start.version b (count a.start.version b) a.items;
      closed = a.closed;
      round = a.round;
      refuted = a.refuted;
    }

module _ (p : ℕ) where
  abbrev pub block_heard : Hearing → Block → Spoken
  block_heard h b = replying (records.leaves h.verifier (blocks.items p h.verifier b))

  abbrev pub wide_hears : Hearing → WidePosed → Hearing
  wide_hears h (posed q) = hears_on p h q
  wide_hears h (handed b) =
      record { state = cond (is_answered (block_heard h b).told) (takes_items h.state b) h.state; verifier = (block_heard h b).verifier }

  -- its items from i on, n of them, as single calls
  unfoldable pub singles_heard : ℕ → Block → ℕ → ℕ → List Posed
  singles_heard version b i zero = []
  singles_heard version b i (suc n) = plainly (query.Give (item_at version b i)) ∷ singles_heard version b (suc i) n

  abbrev pub own_singles_heard : Hearing → Block → List Posed
  own_singles_heard h b = singles_heard h.state.start.version b 0 (count h.state.start.version b)

  pub record StandsForHeard (h : Hearing) (b : Block) : Type 0 where
    pub answer : (block_heard h b).told ≡ answered (replies verifier.taken)
    pub answers : along (hears_on p) (λ h q. (heard p h q).told ≡ answered (replies verifier.taken)) h (own_singles_heard h b)
    pub same : wide_hears h (handed b) ≡ after (hears_on p) h (own_singles_heard h b)

  pub record BlockDecidedHeard (h : Hearing) (b : Block) : Type 0 where
    pub decided : DecidesHeard h.verifier (verifier_block_table p h.state b) (block_heard h b)
    pub stands : verifier_block_table p h.state b ≡ none → StandsForHeard h b
    pub refused : (k : Refusal) → verifier_block_table p h.state b ≡ some k → is_whole h.state.start.version b ≡ true
        → 0 < count h.state.start.version b → somewhere (hears_on p) (λ h q. is_answered (heard p h q).told ≡ false) h (own_singles_heard h b)

  abbrev pub WideDecidedHeard : Hearing → WidePosed → Type 0
  WideDecidedHeard h (posed q) = Unit {0}
  WideDecidedHeard h (handed b) = BlockDecidedHeard h b

  abbrev pub standing_heard : Hearing → WidePosed → List Posed
  standing_heard h (posed q) = q ∷ []
  standing_heard h (handed b) = cond (is_answered (block_heard h b).told) (own_singles_heard h b) []

  unfoldable pub expanded_heard : Hearing → List WidePosed → List Posed
  expanded_heard h [] = []
  expanded_heard h (x ∷ xs) = standing_heard h x ++ expanded_heard (wide_hears h x) xs
