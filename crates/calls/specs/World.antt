-- A run's list of calls: "Each call gets the run and pass records that the one before returned".
use Rattle.std.specs.Prelude.{ℕ, List}
use Rattle.prover.specs.declared.Run.{Run}
use Rattle.pass.specs.declared.Pass.{Pass}
use Rattle.prover.specs.Start.{fresh_run, zero_pass}
use Rattle.item.specs.declared.Start.{Start}
use Rattle.calls.specs.declared.Call.{Call}
use Rattle.calls.specs.Step.{Lent, Result, step}
use Rattle.calls.specs.State.{State, fresh, follow}

-- a call with what it is lent
pub record Made : Type 0 where
  pub call : Call
  pub lent : Lent

-- the records, and the state that follows from the answered calls
pub record World : Type 0 where
  pub state : State
  pub run : Run
  pub pass : Pass

-- "A fresh run is what an answered start gives"
abbrev pub fresh_world : Start → List ℕ → List ℕ → World
fresh_world s f g = record { state = fresh s f g; run = fresh_run s; pass = zero_pass }

module _ (p : ℕ) where
  abbrev pub came : World → Made → Result
  came w m = step p w.run w.pass m.call m.lent

  abbrev pub onward : World → Made → World
  onward w m = record { state = follow w.state m.call (came w m); run = (came w m).run; pass = (came w m).pass }
