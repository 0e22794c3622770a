-- What the card relation allows of a command with blocks after it that one call moves: the same steps as of its exchanges one by one.
use Rattle.std.specs.Prelude.{◌≡◌, List, Result, false, slice_set, ℕ}
use Rattle.mmc_card.specs.BusView.{BusView}
use Rattle.mmc_card.specs.Faults.{PollStep, ReadStep, WriteStep}
use Rattle.mmc_card.specs.declared.exchange.DataIn.{DataIn}
use Rattle.mmc_card.specs.declared.exchange.DataOut.{DataOut}
use Rattle.mmc_bus.specs.Exchanges.{Kept}
use Rattle.mmc_bus.specs.Together.{ReadOn, WrittenOn}
use Rattle.mmc_bus.specs.declared.moved.Moved.{Moved}
use Rattle.mmc_host.specs.Hosts.{Answers, answer_heard}
use Rattle.mmc_host.specs.declared.told.Heard.{Heard}
use Rattle.mmc_host.specs.declared.told.HostCommand.{HostCommand}
use Rattle.mmc_host.specs.declared.told.ResponseFault.{ResponseFault}

-- One of several exchanges: a step of the card. Nothing else of the bus has changed.
pub record OneStep (old : BusView) (Step : Type 0) (new : BusView) : Type 0 where
  pub same : new ≡ record old { card = new.card; faults = new.faults }
  pub step : Kept old Step new

abbrev pub CommandAnswered : HostCommand → Result Heard ResponseFault → BusView → BusView → Type 0
CommandAnswered command heard old new =
    OneStep old (Answers old command.index command.argument (answer_heard command.response command.index heard) new) new

abbrev pub BlockRead : BusView → DataIn → List ℕ → BusView → Type 0
BlockRead old got block new = OneStep old (ReadStep old 512 got block new) new

abbrev pub BlockWritten : BusView → List ℕ → DataOut → BusView → Type 0
BlockWritten old block got new = OneStep old (WriteStep old block got new) new

abbrev pub FoundAtRest : BusView → BusView → Type 0
FoundAtRest old new = OneStep old (PollStep old false new) new

-- The command, and then so many blocks, each a good one, which the places hold now; or some, nobody tells how many, and one that
-- failed, after which the places may hold anything, as where none came.
pub record ReadsTogether (old : BusView) (command : HostCommand) (heard : Result Heard ResponseFault)
    (moved : Moved DataIn) (blocks : List (List ℕ)) (new : BusView) : Type 0 where
  pub between : BusView
  -- what the places held before
  pub was : List (List ℕ)
  pub answered : CommandAnswered command heard old between
  pub read : ReadOn BlockRead (λ places. places) slice_set between was moved new blocks

-- The command, and then the first so many of these blocks, each accepted, with a poll that says no before each but the first; or some
-- of them, nobody tells how many, and one that wasn't accepted.
pub record WritesTogether (old : BusView) (command : HostCommand) (heard : Result Heard ResponseFault)
    (blocks : List (List ℕ)) (moved : Moved DataOut) (new : BusView) : Type 0 where
  pub between : BusView
  pub answered : CommandAnswered command heard old between
  pub written : WrittenOn BlockWritten FoundAtRest blocks between moved new
