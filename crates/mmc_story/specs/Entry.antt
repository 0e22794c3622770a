-- What a host did, call by call, with what it was answered.
use Rattle.std.specs.Prelude.{Bool, List, Result, ℕ}
use Rattle.mmc_card.specs.declared.exchange.DataIn.{DataIn}
use Rattle.mmc_card.specs.declared.exchange.DataOut.{DataOut}
use Rattle.mmc_card.specs.declared.exchange.Lines.{Lines}
use Rattle.mmc_bus.specs.declared.moved.Moved.{Moved}
use Rattle.mmc_host.specs.declared.told.Heard.{Heard}
use Rattle.mmc_host.specs.declared.told.HostCommand.{HostCommand}
use Rattle.mmc_host.specs.declared.told.HostState.{HostState}
use Rattle.mmc_host.specs.declared.told.ResponseFault.{ResponseFault}

pub data Event : Type 0 where
  -- this command was sent, and this was heard
  Sent : HostCommand → Result Heard ResponseFault → Event
  -- a block of this length was asked for; this came, with these bytes
  Read : ℕ → DataIn → List ℕ → Event
  -- this block was offered, and this was answered
  Written : List ℕ → DataOut → Event
  -- the card was looked at: busy or not
  Looked : Bool → Event
  -- this command was sent with places for the blocks after it; this was heard, this was moved, and the places hold these blocks
  ReadWith : HostCommand → Result Heard ResponseFault → Moved DataIn → List (List ℕ) → Event
  -- this command was sent with these blocks to go after it; this was heard, and this was moved
  WrittenWith : HostCommand → Result Heard ResponseFault → List (List ℕ) → Moved DataOut → Event
  -- it was asked for what no controller can do
  Misused : Event

pub record Entry : Type 0 where
  -- what the host had been told before, its lines among it
  pub told : HostState
  -- the most lines and the fastest timing that it can
  pub limits : Lines
  pub event : Event
