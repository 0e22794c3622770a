-- A command with the blocks after it, by one call of a host.
use Rattle.std.specs.Prelude.{◌⊎◌, ◌+◌, ◌-◌, ◌<◌, ◌^◌, ◌≡◌, ◌≤◌, IfSome, List, Result, Some, false, max, min, suc, zero, ℕ}
use Rattle.mmc_frame.specs.Frame.{command_in}
use Rattle.mmc_card.specs.declared.exchange.Lines.{Lines}
use Rattle.mmc_card.specs.declared.exchange.DataIn.{DataIn}
use Rattle.mmc_card.specs.declared.exchange.DataIn.TheVariants.{Good}
use Rattle.mmc_card.specs.CardAnswer.{Silent}
use Rattle.mmc_card.specs.declared.exchange.DataOut.{DataOut}
use Rattle.mmc_card.specs.declared.exchange.DataOut.TheVariants.{Accepted}
use Rattle.mmc_card.specs.declared.exchange.Exchange.{Exchange}
use Rattle.mmc_card.specs.declared.exchange.Exchange.TheVariants.{Busy, In, Out}
use Rattle.mmc_bus.specs.Together.{ReadOn, WrittenOn}
use Rattle.mmc_bus.specs.declared.moved.Moved.{Moved}
use Rattle.mmc_bus.specs.declared.moved.Moved.TheVariants as Move
use Rattle.mmc_bus.specs.declared.wire.Wire.{Wire}
use Rattle.mmc_host.specs.HostStates.{AreMovable, IsCounted, IsFree, IsTold, block_passed, less_by, lines_of}
use Rattle.mmc_host.specs.Hosts.{HostView, IsSlowEnough, Looks, ReadsBlock, Sends, WritesBlock, answer_heard}
use Rattle.mmc_card.specs.declared.response.Response.TheVariants as To
use Rattle.mmc_host.specs.declared.data.Data.{Data}
use Rattle.mmc_host.specs.declared.data.Data.TheVariants as After
use Rattle.mmc_host.specs.declared.told.Heard.{Heard}
use Rattle.mmc_host.specs.declared.told.HostCommand.{HostCommand}
use Rattle.mmc_host.specs.declared.told.HostState.{HostState}
use Rattle.mmc_host.specs.declared.told.ResponseFault.{ResponseFault}

-- so many blocks of 512 bytes are to come, or more
abbrev pub AreAfter : Data → ℕ → Type 0
AreAfter (After.Read size all) count = (size ≡ 512) × (count ≤ all)
AreAfter _ count = ⊥

-- so many blocks are to go, or more
abbrev pub AreAhead : Data → ℕ → Type 0
AreAhead (After.Write all) count = count ≤ all
AreAhead _ count = ⊥

abbrev pub HostRead : HostView → DataIn → List ℕ → HostView → Type 0
HostRead old got bytes new = ReadsBlock old 512 got bytes new

pub record ReadsWith {S : Type 0} (blocks : S → List (List ℕ)) (leave : S → ℕ → List ℕ → S) (old : HostView)
    (command : HostCommand) (was : S) (heard : Result Heard ResponseFault) (moved : Moved DataIn) (now : S)
    (new : HostView) : Type 0 where
  pub between : HostView
  pub sent : Sends old command heard between
  pub read : ReadOn HostRead blocks leave between was moved new now

abbrev pub HostRested : HostView → HostView → Type 0
HostRested old new = Looks old false new

-- none goes where no response was heard
pub record WritesWith (old : HostView) (command : HostCommand) (blocks : List (List ℕ)) (heard : Result Heard ResponseFault)
    (moved : Moved DataOut) (new : HostView) : Type 0 where
  pub between : HostView
  pub sent : Sends old command heard between
  pub unheard : answer_heard command.response command.index heard ≡ Silent → moved ≡ Move.Good 0
  pub written : WrittenOn WritesBlock HostRested blocks between moved new

-- A controller counts 1 to 65,535 blocks.
abbrev pub number_of : ℕ → ℕ
number_of count = min (max count 1) 0xffff

-- After a command its data is under way, or none is.
abbrev pub IsUnderWay : HostCommand → HostState → Type 0
IsUnderWay command new = (new.transfer ≡ After.Nothing) ⊎ (new.transfer ≡ command.transfer)

-- After the command of a frame nothing is under way, or it is counted so.
abbrev pub IsBegun : HostState → List ℕ → ℕ → HostState → Type 0
IsBegun old frame moved new =
    (new.transfer ≡ After.Nothing)
    ⊎ IfSome (command_in frame) (λ command. IsCounted old.count moved command.0 new.transfer)

-- the command of a frame can be sent, and so many blocks come after it on these lines
pub record CanRead (state : HostState) (frame : List ℕ) (command : HostCommand) (count : ℕ) (lines : Lines) : Type 0 where
  pub index : command.index < 64
  pub holds : command_in frame ≡ Some (command.index, command.argument)
  pub movable : AreMovable command.transfer
  pub told : IsTold state command
  pub free : IsFree state.transfer command
  pub clock : IsSlowEnough state command
  pub to_come : AreAfter command.transfer count
  pub set : lines_of state.ios ≡ lines

-- and so many go after it
pub record CanWrite (state : HostState) (frame : List ℕ) (command : HostCommand) (count : ℕ) (lines : Lines) : Type 0 where
  pub index : command.index < 64
  pub holds : command_in frame ≡ Some (command.index, command.argument)
  pub response : command.response ≡ To.R1
  pub movable : AreMovable command.transfer
  pub told : IsTold state command
  pub free : IsFree state.transfer command
  pub clock : IsSlowEnough state command
  pub ahead : AreAhead command.transfer count
  pub set : lines_of state.ios ≡ lines

-- after so many good blocks
abbrev pub passed : ℕ → HostState → HostState
passed good state = record state { transfer = less_by good state.transfer }

-- a block that failed ends the data, however many came before it
abbrev pub passed_on : {T : Type 0} → Moved T → HostState → HostState
passed_on (Move.Good good) state = passed good state
passed_on (Move.Failed got) state = block_passed state false

-- What a wire keeps of an exchange, and of so many of a kind, one after the other.
abbrev pub noted : Exchange → Wire → Wire
noted exchange wire = record wire { last = Some exchange; exchanges = min (wire.exchanges + 1) (2 ^ 64 - 1) }

abbrev pub many_noted : Exchange → ℕ → Wire → Wire
many_noted exchange zero wire = wire
many_noted exchange (suc more) wire =
    record wire { last = Some exchange; exchanges = min (wire.exchanges + suc more) (2 ^ 64 - 1) }

-- Of blocks; where one failed, of it alone.
abbrev pub all_noted : Moved DataIn → Wire → Wire
all_noted (Move.Good good) wire = many_noted (In 512 Good) good wire
all_noted (Move.Failed got) wire = noted (In 512 got) wire

-- Of those that are written there is a poll before each but the first.
abbrev pub writes_noted : ℕ → Wire → Wire
writes_noted good wire = many_noted (Out Accepted) good (many_noted (Busy false) (good - 1) wire)

abbrev pub all_writes_noted : Moved DataOut → Wire → Wire
all_writes_noted (Move.Good good) wire = writes_noted good wire
all_writes_noted (Move.Failed got) wire = noted (Out got) wire
