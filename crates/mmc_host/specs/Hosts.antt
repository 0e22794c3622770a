-- What a host controller is to do with the card of a card relation. An exchange is told by its command and its answer in place of their frames.
use Rattle.std.specs.Prelude.{◌&&◌, ◌==◌, ◌||◌, ◌≡◌, ◌≤◌, [], Bool, List, None, Ok, Option, Result, Some, false, if◌then◌else◌, is_ok, not, true, ℕ}
use Rattle.mmc_frame.specs.Frame.{command_in}
use Rattle.mmc_frame.specs.RegisterFrame.{with_check}
use Rattle.mmc_frame.specs.declared.commands.TheConstants as Index
use Rattle.mmc_card.specs.BusView.{BusView}
use Rattle.mmc_card.specs.Card.{Card, powered_on}
use Rattle.mmc_card.specs.CardAnswer.{CardAnswer, Checked, R2, R3, Silent}
use Rattle.mmc_card.specs.Faults.{CommandStep, PollStep, ReadStep, Spells, WriteStep}
use Rattle.mmc_card.specs.declared.exchange.DataIn.{DataIn}
use Rattle.mmc_card.specs.declared.exchange.DataOut.{DataOut}
use Rattle.mmc_card.specs.declared.exchange.Lines.{Lines}
use Rattle.mmc_card.specs.declared.exchange.Reply.{Reply}
use Rattle.mmc_card.specs.declared.exchange.Timing.TheVariants.{Default, High}
use Rattle.mmc_card.specs.declared.exchange.Width.{Width}
use Rattle.mmc_card.specs.declared.exchange.Width.TheVariants.{Eight, Four, One}
use Rattle.mmc_bus.specs.Exchanges.{Kept}
use Rattle.mmc_bus.specs.Wires.{bus_view_with, nothing_made}
use Rattle.mmc_bus.specs.declared.wire.Wire.{Wire}
use Rattle.mmc_host.specs.HostStates.{begun, block_passed, is_accepted, is_good, lines_of, sent}
use Rattle.mmc_host.specs.Misuse.{has_data}
use Rattle.mmc_card.specs.declared.response.Response.{Response}
use Rattle.mmc_card.specs.declared.response.Response.TheVariants as To
use Rattle.mmc_host.specs.declared.told.Heard.{Heard}
use Rattle.mmc_host.specs.declared.told.HostCommand.{HostCommand}
use Rattle.mmc_host.specs.declared.told.HostState.{HostState}
use Rattle.mmc_host.specs.declared.told.Ios.{Ios}
use Rattle.mmc_host.specs.declared.told.ResponseFault.{ResponseFault}

-- What contracts see of a host.
pub record HostView : Type 0 where
  -- its card, as far as the host has been kept
  pub card : Card
  -- what it has been told so far
  pub state : HostState
  -- the most lines and the fastest timing that it can
  pub limits : Lines
  -- how many faults have fallen while it was kept
  pub faults : ℕ
  -- how many may still fall at most, where the host says so
  pub may_fall : Option ℕ
  -- each call so far was a step of the card
  pub is_kept : Bool

-- the bus that it drives, before any exchange
abbrev pub bus_of : HostView → BusView
bus_of host =
    record {
      card = host.card;
      lines = lines_of host.state.ios;
      limits = host.limits;
      last = None;
      exchanges = 0;
      faults = host.faults;
      may_fall = host.may_fall;
      is_kept = host.is_kept;
    }

-- Rules for whoever calls a host. They hold of one that is kept.
abbrev pub Where : HostView → Type 0 → Type 0
Where host Rule = host.is_kept ≡ true → Rule

abbrev pub lines_number : Width → ℕ
lines_number One = 1
lines_number Four = 4
lines_number Eight = 8

-- no more lines than these, and high speed only where these have it
abbrev pub IsWithin : Lines → Lines → Type 0
IsWithin lines limits =
    (lines_number lines.width ≤ lines_number limits.width) × (lines.timing ≡ High → limits.timing ≡ High)

-- The clock of identification, at most 400 kHz, is wanted by a card that is being identified, and for CMD0. The clock isn't changed while
-- data is under way (SD Host Controller 3.00, section 3.2.2), so a CMD0 that ends data goes at that of the data.
abbrev pub is_slow_for : HostState → ℕ → Bool
is_slow_for state index =
    if has_data state.transfer then state.ios.is_identifying else (state.is_identifying || (index == Index.GO_IDLE_STATE))

abbrev pub IsSlowEnough : HostState → HostCommand → Type 0
IsSlowEnough state command = is_slow_for state command.index ≡ true → state.ios.is_identifying ≡ true

-- What a host answers.

-- the answer of the card that was heard; what came otherwise than wanted is lost
abbrev pub answer_heard : Response → ℕ → Result Heard ResponseFault → CardAnswer
answer_heard To.Nothing index heard = Silent
answer_heard To.R2 index (Ok (Heard.Register bytes)) = R2 (with_check bytes)
answer_heard To.R3 index (Ok (Heard.Word ocr)) = R3 ocr
answer_heard To.R1 index (Ok (Heard.Word argument)) = Checked index argument
answer_heard To.R1b index (Ok (Heard.Word argument)) = Checked index argument
answer_heard To.R6 index (Ok (Heard.Word argument)) = Checked index argument
answer_heard To.R7 index (Ok (Heard.Word argument)) = Checked index argument
answer_heard response index heard = Silent

-- Whichever frames spell the command and the answer, this is a step of the card.
abbrev pub Answers : BusView → ℕ → ℕ → CardAnswer → BusView → Type 0
Answers old index argument answer new =
    (frame : List ℕ) (reply : Reply) → command_in frame ≡ Some (index, argument) → Spells answer reply
    → CommandStep old frame reply new

-- One step of the card, after which the host is in this state.
pub record Steps (old : HostView) (told : HostState) (Step : Type 0) (new : HostView) : Type 0 where
  pub state : new.state ≡ told
  pub limits : new.limits ≡ old.limits
  pub step : Kept (bus_of old) Step (bus_of new)

-- The exchanges. Only a host that is kept tells of its card.
abbrev pub Sends : HostView → HostCommand → Result Heard ResponseFault → HostView → Type 0
Sends old command heard new =
    Where new
    (Steps old (sent old.state command (is_ok heard))
    (Answers (bus_of old) command.index command.argument (answer_heard command.response command.index heard) (bus_of new))
    new)

abbrev pub ReadsBlock : HostView → ℕ → DataIn → List ℕ → HostView → Type 0
ReadsBlock old size got block new =
    Where new (Steps old (block_passed old.state (is_good got)) (ReadStep (bus_of old) size got block (bus_of new)) new)

abbrev pub WritesBlock : HostView → List ℕ → DataOut → HostView → Type 0
WritesBlock old block got new =
    Where new (Steps old (block_passed old.state (is_accepted got)) (WriteStep (bus_of old) block got (bus_of new)) new)

abbrev pub Looks : HostView → Bool → HostView → Type 0
Looks old said new = Where new (Steps old old.state (PollStep (bus_of old) said (bus_of new)) new)

-- What is no exchange.

-- lines and clock are set where no data is under way
abbrev pub CanBeSet : HostView → Type 0
CanBeSet host = Where host (has_data host.state.transfer ≡ false)

-- a command goes out on the lines that were asked for, where the host has them and no data is under way
abbrev pub IsLined : HostState → Wire → HostState → Type 0
IsLined old wire new =
    has_data old.transfer ≡ false → IsWithin wire.lines wire.limits → lines_of new.ios ≡ wire.lines

abbrev pub SetsIos : HostView → Ios → HostView → Type 0
SetsIos old ios new =
    Where new ((old.is_kept ≡ true) × (new ≡ record old { state = record old.state { ios = ios } }))

abbrev pub Waits : HostView → ℕ → HostView → Type 0
Waits old micros new =
    Where new ((old.is_kept ≡ true) × (new ≡ record old { state = record old.state { paused = micros } }))

-- a pause at most
abbrev pub Rests : HostView → HostView → Type 0
Rests old new =
    Where new ((old.is_kept ≡ true) × (new ≡ record old { state = record old.state { paused = new.state.paused } }))

-- no command was sent so far
abbrev pub IsUnused : HostView → Type 0
IsUnused host = Where host (host.state ≡ begun)

-- The bus over a host: its card and its faults, and what the wire keeps. Where something was asked of it that no controller can
-- do, it is kept no longer.
abbrev pub bus_over : HostView → Wire → Bool → BusView
bus_over host wire is_misused =
    bus_view_with host.card host.faults host.may_fall (host.is_kept && not is_misused) wire

-- a view that never is kept
abbrev pub unkept_host : HostView
unkept_host =
    record {
      card = powered_on nothing_made [];
      state = begun;
      limits = record { width = One; timing = Default };
      faults = 0;
      may_fall = None;
      is_kept = false;
    }

-- What the bus over a host does on the way.

-- no exchange: lines and clock may be set anew
abbrev pub OnlySets : HostView → HostView → Type 0
OnlySets old new =
    Where new ((old.is_kept ≡ true) × (new ≡ record old { state = record old.state { ios = new.state.ios } }))

-- a host that is set to some lines goes on with its card
abbrev pub GoesOn : HostView → HostView → Type 0
GoesOn old new =
    Where new
    ((old.is_kept ≡ true) × (new.card ≡ old.card) × (new.faults ≡ old.faults) × (new.may_fall ≡ old.may_fall)
    × (new.limits ≡ old.limits))

-- one exchange: this command, with this reply
abbrev pub Replies : HostView → ℕ → ℕ → Reply → HostView → Type 0
Replies old index argument reply new =
    Where new
    (Kept (bus_of old)
    ((frame : List ℕ) → command_in frame ≡ Some (index, argument) → CommandStep (bus_of old) frame reply (bus_of new))
    (bus_of new))

-- One exchange of the bus over a host, whatever the wire keeps of it; its lines are as they were.
abbrev pub Does : HostView → Wire → Bool → (BusView → BusView → Type 0) → HostView → Bool → Type 0
Does old wire was_misused Step new is_misused =
    (kept : Wire) → kept.lines ≡ wire.lines → (bus_over new kept is_misused).is_kept ≡ true
    → Kept (bus_over old wire was_misused) (Step (bus_over old wire was_misused) (bus_over new kept is_misused))
    (bus_over new kept is_misused)
