-- What the model's registers show, over what became of the card.
use Rattle.std.specs.Prelude.{Bool, List, None, Ok, Option, Some, drop, false, if◌then◌else◌, true, ℕ, ◌%◌, ◌&&◌, ◌==◌, ◌||◌, ◌≡◌}
use Rattle.mmc_frame.specs.Field.{field}
use Rattle.mmc_host.specs.Hosts.{answer_heard}
use Rattle.mmc_host.specs.declared.data.Data.{Data}
use Rattle.mmc_card.specs.declared.exchange.Width.TheVariants.{Eight}
use Rattle.mmc_card.specs.declared.response.Response.{Response}
use Rattle.mmc_host.specs.declared.told.Heard.{Heard}
use Rattle.mmc_host.specs.declared.told.HostCommand.{HostCommand}
use Rattle.mmc_host.specs.declared.told.HostState.{HostState}
use Rattle.mmc_host.specs.declared.work.Work.TheVariants.{Settling}
use Rattle.mmc_story.specs.Entry.{Entry, Event}
use Rattle.mmc_story.specs.Story.{Outcome, Story}
use Rattle.mmc_sdhci.specs.CommandLooks.{IsShown}
use Rattle.mmc_sdhci.specs.Commands.{response_flags}
use Rattle.mmc_sdhci.specs.Controller.{ControllerView, Running, limits_in, lines_in}
use Rattle.mmc_sdhci.specs.Lent.{Come, Lent, Room, ToGo, blocks_to_go}
use Rattle.sdhci_model.specs.declared.commands.Run.{Run}
use Rattle.sdhci_model.specs.declared.commands.Told.{Told}
use Rattle.sdhci_model.specs.declared.lent.Loan.{Loan}
use Rattle.sdhci_model.specs.declared.state.State.{State}

abbrev pub running_of : Run → Running
running_of run =
    record { index = run.index; argument = run.argument; flags = run.flags; transfer = run.transfer }

abbrev pub running_in : Option Run → Option Running
running_in None = None
running_in (Some run) = Some (running_of run)

abbrev pub unjudged_in : Bool → List ℕ → Option (List ℕ)
unjudged_in false block = None
unjudged_in true block = Some block

-- what is lent
abbrev pub lent_in : Loan → Option Lent
lent_in Loan.Nothing = None
lent_in (Loan.Room count) = Some (Room count)
lent_in (Loan.Come blocks) = Some (Come blocks.items)
lent_in (Loan.ToGo blocks) = Some (ToGo blocks.items)

-- the blocks that are to go
abbrev pub to_go : State → List (List ℕ)
to_go state = blocks_to_go (lent_in state.loan)

abbrev pub shown : Outcome → State → ControllerView
shown outcome state =
    record {
      card = outcome.card;
      faults = outcome.faults;
      may_fall = None;
      is_kept = if state.is_sound then outcome.conformed else false;
      built = record { capabilities = state.capabilities; version = state.version; wired = Eight };
      settings = record {
        control = state.control;
        power = state.power;
        clock = state.clock;
        timeout = state.timeout;
        shown = state.shown;
        stabilizing = state.stabilizing;
        starting = state.starting;
      };
      sizes = state.sizes;
      argument = state.argument;
      resetting = state.resetting;
      running = running_in state.running;
      response = state.response;
      status = state.status;
      is_stuck = state.is_stuck;
      transfer = state.transfer;
      is_stale = state.is_stale;
      unjudged = unjudged_in state.is_unjudged state.block.items;
      is_ready = state.is_ready;
      incoming = drop state.taken state.block.items;
      outgoing = state.outgoing.items;
      dma = record {
        lent = lent_in state.loan;
        start = state.memory;
        table = state.table;
        wide_table = state.wide_table;
        sdma_address = state.sdma_address;
        adma_address = state.address;
        adma_upper = state.upper;
        is_moving = state.is_moving;
      };
    }

-- no command of the controller's own, and no suspending
abbrev pub is_plain : ℕ → Bool
is_plain value =
    (field 3 2 value == 0)
    && ((field 15 6 value == 0)
    && ((field 18 18 value == 0)
    && ((field 31 30 value == 0) && ((field 23 22 value == 0) || (field 29 22 value == 0x33)))))

-- what a host was told that has these lines
abbrev pub told_of : ℕ → HostState
told_of control =
    record {
      ios = record {
        width = (lines_in control).width;
        timing = (lines_in control).timing;
        is_identifying = false;
      };
      is_identifying = false;
      is_app = false;
      count = 0;
      transfer = Data.Nothing;
      work = Settling;
      erase_start = 0;
      erase_end = 0;
      paused = 0;
    }

-- the command that runs, as a host is told it
abbrev pub command_of : Run → Response → HostCommand
command_of run response =
    record { index = run.index; argument = run.argument; response = response; transfer = run.transfer }

-- the words show what was heard
abbrev pub Fits : Response → Heard → List ℕ → Type 0
Fits response heard words =
    (flags index : ℕ) → flags % 32 ≡ response_flags response
    → IsShown flags index words (answer_heard response index (Ok heard))

-- so does what was told of a command that runs
pub record IsTold (run : Run) (told : Told) : Type 0 where
  pub type : run.flags % 32 ≡ response_flags told.response
  pub fits : Fits told.response told.heard told.words

-- what is noted of a call
abbrev pub entry_for : State → Event → Entry
entry_for state event =
    record { told = told_of state.control; limits = limits_in state.capabilities; event = event }

-- the controller, where this was noted
abbrev pub controller : Story → List Entry → State → ControllerView
controller story past state = shown (story.outcome past) state
