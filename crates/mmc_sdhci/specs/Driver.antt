-- The driver as a host, and what it knows of its controller.
use Rattle.std.specs.Prelude.{[], ◌%◌, ◌==◌, ◌≡◌, ◌≤◌, Bool, None, false, if◌then◌else◌, true, ℕ}
use Rattle.mmc_frame.specs.Field.{field}
use Rattle.mmc_card.specs.Card.{IsCard, holds, powered_on}
use Rattle.mmc_card.specs.Laws.{Carried, StillStands}
use Rattle.mmc_card.specs.Sectors.{Within}
use Rattle.mmc_card.specs.declared.exchange.Lines.{Lines}
use Rattle.mmc_card.specs.declared.exchange.Timing.{Timing}
use Rattle.mmc_card.specs.declared.exchange.Timing.TheVariants.{Default, High}
use Rattle.mmc_card.specs.declared.exchange.Width.TheVariants.{Eight}
use Rattle.mmc_bus.specs.Wires.{nothing_made}
use Rattle.mmc_host.specs.HostStates.{lines_of}
use Rattle.mmc_host.specs.Hosts.{HostView, Where}
use Rattle.mmc_host.specs.declared.data.Data.{Data}
use Rattle.mmc_host.specs.declared.told.HostState.{HostState}
use Rattle.mmc_host.specs.declared.told.Ios.{Ios}
use Rattle.mmc_sdhci.specs.Beside.{Beside, is_inserted}
use Rattle.mmc_sdhci.specs.Controller.{ControllerView, IsAtMost, Settled, are_shown, base_clock, clock_runs, is_set, is_settled, is_still, lines_in}
use Rattle.mmc_sdhci.specs.Accesses.{is_at_rest, of_the_slot, restarted, starting_anew}
use Rattle.mmc_sdhci.specs.Lent.{nothing_lent}
use Rattle.mmc_sdhci.specs.Moving.{WhereKept}
use Rattle.mmc_sdhci.specs.declared.start.StartFault.{StartFault}
use Rattle.mmc_sdhci.specs.declared.start.StartFault.TheVariants.{NoBaseClock, NoCard, NoVoltage}

-- a host with this controller: its card, what it was told so far, and its limits
abbrev pub host_over : ControllerView → HostState → Lines → HostView
host_over view state limits =
    record {
      card = view.card;
      state = state;
      limits = limits;
      faults = view.faults;
      may_fall = view.may_fall;
      is_kept = view.is_kept;
    }

-- it was told lines and clock so
abbrev pub told_so : HostState → Ios → HostState
told_so state told = record state { ios = told }

-- lines as they are set, and the clock of data
abbrev pub ios_in : ControllerView → Ios
ios_in view =
    record {
      width = (lines_in view.settings.control).width;
      timing = (lines_in view.settings.control).timing;
      is_identifying = false;
    }

-- nothing has happened
abbrev pub StaysHost : HostView → HostView → Type 0
StaysHost old new = Where new ((old.is_kept ≡ true) × (new ≡ old))

-- the fastest clock in hertz: while the card is identified, at default speed, and at high speed
abbrev pub speed_limit : Timing → ℕ
speed_limit Default = 25000000
speed_limit High = 50000000

abbrev pub clock_limit : Ios → ℕ
clock_limit ios = if ios.is_identifying then 400000 else speed_limit ios.timing

-- the base clock in MHz is known
abbrev pub IsBaseClock : ℕ → ℕ → ControllerView → Type 0
IsBaseClock base version view =
    WhereKept view ((view.built.version ≡ version) × (base_clock view.built.capabilities version ≡ base))

-- the clock is set, to so many hertz at most, and runs; the timeout of data is the longest; nothing else is set
abbrev pub SetsClock : ControllerView → ℕ → ControllerView → Type 0
SetsClock old most new =
    Settled old
    (IsAtMost most new
    × ((clock_runs new.settings.clock ≡ true)
    × (new ≡ record old {
      settings = record old.settings {
        clock = new.settings.clock;
        timeout = 0x0e;
        stabilizing = None;
        starting = starting_anew old.settings.starting;
      };
    }))) new

-- and the lines with it
abbrev pub SetsLines : ControllerView → Ios → ControllerView → Type 0
SetsLines old ios new =
    Settled old
    ((lines_in new.settings.control ≡ lines_of ios)
    × (IsAtMost (clock_limit ios) new
    × ((clock_runs new.settings.clock ≡ true)
    × (new ≡ record old {
      settings = record old.settings {
        control = new.settings.control;
        clock = new.settings.clock;
        timeout = 0x0e;
        stabilizing = None;
        starting = starting_anew old.settings.starting;
      };
    })))) new

-- no command runs, and no data is under way
abbrev pub IsAtEase : ControllerView → Type 0
IsAtEase view = (view.running ≡ None) × (view.transfer ≡ Data.Nothing)

-- Where a driver may begin: nothing runs or settles. Whether the card has power, what is set and what is left of earlier use doesn't
-- matter.
abbrev pub IsNew : ControllerView → Type 0
IsNew view = WhereKept view ((is_still view ≡ true) × IsAtEase view)

-- nothing runs, nothing is left of earlier use, and the card has no power
abbrev pub IsOff : ControllerView → Type 0
IsOff view =
    WhereKept view ((is_at_rest view ≡ true) × ((view.transfer ≡ Data.Nothing) × (view.settings.power ≡ 0)))

-- between two commands, with all set that they need, and nothing lent
abbrev pub IsReady : ControllerView → Type 0
IsReady view =
    WhereKept view
    ((is_at_rest view ≡ true)
    × ((view.transfer ≡ Data.Nothing) × ((view.dma.lent ≡ None) × (is_set view.settings ≡ true))))

-- where lines and clock can be set
abbrev pub IsSteady : ControllerView → Type 0
IsSteady view = WhereKept view (IsAtEase view × (is_settled view ≡ true))

-- a reset: one line at default speed, and no power
abbrev pub started : ControllerView → ControllerView
started view = record (restarted view) { resetting = None }

-- The interrupts are shown that the driver looks at, and those of the slot that somebody else wants.
abbrev pub AreShownFor : ℕ → ℕ → Type 0
AreShownFor kept shown = (are_shown shown ≡ true) × (of_the_slot shown ≡ of_the_slot kept)

abbrev pub showing : ControllerView → ℕ → ControllerView
showing view shown = record view { settings = record view.settings { shown = shown } }

abbrev pub IsStarted : ℕ → ControllerView → Type 0
IsStarted kept view =
    WhereKept view
    ((is_at_rest view ≡ true)
    × ((view.transfer ≡ Data.Nothing)
    × (AreShownFor kept view.settings.shown
    × (view.settings
    ≡ record {
      control = 0;
      power = 0;
      clock = 0;
      timeout = 0;
      shown = view.settings.shown;
      stabilizing = None;
      starting = None;
    }))))

abbrev pub Restarts : ℕ → ControllerView → ControllerView → Type 0
Restarts kept old new =
    Settled old ((new ≡ showing (started old) new.settings.shown) × AreShownFor kept new.settings.shown) new

-- Why a controller isn't ready: it has no 3.3 V (bit 24 of Capabilities), it doesn't tell its base clock, or, where it has both,
-- Present State showed no card in the slot when it was read last.
abbrev pub IsUnready : StartFault → ControllerView → Beside → Type 0
IsUnready NoVoltage view beside = WhereKept view (field 24 24 view.built.capabilities ≡ 0)
IsUnready NoBaseClock view beside = WhereKept view (base_clock view.built.capabilities view.built.version ≡ 0)
IsUnready NoCard view beside =
    WhereKept view
    ((field 24 24 view.built.capabilities ≡ 1)
    × ((base_clock view.built.capabilities view.built.version ≡ 0 → ⊥) × (is_inserted beside.present ≡ false)))

-- the card is as before, and so is what is built in
pub record IsSameCard (old new : ControllerView) : Type 0 where
  pub card : new.card ≡ old.card
  pub faults : new.faults ≡ old.faults
  pub may_fall : new.may_fall ≡ old.may_fall
  pub built : new.built ≡ old.built

-- What was under way is lost: of the same card no sector may hold more, and it stands as it did.
pub record IsLost (old new : ControllerView) : Type 0 where
  pub carried : Carried old.card new.card
  pub narrows : Within (holds new.card) (holds old.card)
  pub is_card : IsCard old.card → IsCard new.card
  pub stands : StillStands old.card new.card
  pub later : old.faults ≤ new.faults
  pub built : new.built ≡ old.built

-- blocks of whole words
abbrev pub are_words : Data → Bool
are_words Data.Nothing = true
are_words (Data.Read size blocks) = size % 4 == 0
are_words (Data.Write blocks) = true

-- a view that never is kept
abbrev pub unkept_controller : ControllerView
unkept_controller =
    record {
      card = powered_on nothing_made [];
      faults = 0;
      may_fall = None;
      is_kept = false;
      built = record { capabilities = 0; version = 0; wired = Eight };
      settings = record { control = 0; power = 0; clock = 0; timeout = 0; shown = 0; stabilizing = None; starting = None };
      resetting = None;
      sizes = 0;
      argument = 0;
      running = None;
      response = [];
      status = 0;
      is_stuck = false;
      transfer = Data.Nothing;
      is_stale = false;
      unjudged = None;
      is_ready = false;
      incoming = [];
      outgoing = [];
      dma = nothing_lent;
    }
