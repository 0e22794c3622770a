-- What a chip in memory stands for, and the choices that it makes where a card is free.
use Rattle.std.specs.Prelude.{◌%◌, ◌&&◌, ◌+◌, ◌/◌, ◌==◌, ◌^◌, ◌≡◌, Bool, List, false, if◌then◌else◌, is_some, length, nat_lt, not}
use Rattle.std.specs.Prelude.{◌∷◌, None, Option, Some, [], true, ℕ}
use Rattle.mmc_frame.specs.declared.card_state.State.{State}
use Rattle.mmc_frame.specs.declared.card_state.State.TheVariants.{Data, Prg, Tran}
use Rattle.mmc_frame.specs.declared.commands.TheConstants as Index
use Rattle.mmc_frame.specs.declared.kind.Kind.{Kind}
use Rattle.mmc_frame.specs.declared.kind.Kind.TheVariants.{Mmc}
use Rattle.mmc_card.specs.declared.exchange.DataIn.{DataIn}
use Rattle.mmc_card.specs.declared.exchange.DataIn.TheVariants as Received
use Rattle.mmc_card.specs.declared.exchange.Lines.{Lines}
use Rattle.mmc_card.specs.Blocks.{asked_for, can_send, next_block, rested, sent}
use Rattle.mmc_card.specs.Card.{Both, Card, First, FromBytes, FromSectors, Held, NoAddress, Source as CardSource, is_in, patience}
use Rattle.mmc_card.specs.CardAnswer.{CardAnswer, Choice}
use Rattle.mmc_card_rows.specs.declared.answer.Answer.{Answer}
use Rattle.mmc_card_rows.specs.declared.chip.Addresses.{Addresses}
use Rattle.mmc_card_rows.specs.declared.chip.Addresses.TheVariants as Is
use Rattle.mmc_card_rows.specs.declared.chip.Chip.{Chip}
use Rattle.mmc_card_rows.specs.declared.chip.Source.{Source}
use Rattle.mmc_card_rows.specs.declared.delays.Delays.{Delays}
use Rattle.mmc_card_rows.specs.declared.delays.Refusal.{Refusal}
use Rattle.mmc_card_rows.specs.declared.delays.Refusal.TheVariants.{SelectsDefault}
use Rattle.mmc_card_rows.specs.declared.chip.Source.TheVariants as From
use Rattle.mmc_card_rows.specs.Answer.{HasIndex, answer_of}
use Rattle.mmc_card_rows.specs.Registers.{made_of}
use Rattle.mmc_card_rows.specs.Store.{parts_of, values_of}

abbrev pub held_in : Addresses → Held
held_in Is.None = NoAddress
held_in (Is.First first) = First first
held_in (Is.Both first last) = Both first last

abbrev pub source_of : Source → CardSource
source_of From.Sectors = FromSectors
source_of (From.Block block timing) = FromBytes block.items timing

-- it sends a block that isn't a sector
abbrev pub IsBlockSource : Source → Type 0
IsBlockSource From.Sectors = ⊥
IsBlockSource (From.Block block timing) = Unit {0}

-- A card has error bits in units of bit 13.
abbrev pub card_of : Chip → Card
card_of chip =
    record {
      made = made_of chip.registers;
      state = chip.state;
      rca = chip.rca;
      part = chip.part;
      width = chip.width;
      timing = chip.timing;
      erase_group_def = chip.erase_group_def;
      block_length = chip.block_length;
      count = chip.count;
      app = chip.is_app;
      erase = held_in chip.addresses;
      command_errors = chip.command_errors / 2 ^ 13;
      errors = chip.errors / 2 ^ 13;
      switch_error = chip.has_switch_error;
      accepted_cmd8 = chip.has_accepted_cmd8;
      inquiries = chip.inquiries;
      is_busy = chip.is_busy;
      polled = chip.polled;
      lags = chip.lags;
      sectors = parts_of chip.store;
      source = source_of chip.source;
      next = chip.next;
      left = chip.left;
      is_single = chip.is_single;
      start = chip.store.start;
      values = values_of chip.store;
      is_switching = chip.is_switching;
    }

-- All that is unfinished lands at CMD0, OUT_OF_RANGE is set after the last sector, and a command with a bad check
-- drops the preset count. At a command the card may choose otherwise where CMD0, CMD3, CMD6, CMD8, CMD12, CMD13 and an
-- inquiry leave it free.
abbrev pub choice_of : Bool → Choice
choice_of is_slow = record {
  is_slow = is_slow;
  lands = λ i. true;
  says_end = true;
  keeps_count = false;
  rca = 0;
  keeps_length = true;
  refuses_speed = false;
  selects_none = true;
  fails_switch = false;
  says_late = false;
  finds = 0;
  is_protected = false;
  stays_busy = false;
  answers_stop = false;
  drops_quietly = false;
  is_behind = false;
  shows = Prg;
  shows_ready = false;
  tells_late = false;
  unread = [];
  second_group = None;
}

-- an SD card that refuses to switch to high speed
abbrev pub refuses : Option Refusal → Bool
refuses (Some refusal) = true
refuses None = false

-- its status selects function 15 then, none, and not function 0
abbrev pub selects_none : Option Refusal → Bool
selects_none (Some SelectsDefault) = false
selects_none _ = true

-- DEVICE_LIFE_TIME_EST_TYP_A of an eMMC device, which nobody reads
abbrev pub life_time_bytes : Kind → Option ℕ → List (ℕ × ℕ)
life_time_bytes Mmc (Some life_time) = (268, life_time) ∷ []
life_time_bytes _ _ = []

-- how many statuses lag behind a card that has come to tran from this state
abbrev pub lagging_behind : State → Delays → ℕ
lagging_behind Prg delays = delays.lagging
lagging_behind _ delays = delays.late

-- at a command; the first so many inquiries are answered with not ready
abbrev pub command_choice : Delays → Card → Choice
command_choice delays card =
    record (choice_of (nat_lt card.inquiries delays.ready)) {
      rca = delays.last_rca;
      keeps_length = delays.keeps_length;
      refuses_speed = refuses delays.refusal;
      unread = life_time_bytes card.made.kind delays.life_time;
      selects_none = selects_none delays.refusal;
      finds = delays.finds / 2 ^ 13;
      stays_busy = delays.stays_busy;
      is_behind =
          nat_lt card.polled patience
          && (nat_lt 0 (lagging_behind delays.before delays)
          && nat_lt card.polled (delays.busy + lagging_behind delays.before delays));
      shows = delays.before;
    }

-- the command is CMD0
abbrev pub is_reset : Option (ℕ × ℕ) → Bool
is_reset (Some command) = command.0 == Index.GO_IDLE_STATE
is_reset None = false

-- one that ages says one more
abbrev pub aged : Option ℕ → Option ℕ
aged (Some life_time) = Some ((life_time + 1) % 256)
aged None = None

-- What the card chooses after a command, by the RCA that it goes by then: where the RCA changes, the next one follows it. One
-- that ages does so at CMD0.
abbrev pub delays_after : Delays → Option (ℕ × ℕ) → ℕ → Delays
delays_after delays command rca =
    record delays {
      last_rca = if delays.rca_changes && not (rca == 0) then rca else delays.last_rca;
      life_time = if is_reset command then aged delays.life_time else delays.life_time;
    }

-- the same, but that a command finds these error bits, as a status has them
abbrev pub finding : ℕ → Delays → Delays
finding bits delays = record delays { finds = bits }

-- What it chooses after any exchange, by the states before it and after it: what a status shows that lags behind tran.
abbrev pub moved_on : Delays → State → State → Delays
moved_on delays old new =
    record delays { before = if is_in new Tran && not (is_in old Tran) then old else delays.before }

-- What the card does by itself between two exchanges, if it does: it isn't busy any more, and a read has sent one block, if it has
-- one, that nobody took.
abbrev pub run_on_once : Card → Card
run_on_once card = if is_some (next_block card) then sent (choice_of false) card else card

abbrev pub by_itself : Card → Card
by_itself card = if is_in card.state Data then run_on_once card else rested card

abbrev pub passed : Delays → Card → Card
passed delays card = if delays.goes_on then by_itself card else card

-- it takes as long as before, and finds the same error bits
pub record KeepsWaits (old new : Delays) : Type 0 where
  pub ready : new.ready ≡ old.ready
  pub busy : new.busy ≡ old.busy
  pub finds : new.finds ≡ old.finds

-- the chip is the card after a step, and this is its answer
abbrev pub Answers : Card × CardAnswer → Chip → Answer → Type 0
Answers step chip answer = (card_of chip ≡ step.0) × (answer_of answer ≡ step.1) × HasIndex answer

-- A block that was asked for: the card sends what it has, if the lines and the length fit.
pub record Sends (lines : Lines) (old new : Card) (size : ℕ) (got : DataIn) (block : List ℕ) : Type 0 where
  pub len : length block ≡ size
  pub card : new ≡ asked_for (choice_of false) lines size old
  pub got_is : got ≡ (if can_send lines size old then Received.Good else Received.Nothing)
  pub block_is : got ≡ Received.Good → next_block old ≡ Some block
