-- Where a card is while it is widened, and while its partition is selected.
use Rattle.std.specs.Prelude.{◌≡◌, Bool, List, [], false, ℕ}
use Rattle.mmc_frame.specs.declared.card_state.State.TheVariants.{Tran}
use Rattle.mmc_frame.specs.declared.commands.TheConstants as Index
use Rattle.mmc_regs.specs.Scr.{scr_number}
use Rattle.mmc_card.specs.declared.exchange.Lines.{Lines}
use Rattle.mmc_card.specs.declared.exchange.Timing.{Timing}
use Rattle.mmc_card.specs.declared.exchange.Timing.TheVariants.{Default}
use Rattle.mmc_card.specs.declared.exchange.Width.{Width}
use Rattle.mmc_card.specs.declared.exchange.Width.TheVariants.{One}
use Rattle.mmc_card.specs.declared.part.Part.{Part}
use Rattle.mmc_card.specs.declared.part.Part.TheVariants.{User}
use Rattle.mmc_card.specs.BusView.{BusView}
use Rattle.mmc_card.specs.Card.{Card, FromBytes, NoAddress}
use Rattle.mmc_card.specs.Laws.{Setting, StandsIn, SwitchesTo, setting_of}
use Rattle.mmc_card.specs.Made.{Made}
use Rattle.mmc_bus.specs.CommandLaws.{IsSwitchSource}
use Rattle.mmc_switch.specs.Info.{IsTimingOver, width_over}
use Rattle.mmc_switch.specs.declared.sd.Told.{Told}

-- In tran, with nothing to show, nothing preset and nothing unfinished; an application command is announced or not.
pub record IsAtRest (is_app : Bool) (card : Card) : Type 0 where
  pub state : card.state ≡ Tran
  pub rests : card.is_busy ≡ false
  pub app : card.app ≡ is_app
  pub command_errors : card.command_errors ≡ 0
  pub errors : card.errors ≡ 0
  pub switch_error : card.switch_error ≡ false
  pub count : card.count ≡ 0
  pub erase : card.erase ≡ NoAddress
  pub finished : card.values ≡ []
  -- no status lags behind
  pub up_to_date : card.lags ≡ false

-- the lines of a card that is set so
abbrev pub lines_of : Setting → Lines
lines_of setting = record { width = setting.width; timing = setting.timing }

-- at rest and set so, while the host has set these lines
pub record IsSetOver (lines : Lines) (is_app : Bool) (setting : Setting) (view : BusView) : Type 0 where
  pub rest : IsAtRest is_app view.card
  pub is_set : setting_of view.card ≡ setting
  pub on_lines : view.lines ≡ lines

-- at rest and set so, and the host's lines are the card's
abbrev pub IsSet : Bool → Setting → BusView → Type 0
IsSet is_app setting view = IsSetOver (lines_of setting) is_app setting view

-- with the user partition and blocks of 512 bytes
abbrev pub user_setting : ℕ → Width → Timing → ℕ → Setting
user_setting rca width timing erase_group_def =
    record {
      rca = rca;
      part = User;
      width = width;
      timing = timing;
      erase_group_def = erase_group_def;
      block_length = 512;
    }

-- as identification leaves it: the host's lines, and the card, with blocks of 512 bytes
abbrev pub first_lines : Lines
first_lines = record { width = One; timing = Default }

abbrev pub first_setting : ℕ → Setting
first_setting rca = user_setting rca One Default 0

-- what an SD card tells while it is widened over a host with these limits
pub record IsToldOf (limits : Lines) (made : Made) (told : Told) : Type 0 where
  pub scr : told.scr ≡ scr_number made.scr
  pub width : told.width ≡ width_over limits made
  pub timing : IsTimingOver limits made told.timing

-- After CMD6 with this argument the card has sent this status, and is at rest with the timing that follows it.
pub record HasSwitched (argument : ℕ) (setting : Setting) (old : Card) (status : List ℕ) (new : BusView) : Type 0 where
  pub timing : Timing
  pub sent : IsSwitchSource old argument (FromBytes status timing)
  pub is_set : IsSetOver (lines_of setting) false (record setting { timing = timing }) new

-- Whatever fell, CMD6 with this argument left the card standing: in its partition, or in the one that is named.
pub record MayStandIn (argument : ℕ) (old new : BusView) : Type 0 where
  pub lines : new.lines ≡ old.lines
  pub stands : (part : Part) → SwitchesTo part old.card Index.SWITCH_FUNC argument → StandsIn part old.card new.card
