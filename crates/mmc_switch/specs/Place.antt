-- Where the card of a session is, over a bus that is kept.
use Rattle.std.specs.Prelude.{◌≡◌, Some, false}
use Rattle.mmc_frame.specs.Field.{field}
use Rattle.mmc_frame.specs.declared.kind.Kind.TheVariants.{Mmc, Sd}
use Rattle.mmc_ext_csd.specs.ExtCsd.{partition_config}
use Rattle.mmc_card.specs.declared.part.Part.{Part}
use Rattle.mmc_card.specs.declared.part.Part.TheVariants.{User}
use Rattle.mmc_card.specs.BusView.{BusView}
use Rattle.mmc_card.specs.Card.{IsCard}
use Rattle.mmc_card.specs.Laws.{Setting, Stands}
use Rattle.mmc_switch.specs.Info.{IsInfo, IsKnown, erase_group_def_of}
use Rattle.mmc_switch.specs.Stages.{IsSet, lines_of}
use Rattle.mmc_switch.specs.declared.broken.Broken.{Broken}
use Rattle.mmc_switch.specs.declared.info.Info.{Info}
use Rattle.mmc_switch.specs.declared.session.Session.{Session}

-- as `widen` sets a card, with this partition
abbrev pub setting_in : Info → Part → Setting
setting_in info part =
    record {
      rca = info.rca;
      part = part;
      width = info.width;
      timing = info.timing;
      erase_group_def = erase_group_def_of info.kind;
      block_length = 512;
    }

-- the session knows what the card's registers say and what the host can, uses no more of it, and knows bits 7 to 3 of
-- PARTITION_CONFIG
pub record Knows (session : Session) (view : BusView) : Type 0 where
  pub info : IsKnown view.limits view.card.made session.info
  pub partition_config : view.card.made.kind ≡ Mmc
      → field 7 3 session.partition_config ≡ field 7 3 (partition_config view.card.made.ext_csd)

-- it is the session's partition, where that is known; an SD card has the user partition alone
pub record IsPartOf (session : Session) (part : Part) : Type 0 where
  pub known : (known : Part) → session.selected ≡ Some known → part ≡ known
  pub sd : session.info.kind ≡ Sd → part ≡ User

-- Ready for a transfer: the card is as the session says.
pub record IsReady (session : Session) (view : BusView) : Type 0 where
  pub is_card : IsCard view.card
  pub knows : Knows session view
  pub set : IsSet false (setting_in session.info view.card.part) view
  pub part : IsPartOf session view.card.part

-- Initialized: ready, with the user partition selected, and all that the card has is used.
pub record IsInitialized (session : Session) (view : BusView) : Type 0 where
  pub ready : IsReady session view
  pub selected : session.selected ≡ Some User
  pub info : IsInfo view.limits view.card.made session.info

-- the card stands as the session says, in some state, or it is as after CMD0, error bits apart
pub record StandsAs (session : Session) (view : BusView) : Type 0 where
  pub part : Part
  pub is_part : IsPartOf session part
  pub stands : Stands (setting_in session.info part) view.card
  pub lines : view.lines ≡ lines_of (setting_in session.info part)

-- Broken, after a failure: the session knows the card, and unless it has to be reset, it stands so.
pub record IsBroken (broken : Broken) (view : BusView) : Type 0 where
  pub is_card : IsCard view.card
  pub knows : Knows broken.session view
  pub stands : broken.must_reset ≡ false → StandsAs broken.session view
