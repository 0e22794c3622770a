-- Where a card is while it is identified, and what identification leaves (SD Physical Layer 6.00, section 4.2;
-- JESD84-B51, section 6.4).
use Rattle.std.specs.Prelude.{◌+◌, ◌<◌, ◌^◌, ◌≡◌, ◌≤◌, Bool, Err, None, Ok, Option, Result, Some, false, if◌then◌else◌}
use Rattle.std.specs.Prelude.{true, ℕ}
use Rattle.mmc_frame.specs.declared.card_state.State.TheVariants.{Idle, Ready, Stby, Tran}
use Rattle.mmc_frame.specs.declared.kind.Kind.TheVariants.{Mmc, Sd}
use Rattle.mmc_regs.specs.Csd.{csd_in}
use Rattle.mmc_regs.specs.Ocr.{card_capacity_status}
use Rattle.mmc_regs.specs.Register.{register_number}
use Rattle.mmc_card.specs.declared.exchange.Timing.TheVariants.{Default}
use Rattle.mmc_card.specs.declared.exchange.Width.TheVariants.{One}
use Rattle.mmc_card.specs.declared.part.Part.TheVariants.{User}
use Rattle.mmc_card.specs.Card.{Card, NoAddress, is_selected, patience}
use Rattle.mmc_card.specs.Made.{IsToldCsd, Made, addressing_of, csd_told, is_sd}
use Rattle.mmc_bus.specs.declared.status.Closing.{Closing}
use Rattle.mmc_bus.specs.declared.status.Closing.TheVariants.{AtWork, Clean}
use Rattle.mmc_identify.specs.declared.fault.IdentFault.{IdentFault}
use Rattle.mmc_identify.specs.declared.found.Found.{Found}
use Rattle.mmc_identify.specs.declared.identification.Registers.{Registers}

-- the OCR of the card once it is ready
abbrev pub ready_ocr : Made → ℕ
ready_ocr made = 2 ^ 31 + made.ocr

-- it repeats what CMD8 tells it: an SD card that knows CMD8
abbrev pub echoes : Made → Bool
echoes made = if is_sd made.kind then made.answers_cmd8 else false

-- in idle, having accepted a CMD8 or not, asked so many times whether it is ready, with an application command announced
-- or not
pub record IsIdle (accepted is_app : Bool) (times : ℕ) (card : Card) : Type 0 where
  pub state : card.state ≡ Idle
  pub told : card.accepted_cmd8 ≡ accepted
  pub app : card.app ≡ is_app
  pub inquiries : card.inquiries ≡ times

-- a card with sector addresses has accepted CMD8, and is told that the host knows them
abbrev pub CanStart : Made → Bool → Type 0
CanStart made hcs = made.kind ≡ Sd → card_capacity_status made.ocr ≡ 1 → hcs ≡ true

-- one inquiry of a card that was asked so many times before, and has accepted a CMD8 or not
abbrev pub Inquired : Bool → ℕ → Made → Result (Option ℕ) IdentFault → Card → Type 0
Inquired accepted times made (Ok None) new = (times < patience) × IsIdle accepted false (times + 1) new
Inquired accepted times made (Ok (Some ocr)) new = (ocr ≡ ready_ocr made) × (new.state ≡ Ready)
Inquired accepted times made (Err fault) new = ⊥

-- the RCA by which the card goes: an eMMC device is assigned 1, and an SD card publishes any
abbrev pub IsRcaOf : Made → ℕ → Type 0
IsRcaOf made rca = made.kind ≡ Mmc → rca ≡ 1

-- in stby under this RCA, with no error to show
pub record IsNamed (rca : ℕ) (card : Card) : Type 0 where
  pub state : card.state ≡ Stby
  pub is_rca : card.rca ≡ rca
  pub app : card.app ≡ false
  pub command_errors : card.command_errors ≡ 0
  pub errors : card.errors ≡ 0
  pub switch_error : card.switch_error ≡ false

-- in tran under this RCA as CMD7 leaves it, busy or not
pub record IsSelected (rca : ℕ) (card : Card) : Type 0 where
  pub state : card.state ≡ Tran
  pub is_rca : card.rca ≡ rca
  pub part : card.part ≡ User
  pub width : card.width ≡ One
  pub timing : card.timing ≡ Default
  pub erase_group_def : card.erase_group_def ≡ 0
  pub count : card.count ≡ 0
  pub app : card.app ≡ false
  pub erase : card.erase ≡ NoAddress
  pub command_errors : card.command_errors ≡ 0
  pub errors : card.errors ≡ 0
  pub switch_error : card.switch_error ≡ false

-- as CMD7 leaves it, not polled yet
pub record IsTaken (rca : ℕ) (card : Card) : Type 0 where
  pub selected : IsSelected rca card
  pub polled : card.polled ≡ 0

-- not busy any more, and it has said so often that it is busy or at work
pub record IsResting (rca waits : ℕ) (card : Card) : Type 0 where
  pub selected : IsSelected rca card
  pub rests : card.is_busy ≡ false
  pub polled : card.polled ≡ waits
  pub few : waits ≤ patience

-- it is as CMD7 left it, or not selected any more
abbrev pub Looks : ℕ → Card → Type 0
Looks rca card = is_selected card.state ≡ true → IsSelected rca card

-- as identification leaves it
pub record IsLeft (rca : ℕ) (card : Card) : Type 0 where
  pub selected : IsSelected rca card
  pub rests : card.is_busy ≡ false
  -- no status lags behind
  pub up_to_date : card.lags ≡ false

-- what a closing status leaves of a card that looked as CMD7 left it
abbrev pub LooksAfter : ℕ → Result Closing IdentFault → Card → Type 0
LooksAfter rca (Ok Clean) new = IsLeft rca new
LooksAfter rca (Ok AtWork) new = Looks rca new
LooksAfter rca (Err fault) new = Unit {0}

-- and without a fault: it is clean, or the card was at work once more
abbrev pub RestsAfter : ℕ → ℕ → Result Closing IdentFault → Card → Type 0
RestsAfter rca waits (Ok Clean) new = Unit {0}
RestsAfter rca waits (Ok AtWork) new = IsResting rca (waits + 1) new
RestsAfter rca waits (Err fault) new = ⊥

-- what was found is the card's own
pub record IsFound (made : Made) (found : Found) : Type 0 where
  pub kind : found.kind ≡ made.kind
  pub addressing : found.addressing ≡ addressing_of made
  pub rca : IsRcaOf made found.rca
  pub cid : found.cid ≡ register_number made.cid
  -- as the card told it, with TMP_WRITE_PROTECT or as it is made
  pub says : Bool
  pub csd : csd_in made.kind (csd_told says made) ≡ Ok found.csd

-- these registers are the card's own
pub record HasTold (made : Made) (registers : Registers) : Type 0 where
  pub cid : registers.cid ≡ made.cid
  pub rca : IsRcaOf made registers.rca
  pub csd : IsToldCsd made registers.csd
