-- What a card in memory is built by: when it is refused, and what its registers come to.
use Rattle.std.specs.Prelude.{Bool, List, None, Ok, Option, Some, [], if◌then◌else◌, is_ok, length, nat_le, not, true}
use Rattle.std.specs.Prelude.{◌&&◌, ◌*◌, ◌==◌, ◌<◌, ◌^◌, ◌||◌, ◌∷◌, ◌≡◌, ℕ}
use Rattle.mmc_frame.specs.Flips.{AreBytes}
use Rattle.mmc_regs.specs.Csd.{csd_in, csd_of}
use Rattle.mmc_regs.specs.Ocr.{access_mode, power_up_status, window_at_3_3_volts}
use Rattle.mmc_regs.specs.Register.{checked_number}
use Rattle.mmc_regs.specs.declared.csd.Csd.{Csd}
use Rattle.mmc_ext_csd.specs.ExtCsd.{boot_sectors, gp_sectors, hc_erase_grp_size}
use Rattle.mmc_card.specs.Card.{patience}
use Rattle.mmc_card.specs.Made.{Made, csd_number_of, is_sd, user_sectors}
use Rattle.mmc_card_rows.specs.Registers.{kind_of, made_of}
use Rattle.mmc_card_rows.specs.Sizes.{total}
use Rattle.mmc_card_rows.specs.declared.registers.KindRegisters.{KindRegisters}
use Rattle.mmc_card_rows.specs.declared.registers.KindRegisters.TheVariants.{Mmc, Sd}
use Rattle.mmc_card_rows.specs.declared.registers.Registers.{Registers}
use Rattle.mmc_card_sim.specs.declared.spec.BuildFault.{BuildFault}
use Rattle.mmc_card_sim.specs.declared.spec.BuildFault.TheVariants.{ImageSize, NoMemory, Register}
use Rattle.mmc_card_sim.specs.declared.spec.CardSpec.{CardSpec}
use Rattle.mmc_card_sim.specs.declared.spec.TheConstants.{MAX_SECTORS}

-- an SD card has the user partition alone
abbrev pub sd_sizes : ℕ → List ℕ
sd_sizes user = user ∷ 0 ∷ 0 ∷ 0 ∷ 0 ∷ 0 ∷ 0 ∷ []

-- of an eMMC device a general purpose partition that is too large to exist is counted too
abbrev pub mmc_sizes : ℕ → List ℕ → List ℕ
mmc_sizes user block =
    user ∷ boot_sectors block ∷ boot_sectors block ∷ gp_sectors 1 block ∷ gp_sectors 2 block ∷ gp_sectors 3 block
    ∷ gp_sectors 4 block ∷ []

abbrev pub sizes_by : Made → List ℕ
sizes_by made = if is_sd made.kind then sd_sizes (user_sectors made) else mmc_sizes (user_sectors made) made.ext_csd

-- the seven partitions' sizes in sectors, in the order of `Part`
abbrev pub sizes_of : Registers → List ℕ
sizes_of registers = sizes_by (made_of registers)

-- the CID's reader takes it
abbrev pub has_cid : Registers → Bool
has_cid registers = is_ok (checked_number registers.cid)

-- the CSD's reader takes it
abbrev pub has_csd : Registers → Bool
has_csd registers = is_ok (csd_in (kind_of registers.kind) registers.csd)

-- from 3.2 to 3.4 V
abbrev pub works_at_3_3_volts : ℕ → Bool
works_at_3_3_volts ocr = window_at_3_3_volts ocr == 3

-- bit 31 says that the card is ready, which it isn't at first
abbrev pub has_no_ready_bit : ℕ → Bool
has_no_ready_bit ocr = power_up_status ocr == 0

abbrev pub has_ocr : ℕ → Bool
has_ocr ocr = works_at_3_3_volts ocr && has_no_ready_bit ocr

-- modes 1 and 3 are reserved (JESD84-B51, section 7.1)
abbrev pub has_access_mode : ℕ → Bool
has_access_mode ocr = (access_mode ocr == 0) || (access_mode ocr == 2)

abbrev pub has_erase_unit : List ℕ → Bool
has_erase_unit block = not (hc_erase_grp_size block == 0)

-- What only an SD card or only an eMMC device has. No SD card publishes RCA 0 (SD Physical Layer 6.00, section 5.4).
abbrev pub kind_is_taken : KindRegisters → ℕ → Bool
kind_is_taken (Sd sd) ocr = not (sd.rca == 0)
kind_is_taken (Mmc mmc) ocr = has_access_mode ocr && has_erase_unit mmc.ext_csd

-- the registers, before their size is judged
abbrev pub each_register_is_taken : Registers → Bool
each_register_is_taken registers =
    has_cid registers && (has_csd registers && (has_ocr registers.ocr && kind_is_taken registers.kind registers.ocr))

-- at most 15 inquiries aren't ready, and at most 15 polls of a busy time are busy
abbrev pub has_short_waits : CardSpec → Bool
has_short_waits spec = nat_le spec.ready patience && nat_le spec.busy patience

-- bits 30 and 29 of an OCR, where they are said
abbrev pub has_early_bits : Option ℕ → Bool
has_early_bits None = true
has_early_bits (Some early) = nat_le early 3

-- the user partition has sectors, and as many as are wanted
abbrev pub has_user_sectors : ℕ → ℕ → Bool
has_user_sectors user wanted = not (user == 0) && (user == wanted)

abbrev pub registers_are_taken : CardSpec → Bool
registers_are_taken spec =
    each_register_is_taken spec.registers
    && (has_short_waits spec
    && (has_early_bits spec.early && has_user_sectors (user_sectors (made_of spec.registers)) spec.sectors))

-- where there is an image, it has 512 bytes for each sector
abbrev pub image_fits : Option (List ℕ) → ℕ → Bool
image_fits None sectors = true
image_fits (Some bytes) sectors = length bytes == 512 * sectors

-- partitions of these sizes have at most `limit` sectors together, and the image is theirs
abbrev pub takes_image_within : ℕ → List ℕ → Option (List ℕ) → Bool
takes_image_within limit sizes image = nat_le (total sizes) limit && image_fits image (total sizes)

abbrev pub image_is_taken_within : ℕ → CardSpec → Bool
image_is_taken_within limit spec = takes_image_within limit (sizes_of spec.registers) spec.image

-- why no card of at most `limit` sectors is built by it, where none is
abbrev pub refusal_within : ℕ → CardSpec → Option BuildFault
refusal_within limit spec =
    if registers_are_taken spec then (if image_is_taken_within limit spec then None else Some ImageSize)
    else Some Register

-- a fault of building names the first rule that refuses the spec, or want of memory where none does
abbrev pub IsRefusalWithin : ℕ → CardSpec → BuildFault → Type 0
IsRefusalWithin limit spec NoMemory = refusal_within limit spec ≡ None
IsRefusalWithin limit spec why = refusal_within limit spec ≡ Some why

-- The same of a card of the usual size, at most MAX_SECTORS sectors.

abbrev pub takes_image : List ℕ → Option (List ℕ) → Bool
takes_image sizes image = takes_image_within MAX_SECTORS sizes image

abbrev pub image_is_taken : CardSpec → Bool
image_is_taken spec = image_is_taken_within MAX_SECTORS spec

abbrev pub refusal_of : CardSpec → Option BuildFault
refusal_of spec = refusal_within MAX_SECTORS spec

abbrev pub IsRefusal : CardSpec → BuildFault → Type 0
IsRefusal spec why = IsRefusalWithin MAX_SECTORS spec why

-- this is the CSD in these registers
abbrev pub IsCsdOf : Registers → Csd → Type 0
IsCsdOf registers csd = csd_of (kind_of registers.kind) (csd_number_of (made_of registers)) ≡ Ok csd

-- What the types of the fields say: the registers are bytes, and have their lengths.
abbrev pub HasOwnWidths : KindRegisters → Type 0
HasOwnWidths (Sd sd) = (length sd.scr ≡ 8) × AreBytes sd.scr
HasOwnWidths (Mmc mmc) = (length mmc.ext_csd ≡ 512) × AreBytes mmc.ext_csd

pub record HasWidths (registers : Registers) : Type 0 where
  pub ocr : registers.ocr < 2 ^ 32
  pub cid : length registers.cid ≡ 16
  pub csd : length registers.csd ≡ 16
  pub cid_bytes : AreBytes registers.cid
  pub csd_bytes : AreBytes registers.csd
  pub own : HasOwnWidths registers.kind
