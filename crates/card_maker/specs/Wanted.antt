-- What is wanted of a card, and what a card has.
use Rattle.std.specs.Prelude.{◌≡◌, ◌<◌, ◌≤◌, ◌+◌, ◌%◌, ◌==◌, ℕ, nat_lt, if◌then◌else◌}
use Rattle.mmc_frame.specs.declared.kind.Kind.{Kind}
use Rattle.mmc_frame.specs.declared.kind.Kind.TheVariants.{Mmc, Sd}
use Rattle.mmc_frame.specs.declared.addressing.Addressing.{Addressing}
use Rattle.mmc_frame.specs.declared.addressing.Addressing.TheVariants.{Bytes, Sectors}
use Rattle.mmc_regs.specs.Scr.{four_lines, scr_number}
use Rattle.mmc_ext_csd.specs.ExtCsd.{high_speed_at_52_mhz}
use Rattle.mmc_ext_csd.specs.Partition.{addressable_sectors}
use Rattle.mmc_card.specs.Made.{Made, has_cmd23, has_high_speed, has_switch_function, is_read_only, sectors_in}
use Rattle.mmc_card.specs.declared.part.Part.TheVariants.{Boot1, Boot2, Gp1, Gp2, Gp3, Gp4}
use Rattle.mmc_card_sim.specs.Registers.{made_of}
use Rattle.mmc_card_rows.specs.declared.registers.Registers.{Registers}
use Rattle.mmc_card_sim.specs.declared.spec.CardSpec.{CardSpec}
use Rattle.card_maker.specs.Plain.{IsPlain}
use Rattle.card_maker.specs.Sizes.{HasSize, IsCardOf, IsSizeFault}
use Rattle.card_maker.specs.declared.fault.MakeFault.{MakeFault}
use Rattle.card_maker.specs.declared.fault.MakeFault.TheVariants.{BootSize, GpSize, OfMmcAlone}
use Rattle.card_maker.specs.declared.wanted.Wanted.{Wanted}

-- the features that an SD card says in its SCR and its switch status, and that it knows CMD6 where it has high speed
pub record HasSdFeatures (wanted : Wanted) (made : Made) : Type 0 where
  pub high_speed : has_high_speed made ≡ wanted.high_speed
  pub switches : has_switch_function made ≡ wanted.high_speed
  pub lines : (four_lines (scr_number made.scr) == 1) ≡ wanted.four_lines
  pub cmd23 : has_cmd23 made ≡ wanted.cmd23

-- an eMMC device has four and eight lines, and CMD23
pub record HasMmcFeatures (wanted : Wanted) (made : Made) : Type 0 where
  pub high_speed : (high_speed_at_52_mhz made.ext_csd == 1) ≡ wanted.high_speed

abbrev pub HasFeatures : Kind → Wanted → Made → Type 0
HasFeatures Sd wanted made = HasSdFeatures wanted made
HasFeatures Mmc wanted made = HasMmcFeatures wanted made

-- the partitions beside the user partition
pub record HasPartitions (wanted : Wanted) (made : Made) : Type 0 where
  pub boot1 : sectors_in made Boot1 ≡ wanted.boot
  pub boot2 : sectors_in made Boot2 ≡ wanted.boot
  pub gp1 : sectors_in made Gp1 ≡ wanted.gp
  pub gp2 : sectors_in made Gp2 ≡ 0
  pub gp3 : sectors_in made Gp3 ≡ 0
  pub gp4 : sectors_in made Gp4 ≡ 0

-- the registers are as they are wanted
pub record HasWanted (wanted : Wanted) (registers : Registers) : Type 0 where
  pub card : IsCardOf wanted.kind wanted.sectors registers
  pub features : HasFeatures wanted.kind wanted (made_of registers)
  pub partitions : HasPartitions wanted (made_of registers)
  pub protection : is_read_only (made_of registers) ≡ wanted.read_only

-- the card is as it is wanted, and does nothing but what its registers say
pub record IsAsWanted (wanted : Wanted) (spec : CardSpec) : Type 0 where
  pub registers : HasWanted wanted spec.registers
  pub sectors : spec.sectors ≡ wanted.sectors
  pub plain : IsPlain spec

-- the addresses of a card with such a user partition
abbrev pub addressing_by : ℕ → Addressing
addressing_by sectors = if nat_lt 4194304 sectors then Sectors else Bytes

abbrev pub IsBootSize : ℕ → Type 0
IsBootSize n = (n % 256 ≡ 0) × (n ≤ 65280)

-- a general purpose partition exists where its last address fits a command
abbrev pub IsGpSize : ℕ → ℕ → Type 0
IsGpSize most n = (n % 1024 ≡ 0) × (n ≤ most)

-- an SD card has no other partition
pub record IsSdBeside (wanted : Wanted) : Type 0 where
  pub kind : wanted.kind ≡ Sd
  pub boot : wanted.boot ≡ 0
  pub gp : wanted.gp ≡ 0

-- the other partitions of an eMMC device have such sizes
pub record IsMmcBeside (most : ℕ) (wanted : Wanted) : Type 0 where
  pub kind : wanted.kind ≡ Mmc
  pub boot : IsBootSize wanted.boot
  pub gp : IsGpSize most wanted.gp

abbrev pub TakesPartitions : Kind → Wanted → Type 0
TakesPartitions Sd wanted = IsSdBeside wanted
TakesPartitions Mmc wanted = IsMmcBeside (addressable_sectors (addressing_by wanted.sectors)) wanted

-- why no card is as it is wanted
abbrev pub IsMakeFault : Wanted → MakeFault → Type 0
IsMakeFault wanted OfMmcAlone = (wanted.kind ≡ Sd) × (0 < wanted.boot + wanted.gp)
IsMakeFault wanted BootSize = (wanted.kind ≡ Mmc) × ¬ IsBootSize wanted.boot
IsMakeFault wanted (GpSize most) =
    (wanted.kind ≡ Mmc) × ¬ IsGpSize most wanted.gp × (most ≡ addressable_sectors (addressing_by wanted.sectors))
IsMakeFault wanted fault = IsSizeFault (HasSize wanted.kind) wanted.sectors fault
