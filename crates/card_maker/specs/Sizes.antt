-- Which sizes cards have.
use Rattle.std.specs.Prelude.{◌≡◌, ◌+◌, ◌-◌, ◌<◌, ◌≤◌, ◌⊎◌, ◌^◌, ◌*◌, ◌%◌, ℕ, nat_lt, true}
use Rattle.mmc_frame.specs.declared.kind.Kind.{Kind}
use Rattle.mmc_frame.specs.declared.kind.Kind.TheVariants.{Mmc, Sd}
use Rattle.mmc_card.specs.Made.{has_sector_addresses, user_sectors}
use Rattle.mmc_card.specs.Profile.{InProfile}
use Rattle.mmc_card_sim.specs.CardSpec.{HasWidths, each_register_is_taken}
use Rattle.mmc_card_sim.specs.Registers.{kind_of, made_of}
use Rattle.mmc_card_rows.specs.declared.registers.Registers.{Registers}
use Rattle.card_maker.specs.declared.fault.MakeFault.{MakeFault}
use Rattle.card_maker.specs.declared.fault.MakeFault.TheVariants.{NotASize, TooLarge, TooSmall}

-- These are the registers of a card of this kind whose user partition has so many sectors. The stack serves it, and its
-- commands name bytes where it has at most 2 GiB, and sectors where it has more (SD Physical Layer 6.00, section 4.3.14;
-- JESD84-B51, section 7.1).
pub record IsCardOf (kind : Kind) (sectors : ℕ) (registers : Registers) : Type 0 where
  pub kind_is : kind_of registers.kind ≡ kind
  pub widths : HasWidths registers
  pub taken : each_register_is_taken registers ≡ true
  pub in_profile : InProfile (made_of registers)
  pub addresses : has_sector_addresses (made_of registers) ≡ nat_lt 4194304 sectors
  pub size : user_sectors (made_of registers) ≡ sectors

-- some card of this kind has this size
abbrev pub HasSize : Kind → ℕ → Type 0
HasSize kind sectors = (registers : Registers) × IsCardOf kind sectors registers

-- of the sizes of cards, none is smaller
pub record IsLeast (IsSize : ℕ → Type 0) (least : ℕ) : Type 0 where
  pub size : IsSize least
  pub bound : (n : ℕ) → IsSize n → least ≤ n

-- of the sizes of cards, none is larger
pub record IsMost (IsSize : ℕ → Type 0) (most : ℕ) : Type 0 where
  pub size : IsSize most
  pub bound : (n : ℕ) → IsSize n → n ≤ most

-- two sizes of cards, and none between them
pub record AreNext (IsSize : ℕ → Type 0) (below above : ℕ) : Type 0 where
  pub lower : IsSize below
  pub upper : IsSize above
  pub apart : (n : ℕ) → IsSize n → (n ≤ below) ⊎ (above ≤ n)

-- n isn't a size, and the fault names it and those next to it
abbrev pub IsSizeFault : (ℕ → Type 0) → ℕ → MakeFault → Type 0
IsSizeFault IsSize n (TooSmall sectors least) = IsLeast IsSize least × (n < least) × (sectors ≡ n)
IsSizeFault IsSize n (TooLarge sectors most) = IsMost IsSize most × (most < n) × (sectors ≡ n)
IsSizeFault IsSize n (NotASize sectors below above) =
    AreNext IsSize below above × (below < n) × (n < above) × (sectors ≡ n)
IsSizeFault IsSize n fault = ⊥

-- What registers can say, in numbers. With byte addresses: C_SIZE + 1 times 2^(C_SIZE_MULT + 2) blocks of 512 to 2,048
-- bytes.
pub record IsByteCount (n : ℕ) : Type 0 where
  pub exponent : ℕ
  pub count : ℕ
  pub least : 2 ≤ exponent
  pub most : exponent ≤ 10
  pub some : 1 ≤ count
  pub few : count ≤ 4096
  pub whole : n ≡ count * 2 ^ exponent

-- with sector addresses: units of 1,024 sectors of an SD card, or a number of 32 bits of an eMMC device
abbrev pub IsSectorCount : Kind → ℕ → Type 0
IsSectorCount Sd n = (4194304 < n) × (n % 1024 ≡ 0) × (n ≤ 2 ^ 32)
IsSectorCount Mmc n = (4194304 < n) × (n < 2 ^ 32)

abbrev pub IsCount : Kind → ℕ → Type 0
IsCount kind n = IsByteCount n ⊎ IsSectorCount kind n

-- The fields of a CSD say a size: C_SIZE + 1 times 2^(C_SIZE_MULT + 2) blocks of 2^READ_BL_LEN bytes.
pub record SaysCount (read_bl_len c_size c_size_mult sectors : ℕ) : Type 0 where
  pub least_block : 9 ≤ read_bl_len
  pub most_block : read_bl_len ≤ 11
  pub fits : c_size < 4096
  pub mult_fits : c_size_mult < 8
  pub whole : (c_size + 1) * 2 ^ (c_size_mult + 2) * 2 ^ read_bl_len ≡ 512 * sectors

-- the fault names the multiples of a unit next to n, which is none
abbrev pub NamesMultiples : ℕ → ℕ → MakeFault → Type 0
NamesMultiples n unit (NotASize sectors below above) =
    (0 < n % unit) × (below ≡ n - n % unit) × (above ≡ n - n % unit + unit) × (sectors ≡ n)
NamesMultiples n unit fault = ⊥
