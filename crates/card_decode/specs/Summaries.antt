-- What follows from a register as a whole.
use Rattle.std.specs.Prelude.{ℕ, ◌+◌, ◌*◌, ◌==◌, ◌&&◌, List, [], ◌∷◌, ◌++◌, codes, replicate, take, slice_index, false, if◌then◌else◌}
use Rattle.std.specs.Prelude.{Result, Ok, Err}
use Rattle.std.specs.Fmt.{decimal}
use Rattle.text_out.specs.Hex.{hex_text}
use Rattle.mmc_frame.specs.Check.{remainder, bits_of}
use Rattle.mmc_frame.specs.RegisterFrame.{with_check}
use Rattle.mmc_frame.specs.declared.kind.Kind.{Kind}
use Rattle.mmc_frame.specs.Field.{field}
use Rattle.mmc_regs.specs.Scr.{sd_spec}
use Rattle.mmc_regs.specs.Csd.{csd_in, erase_unit_of, sectors_of}
use Rattle.mmc_regs.specs.declared.csd.Csd.{Csd}
use Rattle.mmc_regs.specs.declared.csd.Csd.TheVariants.{V1, V2, Mmc}
use Rattle.mmc_regs.specs.declared.fault.RegFault.{RegFault}
use Rattle.mmc_ext_csd.specs.ExtCsd.{boot_sectors, erase_unit, gp_sectors, sec_count}
use Rattle.std.specs.Prelude.{Option}
use Rattle.std.specs.declared.io.Error.{Error}
use Rattle.text_out.specs.Writing.{Writes}
use Rattle.card_decode.specs.Capacities.{capacity_text}
use Rattle.card_decode.specs.Registers.{number_of}
use Rattle.card_decode.specs.Tables.{IsTable}
use Rattle.card_decode.specs.Words.{fields_text}
use Rattle.card_decode.specs.declared.field.Field.{Field}
use Rattle.card_decode.specs.declared.register.Register.{Register}
use Rattle.card_decode.specs.declared.register.Register.TheVariants as Of

-- the last byte that fits the fifteen others: the CRC7 of bits 127 to 8, and a 1
unfoldable pub fitting_check : List ℕ → ℕ
fitting_check bytes = 2 * remainder (bits_of (take 15 bytes) ++ replicate 7 false) + 1

unfoldable pub fit_text : List ℕ → List ℕ
fit_text given = codes "check: " ++ (hex_text given ++ codes ", which fits\n")

unfoldable pub misfit_text : List ℕ → List ℕ → List ℕ
misfit_text given fitting =
    codes "check: " ++ (hex_text given ++ (codes ", but " ++ (hex_text fitting ++ codes " fits\n")))

-- whether the last byte fits the others; 0 is no check
unfoldable pub check_text : List ℕ → List ℕ
check_text bytes =
    if slice_index bytes 15 == 0 then codes "check: not given\n"
    else (if slice_index bytes 15 == fitting_check bytes
    then fit_text (slice_index bytes 15 ∷ [])
    else misfit_text (slice_index bytes 15 ∷ []) (fitting_check bytes ∷ []))

abbrev pub erase_unit_text : ℕ → List ℕ
erase_unit_text sectors = codes "erase unit: " ++ (decimal sectors ++ codes " sectors\n")

abbrev pub card_size_text : ℕ → ℕ → List ℕ
card_size_text sectors unit = capacity_text sectors ++ erase_unit_text unit

-- the size of a card, and of an SD card its erase unit
unfoldable pub size_text : Csd → List ℕ
size_text (V1 csd) = card_size_text (sectors_of (V1 csd)) (erase_unit_of (V1 csd))
size_text (V2 csd) = card_size_text (sectors_of (V2 csd)) (erase_unit_of (V2 csd))
size_text (Mmc csd) = capacity_text (sectors_of (Mmc csd))

unfoldable pub size_if : Result Csd RegFault → List ℕ
size_if (Ok csd) = size_text csd
size_if (Err fault) = codes "capacity: not known\n"

-- what a CSD says of the card's size, whatever its check
abbrev pub csd_text : Kind → List ℕ → List ℕ
csd_text kind bytes = size_if (csd_in kind (with_check (take 15 bytes)))

-- the sizes of the other partitions in an EXT_CSD, and the erase unit
unfoldable pub partitions_text : List ℕ → List ℕ
partitions_text block =
    codes "boot partitions 1 and 2: " ++ (decimal (boot_sectors block)
    ++ (codes " sectors each\ngeneral purpose partition 1: " ++ (decimal (gp_sectors 1 block)
    ++ (codes " sectors\ngeneral purpose partition 2: " ++ (decimal (gp_sectors 2 block)
    ++ (codes " sectors\ngeneral purpose partition 3: " ++ (decimal (gp_sectors 3 block)
    ++ (codes " sectors\ngeneral purpose partition 4: " ++ (decimal (gp_sectors 4 block)
    ++ (codes " sectors\nerase unit: " ++ (decimal (erase_unit block) ++ codes " sectors\n")))))))))))

-- the sizes in an EXT_CSD
abbrev pub ext_csd_text : List ℕ → List ℕ
ext_csd_text block = capacity_text (sec_count block) ++ partitions_text block

-- the version of the SD Physical Layer Specification by SD_SPEC, SD_SPEC3, SD_SPEC4 and SD_SPECX
abbrev pub version_name : ℕ → ℕ → ℕ → ℕ → List ℕ
version_name spec spec3 spec4 specx =
    if spec == 0 then codes "1.0 or 1.01"
    else (if spec == 1 then codes "1.10"
    else (if (spec == 2) && (spec3 == 0) then codes "2.00"
    else (if (spec == 2) && (specx == 0) && (spec4 == 0) then codes "3.0x"
    else (if (spec == 2) && (specx == 0) then codes "4.xx"
    else (if (spec == 2) && (specx == 1) then codes "5.xx"
    else (if (spec == 2) && (specx == 2) then codes "6.xx"
    else (if (spec == 2) && (specx == 3) then codes "7.xx"
    else (if (spec == 2) && (specx == 4) then codes "8.xx" else codes "not known"))))))))

unfoldable pub version_text : ℕ → ℕ → ℕ → ℕ → List ℕ
version_text spec spec3 spec4 specx = codes "version: " ++ (version_name spec spec3 spec4 specx ++ codes "\n")

-- the version that an SCR with this number tells
abbrev pub scr_text : ℕ → List ℕ
scr_text number = version_text (sd_spec number) (field 47 47 number) (field 42 42 number) (field 41 38 number)

-- what follows from a register
unfoldable pub summary_text : Register → List ℕ → List ℕ
summary_text (Of.Csd kind) bytes = csd_text kind bytes ++ check_text bytes
summary_text (Of.Cid kind) bytes = check_text bytes
summary_text Of.ExtCsd bytes = ext_csd_text bytes
summary_text Of.Scr bytes = scr_text (number_of Of.Scr bytes)
summary_text _ bytes = []

-- The lines of a register's fields went out, all of them or after a fault a prefix, and the fields are the register's.
pub record PutsFields (register : Register) (bytes : List ℕ) (old new : Option (List ℕ)) (result : Result Unit Error) : Type 0 where
  pub fields : List Field
  pub table : IsTable register (number_of register bytes) fields
  pub written : Writes old new result (fields_text register (number_of register bytes) fields)

-- the same, with what follows from the register after them
pub record PutsRegister (register : Register) (bytes : List ℕ) (old new : Option (List ℕ)) (result : Result Unit Error) : Type 0 where
  pub fields : List Field
  pub table : IsTable register (number_of register bytes) fields
  pub written : Writes old new result
      (fields_text register (number_of register bytes) fields ++ summary_text register bytes)
