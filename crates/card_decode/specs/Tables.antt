-- What the tables of fields have in common with the definitions that the stack reads registers by.
use Rattle.std.specs.Prelude.{◌≡◌, ℕ, ◌*◌, ◌/◌, ◌&&◌, nat_lt, Bool, true, List, [], ◌∷◌, Option, None, Some, codes}
use Rattle.std.specs.List.{list_all}
use Rattle.mmc_frame.specs.declared.kind.Kind.TheVariants.{Sd, Mmc as MmcDevice}
use Rattle.mmc_regs.specs.CsdFields.{csd_structure, ccc, read_bl_len, c_size, c_size_mult, erase_blk_en, sector_size}
use Rattle.mmc_regs.specs.CsdFields.{write_bl_len, perm_write_protect, tmp_write_protect, c_size_v2}
use Rattle.mmc_regs.specs.Cid.{manufacturer}
use Rattle.mmc_regs.specs.Ocr.{access_mode, card_capacity_status, power_up_status}
use Rattle.mmc_regs.specs.Scr.{data_stat_after_erase, sd_spec}
use Rattle.card_decode.specs.Registers.{register_len}
use Rattle.card_decode.specs.Fields.{all_fit, named, spans, unit_of, value_of}
use Rattle.card_decode.specs.declared.register.Register.{Register}
use Rattle.card_decode.specs.declared.register.Register.TheVariants.{Ocr, Cid, Csd, Scr, ExtCsd, CardStatus, SwitchStatus}
use Rattle.card_decode.specs.declared.field.Field.{Field}
use Rattle.card_decode.specs.declared.field.Meaning.{Meaning}
use Rattle.card_decode.specs.declared.field.Meaning.TheVariants.{Listed}
use Rattle.card_decode.specs.declared.field.Name.{Name}

-- every bit of the register stands in one field
abbrev pub covers_all : Register → List Field → Bool
covers_all register fields = spans (8 * register_len register / unit_of register) 0 fields

abbrev pub value_if : Register → ℕ → Option Field → Option ℕ
value_if register number None = None
value_if register number (Some f) = Some (value_of register number f)

-- the field of this name is read so
abbrev pub Reads : Register → List Field → List ℕ → (ℕ → ℕ) → Type 0
Reads register fields name value = (number : ℕ) → value_if register number (named name fields) ≡ Some (value number)

-- the fields of a CSD that all versions have
pub record IsCsd (register : Register) (fields : List Field) : Type 0 where
  pub structure_field : Reads register fields (codes "CSD_STRUCTURE") csd_structure
  pub classes : Reads register fields (codes "CCC") ccc
  pub permanent : Reads register fields (codes "PERM_WRITE_PROTECT") perm_write_protect
  pub temporary : Reads register fields (codes "TMP_WRITE_PROTECT") tmp_write_protect

-- the fields of version 1.0
pub record IsCsdV1 (fields : List Field) : Type 0 where
  pub common : IsCsd (Csd Sd) fields
  pub read_length : Reads (Csd Sd) fields (codes "READ_BL_LEN") read_bl_len
  pub size : Reads (Csd Sd) fields (codes "C_SIZE") c_size
  pub multiplier : Reads (Csd Sd) fields (codes "C_SIZE_MULT") c_size_mult
  pub single : Reads (Csd Sd) fields (codes "ERASE_BLK_EN") erase_blk_en
  pub sector : Reads (Csd Sd) fields (codes "SECTOR_SIZE") sector_size
  pub write_length : Reads (Csd Sd) fields (codes "WRITE_BL_LEN") write_bl_len

-- the fields of version 2.0
pub record IsCsdV2 (fields : List Field) : Type 0 where
  pub common : IsCsd (Csd Sd) fields
  pub size : Reads (Csd Sd) fields (codes "C_SIZE") c_size_v2

-- the fields of an eMMC device's CSD
pub record IsCsdMmc (fields : List Field) : Type 0 where
  pub common : IsCsd (Csd MmcDevice) fields
  pub read_length : Reads (Csd MmcDevice) fields (codes "READ_BL_LEN") read_bl_len
  pub size : Reads (Csd MmcDevice) fields (codes "C_SIZE") c_size
  pub multiplier : Reads (Csd MmcDevice) fields (codes "C_SIZE_MULT") c_size_mult

-- the values of names ascend, so that each has one name
abbrev pub ascend : List Name → Bool
ascend [] = true
ascend (name ∷ names) = list_all (λ other. nat_lt name.value other.value) names && ascend names

abbrev pub lists_once : Meaning → Bool
lists_once (Listed names) = ascend names.now
lists_once _ = true

-- each number that a field lists stands once
abbrev pub all_list_once : List Field → Bool
all_list_once fields = list_all (λ f. lists_once f.meaning) fields

-- the fields of a CID
pub record IsCid (register : Register) (fields : List Field) : Type 0 where
  pub maker : Reads register fields (codes "MID") manufacturer
  pub once : all_list_once fields ≡ true

-- the fields of an SD card's OCR
pub record IsOcrSd (fields : List Field) : Type 0 where
  pub power : Reads (Ocr Sd) fields (codes "busy") power_up_status
  pub capacity : Reads (Ocr Sd) fields (codes "CCS") card_capacity_status

-- the fields of an eMMC device's OCR
pub record IsOcrMmc (fields : List Field) : Type 0 where
  pub power : Reads (Ocr MmcDevice) fields (codes "busy") power_up_status
  pub mode : Reads (Ocr MmcDevice) fields (codes "access mode") access_mode

-- the fields of an SCR
pub record IsScr (fields : List Field) : Type 0 where
  pub specification : Reads Scr fields (codes "SD_SPEC") sd_spec
  pub erased : Reads Scr fields (codes "DATA_STAT_AFTER_ERASE") data_stat_after_erase

-- the fields of an SD card's CSD by its version, 0 and 1 for 1.0 and 2.0
pub record IsSdCsdTable (number : ℕ) (fields : List Field) : Type 0 where
  pub common : IsCsd (Csd Sd) fields
  pub first : csd_structure number ≡ 0 → IsCsdV1 fields
  pub second : csd_structure number ≡ 1 → IsCsdV2 fields

-- the fields that the stack reads stand where it reads them
abbrev pub ReadsLikeStack : Register → ℕ → List Field → Type 0
ReadsLikeStack (Ocr Sd) number fields = IsOcrSd fields
ReadsLikeStack (Ocr MmcDevice) number fields = IsOcrMmc fields
ReadsLikeStack (Cid kind) number fields = IsCid (Cid kind) fields
ReadsLikeStack (Csd Sd) number fields = IsSdCsdTable number fields
ReadsLikeStack (Csd MmcDevice) number fields = IsCsdMmc fields
ReadsLikeStack Scr number fields = IsScr fields
ReadsLikeStack ExtCsd number fields = Unit {0}
ReadsLikeStack (CardStatus kind) number fields = Unit {0}
ReadsLikeStack SwitchStatus number fields = Unit {0}

-- The fields of a register with this number: each of its bits stands in one field, each value can be said, and what the
-- stack reads stands where it reads it.
pub record IsTable (register : Register) (number : ℕ) (fields : List Field) : Type 0 where
  pub whole : covers_all register fields ≡ true
  pub fitting : all_fit register fields ≡ true
  pub same : ReadsLikeStack register number fields
