-- What the host makes of what it heard.
use Rattle.std.specs.Prelude.{◌%◌, ◌&&◌, ◌/◌, ◌==◌, Bool, Err, List, None, Ok, Option, Result, Some, false}
use Rattle.std.specs.Prelude.{if◌then◌else◌, not, true, ℕ}
use Rattle.mmc_frame.specs.Field.{field}
use Rattle.mmc_frame.specs.declared.addressing.Addressing.{Addressing}
use Rattle.mmc_frame.specs.declared.addressing.Addressing.TheVariants.{Bytes, Sectors}
use Rattle.mmc_frame.specs.declared.kind.Kind.{Kind}
use Rattle.mmc_frame.specs.declared.kind.Kind.TheVariants as Is
use Rattle.mmc_regs.specs.Csd.{csd_in, has_block_length}
use Rattle.mmc_regs.specs.CsdFields.{read_bl_len}
use Rattle.mmc_regs.specs.Ocr.{access_mode, card_capacity_status, power_up_status, window_at_3_3_volts}
use Rattle.mmc_regs.specs.Register.{checked_number}
use Rattle.mmc_regs.specs.declared.csd.Csd.{Csd}
use Rattle.mmc_regs.specs.declared.csd.Csd.TheVariants.{Mmc, V1, V2}
use Rattle.mmc_regs.specs.declared.fault.RegFault.{RegFault}
use Rattle.mmc_bus.specs.declared.host.Unheard.{Unheard}
use Rattle.mmc_bus.specs.declared.host.Unheard.TheVariants.{Nothing, Unsound}
use Rattle.mmc_identify.specs.declared.fault.IdentFault.{IdentFault}
use Rattle.mmc_identify.specs.declared.fault.IdentFault.TheVariants.{Locked, Mismatch, NoAnswer, Register, Voltage}
use Rattle.mmc_identify.specs.declared.found.Found.{Found}

-- CMD8: whether the card repeats voltage 1 and pattern AAh
abbrev pub echoed : Result ℕ Unheard → Result Bool IdentFault
echoed (Ok told) = if field 11 0 told == 0x1aa then Ok true else Err Voltage
echoed (Err Nothing) = Ok false
echoed (Err Unsound) = Err NoAnswer

-- CMD55: whether it is answered
abbrev pub answered : Result ℕ Unheard → Result Bool IdentFault
answered (Ok told) = Ok true
answered (Err Nothing) = Ok false
answered (Err Unsound) = Err NoAnswer

-- an inquiry: the OCR of a card that is ready, or none, where its window may be empty
abbrev pub inquired : Result ℕ Unheard → Result (Option ℕ) IdentFault
inquired (Ok ocr) =
    if not (power_up_status ocr == 1) && (field 23 0 ocr == 0) then Ok None
    else if window_at_3_3_volts ocr == 3 then (if power_up_status ocr == 1 then Ok (Some ocr) else Ok None)
    else Err Voltage
inquired (Err unheard) = Err NoAnswer

-- the argument of ACMD41, with HCS or not
abbrev pub window : Bool → ℕ
window hcs = if hcs then 0x40300000 else 0x00300000

-- CMD2 and CMD9
abbrev pub told_register : Result (List ℕ) Unheard → Result (List ℕ) IdentFault
told_register (Ok bytes) = Ok bytes
told_register (Err unheard) = Err NoAnswer

-- CMD3 of SD: the RCA that is published
abbrev pub published : Result ℕ Unheard → Result ℕ IdentFault
published (Ok told) = if field 31 16 told == 0 then Err Register else Ok (field 31 16 told)
published (Err unheard) = Err NoAnswer

-- CMD3 of eMMC: the RCA 1 was taken
abbrev pub assigned : Result ℕ Unheard → Result ℕ IdentFault
assigned (Ok told) = Ok 1
assigned (Err unheard) = Err NoAnswer

-- CMD7
abbrev pub selected : Result ℕ Unheard → Result Unit IdentFault
selected (Ok status) = if status / 0x2000000 % 2 == 1 then Err Locked else Ok tt
selected (Err unheard) = Err NoAnswer

-- The registers of a card in tran.

-- CCS and the CSD version go together
abbrev pub sd_addressing : ℕ → Csd → Result Addressing IdentFault
sd_addressing ocr (V1 csd) = if card_capacity_status ocr == 1 then Err Mismatch else Ok Bytes
sd_addressing ocr (V2 csd) = if card_capacity_status ocr == 1 then Ok Sectors else Err Mismatch
sd_addressing ocr (Mmc csd) = Err Mismatch

abbrev pub has_block_length_in : Csd → Bool
has_block_length_in (Mmc csd) = has_block_length (read_bl_len csd)
has_block_length_in _ = false

-- modes 1 and 3 are reserved
abbrev pub mmc_addressing : ℕ → Csd → Result Addressing IdentFault
mmc_addressing ocr csd =
    if access_mode ocr == 0 then (if has_block_length_in csd then Ok Bytes else Err Register)
    else if access_mode ocr == 2 then Ok Sectors else Err Mismatch

abbrev pub addressing : Kind → ℕ → Csd → Result Addressing IdentFault
addressing Is.Sd ocr csd = sd_addressing ocr csd
addressing Is.Mmc ocr csd = mmc_addressing ocr csd

abbrev pub found_with : Kind → ℕ → ℕ → Csd → Result Addressing IdentFault → Result Found IdentFault
found_with kind rca cid csd (Ok addressing) =
    Ok (record { kind = kind; addressing = addressing; rca = rca; cid = cid; csd = csd })
found_with kind rca cid csd (Err fault) = Err fault

abbrev pub found_by : Kind → ℕ → ℕ → Result ℕ RegFault → Result Csd RegFault → Result Found IdentFault
found_by kind ocr rca (Ok cid) (Ok csd) = found_with kind rca cid csd (addressing kind ocr csd)
found_by kind ocr rca _ _ = Err Register

-- what the registers tell, where their readers take them and the addressing is one
abbrev pub found : Kind → ℕ → ℕ → List ℕ → List ℕ → Result Found IdentFault
found kind ocr rca cid csd = found_by kind ocr rca (checked_number cid) (csd_in kind csd)
