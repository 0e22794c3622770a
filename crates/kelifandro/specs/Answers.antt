-- The numbers that C knows of answers (`enum kelifandro_result`).
use Rattle.std.specs.Prelude.{◌&&◌, Bool, Err, Ok, Result, false, nat_lt, negsuc, pos, suc, zero, ℕ, ℤ}
use Rattle.mmc_bus.specs.declared.cause.Cause.{Cause}
use Rattle.mmc_bus.specs.declared.cause.Cause.TheVariants.{Answer, Busy, Data, Recovery, Status}
use Rattle.mmc_direct.specs.declared.refused.NotDone.{NotDone}
use Rattle.mmc_direct.specs.declared.refused.NotDone.TheVariants.{Failed, Refused as RefusedFor}
use Rattle.mmc_requests.specs.declared.refused.Refused.{Refused}
use Rattle.mmc_requests.specs.declared.refused.Refused.TheVariants.{Empty, NoSuchPartition, NoTrim, NotInPartition}
use Rattle.mmc_requests.specs.declared.refused.Refused.TheVariants.{OutOfRange, ReadOnly, TooLong, Unaligned}
use Rattle.mmc_identify.specs.declared.fault.IdentFault.{IdentFault}
use Rattle.mmc_identify.specs.declared.fault.IdentFault.TheVariants.{Locked, Mismatch, NoAnswer, Register as IdentRegister, Voltage}
use Rattle.mmc_slots.specs.declared.acceptance.NotAccepted.{NotAccepted}
use Rattle.mmc_slots.specs.declared.acceptance.NotAccepted.TheVariants as Not
use Rattle.mmc_slots.specs.declared.cancellation.CancelFault.{CancelFault}
use Rattle.mmc_slots.specs.declared.cancellation.CancelFault.TheVariants as fault
use Rattle.mmc_slots.specs.declared.slot.Slot.{Slot}
use Rattle.mmc_sdhci.specs.declared.start.StartFault.{StartFault}
use Rattle.mmc_sdhci.specs.declared.start.StartFault.TheVariants.{NoBaseClock, NoCard, NoVoltage}
use Rattle.mmc_switch.specs.declared.fault.SwitchFault.TheVariants.{Exchange, Register}
use Rattle.mmc_switch.specs.declared.initialization.InitializationFault.{InitializationFault}
use Rattle.mmc_switch.specs.declared.initialization.InitializationFault.TheVariants.{Identification, Widening}

abbrev pub minus : ℕ → ℤ
minus zero = pos 0
minus (suc n) = negsuc n

abbrev pub refused_number : Refused → ℤ
refused_number NoSuchPartition = minus 2
refused_number OutOfRange = minus 3
refused_number Empty = minus 4
refused_number TooLong = minus 4
refused_number ReadOnly = minus 5
refused_number NotInPartition = minus 6
refused_number NoTrim = minus 6
refused_number Unaligned = minus 6

abbrev pub cause_number : Cause → ℤ
cause_number Answer = minus 10
cause_number Data = minus 11
cause_number Status = minus 12
cause_number Busy = minus 13
cause_number Recovery = minus 14

abbrev pub answer_number : Result Unit NotDone → ℤ
answer_number (Ok done) = pos 0
answer_number (Err (RefusedFor why)) = refused_number why
answer_number (Err (Failed cause)) = cause_number cause

abbrev pub submitted_number : Result Unit NotAccepted → ℤ
submitted_number (Ok done) = pos 1
submitted_number (Err (Not.Refused why)) = refused_number why
submitted_number (Err Not.Full) = minus 8

abbrev pub cancelled_number : Result Slot CancelFault → ℤ
cancelled_number (Ok slot) = pos 0
cancelled_number (Err fault.Unknown) = minus 30
cancelled_number (Err fault.InService) = minus 31

abbrev pub unidentified_number : IdentFault → ℤ
unidentified_number NoAnswer = minus 20
unidentified_number IdentRegister = minus 21
unidentified_number Mismatch = minus 21
unidentified_number Voltage = minus 25
unidentified_number Locked = minus 26

abbrev pub unopened_number : InitializationFault → ℤ
unopened_number (Identification fault) = unidentified_number fault
unopened_number (Widening Exchange) = minus 20
unopened_number (Widening Register) = minus 21

abbrev pub start_number : StartFault → ℤ
start_number NoVoltage = minus 22
start_number NoBaseClock = minus 23
start_number NoCard = minus 24

-- the number of why a controller isn't ready
abbrev pub is_unready : ℤ → Bool
is_unready (pos n) = false
is_unready (negsuc n) = nat_lt 20 n && nat_lt n 24
