-- Planned faults, as card files write them.
use Rattle.std.specs.Prelude.{ℕ, List, [], ◌++◌, codes, Option, None, Some}
use Rattle.std.specs.Fmt.{decimal}
use Rattle.std.specs.Int.{to_be_bytes, w32}
use Rattle.text_out.specs.Hex.{hex_text}
use Rattle.mmc_card_rows.specs.declared.fault.CommandError.{CommandError}
use Rattle.mmc_card_rows.specs.declared.fault.CommandError.TheVariants.{ComCrc, Illegal}
use Rattle.mmc_card_sim.specs.declared.fault.Fault.{Fault}
use Rattle.mmc_card_sim.specs.declared.fault.Fault.TheVariants.{BadBlock, Brownout, Busy, Fail, FailWith, FlipCommand}
use Rattle.mmc_card_sim.specs.declared.fault.Fault.TheVariants.{FailSwitch, FailSwitchLate, FlipReply, LeaveOver}
use Rattle.mmc_card_sim.specs.declared.fault.Fault.TheVariants.{LoseCommand, LoseReply, LoseStatus, NoBlock, ReadError}
use Rattle.mmc_card_sim.specs.declared.fault.Fault.TheVariants.{FailEarly, FailUnseen, FindError, FindProtection, LoseBlock, LoseFailedSwitch}
use Rattle.mmc_card_sim.specs.declared.fault.Fault.TheVariants.{Reject, RejectAll, RejectBusy, ShowError}
use Rattle.mmc_card_sim.specs.declared.fault.Flips.{Flips}
use Rattle.mmc_card_rows.specs.declared.fault.Outcome.{Outcome}
use Rattle.mmc_card_rows.specs.declared.fault.Outcome.TheVariants.{New, Old}

-- the first word
abbrev pub name_of : Fault → List ℕ
name_of LoseCommand = codes "lose-command"
name_of (FlipCommand flips) = codes "flip-command"
name_of LoseReply = codes "lose-reply"
name_of (FlipReply flips) = codes "flip-reply"
name_of FailSwitch = codes "fail-switch"
name_of FailSwitchLate = codes "fail-switch-late"
name_of LoseFailedSwitch = codes "lose-failed-switch"
name_of FindProtection = codes "find-protection"
name_of (LeaveOver error) = codes "left-over"
name_of (ShowError bits) = codes "show-error"
name_of (FindError bits) = codes "find-error"
name_of BadBlock = codes "bad-block"
name_of NoBlock = codes "no-block"
name_of ReadError = codes "read-error"
name_of LoseBlock = codes "lose-block"
name_of Reject = codes "reject"
name_of RejectBusy = codes "reject-busy"
name_of RejectAll = codes "reject-all"
name_of (LoseStatus outcome) = codes "lose-status"
name_of (Fail outcome) = codes "fail"
name_of (FailWith outcome bits) = codes "fail"
name_of (FailEarly outcome bits) = codes "fail-early"
name_of (FailUnseen outcome bits) = codes "fail-unseen"
name_of Busy = codes "busy"
name_of (Brownout outcome) = codes "brownout"

abbrev pub outcome_name : Outcome → List ℕ
outcome_name Old = codes " old"
outcome_name New = codes " new"

abbrev pub error_name : CommandError → List ℕ
error_name ComCrc = codes " crc"
error_name Illegal = codes " illegal"

-- a position after a space, where there is one
abbrev pub position_text : Option ℕ → List ℕ
position_text None = []
position_text (Some position) = codes " " ++ decimal position

-- one position or two
abbrev pub flips_text : Flips → List ℕ
flips_text flips = codes " " ++ (decimal flips.first ++ position_text flips.second)

-- what stands after the first word
abbrev pub details_text : Fault → List ℕ
details_text (FlipCommand flips) = flips_text flips
details_text (FlipReply flips) = flips_text flips
details_text (LeaveOver error) = error_name error
details_text (ShowError bits) = codes " " ++ hex_text (to_be_bytes w32 bits)
details_text (FindError bits) = codes " " ++ hex_text (to_be_bytes w32 bits)
details_text (LoseStatus outcome) = outcome_name outcome
details_text (Fail outcome) = outcome_name outcome
details_text (FailWith outcome bits) = outcome_name outcome ++ (codes " " ++ hex_text (to_be_bytes w32 bits))
details_text (FailEarly outcome bits) = outcome_name outcome ++ (codes " " ++ hex_text (to_be_bytes w32 bits))
details_text (FailUnseen outcome bits) = outcome_name outcome ++ (codes " " ++ hex_text (to_be_bytes w32 bits))
details_text (Brownout outcome) = outcome_name outcome
details_text fault = []

unfoldable pub fault_text : Fault → List ℕ
fault_text fault = name_of fault ++ details_text fault
