-- Each step counts one fault at most.
use Rattle.std.proofs.Common.{Bool, List, arith, ℕ}
use Rattle.mmc_card.specs.declared.exchange.DataIn.{DataIn}
use Rattle.mmc_card.specs.declared.exchange.DataOut.{DataOut}
use Rattle.mmc_card.specs.declared.exchange.Reply.{Reply}
use Rattle.mmc_card.specs.Faults.{MeetsBlock, MeetsCommand, NoFault, OneFault, PollStep, ReadStep, brownout, busy, fail, fail_early, faithful}
use Rattle.mmc_card.specs.Faults.{fail_switch, fall_short, find_error, flip_command, lose_block}
use Rattle.mmc_card.specs.Faults.{lose_command, lose_reply, lose_status, outlive, reject, show_errors, slow_inquiry, slow_status, spoil, turn_out}
use Rattle.mmc_card.specs.Laws.{CountsAtMost}
use Rattle.mmc_card.specs.Sectors.{Sector}
use Rattle.mmc_card.specs.BusView.{BusView}

none : (old new : BusView) → NoFault old new → CountsAtMost 1 old new
none old new count = (omega (arith, count), omega (arith, count))

one : (old new : BusView) → OneFault old new → CountsAtMost 1 old new
one old new count = (omega (arith, count), omega (arith, count))

pub command_counts : (old : BusView) (frame : List ℕ) (reply : Reply) (new : BusView) → MeetsCommand old frame reply new
    → CountsAtMost 1 old new
command_counts old frame reply new (faithful choice patient count card spells) = none old new count
command_counts old frame reply new (lose_command count card silent) = one old new count
command_counts old frame reply new (flip_command keeps_count count card silent) = one old new count
command_counts old frame reply new (lose_reply choice patient count card answers silent) = one old new count
command_counts old frame reply new (slow_inquiry choice slow late inquiry count card spells) = one old new count
command_counts old frame reply new (slow_status choice behind late status count card spells) = one old new count
command_counts old frame reply new (fail_switch choice fails switch count card spells) = one old new count
command_counts old frame reply new (find_error choice finds patient may count card spells) = one old new count
command_counts old frame reply new (outlive choice bits argument among patient resets count card silent) = one old new count
command_counts old frame reply new (show_errors choice left found among errors some cleared patient count card spells) = one old new count
command_counts old frame reply new (brownout choice lands keeps_length after patient count card silent) = one old new count

pub poll_counts : (old : BusView) (said : Bool) (new : BusView) → PollStep old said new → CountsAtMost 1 old new
poll_counts old said new (faithful choice patient count card answer) = none old new count
poll_counts old said new (busy is_busy late count card answer) = one old new count
poll_counts old said new (fail lands bits of prg switching count card answer) = one old new count
poll_counts old said new (fail_early lands bits of prg switching is_busy count card answer) = one old new count
poll_counts old said new (fall_short lands bits ignores of rcv is_busy count card answer) = one old new count
poll_counts old said new (brownout choice lands keeps_length after patient count card answer) = one old new count

pub write_counts : (old : BusView) (block : Sector) (got : DataOut) (new : BusView) → MeetsBlock old block got new
    → CountsAtMost 1 old new
write_counts old block got new (faithful count card answer) = none old new count
write_counts old block got new (lose_block accepts count card answer) = one old new count
write_counts old block got new (reject bits ignores is_busy among accepts count card answer) = one old new count
write_counts old block got new (lose_status bits is_accepted ignores is_busy among accepts count card answer) = one old new count
write_counts old block got new (fall_short lands bits ignores of accepts count card answer) = one old new count
write_counts old block got new (turn_out lands several accepts count card answer) = one old new count
write_counts old block got new (brownout lands keeps_length after count card answer) = one old new count

pub read_counts : (old : BusView) (size : ℕ) (got : DataIn) (block : Sector) (new : BusView)
    → ReadStep old size got block new → CountsAtMost 1 old new
read_counts old size got block new (faithful choice count card answer good) = none old new count
read_counts old size got block new (spoil choice bits goes_on comes among sends count card answer) = one old new count
read_counts old size got block new (brownout choice lands keeps_length after count card answer) = one old new count
