-- A step of a card is seen so whatever a view says of faults that may still fall.
use Rattle.std.proofs.Common.{Bool, List, ap, ℕ}
use Rattle.std.specs.Prelude.{Option}
use Rattle.mmc_card.specs.declared.exchange.DataIn.{DataIn}
use Rattle.mmc_card.specs.declared.exchange.DataOut.{DataOut}
use Rattle.mmc_card.specs.declared.exchange.Reply.{Reply}
use Rattle.mmc_card.specs.Faults.{CommandStep, MeetsBlock, MeetsCommand, Passes, PollStep, ReadStep, WriteStep}
use Rattle.mmc_card.specs.Faults.{at_once, brownout, busy, fail, fail_early, faithful}
use Rattle.mmc_card.specs.Faults.{has_failed, has_fallen_short, has_rested, has_run}
use Rattle.mmc_card.specs.Faults.{fail_switch, fall_short, find_error, flip_command, lose_block, show_errors}
use Rattle.mmc_card.specs.Faults.{lose_command, lose_reply, lose_status, outlive, reject, slow_inquiry, slow_status, spoil, turn_out}
use Rattle.mmc_card.specs.BusView.{BusView}

-- time passes
time_seen : (old met : BusView) (before : Option ℕ) → Passes old met
    → Passes (record old { may_fall = before }) (record met { may_fall = before })
time_seen old met before (at_once e) = at_once (ap (λ (v : BusView). record v { may_fall = before }) e)
time_seen old met before (has_rested e) = has_rested (ap (λ (v : BusView). record v { may_fall = before }) e)
time_seen old met before (has_run choice blocks e) =
    has_run choice blocks (ap (λ (v : BusView). record v { may_fall = before }) e)
time_seen old met before (has_failed lands bits of prg switching e) =
    has_failed lands bits of prg switching (ap (λ (v : BusView). record v { may_fall = before }) e)
time_seen old met before (has_fallen_short lands bits ignores of rcv is_busy e) =
    has_fallen_short lands bits ignores of rcv is_busy (ap (λ (v : BusView). record v { may_fall = before }) e)

module _ (old new : BusView) (before after : Option ℕ) where
  -- a command meets the card
  command_meets : (frame : List ℕ) (reply : Reply) → MeetsCommand old frame reply new
      → MeetsCommand (record old { may_fall = before }) frame reply (record new { may_fall = after })
  command_meets frame reply (faithful choice patient count card spells) = faithful choice patient count card spells
  command_meets frame reply (lose_command count card silent) = lose_command count card silent
  command_meets frame reply (flip_command keeps_count count card silent) = flip_command keeps_count count card silent
  command_meets frame reply (lose_reply choice patient count card answers refused) =
      lose_reply choice patient count card answers refused
  command_meets frame reply (slow_inquiry choice slow late inquiry count card spells) =
      slow_inquiry choice slow late inquiry count card spells
  command_meets frame reply (slow_status choice behind late status count card spells) =
      slow_status choice behind late status count card spells
  command_meets frame reply (fail_switch choice fails switch count card spells) =
      fail_switch choice fails switch count card spells
  command_meets frame reply (find_error choice finds patient may count card spells) =
      find_error choice finds patient may count card spells
  command_meets frame reply (outlive choice bits argument among patient resets count card silent) =
      outlive choice bits argument among patient resets count card silent
  command_meets frame reply (show_errors choice left found among errors some cleared patient count card spells) =
      show_errors choice left found among errors some cleared patient count card spells
  command_meets frame reply (brownout choice lands keeps_length after patient count card refused) =
      brownout choice lands keeps_length after patient count card refused

  pub poll_seen : (said : Bool) → PollStep old said new
      → PollStep (record old { may_fall = before }) said (record new { may_fall = after })
  poll_seen said (faithful choice patient count card answer) = faithful choice patient count card answer
  poll_seen said (busy is_busy late count card answer) = busy is_busy late count card answer
  poll_seen said (fail lands bits of prg switching count card answer) = fail lands bits of prg switching count card answer
  poll_seen said (fail_early lands bits of prg switching is_busy count card answer) =
      fail_early lands bits of prg switching is_busy count card answer
  poll_seen said (fall_short lands bits ignores of rcv is_busy count card answer) =
      fall_short lands bits ignores of rcv is_busy count card answer
  poll_seen said (brownout choice lands keeps_length after patient count card answer) =
      brownout choice lands keeps_length after patient count card answer

  -- a block that is written meets it
  block_meets : (block : List ℕ) (got : DataOut) → MeetsBlock old block got new
      → MeetsBlock (record old { may_fall = before }) block got (record new { may_fall = after })
  block_meets block got (faithful count card answer) = faithful count card answer
  block_meets block got (lose_block accepts count card answer) = lose_block accepts count card answer
  block_meets block got (reject bits ignores is_busy among accepts count card answer) =
      reject bits ignores is_busy among accepts count card answer
  block_meets block got (lose_status bits is_accepted ignores is_busy among accepts count card answer) =
      lose_status bits is_accepted ignores is_busy among accepts count card answer
  block_meets block got (fall_short lands bits ignores of accepts count card answer) =
      fall_short lands bits ignores of accepts count card answer
  block_meets block got (turn_out lands several accepts count card answer) = turn_out lands several accepts count card answer
  block_meets block got (brownout lands keeps_length after count card answer) =
      brownout lands keeps_length after count card answer

  pub read_seen : (size : ℕ) (got : DataIn) (block : List ℕ) → ReadStep old size got block new
      → ReadStep (record old { may_fall = before }) size got block (record new { may_fall = after })
  read_seen size got block (faithful choice count card answer good) = faithful choice count card answer good
  read_seen size got block (spoil choice bits goes_on comes among sends count card answer) =
      spoil choice bits goes_on comes among sends count card answer
  read_seen size got block (brownout choice lands keeps_length after count card answer) =
      brownout choice lands keeps_length after count card answer

module _ (old new : BusView) (before after : Option ℕ) where
  pub command_seen : (frame : List ℕ) (reply : Reply) → CommandStep old frame reply new
      → CommandStep (record old { may_fall = before }) frame reply (record new { may_fall = after })
  command_seen frame reply step = record {
    met = record step.met { may_fall = before };
    passes = time_seen old step.met before step.passes;
    meets = command_meets step.met new before after frame reply step.meets;
  }

  pub write_seen : (block : List ℕ) (got : DataOut) → WriteStep old block got new
      → WriteStep (record old { may_fall = before }) block got (record new { may_fall = after })
  write_seen block got step = record {
    met = record step.met { may_fall = before };
    passes = time_seen old step.met before step.passes;
    meets = block_meets step.met new before after block got step.meets;
  }
