-- An exchange of a host, as one of the bus over it: a step hangs on the card, the faults and the lines of a view alone.
use Rattle.std.proofs.Common.{◌&&◌, ◌+◌, ◌-◌, ◌^◌, ◌∙◌, ◌≡◌, Bool, List, Option, Some, ap, min, not, refl, subst, sym, true, ℕ}
use Rattle.mmc_frame.specs.Frame.{command_in}
use Rattle.mmc_card.proofs.Narrow.{both}
use Rattle.mmc_card.proofs.Passing.{beside_card}
use Rattle.mmc_card.specs.BusView.{BusView}
use Rattle.mmc_card.specs.Faults.{CommandStep, MeetsBlock, MeetsCommand, Passes, PollStep, ReadStep, WriteStep}
use Rattle.mmc_card.specs.Faults.{at_once, brownout, busy, fail, fail_early, faithful}
use Rattle.mmc_card.specs.Faults.{has_failed, has_fallen_short, has_rested, has_run}
use Rattle.mmc_card.specs.Faults.{fail_switch, fall_short, find_error, flip_command, lose_block, show_errors}
use Rattle.mmc_card.specs.Faults.{lose_command, lose_reply, lose_status, outlive, reject, slow_inquiry, slow_status, spoil, turn_out}
use Rattle.mmc_card.specs.declared.exchange.DataIn.{DataIn}
use Rattle.mmc_card.specs.declared.exchange.DataOut.{DataOut}
use Rattle.mmc_card.specs.declared.exchange.Exchange.{Exchange}
use Rattle.mmc_card.specs.declared.exchange.Lines.{Lines}
use Rattle.mmc_card.specs.declared.exchange.Reply.{Reply}
use Rattle.mmc_bus.specs.Exchanges.{Exchanged, Kept}
use Rattle.mmc_bus.specs.Wires.{Notes}
use Rattle.mmc_bus.specs.declared.wire.Wire.{Wire}
use Rattle.std.specs.Prelude.{None, Result}
use Rattle.mmc_host.specs.HostStates.{block_passed, is_accepted, is_good, lines_of}
use Rattle.mmc_host.specs.Hosts.{Does, HostView, OnlySets, ReadsBlock, Replies, Rests, Sends, Steps, Where, WritesBlock, answer_heard, bus_of, bus_over}
use Rattle.mmc_host.specs.declared.told.Heard.{Heard}
use Rattle.mmc_host.specs.declared.told.HostCommand.{HostCommand}
use Rattle.mmc_host.specs.declared.told.HostState.{HostState}
use Rattle.mmc_host.specs.declared.told.Ios.{Ios}
use Rattle.mmc_host.specs.declared.told.ResponseFault.{ResponseFault}
use Rattle.mmc_card.specs.Faults.{Spells}

-- what else a view has than a card, lines and faults
record Beside : Type 0 where
  limits : Lines
  last : Option Exchange
  exchanges : ℕ
  is_kept : Bool

abbrev seen : BusView → Lines → Beside → BusView
seen view lines beside =
    record view {
      lines = lines;
      limits = beside.limits;
      last = beside.last;
      exchanges = beside.exchanges;
      is_kept = beside.is_kept;
    }

-- time passes so whatever else a view says
moved_time : (old met : BusView) (l : Lines) (a : Beside) → Passes old met → Passes (seen old l a) (seen met l a)
moved_time old met l a (at_once e) = at_once (ap (λ (v : BusView). seen v l a) e)
moved_time old met l a (has_rested e) = has_rested (ap (λ (v : BusView). seen v l a) e)
moved_time old met l a (has_run choice blocks e) = has_run choice blocks (ap (λ (v : BusView). seen v l a) e)
moved_time old met l a (has_failed lands bits of prg switching e) =
    has_failed lands bits of prg switching (ap (λ (v : BusView). seen v l a) e)
moved_time old met l a (has_fallen_short lands bits ignores of rcv is_busy e) =
    has_fallen_short lands bits ignores of rcv is_busy (ap (λ (v : BusView). seen v l a) e)

-- a command meets a card so
moved_meeting : (old new : BusView) (l m : Lines) (a b : Beside) (frame : List ℕ) (reply : Reply)
    → MeetsCommand old frame reply new → MeetsCommand (seen old l a) frame reply (seen new m b)
moved_meeting old new l m a b frame reply (faithful choice fine count card spells) = faithful choice fine count card spells
moved_meeting old new l m a b frame reply (lose_command count card silent) = lose_command count card silent
moved_meeting old new l m a b frame reply (flip_command keeps count card silent) = flip_command keeps count card silent
moved_meeting old new l m a b frame reply (lose_reply choice fine count card answers refused) =
    lose_reply choice fine count card answers refused
moved_meeting old new l m a b frame reply (slow_inquiry choice slow late inquiry count card spells) =
    slow_inquiry choice slow late inquiry count card spells
moved_meeting old new l m a b frame reply (slow_status choice behind late status count card spells) =
    slow_status choice behind late status count card spells
moved_meeting old new l m a b frame reply (fail_switch choice fails switch count card spells) =
    fail_switch choice fails switch count card spells
moved_meeting old new l m a b frame reply (find_error choice finds late may count card spells) =
    find_error choice finds late may count card spells
moved_meeting old new l m a b frame reply (outlive choice bits argument are fine idle count card silent) =
    outlive choice bits argument are fine idle count card silent
moved_meeting old new l m a b frame reply (show_errors choice left found among errors some cleared fine count card spells) =
    show_errors choice left found among errors some cleared fine count card spells
moved_meeting old new l m a b frame reply (brownout choice lands keeps after fine count card refused) =
    brownout choice lands keeps after fine count card refused

-- time passes, and then it meets the card
moved_command : (old new : BusView) (l m : Lines) (a b : Beside) (frame : List ℕ) (reply : Reply)
    → CommandStep old frame reply new → CommandStep (seen old l a) frame reply (seen new m b)
moved_command old new l m a b frame reply step = record {
  met = seen step.met l a;
  passes = moved_time old step.met l a step.passes;
  meets = moved_meeting step.met new l m a b frame reply step.meets;
}

moved_poll : (old new : BusView) (l m : Lines) (a b : Beside) (said : Bool)
    → PollStep old said new → PollStep (seen old l a) said (seen new m b)
moved_poll old new l m a b said (faithful choice fine count card says) = faithful choice fine count card says
moved_poll old new l m a b said (busy is late count card says) = busy is late count card says
moved_poll old new l m a b said (fail lands bits are prg switching count card says) =
    fail lands bits are prg switching count card says
moved_poll old new l m a b said (fail_early lands bits are prg switching is count card says) =
    fail_early lands bits are prg switching is count card says
moved_poll old new l m a b said (fall_short lands bits ignores are rcv is count card says) =
    fall_short lands bits ignores are rcv is count card says
moved_poll old new l m a b said (brownout choice lands keeps after fine count card says) =
    brownout choice lands keeps after fine count card says

-- a block meets a card so
moved_block : (old new : BusView) (m : Lines) (a b : Beside) (block : List ℕ) (got : DataOut)
    → MeetsBlock old block got new → MeetsBlock (seen old old.lines a) block got (seen new m b)
moved_block old new m a b block got (faithful count card is) = faithful count card is
moved_block old new m a b block got (lose_block can count card is) = lose_block can count card is
moved_block old new m a b block got (reject bits ignores is_busy among can count card is) =
    reject bits ignores is_busy among can count card is
moved_block old new m a b block got (lose_status bits accepted ignores is_busy among can count card is) =
    lose_status bits accepted ignores is_busy among can count card is
moved_block old new m a b block got (fall_short lands bits ignores are can count card is) =
    fall_short lands bits ignores are can count card is
moved_block old new m a b block got (turn_out lands several can count card is) =
    turn_out lands several can count card is
moved_block old new m a b block got (brownout lands keeps after count card is) =
    brownout lands keeps after count card is

-- time passes, which leaves the lines, and then it meets the card
moved_write : (old new : BusView) (m : Lines) (a b : Beside) (block : List ℕ) (got : DataOut)
    → WriteStep old block got new → WriteStep (seen old old.lines a) block got (seen new m b)
moved_write old new m a b block got step = record {
  met = seen step.met old.lines a;
  passes = moved_time old step.met old.lines a step.passes;
  meets = subst (λ (l : Lines). MeetsBlock (seen step.met l a) block got (seen new m b))
      (beside_card old step.met step.passes (λ (v : BusView). v.lines) (λ card faults. refl))
      (moved_block step.met new m a b block got step.meets);
}

moved_read : (old new : BusView) (m : Lines) (a b : Beside) (size : ℕ) (got : DataIn) (block : List ℕ)
    → ReadStep old size got block new → ReadStep (seen old old.lines a) size got block (seen new m b)
moved_read old new m a b size got block (faithful choice count card is next) = faithful choice count card is next
moved_read old new m a b size got block (spoil choice bits goes_on comes among can count card is) =
    spoil choice bits goes_on comes among can count card is
moved_read old new m a b size got block (brownout choice lands keeps after count card is) =
    brownout choice lands keeps after count card is

-- a bus over a host is kept while the host is, unless it was misused
lifted : (old new : HostView) (w v : Wire) (misused : Bool) (Step Other : Type 0) → Kept (bus_of old) Step (bus_of new)
    → not misused ≡ true → (Step → Other) → Kept (bus_over old w misused) Other (bus_over new v misused)
lifted old new w v misused Step Other kept fine becomes =
    record {
      was_kept = rw (kept.was_kept, fine) refl;
      was_card = kept.was_card;
      step = becomes kept.step;
      is_card = kept.is_card;
      bounded = kept.bounded;
    }

abbrev beside : Wire → Bool → Beside
beside wire is_kept = record { limits = wire.limits; last = wire.last; exchanges = wire.exchanges; is_kept = is_kept }

pub does_poll : (old new : HostView) (w : Wire) (misused said : Bool)
    → Where new (Steps old old.state (PollStep (bus_of old) said (bus_of new)) new)
    → Does old w misused (λ before after. PollStep before said after) new misused
does_poll old new w misused said steps v lines kept =
    let fine = both new.is_kept (not misused) kept in
    lifted old new w v misused _ _ (steps fine.0).step fine.1
    (moved_poll (bus_of old) (bus_of new) w.lines v.lines (beside w (old.is_kept && not misused))
    (beside v (new.is_kept && not misused)) said)

pub does_command : (old new : HostView) (w : Wire) (misused : Bool) (index argument : ℕ) (frame : List ℕ) (reply : Reply)
    → command_in frame ≡ Some (index, argument) → Replies old index argument reply new
    → Does old w misused (λ before after. CommandStep before frame reply after) new misused
does_command old new w misused index argument frame reply command replies v lines kept =
    let fine = both new.is_kept (not misused) kept in
    lifted old new w v misused _ _ (replies fine.0) fine.1
    (λ step. moved_command (bus_of old) (bus_of new) w.lines v.lines (beside w (old.is_kept && not misused))
    (beside v (new.is_kept && not misused)) frame reply (step frame command))

-- a step of a host whose lines were set before is one of the bus with these lines
set_and_done : (v0 v1 v2 : HostView) (w : Wire) (misused : Bool) (told : HostState) (Step : BusView → BusView → Type 0)
    → Where v1 (lines_of v1.state.ios ≡ w.lines) → OnlySets v0 v1 → Where v2 (Steps v1 told (Step (bus_of v1) (bus_of v2)) v2)
    → ((l : Lines) (a b : Beside) → Step (bus_of v1) (bus_of v2)
    → Step (seen (bus_of v1) (lines_of v1.state.ios) a) (seen (bus_of v2) l b))
    → Does v0 w misused Step v2 misused
set_and_done v0 v1 v2 w misused told Step lines sets steps moves v same kept =
    let fine = both v2.is_kept (not misused) kept in
    let k = (steps fine.0).step in
    let o = sets k.was_kept in
    let after = bus_over v2 v misused in
    subst (λ (x : HostView). Kept (bus_over x w misused) (Step (bus_over x w misused) after) after) o.1
    (lifted v1 v2 w v misused _ _ k fine.1
    (λ step. subst (λ (l : Lines). Step (seen (bus_of v1) l (beside w (v1.is_kept && not misused))) after) (lines k.was_kept)
    (moves v.lines (beside w (v1.is_kept && not misused)) (beside v (v2.is_kept && not misused)) step)))

pub does_read : (v0 v1 v2 : HostView) (w : Wire) (misused : Bool) (size : ℕ) (got : DataIn) (block : List ℕ)
    → Where v1 (lines_of v1.state.ios ≡ w.lines) → OnlySets v0 v1 → ReadsBlock v1 size got block v2
    → Does v0 w misused (λ before after. ReadStep before size got block after) v2 misused
does_read v0 v1 v2 w misused size got block lines sets reads =
    set_and_done v0 v1 v2 w misused (block_passed v1.state (is_good got)) (λ old new. ReadStep old size got block new) lines sets reads
    (λ l a b. moved_read (bus_of v1) (bus_of v2) l a b size got block)

pub does_write : (v0 v1 v2 : HostView) (w : Wire) (misused : Bool) (block : List ℕ) (got : DataOut)
    → Where v1 (lines_of v1.state.ios ≡ w.lines) → OnlySets v0 v1 → WritesBlock v1 block got v2
    → Does v0 w misused (λ before after. WriteStep before block got after) v2 misused
does_write v0 v1 v2 w misused block got lines sets writes =
    set_and_done v0 v1 v2 w misused (block_passed v1.state (is_accepted got)) (λ old new. WriteStep old block got new) lines sets writes
    (λ l a b. moved_write (bus_of v1) (bus_of v2) l a b block got)

-- the wire notes what was done
pub exchanged : (old new : HostView) (w mid v : Wire) (was is : Bool) (exchange : Exchange)
    (Step : BusView → BusView → Type 0) → Does old w was Step new is → mid ≡ w → Notes mid exchange v
    → Exchanged (bus_over old w was) exchange (Step (bus_over old w was) (bus_over new v is)) (bus_over new v is)
exchanged old new w mid v was is exchange Step does same notes =
    let lines : v.lines ≡ w.lines = notes.lines ∙ ap (λ (x : Wire). x.lines) same in
    record {
      lines = lines;
      limits = notes.limits ∙ ap (λ (x : Wire). x.limits) same;
      last = notes.last;
      exchanges = notes.exchanges ∙ ap (λ (x : Wire). min (x.exchanges + 1) (2 ^ 64 - 1)) same;
      kept = does v lines;
    }

-- how the lines were set before doesn't matter to a command
set_before : (old new : HostView) (ios : Ios) (index argument : ℕ) (reply : Reply)
    → Replies (record old { state = record old.state { ios = ios } }) index argument reply new
    → Replies old index argument reply new
set_before old new ios index argument reply replies kept =
    let k = replies kept in
    record {
      was_kept = k.was_kept;
      was_card = k.was_card;
      step = λ frame command. moved_command (bus_of (record old { state = record old.state { ios = ios } })) (bus_of new)
          (lines_of old.state.ios) (lines_of new.state.ios)
          (record { limits = old.limits; last = None; exchanges = 0; is_kept = old.is_kept })
          (record { limits = new.limits; last = None; exchanges = 0; is_kept = new.is_kept }) frame reply (k.step frame command);
      is_card = k.is_card;
      bounded = k.bounded;
    }

-- lines are set, a command is sent, and its reply is spelled
pub replied : (v0 v1 v2 v3 : HostView) (command : HostCommand) (heard : Result Heard ResponseFault) (reply : Reply)
    → OnlySets v0 v1 → Sends v1 command heard v2 → Rests v2 v3
    → Spells (answer_heard command.response command.index heard) reply
    → Replies v0 command.index command.argument reply v3
replied v0 v1 v2 v3 command heard reply sets sends waits spells kept =
    let w = waits kept in
    let s = (sends w.0).step in
    let o = sets s.was_kept in
    let after : Replies v1 command.index command.argument reply v2 = λ _. record {
      was_kept = s.was_kept;
      was_card = s.was_card;
      step = λ frame is. s.step frame reply is spells;
      is_card = s.is_card;
      bounded = s.bounded;
    } in
    let before : Replies v0 command.index command.argument reply v2 =
    set_before v0 v2 v1.state.ios command.index command.argument reply
    (subst (λ (v : HostView). Replies v command.index command.argument reply v2) o.1 after) in
    subst (λ (v : HostView). Replies v0 command.index command.argument reply v) (sym w.1) before kept
