-- The exchanges of a card in memory, with a fault or without one, are steps of a card, and leave one.
use Rattle.std.proofs.Common.{◌&&◌, ◌+◌, ◌-◌, ◌/◌, ◌<◌, ◌^◌, ◌||◌, ◌≡◌, ◌≤◌, ◌∙◌, Bool, List, None, Some, ap, arith}
use Rattle.std.proofs.Common.{◌⊎◌, bit_or, cond, false, inl, inr, not, refl, subst, sym, true, ℕ}
use Rattle.std.specs.Prelude.{◌==◌, Option, if◌then◌else◌, is_some, min, nat_le, nat_lt}
use Rattle.std.proofs.lemmas.Bool.Decides.{nat_tests}
use Rattle.mmc_frame.proofs.Bytes.{and_true}
use Rattle.mmc_card.specs.declared.exchange.DataIn.{DataIn}
use Rattle.mmc_card.specs.declared.exchange.DataOut.{DataOut}
use Rattle.mmc_card.specs.declared.exchange.Lines.{Lines}
use Rattle.mmc_card.specs.declared.exchange.Exchange.{Exchange}
use Rattle.mmc_card.specs.declared.exchange.Exchange.TheVariants.{Busy, Command, In, Out}
use Rattle.mmc_card.specs.declared.exchange.Reply.{Reply}
use Rattle.mmc_card.specs.declared.exchange.Want.{Want}
use Rattle.mmc_card.specs.BusView.{BusView}
use Rattle.mmc_card.specs.Card.{AreAmong, Both, Card, First, Held, IsBlock, IsCard, NoAddress, is_in, patience}
use Rattle.mmc_card.specs.CardAnswer.{CardAnswer, Checked, Choice, R2, R3, Silent, left_with, raised, showing, shown, status}
use Rattle.mmc_card.specs.Rows.{answered, command_of, found, hindered, is_foreign, is_legal, may_find, reached, responded, row}
use Rattle.mmc_card.specs.RowsErase.{erase_held, erases, erasing, forgotten, hold_first, hold_last, is_no_range, is_trim}
use Rattle.mmc_card.specs.RowsSwitch.{switch_row, switched}
use Rattle.mmc_card.specs.declared.command.Command.{Command as Meaning}
use Rattle.mmc_card.specs.declared.command.Command.TheVariants as Names
use Rattle.mmc_frame.specs.Frame.{command_in}
use Rattle.mmc_card.specs.ErrorBits.{block_len_error, card_ecc_failed, com_crc_error, command_error_bits, erase_param, general_error}
use Rattle.mmc_card.specs.ErrorBits.{illegal_command}
use Rattle.mmc_card.specs.Faults.{AreOfExecution, CommandStep, IsPatient, IsTimely, MeetsBlock, MeetsCommand, PollStep, ReadStep, Spells}
use Rattle.mmc_card.specs.Faults.{Passes, WriteStep, at_once, has_failed, has_fallen_short, has_rested, has_run}
use Rattle.mmc_card.specs.Faults.{IsRefused, Replies, is_switch, is_switch_frame, may_find_frame}
use Rattle.mmc_card_rows.specs.Transfers.{is_write, is_write_frame}
use Rattle.mmc_card.specs.declared.exchange.Reply.TheVariants as Came
use Rattle.mmc_bus.proofs.Readers.{IsAnswerTo, responded_answer}
use Rattle.mmc_card_sim.proofs.FlipLemmas.{FlipLaws, flipped_is_refused}
use Rattle.mmc_card_sim.specs.FlippedReplies.{IsHeardFlipped, can_flip}
use Rattle.mmc_card_sim.specs.declared.fault.Flips.{Flips}
use Rattle.mmc_card.specs.RowsTransfer.{begun, preset, transfer_errors}
use Rattle.mmc_card.specs.Faults.MeetsCommand.{brownout as command_brownout, faithful as does_command, flip_command}
use Rattle.mmc_card.specs.Faults.MeetsCommand.{fail_switch, find_error, lose_command, lose_reply, show_errors}
use Rattle.mmc_card.proofs.JudgedLemmas.{replies_as_is}
use Rattle.mmc_card.specs.Faults.PollStep.{brownout as poll_brownout, busy, fail, fail_early, faithful as does_poll, fall_short}
use Rattle.mmc_card.specs.Faults.ReadStep.{brownout as read_brownout, faithful as does_read, spoil}
use Rattle.mmc_card.specs.Faults.MeetsBlock.{brownout as write_brownout, faithful as does_write, lose_block, lose_status, reject}
use Rattle.mmc_card.specs.Sectors.{Change, Sector}
use Rattle.mmc_frame.specs.declared.card_state.State.TheVariants.{Data, Prg, Rcv, Tran}
use Rattle.mmc_card.proofs.CardAll.{poll_leaves_card, read_leaves_card}
use Rattle.mmc_card.proofs.Passing.{block_leaves_card, card_in_time, step_leaves_card}
use Rattle.mmc_bus.specs.declared.wire.Wire.{Wire}
use Rattle.mmc_bus.specs.Exchanges.{Commanded, DataRead, DataWritten, Exchanged, Polled}
use Rattle.mmc_bus.specs.Wires.{Notes, bus_view_with}
use Rattle.mmc_card_rows.specs.Chip.{KeepsWaits, by_itself, choice_of, command_choice, finding, moved_on, passed}
use Rattle.mmc_card_rows.specs.Finding.{can_find, may_find_now}
use Rattle.mmc_card.proofs.Cards.{in_state}
use Rattle.mmc_card_rows.proofs.ChipLemmas.{execution_held}
use Rattle.mmc_card_rows.specs.FaultErrors.{are_of_execution}
use Rattle.mmc_card_sim.specs.FaultyExchanges.{counted, failed, failed_unseen, fits_time, may_fail, may_fall_short}
use Rattle.mmc_card_sim.specs.FaultyExchanges.{Commands, IsHeard, Polls, Reads, Writes, after_command, after_poll}
use Rattle.mmc_card_sim.specs.FaultyExchanges.{after_read, after_write, fits_command, fits_poll, fits_read, fits_write}
use Rattle.mmc_card_sim.specs.FaultyExchanges.{done_in, failing, heeded, is_answer, is_busy_fault, poll_choice, protection, read_in}
use Rattle.mmc_card_sim.specs.FaultyExchanges.{says_yes, written_out}
use Rattle.mmc_card_sim.specs.Plan.{fault_at, to_come}
use Rattle.mmc_card_sim.specs.SimView.{SimOk, SimView, card_met, met, sim_bus_view}
use Rattle.mmc_card_sim.proofs.PlanLemmas.{spent}
use Rattle.mmc_card_rows.specs.Store.{lands_by}
use Rattle.mmc_card_rows.specs.declared.delays.Delays.{Delays}
use Rattle.mmc_card_rows.specs.declared.fault.CommandError.TheVariants.{ComCrc, Illegal}
use Rattle.mmc_card_sim.specs.declared.fault.Fault.{Fault}
use Rattle.mmc_card_sim.specs.declared.fault.Fault.TheVariants as Is
use Rattle.mmc_card_rows.specs.declared.fault.Outcome.TheVariants.{New, Old}
use Rattle.mmc_card_sim.specs.declared.plan.Planned.{Planned}
use Rattle.std.specs.Int.Bits.{or_zero_r}
use Rattle.mmc_card.specs.Blocks.{next_block, rested, sent}
use Rattle.std.specs.Int.RustNames.{bit_and}
use Rattle.std.proofs.lemmas.Nat.{and_or_apart}
use Rattle.std.proofs.lemmas.Bool.{eqb-true, ltb-true}
use Rattle.mmc_card.specs.Judged.{Agree, IsEarlyOcr, IsReadyInTran, IsSaid, judged}
use Rattle.mmc_frame.specs.declared.kind.Kind.{Kind}
use Rattle.mmc_frame.specs.declared.kind.Kind.TheVariants.{Mmc, Sd}
use Rattle.mmc_card_rows.specs.Answer.{early_ocr, said_as}

-- a bus with this card and this plan, that is kept
abbrev pub kept_with : List Planned → Card → ℕ → Wire → BusView
kept_with plan card faults wire = bus_view_with card faults (Some (to_come plan wire.exchanges)) true wire

exchanged : {Step : Type 0} (plan : List Planned) (old new : Card) (faults later : ℕ) (before after : Wire)
    (exchange : Exchange) → Notes before exchange after
    → later + to_come plan after.exchanges ≤ faults + to_come plan before.exchanges
    → IsCard old → IsCard new → Step
    → Exchanged (kept_with plan old faults before) exchange Step (kept_with plan new later after)
exchanged plan old new faults later before after exchange notes in_bounds was is step = record {
  lines = notes.lines;
  limits = notes.limits;
  last = notes.last;
  exchanges = notes.exchanges;
  kept = λ kept.
      record {
        was_kept = refl;
        was_card = was;
        step = step;
        is_card = is;
        bounded = λ most few. omega (arith, in_bounds, few);
      };
}

-- What a card in memory does by itself between two exchanges is what a card may do.

gone_on : (old : BusView) (some sends : Bool) → is_in old.card.state Data ≡ sends
    → Passes old (record old {
      card = if sends then if some then sent (choice_of false) old.card else old.card else rested old.card;
    })
gone_on old some false is = has_rested refl
gone_on old true true is = has_run (choice_of false) 1 (rw is refl)
gone_on old false true is = at_once refl

by_itself_passes : (old : BusView) (goes : Bool)
    → Passes old (record old { card = if goes then by_itself old.card else old.card })
by_itself_passes old true = gone_on old (is_some (next_block old.card)) (is_in old.card.state Data) refl
by_itself_passes old false = at_once refl

is_false : (b : Bool) → not b ≡ true → b ≡ false
is_false true h = cc
is_false false h = refl

-- So is programming that fails with these error bits, in prg or in rcv.
fails_unseen : (old : BusView) (bits : ℕ) (lands : ℕ → Bool) → AreOfExecution (bits / 2 ^ 13) → (programs : Bool)
    → programs ≡ may_fail old.card → (programs || may_fall_short old.card) ≡ true
    → Passes old (record old { card = raised (bits / 2 ^ 13) (failed lands old.card); faults = old.faults + 1 })
fails_unseen old bits lands of true programs fits =
    let parts = and_true (is_in old.card.state Prg) (not old.card.is_switching) (sym programs) in
    has_failed lands (bits / 2 ^ 13) of parts.0 (is_false old.card.is_switching parts.1) (rw parts.0 refl)
fails_unseen old bits lands of false programs fits =
    let parts = and_true (is_in old.card.state Rcv) _ fits in
    has_fallen_short lands (bits / 2 ^ 13) false of parts.0 (and_true old.card.is_busy _ parts.1).0
    (rw (in_state old.card.state Rcv parts.0) refl)

unseen : (fault : Option Fault) (old : BusView) → fits_time fault old.card ≡ true
    → Passes old (record old { card = failed_unseen fault old.card; faults = old.faults + 1 })
unseen (Some (Is.FailUnseen outcome bits)) old fits =
    let parts = and_true (are_of_execution bits) (may_fail old.card || may_fall_short old.card) fits in
    fails_unseen old bits (lands_by outcome) (execution_held bits parts.0) (may_fail old.card) refl parts.1
unseen _ old fits = cc

pub time_passes : (fault : Option Fault) (sim : SimView) → Passes (sim_bus_view sim) (sim_bus_view (met fault sim))
time_passes fault sim = go (fits_time fault sim.card) refl
  where
    go : (fits : Bool) → fits_time fault sim.card ≡ fits
        → Passes (sim_bus_view sim) (record (sim_bus_view sim) {
          card = if fits then failed_unseen fault sim.card else passed sim.delays sim.card;
          faults = counted fits sim.faults;
        })
    go true fits = unseen fault (sim_bus_view sim) fits
    go false other = by_itself_passes (sim_bus_view sim) sim.delays.goes_on

-- Commands.

few_times : (limit times : ℕ) → limit ≤ patience → nat_lt times limit ≡ true → times < patience
few_times limit times few less = grind (arith, nat_tests, few, less)

timely : (delays : Delays) (card : Card) → delays.ready ≤ patience → IsTimely (command_choice delays card) card
timely delays card few = (
  λ slow. few_times delays.ready card.inquiries few slow,
  λ behind. few_times patience card.polled (omega arith) (and_true (nat_lt card.polled patience) _ behind).0,
)

-- A switch that fails.

switch_fails : (choice : Choice) (command : Meaning) (card : Card) (index argument : ℕ) → choice.fails_switch ≡ true
    → choice.finds ≡ 0 → choice.drops_quietly ≡ false → is_switch command card argument ≡ true
    → responded choice command card index argument ≡ failing choice.says_late card
switch_fails choice Names.Switch card index argument fails none loud h =
    let tran = (and_true (is_in card.state Tran) (is_some (switched card argument)) h).0 in rw (tran, fails, none, loud) refl
switch_fails choice Names.SendOpCond card index argument fails none loud h = cc
switch_fails choice Names.SdSendOpCond card index argument fails none loud h = cc
switch_fails choice Names.AllSendCid card index argument fails none loud h = cc
switch_fails choice Names.SendRelativeAddr card index argument fails none loud h = cc
switch_fails choice Names.SetRelativeAddr card index argument fails none loud h = cc
switch_fails choice Names.SelectCard card index argument fails none loud h = cc
switch_fails choice Names.SendIfCond card index argument fails none loud h = cc
switch_fails choice Names.SendExtCsd card index argument fails none loud h = cc
switch_fails choice Names.SendCsd card index argument fails none loud h = cc
switch_fails choice Names.StopTransmission card index argument fails none loud h = cc
switch_fails choice Names.SendStatus card index argument fails none loud h = cc
switch_fails choice Names.SetBlocklen card index argument fails none loud h = cc
switch_fails choice Names.ReadSingleBlock card index argument fails none loud h = cc
switch_fails choice Names.ReadMultipleBlock card index argument fails none loud h = cc
switch_fails choice Names.SetBlockCount card index argument fails none loud h = cc
switch_fails choice Names.WriteBlock card index argument fails none loud h = cc
switch_fails choice Names.WriteMultipleBlock card index argument fails none loud h = cc
switch_fails choice Names.EraseStart card index argument fails none loud h = cc
switch_fails choice Names.EraseEnd card index argument fails none loud h = cc
switch_fails choice Names.Erase card index argument fails none loud h = cc
switch_fails choice Names.SwitchFunc card index argument fails none loud h = cc
switch_fails choice Names.SetBusWidth card index argument fails none loud h = cc
switch_fails choice Names.SendScr card index argument fails none loud h = cc
switch_fails choice Names.AppCmd card index argument fails none loud h = cc
switch_fails choice Names.Unknown card index argument fails none loud h = cc
switch_fails choice Names.GoIdleState card index argument fails none loud h = cc

fails_to_switch : (choice : Choice) (card : Card) (command : Option (ℕ × ℕ)) → choice.fails_switch ≡ true
    → choice.finds ≡ 0 → choice.drops_quietly ≡ false → is_switch_frame card command ≡ true
    → failing choice.says_late card ≡ answered choice card command
fails_to_switch choice card (Some command) fails none loud h =
    sym (switch_fails choice (command_of card.made.kind card.app command.0) card command.0 command.1 fails none loud h)
fails_to_switch choice card None fails none loud h = cc

-- APP_CMD in an R6 isn't judged
apart_from_app : (kind : Kind) → bit_and 0x20 (judged kind 3) ≡ 0
apart_from_app Sd = refl
apart_from_app Mmc = refl

said_by : (shows : Bool) (kind : Kind) (index argument : ℕ) → (shows ≡ true → index ≡ 3)
    → Agree (judged kind index) (if shows then bit_or argument 0x20 else argument) argument
said_by true kind index argument is =
    subst (λ (i : ℕ). Agree (judged kind i) (bit_or argument 0x20) argument) (sym (is refl))
    (and_or_apart (judged kind 3) argument 0x20 (apart_from_app kind))
said_by false kind index argument is = refl

-- and it is in none of CMD13's
ready_by : (shows : Bool) (index argument : ℕ) → (shows ≡ true → index ≡ 3) → index ≡ 13
    → IsReadyInTran (if shows then bit_or argument 0x20 else argument) argument
ready_by true index argument third is = absurd (omega (arith, third refl, is))
ready_by false index argument third is = λ tran. refl

-- bits 30 and 29 of an OCR aren't judged before the card is ready
ocr_said : (below : Bool) (early ocr : ℕ) → below ≡ nat_lt ocr (2 ^ 31)
    → let told = if below then early_ocr early ocr else ocr in
    (told ≡ ocr) ⊎ ((ocr < 2 ^ 31) × IsEarlyOcr told ocr)
ocr_said true early ocr is = inr (ltb-true ocr (2 ^ 31) (sym is), (omega arith, inr (omega arith)))
ocr_said false early ocr is = inl refl

said_is : (kind : Kind) (delays : Delays) (answer : CardAnswer) → IsSaid kind answer (said_as delays answer)
said_is kind delays Silent = refl
said_is kind delays (Checked index argument) =
    let shows = delays.shows_app_cmd in
    let third : (shows && (index == 3)) ≡ true → index ≡ 3 = λ is. eqb-true index 3 (and_true shows (index == 3) is).1 in (
      _,
      refl,
      said_by (shows && (index == 3)) kind index argument third,
      ready_by (shows && (index == 3)) index argument third,
    )
said_is kind delays (R3 ocr) = (_, refl, ocr_said (nat_lt ocr (2 ^ 31)) delays.early ocr refl)
said_is kind delays (R2 bytes) = refl

-- an answer is of the same kind as it is sent
refused_said : (delays : Delays) (sent : ℕ × ℕ) (answer : CardAnswer) (reply : Reply)
    → IsRefused (Some sent) (said_as delays answer) reply → IsRefused (Some sent) answer reply
refused_said delays sent answer Came.Silent refused = tt
refused_said delays sent Silent (Came.Short frame) refused = refused
refused_said delays sent Silent (Came.Long frame) refused = refused
refused_said delays sent (Checked index argument) (Came.Short frame) refused = refused
refused_said delays sent (Checked index argument) (Came.Long frame) refused = refused
refused_said delays sent (R3 ocr) (Came.Short frame) refused = refused
refused_said delays sent (R3 ocr) (Came.Long frame) refused = refused
refused_said delays sent (R2 bytes) (Came.Short frame) refused = refused
refused_said delays sent (R2 bytes) (Came.Long frame) refused = refused

answers_said : (delays : Delays) (command : Meaning) (answer : CardAnswer) → IsAnswerTo command answer
    → IsAnswerTo command (said_as delays answer)
answers_said delays command Silent fits = fits
answers_said delays command (Checked index argument) fits = fits
answers_said delays command (R3 ocr) fits = fits
answers_said delays command (R2 bytes) fits = fits

-- an answer whose bits are flipped is lost
lost_by_flips : FlipLaws → (choice : Choice) (delays : Delays) (card : Card) (sent : Option (ℕ × ℕ)) (flips : Flips) (reply : Reply)
    → IsCard card → can_flip flips (said_as delays (answered choice card sent).1) ≡ true
    → IsHeardFlipped flips (said_as delays (answered choice card sent).1) reply
    → ((answered choice card sent).1 ≡ Silent → ⊥) × IsRefused sent (answered choice card sent).1 reply
lost_by_flips laws choice delays card None flips reply k can heard = cc
lost_by_flips laws choice delays card (Some command) flips reply k can heard =
    let meaning = command_of card.made.kind card.app command.0 in
    let answer = (answered choice card (Some command)).1 in (
      λ silent. cc (ap (λ (a : CardAnswer). can_flip flips (said_as delays a)) silent, can),
      refused_said delays command answer reply
          (flipped_is_refused laws command meaning flips (said_as delays answer) reply
          (answers_said delays meaning answer (responded_answer choice meaning card command.0 command.1 k.registers)) can heard),
    )

-- The response to a command that an error may keep from being carried out shows all errors, and clears them.

transfer_clears : (b : Bool) (index errors : ℕ) (card after : Card) → after.errors ≡ 0
    → (cond {A = Card × CardAnswer} b (after, Checked index (status false card))
    (shown card, Checked index (status false (raised errors card)))).0.errors ≡ 0
transfer_clears true index errors card after clear = clear
transfer_clears false index errors card after clear = refl

length_clears : (b : Bool) (card : Card)
    → (cond {A = Card × CardAnswer} b (record (shown card) { block_length = 512 }, Checked 16 (status false card))
    (shown card, Checked 16 (status false (raised block_len_error card)))).0.errors ≡ 0
length_clears true card = refl
length_clears false card = refl

first_clears : (index : ℕ) (card : Card) (address : ℕ) (held : Held) → (hold_first index card address held).0.errors ≡ 0
first_clears index card address NoAddress = refl
first_clears index card address (First first) = refl
first_clears index card address (Both first last) = refl

last_clears : (index : ℕ) (card : Card) (address : ℕ) (held : Held) → (hold_last index card address held).0.errors ≡ 0
last_clears index card address NoAddress = refl
last_clears index card address (First first) = refl
last_clears index card address (Both first last) = refl

range_clears : (b : Bool) (index : ℕ) (card : Card) (change : Change)
    → (cond {A = Card × CardAnswer} b (forgotten (shown card), Checked index (status false (raised erase_param card)))
    (erases change card, Checked index (status false card))).0.errors ≡ 0
range_clears true index card change = refl
range_clears false index card change = refl

erase_clears : (card : Card) (argument : ℕ) (held : Held) → (erase_held card argument held).0.errors ≡ 0
erase_clears card argument NoAddress = refl
erase_clears card argument (First first) = refl
erase_clears card argument (Both first last) =
    range_clears (is_no_range card first last) 38 card (erasing card (is_trim card argument) first last)

switch_clears : (late : Bool) (card : Card) (after : Option Card) → (switch_row late card after).0.errors ≡ 0
switch_clears late card (Some after) = refl
switch_clears late card None = refl

row_clears : (choice : Choice) (command : Meaning) (card : Card) (index argument : ℕ) → may_find command ≡ true
    → (row choice command card index argument).0.errors ≡ 0
row_clears choice Names.SetRelativeAddr card index argument may = refl
row_clears choice Names.SendExtCsd card index argument may = refl
row_clears choice Names.SetBlocklen card index argument may = length_clears (argument == 512) card
row_clears choice Names.ReadSingleBlock card index argument may =
    let errors = transfer_errors false card argument in
    transfer_clears (errors == 0) 17 errors card (begun Data true (Some 1) card argument) refl
row_clears choice Names.ReadMultipleBlock card index argument may =
    let errors = transfer_errors false card argument in
    transfer_clears (errors == 0) 18 errors card (begun Data false (preset card) card argument) refl
row_clears choice Names.SetBlockCount card index argument may = refl
row_clears choice Names.WriteBlock card index argument may =
    let errors = transfer_errors true card argument in
    transfer_clears (errors == 0) 24 errors card (begun Rcv true (Some 1) card argument) refl
row_clears choice Names.WriteMultipleBlock card index argument may =
    let errors = transfer_errors true card argument in
    transfer_clears (errors == 0) 25 errors card (begun Rcv false (preset card) card argument) refl
row_clears choice Names.EraseStart card index argument may = first_clears index card argument card.erase
row_clears choice Names.EraseEnd card index argument may = last_clears index card argument card.erase
row_clears choice Names.Erase card index argument may = erase_clears card argument card.erase
row_clears choice Names.Switch card index argument may =
    switch_clears choice.says_late card (if choice.fails_switch then None else switched card argument)
row_clears choice Names.SwitchFunc card index argument may = refl
row_clears choice Names.SetBusWidth card index argument may = refl
row_clears choice Names.SendScr card index argument may = refl
row_clears choice Names.AppCmd card index argument may = refl
row_clears choice Names.GoIdleState card index argument may = cc
row_clears choice Names.SendOpCond card index argument may = cc
row_clears choice Names.SdSendOpCond card index argument may = cc
row_clears choice Names.AllSendCid card index argument may = cc
row_clears choice Names.SendRelativeAddr card index argument may = cc
row_clears choice Names.SelectCard card index argument may = cc
row_clears choice Names.SendIfCond card index argument may = cc
row_clears choice Names.SendCsd card index argument may = cc
row_clears choice Names.StopTransmission card index argument may = cc
row_clears choice Names.SendStatus card index argument may = cc
row_clears choice Names.Unknown card index argument may = cc

obeyed_clears : (none : Bool) (index bits : ℕ) (card : Card) (step : Card × CardAnswer) → step.0.errors ≡ 0
    → (cond none step (hindered bits card index)).0.errors ≡ 0
obeyed_clears true index bits card step clear = clear
obeyed_clears false index bits card step clear = refl

-- whether a command is carried out doesn't rest on error bits
legal_raised : (bits : ℕ) (command : Meaning) (card : Card) → is_legal command (raised bits card) ≡ is_legal command card
legal_raised bits Names.Erase card = refl
legal_raised bits _ card = refl

clears : (choice : Choice) (bits : ℕ) (command : Meaning) (card : Card) (index argument : ℕ)
    → may_find_now command card argument ≡ true → (responded choice command (raised bits card) index argument).0.errors ≡ 0
clears choice bits command card index argument finds =
    let its_own = not (is_foreign command card argument) in
    let parts = and_true (may_find command && its_own) (is_legal command card) finds in
    let own = and_true (may_find command) its_own parts.0 in
    let met = reached choice command (raised bits card) in
    rw (is_false (is_foreign command card argument) own.1, legal_raised bits command card ∙ parts.1)
    (obeyed_clears (found choice command == 0) index (found choice command) met (row choice command met index argument)
    (row_clears choice command met index argument own.0))

clears_all : (choice : Choice) (bits : ℕ) (card : Card) (sent : Option (ℕ × ℕ)) → can_find card sent ≡ true
    → (answered choice (raised bits card) sent).0.errors ≡ 0
clears_all choice bits card (Some command) finds =
    clears choice bits (command_of card.made.kind card.app command.0) card command.0 command.1 finds
clears_all choice bits card None finds = cc

-- it is one of those
can_may : (card : Card) (sent : Option (ℕ × ℕ)) → can_find card sent ≡ true → may_find_frame card sent ≡ true
can_may card (Some command) finds =
    let meaning = command_of card.made.kind card.app command.0 in
    let its_own = not (is_foreign meaning card command.1) in
    (and_true (may_find meaning) its_own (and_true (may_find meaning && its_own) (is_legal meaning card) finds).0).0
can_may card None finds = cc

-- what is left over alone, and errors of execution alone
left_alone : (left : ℕ) (card : Card) → showing left 0 card ≡ left_with left card
left_alone left card = ap (λ (n : ℕ). record (left_with left card) { errors = n }) (or_zero_r card.errors)

found_alone : (found : ℕ) (card : Card) → showing 0 found card ≡ raised found card
found_alone found card = ap (λ (n : ℕ). record (raised found card) { command_errors = n }) (or_zero_r card.command_errors)

-- where nothing comes nothing is taken
nothing_heard : (sent : Option (ℕ × ℕ)) (answer : CardAnswer) (reply : Reply) → reply ≡ Came.Silent → IsRefused sent answer reply
nothing_heard sent answer reply silent = subst (IsRefused sent answer) (sym silent) tt

-- a write may find an error
writes_by : (command : Meaning) → is_write command ≡ true → may_find command ≡ true
writes_by Names.WriteBlock h = refl
writes_by Names.WriteMultipleBlock h = refl
writes_by _ h = cc

writes_find : (card : Card) (sent : Option (ℕ × ℕ)) → is_write_frame card sent ≡ true → may_find_frame card sent ≡ true
writes_find card (Some command) h = writes_by (command_of card.made.kind card.app command.0) h
writes_find card None h = cc

-- the choice of a card whose switch fails
abbrev failing_choice : Bool → Delays → Card → Choice
failing_choice late delays card = record (command_choice delays card) { fails_switch = true; says_late = late }

module _ (plan : List Planned) (old new : Card) (delays : Delays) (soon : delays.ready ≤ patience)
    (bare : delays.finds ≡ 0) (k : IsCard old) (laws : FlipLaws) (faults later : ℕ) (before after : Wire) where
  -- it finds nothing
  finds_none : (command_choice delays old).finds ≡ 0
  finds_none = ap (λ n. n / 2 ^ 13) bare

  failed_switch : (late : Bool) (frame : List ℕ) (reply : Reply) → later ≡ faults + 1
      → is_switch_frame old (command_in frame) ≡ true → new ≡ (failing late old).0 → Spells (failing late old).1 reply
      → MeetsCommand (kept_with plan old faults before) frame reply (kept_with plan new later after)
  failed_switch late frame reply one fits card heard =
      let is = fails_to_switch (failing_choice late delays old) old (command_in frame) refl finds_none refl fits in
      fail_switch (failing_choice late delays old) refl fits one (card ∙ ap (λ (x : Card × CardAnswer). x.0) is)
      (replies_as_is old _ reply (subst (λ (x : Card × CardAnswer). Spells x.1 reply) is heard))

  left_over : (left : ℕ) (frame : List ℕ) (reply : Reply) → AreAmong left command_error_bits → (left + 0 ≡ 0 → ⊥) → later ≡ faults + 1
      → new ≡ (heeded delays (left_with left old) frame).0 → Spells (heeded delays (left_with left old) frame).1 reply
      → MeetsCommand (kept_with plan old faults before) frame reply (kept_with plan new later after)
  left_over left frame reply among some one card heard =
      let choice = command_choice delays old in
      let e = sym (left_alone left old) in
      show_errors choice left 0 among refl some (inl refl) (timely delays old soon, refl, finds_none) one
      (card ∙ ap (λ (c : Card). (answered choice c (command_in frame)).0) e)
      (subst (λ (c : Card). Replies old (answered choice c (command_in frame)).1 reply) e (_, said_is old.made.kind delays _, heard))

  command_fault : (fault : Option Fault) (frame : List ℕ) (reply : Reply) → later ≡ faults + 1
      → fits_command fault delays old frame ≡ true
      → new ≡ after_command fault delays old frame → IsHeard fault (done_in fault delays old frame).1 reply
      → MeetsCommand (kept_with plan old faults before) frame reply (kept_with plan new later after)
  command_fault None frame reply one fits card heard = cc
  command_fault (Some Is.LoseCommand) frame reply one fits card heard = lose_command one card heard
  command_fault (Some (Is.FlipCommand flips)) frame reply one fits card heard = flip_command false one card heard
  command_fault (Some Is.LoseReply) frame reply one fits card heard =
      lose_reply (command_choice delays old) (timely delays old soon) one card
      (λ none. cc (ap (λ answer. is_answer (said_as delays answer)) none, fits)) (nothing_heard _ _ reply heard)
  command_fault (Some (Is.FlipReply flips)) frame reply one fits card heard =
      let lost = lost_by_flips laws (command_choice delays old) delays old (command_in frame) flips reply k fits heard in
      lose_reply (command_choice delays old) (timely delays old soon) one card lost.0 lost.1
  command_fault (Some Is.FailSwitch) frame reply one fits card heard = failed_switch false frame reply one fits card heard
  command_fault (Some Is.FailSwitchLate) frame reply one fits card heard =
      failed_switch true frame reply one fits card heard
  command_fault (Some Is.LoseFailedSwitch) frame reply one fits card heard =
      let is = fails_to_switch (failing_choice false delays old) old (command_in frame) refl finds_none refl fits in
      lose_reply (failing_choice false delays old) (timely delays old soon) one
      (card ∙ ap (λ (x : Card × CardAnswer). x.0) is)
      (λ none. cc (ap (λ (x : Card × CardAnswer). x.1) is, none)) (nothing_heard _ _ reply heard)
  command_fault (Some Is.FindProtection) frame reply one fits card heard =
      find_error (command_choice (finding protection delays) old) (refl, λ none. cc)
      (timely (finding protection delays) old soon).0
      (writes_find old (command_in frame) (and_true (is_write_frame old (command_in frame)) (is_in old.state Tran) fits).0) one card
      (_, said_is old.made.kind (finding protection delays) _, heard)
  command_fault (Some (Is.FindError bits)) frame reply one fits card heard =
      let parts = and_true (are_of_execution bits) (can_find old (command_in frame)) fits in
      find_error (command_choice (finding bits delays) old) (execution_held bits parts.0)
      (timely (finding bits delays) old soon).0 (can_may old (command_in frame) parts.1) one card
      (_, said_is old.made.kind (finding bits delays) _, heard)
  command_fault (Some (Is.LeaveOver ComCrc)) frame reply one fits card heard =
      left_over com_crc_error frame reply refl (λ none. cc) one card heard
  command_fault (Some (Is.LeaveOver Illegal)) frame reply one fits card heard =
      left_over illegal_command frame reply refl (λ none. cc) one card heard
  command_fault (Some (Is.ShowError bits)) frame reply one fits card heard =
      let parts = and_true (are_of_execution bits) (can_find old (command_in frame)) fits in
      let of = execution_held bits parts.0 in
      let found = bits / 2 ^ 13 in
      let choice = command_choice delays old in
      let e = sym (found_alone found old) in
      show_errors choice 0 found refl of.0 (λ none. of.1 (omega (arith, none)))
      (inr (ap (λ (c : Card). c.errors) card ∙ clears_all choice found old (command_in frame) parts.1))
      (timely delays old soon, refl, finds_none) one
      (card ∙ ap (λ (c : Card). (answered choice c (command_in frame)).0) e)
      (subst (λ (c : Card). Replies old (answered choice c (command_in frame)).1 reply) e (_, said_is old.made.kind delays _, heard))
  command_fault (Some (Is.Brownout outcome)) frame reply one fits card heard =
      command_brownout (choice_of false) (lands_by outcome) delays.keeps_length false
      ((λ slow. absurd cc, λ behind. absurd cc), refl, refl) one card
      (nothing_heard _ _ reply heard)
  command_fault (Some Is.BadBlock) frame reply one fits card heard = cc
  command_fault (Some Is.NoBlock) frame reply one fits card heard = cc
  command_fault (Some Is.ReadError) frame reply one fits card heard = cc
  command_fault (Some Is.Reject) frame reply one fits card heard = cc
  command_fault (Some Is.RejectAll) frame reply one fits card heard = cc
  command_fault (Some (Is.LoseStatus outcome)) frame reply one fits card heard = cc
  command_fault (Some (Is.Fail outcome)) frame reply one fits card heard = cc
  command_fault (Some (Is.FailWith outcome bits)) frame reply one fits card heard = cc
  command_fault (Some Is.Busy) frame reply one fits card heard = cc
  command_fault (Some Is.LoseBlock) frame reply one fits card heard = cc
  command_fault (Some Is.RejectBusy) frame reply one fits card heard = cc
  command_fault (Some (Is.FailEarly outcome bits)) frame reply one fits card heard = cc
  command_fault (Some (Is.FailUnseen outcome bits)) frame reply one fits card heard = cc

  pub command_met : (fault : Option Fault) (frame : List ℕ) (reply : Reply) (fell : Bool)
      → later ≡ (if fell then faults + 1 else faults)
      → Commands fault delays old frame reply fell new
      → MeetsCommand (kept_with plan old faults before) frame reply (kept_with plan new later after)
  command_met fault frame reply false counts does =
      does_command (command_choice delays old) (timely delays old soon, refl, finds_none) counts (does.card refl)
      (_, said_is old.made.kind delays _, does.answer refl)
  command_met fault frame reply true counts does =
      command_fault fault frame reply counts (sym does.fell_is) (does.fault_card refl) (does.fault_reply refl)

-- Blocks.

-- no error bits more
raised_none : (card : Card) → raised 0 card ≡ card
raised_none card = ap (λ (n : ℕ). record card { errors = n }) (or_zero_r card.errors)

module _ (plan : List Planned) (old new : Card) (delays : Delays) (faults later : ℕ) (before after : Wire) where
  -- Blocks that the host reads.

  read_fault : (fault : Option Fault) (size : ℕ) (got : DataIn) (block : List ℕ) → later ≡ faults + 1
      → fits_read fault old before.lines size ≡ true
      → new ≡ after_read fault delays old → got ≡ read_in fault → ReadStep (kept_with plan old faults before) size got block
      (kept_with plan new later after)
  read_fault (Some Is.BadBlock) size got block one fits card answer =
      spoil (choice_of false) 0 true true refl fits one (card ∙ sym (raised_none (sent (choice_of false) old))) answer
  read_fault (Some Is.NoBlock) size got block one fits card answer =
      spoil (choice_of false) 0 true false refl fits one (card ∙ sym (raised_none (sent (choice_of false) old))) answer
  read_fault (Some Is.ReadError) size got block one fits card answer =
      spoil (choice_of false) card_ecc_failed false false refl fits one card answer
  read_fault (Some (Is.Brownout outcome)) size got block one fits card answer =
      read_brownout (choice_of false) (lands_by outcome) delays.keeps_length false one card answer
  read_fault None size got block one fits card answer = cc
  read_fault (Some Is.LoseCommand) size got block one fits card answer = cc
  read_fault (Some (Is.FlipCommand flips)) size got block one fits card answer = cc
  read_fault (Some Is.LoseReply) size got block one fits card answer = cc
  read_fault (Some (Is.FlipReply flips)) size got block one fits card answer = cc
  read_fault (Some Is.FailSwitch) size got block one fits card answer = cc
  read_fault (Some Is.FailSwitchLate) size got block one fits card answer = cc
  read_fault (Some (Is.LeaveOver error)) size got block one fits card answer = cc
  read_fault (Some (Is.ShowError bits)) size got block one fits card answer = cc
  read_fault (Some Is.Busy) size got block one fits card answer = cc
  read_fault (Some Is.Reject) size got block one fits card answer = cc
  read_fault (Some Is.RejectAll) size got block one fits card answer = cc
  read_fault (Some (Is.LoseStatus outcome)) size got block one fits card answer = cc
  read_fault (Some (Is.Fail outcome)) size got block one fits card answer = cc
  read_fault (Some (Is.FailWith outcome bits)) size got block one fits card answer = cc
  read_fault (Some Is.LoseFailedSwitch) size got block one fits card answer = cc
  read_fault (Some Is.FindProtection) size got block one fits card answer = cc
  read_fault (Some (Is.FindError bits)) size got block one fits card answer = cc
  read_fault (Some Is.LoseBlock) size got block one fits card answer = cc
  read_fault (Some Is.RejectBusy) size got block one fits card answer = cc
  read_fault (Some (Is.FailEarly outcome bits)) size got block one fits card answer = cc
  read_fault (Some (Is.FailUnseen outcome bits)) size got block one fits card answer = cc

  read_step : (fault : Option Fault) (size : ℕ) (got : DataIn) (block : List ℕ) (fell : Bool)
      → later ≡ (if fell then faults + 1 else faults)
      → Reads fault delays old before.lines size got block fell new
      → ReadStep (kept_with plan old faults before) size got block
      (kept_with plan new later after)
  read_step fault size got block false counts does =
      let s = does.sends refl in does_read (choice_of false) counts s.card s.got_is s.block_is
  read_step fault size got block true counts does =
      read_fault fault size got block counts (sym does.fell_is) (does.fault_card refl) (does.fault_got refl)

  pub data_read : (fault : Option Fault) (size : ℕ) (got : DataIn) (block : List ℕ) (fell : Bool)
      → later ≡ (if fell then faults + 1 else faults)
      → Reads fault delays old before.lines size got block fell new → IsCard old → Notes before (In size got) after
      → later + to_come plan after.exchanges ≤ faults + to_come plan before.exchanges
      → DataRead (kept_with plan old faults before) size got block (kept_with plan new later after) × IsCard new
  data_read fault size got block fell counts does k notes in_bounds =
      let step = read_step fault size got block fell counts does in
      let is = read_leaves_card (kept_with plan old faults before) size got block (kept_with plan new later after)
      step k in
      (exchanged plan old new faults later before after (In size got) notes in_bounds k is step, is)

  -- Blocks that the host writes.

  write_fault : (fault : Option Fault) (block : Sector) (got : DataOut) → later ≡ faults + 1
      → fits_write fault old before.lines ≡ true
      → new ≡ after_write fault delays old block → got ≡ written_out fault
      → MeetsBlock (kept_with plan old faults before) block got (kept_with plan new later after)
  write_fault (Some Is.LoseBlock) block got one fits card answer = lose_block fits one card answer
  write_fault (Some Is.RejectBusy) block got one fits card answer =
      reject 0 false true refl fits one (card ∙ sym (raised_none _)) answer
  write_fault (Some Is.Reject) block got one fits card answer =
      reject 0 false false refl fits one (card ∙ sym (raised_none _)) answer
  write_fault (Some Is.RejectAll) block got one fits card answer =
      reject 0 (not old.is_single) false refl fits one (card ∙ sym (raised_none _)) answer
  write_fault (Some (Is.LoseStatus Old)) block got one fits card answer =
      lose_status 0 false false false refl fits one (card ∙ sym (raised_none _)) answer
  write_fault (Some (Is.LoseStatus New)) block got one fits card answer =
      lose_status 0 true false false refl fits one (card ∙ sym (raised_none _)) answer
  write_fault (Some (Is.Brownout outcome)) block got one fits card answer =
      write_brownout (lands_by outcome) delays.keeps_length false one card answer
  write_fault None block got one fits card answer = cc
  write_fault (Some Is.LoseCommand) block got one fits card answer = cc
  write_fault (Some (Is.FlipCommand flips)) block got one fits card answer = cc
  write_fault (Some Is.LoseReply) block got one fits card answer = cc
  write_fault (Some (Is.FlipReply flips)) block got one fits card answer = cc
  write_fault (Some Is.FailSwitch) block got one fits card answer = cc
  write_fault (Some Is.FailSwitchLate) block got one fits card answer = cc
  write_fault (Some (Is.LeaveOver error)) block got one fits card answer = cc
  write_fault (Some (Is.ShowError bits)) block got one fits card answer = cc
  write_fault (Some Is.Busy) block got one fits card answer = cc
  write_fault (Some Is.BadBlock) block got one fits card answer = cc
  write_fault (Some Is.NoBlock) block got one fits card answer = cc
  write_fault (Some Is.ReadError) block got one fits card answer = cc
  write_fault (Some (Is.Fail outcome)) block got one fits card answer = cc
  write_fault (Some (Is.FailWith outcome bits)) block got one fits card answer = cc
  write_fault (Some Is.LoseFailedSwitch) block got one fits card answer = cc
  write_fault (Some Is.FindProtection) block got one fits card answer = cc
  write_fault (Some (Is.FindError bits)) block got one fits card answer = cc
  write_fault (Some (Is.FailEarly outcome bits)) block got one fits card answer = cc
  write_fault (Some (Is.FailUnseen outcome bits)) block got one fits card answer = cc

  pub block_met : (fault : Option Fault) (block : Sector) (got : DataOut) (fell : Bool)
      → later ≡ (if fell then faults + 1 else faults)
      → Writes fault delays old before.lines block got fell new → MeetsBlock (kept_with plan old faults before) block got
      (kept_with plan new later after)
  block_met fault block got false counts does = does_write counts (does.card refl) (does.got_is refl)
  block_met fault block got true counts does =
      write_fault fault block got counts (sym does.fell_is) (does.fault_card refl) (does.fault_got refl)

-- Polls.

slow_within : (early planned : Bool) (limit polled : ℕ) → limit ≤ patience → early ≡ nat_lt polled limit
    → (early || (planned && nat_lt polled patience)) ≡ true
    → polled < patience
slow_within true planned limit polled few early slow = few_times limit polled few (sym early)
slow_within false true limit polled few early slow = few_times patience polled (omega arith) slow
slow_within false false limit polled few early slow = cc

soon_rested : (fault : Option Fault) (delays : Delays) (card : Card) → delays.busy ≤ patience
    → IsPatient (poll_choice fault delays card) card.polled
soon_rested fault delays card few slow =
    slow_within (nat_lt card.polled delays.busy) (is_busy_fault fault) delays.busy card.polled few refl slow

at_least : (limit times : ℕ) → nat_le limit times ≡ true → limit ≤ times
at_least limit times h = grind (arith, nat_tests, h)

module _ (plan : List Planned) (old new : Card) (delays : Delays) (soon : delays.busy ≤ patience) (faults later : ℕ)
    (before after : Wire) where
  -- with these error bits, in prg or in rcv
  failed_by : (bits : ℕ) (lands : ℕ → Bool) (said : Bool) → AreOfExecution (bits / 2 ^ 13) → (programs : Bool)
      → programs ≡ may_fail old → (programs || may_fall_short old) ≡ true → later ≡ faults + 1
      → new ≡ raised (bits / 2 ^ 13) (failed lands old) → said ≡ false
      → PollStep (kept_with plan old faults before) said (kept_with plan new later after)
  failed_by bits lands said of true programs fits one card is =
      let parts = and_true (is_in old.state Prg) (not old.is_switching) (sym programs) in
      fail lands (bits / 2 ^ 13) of parts.0 (is_false old.is_switching parts.1) one
      (card ∙ ap (raised (bits / 2 ^ 13)) (rw parts.0 refl)) is
  failed_by bits lands said of false programs fits one card is =
      let parts = and_true (is_in old.state Rcv) _ fits in
      fall_short lands (bits / 2 ^ 13) false of parts.0 (and_true old.is_busy _ parts.1).0 one
      (card ∙ ap (raised (bits / 2 ^ 13)) (rw (in_state old.state Rcv parts.0) refl)) is

  poll_fault : (fault : Option Fault) (said : Bool) → later ≡ faults + 1 → fits_poll fault old ≡ true
      → new ≡ after_poll fault delays old → said ≡ says_yes fault
      → PollStep (kept_with plan old faults before) said (kept_with plan new later after)
  poll_fault (Some (Is.Fail outcome)) said one fits card is =
      let parts = and_true (is_in old.state Prg) (not old.is_switching) fits in
      fail (lands_by outcome) general_error (refl, λ none. cc) parts.0 (is_false old.is_switching parts.1) one card is
  poll_fault (Some (Is.FailWith outcome bits)) said one fits card is =
      let parts = and_true (are_of_execution bits) (may_fail old || may_fall_short old) fits in
      failed_by bits (lands_by outcome) said (execution_held bits parts.0) (may_fail old) refl parts.1 one card is
  poll_fault (Some (Is.FailEarly outcome bits)) said one fits card is =
      let parts = and_true (are_of_execution bits) (may_fail old && old.is_busy) fits in
      let state = and_true (may_fail old) old.is_busy parts.1 in
      let programs = and_true (is_in old.state Prg) (not old.is_switching) state.0 in
      fail_early (lands_by outcome) (bits / 2 ^ 13) (execution_held bits parts.0) programs.0
      (is_false old.is_switching programs.1) state.1 one card is
  poll_fault (Some Is.Busy) said one fits card is =
      let parts = and_true old.is_busy (nat_le patience old.polled) fits in
      busy parts.0 (at_least patience old.polled parts.1) one card is
  poll_fault (Some (Is.Brownout outcome)) said one fits card is =
      poll_brownout (choice_of false) (lands_by outcome) delays.keeps_length false (λ slow. absurd cc) one card is
  poll_fault None said one fits card is = cc
  poll_fault (Some Is.LoseCommand) said one fits card is = cc
  poll_fault (Some (Is.FlipCommand flips)) said one fits card is = cc
  poll_fault (Some Is.LoseReply) said one fits card is = cc
  poll_fault (Some (Is.FlipReply flips)) said one fits card is = cc
  poll_fault (Some Is.FailSwitch) said one fits card is = cc
  poll_fault (Some Is.FailSwitchLate) said one fits card is = cc
  poll_fault (Some (Is.LeaveOver error)) said one fits card is = cc
  poll_fault (Some (Is.ShowError bits)) said one fits card is = cc
  poll_fault (Some Is.BadBlock) said one fits card is = cc
  poll_fault (Some Is.NoBlock) said one fits card is = cc
  poll_fault (Some Is.ReadError) said one fits card is = cc
  poll_fault (Some Is.Reject) said one fits card is = cc
  poll_fault (Some Is.RejectAll) said one fits card is = cc
  poll_fault (Some (Is.LoseStatus outcome)) said one fits card is = cc
  poll_fault (Some Is.LoseFailedSwitch) said one fits card is = cc
  poll_fault (Some Is.FindProtection) said one fits card is = cc
  poll_fault (Some (Is.FindError bits)) said one fits card is = cc
  poll_fault (Some Is.LoseBlock) said one fits card is = cc
  poll_fault (Some Is.RejectBusy) said one fits card is = cc
  poll_fault (Some (Is.FailUnseen outcome bits)) said one fits card is = cc

  poll_step : (fault : Option Fault) (said fell : Bool) → later ≡ (if fell then faults + 1 else faults)
      → Polls fault delays old said fell new
      → PollStep (kept_with plan old faults before) said (kept_with plan new later after)
  poll_step fault said false counts does =
      does_poll (poll_choice fault delays old) (soon_rested fault delays old soon) counts (does.card refl)
      (does.said_is refl)
  poll_step fault said true counts does =
      poll_fault fault said counts (sym does.fell_is) (does.fault_card refl) (does.fault_said refl)

  pub polled : (fault : Option Fault) (said fell : Bool) → later ≡ (if fell then faults + 1 else faults)
      → Polls fault delays old said fell new → IsCard old → Notes before (Busy said) after
      → later + to_come plan after.exchanges ≤ faults + to_come plan before.exchanges
      → Polled (kept_with plan old faults before) said (kept_with plan new later after) × IsCard new
  polled fault said fell counts does k notes in_bounds =
      let step = poll_step fault said fell counts does in
      let is = poll_leaves_card (kept_with plan old faults before) said (kept_with plan new later after) step k in
      (exchanged plan old new faults later before after (Busy said) notes in_bounds k is step, is)

-- What holds of the card in memory.

-- faults that fell, and those that are planned for exchanges to come
pub in_all : (sim : SimView) (fault : Option Fault) (fell : Bool) (later : ℕ) (exchange : Exchange) (after : Wire)
    → SimOk sim → fault ≡ fault_at sim.plan sim.wire.exchanges → (fault ≡ None → fell ≡ false)
    → later ≡ (if fell then sim.faults + 1 else sim.faults) → Notes sim.wire exchange after
    → later + to_come sim.plan after.exchanges ≤ sim.faults + to_come sim.plan sim.wire.exchanges
in_all sim fault fell later exchange after ok is unplanned counts notes =
    spent sim.plan fault fell sim.faults later sim.wire.exchanges after.exchanges is unplanned
    ok.never ok.bounded counts
    notes.exchanges

fell_some : (fell : Bool) (fault : Option _) (plan : List Planned) (exchanges : ℕ) → fault ≡ fault_at plan exchanges
    → (fault ≡ None → fell ≡ false)
    → fault_at plan (2 ^ 64 - 1) ≡ None → fell ≡ true → exchanges ≡ 2 ^ 64 - 1 → ⊥
fell_some fell fault plan exchanges is unplanned none did last =
    cc (unplanned (is ∙ ap (fault_at plan) last ∙ none), did)

few_more : (fell : Bool) (faults later exchanges made : ℕ) → faults ≤ exchanges → exchanges ≤ 2 ^ 64 - 1
    → (fell ≡ true → exchanges ≡ 2 ^ 64 - 1 → ⊥) → later ≡ (if fell then faults + 1 else faults)
    → made ≡ min (exchanges + 1) (2 ^ 64 - 1)
    → later ≤ made
few_more true faults later exchanges made few small apart counts is =
    let other : exchanges ≡ 2 ^ 64 - 1 → ⊥ = apart refl in
    omega (arith, few, small, other, counts, is)
few_more false faults later exchanges made few small apart counts is = omega (arith, few, small, counts, is)

-- a fault that falls can be counted
pub room : (sim : SimView) (fault : Option Fault) (fell : Bool) → SimOk sim
    → fault ≡ fault_at sim.plan sim.wire.exchanges → (fault ≡ None → fell ≡ false) → fell ≡ true
    → sim.faults < 2 ^ 64 - 1
room sim fault fell ok is unplanned did =
    let other : sim.wire.exchanges ≡ 2 ^ 64 - 1 → ⊥ =
    λ last. fell_some fell fault sim.plan sim.wire.exchanges is unplanned ok.never did last in
    omega (arith, ok.few, ok.bounded, other)

pub waits_on : (old noted new : Delays) → KeepsWaits old noted → KeepsWaits noted new → KeepsWaits old new
waits_on old noted new first second = record {
  ready = second.ready ∙ first.ready;
  busy = second.busy ∙ first.busy;
  finds = second.finds ∙ first.finds;
}

-- the card in memory after an exchange
pub still_ok : (old new : SimView) (fault : Option Fault) (fell : Bool) (exchange : Exchange)
    → SimOk old → KeepsWaits old.delays new.delays → new.plan ≡ old.plan → fault ≡ fault_at old.plan old.wire.exchanges
    → (fault ≡ None → fell ≡ false) → new.faults ≡ (if fell then old.faults + 1 else old.faults)
    → Notes old.wire exchange new.wire → IsCard new.card → SimOk new
still_ok old new fault fell exchange ok waits plan is unplanned counts notes card = record {
  is_card = card;
  soon_ready = rw waits.ready ok.soon_ready;
  soon_rested = rw waits.busy ok.soon_rested;
  finds_none = waits.finds ∙ ok.finds_none;
  few = few_more fell old.faults new.faults old.wire.exchanges new.wire.exchanges ok.few ok.bounded
      (λ did last. fell_some fell fault old.plan old.wire.exchanges is unplanned ok.never did last) counts
      notes.exchanges;
  bounded = (let made = notes.exchanges in omega (arith, made));
  never = rw plan ok.never;
}

-- The exchanges before which time passes.

-- no fault falls in the time that fits what comes after it too
pub no_command_fits : (fault : Option Fault) (first : Card) (delays : Delays) (card : Card) (frame : List ℕ)
    → fits_time fault first ≡ true → fits_command fault delays card frame ≡ false
no_command_fits (Some (Is.FailUnseen outcome bits)) first delays card frame fits = refl
no_command_fits _ first delays card frame fits = cc

pub no_write_fits : (fault : Option Fault) (first card : Card) (lines : Lines) → fits_time fault first ≡ true
    → fits_write fault card lines ≡ false
no_write_fits (Some (Is.FailUnseen outcome bits)) first card lines fits = refl
no_write_fits _ first card lines fits = cc

-- so it is counted once
counted_once : (unseen later : Bool) (faults : ℕ) → (unseen ≡ true → later ≡ false)
    → counted (unseen || later) faults ≡ counted later (counted unseen faults)
counted_once true true faults apart = cc (apart refl)
counted_once true false faults apart = refl
counted_once false later faults apart = refl

-- none falls that isn't planned
pub none_planned : (fault : Option Fault) (unseen later : Bool) (first : Card) → unseen ≡ fits_time fault first
    → (fault ≡ None → later ≡ false) → fault ≡ None → (unseen || later) ≡ false
none_planned fault unseen later first is unplanned none =
    let no_time : unseen ≡ false = is ∙ ap (λ f. fits_time f first) none in rw no_time (unplanned none)

-- they are steps of the card as it was before
module _ (sim : SimView) (ok : SimOk sim) (fault : Option Fault) (delays : Delays) (waits : KeepsWaits sim.delays delays) (met_card : Card)
    (before : Bool) (is : met_card ≡ card_met fault sim) (was : before ≡ fits_time fault sim.card) (new : Card) (fell : Bool) (later : ℕ)
    (after : Wire) (counts : later ≡ counted (before || fell) sim.faults) where
  met_is : kept_with sim.plan met_card (counted before sim.faults) sim.wire ≡ sim_bus_view (met fault sim)
  met_is =
      ap (λ (c : Card). kept_with sim.plan c (counted before sim.faults) sim.wire) is
      ∙ ap (λ b. kept_with sim.plan (card_met fault sim) (counted b sim.faults) sim.wire) was

  met_is_card : IsCard met_card
  met_is_card = subst IsCard (sym is) (card_in_time _ _ (time_passes fault sim) ok.is_card)

  counted_then : (fits_time fault sim.card ≡ true → fell ≡ false) → later ≡ counted fell (counted before sim.faults)
  counted_then apart = counts ∙ counted_once before fell sim.faults (λ did. apart (sym was ∙ did))

  -- as the planned fault says it
  pub counts_as : (fits : Delays → Card → Bool) → (fits_time fault sim.card ≡ true → fell ≡ false) → fell ≡ fits delays met_card
      → delays ≡ moved_on sim.delays sim.card.state met_card.state
      → later ≡ counted (fits (met fault sim).delays (met fault sim).card) (met fault sim).faults
  counts_as fits apart fell_is moved =
      counted_then apart
      ∙ ap (λ b. counted b (counted before sim.faults)) (fell_is ∙ ap (λ d. fits d met_card) moved
      ∙ ap (λ (c : Card). fits (moved_on sim.delays sim.card.state c.state) c) is)
      ∙ ap (λ b. counted (fits (met fault sim).delays (met fault sim).card) (counted b sim.faults)) was

  pub commanded : FlipLaws → (frame : List ℕ) (want : Want) (reply : Reply) → Commands fault delays met_card frame reply fell new
      → Notes sim.wire (Command frame want reply) after
      → later + to_come sim.plan after.exchanges ≤ sim.faults + to_come sim.plan sim.wire.exchanges
      → Commanded (sim_bus_view sim) frame want reply (kept_with sim.plan new later after) × IsCard new
  commanded laws frame want reply does notes in_bounds =
      let now = kept_with sim.plan new later after in
      let meets : MeetsCommand (sim_bus_view (met fault sim)) frame reply now =
      subst (λ (m : BusView). MeetsCommand m frame reply now) met_is
      (command_met sim.plan met_card new delays (rw waits.ready ok.soon_ready) (waits.finds ∙ ok.finds_none) met_is_card laws
      (counted before sim.faults) later sim.wire after fault frame reply fell
      (counted_then (λ fits. does.fell_is ∙ no_command_fits fault sim.card delays met_card frame fits)) does) in
      let step : CommandStep (sim_bus_view sim) frame reply now =
      record { met = sim_bus_view (met fault sim); passes = time_passes fault sim; meets = meets } in
      let new_is = step_leaves_card (sim_bus_view sim) frame reply now step ok.is_card in (
        exchanged sim.plan sim.card new sim.faults later sim.wire after (Command frame want reply) notes in_bounds ok.is_card new_is step,
        new_is,
      )

  pub data_written : (block : Sector) (got : DataOut) → Writes fault delays met_card sim.wire.lines block got fell new
      → IsBlock block → Notes sim.wire (Out got) after
      → later + to_come sim.plan after.exchanges ≤ sim.faults + to_come sim.plan sim.wire.exchanges
      → DataWritten (sim_bus_view sim) block got (kept_with sim.plan new later after) × IsCard new
  data_written block got does size notes in_bounds =
      let now = kept_with sim.plan new later after in
      let meets : MeetsBlock (sim_bus_view (met fault sim)) block got now =
      subst (λ (m : BusView). MeetsBlock m block got now) met_is
      (block_met sim.plan met_card new delays (counted before sim.faults) later sim.wire after fault block got fell
      (counted_then (λ fits. does.fell_is ∙ no_write_fits fault sim.card met_card sim.wire.lines fits)) does) in
      let step : WriteStep (sim_bus_view sim) block got now =
      record { met = sim_bus_view (met fault sim); passes = time_passes fault sim; meets = meets } in
      let new_is = block_leaves_card (sim_bus_view sim) block got now size step ok.is_card in
      (exchanged sim.plan sim.card new sim.faults later sim.wire after (Out got) notes in_bounds ok.is_card new_is step, new_is)
