-- Each row leaves a card.
use Rattle.std.proofs.Common.{◌&&◌, ◌||◌, ◌∙◌, ◌≡◌, Bool, List, [], ap, false, inl, inr, not, refl, true, ℕ}
use Rattle.std.specs.Prelude.{◌==◌, None, Option, Some, if◌then◌else◌}
use Rattle.mmc_frame.specs.Frame.{command_in}
use Rattle.mmc_frame.specs.declared.card_state.State.{State}
use Rattle.mmc_frame.specs.declared.card_state.State.TheVariants.{Data, Dis, Ident, Idle, Prg, Rcv, Ready, Stby, Tran}
use Rattle.mmc_card.specs.declared.exchange.DataIn.{DataIn}
use Rattle.mmc_card.specs.declared.exchange.DataOut.{DataOut}
use Rattle.mmc_card.specs.declared.exchange.Reply.{Reply}
use Rattle.mmc_card.proofs.ByteLemmas.{erased_block}
use Rattle.mmc_card.proofs.Cards.{IsBasic, IsLike, among_more, apart_card, blocks_replicate, blocks_snoc, card_app}
use Rattle.mmc_card.proofs.Cards.{card_done, card_fallen_early, card_fallen_short, card_forgotten, card_garbled, card_left, card_programmed, card_raised, card_reached}
use Rattle.mmc_card.proofs.Cards.{card_told}
use Rattle.mmc_card.proofs.Cards.{card_refused, card_reset, card_rested, card_shown, card_slow, chosen_card, in_state}
use Rattle.mmc_card.proofs.Cards.{like_done, like_same, like_shown, stays_card}
use Rattle.mmc_card.proofs.Conditions.{along, by_cond, first_by_cond}
use Rattle.mmc_card.proofs.Narrow.{AreSwitched, accepts_in_rcv, both, may_switch, sends_data}
use Rattle.mmc_card.proofs.Responses.{after_answer, after_response}
use Rattle.mmc_card.proofs.Steps.{after_command, after_write, after_poll, after_read}
use Rattle.mmc_card.specs.CardAnswer.{Choice, raised}
use Rattle.mmc_card.specs.Blocks.{accepted, end_errors, ignoring, is_last, over, rejected, sent_from}
use Rattle.mmc_card.specs.Card.{AreAmong, AreBlocks, Both, Card, First, FromBytes, FromSectors, Held, IsBlock}
use Rattle.mmc_card.specs.Card.{NoAddress, Source, is_in, is_selected, is_writing}
use Rattle.mmc_card.specs.ErrorBits.{erase_reset, error_bits, out_of_range}
use Rattle.mmc_card.specs.Faults.{MeetsBlock, MeetsCommand, PollStep, ReadStep}
use Rattle.mmc_card.specs.Made.{erased_sector, has_cmd23, has_switch_function, is_mmc}
use Rattle.mmc_card.specs.declared.command.Command.{Command}
use Rattle.mmc_card.specs.declared.command.Command.TheVariants.{SdSendOpCond, SendScr, SetBusWidth, AllSendCid, AppCmd}
use Rattle.mmc_card.specs.declared.command.Command.TheVariants.{Erase, EraseEnd, EraseStart, GoIdleState}
use Rattle.mmc_card.specs.declared.command.Command.TheVariants.{ReadMultipleBlock, ReadSingleBlock, SelectCard, SendCsd}
use Rattle.mmc_card.specs.declared.command.Command.TheVariants.{SendExtCsd, SendIfCond, SendOpCond, SendRelativeAddr}
use Rattle.mmc_card.specs.declared.command.Command.TheVariants.{SendStatus, SetBlockCount, SetBlocklen, SetRelativeAddr}
use Rattle.mmc_card.specs.declared.command.Command.TheVariants.{StopTransmission, Switch, SwitchFunc, Unknown}
use Rattle.mmc_card.specs.declared.command.Command.TheVariants.{WriteBlock, WriteMultipleBlock}
use Rattle.mmc_card.specs.Rows.{answered, is_legal, leaves_erase, reached, responded, row}
use Rattle.mmc_card.specs.RowsErase.{erase_held, erases, erasing, forgotten, hold_first, hold_last, holds_address}
use Rattle.mmc_card.specs.RowsErase.{is_no_range, is_trim}
use Rattle.mmc_card.specs.RowsIdentify.{inquired, is_served, may_lag}
use Rattle.mmc_card.specs.RowsSwitch.{ext_csd_now, is_read, reread, switch_row, switch_source}
use Rattle.mmc_card.specs.RowsTransfer.{begun, preset, sending_from, stopped, transfer_errors, transferred}
use Rattle.mmc_card.specs.Sectors.{Sector}
use Rattle.mmc_card.specs.BusView.{BusView}

-- what a state tells of the unfinished
none_in : (c : Card) (s : State) → IsBasic c → c.state ≡ s → is_writing s ≡ false → c.values ≡ []
none_in c s k e w = k.finished (ap is_writing e ∙ w)

down_in : (c : Card) (s : State) → c.state ≡ s → is_selected s ≡ false → is_selected c.state ≡ false
down_in c s e h = ap is_selected e ∙ h

either_state : (s : State) → (is_in s Ident || is_in s Stby) ≡ true → is_selected s ≡ false
either_state Idle h = refl
either_state Ready h = refl
either_state Ident h = refl
either_state Stby h = refl
either_state Tran h = cc
either_state Data h = cc
either_state Rcv h = cc
either_state Prg h = cc
either_state Dis h = refl

-- ident or stby
pub either_down : (c : Card) → (is_in c.state Ident || is_in c.state Stby) ≡ true → is_selected c.state ≡ false
either_down c h = either_state c.state h

card_inquired : (is_ready : Bool) (c : Card) → IsBasic c → c.state ≡ Idle
    → IsBasic (inquired is_ready c).0
card_inquired true c k e =
    apart_card c _ k (like_done c _ k refl refl refl refl) (down_in c Idle e refl) refl refl refl refl refl refl refl
    refl refl refl
card_inquired false c k e =
    stays_card c _ k (like_done c _ k refl refl refl refl) refl refl refl refl refl refl refl (λ h. h) (λ h. refl)
    (λ h. h)

card_transferred : (index errors : ℕ) (c after : Card) → IsBasic c → IsBasic after
    → IsBasic (transferred index errors c after).0
card_transferred index errors c after k a =
    first_by_cond IsBasic (errors == 0) _ _ (λ _. a) (λ _. card_shown c k)

card_begun : (state : State) (is_single : Bool) (left : Option ℕ) (c : Card) (address : ℕ) → is_selected state ≡ true
    → IsBasic c → IsBasic (begun state is_single left c address)
card_begun state is_single left c address up k =
    chosen_card c _ k (like_shown c _ refl refl refl refl) up refl (λ h. refl) tt

card_sending : (source : Source) (c : Card) → c.state ≡ Tran → IsBasic c → IsBasic (sending_from source c)
card_sending source c e k =
    chosen_card c _ k (like_shown c _ refl refl refl refl) refl refl (λ h. none_in c Tran k e refl) k.new_values

-- nothing is written in tran and in data
idle_by : (s : State) → (is_in s Tran || (is_in s Data || is_in s Rcv)) ≡ true → is_in s Rcv ≡ false → is_writing s ≡ false
idle_by Rcv h n = cc
idle_by Prg h n = cc
idle_by _ h n = refl

card_stopped : (stays_busy : Bool) (c : Card) → IsBasic c → (is_in c.state Tran || (is_in c.state Data || is_in c.state Rcv)) ≡ true
    → IsBasic (stopped stays_busy c)
card_stopped stays_busy c k l =
    by_cond IsBasic (is_in c.state Rcv)
    (λ h. chosen_card c _ k (like_shown c _ refl refl refl refl) refl refl (λ h. cc) k.new_values)
    (λ h.
    let none = k.finished (idle_by c.state l h) in
    by_cond IsBasic stays_busy
    (λ _. chosen_card c _ k (like_shown c _ refl refl refl refl) refl refl (λ _. none) k.new_values)
    (λ _. chosen_card c _ k (like_shown c _ refl refl refl refl) refl refl (λ _. none) k.new_values))

-- in tran, with one field more that may change
card_in_tran : (c d : Card) → c.state ≡ Tran → IsBasic c → IsLike c d → d.state ≡ c.state → d.sectors ≡ c.sectors
    → d.values ≡ c.values → IsBasic d
card_in_tran c d e k l state sectors values =
    chosen_card c d k l (ap is_selected (state ∙ e)) sectors (λ _. values ∙ none_in c Tran k e refl)
    (along AreBlocks values k.new_values)

card_first : (index : ℕ) (c : Card) (address : ℕ) (held : Held) → c.state ≡ Tran → IsBasic c
    → IsBasic (hold_first index c address held).0
card_first index c address NoAddress e k = card_in_tran c _ e k (like_shown c _ refl refl refl refl) refl refl refl
card_first index c address (First first) e k = card_forgotten c k
card_first index c address (Both first last) e k = card_forgotten c k

card_last : (index : ℕ) (c : Card) (address : ℕ) (held : Held) → c.state ≡ Tran → IsBasic c
    → IsBasic (hold_last index c address held).0
card_last index c address NoAddress e k = card_forgotten c k
card_last index c address (First first) e k = card_in_tran c _ e k (like_shown c _ refl refl refl refl) refl refl refl
card_last index c address (Both first last) e k = card_forgotten c k

card_erase : (c : Card) (argument : ℕ) (held : Held) → IsBasic c → IsBasic (erase_held c argument held).0
card_erase c argument NoAddress k = card_forgotten c k
card_erase c argument (First first) k = card_forgotten c k
card_erase c argument (Both first last) k =
    first_by_cond IsBasic (is_no_range c first last) _ _ (λ _. card_forgotten c k)
    (λ _. chosen_card c (erases (erasing c (is_trim c argument) first last) c) k
    (like_shown c _ refl refl refl refl) refl refl (λ h. cc)
    (blocks_replicate _ (erased_sector c.made) (erased_block c.made)))

card_switch : (late : Bool) (c : Card) (o : Option Card) → AreSwitched c o → IsBasic c
    → IsBasic (switch_row late c o).0
card_switch late c None h k = chosen_card c _ k (like_shown c _ refl refl refl refl) refl refl (λ _. refl) tt
card_switch late c (Some d) h k =
    chosen_card c _ k (like_shown c _ h.made h.block_length refl refl) refl h.sectors (λ _. refl) tt

card_row : (choice : Choice) (command : Command) (c : Card) (index argument : ℕ) → is_legal command c ≡ true → IsBasic c
    → IsBasic (row choice command c index argument).0
card_row choice GoIdleState c index argument l k = card_reset choice.lands choice.keeps_length c k
card_row choice SendOpCond c index argument l k =
    card_inquired (not choice.is_slow) c k (in_state c.state Idle l)
card_row choice SdSendOpCond c index argument l k =
    card_inquired (is_served c argument && not choice.is_slow) c k (in_state c.state Idle l)
card_row choice AllSendCid c index argument l k =
    apart_card c _ k (like_done c _ k refl refl refl refl) (down_in c Ready (in_state c.state Ready l) refl) refl refl
    refl refl refl refl refl refl refl refl
card_row choice SendRelativeAddr c index argument l k =
    apart_card c _ k (like_shown c _ refl refl refl refl) (either_down c l)
    refl refl refl refl refl refl refl refl refl refl
card_row choice SetRelativeAddr c index argument l k =
    apart_card c _ k (like_shown c _ refl refl refl refl)
    (down_in c Ident (in_state c.state Ident (both (is_mmc c.made.kind) (is_in c.state Ident) l).1) refl) refl refl
    refl refl refl refl refl refl refl refl
card_row choice SelectCard c index argument l k =
    chosen_card c _ k (like_shown c _ refl refl refl refl) refl refl
    (λ _. none_in c Stby k (in_state c.state Stby l) refl) k.new_values
card_row choice SendIfCond c index argument l k = card_told _ c k
card_row choice SendExtCsd c index argument l k =
    card_sending (FromBytes (reread is_read choice.unread (ext_csd_now c)) c.timing) c (in_state c.state Tran l) k
card_row choice SendCsd c index argument l k = card_done c k
card_row choice StopTransmission c index argument l k =
    first_by_cond IsBasic (is_in c.state Tran && not choice.answers_stop) _ _ (λ _. card_refused c k)
    (λ _. card_stopped choice.stays_busy c k l)
card_row choice SendStatus c index argument l k =
    first_by_cond IsBasic (may_lag c && choice.is_behind) _ _
    (λ _. stays_card c _ k
    (record {
      made = refl;
      block_length = inl refl;
      command_errors = refl;
      errors = by_cond (λ n. AreAmong n error_bits) choice.tells_late (λ _. k.errors) (λ _. refl);
    })
    refl refl refl refl refl refl refl (λ h. h) (λ h. refl) (λ h. h))
    (λ _. card_shown c k)
card_row choice SetBlocklen c index argument l k =
    first_by_cond IsBasic (argument == 512) _ _
    (λ _. stays_card c _ k
    (record { made = refl; block_length = inr (inl refl); command_errors = refl; errors = refl }) refl refl refl refl
    refl refl refl (λ h. h) (λ h. refl) (λ h. h))
    (λ _. card_shown c k)
card_row choice ReadSingleBlock c index argument l k =
    card_transferred 17 (transfer_errors false c argument) c _ k (card_begun Data true (Some 1) c argument refl k)
card_row choice ReadMultipleBlock c index argument l k =
    card_transferred 18 (transfer_errors false c argument) c _ k (card_begun Data false (preset c) c argument refl k)
card_row choice SetBlockCount c index argument l k =
    card_in_tran c _
    (in_state c.state Tran (both (is_in c.state Tran) (has_cmd23 c.made) l).0) k
    (like_shown c _ refl refl refl refl) refl refl refl
card_row choice WriteBlock c index argument l k =
    card_transferred 24 (transfer_errors true c argument) c _ k (card_begun Rcv true (Some 1) c argument refl k)
card_row choice WriteMultipleBlock c index argument l k =
    card_transferred 25 (transfer_errors true c argument) c _ k (card_begun Rcv false (preset c) c argument refl k)
card_row choice EraseStart c index argument l k = card_first index c argument c.erase (in_state c.state Tran l) k
card_row choice EraseEnd c index argument l k = card_last index c argument c.erase (in_state c.state Tran l) k
card_row choice Erase c index argument l k = card_erase c argument c.erase k
card_row choice Switch c index argument l k = card_switch choice.says_late c _ (may_switch choice.fails_switch c argument) k
card_row choice SwitchFunc c index argument l k =
    card_sending (switch_source choice c argument) c
    (in_state c.state Tran (both (is_in c.state Tran) (has_switch_function c.made) l).0) k
card_row choice SetBusWidth c index argument l k =
    card_in_tran c _ (in_state c.state Tran l) k (like_shown c _ refl refl refl refl) refl refl refl
card_row choice SendScr c index argument l k = card_sending (FromBytes c.made.scr c.timing) c (in_state c.state Tran l) k
card_row choice AppCmd c index argument l k = card_app c k
card_row choice Unknown c index argument l k = cc

-- whether a command is carried out doesn't rest on held addresses
legal_dropped : (bits : ℕ) (command : Command) (c : Card)
    → is_legal command (raised bits (forgotten c)) ≡ is_legal command c
legal_dropped bits Erase c = refl
legal_dropped bits _ c = refl

legal_without : (command : Command) (c : Card) → is_legal command (forgotten c) ≡ is_legal command c
legal_without Erase c = refl
legal_without _ c = refl

pub legal_reached : (choice : Choice) (command : Command) (c : Card) → is_legal command (reached choice command c) ≡ is_legal command c
legal_reached choice command c =
    let Same : Card → Type 0 = λ d. is_legal command d ≡ is_legal command c in
    by_cond Same (leaves_erase command) (λ _. refl)
    (λ _. by_cond Same (holds_address c.erase)
    (λ _. by_cond Same choice.drops_quietly (λ _. legal_without command c) (λ _. legal_dropped erase_reset command c)) (λ _. refl))

pub card_responded : (choice : Choice) (command : Command) (c : Card) (index argument : ℕ) → IsBasic c
    → IsBasic (responded choice command c index argument).0
card_responded choice command c index argument k =
    let now = card_reached choice command c k in
    after_response IsBasic choice command c index argument k
    (λ l. card_row choice command (reached choice command c) index argument (legal_reached choice command c ∙ l) now)
    (card_shown (reached choice command c) now) (card_refused (reached choice command c) now)

pub card_answered : (choice : Choice) (c : Card) (sent : Option (ℕ × ℕ)) → IsBasic c
    → IsBasic (answered choice c sent).0
card_answered choice c sent k =
    after_answer IsBasic choice c sent (λ command index argument. card_responded choice command c index argument k)
    (card_garbled choice.keeps_count c k)

-- Blocks.

pub up_if : (b : Bool) (x y : State) → is_selected x ≡ true → is_selected y ≡ true
    → is_selected (if b then x else y) ≡ true
up_if b x y p q = by_cond (λ s. is_selected s ≡ true) b (λ _. p) (λ _. q)

card_accepted : (block : Sector) (c : Card) → IsBlock block → IsBasic c → IsBasic (accepted block c)
card_accepted block c h k =
    let writing : is_writing (accepted block c).state ≡ true =
    by_cond (λ s. is_writing s ≡ true) (is_last c.left) (λ _. refl) (λ _. refl) in
    chosen_card c _ k (like_same c _ k refl refl refl refl) (up_if (is_last c.left) Prg Rcv refl refl) refl
    (λ w. cc (writing, w)) (blocks_snoc c.values block k.new_values h)

pub card_ignoring : (ignores : Bool) (c : Card) → IsBasic c → IsBasic (ignoring ignores c)
card_ignoring ignores c k =
    by_cond IsBasic ignores
    (λ _. stays_card c _ k (like_same c _ k refl refl refl refl) refl refl refl refl refl refl refl (λ h. h) (λ h. h) (λ h. h))
    (λ _. k)

card_over : (is_busy : Bool) (c : Card) → IsBasic c → IsBasic (over is_busy c)
card_over is_busy c k =
    by_cond IsBasic is_busy (λ _. chosen_card c _ k (like_same c _ k refl refl refl refl) refl refl (λ _. refl) tt)
    (λ _. chosen_card c _ k (like_same c _ k refl refl refl refl) refl refl (λ _. refl) tt)

card_rejected : (ignores is_busy : Bool) (c : Card) → IsBasic c → IsBasic (rejected ignores is_busy c)
card_rejected ignores is_busy c k =
    by_cond IsBasic ignores (λ _. card_ignoring true c k)
    (λ _. by_cond IsBasic c.is_single (λ _. card_over is_busy c k) (λ _. k))

end_among : (b : Bool) → AreAmong (if b then out_of_range else 0) error_bits
end_among true = refl
end_among false = refl

pub card_sent_from : (source : Source) (choice : Choice) (c : Card) → c.state ≡ Data → IsBasic c
    → IsBasic (sent_from source choice c)
card_sent_from FromSectors choice c e k =
    let bits = end_errors choice.says_end c in
    chosen_card c _ k
    (record {
      made = refl;
      block_length = inl refl;
      command_errors = k.command_errors;
      errors = among_more c.errors bits error_bits k.errors (end_among _);
    })
    (up_if (is_last c.left) Tran Data refl refl) refl (λ _. none_in c Data k e refl) k.new_values
card_sent_from (FromBytes bytes timing) choice c e k =
    chosen_card c _ k (like_same c _ k refl refl refl refl) refl refl (λ _. none_in c Data k e refl) k.new_values

-- Steps.

pub command_leaves_card : (old : BusView) (frame : List ℕ) (reply : Reply) (new : BusView)
    → MeetsCommand old frame reply new → IsBasic old.card → IsBasic new.card
command_leaves_card old frame reply new step k =
    after_command IsBasic old frame reply new k
    (λ choice. card_answered choice old.card (command_in frame) k)
    (λ choice left found among errors. card_answered choice _ (command_in frame)
    (card_raised found _ errors (card_left left old.card among k))) (λ keeps. card_garbled keeps old.card k)
    (λ bits card among k. card_raised bits card among k) card_reset step

pub poll_leaves_card : (old : BusView) (said : Bool) (new : BusView) → PollStep old said new → IsBasic old.card
    → IsBasic new.card
poll_leaves_card old said new step k =
    after_poll IsBasic old said new k (card_rested old.card k) (λ _. card_slow old.card k)
    (λ lands _. card_programmed lands old.card k) (λ lands prg. card_fallen_early lands old.card prg k)
    (λ lands rcv. card_fallen_short lands old.card rcv k) card_ignoring
    (λ bits card among k. card_raised bits card among k) card_reset step

pub write_leaves_card : (old : BusView) (block : Sector) (got : DataOut) (new : BusView) → IsBlock block
    → MeetsBlock old block got new → IsBasic old.card → IsBasic new.card
write_leaves_card old block got new h step k =
    after_write IsBasic old block got new k (λ _. card_accepted block old.card h k)
    (λ ignores is_busy _. card_rejected ignores is_busy old.card k)
    (λ lands accepts. card_accepted block _ h
    (card_fallen_short lands old.card (accepts_in_rcv old.lines old.card accepts) k))
    (λ lands accepts. card_rejected true false _
    (card_fallen_short lands old.card (accepts_in_rcv old.lines old.card accepts) k)) card_ignoring
    (λ bits card among k. card_raised bits card among k) card_reset step

pub read_leaves_card : (old : BusView) (size : ℕ) (got : DataIn) (block : Sector) (new : BusView)
    → ReadStep old size got block new → IsBasic old.card → IsBasic new.card
read_leaves_card old size got block new step k =
    after_read IsBasic old size got block new k
    (λ choice sends. card_sent_from old.card.source choice old.card
    (in_state old.card.state Data (sends_data old.lines size old.card sends)) k)
    (λ bits card among k. card_raised bits card among k) card_reset step
