-- The steps of a run leave a card selected as it was, or as after CMD0.
use Rattle.std.proofs.Common.{Bool, List, ℕ, ◌||◌, ◌∙◌, ◌≡◌, ap, false, not, refl, sym, true}
use Rattle.std.specs.Prelude.{◌&&◌, ◌==◌, None, Option, Some}
use Rattle.mmc_frame.specs.Frame.{command_in}
use Rattle.mmc_frame.specs.declared.card_state.State.{State}
use Rattle.mmc_frame.specs.declared.card_state.State.TheVariants.{Data, Prg, Rcv, Tran}
use Rattle.mmc_card.specs.declared.exchange.DataIn.{DataIn}
use Rattle.mmc_card.specs.declared.exchange.DataOut.{DataOut}
use Rattle.mmc_card.specs.declared.exchange.Reply.{Reply}
use Rattle.mmc_card.specs.declared.exchange.Timing.{Timing}
use Rattle.mmc_card.proofs.CardRows.{legal_reached, up_if}
use Rattle.mmc_card.proofs.Cards.{in_state}
use Rattle.mmc_card.proofs.Conditions.{by_cond, first_by_cond}
use Rattle.mmc_card.proofs.Responses.{after_response}
use Rattle.mmc_card.proofs.Narrow.{both, sends_data, accepts_in_rcv}
use Rattle.mmc_card.proofs.Steps.{after_command, after_write, after_poll, after_read}
use Rattle.mmc_card.specs.CardAnswer.{Choice, garbled, left_with, raised, refused, reset, showing, shown}
use Rattle.mmc_card.specs.ErrorBits.{erase_reset}
use Rattle.mmc_card.specs.Blocks.{accepted, fallen_short, is_last, programmed, rejected, rested, sent_from, waited}
use Rattle.mmc_card.specs.Card.{Both, Card, First, FromBytes, FromSectors, Held, NoAddress, Source, is_in, is_selected}
use Rattle.mmc_card.specs.Faults.{MeetsBlock, MeetsCommand, PollStep, ReadStep}
use Rattle.mmc_card.specs.Laws.{IsAfterReset, Setting, Stands, StillStands, is_frame_of_run, is_of_run, setting_of}
use Rattle.mmc_card.specs.Laws.{timing_once_sent}
use Rattle.mmc_card.specs.Made.{Made, first_rca, has_cmd23}
use Rattle.mmc_card.specs.declared.command.Command.{Command}
use Rattle.mmc_card.specs.declared.command.Command.TheVariants.{Erase, EraseEnd, EraseStart, ReadMultipleBlock}
use Rattle.mmc_card.specs.declared.command.Command.TheVariants.{ReadSingleBlock, SendStatus, SetBlockCount}
use Rattle.mmc_card.specs.declared.command.Command.TheVariants.{StopTransmission, Unknown, WriteBlock}
use Rattle.mmc_card.specs.declared.command.Command.TheVariants.{WriteMultipleBlock}
use Rattle.mmc_card.specs.Rows.{answered, command_of, is_legal, leaves_erase, reached, responded, row}
use Rattle.mmc_card.specs.RowsErase.{erase_held, forgotten, hold_first, hold_last, holds_address, is_no_range}
use Rattle.mmc_card.specs.RowsIdentify.{may_lag}
use Rattle.mmc_card.specs.RowsTransfer.{begun, preset, transfer_errors, transferred}
use Rattle.mmc_card.specs.Sectors.{Sector}
use Rattle.mmc_card.specs.BusView.{BusView}
use Rattle.mmc_card.specs.Blocks.{fallen_early, ignoring}

-- Makers.

stands_up : (s : Setting) (c d : Card) → is_selected d.state ≡ true → is_selected c.state ≡ true
    → setting_of d ≡ setting_of c → (is_in d.state Data ≡ true → timing_once_sent d.source d.timing ≡ s.timing)
    → Stands s c → Stands s d
stands_up s c d up was same sends h = record {
  selected = λ _. same ∙ h.selected was;
  sends = sends;
  reset = λ n. cc (n, up);
}

stands_like : (s : Setting) (c d : Card) → d.state ≡ c.state → setting_of d ≡ setting_of c → d.source ≡ c.source
    → (IsAfterReset c → IsAfterReset d) → Stands s c → Stands s d
stands_like s c d state same source after h = record {
  selected = λ u. same ∙ h.selected (ap is_selected (sym state) ∙ u);
  sends = λ u. ap (λ (x : Source). timing_once_sent x d.timing) source
      ∙ ap (λ (x : Setting). timing_once_sent c.source x.timing) same
      ∙ h.sends (ap (λ (x : State). is_in x Data) (sym state) ∙ u);
  reset = λ n. after (h.reset (ap is_selected (sym state) ∙ n));
}

-- it is after CMD0, and a step changes nothing of that
reset_like : (c d : Card) → d.state ≡ c.state → d.made ≡ c.made → setting_of d ≡ setting_of c
    → (c.is_busy ≡ false → d.is_busy ≡ false) → (c.count ≡ 0 → d.count ≡ 0)
    → (c.erase ≡ NoAddress → d.erase ≡ NoAddress) → (c.app ≡ false → d.app ≡ false) → d.inquiries ≡ c.inquiries
    → (c.polled ≡ 0 → d.polled ≡ 0) → d.values ≡ c.values → IsAfterReset c → IsAfterReset d
reset_like c d state made same busy count erase app inquiries polled values a = record {
  state = state ∙ a.state;
  rca = ap (λ (x : Setting). x.rca) same ∙ a.rca ∙ ap (λ (m : Made). first_rca m.kind) (sym made);
  apart = record {
    width = ap (λ (x : Setting). x.width) same ∙ a.apart.width;
    timing = ap (λ (x : Setting). x.timing) same ∙ a.apart.timing;
    erase_group_def = ap (λ (x : Setting). x.erase_group_def) same ∙ a.apart.erase_group_def;
    part = ap (λ (x : Setting). x.part) same ∙ a.apart.part;
    is_busy = busy a.apart.is_busy;
    count = count a.apart.count;
    erase = erase a.apart.erase;
  };
  app = app a.app;
  inquiries = inquiries ∙ a.inquiries;
  polled = polled a.polled;
  values = values ∙ a.values;
}

pub stands_reset : (s : Setting) (lands : ℕ → Bool) (keeps_length : Bool) (c : Card)
    → Stands s (reset lands keeps_length c)
stands_reset s lands keeps_length c = record {
  selected = λ u. cc;
  sends = λ u. cc;
  reset = λ n. record {
    state = refl;
    rca = refl;
    apart = record {
      width = refl;
      timing = refl;
      erase_group_def = refl;
      part = refl;
      is_busy = refl;
      count = refl;
      erase = refl;
    };
    app = refl;
    inquiries = refl;
    polled = refl;
    values = refl;
  };
}

pub stands_shown : (s : Setting) (c : Card) → Stands s c → Stands s (shown c)
stands_shown s c h =
    stands_like s c (shown c) refl refl refl
    (reset_like c (shown c) refl refl refl (λ b. b) (λ b. refl) (λ b. b) (λ b. refl) refl (λ b. b) refl) h

stands_forgotten : (s : Setting) (c : Card) → Stands s c → Stands s (forgotten (shown c))
stands_forgotten s c h =
    stands_like s c (forgotten (shown c)) refl refl refl
    (reset_like c (forgotten (shown c)) refl refl refl (λ b. b) (λ b. refl) (λ b. refl) (λ b. refl) refl (λ b. b)
    refl)
    h

pub stands_refused : (s : Setting) (c : Card) → Stands s c → Stands s (refused c)
stands_refused s c h =
    stands_like s c (refused c) refl refl refl
    (reset_like c (refused c) refl refl refl (λ b. b) (λ b. refl) (λ b. b) (λ b. refl) refl (λ b. b) refl) h

pub stands_left : (s : Setting) (bits : ℕ) (c : Card) → Stands s c → Stands s (left_with bits c)
stands_left s bits c h =
    stands_like s c (left_with bits c) refl refl refl
    (reset_like c (left_with bits c) refl refl refl (λ b. b) (λ b. b) (λ b. b) (λ b. b) refl (λ b. b) refl) h

pub stands_garbled : (s : Setting) (keeps : Bool) (c : Card) → Stands s c → Stands s (garbled keeps c)
stands_garbled s keeps c h =
    stands_like s c (garbled keeps c) refl refl refl
    (reset_like c (garbled keeps c) refl refl refl (λ b. b)
    (λ b. by_cond (λ n. n ≡ 0) keeps (λ _. b) (λ _. refl)) (λ b. b) (λ b. b) refl (λ b. b) refl)
    h

pub stands_raised : (s : Setting) (bits : ℕ) (c : Card) → Stands s c → Stands s (raised bits c)
stands_raised s bits c h =
    stands_like s c (raised bits c) refl refl refl
    (reset_like c (raised bits c) refl refl refl (λ b. b) (λ b. b) (λ b. b) (λ b. b) refl (λ b. b) refl) h

pub stands_showing : (s : Setting) (left found : ℕ) (c : Card) → Stands s c → Stands s (showing left found c)
stands_showing s left found c h = stands_raised s found (left_with left c) (stands_left s left c h)

pub stands_reached : (s : Setting) (choice : Choice) (command : Command) (c : Card) → Stands s c → Stands s (reached choice command c)
stands_reached s choice command c h =
    by_cond (Stands s) (leaves_erase command) (λ _. h)
    (λ _. by_cond (Stands s) (holds_address c.erase)
    (λ _. by_cond (Stands s) choice.drops_quietly
    (λ _. stands_like s c (forgotten c) refl refl refl
    (reset_like c (forgotten c) refl refl refl (λ b. b) (λ b. b) (λ b. refl) (λ b. b) refl (λ b. b) refl) h)
    (λ _. stands_like s c (raised erase_reset (forgotten c)) refl refl refl
    (reset_like c (raised erase_reset (forgotten c)) refl refl refl (λ b. b) (λ b. b) (λ b. refl) (λ b. b)
    refl (λ b. b) refl)
    h))
    (λ _. h))

-- Rows.

pub up_in : (c : Card) (t : State) → is_in c.state t ≡ true → is_selected t ≡ true → is_selected c.state ≡ true
up_in c t e u = ap is_selected (in_state c.state t e) ∙ u

-- in tran a card isn't as after CMD0
tran_not_reset : {X : Type 0} (c : Card) → is_in c.state Tran ≡ true → IsAfterReset c → X
tran_not_reset c e a = cc (in_state c.state Tran e, a.state)

stands_begun : (s : Setting) (state : State) (is_single : Bool) (left : Option ℕ) (c : Card) (address : ℕ)
    → is_selected state ≡ true → is_in c.state Tran ≡ true → Stands s c
    → Stands s (begun state is_single left c address)
stands_begun s state is_single left c address up tran h =
    let was = up_in c Tran tran refl in
    stands_up s c _ up was refl (λ _. ap (λ (x : Setting). x.timing) (h.selected was)) h

stands_transferred : (s : Setting) (index errors : ℕ) (c after : Card) → Stands s c → Stands s after
    → Stands s (transferred index errors c after).0
stands_transferred s index errors c after h a =
    first_by_cond (Stands s) (errors == 0) _ _ (λ _. a) (λ _. stands_shown s c h)

-- nothing is sent from there
pub stands_quiet : (s : Setting) (c d : Card) → is_selected d.state ≡ true → is_in d.state Data ≡ false
    → is_selected c.state ≡ true → setting_of d ≡ setting_of c → Stands s c → Stands s d
stands_quiet s c d up quiet was same h = stands_up s c d up was same (λ e. cc (e, quiet)) h

stands_first : (s : Setting) (index : ℕ) (c : Card) (address : ℕ) (held : Held) → is_in c.state Tran ≡ true → Stands s c
    → Stands s (hold_first index c address held).0
stands_first s index c address NoAddress tran h = stands_like s c _ refl refl refl (λ a. tran_not_reset c tran a) h
stands_first s index c address (First first) tran h = stands_forgotten s c h
stands_first s index c address (Both first last) tran h = stands_forgotten s c h

stands_last : (s : Setting) (index : ℕ) (c : Card) (address : ℕ) (held : Held) → is_in c.state Tran ≡ true → Stands s c
    → Stands s (hold_last index c address held).0
stands_last s index c address NoAddress tran h = stands_forgotten s c h
stands_last s index c address (First first) tran h = stands_like s c _ refl refl refl (λ a. tran_not_reset c tran a) h
stands_last s index c address (Both first last) tran h = stands_forgotten s c h

stands_erase : (s : Setting) (c : Card) (argument : ℕ) (held : Held) → is_in c.state Tran ≡ true → Stands s c
    → Stands s (erase_held c argument held).0
stands_erase s c argument NoAddress tran h = stands_forgotten s c h
stands_erase s c argument (First first) tran h = stands_forgotten s c h
stands_erase s c argument (Both first last) tran h =
    first_by_cond (Stands s) (is_no_range c first last) _ _ (λ _. stands_forgotten s c h)
    (λ _. stands_quiet s c _ refl refl (up_in c Tran tran refl) refl h)

pub stoppable_is_selected : (s : State) → (is_in s Tran || (is_in s Data || is_in s Rcv)) ≡ true → is_selected s ≡ true
stoppable_is_selected Tran h = refl
stoppable_is_selected Data h = refl
stoppable_is_selected Rcv h = refl
stoppable_is_selected _ h = cc

stands_row : (s : Setting) (choice : Choice) (command : Command) (c : Card) (index argument : ℕ)
    → is_of_run command ≡ true → is_legal command c ≡ true → Stands s c
    → Stands s (row choice command c index argument).0
stands_row s choice StopTransmission c index argument o l h =
    let u = stoppable_is_selected c.state l in
    first_by_cond (Stands s) (is_in c.state Tran && not choice.answers_stop) _ _ (λ _. stands_refused s c h)
    (λ _. by_cond (Stands s) (is_in c.state Rcv)
    (λ _. stands_quiet s c _ refl refl u refl h)
    (λ _. by_cond (Stands s) choice.stays_busy (λ _. stands_quiet s c _ refl refl u refl h)
    (λ _. stands_quiet s c _ refl refl u refl h)))
stands_row s choice SendStatus c index argument o l h =
    first_by_cond (Stands s) (may_lag c && choice.is_behind) _ _
    (λ lag.
    let tran = (both (is_in c.state Tran) _ (both (may_lag c) choice.is_behind lag).0).0 in
    stands_like s c _ refl refl refl (λ a. tran_not_reset c tran a) h)
    (λ _. stands_shown s c h)
stands_row s choice SetBlockCount c index argument o l h =
    stands_like s c _ refl refl refl (λ a. tran_not_reset c (both (is_in c.state Tran) (has_cmd23 c.made) l).0 a) h
stands_row s choice ReadSingleBlock c index argument o l h =
    stands_transferred s 17 (transfer_errors false c argument) c _ h
    (stands_begun s Data true (Some 1) c argument refl l h)
stands_row s choice ReadMultipleBlock c index argument o l h =
    stands_transferred s 18 (transfer_errors false c argument) c _ h
    (stands_begun s Data false (preset c) c argument refl l h)
stands_row s choice WriteBlock c index argument o l h =
    stands_transferred s 24 (transfer_errors true c argument) c _ h
    (stands_begun s Rcv true (Some 1) c argument refl l h)
stands_row s choice WriteMultipleBlock c index argument o l h =
    stands_transferred s 25 (transfer_errors true c argument) c _ h
    (stands_begun s Rcv false (preset c) c argument refl l h)
stands_row s choice EraseStart c index argument o l h = stands_first s index c argument c.erase l h
stands_row s choice EraseEnd c index argument o l h = stands_last s index c argument c.erase l h
stands_row s choice Erase c index argument o l h = stands_erase s c argument c.erase l h
stands_row s choice Unknown c index argument o l h = cc
stands_row s choice _ c index argument o l h = cc

stands_responded : (s : Setting) (choice : Choice) (command : Command) (c : Card) (index argument : ℕ)
    → is_of_run command ≡ true → Stands s c → Stands s (responded choice command c index argument).0
stands_responded s choice command c index argument o h =
    let now = stands_reached s choice command c h in
    after_response (Stands s) choice command c index argument h
    (λ l. stands_row s choice command (reached choice command c) index argument o (legal_reached choice command c ∙ l) now)
    (stands_shown s (reached choice command c) now) (stands_refused s (reached choice command c) now)

stands_answered : (s : Setting) (choice : Choice) (c : Card) (sent : Option (ℕ × ℕ)) → is_frame_of_run c sent ≡ true
    → Stands s c → Stands s (answered choice c sent).0
stands_answered s choice c (Some command) o h =
    stands_responded s choice (command_of c.made.kind c.app command.0) c command.0 command.1 o h
stands_answered s choice c None o h = stands_garbled s choice.keeps_count c h

-- Polls and blocks.

pub stands_programmed : (s : Setting) (lands : ℕ → Bool) (c : Card) → is_in c.state Prg ≡ true → Stands s c
    → Stands s (programmed lands c)
stands_programmed s lands c prg h = stands_quiet s c _ refl refl (up_in c Prg prg refl) refl h

pub stands_fallen_short : (s : Setting) (lands : ℕ → Bool) (c : Card) → is_in c.state Rcv ≡ true → Stands s c
    → Stands s (fallen_short lands c)
stands_fallen_short s lands c rcv h =
    let up = up_in c Rcv rcv refl in
    stands_quiet s c _ up (ap (λ x. is_in x Data) (in_state c.state Rcv rcv)) up refl h

stands_fallen_early : (s : Setting) (lands : ℕ → Bool) (c : Card) → is_in c.state Prg ≡ true → Stands s c
    → Stands s (fallen_early lands c)
stands_fallen_early s lands c prg h =
    let up = up_in c Prg prg refl in
    stands_quiet s c _ up (ap (λ x. is_in x Data) (in_state c.state Prg prg)) up refl h

pub stands_ignoring : (s : Setting) (ignores : Bool) (c : Card) → Stands s c → Stands s (ignoring ignores c)
stands_ignoring s ignores c h =
    by_cond (Stands s) ignores
    (λ _. stands_like s c _ refl refl refl
    (reset_like c _ refl refl refl (λ b. b) (λ b. b) (λ b. b) (λ b. b) refl (λ b. b) refl) h)
    (λ _. h)

pub stands_rested : (s : Setting) (c : Card) → Stands s c → Stands s (rested c)
stands_rested s c h =
    by_cond (Stands s) (is_in c.state Prg)
    (λ prg. stands_programmed s (λ i. true) c prg h)
    (λ _. stands_like s c _ refl refl refl
    (reset_like c _ refl refl refl (λ b. refl) (λ b. b) (λ b. b) (λ b. b) refl (λ b. b) refl) h)

stands_slow : (s : Setting) (c : Card) → c.is_busy ≡ true → Stands s c → Stands s (waited c)
stands_slow s c busy h = stands_like s c _ refl refl refl (λ a. cc (busy, a.apart.is_busy)) h

stands_accepted : (s : Setting) (block : Sector) (c : Card) → is_in c.state Rcv ≡ true → Stands s c
    → Stands s (accepted block c)
stands_accepted s block c rcv h =
    stands_quiet s c _ (up_if (is_last c.left) Prg Rcv refl refl)
    (by_cond (λ t. is_in t Data ≡ false) (is_last c.left) (λ _. refl) (λ _. refl)) (up_in c Rcv rcv refl) refl h

stands_rejected : (s : Setting) (ignores is_busy : Bool) (c : Card) → is_in c.state Rcv ≡ true → Stands s c
    → Stands s (rejected ignores is_busy c)
stands_rejected s ignores is_busy c rcv h =
    let up = up_in c Rcv rcv refl in
    by_cond (Stands s) ignores (λ _. stands_ignoring s true c h)
    (λ _. by_cond (Stands s) c.is_single
    (λ _. by_cond (Stands s) is_busy (λ _. stands_quiet s c _ refl refl up refl h) (λ _. stands_quiet s c _ refl refl up refl h))
    (λ _. h))

pub stands_sent_from : (s : Setting) (source : Source) (choice : Choice) (c : Card) → is_in c.state Data ≡ true
    → timing_once_sent source c.timing ≡ s.timing → Stands s c → Stands s (sent_from source choice c)
stands_sent_from s FromSectors choice c data_now t h =
    stands_up s c _ (up_if (is_last c.left) Tran Data refl refl) (up_in c Data data_now refl) refl
    (λ _. h.sends data_now) h
stands_sent_from s (FromBytes bytes timing) choice c data_now t h =
    let was = up_in c Data data_now refl in
    let same : timing ≡ c.timing = t ∙ sym (ap (λ (x : Setting). x.timing) (h.selected was)) in
    stands_quiet s c _ refl refl was (ap (λ (x : Timing). record (setting_of c) { timing = x }) same) h

-- Steps.

pub command_stands : (old : BusView) (frame : List ℕ) (reply : Reply) (new : BusView)
    → is_frame_of_run old.card (command_in frame) ≡ true → MeetsCommand old frame reply new
    → StillStands old.card new.card
command_stands old frame reply new o step s h =
    after_command (Stands s) old frame reply new h
    (λ choice. stands_answered s choice old.card (command_in frame) o h)
    (λ choice left found _ _. stands_answered s choice (showing left found old.card) (command_in frame) o
    (stands_showing s left found old.card h))
    (λ keeps. stands_garbled s keeps old.card h) (λ bits card _ k. stands_raised s bits card k)
    (λ lands keeps card _. stands_reset s lands keeps card) step

pub poll_stands : (old : BusView) (said : Bool) (new : BusView) → PollStep old said new → StillStands old.card new.card
poll_stands old said new step s h =
    after_poll (Stands s) old said new h (stands_rested s old.card h) (λ busy. stands_slow s old.card busy h)
    (λ lands prg. stands_programmed s lands old.card prg h) (λ lands prg. stands_fallen_early s lands old.card prg h)
    (λ lands rcv. stands_fallen_short s lands old.card rcv h) (λ ignores card k. stands_ignoring s ignores card k) (λ bits card _ k. stands_raised s bits card k)
    (λ lands keeps card _. stands_reset s lands keeps card) step

pub write_stands : (old : BusView) (block : Sector) (got : DataOut) (new : BusView) → MeetsBlock old block got new
    → StillStands old.card new.card
write_stands old block got new step s h =
    let rcv = accepts_in_rcv old.lines old.card in
    after_write (Stands s) old block got new h
    (λ accepts. stands_accepted s block old.card (rcv accepts) h)
    (λ ignores is_busy accepts. stands_rejected s ignores is_busy old.card (rcv accepts) h)
    (λ lands accepts. stands_accepted s block _ (rcv accepts) (stands_fallen_short s lands old.card (rcv accepts) h))
    (λ lands accepts. stands_rejected s true false _ (rcv accepts) (stands_fallen_short s lands old.card (rcv accepts) h))
    (λ ignores card k. stands_ignoring s ignores card k)
    (λ bits card _ k. stands_raised s bits card k)
    (λ lands keeps card _. stands_reset s lands keeps card) step

pub read_stands : (old : BusView) (size : ℕ) (got : DataIn) (block : Sector) (new : BusView)
    → ReadStep old size got block new → StillStands old.card new.card
read_stands old size got block new step s h =
    after_read (Stands s) old size got block new h
    (λ choice sends.
    let d = sends_data old.lines size old.card sends in
    stands_sent_from s old.card.source choice old.card d (h.sends d) h)
    (λ bits card _ k. stands_raised s bits card k)
    (λ lands keeps card _. stands_reset s lands keeps card) step
