-- Each row keeps what holds of a card's RCA, erase addresses and counts.
use Rattle.std.proofs.Common.{◌&&◌, ◌||◌, ◌∙◌, ◌≡◌, ◌≤◌, Bool, List, ap, arith, false, not, refl, sym, true, ℕ}
use Rattle.std.specs.Prelude.{◌==◌, None, Option, Some, if◌then◌else◌}
use Rattle.mmc_frame.specs.declared.card_state.State.{State}
use Rattle.mmc_frame.specs.declared.card_state.State.TheVariants.{Data, Dis, Ident, Idle, Prg, Rcv, Ready, Stby, Tran}
use Rattle.mmc_frame.specs.declared.kind.Kind.TheVariants.{Mmc, Sd}
use Rattle.mmc_frame.specs.declared.kind.Kind.{Kind}
use Rattle.mmc_card.proofs.CardRows.{legal_reached}
use Rattle.mmc_card.proofs.Cards.{in_state}
use Rattle.mmc_card.proofs.Conditions.{along, by_cond, first_by_cond}
use Rattle.mmc_card.proofs.Responses.{after_answer, after_response}
use Rattle.mmc_card.proofs.Narrow.{AreSwitched, both, may_switch}
use Rattle.mmc_card.specs.CardAnswer.{Choice, counted, done, garbled, left_with, raised, refused, reset, shown}
use Rattle.mmc_card.specs.Blocks.{accepted, fallen_early, fallen_short, ignoring, is_last, over, programmed, rejected}
use Rattle.mmc_card.specs.Blocks.{rested, sent_from, waited}
use Rattle.mmc_card.specs.Card.{Both, Card, First, FromBytes, FromSectors, HasItsRca, Held, NoAddress, Source}
use Rattle.mmc_card.specs.Card.{is_identified, is_in, patience}
use Rattle.mmc_card.specs.Made.{Made, first_rca, has_switch_function, is_sd}
use Rattle.mmc_card.specs.declared.command.Command.{Command}
use Rattle.mmc_card.specs.declared.command.Command.TheVariants.{SdSendOpCond, SendScr, SetBusWidth, AllSendCid, AppCmd}
use Rattle.mmc_card.specs.declared.command.Command.TheVariants.{Erase, EraseEnd, EraseStart, GoIdleState}
use Rattle.mmc_card.specs.declared.command.Command.TheVariants.{ReadMultipleBlock, ReadSingleBlock, SelectCard, SendCsd}
use Rattle.mmc_card.specs.declared.command.Command.TheVariants.{SendExtCsd, SendIfCond, SendOpCond, SendRelativeAddr}
use Rattle.mmc_card.specs.declared.command.Command.TheVariants.{SendStatus, SetBlockCount, SetBlocklen, SetRelativeAddr}
use Rattle.mmc_card.specs.declared.command.Command.TheVariants.{StopTransmission, Switch, SwitchFunc, Unknown}
use Rattle.mmc_card.specs.declared.command.Command.TheVariants.{WriteBlock, WriteMultipleBlock}
use Rattle.mmc_card.specs.Rows.{answered, is_legal, leaves_erase, reached, responded, row, without_addresses}
use Rattle.mmc_card.specs.RowsErase.{erase_held, erases, erasing, forgotten, hold_first, hold_last, holds_address}
use Rattle.mmc_card.specs.RowsErase.{is_no_range, is_trim}
use Rattle.mmc_card.specs.RowsIdentify.{inquired, is_served, may_lag}
use Rattle.mmc_card.specs.RowsSwitch.{switch_row}
use Rattle.mmc_card.specs.RowsTransfer.{transfer_errors, transferred}

pub record IsOrdered (card : Card) : Type 0 where
  pub held : is_in card.state Tran ≡ false → card.erase ≡ NoAddress
  pub busy : is_in card.state Prg ≡ true → card.is_busy ≡ true
  pub rca : HasItsRca card
  pub app : card.made.kind ≡ Mmc → card.app ≡ false
  pub inquiries : card.inquiries ≤ patience
  pub polled : card.polled ≤ patience

pub counted_below : (n : ℕ) → counted n ≤ patience
counted_below n = omega arith

-- States.

pub not_in : (s t u : State) → s ≡ t → is_in t u ≡ false → is_in s u ≡ false
not_in s t u e h = ap (λ x. is_in x u) e ∙ h

pub identified_in : (s t : State) → s ≡ t → is_identified t ≡ true → is_identified s ≡ true
identified_in s t e h = ap is_identified e ∙ h

pub hidden_in : (s t : State) → s ≡ t → is_identified t ≡ false → is_identified s ≡ false
hidden_in s t e h = ap is_identified e ∙ h

-- Makers.

-- the state is as it was
pub ordered_like : (c d : Card) → IsOrdered c → d.state ≡ c.state → d.made ≡ c.made → d.rca ≡ c.rca
    → (c.erase ≡ NoAddress → d.erase ≡ NoAddress) → (c.is_busy ≡ true → d.is_busy ≡ true)
    → (c.made.kind ≡ Mmc → d.app ≡ false) → d.inquiries ≤ patience → d.polled ≤ patience → IsOrdered d
ordered_like c d k state made rca erase busy app inquiries polled = record {
  held = λ h. erase (k.held (ap (λ x. is_in x Tran) (sym state) ∙ h));
  busy = λ h. busy (k.busy (ap (λ x. is_in x Prg) (sym state) ∙ h));
  rca = λ h. rca ∙ k.rca (ap is_identified (sym state) ∙ h) ∙ ap (λ (m : Made). first_rca m.kind) (sym made);
  app = λ h. app (ap (λ (m : Made). m.kind) (sym made) ∙ h);
  inquiries = inquiries;
  polled = polled;
}

-- from an identified state to another one
pub ordered_up : (c d : Card) → IsOrdered c → is_identified c.state ≡ true → is_identified d.state ≡ true
    → d.made ≡ c.made → d.rca ≡ c.rca → (is_in d.state Tran ≡ false → d.erase ≡ NoAddress)
    → (is_in d.state Prg ≡ true → d.is_busy ≡ true) → (c.made.kind ≡ Mmc → d.app ≡ false) → d.inquiries ≤ patience
    → d.polled ≤ patience → IsOrdered d
ordered_up c d k was up made rca held busy app inquiries polled = record {
  held = held;
  busy = busy;
  rca = λ h. cc (up, h);
  app = λ h. app (ap (λ (m : Made). m.kind) (sym made) ∙ h);
  inquiries = inquiries;
  polled = polled;
}

-- from a state before stby to another such one
pub ordered_low : (c d : Card) → IsOrdered c → is_identified c.state ≡ false → is_identified d.state ≡ false
    → is_in d.state Prg ≡ false → d.made ≡ c.made → d.rca ≡ c.rca → d.erase ≡ NoAddress
    → (c.made.kind ≡ Mmc → d.app ≡ false) → d.inquiries ≤ patience → d.polled ≤ patience → IsOrdered d
ordered_low c d k was low quiet made rca held app inquiries polled = record {
  held = λ h. held;
  busy = λ h. cc (quiet, h);
  rca = λ h. rca ∙ k.rca was ∙ ap (λ (m : Made). first_rca m.kind) (sym made);
  app = λ h. app (ap (λ (m : Made). m.kind) (sym made) ∙ h);
  inquiries = inquiries;
  polled = polled;
}

pub ordered_shown : (c : Card) → IsOrdered c → IsOrdered (shown c)
ordered_shown c k = ordered_like c _ k refl refl refl (λ h. h) (λ h. h) (λ _. refl) k.inquiries k.polled

pub ordered_done : (c : Card) → IsOrdered c → IsOrdered (done c)
ordered_done c k = ordered_like c _ k refl refl refl (λ h. h) (λ h. h) (λ _. refl) k.inquiries k.polled

pub ordered_forgotten : (c : Card) → IsOrdered c → IsOrdered (forgotten (shown c))
ordered_forgotten c k = ordered_like c _ k refl refl refl (λ h. refl) (λ h. h) (λ _. refl) k.inquiries k.polled

pub ordered_refused : (c : Card) → IsOrdered c → IsOrdered (refused c)
ordered_refused c k = ordered_like c _ k refl refl refl (λ h. h) (λ h. h) (λ _. refl) k.inquiries k.polled

pub ordered_left : (bits : ℕ) (c : Card) → IsOrdered c → IsOrdered (left_with bits c)
ordered_left bits c k = ordered_like c _ k refl refl refl (λ h. h) (λ h. h) k.app k.inquiries k.polled

pub ordered_garbled : (keeps : Bool) (c : Card) → IsOrdered c → IsOrdered (garbled keeps c)
ordered_garbled keeps c k = ordered_like c _ k refl refl refl (λ h. h) (λ h. h) k.app k.inquiries k.polled

pub ordered_raised : (bits : ℕ) (c : Card) → IsOrdered c → IsOrdered (raised bits c)
ordered_raised bits c k = ordered_like c _ k refl refl refl (λ h. h) (λ h. h) k.app k.inquiries k.polled

pub ordered_reached : (choice : Choice) (command : Command) (c : Card) → IsOrdered c → IsOrdered (reached choice command c)
ordered_reached choice command c k =
    by_cond IsOrdered (leaves_erase command) (λ _. k)
    (λ _. by_cond IsOrdered (holds_address c.erase)
    (λ _. by_cond IsOrdered choice.drops_quietly
    (λ _. ordered_like c _ k refl refl refl (λ h. refl) (λ h. h) k.app k.inquiries k.polled)
    (λ _. ordered_like c _ k refl refl refl (λ h. refl) (λ h. h) k.app k.inquiries k.polled)) (λ _. k))

pub ordered_reset : (lands : ℕ → Bool) (keeps_length : Bool) (c : Card) → IsOrdered (reset lands keeps_length c)
ordered_reset lands keeps_length c = record {
  held = λ h. refl;
  busy = λ h. cc;
  rca = λ h. refl;
  app = λ h. refl;
  inquiries = omega arith;
  polled = omega arith;
}

pub ordered_programmed : (lands : ℕ → Bool) (c : Card) → is_in c.state Prg ≡ true → IsOrdered c
    → IsOrdered (programmed lands c)
ordered_programmed lands c prg k =
    let e = in_state c.state Prg prg in
    ordered_up c _ k (identified_in c.state Prg e refl) refl refl refl (λ h. cc) (λ h. cc) k.app k.inquiries k.polled

pub ordered_fallen_short : (lands : ℕ → Bool) (c : Card) → is_in c.state Rcv ≡ true → IsOrdered c
    → IsOrdered (fallen_short lands c)
ordered_fallen_short lands c rcv k = record {
  held = k.held;
  busy = λ h. cc (not_in c.state Rcv Prg (in_state c.state Rcv rcv) refl, h);
  rca = k.rca;
  app = k.app;
  inquiries = k.inquiries;
  polled = omega arith;
}

pub ordered_fallen_early : (lands : ℕ → Bool) (c : Card) → IsOrdered c → IsOrdered (fallen_early lands c)
ordered_fallen_early lands c k = ordered_like c _ k refl refl refl (λ h. h) (λ h. h) k.app k.inquiries k.polled

pub ordered_ignoring : (ignores : Bool) (c : Card) → IsOrdered c → IsOrdered (ignoring ignores c)
ordered_ignoring ignores c k =
    by_cond IsOrdered ignores
    (λ _. ordered_like c _ k refl refl refl (λ h. h) (λ h. h) k.app k.inquiries k.polled) (λ _. k)

pub ordered_rested : (c : Card) → IsOrdered c → IsOrdered (rested c)
ordered_rested c k =
    by_cond IsOrdered (is_in c.state Prg) (λ prg. ordered_programmed (λ i. true) c prg k)
    (λ quiet. record {
      held = k.held;
      busy = λ h. cc (quiet, h);
      rca = k.rca;
      app = k.app;
      inquiries = k.inquiries;
      polled = k.polled;
    })

pub ordered_waited : (c : Card) → IsOrdered c → IsOrdered (waited c)
ordered_waited c k = ordered_like c _ k refl refl refl (λ h. h) (λ h. h) k.app k.inquiries (counted_below c.polled)

-- Rows.

ordered_inquired : (is_ready : Bool) (c : Card) → c.state ≡ Idle → IsOrdered c
    → IsOrdered (inquired is_ready c).0
ordered_inquired true c e k =
    ordered_low c _ k (hidden_in c.state Idle e refl) refl refl refl refl (k.held (not_in c.state Idle Tran e refl))
    (λ _. refl) (counted_below c.inquiries) k.polled
ordered_inquired false c e k =
    ordered_like c _ k refl refl refl (λ h. h) (λ h. h) (λ _. refl) (counted_below c.inquiries) k.polled

ordered_transferred : (index errors : ℕ) (c after : Card) → IsOrdered c → IsOrdered after
    → IsOrdered (transferred index errors c after).0
ordered_transferred index errors c after k a =
    first_by_cond IsOrdered (errors == 0) _ _ (λ _. a) (λ _. ordered_shown c k)

-- from tran, with no address held, to another selected state; programming is busy
ordered_from : (c d : Card) → is_in c.state Tran ≡ true → IsOrdered c → is_identified d.state ≡ true → d.made ≡ c.made
    → d.rca ≡ c.rca → d.erase ≡ NoAddress → (is_in d.state Prg ≡ true → d.is_busy ≡ true) → d.app ≡ false
    → d.inquiries ≤ patience → d.polled ≤ patience → IsOrdered d
ordered_from c d tran k up made rca held busy app inquiries polled =
    ordered_up c d k
    (identified_in c.state Tran (in_state c.state Tran tran) refl) up made rca (λ _. held) busy (λ _. app)
    inquiries polled

ordered_tran : (c d : Card) → c.state ≡ Tran → IsOrdered c → d.state ≡ c.state → d.made ≡ c.made → d.rca ≡ c.rca
    → (c.is_busy ≡ true → d.is_busy ≡ true) → d.app ≡ false → d.inquiries ≤ patience → d.polled ≤ patience → IsOrdered d
ordered_tran c d e k state made rca busy app inquiries polled =
    let tran : d.state ≡ Tran = state ∙ e in
    ordered_up c d k (identified_in c.state Tran e refl) (identified_in d.state Tran tran refl) made rca
    (λ h. cc (ap (λ x. is_in x Tran) tran, h)) (λ h. cc (ap (λ x. is_in x Prg) tran, h)) (λ _. app) inquiries polled

ordered_first : (index : ℕ) (c : Card) (address : ℕ) (held : Held) → c.state ≡ Tran → IsOrdered c
    → IsOrdered (hold_first index c address held).0
ordered_first index c address NoAddress e k = ordered_tran c _ e k refl refl refl (λ h. h) refl k.inquiries k.polled
ordered_first index c address (First first) e k = ordered_forgotten c k
ordered_first index c address (Both first last) e k = ordered_forgotten c k

ordered_last : (index : ℕ) (c : Card) (address : ℕ) (held : Held) → c.state ≡ Tran → IsOrdered c
    → IsOrdered (hold_last index c address held).0
ordered_last index c address NoAddress e k = ordered_forgotten c k
ordered_last index c address (First first) e k = ordered_tran c _ e k refl refl refl (λ h. h) refl k.inquiries k.polled
ordered_last index c address (Both first last) e k = ordered_forgotten c k

ordered_erase : (c : Card) (argument : ℕ) (held : Held) → is_in c.state Tran ≡ true → IsOrdered c
    → IsOrdered (erase_held c argument held).0
ordered_erase c argument NoAddress e k = ordered_forgotten c k
ordered_erase c argument (First first) e k = ordered_forgotten c k
ordered_erase c argument (Both first last) e k =
    first_by_cond IsOrdered (is_no_range c first last) _ _ (λ _. ordered_forgotten c k)
    (λ _. ordered_from c (erases (erasing c (is_trim c argument) first last) c) e k refl refl refl refl (λ h. refl)
    refl k.inquiries (omega arith))

ordered_switch : (late : Bool) (c : Card) (o : Option Card) → AreSwitched c o → is_in c.state Tran ≡ true
    → c.erase ≡ NoAddress → IsOrdered c → IsOrdered (switch_row late c o).0
ordered_switch late c None h e none k =
    ordered_from c _ e k refl refl refl none (λ h. refl) refl k.inquiries (omega arith)
ordered_switch late c (Some d) h e none k =
    ordered_from c _ e k refl h.made h.rca (h.erase ∙ none) (λ h. refl) refl
    (along (λ n. n ≤ patience) h.inquiries k.inquiries) (omega arith)

sd_alone : {X : Type 0} (kind : Kind) → is_sd kind ≡ true → kind ≡ Mmc → X
sd_alone Sd h e = cc
sd_alone Mmc h e = cc

ordered_named : (c d : Card) → IsOrdered c → d.state ≡ Stby → d.erase ≡ NoAddress
    → d.app ≡ false → d.inquiries ≤ patience → d.polled ≤ patience → IsOrdered d
ordered_named c d k stby held app inquiries polled = record {
  held = λ h. held;
  busy = λ h. cc (ap (λ x. is_in x Prg) stby, h);
  rca = λ h. cc (ap is_identified stby, h);
  app = λ h. app;
  inquiries = inquiries;
  polled = polled;
}

not_tran : (s : State) → (is_in s Ident || is_in s Stby) ≡ true → is_in s Tran ≡ false
not_tran Idle h = refl
not_tran Ready h = refl
not_tran Ident h = refl
not_tran Stby h = refl
not_tran Tran h = cc
not_tran Data h = refl
not_tran Rcv h = refl
not_tran Prg h = refl
not_tran Dis h = refl

either_up : (s : State) → (is_in s Tran || (is_in s Data || is_in s Rcv)) ≡ true → is_identified s ≡ true
either_up Tran h = refl
either_up Data h = refl
either_up Rcv h = refl
either_up _ h = cc

ordered_row : (choice : Choice) (command : Command) (c : Card) (index argument : ℕ) → is_legal command c ≡ true
    → (leaves_erase command ≡ false → c.erase ≡ NoAddress) → IsOrdered c
    → IsOrdered (row choice command c index argument).0
ordered_row choice GoIdleState c index argument l none k = ordered_reset choice.lands choice.keeps_length c
ordered_row choice SendOpCond c index argument l none k =
    ordered_inquired (not choice.is_slow) c (in_state c.state Idle l) k
ordered_row choice SdSendOpCond c index argument l none k =
    ordered_inquired (is_served c argument && not choice.is_slow) c (in_state c.state Idle l) k
ordered_row choice AllSendCid c index argument l none k =
    ordered_low c _ k (hidden_in c.state Ready (in_state c.state Ready l) refl) refl refl refl refl (none refl)
    (λ _. refl) k.inquiries k.polled
ordered_row choice SendRelativeAddr c index argument l none k =
    ordered_named c _ k refl (none refl) refl k.inquiries k.polled
ordered_row choice SetRelativeAddr c index argument l none k =
    ordered_named c _ k refl (none refl) refl k.inquiries k.polled
ordered_row choice SelectCard c index argument l none k =
    ordered_up c _ k (identified_in c.state Stby (in_state c.state Stby l) refl) refl refl refl (λ h. none refl)
    (λ h. cc) (λ _. refl) k.inquiries (omega arith)
ordered_row choice SendIfCond c index argument l none k =
    ordered_like c _ k refl refl refl (λ h. h) (λ h. h) (λ _. refl) k.inquiries k.polled
ordered_row choice SendExtCsd c index argument l none k =
    ordered_from c _ l k refl refl refl (none refl) (λ h. cc) refl k.inquiries k.polled
ordered_row choice SendCsd c index argument l none k = ordered_done c k
ordered_row choice StopTransmission c index argument l none k =
    let up = either_up c.state l in
    first_by_cond IsOrdered (is_in c.state Tran && not choice.answers_stop) _ _ (λ _. ordered_refused c k)
    (λ _. by_cond IsOrdered (is_in c.state Rcv)
    (λ h. ordered_up c _ k up refl refl refl (λ _. none refl) (λ _. refl) (λ _. refl) k.inquiries (omega arith))
    (λ h. by_cond IsOrdered choice.stays_busy
    (λ _. ordered_up c _ k up refl refl refl (λ _. none refl) (λ h. cc) (λ _. refl) k.inquiries (omega arith))
    (λ _. ordered_up c _ k up refl refl refl (λ _. none refl) (λ h. cc) (λ _. refl) k.inquiries (omega arith))))
ordered_row choice SendStatus c index argument l none k =
    first_by_cond IsOrdered (may_lag c && choice.is_behind) _ _
    (λ _. ordered_like c _ k refl refl refl (λ h. h) (λ h. h) (λ _. refl) k.inquiries (counted_below c.polled))
    (λ _. ordered_shown c k)
ordered_row choice SetBlocklen c index argument l none k =
    first_by_cond IsOrdered (argument == 512) _ _
    (λ _. ordered_like c _ k refl refl refl (λ h. h) (λ h. h) (λ _. refl) k.inquiries k.polled) (λ _. ordered_shown c k)
ordered_row choice ReadSingleBlock c index argument l none k =
    ordered_transferred 17 (transfer_errors false c argument) c _ k
    (ordered_from c _ l k refl refl refl (none refl) (λ h. cc) refl k.inquiries k.polled)
ordered_row choice ReadMultipleBlock c index argument l none k =
    ordered_transferred 18 (transfer_errors false c argument) c _ k
    (ordered_from c _ l k refl refl refl (none refl) (λ h. cc) refl k.inquiries k.polled)
ordered_row choice SetBlockCount c index argument l none k =
    ordered_like c _ k refl refl refl (λ h. h) (λ h. h) (λ _. refl) k.inquiries k.polled
ordered_row choice WriteBlock c index argument l none k =
    ordered_transferred 24 (transfer_errors true c argument) c _ k
    (ordered_from c _ l k refl refl refl (none refl) (λ h. cc) refl k.inquiries k.polled)
ordered_row choice WriteMultipleBlock c index argument l none k =
    ordered_transferred 25 (transfer_errors true c argument) c _ k
    (ordered_from c _ l k refl refl refl (none refl) (λ h. cc) refl k.inquiries k.polled)
ordered_row choice EraseStart c index argument l none k =
    ordered_first index c argument c.erase (in_state c.state Tran l) k
ordered_row choice EraseEnd c index argument l none k =
    ordered_last index c argument c.erase (in_state c.state Tran l) k
ordered_row choice Erase c index argument l none k = ordered_erase c argument c.erase l k
ordered_row choice Switch c index argument l none k =
    ordered_switch choice.says_late c _ (may_switch choice.fails_switch c argument) l (none refl) k
ordered_row choice SwitchFunc c index argument l none k =
    ordered_from c _ (both (is_in c.state Tran) (has_switch_function c.made) l).0 k refl refl refl (none refl) (λ h. cc)
    refl k.inquiries k.polled
ordered_row choice SetBusWidth c index argument l none k =
    ordered_like c _ k refl refl refl (λ h. h) (λ h. h) (λ _. refl) k.inquiries k.polled
ordered_row choice SendScr c index argument l none k =
    ordered_from c _ l k refl refl refl (none refl) (λ h. cc) refl k.inquiries k.polled
ordered_row choice AppCmd c index argument l none k =
    ordered_like c _ k refl refl refl (λ h. h) (λ h. h)
    (λ mmc. sd_alone c.made.kind (both (is_sd c.made.kind) _ l).0 mmc) k.inquiries k.polled
ordered_row choice Unknown c index argument l none k = cc

dropped_none : (quietly : Bool) (c : Card) (held : Held) → c.erase ≡ held → (without_addresses quietly c).erase ≡ NoAddress
dropped_none true c NoAddress e = rw e refl
dropped_none true c (First first) e = rw e refl
dropped_none true c (Both first last) e = rw e refl
dropped_none false c NoAddress e = rw e refl
dropped_none false c (First first) e = rw e refl
dropped_none false c (Both first last) e = rw e refl

pub none_reached : (choice : Choice) (command : Command) (c : Card) → leaves_erase command ≡ false
    → (reached choice command c).erase ≡ NoAddress
none_reached choice command c h =
    by_cond (λ (d : Card). d.erase ≡ NoAddress) (leaves_erase command) (λ t. cc (h, t))
    (λ _. dropped_none choice.drops_quietly c c.erase refl)

pub ordered_responded : (choice : Choice) (command : Command) (c : Card) (index argument : ℕ) → IsOrdered c
    → IsOrdered (responded choice command c index argument).0
ordered_responded choice command c index argument k =
    let now = ordered_reached choice command c k in
    after_response IsOrdered choice command c index argument k
    (λ l. ordered_row choice command (reached choice command c) index argument (legal_reached choice command c ∙ l)
    (none_reached choice command c) now)
    (ordered_shown (reached choice command c) now) (ordered_refused (reached choice command c) now)

pub ordered_answered : (choice : Choice) (c : Card) (sent : Option (ℕ × ℕ)) → IsOrdered c
    → IsOrdered (answered choice c sent).0
ordered_answered choice c sent k =
    after_answer IsOrdered choice c sent (λ command index argument. ordered_responded choice command c index argument k)
    (ordered_garbled choice.keeps_count c k)

-- Blocks.

identified_if : (b : Bool) (x y : State) → is_identified x ≡ true → is_identified y ≡ true
    → is_identified (if b then x else y) ≡ true
identified_if b x y p q = by_cond (λ s. is_identified s ≡ true) b (λ _. p) (λ _. q)

pub ordered_accepted : (block : List ℕ) (c : Card) → is_in c.state Rcv ≡ true → IsOrdered c
    → IsOrdered (accepted block c)
ordered_accepted block c rcv k =
    let e = in_state c.state Rcv rcv in
    ordered_up c _ k (identified_in c.state Rcv e refl) (identified_if (is_last c.left) Prg Rcv refl refl) refl refl
    (λ _. k.held (not_in c.state Rcv Tran e refl)) (λ _. refl) k.app k.inquiries (omega arith)

ordered_over : (is_busy : Bool) (c : Card) → is_in c.state Rcv ≡ true → IsOrdered c → IsOrdered (over is_busy c)
ordered_over is_busy c rcv k =
    let e = in_state c.state Rcv rcv in
    by_cond IsOrdered is_busy
    (λ _. ordered_up c _ k (identified_in c.state Rcv e refl) refl refl refl
    (λ _. k.held (not_in c.state Rcv Tran e refl)) (λ _. refl) k.app k.inquiries (omega arith))
    (λ _. ordered_up c _ k (identified_in c.state Rcv e refl) refl refl refl (λ h. cc) (λ h. cc)
    k.app k.inquiries k.polled)

pub ordered_rejected : (ignores is_busy : Bool) (c : Card) → is_in c.state Rcv ≡ true → IsOrdered c
    → IsOrdered (rejected ignores is_busy c)
ordered_rejected ignores is_busy c rcv k =
    by_cond IsOrdered ignores (λ _. ordered_ignoring true c k)
    (λ _. by_cond IsOrdered c.is_single (λ _. ordered_over is_busy c rcv k) (λ _. k))

quiet_if : (b : Bool) → is_in (if b then Tran else Data) Prg ≡ false
quiet_if true = refl
quiet_if false = refl

pub ordered_sent_from : (source : Source) (choice : Choice) (c : Card) → is_in c.state Data ≡ true → IsOrdered c
    → IsOrdered (sent_from source choice c)
ordered_sent_from FromSectors choice c h k =
    let e = in_state c.state Data h in
    ordered_up c _ k (identified_in c.state Data e refl) (identified_if (is_last c.left) Tran Data refl refl) refl refl
    (λ _. k.held (not_in c.state Data Tran e refl)) (λ h. cc (quiet_if (is_last c.left), h)) k.app k.inquiries k.polled
ordered_sent_from (FromBytes bytes timing) choice c h k =
    let e = in_state c.state Data h in
    ordered_up c _ k (identified_in c.state Data e refl) refl refl refl
    (λ h. cc) (λ h. cc) k.app k.inquiries k.polled
