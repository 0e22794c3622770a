-- Each row keeps what holds of what is unfinished, of a switch that runs and of what is to be sent.
use Rattle.std.proofs.Common.{◌&&◌, ◌*◌, ◌+◌, ◌-◌, ◌<◌, ◌∙◌, ◌||◌, ◌≡◌, ◌≤◌, Bool, List, [], ap, arith, false, length}
use Rattle.std.proofs.Common.{not, refl, sym, true, ℕ}
use Rattle.std.specs.Prelude.{◌/◌, ◌==◌, None, Option, Some, if◌then◌else◌, min, nat_le, nat_lt, replicate}
use Rattle.std.proofs.lemmas.Bool.Decides.{nat_tests}
use Rattle.std.proofs.lemmas.List.{length-replicate}
use Rattle.mmc_frame.specs.declared.card_state.State.{State}
use Rattle.mmc_frame.specs.declared.card_state.State.TheVariants.{Data, Dis, Ident, Idle, Prg, Rcv, Ready, Stby, Tran}
use Rattle.mmc_card.specs.declared.exchange.Lines.{Lines}
use Rattle.mmc_card.proofs.CardRows.{legal_reached}
use Rattle.mmc_card.proofs.Cards.{in_state}
use Rattle.mmc_card.proofs.Conditions.{by_cond, first_by_cond}
use Rattle.mmc_card.proofs.Responses.{after_answer, after_response}
use Rattle.mmc_card.proofs.Landing.{landed_size, snoc_length}
use Rattle.mmc_card.proofs.Narrow.{AreSwitched, both, may_switch}
use Rattle.mmc_card.specs.CardAnswer.{Choice, done, garbled, left_with, raised, refused, reset, shown}
use Rattle.mmc_card.specs.Blocks.{accepted, awaits, can_accept, fallen_short, is_last, lines_fit, next_written, over}
use Rattle.mmc_card.specs.Blocks.{fallen_early, ignoring, programmed, rejected, rested, sent_from, waited}
use Rattle.mmc_card.specs.Card.{Both, Card, First, FitsPart, FromBytes, FromSectors, Held, NoAddress, Source, is_in}
use Rattle.mmc_card.specs.Card.{stored}
use Rattle.mmc_card.specs.Made.{is_mmc, sector_at}
use Rattle.mmc_card.specs.declared.command.Command.{Command}
use Rattle.mmc_card.specs.declared.command.Command.TheVariants.{SdSendOpCond, SendScr, SetBusWidth, AllSendCid, AppCmd}
use Rattle.mmc_card.specs.declared.command.Command.TheVariants.{Erase, EraseEnd, EraseStart, GoIdleState}
use Rattle.mmc_card.specs.declared.command.Command.TheVariants.{ReadMultipleBlock, ReadSingleBlock, SelectCard, SendCsd}
use Rattle.mmc_card.specs.declared.command.Command.TheVariants.{SendExtCsd, SendIfCond, SendOpCond, SendRelativeAddr}
use Rattle.mmc_card.specs.declared.command.Command.TheVariants.{SendStatus, SetBlockCount, SetBlocklen, SetRelativeAddr}
use Rattle.mmc_card.specs.declared.command.Command.TheVariants.{StopTransmission, Switch, SwitchFunc, Unknown}
use Rattle.mmc_card.specs.declared.command.Command.TheVariants.{WriteBlock, WriteMultipleBlock}
use Rattle.mmc_card.specs.Rows.{answered, is_legal, leaves_erase, reached, responded, row}
use Rattle.mmc_card.specs.RowsErase.{erase_held, erased_from, erased_to, forgotten, hold_first, hold_last}
use Rattle.mmc_card.specs.RowsErase.{holds_address, is_no_range, is_trim}
use Rattle.mmc_card.specs.Sectors.{is_boot}
use Rattle.mmc_card.specs.RowsIdentify.{inquired, is_served, may_lag}
use Rattle.mmc_card.specs.RowsSwitch.{switch_row, switched}
use Rattle.mmc_card.specs.RowsTransfer.{begun, preset, transfer_errors, transferred}

pub record IsSettled (card : Card) : Type 0 where
  pub fits : FitsPart card
  pub receives : is_in card.state Rcv ≡ true → card.is_switching ≡ false
  pub switches : is_in card.state Prg ≡ true → card.is_switching ≡ true → card.values ≡ []
  pub source : is_in card.state Data ≡ false → card.source ≡ FromSectors

fits_none : (card : Card) → card.values ≡ [] → FitsPart card
fits_none card none some = let empty = ap length none in absurd (omega (arith, some, empty))

-- the state is as it was
settled_like : (c d : Card) → IsSettled c → d.state ≡ c.state → FitsPart d → d.is_switching ≡ c.is_switching
    → d.values ≡ c.values → d.source ≡ c.source → IsSettled d
settled_like c d k state fits switching values source = record {
  fits = fits;
  receives = λ h. switching ∙ k.receives (ap (λ s. is_in s Rcv) (sym state) ∙ h);
  switches = λ h w. values ∙ k.switches (ap (λ s. is_in s Prg) (sym state) ∙ h) (sym switching ∙ w);
  source = λ h. source ∙ k.source (ap (λ s. is_in s Data) (sym state) ∙ h);
}

-- a state in which nothing is written
settled_rest : (d : Card) (s : State) → d.state ≡ s → is_in s Rcv ≡ false → is_in s Prg ≡ false → FitsPart d
    → (is_in s Data ≡ false → d.source ≡ FromSectors) → IsSettled d
settled_rest d s e rcv prg fits source = record {
  fits = fits;
  receives = λ h. cc (ap (λ x. is_in x Rcv) e ∙ rcv, h);
  switches = λ h w. cc (ap (λ x. is_in x Prg) e ∙ prg, h);
  source = λ h. source (ap (λ x. is_in x Data) (sym e) ∙ h);
}

source_at : (c : Card) (s : State) → IsSettled c → c.state ≡ s → is_in s Data ≡ false → c.source ≡ FromSectors
source_at c s k e h = k.source (ap (λ x. is_in x Data) e ∙ h)

pub settled_shown : (c : Card) → IsSettled c → IsSettled (shown c)
settled_shown c k = settled_like c _ k refl k.fits refl refl refl

settled_done : (c : Card) → IsSettled c → IsSettled (done c)
settled_done c k = settled_like c _ k refl k.fits refl refl refl

settled_forgotten : (c : Card) → IsSettled c → IsSettled (forgotten (shown c))
settled_forgotten c k = settled_like c _ k refl k.fits refl refl refl

settled_refused : (c : Card) → IsSettled c → IsSettled (refused c)
settled_refused c k = settled_like c _ k refl k.fits refl refl refl

pub settled_left : (bits : ℕ) (c : Card) → IsSettled c → IsSettled (left_with bits c)
settled_left bits c k = settled_like c _ k refl k.fits refl refl refl

pub settled_garbled : (keeps : Bool) (c : Card) → IsSettled c → IsSettled (garbled keeps c)
settled_garbled keeps c k = settled_like c _ k refl k.fits refl refl refl

pub settled_raised : (bits : ℕ) (c : Card) → IsSettled c → IsSettled (raised bits c)
settled_raised bits c k = settled_like c _ k refl k.fits refl refl refl

pub settled_reached : (choice : Choice) (command : Command) (c : Card) → IsSettled c → IsSettled (reached choice command c)
settled_reached choice command c k =
    by_cond IsSettled (leaves_erase command) (λ _. k)
    (λ _. by_cond IsSettled (holds_address c.erase)
    (λ _. by_cond IsSettled choice.drops_quietly (λ _. settled_like c _ k refl k.fits refl refl refl)
    (λ _. settled_like c _ k refl k.fits refl refl refl)) (λ _. k))

pub settled_reset : (lands : ℕ → Bool) (keeps_length : Bool) (c : Card) → IsSettled (reset lands keeps_length c)
settled_reset lands keeps_length c =
    settled_rest _ Idle refl refl refl (fits_none (reset lands keeps_length c) refl) (λ _. refl)

pub settled_programmed : (lands : ℕ → Bool) (c : Card) → is_in c.state Prg ≡ true → IsSettled c
    → IsSettled (programmed lands c)
settled_programmed lands c prg k =
    settled_rest _ Tran refl refl refl (fits_none (programmed lands c) refl)
    (λ _. source_at c Prg k (in_state c.state Prg prg) refl)

pub settled_fallen_short : (lands : ℕ → Bool) (c : Card) → IsSettled c → IsSettled (fallen_short lands c)
settled_fallen_short lands c k = record {
  fits = fits_none (fallen_short lands c) refl;
  receives = k.receives;
  switches = λ h w. refl;
  source = k.source;
}

pub settled_fallen_early : (lands : ℕ → Bool) (c : Card) → IsSettled c → IsSettled (fallen_early lands c)
settled_fallen_early lands c k = record {
  fits = fits_none (fallen_early lands c) refl;
  receives = k.receives;
  switches = λ h w. refl;
  source = k.source;
}

pub settled_ignoring : (ignores : Bool) (c : Card) → IsSettled c → IsSettled (ignoring ignores c)
settled_ignoring ignores c k =
    by_cond IsSettled ignores (λ _. settled_like c _ k refl k.fits refl refl refl) (λ _. k)

pub settled_rested : (c : Card) → IsSettled c → IsSettled (rested c)
settled_rested c k =
    by_cond IsSettled (is_in c.state Prg)
    (λ prg. settled_programmed (λ i. true) c prg k)
    (λ _. settled_like c _ k refl k.fits refl refl refl)

pub settled_waited : (c : Card) → IsSettled c → IsSettled (waited c)
settled_waited c k = settled_like c _ k refl k.fits refl refl refl

-- Rows.

settled_inquired : (is_ready : Bool) (c : Card) → c.state ≡ Idle → IsSettled c
    → IsSettled (inquired is_ready c).0
settled_inquired true c e k = settled_rest _ Ready refl refl refl k.fits (λ _. source_at c Idle k e refl)
settled_inquired false c e k = settled_like c _ k refl k.fits refl refl refl

settled_transferred : (index errors : ℕ) (c after : Card) → IsSettled c → IsSettled after
    → IsSettled (transferred index errors c after).0
settled_transferred index errors c after k a =
    first_by_cond IsSettled (errors == 0) _ _ (λ _. a) (λ _. settled_shown c k)

settled_begun : (state : State) (is_single : Bool) (left : Option ℕ) (c : Card) (address : ℕ)
    → IsSettled (begun state is_single left c address)
settled_begun state is_single left c address = record {
  fits = fits_none (begun state is_single left c address) refl;
  receives = λ h. refl;
  switches = λ h w. refl;
  source = λ h. refl;
}

settled_first : (index : ℕ) (c : Card) (address : ℕ) (held : Held) → IsSettled c
    → IsSettled (hold_first index c address held).0
settled_first index c address NoAddress k = settled_like c _ k refl k.fits refl refl refl
settled_first index c address (First first) k = settled_forgotten c k
settled_first index c address (Both first last) k = settled_forgotten c k

settled_last : (index : ℕ) (c : Card) (address : ℕ) (held : Held) → IsSettled c
    → IsSettled (hold_last index c address held).0
settled_last index c address NoAddress k = settled_forgotten c k
settled_last index c address (First first) k = settled_like c _ k refl k.fits refl refl refl
settled_last index c address (Both first last) k = settled_forgotten c k

-- what an erase names lies inside the partition
ends_inside : (trims : Bool) (unit last size : ℕ) → last < size
    → (if trims then last + 1 else min ((last / unit + 1) * unit) size) ≤ size
ends_inside true unit last size below = omega (arith, below)
ends_inside false unit last size below = omega arith

in_range : (boot less past : Bool) → (boot || (less || past)) ≡ false → past ≡ false
in_range false false past h = h
in_range false true past h = cc
in_range true less past h = cc

below_by : (size last : ℕ) → nat_le size last ≡ false → last < size
below_by size last h = grind (arith, nat_tests, h)

between : (start end size n : ℕ) → end ≤ size → n ≡ end - start → 0 < n → start + n ≤ size
between start end size n below e some = omega (arith, below, e, some)

settled_erase : (c : Card) (argument : ℕ) (held : Held) → is_in c.state Tran ≡ true → IsSettled c
    → IsSettled (erase_held c argument held).0
settled_erase c argument NoAddress tran k = settled_forgotten c k
settled_erase c argument (First first) tran k = settled_forgotten c k
settled_erase c argument (Both first last) tran k =
    first_by_cond IsSettled (is_no_range c first last) _ _ (λ _. settled_forgotten c k)
    (λ range.
    let trims = is_trim c argument in
    let size = length (stored c c.part) in
    let from = erased_from c.made trims (sector_at c.made first) in
    let to = erased_to c.made trims size (sector_at c.made last) in
    let inside =
    below_by size (sector_at c.made last)
    (in_range (is_boot c.part) (nat_lt (sector_at c.made last) (sector_at c.made first))
    (nat_le size (sector_at c.made last)) range) in
    record {
      fits = between from to size (length (replicate (to - from) _))
          (ends_inside trims _ (sector_at c.made last) size inside) (length-replicate (to - from) _);
      receives = λ h. refl;
      switches = λ h w. cc;
      source = λ h. source_at c Tran k (in_state c.state Tran tran) refl;
    })

abbrev SourcesStay : Card → Option Card → Type 0
SourcesStay c None = Unit {0}
SourcesStay c (Some d) = d.source ≡ c.source

sources_of : (c : Card) (o : Option Card) → AreSwitched c o → SourcesStay c o
sources_of c None h = tt
sources_of c (Some d) h = h.source

sources_stay : (fails : Bool) (c : Card) (argument : ℕ) → SourcesStay c (if fails then None else switched c argument)
sources_stay fails c argument = sources_of c _ (may_switch fails c argument)

settled_switch : (late : Bool) (c : Card) (o : Option Card) → SourcesStay c o → is_in c.state Tran ≡ true → IsSettled c
    → IsSettled (switch_row late c o).0
settled_switch late c None same tran k = record {
  fits = fits_none (switch_row late c None).0 refl;
  receives = λ h. cc;
  switches = λ h w. refl;
  source = λ h. source_at c Tran k (in_state c.state Tran tran) refl;
}
settled_switch late c (Some d) same tran k = record {
  fits = fits_none (switch_row late c (Some d)).0 refl;
  receives = λ h. cc;
  switches = λ h w. refl;
  source = λ h. same ∙ source_at c Tran k (in_state c.state Tran tran) refl;
}

quiet_either : (s : State) → (is_in s Ident || is_in s Stby) ≡ true → is_in s Data ≡ false
quiet_either Idle h = refl
quiet_either Ready h = refl
quiet_either Ident h = refl
quiet_either Stby h = refl
quiet_either Tran h = refl
quiet_either Data h = cc
quiet_either Rcv h = refl
quiet_either Prg h = refl
quiet_either Dis h = refl

settled_row : (choice : Choice) (command : Command) (c : Card) (index argument : ℕ) → is_legal command c ≡ true
    → IsSettled c → IsSettled (row choice command c index argument).0
settled_row choice GoIdleState c index argument l k = settled_reset choice.lands choice.keeps_length c
settled_row choice SendOpCond c index argument l k =
    settled_inquired (not choice.is_slow) c (in_state c.state Idle l) k
settled_row choice SdSendOpCond c index argument l k =
    settled_inquired (is_served c argument && not choice.is_slow) c (in_state c.state Idle l) k
settled_row choice AllSendCid c index argument l k =
    settled_rest _ Ident refl refl refl k.fits (λ _. source_at c Ready k (in_state c.state Ready l) refl)
settled_row choice SendRelativeAddr c index argument l k =
    settled_rest _ Stby refl refl refl k.fits (λ _. k.source (quiet_either c.state l))
settled_row choice SetRelativeAddr c index argument l k =
    settled_rest _ Stby refl refl refl k.fits
    (λ _. source_at c Ident k (in_state c.state Ident (both (is_mmc c.made.kind) (is_in c.state Ident) l).1) refl)
settled_row choice SelectCard c index argument l k =
    settled_rest _ Tran refl refl refl k.fits (λ _. source_at c Stby k (in_state c.state Stby l) refl)
settled_row choice SendIfCond c index argument l k = settled_like c _ k refl k.fits refl refl refl
settled_row choice SendExtCsd c index argument l k = settled_rest _ Data refl refl refl k.fits (λ h. cc)
settled_row choice SendCsd c index argument l k = settled_done c k
settled_row choice StopTransmission c index argument l k =
    first_by_cond IsSettled (is_in c.state Tran && not choice.answers_stop) _ _ (λ _. settled_refused c k)
    (λ _. by_cond IsSettled (is_in c.state Rcv)
    (λ rcv. record {
      fits = k.fits;
      receives = λ h. cc;
      switches = λ h w. cc;
      source = λ h. source_at c Rcv k (in_state c.state Rcv rcv) refl;
    })
    (λ _. by_cond IsSettled choice.stays_busy (λ _. settled_rest _ Tran refl refl refl k.fits (λ _. refl))
    (λ _. settled_rest _ Tran refl refl refl k.fits (λ _. refl))))
settled_row choice SendStatus c index argument l k =
    first_by_cond IsSettled (may_lag c && choice.is_behind) _ _
    (λ _. settled_like c _ k refl k.fits refl refl refl) (λ _. settled_shown c k)
settled_row choice SetBlocklen c index argument l k =
    first_by_cond IsSettled (argument == 512) _ _
    (λ _. settled_like c _ k refl k.fits refl refl refl) (λ _. settled_shown c k)
settled_row choice ReadSingleBlock c index argument l k =
    settled_transferred 17 (transfer_errors false c argument) c _ k (settled_begun Data true (Some 1) c argument)
settled_row choice ReadMultipleBlock c index argument l k =
    settled_transferred 18 (transfer_errors false c argument) c _ k (settled_begun Data false (preset c) c argument)
settled_row choice SetBlockCount c index argument l k = settled_like c _ k refl k.fits refl refl refl
settled_row choice WriteBlock c index argument l k =
    settled_transferred 24 (transfer_errors true c argument) c _ k (settled_begun Rcv true (Some 1) c argument)
settled_row choice WriteMultipleBlock c index argument l k =
    settled_transferred 25 (transfer_errors true c argument) c _ k (settled_begun Rcv false (preset c) c argument)
settled_row choice EraseStart c index argument l k = settled_first index c argument c.erase k
settled_row choice EraseEnd c index argument l k = settled_last index c argument c.erase k
settled_row choice Erase c index argument l k = settled_erase c argument c.erase l k
settled_row choice Switch c index argument l k =
    settled_switch choice.says_late c _ (sources_stay choice.fails_switch c argument) l k
settled_row choice SwitchFunc c index argument l k = settled_rest _ Data refl refl refl k.fits (λ h. cc)
settled_row choice SetBusWidth c index argument l k = settled_like c _ k refl k.fits refl refl refl
settled_row choice SendScr c index argument l k = settled_rest _ Data refl refl refl k.fits (λ h. cc)
settled_row choice AppCmd c index argument l k = settled_like c _ k refl k.fits refl refl refl
settled_row choice Unknown c index argument l k = cc

settled_responded : (choice : Choice) (command : Command) (c : Card) (index argument : ℕ) → IsSettled c
    → IsSettled (responded choice command c index argument).0
settled_responded choice command c index argument k =
    let now = settled_reached choice command c k in
    after_response IsSettled choice command c index argument k
    (λ l. settled_row choice command (reached choice command c) index argument (legal_reached choice command c ∙ l) now)
    (settled_shown (reached choice command c) now) (settled_refused (reached choice command c) now)

pub settled_answered : (choice : Choice) (c : Card) (sent : Option (ℕ × ℕ)) → IsSettled c
    → IsSettled (answered choice c sent).0
settled_answered choice c sent k =
    after_answer IsSettled choice c sent (λ command index argument. settled_responded choice command c index argument k)
    (settled_garbled choice.keeps_count c k)

-- Blocks.

below_of : (a b : ℕ) → nat_lt a b ≡ true → a < b
below_of a b h = grind (arith, nat_tests, h)

pub above_of : (a b : ℕ) → a < b → nat_lt a b ≡ true
above_of a b h = grind (arith, nat_tests, h)

room : (lines : Lines) (c : Card) → can_accept lines c ≡ true → next_written c < length (stored c c.part)
room lines c h =
    below_of (next_written c) (length (stored c c.part))
    (both (awaits c.left) _ (both (lines_fit lines c) _ (both (not c.is_busy) _ (both (is_in c.state Rcv) _ h).1).1).1).1

-- after blocks that turned out not to be programmed the card accepts what it would have accepted
pub accepts_still : (lands : ℕ → Bool) (lines : Lines) (c : Card) → can_accept lines c ≡ true
    → can_accept lines (fallen_short lands c) ≡ true
accepts_still lands lines c h =
    let rcv = both (is_in c.state Rcv) _ h in
    let fit = both (lines_fit lines c) _ (both (not c.is_busy) _ rcv.1).1 in
    let awaited = (both (awaits c.left) _ fit.1).0 in
    let there = room lines c h in
    let same = landed_size c lands c.part in
    let inside : nat_lt (next_written (fallen_short lands c)) (length (stored (fallen_short lands c) c.part)) ≡ true =
    above_of _ _ (omega (arith, there, same)) in
    rw (rcv.0, fit.0, awaited, inside) refl

pub settled_accepted : (block : List ℕ) (lines : Lines) (c : Card) → can_accept lines c ≡ true → IsSettled c
    → IsSettled (accepted block c)
settled_accepted block lines c accepts k =
    let rcv = (both (is_in c.state Rcv) _ accepts).0 in
    let there = room lines c accepts in
    record {
      fits = λ some. (let n = snoc_length c.values block in omega (arith, there, n));
      receives = λ h. k.receives rcv;
      switches = λ h w. cc (k.receives rcv, w);
      source = λ h. source_at c Rcv k (in_state c.state Rcv rcv) refl;
    }

settled_over : (is_busy : Bool) (c : Card) → is_in c.state Rcv ≡ true → IsSettled c → IsSettled (over is_busy c)
settled_over is_busy c rcv k =
    by_cond IsSettled is_busy
    (λ _. record {
      fits = λ some. absurd (omega (arith, some));
      receives = λ h. cc;
      switches = λ h w. refl;
      source = λ h. source_at c Rcv k (in_state c.state Rcv rcv) refl;
    })
    (λ _. settled_rest _ Tran refl refl refl (λ some. absurd (omega (arith, some)))
    (λ _. source_at c Rcv k (in_state c.state Rcv rcv) refl))

pub settled_rejected : (ignores is_busy : Bool) (c : Card) → is_in c.state Rcv ≡ true → IsSettled c
    → IsSettled (rejected ignores is_busy c)
settled_rejected ignores is_busy c rcv k =
    by_cond IsSettled ignores (λ _. settled_ignoring true c k)
    (λ _. by_cond IsSettled c.is_single (λ _. settled_over is_busy c rcv k) (λ _. k))

settled_sent : (b : Bool) (d : Card) → d.state ≡ (if b then Tran else Data) → FitsPart d → d.source ≡ FromSectors
    → IsSettled d
settled_sent true d e fits source = settled_rest d Tran e refl refl fits (λ _. source)
settled_sent false d e fits source = settled_rest d Data e refl refl fits (λ _. source)

pub settled_sent_from : (source : Source) (choice : Choice) (c : Card) → c.source ≡ source → IsSettled c
    → IsSettled (sent_from source choice c)
settled_sent_from FromSectors choice c e k =
    settled_sent (is_last c.left) (sent_from FromSectors choice c) refl k.fits e
settled_sent_from (FromBytes bytes timing) choice c e k = settled_rest _ Tran refl refl refl k.fits (λ _. refl)
