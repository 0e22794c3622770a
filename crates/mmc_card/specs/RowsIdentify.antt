-- Relation (docs/AUDIT.md, "What to read").
-- Identification and status (SD Physical Layer 6.00, sections 4.2 and 4.3; JESD84-B51, sections 6.4 and 6.6.1).
-- Each row is what a card does with a command in a state where it is legal, and its answer.
use Rattle.std.specs.Prelude.{◌&&◌, ◌+◌, ◌==◌, ◌^◌, ◌||◌, Bool, false, if◌then◌else◌, not, true, ℕ}
use Rattle.mmc_frame.specs.Field.{field}
use Rattle.mmc_frame.specs.declared.card_state.State.{State}
use Rattle.mmc_frame.specs.declared.card_state.State.TheVariants.{Data, Ident, Prg, Rcv, Ready, Stby, Tran}
use Rattle.mmc_frame.specs.declared.commands.TheConstants as Index
use Rattle.mmc_regs.specs.Ocr.{card_capacity_status}
use Rattle.mmc_card.specs.CardAnswer.{CardAnswer, Checked, Choice, Silent, R3, R2, busied, counted, done, published}
use Rattle.mmc_card.specs.CardAnswer.{r6_argument, reset, shown, status}
use Rattle.mmc_card.specs.Card.{Card, is_in}
use Rattle.mmc_card.specs.Made.{csd_told}

-- CMD0, GO_IDLE_STATE
abbrev pub go_idle_state : Choice → Card → Card × CardAnswer
go_idle_state choice card = (reset choice.lands choice.keeps_length card, Silent)

-- A readiness inquiry: not ready yet, or ready, which bit 31 of the OCR says (SD Physical Layer 6.00, section 5.1;
-- JESD84-B51, section 7.1).
abbrev pub inquired : Bool → Card → Card × CardAnswer
inquired is_ready card =
    if is_ready
    then (record (done card) { state = Ready; inquiries = counted card.inquiries }, R3 (2 ^ 31 + card.made.ocr))
    else (record (done card) { inquiries = counted card.inquiries }, R3 card.made.ocr)

-- A card with CCS 1 is never ready for a host that doesn't say HCS, bit 30, and ignores it where it has accepted no CMD8
-- (SD Physical Layer 6.00, section 4.2.3).
abbrev pub is_served : Card → ℕ → Bool
is_served card argument =
    not (card_capacity_status card.made.ocr == 1) || ((field 30 30 argument == 1) && card.accepted_cmd8)

-- CMD1 of eMMC, SEND_OP_COND
abbrev pub send_op_cond : Choice → Card → Card × CardAnswer
send_op_cond choice card = inquired (not choice.is_slow) card

-- ACMD41, SD_SEND_OP_COND
abbrev pub sd_send_op_cond : Choice → Card → ℕ → Card × CardAnswer
sd_send_op_cond choice card argument = inquired (is_served card argument && not choice.is_slow) card

-- CMD2, ALL_SEND_CID
abbrev pub all_send_cid : Card → Card × CardAnswer
all_send_cid card = (record (done card) { state = Ident }, R2 card.made.cid)

-- CMD3 of SD, SEND_RELATIVE_ADDR; in stby too the card publishes an RCA anew
abbrev pub send_relative_addr : Choice → Card → Card × CardAnswer
send_relative_addr choice card = (
  record (shown card) { state = Stby; rca = published choice card.made },
  Checked Index.SEND_RELATIVE_ADDR
      (r6_argument (published choice card.made) card),
)

-- CMD3 of eMMC, SET_RELATIVE_ADDR
abbrev pub set_relative_addr : Card → ℕ → Card × CardAnswer
set_relative_addr card argument = (
  record (shown card) { state = Stby; rca = field 31 16 argument },
  Checked Index.SEND_RELATIVE_ADDR
      (status false card),
)

-- CMD7, SELECT_CARD; an eMMC device may be busy after it too (the project's own), and statuses may lag behind
abbrev pub select_card : Card → Card × CardAnswer
select_card card =
    (record (busied (shown card)) { state = Tran; lags = true }, Checked Index.SELECT_CARD (status false card))

-- CMD8 of SD, SEND_IF_COND: voltage 1, 2.7 to 3.6 V, is the only one (SD Physical Layer 6.00, section 4.3.13)
abbrev pub send_if_cond : Card → ℕ → Card × CardAnswer
send_if_cond card argument = (
  record (done card) { accepted_cmd8 = (field 11 8 argument == 1) || card.accepted_cmd8 },
  if field 11 8 argument == 1 then Checked Index.SEND_IF_COND
      (field 11 0 argument) else Silent,
)

-- CMD9, SEND_CSD
abbrev pub send_csd : Choice → Card → Card × CardAnswer
send_csd choice card = (done card, R2 (csd_told choice.is_protected card.made))

-- After CMD7, CMD12 and its programming a card's status may still show it on its way to tran (the project's own). How often
-- it does is counted with the polls of its busy time that were answered yes.
abbrev pub may_lag : Card → Bool
may_lag card = is_in card.state Tran && card.lags

-- the states that lead to tran
abbrev pub leads_to_tran : State → Bool
leads_to_tran Stby = true
leads_to_tran Data = true
leads_to_tran Rcv = true
leads_to_tran Prg = true
leads_to_tran _ = false

-- As such a status shows it: in one of these states, ready for data or not, or in tran and not ready (SD Physical Layer 6.00,
-- section 4.10.1; JESD84-B51, section 6.13). It may not show errors of the programming yet, nor that a switch failed
-- (JESD84-B51, section 6.6.1: SWITCH_ERROR is looked for once the busy time is over).
abbrev pub at_work : Choice → Card → Card
at_work choice card =
    record card {
      state = if leads_to_tran choice.shows then choice.shows else Tran;
      is_busy = not (leads_to_tran choice.shows && choice.shows_ready);
      errors = if choice.tells_late then 0 else card.errors;
      switch_error = if choice.tells_late then false else card.switch_error;
    }

-- a card after such a status
abbrev pub lagging : Choice → Card → Card
lagging choice card =
    record (shown card) {
      lags = true;
      polled = counted card.polled;
      errors = if choice.tells_late then card.errors else 0;
      switch_error = if choice.tells_late then card.switch_error else false;
    }

-- CMD13, SEND_STATUS
abbrev pub send_status : Choice → Card → Card × CardAnswer
send_status choice card =
    if may_lag card && choice.is_behind
    then (lagging choice card, Checked Index.SEND_STATUS (status false (at_work choice card)))
    else (shown card, Checked Index.SEND_STATUS (status false card))

-- CMD55 of SD, APP_CMD (SD Physical Layer 6.00, section 4.3.9)
abbrev pub app_cmd : Card → Card × CardAnswer
app_cmd card = (record (shown card) { app = true }, Checked Index.APP_CMD (status true card))
