-- Relation (docs/AUDIT.md, "What to read").
-- Transfers of blocks (SD Physical Layer 6.00, sections 4.3.3 and 4.3.4; JESD84-B51, sections 6.6.6 to 6.6.8), and the
-- registers that an SD card sends as blocks. Each row is what a card does with a command in a state where it is legal,
-- and its answer.
use Rattle.std.specs.Prelude.{◌&&◌, ◌*◌, ◌+◌, ◌==◌, Bool, List, None, Option, Some, [], false, if◌then◌else◌, length}
use Rattle.std.specs.Prelude.{nat_le, not, true, ℕ}
use Rattle.mmc_frame.specs.Field.{field}
use Rattle.mmc_frame.specs.declared.card_state.State.{State}
use Rattle.mmc_frame.specs.declared.card_state.State.TheVariants.{Data, Prg, Rcv, Tran}
use Rattle.mmc_frame.specs.declared.commands.TheConstants as Index
use Rattle.mmc_card.specs.declared.exchange.Timing.{Timing}
use Rattle.mmc_card.specs.CardAnswer.{CardAnswer, Checked, Choice, Silent, bit, busied, raised, refused, shown, status}
use Rattle.mmc_card.specs.ErrorBits.{address_error, block_len_error, out_of_range, wp_violation}
use Rattle.mmc_card.specs.Card.{Card, FromBytes, FromSectors, Source, is_in, stored}
use Rattle.mmc_card.specs.Made.{is_misaligned, is_read_only, is_sd, sector_at}

-- it sends nothing more, and its statuses may lag behind
abbrev pub ended : Card → Card
ended card = record (shown card) { state = Tran; source = FromSectors; polled = 0; lags = true }

-- A card after CMD12: of a write it programs what it accepted; of a read it is in tran, and may be busy there (R1b; SD
-- Physical Layer 6.00, sections 4.3.3 and 4.9.2; JESD84-B51, section 6.6.6).
abbrev pub stopped : Bool → Card → Card
stopped stays_busy card =
    if is_in card.state Rcv
    then record (busied (shown card)) { state = Prg; is_switching = false }
    else if stays_busy then busied (ended card) else ended card

-- CMD12, STOP_TRANSMISSION; in tran, where there is nothing to stop, it may be illegal (SD Physical Layer 6.00, table 4-35;
-- JESD84-B51, table 60)
abbrev pub stop_transmission : Choice → Card → Card × CardAnswer
stop_transmission choice card =
    if is_in card.state Tran && not choice.answers_stop
    then (refused card, Silent)
    else (stopped choice.stays_busy card, Checked Index.STOP_TRANSMISSION (status false card))

-- CMD16, SET_BLOCKLEN: 512 alone (the project's own: the host sends no other)
abbrev pub set_blocklen : Card → ℕ → Card × CardAnswer
set_blocklen card argument =
    if argument == 512
    then (record (shown card) { block_length = 512 }, Checked Index.SET_BLOCKLEN (status false card))
    else (shown card, Checked Index.SET_BLOCKLEN (status false (raised block_len_error card)))

-- a card after CMD23: 32 bits of SD (SD Physical Layer 6.00, section 4.7.4), 16 of eMMC (JESD84-B51, section 6.6.7)
abbrev pub preset_to : Card → ℕ → Card
preset_to card argument = record (shown card) { count = if is_sd card.made.kind then argument else field 15 0 argument }

-- CMD23, SET_BLOCK_COUNT
abbrev pub set_block_count_to : Card → ℕ → Card × CardAnswer
set_block_count_to card argument = (preset_to card argument, Checked Index.SET_BLOCK_COUNT (status false card))

-- a preset count of 0 is none (the project's own)
abbrev pub preset : Card → Option ℕ
preset card = if card.count == 0 then None else Some card.count

-- Why a transfer can't begin there: all error bits that hold.
-- With any of them the card stays in tran (the project's own).
abbrev pub transfer_errors : Bool → Card → ℕ → ℕ
transfer_errors is_write card address =
    out_of_range * bit (nat_le (length (stored card card.part)) (sector_at card.made address))
    + address_error * bit (is_misaligned card.made address)
    + block_len_error * bit (not (card.block_length == 512))
    + wp_violation * bit (is_write && is_read_only card.made)

-- the card sends sectors from this address on, or accepts them
abbrev pub begun : State → Bool → Option ℕ → Card → ℕ → Card
begun state is_single left card address =
    record (shown card) {
      state = state;
      source = FromSectors;
      next = sector_at card.made address;
      left = left;
      is_single = is_single;
      start = sector_at card.made address;
      values = [];
      is_switching = false;
    }

-- an R1 with these errors, and without any the transfer
abbrev pub transferred : ℕ → ℕ → Card → Card → Card × CardAnswer
transferred index errors card after =
    if errors == 0
    then (after, Checked index (status false card))
    else (shown card, Checked index (status false (raised errors card)))

-- CMD17, READ_SINGLE_BLOCK
abbrev pub read_single_block : Card → ℕ → Card × CardAnswer
read_single_block card address =
    transferred Index.READ_SINGLE_BLOCK (transfer_errors false card address) card
    (begun Data true (Some 1) card address)

-- CMD18, READ_MULTIPLE_BLOCK
abbrev pub read_multiple_block : Card → ℕ → Card × CardAnswer
read_multiple_block card address =
    transferred Index.READ_MULTIPLE_BLOCK (transfer_errors false card address) card
    (begun Data false (preset card) card address)

-- CMD24, WRITE_BLOCK
abbrev pub write_block : Card → ℕ → Card × CardAnswer
write_block card address =
    transferred Index.WRITE_BLOCK (transfer_errors true card address) card (begun Rcv true (Some 1) card address)

-- CMD25, WRITE_MULTIPLE_BLOCK
abbrev pub write_multiple_block : Card → ℕ → Card × CardAnswer
write_multiple_block card address =
    transferred Index.WRITE_MULTIPLE_BLOCK (transfer_errors true card address) card
    (begun Rcv false (preset card) card address)

-- the card sends what this names
abbrev pub sending_from : Source → Card → Card
sending_from source card = record (shown card) { state = Data; source = source }

-- the card sends these bytes as one block, and has this timing then
abbrev pub sending : List ℕ → Timing → Card → Card
sending bytes timing card = sending_from (FromBytes bytes timing) card

-- ACMD51, SEND_SCR (SD Physical Layer 6.00, section 5.6)
abbrev pub send_scr : Card → Card × CardAnswer
send_scr card = (sending card.made.scr card.timing card, Checked Index.SEND_SCR (status true card))
