-- Relation (docs/AUDIT.md, "What to read").
-- Polls, and blocks that are read and written (SD Physical Layer 6.00, sections 4.3.3 and 4.3.4; JESD84-B51, sections
-- 6.6.7 and 6.6.8). What makes a card busy, and for how long, is the project's own.
use Rattle.std.specs.Prelude.{◌&&◌, ◌++◌, ◌+◌, ◌-◌, ◌==◌, ◌∷◌, ◌≡◌, Bool, List, None, Option, Some, [], false, if◌then◌else◌}
use Rattle.std.specs.Prelude.{length, nat_lt, not, slice_index_or, suc, true, zero, ℕ}
use Rattle.mmc_frame.specs.declared.card_state.State.TheVariants.{Data, Prg, Rcv, Tran}
use Rattle.mmc_card.specs.declared.exchange.Lines.{Lines}
use Rattle.mmc_card.specs.CardAnswer.{Choice, busied, counted, raised}
use Rattle.mmc_card.specs.ErrorBits.{out_of_range}
use Rattle.mmc_card.specs.Card.{Card, FromBytes, FromSectors, Source, is_in, landed, stored}
use Rattle.mmc_card.specs.RowsSwitch.{timing_number, width_number}

-- Programming has ended, and these values have landed; statuses may lag behind.
abbrev pub programmed : (ℕ → Bool) → Card → Card
programmed lands card =
    record card { state = Tran; is_busy = false; lags = true; sectors = landed lands card; values = [] }

-- a poll that is answered no: the card isn't busy any more; in prg all has landed
abbrev pub rested : Card → Card
rested card =
    if is_in card.state Prg then programmed (λ i. true) card else record card { is_busy = false }

-- it rests so, however often it was polled before
abbrev pub HasRested : Card → Card → Type 0
HasRested old new = (polls : ℕ) × (new ≡ rested (record old { polled = polls }))

-- a poll that is answered yes
abbrev pub waited : Card → Card
waited card = record card { polled = counted card.polled }

-- A poll: the card after it, and whether it is busy.
abbrev pub polled_once : Choice → Card → Card × Bool
polled_once choice card =
    if card.is_busy && choice.is_slow then (waited card, true) else (rested card, false)

-- the lines of the host are those of the card
abbrev pub lines_fit : Lines → Card → Bool
lines_fit lines card =
    (width_number lines.width == width_number card.width) && (timing_number lines.timing == timing_number card.timing)

-- of the blocks to come this is the last
abbrev pub is_last : Option ℕ → Bool
is_last (Some left) = left == 1
is_last None = false

abbrev pub one_less : Option ℕ → Option ℕ
one_less (Some left) = Some (left - 1)
one_less None = None

-- Writing.

-- More blocks are to come: no count is reached, and the card ignores none after a rejected one.
abbrev pub awaits : Option ℕ → Bool
awaits (Some left) = nat_lt 0 left
awaits None = true

-- the next sector of a write
abbrev pub next_written : Card → ℕ
next_written card = card.start + length card.values

-- the card accepts no block that is offered while it is busy, with other lines, past the end, or where it awaits none
abbrev pub can_accept : Lines → Card → Bool
can_accept lines card =
    is_in card.state Rcv
    && (not card.is_busy
    && (lines_fit lines card
    && (awaits card.left && nat_lt (next_written card) (length (stored card card.part)))))

-- the card accepts the block, and is busy then; the last one of a counted write leads to prg
abbrev pub accepted : List ℕ → Card → Card
accepted block card =
    record (busied card) {
      values = card.values ++ block ∷ [];
      left = one_less card.left;
      state = if is_last card.left then Prg else Rcv;
    }

-- the card ignores all further blocks until CMD12 (SD Physical Layer 6.00, section 4.3.4), or doesn't
abbrev pub ignoring : Bool → Card → Card
ignoring ignores card = if ignores then record card { left = Some 0 } else card

-- a write of one block is over, at once or after a busy time
abbrev pub over : Bool → Card → Card
over is_busy card =
    if is_busy then record (busied card) { state = Prg; values = [] } else record card { state = Tran; values = [] }

-- The card rejects the block: it ignores all further blocks, or a write of one block is over, and one of several goes on
-- (the project's own).
abbrev pub rejected : Bool → Bool → Card → Card
rejected ignores is_busy card =
    if ignores then ignoring true card else if card.is_single then over is_busy card else card

-- An earlier block of the write turns out not to be programmed, once the card isn't busy any more: of what has come so far
-- these values have landed, and the transfer goes on after it (SD Physical Layer 6.00, section 4.3.4).
abbrev pub fallen_short : (ℕ → Bool) → Card → Card
fallen_short lands card =
    record card { is_busy = false; polled = 0; sectors = landed lands card; start = next_written card; values = [] }

-- what is unfinished is over before the card rests: these values have landed
abbrev pub fallen_early : (ℕ → Bool) → Card → Card
fallen_early lands card = record card { sectors = landed lands card; values = [] }

-- a block that is offered
abbrev pub offered : Lines → List ℕ → Card → Card
offered lines block card = if can_accept lines card then accepted block card else card

-- Reading.

-- the block that the card has to send, if any
abbrev pub block_to_send : Source → Card → Option (List ℕ)
block_to_send FromSectors card =
    if nat_lt card.next (length (stored card card.part)) then Some (slice_index_or (stored card card.part) card.next [])
    else None
block_to_send (FromBytes bytes timing) card = Some bytes

abbrev pub next_block : Card → Option (List ℕ)
next_block card = block_to_send card.source card

-- it has one of this length
abbrev pub is_of_length : ℕ → Option (List ℕ) → Bool
is_of_length size (Some block) = length block == size
is_of_length size None = false

abbrev pub can_send : Lines → ℕ → Card → Bool
can_send lines size card = is_in card.state Data && (lines_fit lines card && is_of_length size (next_block card))

-- it does, but while it is busy from CMD7 still it may let nothing come: READY_FOR_DATA was 0
-- (SD Physical Layer 6.00, section 4.10.1; JESD84-B51, section 6.13)
abbrev pub will_send : Choice → Lines → ℕ → Card → Bool
will_send choice lines size card = not (choice.is_slow && card.is_busy) && can_send lines size card

-- after the last sector of an uncounted read OUT_OF_RANGE may be set
abbrev pub is_none : Option ℕ → Bool
is_none None = true
is_none (Some left) = false

abbrev pub end_errors : Bool → Card → ℕ
end_errors says_end card =
    if is_none card.left && (says_end && (card.next + 1 == length (stored card card.part))) then out_of_range else 0

-- after the block: the last sector of a counted read, and any other bytes, lead to tran
abbrev pub sent_from : Source → Choice → Card → Card
sent_from FromSectors choice card =
    record (raised (end_errors choice.says_end card) card) {
      next = card.next + 1;
      left = one_less card.left;
      state = if is_last card.left then Tran else Data;
    }
sent_from (FromBytes bytes timing) choice card = record card { state = Tran; timing = timing; source = FromSectors }

abbrev pub sent : Choice → Card → Card
sent choice card = sent_from card.source choice card

-- a block that is asked for
abbrev pub asked_for : Choice → Lines → ℕ → Card → Card
asked_for choice lines size card = if will_send choice lines size card then sent choice card else card

-- Between exchanges.

-- a block of a read that the card sends and nobody takes
abbrev pub run_on : Choice → Card → Card
run_on choice card = if is_in card.state Data then sent choice card else card

-- so many of them
abbrev pub run_past : Choice → ℕ → Card → Card
run_past choice zero card = card
run_past choice (suc blocks) card = run_on choice (run_past choice blocks card)
