-- Relation (docs/AUDIT.md, "What to read").
-- Erase and trim (SD Physical Layer 6.00, section 4.3.5; JESD84-B51, sections 6.6.9 and 6.6.10). Each row is what a
-- card does with a command in tran, and its answer.
use Rattle.std.specs.Prelude.{◌&&◌, ◌*◌, ◌+◌, ◌-◌, ◌/◌, ◌==◌, ◌||◌, Bool, false, if◌then◌else◌, length, min, nat_le}
use Rattle.std.specs.Prelude.{nat_lt, replicate, true, ℕ}
use Rattle.mmc_frame.specs.declared.card_state.State.TheVariants.{Prg}
use Rattle.mmc_frame.specs.declared.commands.TheConstants as Index
use Rattle.mmc_card.specs.CardAnswer.{CardAnswer, Checked, busied, raised, shown, status}
use Rattle.mmc_card.specs.ErrorBits.{erase_param, erase_seq_error}
use Rattle.mmc_card.specs.Card.{Both, Card, First, Held, NoAddress, stored}
use Rattle.mmc_card.specs.Made.{Made, erase_unit_of_card, erased_sector, is_mmc, sector_at}
use Rattle.mmc_card.specs.Sectors.{Change, is_boot}

abbrev pub holds_address : Held → Bool
holds_address NoAddress = false
holds_address _ = true

-- the erase addresses are forgotten
abbrev pub forgotten : Card → Card
forgotten card = record card { erase = NoAddress }

-- An erase command out of its sequence: ERASE_SEQ_ERROR, and no address is held.
abbrev pub out_of_sequence : ℕ → Card → Card × CardAnswer
out_of_sequence index card = (forgotten (shown card), Checked index (status false (raised erase_seq_error card)))

-- CMD32 of SD, ERASE_WR_BLK_START, and CMD35 of eMMC, ERASE_GROUP_START: the first of the sequence
abbrev pub hold_first : ℕ → Card → ℕ → Held → Card × CardAnswer
hold_first index card address NoAddress =
    (record (shown card) { erase = First address }, Checked index (status false card))
hold_first index card address _ = out_of_sequence index card

-- CMD33 of SD, ERASE_WR_BLK_END, and CMD36 of eMMC, ERASE_GROUP_END: the second
abbrev pub hold_last : ℕ → Card → ℕ → Held → Card × CardAnswer
hold_last index card address (First first) =
    (record (shown card) { erase = Both first address }, Checked index (status false card))
hold_last index card address _ = out_of_sequence index card

-- argument 1 of an eMMC device's CMD38
abbrev pub is_trim : Card → ℕ → Bool
is_trim card argument = is_mmc card.made.kind && (argument == 1)

-- The sectors from the first address's to the last's: of an erase every unit that has one of them, as far as the
-- partition goes, of a trim just they.
abbrev pub erased_from : Made → Bool → ℕ → ℕ
erased_from made trims sector = if trims then sector else sector / erase_unit_of_card made * erase_unit_of_card made

abbrev pub erased_to : Made → Bool → ℕ → ℕ → ℕ
erased_to made trims size sector =
    if trims then sector + 1 else min ((sector / erase_unit_of_card made + 1) * erase_unit_of_card made) size

abbrev pub erasing : Card → Bool → ℕ → ℕ → Change
erasing card trims first last =
    record {
      part = card.part;
      start = erased_from card.made trims (sector_at card.made first);
      values = replicate
          (erased_to card.made trims (length (stored card card.part)) (sector_at card.made last)
          - erased_from card.made trims (sector_at card.made first))
          (erased_sector card.made);
    }

-- An address beyond the end, or the last below the first: ERASE_PARAM, and the card stays in tran (the project's own).
abbrev pub is_no_range : Card → ℕ → ℕ → Bool
is_no_range card first last =
    is_boot card.part
    || (nat_lt (sector_at card.made last) (sector_at card.made first)
    || nat_le (length (stored card card.part)) (sector_at card.made last))

-- the sectors of a change are to get its values
abbrev pub erases : Change → Card → Card
erases change card =
    record (busied (forgotten (shown card))) {
      state = Prg;
      is_switching = false;
      start = change.start;
      values = change.values;
    }

-- CMD38, ERASE: the third of the sequence
abbrev pub erase_held : Card → ℕ → Held → Card × CardAnswer
erase_held card argument (Both first last) =
    if is_no_range card first last
    then (forgotten (shown card), Checked Index.ERASE (status false (raised erase_param card)))
    else (erases (erasing card (is_trim card argument) first last) card, Checked Index.ERASE (status false card))
erase_held card argument _ = out_of_sequence 38 card
