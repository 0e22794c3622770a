-- What a board shows of its controller, and how a byte is had by its word (SD Host Controller Simplified Specification 3.00, section 2.1).
use Rattle.std.specs.Int.{from_le_bytes, to_le_bytes, w32}
use Rattle.std.specs.Prelude.{◌%◌, ◌-◌, ◌==◌, ◌≡◌, ◌∷◌, List, None, Option, Some, bit_or, if◌then◌else◌, slice_index_or, slice_set, ℕ}
use Rattle.sdhci_board.specs.Accesses.Access.{WordRead, WordWritten}
use Rattle.sdhci_board.specs.Accesses.{Access}
use Rattle.sdhci_board.specs.declared.known.Known.{Known}
use Rattle.sdhci_board.specs.declared.known.Slot.{Slot}
use Rattle.sdhci_board.specs.declared.known.Slot.TheVariants.{AlwaysThere, Wired}

-- Present State (24h), where a card is always there: bits 16 to 19, inserted, the controller is sure of it, and it may be written to
abbrev pub present_in : Slot → ℕ → ℕ
present_in Wired value = value
present_in AlwaysThere value = bit_or value 0xf0000

-- Capabilities (40h), where the board knows them
abbrev pub capabilities_in : Option ℕ → ℕ → ℕ
capabilities_in None value = value
capabilities_in (Some known) value = known

-- what is shown of the word at an offset that reads so
abbrev pub shown : Known → ℕ → ℕ → ℕ
shown known offset value =
    if offset == 0x24 then present_in known.slot value
    else (if offset == 0x40 then capabilities_in known.capabilities value else value)

-- where its word stands, and which of its bytes it is
abbrev pub word_at : ℕ → ℕ
word_at offset = offset - offset % 4

abbrev pub byte_in : ℕ → ℕ → ℕ
byte_in offset word = slice_index_or (to_le_bytes w32 word) (offset % 4) 0

-- the word with this byte, and its others as they were
abbrev pub with_byte : ℕ → ℕ → ℕ → ℕ
with_byte offset word value = from_le_bytes w32 (slice_set (to_le_bytes w32 word) (offset % 4) value)

-- its word is read, and this is shown of it
abbrev pub ReadsWord : Known → ℕ → ℕ → List Access → List Access → Type 0
ReadsWord known offset result old new =
    (value : ℕ) × (new ≡ WordRead (word_at offset) value ∷ old) × (result ≡ shown known (word_at offset) value)

abbrev pub ReadsByte : Known → ℕ → ℕ → List Access → List Access → Type 0
ReadsByte known offset result old new =
    (word : ℕ) × ReadsWord known offset word old new × (result ≡ byte_in offset word)

-- its word is read as it is, and written with this byte
abbrev pub WritesByte : ℕ → ℕ → List Access → List Access → Type 0
WritesByte offset value old new =
    (word : ℕ)
    × (new ≡ WordWritten (word_at offset) (with_byte offset word value) ∷ WordRead (word_at offset) word ∷ old)
