-- What C is told of accesses to registers: the talk after one, by the talk before it.
use Rattle.std.specs.Int.{from_le_bytes, to_le_bytes, w32}
use Rattle.std.specs.Prelude.{◌%◌, ◌&&◌, ◌/◌, ◌==◌, ◌∷◌, ◌≡◌, [], Bool, List, false, true, ℕ}
use Rattle.sdhci_board.specs.Boards.{byte_in, shown, with_byte, word_at}
use Rattle.sdhci_board.specs.declared.known.Known.{Known}
use Rattle.c_host.specs.Kinds.{is_in_vain, unless_in_vain}
use Rattle.c_host.specs.Talk.{Talk, last_answer}
use Rattle.c_host.specs.Talk.Talk.{Asked, Told}
use Rattle.c_host.specs.declared.kinds.Kinds.{Kinds}

-- a register of so many bytes is read, and this came
abbrev pub Comes : ℕ → ℕ → ℕ → List Talk → List Talk → Type 0
Comes size offset value old new =
    (new ≡ Asked (8 ∷ size ∷ offset ∷ []) (last_answer new) ∷ old) × (value ≡ from_le_bytes w32 (last_answer new))

-- and is written
abbrev pub Goes : ℕ → ℕ → ℕ → List Talk → List Talk → Type 0
Goes size offset value old new = new ≡ Told (9 ∷ size ∷ offset ∷ to_le_bytes w32 value) ∷ old

-- A word is written, but not Transfer Mode and Command (0Ch) where the command, its index in bits 29 to 24, asks in vain (SD Host
-- Controller Simplified Specification 3.00, sections 2.2.5 and 2.2.6).
abbrev pub WritesWord : Kinds → ℕ → ℕ → List Talk → List Talk → Type 0
WritesWord kinds offset value old new =
    unless_in_vain ((offset == 0x0c) && is_in_vain kinds (value / 0x1000000 % 64)) (new ≡ old) (Goes 4 offset value old new)

-- what is shown of a word is what the board makes of what came
abbrev pub ReadsWord : Known → ℕ → ℕ → List Talk → List Talk → Type 0
ReadsWord known offset result old new = (value : ℕ) × Comes 4 offset value old new × (result ≡ shown known offset value)

-- A byte is the lowest one of what came; where the controller takes whole words alone, it is one of its word.
abbrev pub ReadsByte : Bool → Known → ℕ → ℕ → List Talk → List Talk → Type 0
ReadsByte false known offset result old new = (value : ℕ) × Comes 1 offset value old new × (result ≡ value % 256)
ReadsByte true known offset result old new =
    (word : ℕ) × ReadsWord known (word_at offset) word old new × (result ≡ byte_in offset word)

-- There its word is read, and written with this byte and the others as they were.
abbrev pub WritesByte : Bool → ℕ → ℕ → List Talk → List Talk → Type 0
WritesByte false offset value old new = Goes 1 offset value old new
WritesByte true offset value old new =
    (word : ℕ) × (between : List Talk)
    × Comes 4 (word_at offset) word old between × Goes 4 (word_at offset) (with_byte offset word value) between new
