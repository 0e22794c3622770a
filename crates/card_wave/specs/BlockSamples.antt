-- Blocks on the data lines (SD Physical Layer 6.00, sections 3.6.1 and 4.3; JESD84-B51, section 5).
use Rattle.std.specs.Prelude.{◌≡◌, ◌<◌, ℕ, ◌/◌, ◌%◌, ◌^◌, ◌==◌, ◌++◌, List, [], ◌∷◌, map, take, drop, slice_index, slice_index_or}
use Rattle.std.specs.Prelude.{Bool, true, false}
use Rattle.std.specs.List.{flat_map}
use Rattle.mmc_frame.specs.Check.{byte_bits}
use Rattle.mmc_card.specs.declared.exchange.DataIn.{DataIn}
use Rattle.mmc_card.specs.declared.exchange.DataIn.TheVariants as Received
use Rattle.mmc_card.specs.declared.exchange.DataOut.{DataOut}
use Rattle.mmc_card.specs.declared.exchange.DataOut.TheVariants as Sent
use Rattle.mmc_card.specs.declared.exchange.Width.{Width}
use Rattle.mmc_card.specs.declared.exchange.Width.TheVariants.{One, Four, Eight}
use Rattle.card_wave.specs.declared.sample.Sample.{Sample}
use Rattle.card_wave.specs.LineCheck.{line_check}
use Rattle.card_wave.specs.Samples.{held, idle, on_lines}

-- the data lines in use, by their numbers, the highest first
abbrev pub lines_of : Width → List ℕ
lines_of One = 0 ∷ []
lines_of Four = 3 ∷ 2 ∷ 1 ∷ 0 ∷ []
lines_of Eight = 7 ∷ 6 ∷ 5 ∷ 4 ∷ 3 ∷ 2 ∷ 1 ∷ 0 ∷ []

-- the start bit of each line in use
abbrev pub start : Width → Sample
start width = on_lines (map (λ _. false) (lines_of width))

-- a byte, its highest bit on the highest line in use
unfoldable pub byte_samples : Width → ℕ → List Sample
byte_samples One b = map (λ bit. on_lines (bit ∷ [])) (byte_bits b)
byte_samples Four b = on_lines (take 4 (byte_bits b)) ∷ on_lines (drop 4 (byte_bits b)) ∷ []
byte_samples Eight b = on_lines (byte_bits b) ∷ []

-- bytes, one after the other
unfoldable pub data_samples : Width → List ℕ → List Sample
data_samples width bytes = flat_map (byte_samples width) bytes

-- what these clocks show of the data line k
unfoldable pub line_bits : ℕ → List Sample → List Bool
line_bits k samples = map (λ s. slice_index_or s.dat k false) samples

-- a bit of a check; where the check is to be bad, the other one
abbrev pub check_level : Bool → ℕ → ℕ → Bool
check_level true check place = check / 2 ^ place % 2 == 1
check_level false check place = check / 2 ^ place % 2 == 0

-- the checks of the eight data lines, of what these clocks show
abbrev pub AreChecks : List ℕ → List Sample → Type 0
AreChecks checks block = (k : ℕ) → k < 8 → slice_index checks k ≡ line_check (line_bits k block)

-- on each line in use the bit at this place of the CRC16 of that line's data
unfoldable pub check_sample : Width → Bool → List Sample → ℕ → Sample
check_sample width sound block place =
    on_lines (map (λ k. check_level sound (line_check (line_bits k block)) place) (lines_of width))

-- the CRC16 of each line, the highest bit first
unfoldable pub check_samples : Width → Bool → List Sample → List Sample
check_samples width sound block =
    map (check_sample width sound block)
    (15 ∷ 14 ∷ 13 ∷ 12 ∷ 11 ∷ 10 ∷ 9 ∷ 8 ∷ 7 ∷ 6 ∷ 5 ∷ 4 ∷ 3 ∷ 2 ∷ 1 ∷ 0 ∷ [])

-- a block with a good check or a bad one: start bits, data, checks, and end bits, which are high
unfoldable pub block_samples : Width → Bool → List ℕ → List Sample
block_samples width sound bytes =
    held 1 (start width) ++ (data_samples width bytes
    ++ (check_samples width sound (data_samples width bytes) ++ held 1 idle))

-- a block to the host, or the 64 clocks in which one was awaited
unfoldable pub received_samples : Width → DataIn → List ℕ → List Sample
received_samples width Received.Good bytes = block_samples width true bytes ++ held 8 idle
received_samples width Received.Bad bytes = block_samples width false bytes ++ held 8 idle
received_samples width Received.Nothing bytes = held 64 idle

-- a CRC status on DAT0: a start bit, three bits, and an end bit
unfoldable pub status_on_dat0 : Bool → Bool → Bool → List Sample
status_on_dat0 bit2 bit1 bit0 = map (λ bit. on_lines (bit ∷ [])) (false ∷ bit2 ∷ bit1 ∷ bit0 ∷ true ∷ [])

-- the CRC status of a card: 010 for an accepted block, 101 for a rejected one
unfoldable pub status_samples : DataOut → List Sample
status_samples Sent.Accepted = status_on_dat0 false true false
status_samples Sent.Rejected = status_on_dat0 true false true
status_samples Sent.Nothing = []

-- a block to the card, two idle clocks, what the card says of it, and eight idle clocks
unfoldable pub sent_samples : Width → DataOut → List ℕ → List Sample
sent_samples width got bytes =
    block_samples width true bytes ++ (held 2 idle ++ (status_samples got ++ held 8 idle))

-- a poll: a card that is busy holds DAT0 low
unfoldable pub poll_samples : Bool → List Sample
poll_samples true = held 8 (on_lines (false ∷ []))
poll_samples false = held 8 idle
