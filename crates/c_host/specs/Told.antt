-- What C is told by each call, and how its answer is read: the talk after a call, by the talk before it.
use Rattle.std.specs.Prelude.{[], ◌*◌, ◌+◌, ◌∷◌, ◌≡◌, Bool, List, Result, length}
use Rattle.std.specs.Prelude.{◌<◌, slice_index_or, slice_range, ℕ}
use Rattle.mmc_card.specs.declared.exchange.DataIn.{DataIn}
use Rattle.mmc_card.specs.declared.exchange.DataOut.{DataOut}
use Rattle.mmc_bus.specs.declared.moved.Moved.{Moved}
use Rattle.mmc_host.specs.declared.told.Heard.{Heard}
use Rattle.mmc_host.specs.declared.told.HostCommand.{HostCommand}
use Rattle.mmc_host.specs.declared.told.Ios.{Ios}
use Rattle.mmc_host.specs.declared.told.ResponseFault.{ResponseFault}
use Rattle.c_host.specs.Records.{block_by, command_record, heard_by, ios_record, is_busy_by, look_record, pause_record, read_by}
use Rattle.c_host.specs.Records.{status_by, touched_by, wait_record, with_record, written_by}
use Rattle.c_host.specs.Talk.{Talk, last_answer, last_count}
use Rattle.c_host.specs.Talk.Talk.{Asked, Came, Told}

-- the command, and what was heard is what came
abbrev pub TellsCommand : HostCommand → Result Heard ResponseFault → List Talk → List Talk → Type 0
TellsCommand command heard old new =
    (new ≡ Asked (command_record command) (last_answer new) ∷ old) × (heard ≡ heard_by command.response (last_answer new))

-- these places, so many from this one on, hold the bytes, 512 each
abbrev pub Hold : List (List ℕ) → ℕ → ℕ → List ℕ → Type 0
Hold places first count bytes =
    (i : ℕ) → i < count → slice_index_or places (first + i) [] ≡ slice_range bytes (512 * i) (512 * i + 512)

-- So many of these places were taken, one after the other: what they hold is what came, several at a time.
pub data AreTaken (places : List (List ℕ)) (old : List Talk) : ℕ → List Talk → Type 0 where
  none_taken : AreTaken places old 0 old
  some_taken : (done some count : ℕ) (bytes : List ℕ) (before : List Talk) → AreTaken places old done before
      → length bytes ≡ 512 * some → Hold places done some bytes
      → AreTaken places old (done + some) (Came count bytes ∷ before)

-- the command with places for its blocks: what was heard and what was moved is what came, and so is what the places hold
abbrev pub TellsReadWith : HostCommand → List (List ℕ) → Result Heard ResponseFault → Moved DataIn → List Talk → List Talk
    → Type 0
TellsReadWith command places heard moved old new =
    (answer : List ℕ)
    × AreTaken places (Asked (with_record 10 command (length places)) answer ∷ old) (touched_by moved (length places)) new
    × (heard ≡ heard_by command.response answer) × (moved ≡ read_by answer (length places))

-- the command with so many blocks to go after it: what was heard and what was moved is what came
abbrev pub TellsWriteWith : HostCommand → ℕ → Result Heard ResponseFault → Moved DataOut → List Talk → List Talk → Type 0
TellsWriteWith command count heard moved old new =
    (new ≡ Asked (with_record 11 command count) (last_answer new) ∷ old)
    × (heard ≡ heard_by command.response (last_answer new)) × (moved ≡ written_by heard (last_answer new) count)

-- no record: a block is taken, which is what came
abbrev pub TellsRead : ℕ → DataIn → List ℕ → List Talk → List Talk → Type 0
TellsRead size got block old new =
    (new ≡ Came (last_count new) block ∷ old) × (got ≡ block_by size (last_count new))

-- the block, and its status is what came
abbrev pub TellsWrite : List ℕ → DataOut → List Talk → List Talk → Type 0
TellsWrite block got old new =
    (new ≡ Asked block (last_answer new) ∷ old) × (got ≡ status_by (last_answer new))

-- for how long to look, and the card is busy as came
abbrev pub TellsLook : ℕ → Bool → List Talk → List Talk → Type 0
TellsLook micros busy old new =
    (new ≡ Asked (look_record micros) (last_answer new) ∷ old) × (busy ≡ is_busy_by (last_answer new))

-- the block in the Buffer Data Port is taken, and it is what came
abbrev pub TellsPort : List ℕ → List Talk → List Talk → Type 0
TellsPort block old new = new ≡ Came (last_count new) block ∷ old

abbrev pub TellsPause : ℕ → List Talk → List Talk → Type 0
TellsPause micros old new = new ≡ Told (pause_record micros) ∷ old

abbrev pub TellsWait : ℕ → ℕ → List Talk → List Talk → Type 0
TellsWait interrupts micros old new = new ≡ Told (wait_record interrupts micros) ∷ old

abbrev pub TellsIos : Ios → List Talk → List Talk → Type 0
TellsIos ios old new = new ≡ Told (ios_record ios) ∷ old

-- lines, timing and clock were told last
abbrev pub EndsWithIos : Ios → List Talk → Type 0
EndsWithIos ios past = (before : List Talk) × TellsIos ios before past
