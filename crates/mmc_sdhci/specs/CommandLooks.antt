-- Commands of an SD host controller: what a look at one that runs finds (SD Host Controller Simplified Specification 3.00, sections
-- 2.2.5 to 2.2.7 and 2.2.18).
use Rattle.std.specs.Prelude.{List, None, Option, Some, [], false, if◌then◌else◌, slice_index_or, true, ℕ, ◌%◌, ◌++◌, ◌/◌, ◌==◌}
use Rattle.std.specs.Prelude.{◌^◌, ◌∷◌, ◌≡◌}
use Rattle.mmc_frame.specs.Field.{field}
use Rattle.mmc_frame.specs.RegisterFrame.{with_check}
use Rattle.mmc_card.specs.CardAnswer.{CardAnswer, Checked, R2, R3, Silent}
use Rattle.mmc_host.specs.Hosts.{Answers}
use Rattle.mmc_host.specs.declared.data.Data.{Data}
use Rattle.mmc_sdhci.specs.Controller.{ControllerView, Running, Steps, moved, seen}

-- the blocks that Transfer Mode asks for: bit 5 several, as many as Block Count says
abbrev pub blocks_asked : ℕ → ℕ → ℕ
blocks_asked sizes mode = if field 5 5 mode == 0 then 1 else field 31 16 sizes

-- the data that Transfer Mode and Command ask for: bit 21 there is some, bit 4 it is read
abbrev pub data_asked : ℕ → ℕ → Data
data_asked sizes word =
    if field 21 21 word == 0 then Data.Nothing
    else (if field 4 4 word == 1 then Data.Read (field 11 0 sizes) (blocks_asked sizes word)
    else Data.Write (blocks_asked sizes word))

-- a word of a register of several, the lowest first
abbrev pub word : List ℕ → ℕ → ℕ
word words i = slice_index_or words i 0

-- its bytes, the highest first
abbrev pub word_bytes : ℕ → List ℕ
word_bytes n = n / 2 ^ 24 ∷ n / 2 ^ 16 % 256 ∷ n / 2 ^ 8 % 256 ∷ n % 256 ∷ []

-- bits 127 to 8 of a register stand in bits 119 to 0 of Response
abbrev pub bytes_shown : List ℕ → List ℕ
bytes_shown words =
    word words 3 / 2 ^ 16 % 256 ∷ word words 3 / 2 ^ 8 % 256 ∷ word words 3 % 256
    ∷ word_bytes (word words 2) ++ word_bytes (word words 1) ++ word_bytes (word words 0)

-- What a complete command left in Response, by the type of response: none; 48 bits with check and index, which the controller has
-- judged; 48 bits without; 136 bits with their check, which it has judged and taken off.
pub record IsShown (flags index : ℕ) (words : List ℕ) (answer : CardAnswer) : Type 0 where
  pub none : flags % 32 ≡ 0x00 → answer ≡ Silent
  pub checked : flags % 32 ≡ 0x1a → answer ≡ Checked index (word words 0)
  pub ocr : flags % 32 ≡ 0x02 → answer ≡ R3 (word words 0)
  pub register : flags % 32 ≡ 0x09 → answer ≡ R2 (with_check (bytes_shown words))

-- one exchange, told by its answer
abbrev pub Heard : ControllerView → Running → CardAnswer → ControllerView → Type 0
Heard old run answer new = Steps old (Answers (seen old) run.index run.argument answer (seen new)) new

-- The errors of a command: timeout, check, end bit and index (bits 16 to 19). Those of data may stand beside them.
abbrev pub command_errors : ℕ → ℕ
command_errors bits = field 19 16 bits

-- The bits of a command: Command Complete, and its errors.
abbrev pub of_a_command : ℕ
of_a_command = 0x000f0001

-- A look at the interrupt status while a command runs.
pub data Look (old : ControllerView) (run : Running) (bits : ℕ) (new : ControllerView) : Type 0 where
  runs : field 0 0 bits ≡ 0 → command_errors bits ≡ 0 → new ≡ record old { status = new.status } → Look old run bits new
  -- Command Complete, and no error
  complete : (answer : CardAnswer) → field 0 0 bits ≡ 1 → command_errors bits ≡ 0 → Heard old run answer new
      → IsShown run.flags run.index new.response answer
      → new ≡ record (moved old new) { running = None; response = new.response; status = bits; transfer = run.transfer }
      → Look old run bits new
  -- an error: what came, if anything, is lost
  failed : (command_errors bits ≡ 0 → ⊥) → Heard old run Silent new
      → new ≡ record (moved old new) { running = None; response = new.response; status = bits; is_stuck = true; transfer = Data.Nothing }
      → Look old run bits new

-- The reset of the command line: what still runs is lost.
abbrev pub Dropped : ControllerView → Option Running → ControllerView → Type 0
Dropped old None new = new ≡ record old { resetting = None; is_stuck = false }
Dropped old (Some run) new =
    Heard old run Silent new
    × (new ≡ record (moved old new) { resetting = None; running = None; status = 0xffffffff; is_stuck = false; transfer = Data.Nothing })
