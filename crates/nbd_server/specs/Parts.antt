-- What long requests come to: the parts that the device accepted, and the answers to them.
use Rattle.std.specs.Prelude.{List, [], ◌*◌, ◌+◌, ◌++◌, ◌-◌, ◌<◌, ◌≡◌, ◌≤◌, ◌∷◌, ◌⊎◌, IsPermutation, drop, get_or, length, min, suc, take, zero, ℕ}
use Rattle.std.specs.List.{Contains, flat_map, sum_by}
use Rattle.mmc_block.specs.Execution.Reply.{Accepted}
use Rattle.mmc_block.specs.declared.completion.Answer.{Answer}
use Rattle.mmc_block.specs.declared.completion.Answer.TheVariants.{Data, Done}
use Rattle.mmc_block.specs.declared.completion.Completion.{Completion}
use Rattle.mmc_queue.specs.declared.request.Request.{Request}
use Rattle.mmc_card.specs.declared.part.Part.{Part}
use Rattle.mmc_queue.specs.declared.request.Request.TheVariants.{Read, Write}
use Rattle.nbd_server.specs.Acts.{Act, AsksPart, Gathers}

-- the parts that the device accepted, by their numbers
abbrev pub accepted_by : Act → List Request
accepted_by (AsksPart request (Accepted ticket)) = request ∷ []
accepted_by act = []

unfoldable pub accepted : List Act → List Request
accepted acts = flat_map accepted_by acts

-- the answers to parts
abbrev pub gathered_by : Act → List Completion
gathered_by (Gathers given) = given
gathered_by act = []

unfoldable pub gathered : List Act → List Completion
gathered acts = flat_map gathered_by acts

-- without asking for parts these answers to parts came, in some order
abbrev pub AreGathered : List Act → List Completion → Type 0
AreGathered acts all = (accepted acts ≡ []) × IsPermutation (gathered acts) all

-- among these answers the part with this number has this one
abbrev pub Has : List Completion → ℕ → Answer → Type 0
Has given number answer = (c : Completion) × Contains given c × (c.client ≡ number) × (c.answer ≡ answer)

-- among these answers the part with this number has none, or one that isn't such an answer
abbrev pub Lacks : (Answer → Type 0) → List Completion → ℕ → Type 0
Lacks Wanted given number = ((answer : Answer) → Has given number answer → ⊥)
    ⊎ ((answer : Answer) × Has given number answer × (Wanted answer → ⊥))

-- the bytes of so many sectors
abbrev pub IsData : ℕ → Answer → Type 0
IsData count (Data bytes) = length bytes ≡ 512 * count
IsData count answer = ⊥

-- what a request is answered with where nothing fails
abbrev pub IsWanted : Request → Answer → Type 0
IsWanted (Read part start count) answer = IsData count answer
IsWanted request answer = answer ≡ Done

-- how many sectors the part with this number has, of so many
abbrev pub sectors_of : ℕ → ℕ → ℕ
sectors_of count number = min 16 (count - 16 * number)

-- its bytes, of all
abbrev pub bytes_of_part : List ℕ → ℕ → ℕ → List ℕ
bytes_of_part bytes count number = take (512 * sectors_of count number) (drop (8192 * number) bytes)

-- so many parts were answered with these bytes, each with its own of so many sectors
abbrev pub AreAnswered : List Completion → ℕ → ℕ → List ℕ → Type 0
AreAnswered given count parts bytes = (n : ℕ) → n < parts → Has given n (Data (bytes_of_part bytes count n))

-- Requests of the device for parts, by their numbers.

-- the first so many of these, by their numbers
unfoldable pub firsts : (ℕ → Request) → ℕ → List Request
firsts each zero = []
firsts each (suc n) = firsts each n ++ each n ∷ []

-- those of so many first parts of a read of so many sectors
abbrev pub reads : Part → ℕ → ℕ → ℕ → List Request
reads part start count parts = firsts (λ (n : ℕ). Read part (start + 16 * n) (sectors_of count n)) parts

-- and of a write of these bytes
abbrev pub writes : Part → ℕ → ℕ → List ℕ → ℕ → List Request
writes part start count bytes parts =
    firsts (λ (n : ℕ). Write part (start + 16 * n) (sectors_of count n) (bytes_of_part bytes count n)) parts

-- so many parts are all of so many sectors, and each has some
abbrev pub AreAll : ℕ → ℕ → Type 0
AreAll parts count = (count ≤ 16 * parts) × (16 * parts < count + 16)

-- By these acts the sectors were read, in parts that were accepted, and answered with these bytes.
pub record IsRead (part : Part) (start count : ℕ) (acts : List Act) (bytes : List ℕ) : Type 0 where
  pub parts : ℕ
  pub all : AreAll parts count
  pub asked : accepted acts ≡ reads part start count parts
  pub long : length bytes ≡ 512 * count
  pub answered : AreAnswered (gathered acts) count parts bytes

-- By these acts the bytes were written, in parts that were accepted and carried out.
pub record IsWritten (part : Part) (start count : ℕ) (acts : List Act) (bytes : List ℕ) : Type 0 where
  pub parts : ℕ
  pub all : AreAll parts count
  pub asked : accepted acts ≡ writes part start count bytes parts
  pub done : (n : ℕ) → n < parts → Has (gathered acts) n Done

-- A part that was accepted in the last of these acts isn't answered as it's wanted.
pub record HasFailedPart (acts : List Act) : Type 0 where
  pub before : List Act
  pub window : List Act
  pub all : acts ≡ before ++ window
  pub number : ℕ
  pub request : Request
  pub some : number < length (accepted window)
  pub asked : get_or (accepted window) number request ≡ request
  pub lacks : Lacks (IsWanted request) (gathered window) number

-- Windows of a long request, which are served one after the other.
pub record Window : Type 0 where
  pub count : ℕ
  pub acts : List Act
  pub bytes : List ℕ

-- each of these windows was served so, the first from this sector on
unfoldable pub InTurn : (ℕ → Window → Type 0) → ℕ → List Window → Type 0
InTurn Served start [] = Unit {0}
InTurn Served start (w ∷ windows) = Served start w × InTurn Served (start + w.count) windows

-- each was read
abbrev pub AreRead : Part → ℕ → List Window → Type 0
AreRead part start windows = InTurn (λ (from : ℕ) (w : Window). IsRead part from w.count w.acts w.bytes) start windows

-- each was written
abbrev pub AreWritten : Part → ℕ → List Window → Type 0
AreWritten part start windows = InTurn (λ (from : ℕ) (w : Window). IsWritten part from w.count w.acts w.bytes) start windows

-- these windows are what was done, sector by sector and byte by byte
pub record AreWindows (windows : List Window) (count : ℕ) (acts : List Act) (bytes : List ℕ) : Type 0 where
  pub sectors : sum_by (λ (w : Window). w.count) windows ≡ count
  pub of_acts : flat_map (λ (w : Window). w.acts) windows ≡ acts
  pub of_bytes : flat_map (λ (w : Window). w.bytes) windows ≡ bytes
