-- Headline (docs/AUDIT.md, "What to read").
-- In order: what reads must give, whatever order requests were completed in.
use Rattle.std.specs.Prelude.{◌*◌, ◌+◌, ◌++◌, ◌<◌, ◌==◌, ◌∷◌, ◌≡◌, ◌⊎◌, Bool, List, None, Option, Some, []}
use Rattle.std.specs.Prelude.{if◌then◌else◌, length, nat_lt, slice_index_or, ℕ}
use Rattle.mmc_card.specs.declared.part.Part.{Part}
use Rattle.mmc_card.specs.Sectors.{IsDecided, IsIn, Sector, Sets, pieces, touches, value_of}
use Rattle.mmc_block.specs.declared.completion.Answer.{Answer}
use Rattle.mmc_block.specs.declared.completion.Answer.TheVariants.{Data, Done, Failed}
use Rattle.mmc_block.specs.declared.completion.Completion.{Completion}
use Rattle.mmc_switch.specs.declared.info.Info.{Info}
use Rattle.mmc_block.specs.Machine.{IsAmong, Waiting}
use Rattle.mmc_block.specs.Changes.{change_of}
use Rattle.mmc_queue.specs.Requests.{count_of, part_of, start_of}
use Rattle.mmc_block.specs.Execution.{Event, Reply}
use Rattle.mmc_block.specs.Execution.Event.{Submit}
use Rattle.mmc_block.specs.Execution.Reply.{Accepted, Answers}

-- What an execution did.

-- the request that an event with its reply submitted, if it did
abbrev pub submitted_by : Event → Reply → List Waiting
submitted_by (Submit client request) (Accepted ticket) =
    record { ticket = ticket; client = client; request = request } ∷ []
submitted_by _ _ = []

-- the requests that were submitted, in order
abbrev pub submitted : List Event → List Reply → List Waiting
submitted (e ∷ es) (r ∷ rs) = submitted_by e r ++ submitted es rs
submitted _ _ = []

-- the answers of a reply
abbrev pub answers_in : Reply → List Completion
answers_in (Answers completions) = completions
answers_in _ = []

-- the answers that were given, in order
abbrev pub answers : List Reply → List Completion
answers [] = []
answers (r ∷ rs) = answers_in r ++ answers rs

-- what an execution did to sectors that held this at its start
pub record History : Type 0 where
  pub info : Info
  pub start : Sets
  pub requests : List Waiting
  pub given : List Completion

abbrev pub history : Info → Sets → List Event → List Reply → History
history info start events replies = record {
  info = info;
  start = start;
  requests = submitted events replies;
  given = answers replies;
}

-- what these answer to a ticket
abbrev pub answer_to : List Completion → ℕ → Option Answer
answer_to [] ticket = None
answer_to (c ∷ cs) ticket = if c.ticket == ticket then Some c.answer else answer_to cs ticket

-- The ordered value.

-- for each sector of each request that failed whether it is new
abbrev pub Choices : Type 0
Choices = Part → ℕ → ℕ → Bool

-- A sector after a request that names it, by its answer: `Done` sets it, a failure by its choice, all else not at all.
abbrev pub settled : Option Answer → Bool → Sector → Sector → Sector
settled (Some Done) is_new new old = new
settled (Some (Failed cause)) is_new new old = if is_new then new else old
settled (Some (Data bytes)) is_new new old = old
settled None is_new new old = old

-- a sector after a request
abbrev pub effect_at : Info → Part → ℕ → (ℕ → Option Answer) → (ℕ → Bool) → Waiting → Sector → Sector
effect_at info part sector answer is_new w old =
    if touches (change_of info w.request) part sector
    then settled (answer w.ticket) (is_new w.ticket) (value_of (change_of info w.request) sector) old
    else old

-- only requests below this ticket count
abbrev pub below : ℕ → (Waiting → Sector → Sector) → Waiting → Sector → Sector
below ticket effect w old = if nat_lt w.ticket ticket then effect w old else old

-- one request after the other
abbrev pub in_turn : (Waiting → Sector → Sector) → List Waiting → Sector → Sector
in_turn effect [] value = value
in_turn effect (w ∷ ws) value = in_turn effect ws (effect w value)

-- a sector's value at the start
abbrev pub first_value : Sets → Part → ℕ → Sector
first_value sets part sector = slice_index_or (sets part sector) 0 []

-- The ordered value of a sector below a ticket: from its value at the start on, what the requests below the ticket
-- leave in it, in order of submission.
abbrev pub ordered_value : History → Choices → ℕ → Part → ℕ → Sector
ordered_value h choices ticket part sector =
    in_turn (below ticket (effect_at h.info part sector (answer_to h.given) (choices part sector))) h.requests
    (first_value h.start part sector)

-- The law.

-- each sector is decided
abbrev pub AreDecided : Sets → Type 0
AreDecided sets = (part : Part) (sector : ℕ) → IsDecided (sets part sector)

-- these bytes are the request's sectors, each with its ordered value below the request's ticket
abbrev pub GivesOrdered : History → Choices → Waiting → List ℕ → Type 0
GivesOrdered h choices w bytes =
    (length bytes ≡ 512 * count_of w.request)
    × ((i : ℕ) → i < count_of w.request
    → slice_index_or (pieces (count_of w.request) bytes) i [] ≡ ordered_value h choices w.ticket (part_of w.request)
    (start_of w.request + i))

-- each answer with data is that of a request that was submitted, and gives ordered values
abbrev pub AreOrdered : History → Choices → Type 0
AreOrdered h choices =
    (completion : Completion) (bytes : List ℕ) → IsAmong h.given completion → completion.answer ≡ Data bytes
    → (w : Waiting) × IsAmong h.requests w × (w.ticket ≡ completion.ticket) × GivesOrdered h choices w bytes

-- there are choices by which the answers are in order
abbrev pub IsInOrder : History → Type 0
IsInOrder h = (choices : Choices) × AreOrdered h choices

-- each sector may hold this value, or has none
abbrev pub MayHold : Sets → (Part → ℕ → Sector) → Type 0
MayHold sets contents = (part : Part) (sector : ℕ) → IsIn (sets part sector) (contents part sector)
    ⊎ (sets part sector ≡ [])

-- There are choices by which the answers are in order, and these contents are the ordered values below this ticket,
-- where a sector holds one.
abbrev pub EndsInOrder : History → Sets → ℕ → (Part → ℕ → Sector) → Type 0
EndsInOrder h sets next contents =
    (choices : Choices) × AreOrdered h choices
    × ((part : Part) (sector : ℕ) → IsIn (sets part sector) (contents part sector) → contents part sector
    ≡ ordered_value h choices next part sector)
