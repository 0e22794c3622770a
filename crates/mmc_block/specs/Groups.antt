-- Words for requests that are served together.
use Rattle.std.specs.Prelude.{◌+◌, ◌||◌, ◌∷◌, ◌≡◌, ◌≤◌, Bool, List, None, Option, Some, [], false, suc, true, zero, ℕ}
use Rattle.mmc_card.specs.declared.part.Part.{Part}
use Rattle.mmc_card.specs.Sectors.{Change, Sector, Sets, touches, value_of}
use Rattle.mmc_queue.specs.Requests.{is_read}
use Rattle.mmc_switch.specs.declared.info.Info.{Info}
use Rattle.mmc_block.specs.Changes.{change_of}
use Rattle.mmc_block.specs.Machine.{AreAlike, AreJoined, PassesNone, Waiting}
use Rattle.mmc_block.specs.declared.completion.Answer.{Answer}
use Rattle.mmc_block.specs.declared.completion.Answer.TheVariants.{Data, Done, Failed}
use Rattle.mmc_block.specs.declared.completion.Completion.{Completion}

-- the tickets ascend from `low` on, and stay below the next one
abbrev pub AreInOrder : ℕ → List Waiting → ℕ → Type 0
AreInOrder low [] next = low ≤ next
AreInOrder low (w ∷ ws) next = (low ≤ w.ticket) × AreInOrder (w.ticket + 1) ws next

-- none of these passes an earlier one of those that conflicts
abbrev pub PassNone : List Waiting → List Waiting → Type 0
PassNone [] waits = Unit {0}
PassNone (w ∷ ws) waits = PassesNone w waits × PassNone ws waits

-- all of the partition and kind of the first
abbrev pub AreOneKind : List Waiting → Type 0
AreOneKind [] = Unit {0}
AreOneKind (w ∷ ws) = AreAlike w.request ws

-- One change for several requests.

-- some of these change the sector
abbrev pub any_touches : Info → List Waiting → Part → ℕ → Bool
any_touches info [] part sector = false
any_touches info (w ∷ ws) part sector =
    touches (change_of info w.request) part sector || any_touches info ws part sector

-- each of these that changes the sector gives it this value
abbrev pub AllGive : Info → List Waiting → Part → ℕ → Sector → Type 0
AllGive info [] part sector value = Unit {0}
AllGive info (w ∷ ws) part sector value =
    (touches (change_of info w.request) part sector ≡ true → value_of (change_of info w.request) sector ≡ value)
    × AllGive info ws part sector value

-- one change, which a run makes, is that of these requests together
pub record IsChangeOf (info : Info) (ws : List Waiting) (change : Change) : Type 0 where
  pub touched : (part : Part) (sector : ℕ) → any_touches info ws part sector ≡ touches change part sector
  pub given : (part : Part) (sector : ℕ) → AllGive info ws part sector (value_of change sector)

-- Answers to requests that were carried out.

-- the request is answered so
abbrev pub completed : Waiting → Answer → Completion
completed w answer = record { ticket = w.ticket; client = w.client; answer = answer }

-- an answer to one that was carried out, where each sector now holds what `sets` say
abbrev pub IsAnswerOf : Sets → Waiting → Answer → Type 0
IsAnswerOf sets w Done = is_read w.request ≡ false
IsAnswerOf sets w (Data bytes) = (is_read w.request ≡ true) × AreJoined w.request sets bytes
IsAnswerOf sets w (Failed cause) = ⊥

-- one such answer to each, in order
abbrev pub AreAnswersOf : Sets → List Waiting → List Completion → Type 0
AreAnswersOf sets [] completions = completions ≡ []
AreAnswersOf sets (w ∷ ws) completions =
    (answer : Answer) × (rest : List Completion) × (completions ≡ completed w answer ∷ rest)
    × IsAnswerOf sets w answer × AreAnswersOf sets ws rest

-- Own faults.

-- the ticket of a request that is served alone
abbrev pub alone : List Waiting → Option ℕ
alone [] = None
alone (w ∷ []) = Some w.ticket
alone (w ∷ v ∷ ws) = None

-- 1 where a fault fell
abbrev pub seen : ℕ → ℕ
seen zero = 0
seen (suc fell) = 1

-- A request that is served alone has a fault of its own for each failed attempt, and one more where its run has seen
-- one.
abbrev pub IsCounted : List Waiting → ℕ → ℕ → (ℕ → ℕ) → Type 0
IsCounted [] attempts fell own = Unit {0}
IsCounted (w ∷ []) attempts fell own = attempts + seen fell ≤ own w.ticket
IsCounted (w ∷ v ∷ ws) attempts fell own = Unit {0}
