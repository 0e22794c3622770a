-- Controller and card conform: what the host did and was answered is a list of steps that the card relation allows.
use Rattle.std.specs.Prelude.{◌+◌, ◌≡◌, ◌∷◌, [], Err, List, true, ℕ}
use Rattle.mmc_card.specs.Card.{Card, IsCard}
use Rattle.mmc_card.specs.declared.exchange.Lines.{Lines}
use Rattle.mmc_host.specs.declared.told.HostCommand.{HostCommand}
use Rattle.mmc_host.specs.declared.told.HostState.{HostState}
use Rattle.mmc_host.specs.declared.told.ResponseFault.TheVariants.{Timeout}
use Rattle.mmc_story.specs.Entry.{Entry}
use Rattle.mmc_story.specs.Entry.Event.{Sent}
use Rattle.mmc_story.specs.Story.{IsStep, IsTrueOf, Outcome, Story}

abbrev pub conforming : Card → ℕ → Outcome
conforming card faults = record { card = card; faults = faults; conformed = true }

-- These entries, the last one first, are steps that follow each other, and led to this card, on which so many faults have fallen.
abbrev pub AreSteps : List Entry → Card → ℕ → Type 0
AreSteps [] card faults = Unit {0}
AreSteps (entry ∷ past) card faults =
    (before : Card) × (fell : ℕ) × AreSteps past before fell
    × IsStep (conforming before fell) entry (conforming card faults)

-- A story that is true of entries tells of such steps.
abbrev pub StoriesTellSteps : Type 0
StoriesTellSteps =
    (story : Story) (past : List Entry) → IsTrueOf story past
    → AreSteps past (story.outcome past).card (story.outcome past).faults

-- And to all such steps there is a story that is true of them.
abbrev pub StepsHaveAStory : Type 0
StepsHaveAStory =
    (past : List Entry) (card : Card) (faults : ℕ) → AreSteps past card faults
    → (story : Story) × (story.outcome past ≡ conforming card faults)

-- There is always a next step, whatever is sent: a command may be lost, which is a fault.
abbrev pub StepsGoOn : Type 0
StepsGoOn =
    (past : List Entry) (card : Card) (faults : ℕ) → IsCard card → AreSteps past card faults
    → (told : HostState) (limits : Lines) (command : HostCommand)
    → AreSteps (record { told = told; limits = limits; event = Sent command (Err Timeout) } ∷ past) card (faults + 1)
