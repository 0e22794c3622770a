-- THE ASSUMPTION about a host controller and its card, by the calls of a driver (by registers it is `RegisterStory` of
-- `sdhci_story`): controller and card conform. There is a story of what became of the card, and all that the host did and was
-- answered is a step of it: time passes, and then comes what a faithful card does, or one fault of the list in `mmc_card`, `Faults`.
use Rattle.std.specs.Prelude.{◌≡◌, ◌∷◌, Bool, List, None, true, ℕ}
use Rattle.mmc_card.specs.BusView.{BusView}
use Rattle.mmc_card.specs.Card.{Card}
use Rattle.mmc_card.specs.Faults.{PollStep, ReadStep, WriteStep}
use Rattle.mmc_card.specs.declared.exchange.Lines.{Lines}
use Rattle.mmc_bus.specs.Exchanges.{Kept}
use Rattle.mmc_host.specs.Hosts.{Answers, HostView, answer_heard, bus_of}
use Rattle.mmc_host.specs.declared.told.HostState.{HostState}
use Rattle.mmc_story.specs.Entry.{Entry, Event}
use Rattle.mmc_story.specs.Entry.Event.{Looked, Misused, Read, ReadWith, Sent, Written, WrittenWith}
use Rattle.mmc_story.specs.Transfers.{ReadsTogether, WritesTogether}

-- What became of a card.
pub record Outcome : Type 0 where
  pub card : Card
  -- how many faults have fallen on it
  pub faults : ℕ
  -- controller and card have conformed so far
  pub conformed : Bool

-- what contracts see of a host with this card, when it was told this and has these limits
abbrev pub host_with : Outcome → HostState → Lines → HostView
host_with outcome told limits =
    record {
      card = outcome.card;
      state = told;
      limits = limits;
      faults = outcome.faults;
      may_fall = None;
      is_kept = outcome.conformed;
    }

-- and of its bus
abbrev pub bus_at : Outcome → Entry → BusView
bus_at outcome entry = bus_of (host_with outcome entry.told entry.limits)

-- the card relation allows what was answered
abbrev pub Allows : BusView → Event → BusView → Type 0
Allows old (Sent command heard) new =
    Answers old command.index command.argument (answer_heard command.response command.index heard) new
Allows old (Read size got block) new = ReadStep old size got block new
Allows old (Written block got) new = WriteStep old block got new
Allows old (Looked is_busy) new = PollStep old is_busy new
Allows old (ReadWith command heard moved blocks) new = ReadsTogether old command heard moved blocks new
Allows old (WrittenWith command heard blocks moved) new = WritesTogether old command heard blocks moved new
Allows old Misused new = ⊥

-- An entry is one step of the card, or those of the exchanges of one call.
abbrev pub IsStep : Outcome → Entry → Outcome → Type 0
IsStep old entry new =
    Kept (bus_at old entry) (Allows (bus_at old entry) entry.event (bus_at new entry)) (bus_at new entry)

-- The assumption.
pub record Story : Type 0 where
  -- what became of the card after these entries, the last one first
  pub outcome : List Entry → Outcome
  -- where controller and card have conformed, each entry is explained so
  pub explains : (entry : Entry) (past : List Entry) → (outcome (entry ∷ past)).conformed ≡ true
      → IsStep (outcome past) entry (outcome (entry ∷ past))

-- the story is true of all that a host did
abbrev pub IsTrueOf : Story → List Entry → Type 0
IsTrueOf story past = (story.outcome past).conformed ≡ true
