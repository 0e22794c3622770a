-- What was done for C, by either way, and what is assumed of it: a story for each way.
use Rattle.std.specs.Prelude.{◌==◌, ◌≡◌, ◌≤◌, [], List, if◌then◌else◌, true, ℤ}
use Rattle.mmc_card.specs.Card.{IsCard, holds}
use Rattle.mmc_card.specs.Laws.{Carried, StillStands}
use Rattle.mmc_card.specs.Sectors.{Within}
use Rattle.mmc_card.specs.declared.exchange.Lines.{Lines}
use Rattle.mmc_host.specs.HostStates.{begun}
use Rattle.mmc_host.specs.Hosts.{HostView, Where}
use Rattle.mmc_record.specs.Note.{is_note}
use Rattle.mmc_record.specs.declared.record.CardRecord.{CardRecord}
use Rattle.mmc_sdhci.specs.Controller.{ControllerView, limits_of}
use Rattle.mmc_sdhci.specs.Driver.{IsNew, IsReady, IsUnready, host_over}
use Rattle.mmc_sdhci.specs.declared.start.StartFault.{StartFault}
use Rattle.mmc_story.specs.Entry.{Entry}
use Rattle.mmc_story.specs.Story.{Story, host_with}
use Rattle.sdhci_story.specs.Access.{Access, beside_of}
use Rattle.sdhci_story.specs.RegisterStory as Registers
use Rattle.sdhci_story.specs.RegisterStory.{RegisterStory}
use Rattle.c_host.specs.Given.{lines_by, most_by}
use Rattle.c_host.specs.declared.given.WayRecord.{WayRecord}
use Rattle.kelifandro.specs.Answers.{start_number}
use Rattle.kelifandro.specs.declared.did.Did.{Did}

-- What was done: the calls of functions, and the accesses to registers, of each the last one first.
pub record Done : Type 0 where
  pub calls : List Entry
  pub accesses : List Access

abbrev pub done_of : Did → Done
done_of did = record { calls = did.calls.past; accesses = did.accesses.past }

abbrev pub nothing_done : Done
nothing_done = record { calls = []; accesses = [] }

-- THE ASSUMPTION: a story of the calls, and one of the accesses.
pub record Stories : Type 0 where
  pub host : Story
  pub registers : RegisterStory

abbrev pub stories_of : Story → RegisterStory → Stories
stories_of host registers = record { host = host; registers = registers }

-- the most lines of C's functions, and their fastest timing
abbrev pub limits_by : WayRecord → Lines
limits_by way = lines_by way.lines way.high_speed

-- The host of such a way after what was done, as the next call finds it: by functions as the one story has it, by registers as the other.
-- It is kept where that story is true of what was done.
abbrev pub host_after : Stories → WayRecord → Done → HostView
host_after stories way done =
    if way.by == 0 then host_with (stories.host.outcome done.calls) begun (limits_by way)
    else host_over (stories.registers.controller done.accesses) begun (limits_of stories.registers.built)

-- the story of such a way is true of all that was done
abbrev pub IsTrueOf : Stories → WayRecord → Done → Type 0
IsTrueOf stories way done = (host_after stories way done).is_kept ≡ true

-- of a host that is kept nothing is new but what it was told
abbrev pub OnlyTold : HostView → HostView → Type 0
OnlyTold old new = Where new ((old.is_kept ≡ true) × (new ≡ record old { state = new.state }))

-- What the end of a call leaves of its host. What was under way is lost: no sector may hold more, and the card stands as it did. Where the
-- call has succeeded the card is the same.
pub record IsLeft (Succeeded : Type 0) (host after : HostView) : Type 0 where
  pub was_kept : host.is_kept ≡ true
  pub carried : Carried host.card after.card
  pub narrows : Within (holds after.card) (holds host.card)
  pub is_card : IsCard host.card → IsCard after.card
  pub stands : StillStands host.card after.card
  pub later : host.faults ≤ after.faults
  pub same : Succeeded → after.card ≡ host.card

-- by registers, as many data lines are wired as C says, where the story is true of anything
abbrev pub IsWired : Stories → WayRecord → Type 0
IsWired stories way =
    (way.by ≡ 0 → ⊥)
    → (accesses : List Access) → Registers.IsTrueOf stories.registers accesses → stories.registers.built.wired ≡ most_by way

-- by registers, this holds of the controller after what was done
abbrev pub AtRegisters : Stories → WayRecord → Done → (ControllerView → Type 0) → Type 0
AtRegisters stories way done Holds = (way.by ≡ 0 → ⊥) → Holds (stories.registers.controller done.accesses)

-- This number tells that the controller isn't ready, and why, as it is after what was done.
abbrev pub TellsUnready : Stories → Done → ℤ → Type 0
TellsUnready stories done number =
    (fault : StartFault) × (number ≡ start_number fault) × IsUnready fault (stories.registers.controller done.accesses) (beside_of done.accesses)

-- What a call presumes, and what it leaves. By registers nothing runs at the controller; and where a card is noted all is set that its next
-- command needs, and nothing is lent.
pub record IsFit (stories : Stories) (way : WayRecord) (done : Done) (note : CardRecord) : Type 0 where
  pub wired : IsWired stories way
  pub still : AtRegisters stories way done IsNew
  pub ready : is_note note ≡ true → AtRegisters stories way done IsReady
