-- What a queue keeps true between two calls.
use Rattle.std.specs.Prelude.{◌≡◌, [], List, None, Option, Some, pos, ℕ, ℤ}
use Rattle.mmc_card.specs.Card.{Card, holds}
use Rattle.mmc_card.specs.Laws.{Carried}
use Rattle.mmc_card.specs.Sectors.{AreRead, Sector, Sets, Within, changed}
use Rattle.mmc_card.specs.declared.exchange.Lines.{Lines}
use Rattle.mmc_record.specs.Note.{IsNoteOf}
use Rattle.mmc_record.specs.declared.record.CardRecord.{CardRecord}
use Rattle.mmc_requests.specs.declared.asked.Asked.{Asked}
use Rattle.mmc_switch.specs.Info.{IsKnown}
use Rattle.mmc_switch.specs.Stands.{info_of}
use Rattle.mmc_switch.specs.declared.stands.Stands.{Stands}
use Rattle.mmc_queue.specs.declared.extent.Extent.{Extent}
use Rattle.mmc_block.specs.Alone.{idle}
use Rattle.mmc_block.specs.ClientLaws.{seen_as}
use Rattle.mmc_block.specs.Clients.{AreSteps as AreClientSteps, ClientStep, Told as Reply, at_rest}
use Rattle.mmc_block.specs.InOrder.{AreDecided}
use Rattle.mmc_block.specs.Machine.{IsMerged, Machine, Waiting}
use Rattle.mmc_block.specs.Service.{change_of_group}
use Rattle.mmc_requests.specs.declared.kind.Kind.TheVariants.{Read}
use Rattle.mmc_slots.specs.Slots.{Memory, entries_in}
use Rattle.mmc_slots.specs.declared.slot.Slot.{Slot}
use Rattle.mmc_slots.specs.declared.slot.TheConstants.{TOGETHER}
use Rattle.mmc_turns.specs.Agrees.{Agrees}
use Rattle.mmc_turns.specs.Serving.{AreJoined, group_of}
use Rattle.kelifandro.specs.Asked.{asked_by}
use Rattle.kelifandro.specs.History.{AreSteps, Call}
use Rattle.kelifandro.specs.Queues.{AreEnough}

-- What is asked of the card is what those in service are together; or none is in service.
abbrev pub IsServing : Memory → List Slot → Option Asked → Type 0
IsServing lent slots None = entries_in lent TOGETHER slots ≡ []
IsServing lent slots (Some asked) = (extent : Extent) × (asked ≡ asked_by extent) × AreJoined lent slots extent

-- The slots hold the requests of a sector machine, with which the card agrees, and to which the replies have led; the card was known so as
-- the queue was opened.
pub record KeepsQueue (limits : Lines) (start now : Card) (calls : List Call) (replies : List Reply) (lent : Memory) (slots : List Slot)
    (next : ℕ) (serving : Option Asked) (opened : CardRecord) : Type 0 where
  pub how : Stands
  pub says : IsNoteOf how opened
  pub known : IsKnown limits start.made (info_of how)
  pub first : Machine
  pub before : AreSteps limits start.made (idle (holds start) 0) calls first
  pub rested : first ≡ idle first.sets first.next
  pub machine : Machine
  pub outstanding : List Waiting
  pub merged : IsMerged outstanding machine.in_service machine.waits
  pub executed : AreClientSteps (ClientStep (info_of how)) (at_rest first.sets 0) replies (seen_as machine outstanding)
  pub agrees : Agrees (info_of how) lent slots next (holds now) machine
  pub serves : IsServing lent slots serving
  pub carried : Carried start now

-- What those in service were served by, from the sectors that the card held before: where it is done the card has carried it out.
pub record WasDone (how : Stands) (lent : Memory) (slots : List Slot) (next : ℕ) (machine : Machine) (extent : Extent) (moved : List Sector)
    (now : Sets) : Type 0 where
  pub was : Sets
  pub agreed : Agrees (info_of how) lent slots next was machine
  pub changed : Within now (changed (change_of_group (info_of how) (group_of (entries_in lent TOGETHER slots) extent)) was)
  pub decided : AreDecided now
  pub read : extent.kind ≡ Read → AreRead now extent.part extent.start moved

-- The same between serving and its end, by this number.
pub record KeepsServed (limits : Lines) (start now : Card) (calls : List Call) (replies : List Reply) (lent : Memory) (slots : List Slot)
    (next : ℕ) (asked : Asked) (opened : CardRecord) (number : ℤ) (moved : List Sector) : Type 0 where
  pub keeps : KeepsQueue limits start now calls replies lent slots next (Some asked) opened
  pub enough : AreEnough asked moved
  pub done : number ≡ pos 0 → WasDone keeps.how lent slots next keeps.machine keeps.serves.0 moved (holds now)
