-- Requests that are served together by one change of the card: what their start is to the machine, and what their end.
use Rattle.std.specs.Prelude.{◌<◌, ◌++◌, ◌∷◌, ◌≡◌, List, [], length, map}
use Rattle.mmc_bus.specs.declared.cause.Cause.{Cause}
use Rattle.mmc_card.specs.Sectors.{AreRead, Change, Sets, Within, changed, maybe_changed}
use Rattle.mmc_queue.specs.Group.{IsFair, IsJoined}
use Rattle.mmc_queue.specs.Lent.{blocks_of}
use Rattle.mmc_queue.specs.declared.entry.Entry.{Entry}
use Rattle.mmc_queue.specs.declared.extent.Extent.{Extent}
use Rattle.mmc_queue.specs.declared.group.Group.{Group}
use Rattle.mmc_requests.specs.declared.kind.Kind.TheVariants.{Read}
use Rattle.mmc_switch.specs.declared.info.Info.{Info}
use Rattle.mmc_block.specs.Entries.{AreServable, completion_of, waits_of}
use Rattle.mmc_block.specs.Groups.{AreAnswersOf, AreInOrder, IsChangeOf, completed}
use Rattle.mmc_block.specs.InOrder.{AreDecided}
use Rattle.mmc_block.specs.Machine.{Machine, Starts, Turns, Waiting, all_failed}
use Rattle.mmc_block.specs.Service.{AreServed}
use Rattle.mmc_block.specs.declared.completion.Answer.TheVariants.{Failed}
use Rattle.mmc_block.specs.declared.completion.Completion.{Completion}

-- These are served now, and the others after them.
pub record AreServedNow (machine : Machine) (members others : List Waiting) : Type 0 where
  pub some : 0 < length members
  pub in_service : machine.in_service ≡ members ++ others
  pub served : AreServed (members ++ others) machine.waits machine.next

-- the machine with these in service, where sectors may hold this
abbrev pub with_service : Machine → Sets → List Waiting → Machine
with_service machine sets in_service = record machine { sets = sets; in_service = in_service }

-- A turn with these answers, after which the card's sectors hold no more than the machine's may.
pub record TurnsTo (info : Info) (machine : Machine) (completions : List Completion) (others : List Waiting) (now : Sets)
    : Type 0 where
  pub sets : Sets
  pub turns : Turns info machine completions (with_service machine sets others)
  pub within : Within now (all_failed info others sets)

-- A group that the rule gives goes into service by a start.
abbrev pub StartsTogether : Type 0
StartsTogether =
    (machine : Machine) (waits members left : List Entry) (extent : Extent)
    → machine.in_service ≡ [] → machine.waits ≡ waits_of waits → AreInOrder 0 (waits_of waits) machine.next
    → IsFair waits members extent left
    → Starts machine (record machine { waits = waits_of left; in_service = waits_of members })
    × AreServedNow (record machine { waits = waits_of left; in_service = waits_of members }) (waits_of members) []

-- Members that are done have their answers: of a read what is in its room, where the blocks of the group are what the sectors may hold.
abbrev pub AnswersTogether : Type 0
AnswersTogether =
    (info : Info) (sets : Sets) (group : Group)
    → IsJoined group.members.items group.extent → AreServable info group.members.items
    → (group.extent.kind ≡ Read → AreRead sets group.extent.part group.extent.start (blocks_of group))
    → AreAnswersOf sets (waits_of group.members.items) (map completion_of group.members.items)

-- Once the card has carried out their change they are answered by a turn.
abbrev pub EndsTogether : Type 0
EndsTogether =
    (info : Info) (machine : Machine) (members others : List Waiting) (change : Change) (completions : List Completion)
    (old now : Sets)
    → AreServedNow machine members others → IsChangeOf info members change → AreAnswersOf now members completions
    → Within old (all_failed info machine.in_service machine.sets) → Within now (changed change old) → AreDecided now
    → TurnsTo info machine completions others now

-- Where it has failed, the card's sectors hold no more than those of failed requests may.
abbrev pub FailsTogether : Type 0
FailsTogether =
    (info : Info) (machine : Machine) (members others : List Waiting) (change : Change) (old now : Sets)
    → AreServedNow machine members others → IsChangeOf info members change
    → Within old (all_failed info machine.in_service machine.sets) → Within now (maybe_changed change old)
    → Within now (all_failed info machine.in_service machine.sets)

-- So one that is alone is answered as failed.
abbrev pub FailsAlone : Type 0
FailsAlone =
    (info : Info) (machine : Machine) (request : Waiting) (others : List Waiting) (cause : Cause) (now : Sets)
    → AreServedNow machine (request ∷ []) others → Within now (all_failed info machine.in_service machine.sets)
    → TurnsTo info machine (completed request (Failed cause) ∷ []) others now
