-- Requests that wait or are in service, with the room for what they read.
use Rattle.std.specs.Prelude.{◌≡◌, ◌+◌, ◌≤◌, IsSome, List, [], ◌∷◌, false, length, map, true, ℕ}
use Rattle.mmc_card.specs.Sectors.{AreRead, Sets, is_boot, pieces}
use Rattle.mmc_erase.specs.Job.{suits}
use Rattle.mmc_erase.specs.declared.how.How.{How}
use Rattle.mmc_queue.specs.Requests.{can_merge, count_of, has_its_bytes, is_read, kind_of, part_of, room_of, start_of}
use Rattle.mmc_queue.specs.declared.entry.Entry.{Entry}
use Rattle.mmc_queue.specs.declared.request.Request.{Request}
use Rattle.mmc_queue.specs.declared.request.Request.TheVariants.{Read}
use Rattle.mmc_requests.specs.Kinds.{kind_of_how}
use Rattle.mmc_requests.specs.declared.limits.TheConstants.{MAX_COUNT}
use Rattle.mmc_switch.specs.Info.{sectors_of}
use Rattle.mmc_switch.specs.Sizes.{size_of}
use Rattle.mmc_switch.specs.declared.info.Info.{Info}
use Rattle.mmc_block.specs.Machine.{Waiting}
use Rattle.mmc_block.specs.declared.completion.Answer.{Answer}
use Rattle.mmc_block.specs.declared.completion.Answer.TheVariants.{Data, Done}
use Rattle.mmc_block.specs.declared.completion.Completion.{Completion}

abbrev pub waiting_of : Entry → Waiting
waiting_of entry = record { ticket = entry.ticket; client = entry.client; request = entry.request }

abbrev pub waits_of : List Entry → List Waiting
waits_of entries = map waiting_of entries

-- an erase is of whole erase units, a trim of a card that trims, and neither is in a boot partition
abbrev pub IsErasable : Info → Request → Type 0
IsErasable info request =
    (how : How) → kind_of request ≡ kind_of_how how
    → (is_boot (part_of request) ≡ false)
    × (suits how info (size_of info.sizes (part_of request)) (start_of request) (count_of request) ≡ true)

-- a request of sectors that the card has, with its bytes, or the room for them
pub record IsServable (info : Info) (request : Request) (buffer : List ℕ) : Type 0 where
  pub some : 1 ≤ count_of request
  pub few : can_merge (kind_of request) ≡ true → count_of request ≤ MAX_COUNT
  pub exists : IsSome (sectors_of info (part_of request))
  pub in_range : start_of request + count_of request ≤ size_of info.sizes (part_of request)
  pub writable : is_read request ≡ false → info.read_only ≡ false
  pub brought : has_its_bytes request ≡ true
  pub erasable : IsErasable info request
  pub room : length buffer ≡ room_of request

abbrev pub AreServable : Info → List Entry → Type 0
AreServable info [] = Unit {0}
AreServable info (entry ∷ entries) = IsServable info entry.request entry.buffer × AreServable info entries

-- the answer to a request that was carried out, where this is in its buffer
abbrev pub done_answer : Request → List ℕ → Answer
done_answer (Read part start count) bytes = Data bytes
done_answer request bytes = Done

abbrev pub completion_of : Entry → Completion
completion_of e = record { ticket = e.ticket; client = e.client; answer = done_answer e.request e.buffer }

-- a read's bytes may be read from these sectors
abbrev pub HoldsWhatItRead : Sets → Request → List ℕ → Type 0
HoldsWhatItRead sets (Read part start count) bytes = AreRead sets part start (pieces count bytes)
HoldsWhatItRead sets request bytes = Unit {0}

abbrev pub HoldWhatTheyRead : Sets → List Entry → Type 0
HoldWhatTheyRead sets [] = Unit {0}
HoldWhatTheyRead sets (e ∷ es) = HoldsWhatItRead sets e.request e.buffer × HoldWhatTheyRead sets es
