-- Entries that wait, as a list by ticket.
use Rattle.std.specs.Prelude.{◌++◌, ◌+◌, ◌<◌, ◌==◌, ◌^◌, ◌∷◌, ◌≡◌, ◌≤◌, List, None, Option, Some, [], if◌then◌else◌}
use Rattle.std.specs.Prelude.{length, true, ℕ}
use Rattle.mmc_queue.specs.Requests.{can_merge, count_of, end_of, has_its_bytes, kind_of, room_of}
use Rattle.mmc_queue.specs.declared.entry.Entry.{Entry}
use Rattle.mmc_queue.specs.declared.push_fault.PushFault.{PushFault}
use Rattle.mmc_queue.specs.declared.push_fault.PushFault.TheVariants.{Full, NoMemory}
use Rattle.mmc_queue.specs.declared.queue.TheConstants.{MAX_WAITING}
use Rattle.mmc_requests.specs.declared.limits.TheConstants.{MAX_COUNT}

-- An entry that may wait: its ticket is a number of 64 bits; it names some sectors, as many as a request of its kind may,
-- none past 2^32; and it has the bytes and the room that go with them.
pub record IsSound (e : Entry) : Type 0 where
  pub ticket : e.ticket < 2 ^ 64
  pub some : 0 < count_of e.request
  pub few : can_merge (kind_of e.request) ≡ true → count_of e.request ≤ MAX_COUNT
  pub inside : end_of e.request ≤ 2 ^ 32
  pub bytes : has_its_bytes e.request ≡ true
  pub room : length e.buffer ≡ room_of e.request

abbrev pub AreSound : List Entry → Type 0
AreSound [] = Unit {0}
AreSound (e ∷ es) = IsSound e × AreSound es

-- the tickets ascend, from this one on
abbrev pub Ascend : ℕ → List Entry → Type 0
Ascend low [] = Unit {0}
Ascend low (e ∷ es) = (low ≤ e.ticket) × Ascend (e.ticket + 1) es

-- all tickets are below this one
abbrev pub AreBelow : ℕ → List Entry → Type 0
AreBelow ticket [] = Unit {0}
AreBelow ticket (e ∷ es) = (e.ticket < ticket) × AreBelow ticket es

-- the entry with this ticket, if one waits
abbrev pub at_ticket : ℕ → List Entry → Option Entry
at_ticket ticket [] = None
at_ticket ticket (e ∷ es) = if ticket == e.ticket then Some e else at_ticket ticket es

-- one leaves, and the others stay
abbrev pub Takes : List Entry → Entry → List Entry → Type 0
Takes old e new = (before : List Entry) × (after : List Entry) × (old ≡ before ++ e ∷ after) × (new ≡ before ++ after)

-- why an entry isn't taken, where so many wait
abbrev pub IsRefused : PushFault → ℕ → Type 0
IsRefused Full waiting = MAX_WAITING ≤ waiting
IsRefused NoMemory waiting = waiting < MAX_WAITING
