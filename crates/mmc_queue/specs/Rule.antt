-- Which requests are served together, where together they may have so many sectors at most. The rule is the project's own.
use Rattle.std.specs.Prelude.{◌&&◌, ◌+◌, ◌==◌, ◌∷◌, ◌≡◌, ◌≤◌, ◌||◌, Bool, List, [], false, if◌then◌else◌}
use Rattle.std.specs.Prelude.{nat_le, nat_lt, not, true, ℕ}
use Rattle.mmc_card.specs.Sectors.{part_number}
use Rattle.mmc_queue.specs.Requests.{can_merge, conflicts, count_of, end_of, kind_number, kind_of, part_of, start_of}
use Rattle.mmc_queue.specs.Waiting.{Takes}
use Rattle.mmc_queue.specs.declared.entry.Entry.{Entry}
use Rattle.mmc_queue.specs.declared.request.Request.{Request}
use Rattle.mmc_queue.specs.declared.extent.Extent.{Extent}
use Rattle.mmc_queue.specs.declared.extent.TheConstants.{MAX_GROUP}

-- the extent of one request
abbrev pub extent_of : Request → Extent
extent_of r = record { part = part_of r; kind = kind_of r; start = start_of r; end = end_of r; members = 1 }

-- the extent, and a request at one of its ends
abbrev pub widened : Extent → Request → Extent
widened extent r =
    if start_of r == extent.end then record extent { end = end_of r; members = extent.members + 1 }
    else record extent { start = start_of r; members = extent.members + 1 }

-- the request is of the extent's partition and kind
abbrev pub is_alike : Extent → Request → Bool
is_alike extent r = (part_number (part_of r) == part_number extent.part) && (kind_number (kind_of r) == kind_number extent.kind)

-- it starts at the extent's end, or ends at its start
abbrev pub is_beside : Extent → Request → Bool
is_beside extent r = (start_of r == extent.end) || (end_of r == extent.start)

-- with it the extent keeps the limits
abbrev pub has_room : ℕ → Extent → Request → Bool
has_room most extent r = nat_lt extent.members MAX_GROUP && nat_le (extent.end + count_of r) (extent.start + most)

-- the request fits the extent; to an erase or a trim none does
abbrev pub fits : ℕ → Extent → Request → Bool
fits most extent r = (is_alike extent r && can_merge extent.kind) && (is_beside extent r && has_room most extent r)

-- v came before e, and they conflict
abbrev pub comes_first : Entry → Entry → Bool
comes_first v e = nat_lt v.ticket e.ticket && conflicts v.request e.request

-- none of these came before e and conflicts with it
abbrev pub passes_none : Entry → List Entry → Bool
passes_none e [] = true
passes_none e (v ∷ vs) = not (comes_first v e) && passes_none e vs

-- e may join the extent, while these wait outside the group
abbrev pub may_join : ℕ → Extent → List Entry → Entry → Bool
may_join most extent waits e = fits most extent e.request && passes_none e waits

-- none of these may
abbrev pub NoneMay : ℕ → Extent → List Entry → List Entry → Type 0
NoneMay most extent waits [] = Unit {0}
NoneMay most extent waits (e ∷ es) = (may_join most extent waits e ≡ false) × NoneMay most extent waits es

-- each of these that may has this ticket or a higher one
abbrev pub NoneLower : ℕ → Extent → List Entry → ℕ → List Entry → Type 0
NoneLower most extent waits ticket [] = Unit {0}
NoneLower most extent waits ticket (e ∷ es) =
    (may_join most extent waits e ≡ true → ticket ≤ e.ticket) × NoneLower most extent waits ticket es

-- e joins: of those that may the one with the lowest ticket, and it waits no longer
pub record Joins (most : ℕ) (extent : Extent) (waits : List Entry) (e : Entry) (left : List Entry) : Type 0 where
  pub may : may_join most extent waits e ≡ true
  pub lowest : NoneLower most extent waits e.ticket waits
  pub leaves : Takes waits e left

-- members of a group, and one more, by ticket
abbrev pub with_member : List Entry → Entry → List Entry
with_member [] e = e ∷ []
with_member (m ∷ ms) e = if nat_lt e.ticket m.ticket then (e ∷ m ∷ ms) else (m ∷ with_member ms e)

-- A group begins with the oldest of those that wait, and one after another joins it.
pub data Grows (most : ℕ) (waits : List Entry) : List Entry → Extent → List Entry → Type 0 where
  begins : (oldest : Entry) (later : List Entry) → waits ≡ oldest ∷ later
      → Grows most waits (oldest ∷ []) (extent_of oldest.request) later
  joins : (members : List Entry) (extent : Extent) (left : List Entry) (e : Entry) (rest : List Entry)
      → Grows most waits members extent left → Joins most extent left e rest
      → Grows most waits (with_member members e) (widened extent e.request) rest

-- the group that the rule gives, with its extent, and those that are left: none of them may join any more
pub record IsGroup (most : ℕ) (waits members : List Entry) (extent : Extent) (left : List Entry) : Type 0 where
  pub grown : Grows most waits members extent left
  pub whole : NoneMay most extent left left
