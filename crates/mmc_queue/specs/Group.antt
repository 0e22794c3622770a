-- What the rule makes of a group.
use Rattle.std.specs.Prelude.{◌&&◌, ◌+◌, ◌<◌, ◌^◌, ◌↔◌, ◌∷◌, ◌≡◌, ◌≤◌, ◌||◌, ◌⊎◌, Bool, List, [], false, length, nat_le, nat_lt, true, ℕ}
use Rattle.mmc_card.specs.declared.part.Part.{Part}
use Rattle.mmc_queue.specs.Requests.{Names, can_merge, end_of, kind_of, part_of, start_of}
use Rattle.mmc_queue.specs.Rule.{passes_none}
use Rattle.mmc_queue.specs.Waiting.{AreSound}
use Rattle.mmc_queue.specs.declared.entry.Entry.{Entry}
use Rattle.mmc_queue.specs.declared.request.Request.{Request}
use Rattle.mmc_requests.specs.declared.limits.TheConstants.{MAX_COUNT}
use Rattle.mmc_queue.specs.declared.extent.Extent.{Extent}
use Rattle.mmc_queue.specs.declared.extent.TheConstants.{MAX_GROUP}

-- the list is two others, each in its own order
abbrev pub IsMerged : List Entry → List Entry → List Entry → Type 0
IsMerged [] xs ys = (xs ≡ []) × (ys ≡ [])
IsMerged (z ∷ zs) xs ys =
    ((rest : List Entry) × (xs ≡ z ∷ rest) × IsMerged zs rest ys)
    ⊎ ((rest : List Entry) × (ys ≡ z ∷ rest) × IsMerged zs xs rest)

-- it is one of these
abbrev pub IsOneOf : List Entry → Entry → Type 0
IsOneOf [] e = ⊥
IsOneOf (v ∷ vs) e = (v ≡ e) ⊎ IsOneOf vs e

-- one of these names the sector
abbrev pub SomeNames : List Entry → Part → ℕ → Type 0
SomeNames es part sector = (e : Entry) × IsOneOf es e × Names e.request part sector

-- all of one partition and kind
abbrev pub AreAlike : Extent → List Entry → Type 0
AreAlike extent [] = Unit {0}
AreAlike extent (e ∷ es) = (part_of e.request ≡ extent.part) × (kind_of e.request ≡ extent.kind) × AreAlike extent es

-- the request names the sector, whatever the partition
abbrev pub has_sector : Request → ℕ → Bool
has_sector r sector = nat_le (start_of r) sector && nat_lt sector (end_of r)

-- some of these do
abbrev pub any_has : List Entry → ℕ → Bool
any_has [] sector = false
any_has (e ∷ es) sector = has_sector e.request sector || any_has es sector

-- no two of these name one sector
abbrev pub AreApart : List Entry → Type 0
AreApart [] = Unit {0}
AreApart (e ∷ es) = ((sector : ℕ) → has_sector e.request sector ≡ true → any_has es sector ≡ false) × AreApart es

-- together they name the sectors of the extent, and no others
abbrev pub AreOneExtent : Extent → List Entry → Type 0
AreOneExtent extent es = (sector : ℕ) → any_has es sector ≡ (nat_le extent.start sector && nat_lt sector extent.end)

-- none of these came after one of those that it conflicts with
abbrev pub PassNone : List Entry → List Entry → Type 0
PassNone [] left = Unit {0}
PassNone (e ∷ es) left = (passes_none e left ≡ true) × PassNone es left

-- Requests that can be served as one extent.
pub record IsJoined (members : List Entry) (extent : Extent) : Type 0 where
  -- they are the sectors of the extent, of one partition and kind, and no two of them name one sector
  pub alike : AreAlike extent members
  pub one_extent : AreOneExtent extent members
  pub apart : AreApart members
  -- they keep the limits
  pub counted : length members ≡ extent.members
  pub some : 0 < length members
  pub few : length members ≤ MAX_GROUP
  pub short : can_merge extent.kind ≡ true → extent.end ≤ extent.start + MAX_COUNT
  -- an erase or a trim is alone
  pub alone : can_merge extent.kind ≡ false → length members ≡ 1
  -- each has the bytes and the room that go with its request
  pub sound : AreSound members

-- What joined requests are together: an extent.
pub record FormExtent (members : List Entry) (extent : Extent) : Type 0 where
  -- there is one sector at least, and none lies past 2^32
  pub some : extent.start < extent.end
  pub inside : extent.end ≤ 2 ^ 32
  -- a sector is of the extent just where a member names it
  pub named : (sector : ℕ) → ((extent.start ≤ sector) × (sector < extent.end)) ↔ SomeNames members extent.part sector
  -- each member lies within the extent, and is of its partition and kind; one of them ends where the extent does
  pub within : (e : Entry) → IsOneOf members e → (extent.start ≤ start_of e.request) × (end_of e.request ≤ extent.end)
  pub alike : (e : Entry) → IsOneOf members e → (part_of e.request ≡ extent.part) × (kind_of e.request ≡ extent.kind)
  pub last : (e : Entry) × IsOneOf members e × (end_of e.request ≡ extent.end)

-- A group, of all that waited, and those that are left.
pub record IsFair (waits members : List Entry) (extent : Extent) (left : List Entry) : Type 0 where
  pub oldest : Entry
  pub others : List Entry
  pub later : List Entry
  -- the oldest is the first, and the members and those that are left stay in order
  pub members_are : members ≡ oldest ∷ others
  pub waits_are : waits ≡ oldest ∷ later
  pub parts : IsMerged later others left
  -- the members can be served as one extent
  pub joined : IsJoined members extent
  -- no member passes an earlier one that is left and conflicts with it
  pub pass_none : PassNone members left
