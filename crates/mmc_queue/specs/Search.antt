-- The search for the request that joins a group next, which may have `MAX_COUNT` sectors.
use Rattle.std.specs.Prelude.{◌&&◌, ◌≡◌, ◌≤◌, Bool, List, None, Option, Some, false, nat_lt, true, ℕ}
use Rattle.mmc_queue.specs.Places.{place_of}
use Rattle.mmc_queue.specs.Rule.{NoneLower, may_join}
use Rattle.mmc_queue.specs.Waiting.{at_ticket}
use Rattle.mmc_queue.specs.declared.entry.Entry.{Entry}
use Rattle.mmc_queue.specs.declared.place.Edge.{Edge}
use Rattle.mmc_queue.specs.declared.extent.Extent.{Extent}
use Rattle.mmc_requests.specs.declared.limits.TheConstants.{MAX_COUNT}

-- it waits and may join
abbrev pub may_join_if : Extent → List Entry → Option Entry → Bool
may_join_if extent waits None = false
may_join_if extent waits (Some e) = may_join MAX_COUNT extent waits e

abbrev pub may_join_at : Extent → List Entry → ℕ → Bool
may_join_at extent waits ticket = may_join_if extent waits (at_ticket ticket waits)

-- a ticket is below the best one so far
abbrev pub is_lower : ℕ → Option ℕ → Bool
is_lower ticket None = true
is_lower ticket (Some best) = nat_lt ticket best

abbrev pub is_better : Extent → List Entry → ℕ → Option ℕ → Bool
is_better extent waits ticket best = is_lower ticket best && may_join_at extent waits ticket

-- there is a best one, and it isn't above this ticket
abbrev pub NotAbove : Option ℕ → ℕ → Type 0
NotAbove None ticket = ⊥
NotAbove (Some best) ticket = best ≤ ticket

-- the best one so far may join
abbrev pub BestMay : Extent → List Entry → Option ℕ → Type 0
BestMay extent waits None = Unit {0}
BestMay extent waits (Some best) = may_join_at extent waits best ≡ true

-- the entry with this ticket is of the extent's partition and kind, and stands with this edge at this sector
abbrev pub StandsAlike : Extent → List Entry → Edge → ℕ → ℕ → Type 0
StandsAlike extent waits edge sector ticket =
    (e : Entry) × (at_ticket ticket waits ≡ Some e)
    × (place_of edge e ≡ record { part = extent.part; kind = extent.kind; edge = edge; sector = sector; ticket = ticket })

-- the lowest ticket of those that may join
pub record IsLowest (extent : Extent) (waits : List Entry) (ticket : ℕ) : Type 0 where
  pub e : Entry
  pub there : at_ticket ticket waits ≡ Some e
  pub may : may_join MAX_COUNT extent waits e ≡ true
  pub lowest : NoneLower MAX_COUNT extent waits ticket waits
