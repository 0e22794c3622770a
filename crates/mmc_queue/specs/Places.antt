-- Where a request is found by its sectors.
use Rattle.std.specs.Prelude.{Bool, Option, Some, None, false, ℕ}
use Rattle.std.specs.BTreeSet.{BTreeSet, contains}
use Rattle.std.specs.Ordering.{is_eq}
use Rattle.std.specs.declared.cmp.Ordering.{Ordering}
use Rattle.mmc_queue.specs.contracts.place.PlaceOrd.TheImpl.{cmp-value}
use Rattle.mmc_queue.specs.declared.entry.Entry.{Entry}
use Rattle.mmc_queue.specs.declared.place.Edge.{Edge}
use Rattle.mmc_queue.specs.declared.place.Edge.TheVariants.{End, Start}
use Rattle.mmc_queue.specs.declared.place.Place.{Place}
use Rattle.mmc_queue.specs.declared.request.Request.{Request}
use Rattle.mmc_queue.specs.Requests.{end_of, kind_of, part_of, start_of}

-- the order of places, which is derived: that of their fields, one after another
abbrev pub place_cmp : Place → Place → Ordering
place_cmp = cmp-value.it

-- the sector at an edge of a request
abbrev pub sector_at : Edge → Request → ℕ
sector_at Start request = start_of request
sector_at End request = end_of request

-- where an entry stands by an edge of its request
abbrev pub place_of : Edge → Entry → Place
place_of edge e =
    record { part = part_of e.request; kind = kind_of e.request; edge = edge; sector = sector_at edge e.request; ticket = e.ticket }

-- the place is one of the entry's two
abbrev pub is_place_of : Entry → Place → Bool
is_place_of e q = is_eq (place_cmp (place_of q.edge e) q)

-- the place is one of an entry's, if there is one
abbrev pub stands_at : Option Entry → Place → Bool
stands_at None q = false
stands_at (Some e) q = is_place_of e q

-- the places have this one
abbrev pub shows : BTreeSet Place → Place → Bool
shows places q = contains place_cmp places q
