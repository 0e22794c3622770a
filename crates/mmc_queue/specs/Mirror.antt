-- The two orders of a queue, by ticket and by place, say the same.
use Rattle.std.specs.Prelude.{◌<◌, ◌^◌, ◌∷◌, ◌≡◌, List, [], ℕ}
use Rattle.std.specs.BTreeMap.{BTreeMap, IsOrdered, get, values}
use Rattle.std.specs.BTreeSet.{BTreeSet}
use Rattle.std.specs.Ordering.{nat_cmp}
use Rattle.mmc_queue.specs.declared.entry.Entry.{Entry}
use Rattle.mmc_queue.specs.declared.place.Place.{Place}
use Rattle.mmc_queue.specs.Places.{shows, stands_at}
use Rattle.mmc_queue.specs.Waiting.{AreSound}

-- each entry is under its ticket, a number of 64 bits
abbrev pub AreKeyed : List (ℕ × Entry) → Type 0
AreKeyed [] = Unit {0}
AreKeyed (e ∷ es) = (e.0 ≡ e.1.ticket) × (e.0 < 2 ^ 64) × AreKeyed es

-- each entry is under its ticket, and the places are just the entries'
pub record Mirrors (tickets : BTreeMap ℕ Entry) (places : BTreeSet Place) : Type 0 where
  pub keyed : AreKeyed tickets.entries
  pub ordered : IsOrdered nat_cmp tickets
  pub mirrored : (q : Place) → shows places q ≡ stands_at (get nat_cmp tickets q.ticket) q
  pub sound : AreSound (values tickets)
