-- What a request keeps over its runs.
use Rattle.std.specs.Prelude.{◌≡◌, List, ℕ}
use Rattle.mmc_bus.specs.Lending.{IsRewritten}
use Rattle.mmc_bus.specs.Lending.IsRewritten.{block, nothing}
use Rattle.mmc_card.specs.Sectors.{Sector}
use Rattle.mmc_card.specs.declared.part.Part.{Part}
use Rattle.mmc_direct.specs.Asked.{asked_at}
use Rattle.mmc_requests.specs.Changes.{written_at}
use Rattle.mmc_requests.specs.declared.kind.Kind.{Kind}

-- blocks that are lent to one run and then to another
pub lent_then : {S : Type 0} {blocks : S → List (List ℕ)} {leave : S → ℕ → List ℕ → S} {a b c : S}
    → IsRewritten blocks leave a b → IsRewritten blocks leave b c → IsRewritten blocks leave a c
lent_then first nothing = first
lent_then first (block now i left second less size) = block now i left (lent_then first second) less size

-- what asks for as many sectors of the same partition, from the same one on, asks for the same
pub same_asked : (kind : Kind) {part was_part : Part} {start was_start count was_count : ℕ} → part ≡ was_part → start ≡ was_start
    → count ≡ was_count → asked_at kind part start count ≡ asked_at kind was_part was_start was_count
same_asked kind part start count = rw (part, start, count)

-- and the same values go there
pub same_written : (values : List Sector) {part was_part : Part} {start was_start : ℕ} → part ≡ was_part → start ≡ was_start
    → written_at part start values ≡ written_at was_part was_start values
same_written values part start = rw (part, start)
