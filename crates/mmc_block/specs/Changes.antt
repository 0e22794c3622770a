-- Headline (docs/AUDIT.md, "What to read").
-- What each request of a queue changes, by what it names. The rules are the project's own.
use Rattle.mmc_card.specs.Sectors.{Change, pieces}
use Rattle.mmc_requests.specs.Changes.{change_by}
use Rattle.mmc_queue.specs.Requests.{bytes_of, count_of, kind_of, part_of, start_of}
use Rattle.mmc_queue.specs.declared.request.Request.{Request}
use Rattle.mmc_switch.specs.declared.info.Info.{Info}

-- What a request changes on a card of which this is known, by its kind: where it writes, its sectors to its bytes, 512 each.
abbrev pub change_of : Info → Request → Change
change_of info request =
    change_by (kind_of request) info (part_of request) (start_of request) (count_of request)
    (pieces (count_of request) (bytes_of request))
