-- What a request asks for, and how many exchanges a run of it takes at most.
use Rattle.std.specs.Prelude.{◌*◌, ◌+◌, if◌then◌else◌, ℕ}
use Rattle.mmc_card.specs.declared.part.Part.{Part}
use Rattle.mmc_requests.specs.declared.asked.Asked.{Asked}
use Rattle.mmc_erase.specs.declared.turns.TheConstants.{EXCHANGES_OF_AN_ERASE}
use Rattle.mmc_requests.specs.Kinds.{moves_blocks}
use Rattle.mmc_requests.specs.declared.kind.Kind.{Kind}
use Rattle.mmc_transfer.specs.declared.turns.TheConstants.{EXCHANGES_BESIDE_BLOCKS, EXCHANGES_OF_A_BLOCK}

-- so many sectors of this partition, from this one on
abbrev pub asked_at : Kind → Part → ℕ → ℕ → Asked
asked_at kind part start count = record { kind = kind; part = part; start = start; count = count }

-- the most exchanges of a run of this kind, at so many sectors
abbrev pub exchanges_by : Kind → ℕ → ℕ
exchanges_by kind count =
    if moves_blocks kind then EXCHANGES_OF_A_BLOCK * count + EXCHANGES_BESIDE_BLOCKS else EXCHANGES_OF_AN_ERASE

-- the same, of what a request asks for
abbrev pub exchanges_of_run : Asked → ℕ
exchanges_of_run asked = exchanges_by asked.kind asked.count
