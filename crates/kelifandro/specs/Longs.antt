-- A read or a write of any number of sectors, which is served in parts.
use Rattle.std.specs.Prelude.{◌*◌, ◌-◌, ◌/◌, ◌==◌, ◌^◌, ◌||◌, Err, List, None, Ok, Option, Result, Some, if◌then◌else◌}
use Rattle.std.specs.Prelude.{length, nat_lt, ℕ, ℤ}
use Rattle.c_host.specs.declared.given.WayRecord.{WayRecord}
use Rattle.mmc_card.specs.Sectors.{Sector}
use Rattle.mmc_requests.specs.declared.asked.Asked.{Asked}
use Rattle.mmc_requests.specs.Refusal.{sectors_refusal}
use Rattle.mmc_requests.specs.declared.refused.Refused.{Refused}
use Rattle.mmc_switch.specs.declared.info.Info.{Info}
use Rattle.kelifandro.specs.Answers.{refused_number}

-- the most sectors of a part: 64 for each line of 12 bytes that a table has room for
abbrev pub longest : WayRecord → ℕ
longest way =
    if (way.lends == 0) || ((way.table_size / 12 == 0) || nat_lt 1023 (way.table_size / 12)) then 65535
    else 64 * (way.table_size / 12)

-- what is asked for in parts: as many sectors as this memory has
abbrev pub whole_of : Asked → List Sector → Asked
whole_of asked blocks = record asked { count = length blocks }

-- why none of its sectors is moved, however many they are
abbrev pub long_refusal : Info → Asked → Option Refused
long_refusal info asked = sectors_refusal (2 ^ 64 - 1) asked.kind info asked.part asked.start asked.count

-- it begins where there is no reason
abbrev pub begins_by : Option Refused → Result Unit ℤ
begins_by None = Ok tt
begins_by (Some why) = Err (refused_number why)
