-- Headline (docs/AUDIT.md, "What to read").
-- When a request is refused, by what is known of the card. The rules are the project's own.
use Rattle.std.specs.Prelude.{◌&&◌, ◌+◌, ◌==◌, Bool, None, Option, Some, if◌then◌else◌, nat_lt, not, ℕ}
use Rattle.mmc_card.specs.Sectors.{is_boot}
use Rattle.mmc_card.specs.declared.part.Part.{Part}
use Rattle.mmc_erase.specs.Job.{suits}
use Rattle.mmc_erase.specs.declared.how.How.TheVariants as how
use Rattle.mmc_switch.specs.Info.{sectors_of}
use Rattle.mmc_switch.specs.Sizes.{size_of}
use Rattle.mmc_switch.specs.declared.info.Info.{Info}
use Rattle.mmc_requests.specs.Kinds.{is_read, moves_blocks}
use Rattle.mmc_requests.specs.declared.kind.Kind.{Kind}
use Rattle.mmc_requests.specs.declared.kind.Kind.TheVariants.{Erase, Read, Trim, Write}
use Rattle.mmc_requests.specs.declared.refused.Refused.{Refused}
use Rattle.mmc_requests.specs.declared.refused.Refused.TheVariants.{Empty, NoSuchPartition, NoTrim, NotInPartition}
use Rattle.mmc_requests.specs.declared.refused.Refused.TheVariants.{OutOfRange, ReadOnly, TooLong, Unaligned}

-- the first reason of two
abbrev pub first_of : {A : Type 0} → Option A → Option A → Option A
first_of (Some reason) later = Some reason
first_of None later = later

-- Whether the sectors are there.

-- why they aren't in a partition of this size, if there is such a partition, where so many blocks may be moved
abbrev pub refusal_within : ℕ → Kind → ℕ → ℕ → Option ℕ → Option Refused
refusal_within most kind start count None = Some NoSuchPartition
refusal_within most kind start count (Some sectors) =
    if count == 0 then Some Empty
    else if moves_blocks kind && nat_lt most count then Some TooLong
    else if nat_lt sectors (start + count) then Some OutOfRange
    else None

-- why so many sectors of a partition, from this one on, aren't there
abbrev pub sectors_refusal : ℕ → Kind → Info → Part → ℕ → ℕ → Option Refused
sectors_refusal most kind info part start count = refusal_within most kind start count (sectors_of info part)

-- Whether they may be changed.

-- an erase or trim is refused in a boot partition, or otherwise where it may not be
abbrev pub refused_unless : Bool → Part → Refused → Option Refused
refused_unless may part otherwise =
    if is_boot part then Some NotInPartition else if may then None else Some otherwise

-- why no erase or trim may be
abbrev pub erase_refusal : Kind → Info → Part → ℕ → ℕ → Option Refused
erase_refusal Read info part start count = None
erase_refusal Write info part start count = None
erase_refusal Erase info part start count =
    refused_unless (suits how.Erase info (size_of info.sizes part) start count) part Unaligned
erase_refusal Trim info part start count =
    refused_unless (suits how.Trim info (size_of info.sizes part) start count) part NoTrim

-- why these sectors may not be changed
abbrev pub change_refusal : Kind → Info → Part → ℕ → ℕ → Option Refused
change_refusal kind info part start count =
    if info.read_only && not (is_read kind) then Some ReadOnly else erase_refusal kind info part start count
