-- A request of C: what it asks for, and what comes of it.
use Rattle.std.specs.Prelude.{◌-◌, ◌<◌, ◌==◌, ◌≡◌, [], List, false, if◌then◌else◌, length, nat_le, slice_index_or, true, ℕ}
use Rattle.mmc_card.specs.Sectors.{AreRead, Change, Sector, Sets}
use Rattle.mmc_card.specs.declared.part.Part.{Part}
use Rattle.mmc_direct.specs.Asked.{asked_at}
use Rattle.mmc_requests.specs.declared.asked.Asked.{Asked}
use Rattle.mmc_queue.specs.declared.extent.Extent.{Extent}
use Rattle.mmc_requests.specs.Changes.{change_by}
use Rattle.mmc_requests.specs.Kinds.{is_read, moves_blocks}
use Rattle.mmc_requests.specs.declared.kind.Kind.{Kind}
use Rattle.mmc_requests.specs.declared.kind.Kind.TheVariants.{Erase, Read, Trim, Write}
use Rattle.mmc_requests.specs.declared.limits.TheConstants.{ATTEMPTS, ATTEMPTS_OF_A_GROUP}
use Rattle.mmc_switch.specs.declared.info.Info.{Info}
use Rattle.kelifandro.specs.declared.asked.AskedRecord.{AskedRecord}
use Rattle.kelifandro.specs.declared.asked.Wanted.{Wanted}
use Rattle.kelifandro.specs.declared.request.CRequest.{CRequest}

-- what is done with the sectors, by its number
abbrev pub kind_with : ℕ → Kind
kind_with number = if number == 0 then Read else (if number == 1 then Write else (if number == 2 then Erase else Trim))

-- how many sectors are named: as many as there are blocks, where these move
abbrev pub sectors_by : Kind → ℕ → List Sector → ℕ
sectors_by kind count blocks = if moves_blocks kind then length blocks else count

-- what a record names, of this partition
abbrev pub named_by : AskedRecord → Part → Asked
named_by request part = asked_at (kind_with request.kind) part request.start request.count

-- how many attempts this number is
abbrev pub attempts_by : ℕ → ℕ
attempts_by number = if number == 0 then ATTEMPTS else number

-- what a record wants, of this partition
abbrev pub wanted_by : AskedRecord → Part → Wanted
wanted_by request part = record { asked = named_by request part; attempts = request.attempts }

-- what is asked for with these sectors, which some requests are together
abbrev pub asked_by : Extent → Asked
asked_by extent = asked_at extent.kind extent.part extent.start (extent.end - extent.start)

-- several that are served together have two attempts, one alone as many as its client's card
abbrev pub attempts_for : Extent → ℕ
attempts_for extent = if nat_le extent.members 1 then 0 else ATTEMPTS_OF_A_GROUP

-- what is asked for with this memory
abbrev pub asked_with : Asked → List Sector → Asked
asked_with asked blocks = record asked { count = sectors_by asked.kind asked.count blocks }

-- what a request asks for
abbrev pub asked_of : CRequest → Asked
asked_of request =
    asked_at request.kind request.part request.start (sectors_by request.kind request.count request.blocks.now)

-- what it changes
abbrev pub change_of : Info → CRequest → Change
change_of info request =
    change_by request.kind info request.part request.start request.count request.blocks.now

-- Runs of a request leave what it asks for, and its memory; what that holds too where it doesn't read.
pub record Leaves (old new : CRequest) : Type 0 where
  pub kind : new.kind ≡ old.kind
  pub part : new.part ≡ old.part
  pub start : new.start ≡ old.start
  pub count : new.count ≡ old.count
  pub memory : new.blocks.ghost_name ≡ old.blocks.ghost_name
  pub length : length new.blocks.now ≡ length old.blocks.now
  pub kept : is_read old.kind ≡ false → new.blocks.now ≡ old.blocks.now

-- a read that is done has what the sectors may hold
abbrev pub HasBlocks : Sets → CRequest → Type 0
HasBlocks sets request = is_read request.kind ≡ true → AreRead sets request.part request.start request.blocks.now

-- each of these has 512 bytes
abbrev pub AreWhole : List Sector → Type 0
AreWhole sectors = (i : ℕ) → i < length sectors → length (slice_index_or sectors i []) ≡ 512
