-- What a request of the client comes to at an export.
use Rattle.std.specs.Prelude.{List, None, Option, Some, false, true, ◌*◌, ◌+◌, ◌<◌, ◌≡◌, ◌≤◌, ◌⊎◌, length, ℕ}
use Rattle.mmc_card.specs.declared.part.Part.{Part}
use Rattle.mmc_queue.specs.declared.request.Request.{Request}
use Rattle.mmc_queue.specs.declared.request.Request.TheVariants as Asks
use Rattle.nbd_messages.specs.declared.command.Command.{Command}
use Rattle.nbd_messages.specs.declared.command.Command.TheVariants.{Flush, Read, Trim, Write, WriteZeroes}
use Rattle.nbd_messages.specs.declared.error.ReplyError.{ReplyError}
use Rattle.nbd_messages.specs.declared.error.ReplyError.TheVariants.{Invalid, NoMemory, NotPermitted, NotSupported}
use Rattle.nbd_messages.specs.declared.request.RequestHeader.{RequestHeader}
use Rattle.nbd_server.specs.declared.export.Export.{Export}
use Rattle.nbd_server.specs.declared.input.TheConstants.{MAX_LENGTH}
use Rattle.nbd_server.specs.declared.plan.Plan.{Plan}
use Rattle.nbd_server.specs.declared.plan.Plan.TheVariants.{Answer, Ask, ReadLong, WriteLong}
use Rattle.nbd_server.specs.declared.plan.Plan.TheVariants as Comes
use Rattle.nbd_server.specs.declared.span.Span.{Span}

-- The bytes that a header names are these sectors of the export.
pub record Names (export : Export) (header : RequestHeader) (span : Span) : Type 0 where
  pub offset : header.offset ≡ 512 * span.start
  pub length : header.length ≡ 512 * span.count
  pub some : 1 ≤ span.count
  pub inside : span.start + span.count ≤ export.sectors

-- these are the sectors of the span
abbrev pub Are : Export → Span → Part → ℕ → ℕ → Type 0
Are export span part start count = (part ≡ export.part) × (start ≡ span.start) × (count ≡ span.count)

-- what the device is asked for: an erase may leave out sectors at both ends
abbrev pub IsAsked : Export → Command → Span → Option (List ℕ) → Request → Type 0
IsAsked export command span given (Asks.Read part start count) = (command ≡ Read) × Are export span part start count
IsAsked export command span given (Asks.Write part start count bytes) =
    (command ≡ Write) × (given ≡ Some bytes) × (export.can.read_only ≡ false) × Are export span part start count
IsAsked export command span given (Asks.Trim part start count) =
    ((command ≡ Trim) ⊎ (command ≡ WriteZeroes) × (export.can.zeroes ≡ true)) × Are export span part start count
IsAsked export command span given (Asks.Erase part start count) =
    (command ≡ Trim) × (part ≡ export.part) × (span.start ≤ start) × (start + count ≤ span.start + span.count)

-- why the device isn't asked
abbrev pub IsAnswered : Export → Command → Option (List ℕ) → Option ReplyError → Type 0
IsAnswered export command given None = command ≡ Trim
IsAnswered export command given (Some NotPermitted) = export.can.read_only ≡ true
IsAnswered export command given (Some NotSupported) =
    ((command ≡ Trim) × (export.can.trims ≡ false)) ⊎ ((command ≡ WriteZeroes) × (export.can.zeroes ≡ false))
IsAnswered export command given (Some NoMemory) = given ≡ None
IsAnswered export command given (Some error) = ⊥

-- what a command for these sectors comes to, with the data of a write
abbrev pub IsPlanFor : Export → Command → Span → Option (List ℕ) → Plan → Type 0
IsPlanFor export command span given (Ask request) = IsAsked export command span given request
IsPlanFor export command span given (Answer error) = IsAnswered export command given error
IsPlanFor export command span given (ReadLong all) = (command ≡ Read) × (all ≡ span)
IsPlanFor export command span given (WriteLong all bytes) =
    (command ≡ Write) × (given ≡ Some bytes) × (export.can.read_only ≡ false) × (all ≡ span)
IsPlanFor export command span given Comes.Flush = ⊥

-- a long write has all bytes of its sectors
abbrev pub HasAll : Plan → Type 0
HasAll (WriteLong span bytes) = length bytes ≡ 512 * span.count
HasAll plan = Unit {0}

-- a command that isn't known, bytes that are too many, or that aren't whole sectors of the export
abbrev pub IsInvalid : Export → RequestHeader → Type 0
IsInvalid export header =
    (header.command ≡ None) ⊎ (MAX_LENGTH < header.length) ⊎ ((span : Span) → Names export header span → ⊥)

-- what a request comes to
abbrev pub IsPlan : Export → RequestHeader → Option (List ℕ) → Plan → Type 0
IsPlan export header given plan =
    ((header.command ≡ Some Flush) × (plan ≡ Comes.Flush))
    ⊎ (IsInvalid export header × (plan ≡ Answer (Some Invalid)))
    ⊎ ((command : Command) × (span : Span) × (header.command ≡ Some command) × Names export header span
    × IsPlanFor export command span given plan)
