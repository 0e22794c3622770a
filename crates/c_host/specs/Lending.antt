-- What C is told of memory that is lent to its controller, and how its answers are read: the talk after it, by the talk before.
use Rattle.std.specs.Int.{from_le_bytes, to_le_bytes, w16, w64}
use Rattle.std.specs.Prelude.{◌%◌, ◌&&◌, ◌*◌, ◌+◌, ◌++◌, ◌==◌, ◌^◌, ◌||◌, ◌∷◌, ◌≡◌, [], Bool, List, None, Option, Some}
use Rattle.std.specs.Prelude.{false, if◌then◌else◌, nat_le, not, suc, take, true, zero, ℕ}
use Rattle.mmc_card.specs.CardAnswer.{bit}
use Rattle.mmc_sdhci.specs.Tables.{line_at, lines_for}
use Rattle.mmc_sdhci.specs.declared.tables.Table.{Table}
use Rattle.c_host.specs.Talk.{Talk, last_count}
use Rattle.c_host.specs.Talk.Talk.{Asked, Came, Told}
use Rattle.c_host.specs.declared.lending.Lent.{Lent}
use Rattle.c_host.specs.declared.registers.CRegisters.{CRegisters}

-- Memory for so many blocks is wanted, to be written to or read.
abbrev pub lending_record : Bool → ℕ → List ℕ
lending_record is_room count = 14 ∷ bit is_room ∷ take 2 (to_le_bytes w64 count)

-- What was lent is taken back: so many blocks, and so many bytes of a table.
abbrev pub back_record : Lent → List ℕ
back_record lent = 17 ∷ bit lent.is_room ∷ (lent.count ++ to_le_bytes w16 lent.table)

abbrev pub taken_back : Option Lent → List Talk → List Talk
taken_back None past = past
taken_back (Some lent) past = Told (back_record lent) ∷ past

-- The bus address of the memory is what came, unless that is 0, no multiple of 4 or the blocks don't lie within 64 bits from there on.
abbrev pub lent_at : ℕ → ℕ → Option ℕ
lent_at address count =
    if (address == 0) || (not (address % 4 == 0) || nat_le (2 ^ 64) (address + 512 * count)) then None else Some address

abbrev pub lent_by : ℕ → Bool → ℕ → Option Lent
lent_by address is_room count =
    if address == 0 then None else Some (record { is_room = is_room; count = take 2 (to_le_bytes w64 count); table = 0 })

-- What can't be used is taken back at once.
abbrev pub after_lending : Bool → ℕ → ℕ → Option ℕ → List Talk → List Talk
after_lending is_room count address None past = taken_back (lent_by address is_room count) past
after_lending is_room count address (Some place) past = past

abbrev pub lent_after : Bool → ℕ → ℕ → Option ℕ → Option Lent
lent_after is_room count address None = None
lent_after is_room count address (Some place) = lent_by address is_room count

-- The lines of a table are told, one after the other.
abbrev pub with_lines : Table → ℕ → List Talk → List Talk
with_lines table zero past = past
with_lines table (suc i) past =
    Told (line_at table.is_wide table.start table.size i) ∷ with_lines table i past

abbrev pub line_size : Bool → ℕ
line_size false = 8
line_size true = 12

abbrev pub size_of_table : Table → ℕ
size_of_table table = line_size table.is_wide * lines_for table.size

-- with a table, where there is an address of it
abbrev pub with_table : ℕ → ℕ → Option Lent → Option Lent
with_table address size None = None
with_table address size (Some lent) = Some (if address == 0 then lent else record lent { table = size })

-- Its bus address is what came, unless that is 0, no multiple of 8 or, of a table of addresses of 32 bits, beyond those.
abbrev pub table_at : Bool → ℕ → Option ℕ
table_at is_wide address =
    if (address == 0) || (not (address % 8 == 0) || (not is_wide && nat_le (2 ^ 32) address)) then None else Some address

abbrev pub either : Bool → Type 0 → Type 0 → Type 0
either true A B = A
either false A B = B

-- C was asked for memory, after what was lent before was taken back, and this is its place.
abbrev pub Asks : Bool → ℕ → CRegisters → Option ℕ → CRegisters → Type 0
Asks is_room count old place new =
    (answer : List ℕ)
    × (let address = from_le_bytes w64 answer in
    (place ≡ lent_at address count)
    × (new.stream.diary.past ≡ after_lending is_room count address place
    (Asked (lending_record is_room count) answer ∷ taken_back old.lent old.stream.diary.past))
    × (new.lent ≡ lent_after is_room count address place))

-- There is none, and nothing is asked, where C lends none.
abbrev pub TellsLending : Bool → ℕ → CRegisters → Option ℕ → CRegisters → Type 0
TellsLending is_room count old place new =
    either old.lends (Asks is_room count old place new) ((place ≡ None) × (new ≡ old))

-- A table that has room is told, and its place is what came; it is taken back with the blocks.
abbrev pub AsksForTable : Table → CRegisters → Option ℕ → CRegisters → Type 0
AsksForTable table old place new =
    (answer : List ℕ)
    × (let address = from_le_bytes w64 answer in
    (place ≡ table_at table.is_wide address)
    × (new.stream.diary.past ≡ Asked (18 ∷ []) answer ∷ with_lines table (lines_for table.size) old.stream.diary.past)
    × (new.lent ≡ with_table address (size_of_table table) old.lent))

abbrev pub TellsTable : Table → CRegisters → Option ℕ → CRegisters → Type 0
TellsTable table old place new =
    either (nat_le (size_of_table table) old.room) (AsksForTable table old place new) ((place ≡ None) × (new ≡ old))

-- Blocks have come into their places: what was lent is taken back first.
abbrev pub TellsTaking : List ℕ → CRegisters → CRegisters → Type 0
TellsTaking bytes old new =
    (let past = new.stream.diary.past in past ≡ Came (last_count past) bytes ∷ taken_back old.lent old.stream.diary.past)
    × (new.lent ≡ None)
