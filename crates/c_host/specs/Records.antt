-- The records that C is put, and how its answers are read (`c/kelifandro.c` has the other end). Numbers are little endian.
use Rattle.std.specs.Prelude.{◌∷◌, ◌++◌, ◌==◌, Bool, Err, List, None, Ok, Option, Result, Some, [], false, if◌then◌else◌, min, not, slice_index, take, true, ℕ}
use Rattle.std.specs.Int.{from_le_bytes, to_le_bytes, w16, w32, w64}
use Rattle.mmc_card.specs.CardAnswer.{bit}
use Rattle.mmc_card.specs.declared.exchange.DataIn.{DataIn}
use Rattle.mmc_card.specs.declared.exchange.DataIn.TheVariants as Received
use Rattle.mmc_card.specs.declared.exchange.DataOut.{DataOut}
use Rattle.mmc_card.specs.declared.exchange.DataOut.TheVariants as Sent
use Rattle.mmc_card.specs.declared.exchange.Timing.{Timing}
use Rattle.mmc_card.specs.declared.exchange.Timing.TheVariants.{Default, High}
use Rattle.mmc_card.specs.declared.exchange.Width.{Width}
use Rattle.mmc_card.specs.declared.exchange.Width.TheVariants.{Eight, Four, One}
use Rattle.mmc_bus.specs.declared.moved.Moved.{Moved}
use Rattle.mmc_bus.specs.declared.moved.Moved.TheVariants as Move
use Rattle.mmc_host.specs.declared.data.Data.{Data}
use Rattle.mmc_host.specs.declared.data.Data.TheVariants as After
use Rattle.mmc_card.specs.declared.response.Response.{Response}
use Rattle.mmc_card.specs.declared.response.Response.TheVariants as To
use Rattle.mmc_host.specs.declared.told.Heard.{Heard}
use Rattle.mmc_host.specs.declared.told.Heard.TheVariants as Came
use Rattle.mmc_host.specs.declared.told.HostCommand.{HostCommand}
use Rattle.mmc_host.specs.declared.told.Ios.{Ios}
use Rattle.mmc_host.specs.declared.told.ResponseFault.{ResponseFault}
use Rattle.mmc_host.specs.declared.told.ResponseFault.TheVariants.{Check, EndBit, Index, Timeout}

-- A command: `enum kelifandro_response`, `enum kelifandro_data`, the argument, the length of a block, and how many.

abbrev pub response_number : Response → ℕ
response_number To.Nothing = 0
response_number To.R1 = 1
response_number To.R1b = 2
response_number To.R2 = 3
response_number To.R3 = 4
response_number To.R6 = 5
response_number To.R7 = 6

abbrev pub data_number : Data → ℕ
data_number After.Nothing = 0
data_number (After.Read size blocks) = 1
data_number (After.Write blocks) = 2

abbrev pub length_number : Data → ℕ
length_number After.Nothing = 0
length_number (After.Read size blocks) = size
length_number (After.Write blocks) = 512

abbrev pub count_number : Data → ℕ
count_number After.Nothing = 0
count_number (After.Read size blocks) = blocks
count_number (After.Write blocks) = blocks

abbrev pub command_bytes : HostCommand → List ℕ
command_bytes command =
    command.index ∷ response_number command.response ∷ data_number command.transfer ∷ []
    ++ (to_le_bytes w32 command.argument ++ (to_le_bytes w16 (length_number command.transfer) ++ to_le_bytes w16 (count_number command.transfer)))

abbrev pub command_record : HostCommand → List ℕ
command_record command = 1 ∷ command_bytes command

-- The same with so many blocks after it, which C may move with the command: operation 10 reads them, 11 writes them.
abbrev pub with_record : ℕ → HostCommand → ℕ → List ℕ
with_record operation command count = operation ∷ (command_bytes command ++ take 2 (to_le_bytes w64 count))

-- Its answer, in six words: four, of a register bits 127 to 96 first, and otherwise the response in the first of them; two bytes and a byte for
-- blocks; and why no response was heard, 0 where one was.

abbrev pub fault_by : ℕ → ResponseFault
fault_by number = if number == 2 then Check else if number == 3 then EndBit else if number == 4 then Index else Timeout

-- the bytes at these places of an answer
abbrev pub at_places : List ℕ → List ℕ → List ℕ
at_places [] answer = []
at_places (place ∷ places) answer = slice_index answer place ∷ at_places places answer

-- bits 127 to 8 of a register, the highest byte first
abbrev pub register_in : List ℕ → List ℕ
register_in = at_places (3 ∷ 2 ∷ 1 ∷ 0 ∷ 7 ∷ 6 ∷ 5 ∷ 4 ∷ 11 ∷ 10 ∷ 9 ∷ 8 ∷ 15 ∷ 14 ∷ 13 ∷ [])

abbrev pub heard_in : Response → List ℕ → Heard
heard_in To.Nothing answer = Came.Nothing
heard_in To.R2 answer = Came.Register (register_in answer)
heard_in _ answer = Came.Word (from_le_bytes w32 (at_places (0 ∷ 1 ∷ 2 ∷ 3 ∷ []) answer))

abbrev pub fault_in : List ℕ → ℕ
fault_in answer = from_le_bytes w32 (at_places (20 ∷ 21 ∷ 22 ∷ 23 ∷ []) answer)

abbrev pub heard_by : Response → List ℕ → Result Heard ResponseFault
heard_by response answer =
    if fault_in answer == 0 then Ok (heard_in response answer) else Err (fault_by (fault_in answer))

-- And where C was to move blocks with the command: how many were good, and what became of one that failed, 0 where none did.

abbrev pub good_by : List ℕ → ℕ
good_by answer = from_le_bytes w16 (at_places (16 ∷ 17 ∷ []) answer)

abbrev pub failed_by : ℕ → Option DataIn
failed_by number = if number == 0 then None else if number == 1 then Some Received.Bad else Some Received.Nothing

abbrev pub refused_by : ℕ → Option DataOut
refused_by number = if number == 0 then None else if number == 1 then Some Sent.Rejected else Some Sent.Nothing

-- Where one failed it isn't used how many were good.
abbrev pub moved_by : {T : Type 0} → Option T → ℕ → ℕ → Moved T
moved_by None good count = Move.Good (min good count)
moved_by (Some got) good count = if count == 0 then Move.Good 0 else Move.Failed got

abbrev pub read_by : List ℕ → ℕ → Moved DataIn
read_by answer count = moved_by (failed_by (slice_index answer 18)) (good_by answer) count

-- none is written where no word was heard
abbrev pub is_word : Result Heard ResponseFault → Bool
is_word (Ok (Came.Word word)) = true
is_word _ = false

abbrev pub written_by : Result Heard ResponseFault → List ℕ → ℕ → Moved DataOut
written_by heard answer count =
    if is_word heard then moved_by (refused_by (slice_index answer 18)) (good_by answer) count else Move.Good 0

-- C may have written to so many places: to all where a block failed.
abbrev pub touched_by : Moved DataIn → ℕ → ℕ
touched_by (Move.Good good) count = good
touched_by (Move.Failed got) count = count

-- A block that is read: a good one comes whole, a bad one as fewer bytes.
abbrev pub block_by : ℕ → ℕ → DataIn
block_by size count = if count == size then Received.Good else if count == 0 then Received.Nothing else Received.Bad

-- A block that is written: 0 accepted, 1 rejected.
abbrev pub status_number : ℕ → DataOut
status_number status = if status == 0 then Sent.Accepted else if status == 1 then Sent.Rejected else Sent.Nothing

abbrev pub status_by : List ℕ → DataOut
status_by answer = status_number (from_le_bytes w32 answer)

abbrev pub look_record : ℕ → List ℕ
look_record micros = 4 ∷ to_le_bytes w32 micros

abbrev pub is_busy_by : List ℕ → Bool
is_busy_by answer = not (from_le_bytes w32 answer == 0)

abbrev pub pause_record : ℕ → List ℕ
pause_record micros = 6 ∷ to_le_bytes w32 micros

-- it is waited for one of these bits of Interrupt Status, or so many microseconds
abbrev pub wait_record : ℕ → ℕ → List ℕ
wait_record interrupts micros = 19 ∷ (to_le_bytes w32 interrupts ++ to_le_bytes w32 micros)

-- the card's power is switched
abbrev pub power_record : Bool → List ℕ
power_record is_on = 7 ∷ bit is_on ∷ []

-- the memory of what follows lies so many sectors further on
abbrev pub after_record : ℕ → List ℕ
after_record count = 12 ∷ to_le_bytes w32 count

abbrev pub lines_number : Width → ℕ
lines_number One = 1
lines_number Four = 4
lines_number Eight = 8

abbrev pub timing_number : Timing → ℕ
timing_number Default = 0
timing_number High = 1

-- the fastest clock in hertz
abbrev pub clock_at : Timing → ℕ
clock_at Default = 25000000
clock_at High = 50000000

abbrev pub clock_number : Ios → ℕ
clock_number ios = if ios.is_identifying then 400000 else clock_at ios.timing

abbrev pub ios_record : Ios → List ℕ
ios_record ios = 5 ∷ lines_number ios.width ∷ timing_number ios.timing ∷ to_le_bytes w32 (clock_number ios)
