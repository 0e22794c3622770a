-- What R6 and R7 carry in their arguments (SD Physical Layer 6.00, sections 4.9.5 and 4.9.6).
use Rattle.std.specs.Prelude.{ℕ, ◌+◌, ◌*◌, ◌^◌, List, Result, Ok, Err}
use Rattle.mmc_frame.specs.Field.{field}
use Rattle.mmc_frame.specs.Frame.{response_in}
use Rattle.mmc_frame.specs.declared.fault.FrameFault.{FrameFault}
use Rattle.mmc_frame.specs.declared.response.R6.{R6}
use Rattle.mmc_frame.specs.declared.response.R7.{R7}

-- the argument of a response, read as a record
abbrev pub read_as : {X : Type 0} → (ℕ → X) → Result ℕ FrameFault → Result X FrameFault
read_as fields (Ok argument) = Ok (fields argument)
read_as fields (Err fault) = Err fault

-- bits 23, 22, 19 and 12 to 0 of the card status stand in bits 15, 14, 13 and 12 to 0; the others are 0
abbrev pub status_in_r6 : ℕ → ℕ
status_in_r6 argument = field 15 14 argument * 2 ^ 22 + field 13 13 argument * 2 ^ 19 + field 12 0 argument

-- the RCA that the card has published, and what it shows of its status
abbrev pub r6_fields : ℕ → R6
r6_fields argument = record { rca = field 31 16 argument; status = status_in_r6 argument }

-- an R6 answers CMD3
abbrev pub r6_in : List ℕ → Result R6 FrameFault
r6_in frame = read_as r6_fields (response_in frame 3)

-- the voltage that the card accepts and the check pattern that it echoes; the other bits aren't judged
abbrev pub r7_fields : ℕ → R7
r7_fields argument = record { voltage = field 11 8 argument; pattern = field 7 0 argument }

-- an R7 answers CMD8
abbrev pub r7_in : List ℕ → Result R7 FrameFault
r7_in frame = read_as r7_fields (response_in frame 8)
