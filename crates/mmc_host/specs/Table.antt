-- What a controller is told of a command, by its row (SD Physical Layer 6.00, sections 4.7.4 and 4.9; JESD84-B51, sections
-- 6.10.4 and 6.12).
use Rattle.std.specs.Prelude.{◌==◌, ◌||◌, Bool, if◌then◌else◌, ℕ}
use Rattle.mmc_frame.specs.declared.commands.TheConstants as Index
use Rattle.mmc_card.specs.CommandRows.{row_of}
use Rattle.mmc_card.specs.declared.command.Command.{Command}
use Rattle.mmc_card.specs.declared.command_row.Carried.{Carried}
use Rattle.mmc_card.specs.declared.command_row.Carried.TheVariants as Carries
use Rattle.mmc_card.specs.declared.response.Response.{Response}
use Rattle.mmc_host.specs.declared.data.Data.{Data}

abbrev pub response_of : Command → Response
response_of command = (row_of command).response

-- as many blocks as are preset, and where that is 0, which is none, as many as will be moved
abbrev pub blocks_of : ℕ → ℕ → ℕ
blocks_of count moved = if count == 0 then moved else count

-- CMD18 and CMD25
abbrev pub moves_several : ℕ → Bool
moves_several index = (index == Index.READ_MULTIPLE_BLOCK) || (index == Index.WRITE_MULTIPLE_BLOCK)

abbrev pub carried : Carried → ℕ → ℕ → Data
carried Carries.Nothing count moved = Data.Nothing
carried (Carries.ReadOne length) count moved = Data.Read length 1
carried Carries.ReadSeveral count moved = Data.Read 512 (blocks_of count moved)
carried Carries.WriteOne count moved = Data.Write 1
carried Carries.WriteSeveral count moved = Data.Write (blocks_of count moved)

abbrev pub data_of : Command → ℕ → ℕ → Data
data_of command count moved = carried (row_of command).carries count moved
