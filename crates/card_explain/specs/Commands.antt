-- Commands in words (SD Physical Layer 6.00, section 4.7.4; JESD84-B51, section 6.10.4).
use Rattle.std.specs.Prelude.{ℕ, Bool, true, false, List, ◌++◌, codes}
use Rattle.std.specs.Fmt.{decimal}
use Rattle.mmc_card.specs.CommandRows.{Row, index_for, row_of}
use Rattle.mmc_card.specs.declared.command.Command.{Command}
use Rattle.mmc_card.specs.declared.command.Command.TheVariants.{Unknown}
use Rattle.mmc_frame.specs.declared.kind.Kind.{Kind}
use Rattle.mmc_frame.specs.declared.kind.Kind.TheVariants.{Mmc, Sd}

-- what stands in front of the number of a command
abbrev pub prefix : Bool → List ℕ
prefix true = codes "ACMD"
prefix false = codes "CMD"

-- its name for this kind of card
abbrev pub name_for : Kind → Row → List ℕ
name_for Sd row = row.name
name_for Mmc row = row.mmc_name

-- the number and the name of a command
unfoldable pub row_words : Kind → Row → List ℕ
row_words kind row = prefix row.is_app ++ (decimal (index_for kind row) ++ (codes " " ++ name_for kind row))

-- of an unknown one its number alone, which is the index in its frame
unfoldable pub command_words : Kind → Command → Bool → ℕ → List ℕ
command_words kind Unknown is_app index = prefix is_app ++ decimal index
command_words kind command is_app index = row_words kind (row_of command)
