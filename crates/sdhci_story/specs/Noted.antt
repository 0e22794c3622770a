-- What a note says.
use Rattle.sdhci_story.specs.declared.diary.Note.{Note}
use Rattle.sdhci_story.specs.declared.diary.Note.TheVariants as Did
use Rattle.sdhci_story.specs.Access.{Access, BlocksLent, Misused, Pause, PlaceTaken, PlacesTaken, PortRead, PortWritten, Read32, Read8}
use Rattle.sdhci_story.specs.Access.{RoomLent, TableLent, TakenBack, Wait, Write32, Write8}

abbrev pub access_of : Note → Access
access_of (Did.Read32 offset value) = Read32 offset value
access_of (Did.Write32 offset value) = Write32 offset value
access_of (Did.Read8 offset value) = Read8 offset value
access_of (Did.Write8 offset value) = Write8 offset value
access_of (Did.PortRead block) = PortRead block.now
access_of (Did.PortWritten block) = PortWritten block.now
access_of (Did.RoomLent count place) = RoomLent count place
access_of (Did.BlocksLent blocks place) = BlocksLent blocks.now.blocks place
access_of (Did.TableLent is_wide place) = TableLent is_wide place
access_of (Did.PlaceTaken index block) = PlaceTaken index block.now
access_of (Did.PlacesTaken first bytes) = PlacesTaken first bytes.now
access_of Did.TakenBack = TakenBack
access_of (Did.Pause micros) = Pause micros
access_of (Did.Wait interrupts micros) = Wait interrupts micros
access_of Did.Misused = Misused
