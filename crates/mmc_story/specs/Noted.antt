-- What a note says.
use Rattle.mmc_story.specs.declared.diary.Call.{Call}
use Rattle.mmc_story.specs.declared.diary.Call.TheVariants.{Look, ReadBlock, Send, WriteBlock}
use Rattle.mmc_story.specs.declared.diary.Call.TheVariants as Did
use Rattle.mmc_story.specs.declared.diary.Note.{Note}
use Rattle.mmc_story.specs.Entry.{Entry, Event}
use Rattle.mmc_story.specs.Entry.Event.{Looked, Misused, Read, ReadWith, Sent, Written, WrittenWith}

abbrev pub event_of : Call → Event
event_of (Send command heard) = Sent command heard
event_of (ReadBlock size got block) = Read size got block.now
event_of (WriteBlock block got) = Written block.now got
event_of (Look is_busy) = Looked is_busy
event_of (Did.ReadWith command heard moved places) = ReadWith command heard moved places.now.blocks
event_of (Did.WriteWith command heard offered moved) = WrittenWith command heard offered.now.blocks moved
event_of Did.Misused = Misused

abbrev pub entry_of : Note → Entry
entry_of note = record { told = note.told.now.state; limits = note.limits; event = event_of note.call }
