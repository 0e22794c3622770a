-- What a note says.
use Rattle.c_host.specs.declared.diary.Call.{Call}
use Rattle.c_host.specs.declared.diary.Call.TheVariants.{Ask, Take, Tell}
use Rattle.c_host.specs.declared.diary.Note.{Note}
use Rattle.c_host.specs.Talk.{Talk}
use Rattle.c_host.specs.Talk.Talk.{Asked, Came, Told}

abbrev pub talk_by : Call → Talk
talk_by (Tell put) = Told put.now
talk_by (Ask put answer) = Asked put.now answer.now
talk_by (Take count bytes) = Came count bytes.now

abbrev pub talk_of : Note → Talk
talk_of note = talk_by note.call
