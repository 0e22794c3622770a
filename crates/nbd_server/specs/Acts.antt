-- What is done at a desk with the requests of a client, act by act: what each writes, and which event of the sector machine it is.
use Rattle.std.specs.Prelude.{Err, List, None, Ok, Option, Result, Some, [], ◌++◌, ◌+◌, ◌==◌, ◌∷◌, if◌then◌else◌, get_or, length, map, ℕ}
use Rattle.std.specs.List.{All}
use Rattle.mmc_block.specs.Execution.{Event, Reply}
use Rattle.mmc_block.specs.Execution.Event.{Submit, Turn}
use Rattle.mmc_block.specs.Execution.Reply.{Accepted, Answers, RefusedFor}
use Rattle.mmc_block.specs.declared.completion.Answer.{Answer}
use Rattle.mmc_block.specs.declared.completion.Answer.TheVariants.{Data, Done, Failed}
use Rattle.mmc_block.specs.declared.completion.Completion.{Completion}
use Rattle.mmc_block.specs.declared.refused.Refused.{Refused}
use Rattle.mmc_block.specs.declared.refused.Refused.TheVariants as Why
use Rattle.mmc_queue.specs.declared.request.Request.{Request}
use Rattle.nbd_messages.specs.Replies.{reply_header}
use Rattle.nbd_messages.specs.declared.error.ReplyError.{ReplyError}
use Rattle.nbd_messages.specs.declared.error.ReplyError.TheVariants as Error

pub data Act : Type 0 where
  -- a request that came under this cookie is submitted, and the device replies
  Asks : ℕ → Request → Reply → Act
  -- a turn of the device, whose answers are replies to the client
  Turns : List Completion → Act
  -- the client is answered without the device
  Says : ℕ → Option ReplyError → Act
  -- nothing is without an answer: clients are numbered anew
  Clears : Act
  -- a part of a long request is submitted, and the device replies
  AsksPart : Request → Reply → Act
  -- a turn of the device, whose answers are kept
  Gathers : List Completion → Act
  -- a long read is answered with these bytes
  Gives : ℕ → List ℕ → Act

-- it is of the parts of a long request: nothing is written
abbrev pub IsOfParts : Act → Type 0
IsOfParts (AsksPart request reply) = Unit {0}
IsOfParts (Gathers given) = Unit {0}
IsOfParts Clears = Unit {0}
IsOfParts act = ⊥

abbrev pub AreOfParts : List Act → Type 0
AreOfParts acts = All IsOfParts acts

-- a turn, or clients are numbered anew: nothing is taken up
abbrev pub IsOfTurns : Act → Type 0
IsOfTurns (Turns given) = Unit {0}
IsOfTurns Clears = Unit {0}
IsOfTurns act = ⊥

abbrev pub AreTurns : List Act → Type 0
AreTurns acts = All IsOfTurns acts

-- Cookies.

-- the cookie of the client with this number
abbrev pub cookie_under : List ℕ → ℕ → ℕ
cookie_under cookies client = get_or cookies client 0

-- the cookies by number, after an act: who is accepted is the next, with 0 for a part, to which nothing is replied
abbrev pub cookies_with : List ℕ → Act → List ℕ
cookies_with cookies (Asks cookie request (Accepted ticket)) = cookies ++ cookie ∷ []
cookies_with cookies (AsksPart request (Accepted ticket)) = cookies ++ 0 ∷ []
cookies_with cookies Clears = []
cookies_with cookies act = cookies

-- and after all of these
unfoldable pub cookies_after : List ℕ → List Act → List ℕ
cookies_after cookies [] = cookies
cookies_after cookies (act ∷ acts) = cookies_after (cookies_with cookies act) acts

-- the cookies of these answers
abbrev pub cookies_of : List ℕ → List Completion → List ℕ
cookies_of cookies given = map (λ (c : Completion). cookie_under cookies c.client) given

-- the cookies of the requests that an act takes up
abbrev pub asked_by : Act → List ℕ
asked_by (Asks cookie request reply) = cookie ∷ []
asked_by (Says cookie error) = cookie ∷ []
asked_by (Gives cookie bytes) = cookie ∷ []
asked_by act = []

-- and of those that it replies to
abbrev pub answered_by : List ℕ → Act → List ℕ
answered_by cookies (Asks cookie request (RefusedFor why)) = cookie ∷ []
answered_by cookies (Turns given) = cookies_of cookies given
answered_by cookies (Says cookie error) = cookie ∷ []
answered_by cookies (Gives cookie bytes) = cookie ∷ []
answered_by cookies act = []

unfoldable pub asked : List Act → List ℕ
asked [] = []
asked (act ∷ acts) = asked_by act ++ asked acts

unfoldable pub answered : List ℕ → List Act → List ℕ
answered cookies [] = []
answered cookies (act ∷ acts) = answered_by cookies act ++ answered (cookies_with cookies act) acts

-- how often this cookie is among these
unfoldable pub times : ℕ → List ℕ → ℕ
times cookie [] = 0
times cookie (c ∷ cs) = (if c == cookie then 1 else 0) + times cookie cs

-- Replies.

-- why a request that the device refuses isn't carried out
abbrev pub error_of : Refused → ReplyError
error_of Why.ReadOnly = Error.NotPermitted
error_of Why.NotInPartition = Error.NotSupported
error_of Why.NoTrim = Error.NotSupported
error_of Why.Full = Error.NoMemory
error_of Why.NoMemory = Error.NoMemory
error_of why = Error.Invalid

-- the reply that an answer of the device is
abbrev pub answer_bytes : ℕ → Answer → List ℕ
answer_bytes cookie Done = reply_header None cookie
answer_bytes cookie (Data bytes) = reply_header None cookie ++ bytes
answer_bytes cookie (Failed cause) = reply_header (Some Error.Failed) cookie

-- the replies that these are, each under its cookie
abbrev pub answers_bytes : List ℕ → List Completion → List ℕ
answers_bytes cookies [] = []
answers_bytes cookies (c ∷ given) =
    answer_bytes (cookie_under cookies c.client) c.answer ++ answers_bytes cookies given

-- what an act writes
abbrev pub bytes_by : List ℕ → Act → List ℕ
bytes_by cookies (Asks cookie request (RefusedFor why)) = reply_header (Some (error_of why)) cookie
bytes_by cookies (Turns given) = answers_bytes cookies given
bytes_by cookies (Says cookie error) = reply_header error cookie
bytes_by cookies (Gives cookie bytes) = reply_header None cookie ++ bytes
bytes_by cookies act = []

unfoldable pub bytes_of : List ℕ → List Act → List ℕ
bytes_of cookies [] = []
bytes_of cookies (act ∷ acts) = bytes_by cookies act ++ bytes_of (cookies_with cookies act) acts

-- The sector machine.

-- what the device replies to a submission
abbrev pub reply_to : Result ℕ Refused → Reply
reply_to (Ok ticket) = Accepted ticket
reply_to (Err why) = RefusedFor why

-- the event that an act is, if it is one
abbrev pub event_by : List ℕ → Act → List Event
event_by cookies (Asks cookie request reply) = Submit (length cookies) request ∷ []
event_by cookies (AsksPart request reply) = Submit (length cookies) request ∷ []
event_by cookies (Turns given) = Turn ∷ []
event_by cookies (Gathers given) = Turn ∷ []
event_by cookies act = []

-- and the machine's reply
abbrev pub reply_by : Act → List Reply
reply_by (Asks cookie request reply) = reply ∷ []
reply_by (AsksPart request reply) = reply ∷ []
reply_by (Turns given) = Answers given ∷ []
reply_by (Gathers given) = Answers given ∷ []
reply_by act = []

unfoldable pub events_of : List ℕ → List Act → List Event
events_of cookies [] = []
events_of cookies (act ∷ acts) = event_by cookies act ++ events_of (cookies_with cookies act) acts

unfoldable pub replies_of : List Act → List Reply
replies_of [] = []
replies_of (act ∷ acts) = reply_by act ++ replies_of acts
