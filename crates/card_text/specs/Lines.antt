-- What a line of a script says.
use Rattle.std.specs.Prelude.{ℕ, ◌^◌, List, [], ◌∷◌, Option, None, Some, nat_lt, if◌then◌else◌, option_and_then, codes}
use Rattle.std.specs.Str.{bytes_eq}
use Rattle.mmc_card.specs.declared.part.Part.{Part}
use Rattle.mmc_card.specs.declared.part.Part.TheVariants.{User, Boot1, Boot2, Gp1, Gp2, Gp3, Gp4}
use Rattle.mmc_queue.specs.declared.request.Request.{Request}
use Rattle.mmc_queue.specs.declared.request.Request.TheVariants.{Erase, Read, Trim, Write}
use Rattle.card_text.specs.declared.event.ScriptEvent.{ScriptEvent}
use Rattle.card_text.specs.declared.event.ScriptEvent.TheVariants.{Submit, Cancel, Turn, Run}
use Rattle.card_text.specs.Numbers.{number_of}
use Rattle.card_text.specs.Data.{data_of}

-- the partition of a name
unfoldable pub part_of : List ℕ → Option Part
part_of t =
    if bytes_eq t (codes "user") then Some User
    else (if bytes_eq t (codes "boot1") then Some Boot1
    else (if bytes_eq t (codes "boot2") then Some Boot2
    else (if bytes_eq t (codes "gp1") then Some Gp1
    else (if bytes_eq t (codes "gp2") then Some Gp2
    else (if bytes_eq t (codes "gp3") then Some Gp3
    else (if bytes_eq t (codes "gp4") then Some Gp4 else None))))))

-- a client's number, below 2^32
unfoldable pub client_of : List ℕ → Option ℕ
client_of t = option_and_then (λ n. if nat_lt n (2 ^ 32) then Some n else None) (number_of t)

-- the request of a verb that gives no bytes
abbrev pub request_of : List ℕ → Option Part → Option ℕ → Option ℕ → Option Request
request_of verb (Some p) (Some s) (Some n) =
    if bytes_eq verb (codes "read") then Some (Read p s n)
    else (if bytes_eq verb (codes "erase") then Some (Erase p s n)
    else (if bytes_eq verb (codes "trim") then Some (Trim p s n) else None))
request_of verb _ _ _ = None

-- the request of a write
abbrev pub write_of : Option Part → Option ℕ → Option ℕ → Option (List ℕ) → Option Request
write_of (Some p) (Some s) (Some n) (Some bytes) = Some (Write p s n bytes)
write_of _ _ _ _ = None

-- the submission of a request
abbrev pub submission_of : Option ℕ → Option Request → Option ScriptEvent
submission_of (Some c) (Some r) = Some (Submit c r)
submission_of _ _ = None

-- the cancellation of a ticket
abbrev pub cancellation_of : Option ℕ → Option ScriptEvent
cancellation_of (Some ticket) = Some (Cancel ticket)
cancellation_of None = None

-- what the fields of a line say, and nothing where they are not of the grammar
unfoldable pub event_of : List (List ℕ) → Option ScriptEvent
event_of (word ∷ []) =
    if bytes_eq word (codes "turn") then Some Turn
    else (if bytes_eq word (codes "run") then Some Run else None)
event_of (word ∷ ticket ∷ []) =
    if bytes_eq word (codes "cancel") then cancellation_of (number_of ticket) else None
event_of (client ∷ verb ∷ part ∷ start ∷ count ∷ []) =
    submission_of (client_of client) (request_of verb (part_of part) (number_of start) (number_of count))
event_of (client ∷ verb ∷ part ∷ start ∷ count ∷ bytes ∷ []) =
    if bytes_eq verb (codes "write")
    then submission_of (client_of client) (write_of (part_of part) (number_of start) (number_of count) (data_of bytes))
    else None
event_of _ = None
