-- What a client sends after the negotiation: one request after the other (NBD, "Request message").
use Rattle.std.specs.Prelude.{IfSome, List, None, Option, Some, ◌+◌, ◌++◌, ◌≡◌, ◌≤◌, length, take, ℕ}
use Rattle.std.specs.Io.Buffered.{reader_remaining}
use Rattle.std.specs.Io.KnownBytes.{Consumes}
use Rattle.std.specs.declared.io.buffered.BufReader.{BufReader}
use Rattle.nbd_messages.specs.Requests.{request_in}
use Rattle.nbd_messages.specs.declared.command.Command.{Command}
use Rattle.nbd_messages.specs.declared.command.Command.TheVariants.{Write}
use Rattle.nbd_messages.specs.declared.request.RequestHeader.{RequestHeader}

-- these bytes stood next in the input, and are read
abbrev pub Reads : {T A : Type 0} → (T → Option (List ℕ)) → BufReader T A → BufReader T A → List ℕ → Type 0
Reads remaining old new bytes = Consumes (reader_remaining remaining old) (reader_remaining remaining new) bytes

-- the next 28 bytes aren't the header of a request
abbrev pub IsJunk : Option (List ℕ) → Option (List ℕ) → Type 0
IsJunk old new = (head : List ℕ) × (length head ≡ 28) × (request_in head ≡ None) × Consumes old new head

-- how many bytes of data stand after the header of such a command
abbrev pub data_length : Option Command → ℕ → ℕ
data_length (Some Write) count = count
data_length command count = 0

-- these bytes begin with a whole request, or with none: to read it no more are waited for
abbrev pub HasWhole : List ℕ → Type 0
HasWhole bytes = (28 ≤ length bytes)
    × IfSome (request_in (take 28 bytes)) (λ header. data_length header.command header.length + 28 ≤ length bytes)

-- These bytes are a request: 28 of its header, and the data of a write.
pub record IsRequest (header : RequestHeader) (after bytes : List ℕ) : Type 0 where
  pub head : List ℕ
  pub fields : request_in head ≡ Some header
  pub short : length head ≡ 28
  pub whole : bytes ≡ head ++ after
  pub all_data : length after ≡ data_length header.command header.length
