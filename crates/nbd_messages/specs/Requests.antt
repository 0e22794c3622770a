-- What the header of a request says (NBD, "Request message").
use Rattle.std.specs.Prelude.{List, None, Option, Some, if◌then◌else◌, ◌==◌, ℕ}
use Rattle.nbd_messages.specs.Numbers.{number_at}
use Rattle.nbd_messages.specs.declared.command.Command.{Command}
use Rattle.nbd_messages.specs.declared.command.Command.TheVariants.{Disconnect, Flush, Read, Trim, Write, WriteZeroes}
use Rattle.nbd_messages.specs.declared.request.RequestHeader.{RequestHeader}

-- the command with this number
abbrev pub command_by : ℕ → Option Command
command_by number =
    if number == 0 then Some Read
    else (if number == 1 then Some Write
    else (if number == 2 then Some Disconnect
    else (if number == 3 then Some Flush
    else (if number == 4 then Some Trim else (if number == 6 then Some WriteZeroes else None)))))

-- the fields, each at its place
abbrev pub fields_in : List ℕ → RequestHeader
fields_in bytes =
    record {
      flags = number_at 4 2 bytes;
      command = command_by (number_at 6 2 bytes);
      cookie = number_at 8 8 bytes;
      offset = number_at 16 8 bytes;
      length = number_at 24 4 bytes;
    }

-- the header, where it begins with 25609513h
abbrev pub request_in : List ℕ → Option RequestHeader
request_in bytes = if number_at 0 4 bytes == 627086611 then Some (fields_in bytes) else None
