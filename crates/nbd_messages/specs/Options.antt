-- The bytes of the negotiation (NBD, "Fixed newstyle negotiation").
use Rattle.std.specs.Prelude.{Bool, List, None, Option, Some, false, if◌then◌else◌, true, ◌++◌, ◌+◌, ◌==◌, ℕ}
use Rattle.byteorder.specs.Endian.{big_bytes}
use Rattle.nbd_messages.specs.Numbers.{number_at}
use Rattle.nbd_messages.specs.declared.export.Abilities.{Abilities}
use Rattle.nbd_messages.specs.declared.greetings.ClientFlags.{ClientFlags}
use Rattle.nbd_messages.specs.declared.option.OptionHeader.{OptionHeader}
use Rattle.nbd_messages.specs.declared.option.OptionKind.{OptionKind}
use Rattle.nbd_messages.specs.declared.option.OptionKind.TheVariants.{Abort, ExportName, Go, Info, List as Names}
use Rattle.nbd_messages.specs.declared.option_replies.OptionReply.{OptionReply}
use Rattle.nbd_messages.specs.declared.option_replies.OptionReply.TheVariants as Says

-- `NBDMAGIC`, `IHAVEOPT`, and the flags of fixed newstyle and of no zeroes
abbrev pub greeting : List ℕ
greeting = (big_bytes 8 5639144782019643715 ++ big_bytes 8 5280542401877725268) ++ big_bytes 2 3

-- the client speaks fixed newstyle, and says whether it wants no zeroes
abbrev pub client_flags_in : List ℕ → Option ClientFlags
client_flags_in bytes =
    if number_at 0 4 bytes == 1 then Some (record { no_zeroes = false })
    else (if number_at 0 4 bytes == 3 then Some (record { no_zeroes = true }) else None)

-- the option with this number
abbrev pub option_by : ℕ → Option OptionKind
option_by number =
    if number == 1 then Some ExportName
    else (if number == 2 then Some Abort
    else (if number == 3 then Some Names
    else (if number == 6 then Some Info else (if number == 7 then Some Go else None))))

-- the header of an option, where it begins with `IHAVEOPT`
abbrev pub option_in : List ℕ → Option OptionHeader
option_in bytes =
    if number_at 0 8 bytes == 5280542401877725268
    then Some (record { number = number_at 8 4 bytes; length = number_at 12 4 bytes }) else None

abbrev pub reply_number : OptionReply → ℕ
reply_number Says.Acknowledged = 1
reply_number Says.Server = 2
reply_number Says.Info = 3
reply_number Says.Unsupported = 2147483649
reply_number Says.Invalid = 2147483651
reply_number Says.Unknown = 2147483654

-- 3e889045565a9h, the option, what the reply says, how many bytes follow
abbrev pub option_reply_header : ℕ → OptionReply → ℕ → List ℕ
option_reply_header option reply length =
    ((big_bytes 8 1100100111001001 ++ big_bytes 4 option) ++ big_bytes 4 (reply_number reply)) ++ big_bytes 4 length

-- this number, where it holds
abbrev pub flag : Bool → ℕ → ℕ
flag holds number = if holds then number else 0

-- HAS_FLAGS, SEND_FLUSH and SEND_FUA; READ_ONLY, SEND_TRIM and SEND_WRITE_ZEROES
abbrev pub flags_of : Abilities → ℕ
flags_of can = 1 + 4 + 8 + flag can.read_only 2 + flag can.trims 32 + flag can.zeroes 64

-- information 0: the size in bytes, and the flags
abbrev pub export_info : ℕ → ℕ → List ℕ
export_info size flags = (big_bytes 2 0 ++ big_bytes 8 size) ++ big_bytes 2 flags

-- information 3: the smallest block, the one that is liked best, the largest
abbrev pub block_size_info : List ℕ
block_size_info = ((big_bytes 2 3 ++ big_bytes 4 512) ++ big_bytes 4 512) ++ big_bytes 4 524288

-- the size in bytes, and the flags
abbrev pub export_answer : ℕ → ℕ → List ℕ
export_answer size flags = big_bytes 8 size ++ big_bytes 2 flags
