-- The bytes of simple replies (NBD, "Simple reply message").
use Rattle.std.specs.Prelude.{List, None, Option, Some, ◌++◌, ℕ}
use Rattle.byteorder.specs.Endian.{big_bytes}
use Rattle.nbd_messages.specs.declared.error.ReplyError.{ReplyError}
use Rattle.nbd_messages.specs.declared.error.ReplyError.TheVariants.{Failed, Invalid, NoMemory, NotPermitted, NotSupported}

-- EPERM, EIO, ENOMEM, EINVAL, ENOTSUP
abbrev pub error_number : ReplyError → ℕ
error_number NotPermitted = 1
error_number Failed = 5
error_number NoMemory = 12
error_number Invalid = 22
error_number NotSupported = 95

abbrev pub number_of : Option ReplyError → ℕ
number_of None = 0
number_of (Some error) = error_number error

-- 67446698h, the error, the cookie
abbrev pub reply_header : Option ReplyError → ℕ → List ℕ
reply_header error cookie = (big_bytes 4 1732535960 ++ big_bytes 4 (number_of error)) ++ big_bytes 8 cookie
