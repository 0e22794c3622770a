-- Registers in hexadecimal digits.
use Rattle.std.specs.Prelude.{ℕ, List, Option}
use Rattle.std.specs.Result.{result_ok}
use Rattle.hex.specs.Hex.{decode_sized}

-- the bytes that so many pairs of digits write, in either case
unfoldable pub bytes_of : ℕ → List ℕ → Option (List ℕ)
bytes_of count digits = result_ok (decode_sized digits count)
