use Rattle.std.proofs.Common.{◌≡◌, ◌-◌, ℕ, List, ◌++◌}
use Rattle.std.specs.Int.{bytes_high_first}
use Rattle.std.specs.Io.KnownBytes.{Appends}
use Rattle.mmc_frame.specs.Field.{field}
use Rattle.text_out.specs.Hex.{hex_text}
use Rattle.card_decode.specs.Registers.{number_of}
use Rattle.card_decode.proofs.line.put_digits.Given as goal

abbrev pub invariant-loop-written : goal.invariant-loop-written
invariant-loop-written g l = (front : List ℕ)
    × (hex_text (bytes_high_first l.count (field l.high l.low (number_of l.register l.bytes)))
    ≡ front ++ hex_text (bytes_high_first (l.count - l.written) (field l.high l.low (number_of l.register l.bytes))))
    × Appends (g.W.Write.contents l.fn.out) (g.W.Write.contents l.out) front
