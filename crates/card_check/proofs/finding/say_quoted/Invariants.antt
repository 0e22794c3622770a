use Rattle.std.proofs.Common.{◌≡◌, ◌++◌, drop}
use Rattle.card_check.specs.Findings.{quoted_text}
use Rattle.card_check.proofs.finding.say_quoted.Given as goal

abbrev pub invariant-loop-byte : goal.invariant-loop-byte
invariant-loop-byte l =
    l.fn.line.items ++ quoted_text l.fn.bytes ≡ l.line.items ++ quoted_text (drop l.byte-index l.fn.bytes)
