use Rattle.std.proofs.Common.{◌++◌, ◌≡◌, false, length}
use Rattle.card_text.specs.Parts.{left_parts}
use Rattle.card_text.specs.Script.{lines}
use Rattle.card_trace.specs.TraceText.{said_from}
use Rattle.card_trace.proofs.lines.put_lines.Given as goal

-- with what is said of the lines that are left it will be all
abbrev pub invariant-loop-rest : goal.invariant-loop-rest
invariant-loop-rest l =
    l.fn.out.items ++ said_from l.fn.form (record { card = l.fn.card; is_app = false }) (lines l.fn.text)
    ≡ l.out.items ++ said_from l.fn.form l.reading (left_parts 10 l.rest)

abbrev pub decreases-loop-rest : goal.decreases-loop-rest
decreases-loop-rest l = length (left_parts 10 l.rest)
