use Rattle.std.proofs.Common.{◌≡◌, ◌≤◌, length}
use Rattle.card_text.specs.Parts.{left_parts}
use Rattle.card_text.specs.Data.{data_of}
use Rattle.card_text.proofs.DataLemmas.{after}
use Rattle.card_text.proofs.data.data.Given as goal

abbrev pub invariant-loop-rest : goal.invariant-loop-rest
invariant-loop-rest l = record {
  short : length l.bytes.items ≤ 1048576;
  same : after l.bytes.items (left_parts 44 l.rest) ≡ data_of l.fn.text;
}

abbrev pub decreases-loop-rest : goal.decreases-loop-rest
decreases-loop-rest l = length (left_parts 44 l.rest)
