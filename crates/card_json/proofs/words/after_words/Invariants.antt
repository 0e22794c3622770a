use Rattle.std.proofs.Common.{drop, ◌≡◌}
use Rattle.card_text.specs.Parts.{left_parts, parts}
use Rattle.card_json.proofs.words.after_words.Given as goal

-- the words that are left
abbrev pub invariant-loop-word : goal.invariant-loop-word
invariant-loop-word l = left_parts 32 l.rest ≡ drop l._word (parts 32 l.fn.line)
