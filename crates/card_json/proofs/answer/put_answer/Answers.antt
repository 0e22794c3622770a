use Rattle.std.proofs.Common.{sym, ◌∙◌}
use Rattle.card_json.proofs.answer.put_answer.Goals as goal

pub returns-then-is_word-3 : goal.returns-then-is_word-3
returns-then-is_word-3 c =
    let first = sym c.is_word.ensures ∙ c.if-is_word.false in
    let second = sym c.is_word-else-is_word.ensures ∙ c.if-is_word-2.false in
    let third = sym c.is_word-else-is_word-2.ensures ∙ c.if-is_word-3.true in
    rw (first, second, third) c.put_given.ensures
