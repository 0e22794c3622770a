use Rattle.std.proofs.Common.{ap, sym, ◌∙◌}
use Rattle.card_text.specs.Parts.{left_parts, parts}
use Rattle.card_json.proofs.WordLemmas.{word_missing, word_there}
use Rattle.card_json.proofs.words.word.Goals as goal

pub returns-in-Some : goal.returns-in-Some
returns-in-Some c = word_there (parts 32 c.args.line.now) _ c.args.n _ (sym c.after_words.ensures ∙ ap (left_parts 32) c.in-Some.is ∙ c.cut.ensures)

pub returns-in-None : goal.returns-in-None
returns-in-None c = word_missing (parts 32 c.args.line.now) c.args.n (sym c.after_words.ensures ∙ ap (left_parts 32) c.in-None.is)
