use Rattle.std.proofs.Common.{ap, drop, ◌∙◌}
use Rattle.card_text.specs.Parts.{parts}
use Rattle.std.proofs.lemmas.List.{drop-drop}
use Rattle.card_json.proofs.words.after_words.Goals as goal

pub loop-word-preserved : goal.loop-word-preserved
loop-word-preserved c =
    c.after_word-rest.ensures ∙ ap (drop 1) c.loop-word.invariant ∙ drop-drop 1 c.loop-word._word (parts 32 c.args.line.now)
