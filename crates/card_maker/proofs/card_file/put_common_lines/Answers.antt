use Rattle.std.proofs.Common.{◌≡◌, ℕ, List, ap, ◌∙◌, subst}
use Rattle.text_out.specs.Writing.{Writes}
use Rattle.mmc_card_sim.specs.declared.spec.CardSpec.{CardSpec}
use Rattle.card_maker.specs.CardText.{kind_title, kind_word, register_lines}
use Rattle.card_maker.specs.FileLines.{ended_lines}
use Rattle.card_maker.proofs.card_file.put_common_lines.Goals as goal

same_lines : (title title' kind kind' ocr ocr' : List ℕ) (spec : CardSpec) → title ≡ title' → kind ≡ kind' → ocr ≡ ocr'
    → ended_lines (register_lines title kind ocr spec) ≡ ended_lines (register_lines title' kind' ocr' spec)
same_lines title title' kind kind' ocr ocr' spec e f g = cc

pub returns : goal.returns
returns g c =
    subst (Writes _ _ _)
    (same_lines _ _ _ _ _ _ c.args.spec.now (c.kind_title.ensures ∙ ap kind_title c.kind-kind.ensures)
    (c.kind_word.ensures ∙ ap kind_word c.kind-kind.ensures) c.to_be_bytes-ocr.ensures)
    c.put_registers.ensures
