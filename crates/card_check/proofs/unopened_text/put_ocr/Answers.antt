use Rattle.std.proofs.Common.{List, ap, append-nil, codes, subst, ◌++◌, ◌∙◌, ℕ}
use Rattle.text_out.specs.Hex.{hex_text}
use Rattle.text_out.specs.Writing.{Writes}
use Rattle.card_check.proofs.unopened_text.put_ocr.Goals as goal

pub returns : goal.returns
returns g c =
    subst (λ (text : List ℕ). Writes (g.W.Write.contents c.args.out.now) (g.W.Write.contents c.put_pieces.new.out)
    c.put_pieces.result (codes "OCR " ++ text))
    (append-nil (hex_text c.to_be_bytes-bytes.result) ∙ ap hex_text c.to_be_bytes-bytes.ensures) c.put_pieces.ensures
