use Rattle.std.proofs.Common.{[], codes, subst, ◌++◌, ◌∷◌, ℕ}
use Rattle.text_out.specs.Hex.{hex_text}
use Rattle.text_out.specs.Writing.{Writes}
use Rattle.card_check.specs.Registers.{right_text}
use Rattle.card_check.proofs.registers.put_right.Goals as goal

pub returns : goal.returns
unfolding right_text
returns g c =
    subst (λ (right : ℕ). Writes (g.W.Write.contents c.args.out.now) (g.W.Write.contents c.put_pieces.new.out)
    c.put_pieces.result (codes ", but its check and end bit are " ++ (hex_text (right ∷ []) ++ (10 ∷ []))))
    c.right_check.ensures c.put_pieces.ensures
