use Rattle.std.proofs.Common.{◌≡◌, ℕ, List, [], ◌∷◌, ◌++◌, append_assoc, subst}
use Rattle.std.specs.Prelude.{codes}
use Rattle.text_out.specs.Hex.{hex_text}
use Rattle.text_out.specs.Writing.{Writes}
use Rattle.card_maker.specs.FileLines.{ended}
use Rattle.card_maker.proofs.card_file.put_sd_parts.Goals as goal

three_lines : (k l m a b c : List ℕ)
    → k ++ (a ++ (10 ∷ (l ++ (b ++ (10 ∷ (m ++ (c ++ 10 ∷ [])))))))
    ≡ ended (k ++ a) ++ (ended (l ++ b) ++ (ended (m ++ c) ++ []))
three_lines k l m a b c = simp append_assoc

pub returns : goal.returns
returns g c =
    subst (Writes _ _ _)
    (three_lines (codes "scr ") (codes "cmd8 ") (codes "highspeed ") (hex_text c.args.scr.now) c.args.cmd8.now
    c.args.high_speed.now)
    c.put_pieces.ensures
