use Rattle.std.proofs.Common.{◌≡◌, ℕ, List, [], ◌∷◌, ◌++◌, append_assoc, subst}
use Rattle.std.specs.Prelude.{codes}
use Rattle.std.specs.Fmt.{decimal}
use Rattle.text_out.specs.Hex.{hex_text}
use Rattle.text_out.specs.Writing.{Writes}
use Rattle.card_maker.specs.FileLines.{ended}
use Rattle.card_maker.proofs.card_file.put_registers.Goals as goal

six_lines : (title n word k a l b m c o d p : List ℕ)
    → title ++ (32 ∷ (n ++ (32 ∷ (word ++ (10 ∷ (k ++ (a ++ (10 ∷ (l ++ (b ++ (10 ∷ (m ++ (c ++ (10 ∷ (o ++ (d ++ (10 ∷ (p ++ (n ++ 10 ∷ [])))))))))))))))))))
    ≡ ended (title ++ 32 ∷ (n ++ 32 ∷ word)) ++ (ended (k ++ a) ++ (ended (l ++ b) ++ (ended (m ++ c) ++ (ended (o ++ d)
    ++ (ended (p ++ n) ++ [])))))
six_lines title n word k a l b m c o d p = simp append_assoc

pub returns : goal.returns
returns g c =
    let spec = c.args.spec.now in
    subst (Writes _ _ _)
    (six_lines c.args.title.now (decimal spec.sectors) (codes "sectors") (codes "kind ") c.args.kind.now (codes "ocr ")
    (hex_text c.args.ocr.now) (codes "cid ") (hex_text spec.registers.cid) (codes "csd ") (hex_text spec.registers.csd)
    (codes "sectors "))
    c.put_pieces.ensures
