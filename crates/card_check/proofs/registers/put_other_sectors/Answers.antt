use Rattle.std.proofs.Common.{List, [], codes, subst, ◌++◌, ◌∷◌, ℕ}
use Rattle.std.specs.Fmt.{decimal}
use Rattle.text_out.specs.Writing.{Writes}
use Rattle.card_check.specs.Registers.{sectors_line}
use Rattle.card_check.proofs.registers.put_other_sectors.Goals as goal

pub returns : goal.returns
unfolding sectors_line
returns g c =
    subst (λ (teller : List ℕ). Writes (g.W.Write.contents c.args.out.now) (g.W.Write.contents c.put_pieces.new.out)
    c.put_pieces.result (codes "card: sectors is " ++ (decimal c.args.spec.now.sectors
    ++ (codes ", but " ++ (teller ++ (decimal c.args.sectors ++ (10 ∷ [])))))))
    c.teller_words-teller.ensures c.put_pieces.ensures
