use Rattle.std.proofs.Common.{◌-◌, ◌∙◌, ap, subst, take, drop}
use Rattle.text_out.specs.Writing.{Writes}
use Rattle.std.specs.Prelude.{map}
use Rattle.card_decode.specs.Words.{characters_text, printable, said}
use Rattle.card_decode.proofs.WordLemmas.{characters_are}
use Rattle.card_decode.proofs.meaning.put_characters.Goals as goal

pub returns : goal.returns
unfolding characters_text
returns g c =
    let count = c.args.count in
    subst (λ t. Writes (g.W.Write.contents c.args.out.now) (g.W.Write.contents c.put_said.new.out) c.put_said.result (said t))
    (ap (λ t. take (8 - (8 - count)) (drop (8 - count) t))
    (c.make_printable.ensures ∙ ap (map printable) c.to_be_bytes-text.ensures)
    ∙ characters_are count c.args.value c.requires) c.put_said.ensures
