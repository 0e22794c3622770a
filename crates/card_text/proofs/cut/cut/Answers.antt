use Rattle.std.proofs.Common.{◌+◌, sym}
use Rattle.std.proofs.lemmas.List.{take_rest}
use Rattle.card_text.specs.Parts.{parts}
use Rattle.card_text.proofs.PartLemmas.{cut_found, cut_none}
use Rattle.card_text.proofs.cut.cut.Goals as goal

pub returns-in-Some : goal.returns-in-Some
unfolding parts
returns-in-Some c =
    rw (take_rest c.args.text.now (c.in-Some.place + 1))
    (cut_found _ c.args.text.now c.in-Some.place (sym c.in-Some.ensures))

pub returns-in-None : goal.returns-in-None
unfolding parts
returns-in-None c = cut_none _ c.args.text.now (sym c.in-None.ensures)
