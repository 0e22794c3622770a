use Rattle.std.proofs.Common.{◌<◌, length, get_or, sym, ap, ◌∙◌, arith}
use Rattle.std.specs.Prelude.{slice_set}
use Rattle.std.proofs.lemmas.List.Edits.{map_over_more}
use Rattle.std.proofs.lemmas.Grind.{get_or_default_zero}
use Rattle.card_decode.specs.Words.{printable}
use Rattle.card_decode.proofs.meaning.make_printable.Goals as goal

pub loop-byte-preserved : goal.loop-byte-preserved
loop-byte-preserved c =
    let i = c.loop-byte.byte-index in
    let text = c.loop-byte.text in
    let lt : i < length c.args.text.now = omega arith in
    let inside : i < length text = omega arith in
    ap (λ b. slice_set text i b) c.printable.ensures
    ∙ map_over_more printable c.args.text.now text i (get_or text i 0) lt c.loop-byte.invariant
    (sym (get_or_default_zero text i (get_or text i 0) inside))
