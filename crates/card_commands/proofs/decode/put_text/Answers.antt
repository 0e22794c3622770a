use Rattle.std.proofs.Common.{List, subst, ◌∙◌, ℕ}
use Rattle.std.specs.Io.KnownBytes.{Appends}
use Rattle.card_commands.specs.Printed.PrintsDecoded.{its_lines}
use Rattle.card_trace.specs.declared.lines.Form.TheVariants.{Objects, Words}
use Rattle.card_commands.proofs.decode.put_text.Goals as goal

pub returns-in_ok-put-in-Words-clause-printed : goal.returns-in_ok-put-in-Words-clause-printed
returns-in_ok-put-in-Words-clause-printed g c = its_lines Words c.args.text.now c.requires c.in_ok-put-in-Words.ensures

pub returns-in_ok-put-in-Objects-clause-printed : goal.returns-in_ok-put-in-Objects-clause-printed
returns-in_ok-put-in-Objects-clause-printed g c =
    its_lines Objects c.args.text.now c.requires
    (subst (λ (text : List ℕ). Appends (g.W.Write.contents c.args.out.now) (g.W.Write.contents c.put-in-Objects.new.out) text)
    (rw c.new-objects.ensures.items at (c.as_slice.ensures.value ∙ c.in_ok-put_fields-in-Objects.ensures))
    c.in_ok-put-in-Objects.ensures)
